use Rattle.endings.proofs.end_both.Goals as goal

pub returns-in-ReceiveCancelled : goal.returns-in-ReceiveCancelled
returns-in-ReceiveCancelled c = rw c.in-ReceiveCancelled.is (c.abort_receive.ensures c.args.x)

pub returns-in-ReceiveTimeOver : goal.returns-in-ReceiveTimeOver
returns-in-ReceiveTimeOver c = rw c.in-ReceiveTimeOver.is (c.abort_receive-in-ReceiveTimeOver.ensures c.args.x)
