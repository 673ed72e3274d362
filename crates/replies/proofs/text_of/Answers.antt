use Rattle.std.proofs.Common.{sym, arith}
use Rattle.model.specs.Lists.{up_to}
use Rattle.model.specs.Bondtrace.{ascii}
use Rattle.language.specs.Commands.{reasons, reason_text}
use Rattle.replies.proofs.Said.{no-text}
use Rattle.replies.proofs.text_of.Goals as goal

pub returns-in-0 : goal.returns-in-0
unfolding reason_text reasons ascii up_to
returns-in-0 c = rw c.in-0.is

pub returns-in-1 : goal.returns-in-1
unfolding reason_text reasons ascii up_to
returns-in-1 c = rw c.in-1.is

pub returns-in-2 : goal.returns-in-2
unfolding reason_text reasons ascii up_to
returns-in-2 c = rw c.in-2.is

pub returns-in-3 : goal.returns-in-3
unfolding reason_text reasons ascii up_to
returns-in-3 c = rw c.in-3.is

pub returns-in-4 : goal.returns-in-4
unfolding reason_text reasons ascii up_to
returns-in-4 c = rw c.in-4.is

pub returns-in-5 : goal.returns-in-5
unfolding reason_text reasons ascii up_to
returns-in-5 c = rw c.in-5.is

pub returns-in-6 : goal.returns-in-6
unfolding reason_text reasons ascii up_to
returns-in-6 c = rw c.in-6.is

pub returns-in-7 : goal.returns-in-7
unfolding reason_text reasons ascii up_to
returns-in-7 c = rw c.in-7.is

pub returns-in-8 : goal.returns-in-8
unfolding reason_text reasons ascii up_to
returns-in-8 c = rw c.in-8.is

pub returns-in-9 : goal.returns-in-9
unfolding reason_text reasons ascii up_to
returns-in-9 c = rw c.in-9.is

pub returns-in-10 : goal.returns-in-10
unfolding reason_text reasons ascii up_to
returns-in-10 c = rw c.in-10.is

pub returns-in-11 : goal.returns-in-11
unfolding reason_text reasons ascii up_to
returns-in-11 c = rw c.in-11.is

pub returns-in-12 : goal.returns-in-12
unfolding reason_text reasons ascii up_to
returns-in-12 c = rw c.in-12.is

pub returns-in-13 : goal.returns-in-13
unfolding reason_text reasons ascii up_to
returns-in-13 c = rw c.in-13.is

pub returns-in-14 : goal.returns-in-14
unfolding reason_text reasons ascii up_to
returns-in-14 c = rw c.in-14.is

pub returns-in_default : goal.returns-in_default
returns-in_default c = sym (no-text c.args.reason (omega arith))
