use Rattle.std.proofs.Common.{ℕ, refl, ap, ◌∙◌}
use Rattle.model.specs.Times.{tick_count}
use Rattle.model.specs.Step.{own_after, other_after}
use Rattle.model.specs.Phases.{release}
use Rattle.model.specs.Threads.{entering, with_left, sent}
use Rattle.endings.proofs.finish_call.Goals as goal

pub returns : goal.returns
unfolding own_after other_after
returns c = record {
  own = ap (λ (k : ℕ). entering release (with_left k (sent c.args.own))) (c.tick_count.ensures ∙ ap tick_count c.receive_time.ensures);
  other = c.complete_receive-theirs.ensures c.args.own refl;
}
