-- The clauses on one thread by itself, grouped by what changes together.
use mathlib.Core.Path.{◌≡◌}
use mathlib.Core.Bool.{true}
use Prim.Native.Nat.{ℕ}
use lib.ListN.{length}
use Rattle.model.specs.declared.Thread.{Thread}
use Rattle.model.specs.Phases.{is_one_of}
use Rattle.model.specs.WellFormed.{in_phase, numbers_in_range, ipc_with_running, bare_unless_done, not_with_itself, send_and_mark_with_ipc, poll_with_send, receiving_with_part, ipc_without_send, idle_without_flags, release_has_target, receivers_send_clear, senders_send_set}
use Rattle.model.proofs.Laws.{◌and◌, all_of-read, all_of-made}
use Rattle.formed.specs.Groups.{flags_fit, outcome_fits, operation_fits, phase_fits, queue_fits}
use Rattle.formed.proofs.Flags.{FlagsFit}

-- thread x, which is h, is well-formed by itself
pub record Own (n x : ℕ) (h : Thread) : Type 0 where
  pub flags : FlagsFit h
  pub outcome : outcome_fits n h.flags.ipc h.outcome ≡ true
  pub operation : operation_fits n x h.flags.ipc h.op h.left ≡ true
  pub phase : phase_fits n x h.phase h.op.send h.copied h.waking ≡ true
  pub queue : queue_fits n h.queue h.owner ≡ true
  pub items : length h.queue.items ≡ 32

-- the clauses of `WellFormed` on one thread by itself
pub record OwnClauses (n x : ℕ) (h : Thread) : Type 0 where
  pub numbers : numbers_in_range n h ≡ true
  pub ipc_exactly : ipc_with_running h ≡ true
  pub bare_outcome : bare_unless_done h ≡ true
  pub with_others : not_with_itself x h ≡ true
  pub send_and_mark : send_and_mark_with_ipc h ≡ true
  pub poll : poll_with_send h ≡ true
  pub receiving : receiving_with_part h ≡ true
  pub without_send : ipc_without_send h ≡ true
  pub idle_flags : idle_without_flags h ≡ true
  pub release_target : release_has_target n h ≡ true
  pub send_clear : receivers_send_clear h ≡ true
  pub send_set : senders_send_set h ≡ true
  pub items : length h.queue.items ≡ 32

-- opens the clauses on one thread and their groups
unfoldable opened : ℕ
unfolding numbers_in_range ipc_with_running bare_unless_done not_with_itself send_and_mark_with_ipc poll_with_send receiving_with_part ipc_without_send idle_without_flags release_has_target receivers_send_clear senders_send_set in_phase is_one_of flags_fit outcome_fits operation_fits phase_fits queue_fits
opened = 0

-- the clauses of `WellFormed` on one thread give the groups
pub own_grouped : (n x : ℕ) (h : Thread) → OwnClauses n x h → Own n x h
unfolding opened
own_grouped n x h c =
    let (phase, (sendRange, (receiveRange, (send_part, (release_part, (left, (queued, more))))))) = all_of-read _ c.numbers in
    let (owner, (code, (source, (count, (copied, (waking, end)))))) = more in
    let (target, (freed, (partner, end))) = all_of-read _ c.with_others in
    record {
      flags = all_of-made _ (phase and c.send_and_mark and c.poll and c.receiving and c.without_send and c.idle_flags and c.send_clear and c.send_set and send_part and release_part and tt);
      outcome = all_of-made _ (code and source and count and c.ipc_exactly and c.bare_outcome and tt);
      operation = all_of-made _ (sendRange and receiveRange and left and target and partner and tt);
      phase = all_of-made _ (c.release_target and freed and copied and waking and tt);
      queue = all_of-made _ (queued and owner and tt);
      items = c.items;
    }

-- the groups give the clauses
pub own_ungrouped : (n x : ℕ) (h : Thread) → Own n x h → OwnClauses n x h
unfolding opened
own_ungrouped n x h w =
    let (phase, (send_and_mark, (poll, (receiving, (without_send, (idle_flags, (send_clear, (send_set, (send_part, (release_part, end)))))))))) = all_of-read _ w.flags in
    let (code, (source, (count, (ipc_exactly, (bare_outcome, end))))) = all_of-read _ w.outcome in
    let (sendRange, (receiveRange, (left, (target, (partner, end))))) = all_of-read _ w.operation in
    let (release_target, (freed, (copied, (waking, end)))) = all_of-read _ w.phase in
    let (queued, (owner, end)) = all_of-read _ w.queue in
    record {
      numbers = all_of-made _ (phase and sendRange and receiveRange and send_part and release_part and left and queued and owner and code and source and count and copied and waking and tt);
      ipc_exactly = ipc_exactly;
      bare_outcome = bare_outcome;
      with_others = all_of-made _ (target and freed and partner and tt);
      send_and_mark = send_and_mark;
      poll = poll;
      receiving = receiving;
      without_send = without_send;
      idle_flags = idle_flags;
      release_target = release_target;
      send_clear = send_clear;
      send_set = send_set;
      items = w.items;
    }
