-- What a step on two threads relies on, and what it leaves in the receiver's words.
use Rattle.std.specs.Prelude.{◌≡◌, true, false, cond, List, ℕ, ◌≤◌, get_or, set, eqb, ltb, Option, Some, None}
use Rattle.std.proofs.Math.Option as maybe
use Rattle.model.specs.declared.Thread.{Thread}
use Rattle.model.specs.Codes.{nobody}
use Rattle.model.specs.Operations.{word_limit}
use Rattle.model.specs.Phases.{Phase, idle, lock, check, copy, release, sleep, look, wake, unlock, unknown, phase_of, phase_number}
use Rattle.model.specs.Queues.{find_sender}
use Rattle.queues.specs.Options.{as_option}

-- the one other thread that a step in a phase reads or changes, if there is one: the target, the sender that look finds, or the sender being woken
abbrev pub partner_in : Phase → Thread → Option ℕ
partner_in idle h = None
partner_in lock h = Some h.op.send.target
partner_in check h = Some h.op.send.target
partner_in copy h = Some h.op.send.target
partner_in release h = Some h.op.send.target
partner_in sleep h = None
partner_in look h = as_option (find_sender h)
partner_in wake h = Some h.waking
partner_in unlock h = Some h.waking
partner_in unknown h = None

-- the same by the thread's own phase
unfoldable pub partner : Thread → Option ℕ
partner h = partner_in (phase_of h.phase) h

-- thread h, in look, runs and is not marked, and the search has found o
pub record LooksOn (h : Thread) (o : maybe.Option ℕ) : Type 0 where
  pub runs : h.flags.ipc ≡ true
  pub unmarked : h.flags.mark ≡ false
  pub found : find_sender h ≡ o

-- thread h can step with the thread o for its other one, if it has one, as a well-formed table lets it
pub record Fit (o : Option ℕ) (h : Thread) : Type 0 where
  pub counts : phase_of h.phase ≡ copy → h.op.send.count ≤ word_limit
  pub finds : phase_of h.phase ≡ look → o ≡ as_option (find_sender h)

-- what the search has found, where a number is that of the first acceptable sender or nobody's
unfoldable pub found_as : ℕ → maybe.Option ℕ
found_as o = cond (eqb o nobody) maybe.none (maybe.some o)

-- the same of thread h and the number of the other thread: nobody's is that of no thread
pub record FitAs (o : ℕ) (h : Thread) : Type 0 where
  pub counts : phase_of h.phase ≡ copy → h.op.send.count ≤ word_limit
  pub finds : phase_of h.phase ≡ look → find_sender h ≡ found_as o

-- the receiver's eight words after a step in copy: the next word, if one remains
unfoldable pub word_added : Thread → List ℕ → List ℕ
word_added h words = cond (ltb h.copied h.op.send.count) (set words h.copied (get_or h.op.send.words h.copied 0)) words

-- the other thread's eight words after a step in any phase
unfoldable pub words_after : Thread → List ℕ → List ℕ
words_after h words = cond (eqb h.phase (phase_number copy)) (word_added h words) words
