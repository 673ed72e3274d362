-- What the search call promises of its answer, by the code's tests.
use Rattle.std.proofs.Common.{◌≡◌, refl, sym, ap, ◌∙◌, true, false, ℕ, ◌≤◌, ◌<◌, Option, None, Some, Result, Ok, Err, arith}
use mathlib.Core.Option.{get_or}
use borrow.Author.Tests.{leb-true}
use Rattle.model.specs.declared.Table.{Table}
use Rattle.model.specs.Answers.{SaidSearch, not_receiving, searched}
use Rattle.model.specs.Codes.{nobody}
use Rattle.model.specs.Threads.{at}
use Rattle.model.specs.Queues.{find_sender, places_read}
use Rattle.model.specs.WellFormed.{numbers_in_range, well_formed}
use Rattle.model.specs.Refusals.{unless, search_refusal}
use Rattle.model.specs.Promise.{search_answer}
use Rattle.model.proofs.Laws.{all_of-read}
use Rattle.model.proofs.Tested.{well_formed-told}
use Rattle.laws.proofs.Lists.{cond-true, cond-false, zero_or_not}
use Rattle.searches.specs.declared.Found.{Found}
use Rattle.searches.specs.Said.{said_search}
use Rattle.refusals.specs.declared.Refusal.{Refusal}
use Rattle.refusals.specs.Numbers.{number}
use Rattle.refusals.proofs.Laws.{refusal-numbered}

module _ (t : Table) (x : ℕ) where
  -- refused, it answers the number
  pub search-refused : (r : Refusal) (g : ℕ) → g ≡ number r → number r ≡ search_refusal t x → SaidSearch.refused g ≡ search_answer t x
  unfolding search_answer unless
  search-refused r g is e = zero_or_not (number r) (λ z. absurd (omega (arith, refusal-numbered r))) (λ k n. rw (sym e, is, n) refl)

  module _ (z : 0 ≡ search_refusal t x) where
    -- a thread that is not receiving does not search
    pub search-none : (at t x).flags.receiving ≡ false → not_receiving ≡ search_answer t x
    unfolding search_answer unless
    search-none clear = rw (sym z) (sym (cond-false _ _ _ clear))

    -- one that is finds a sender, or nobody, and has read so many places
    pub search-found : (at t x).flags.receiving ≡ true → (sender read : ℕ) → sender ≡ get_or (find_sender (at t x)) nobody → read ≡ places_read (at t x) → searched sender read ≡ search_answer t x
    unfolding search_answer unless
    search-found set sender read finds reads = rw (sym z, finds, reads) (sym (cond-true _ _ _ set))

-- the queue of a thread of a well-formed table is in its array
pub queue-fits : (t : Table) (x : ℕ) → well_formed t ≡ true → x < t.n → (at t x).queue.len ≤ 32
unfolding numbers_in_range
queue-fits t x formed below =
    let (phase, (send, (receive, (sends, (release, (left, (queue, more))))))) = all_of-read _ ((well_formed-told t formed).numbers x below) in
    leb-true (at t x).queue.len 32 queue

-- ---- the answer is settled by what it stands for
abbrev answering : SaidSearch → Result (Option Found) ℕ
answering (SaidSearch.refused number) = Err number
answering not_receiving = Ok None
answering (searched sender read) = Ok (Some (record { sender = sender; read = read }))

answering-said : (a : Result (Option Found) ℕ) → answering (said_search a) ≡ a
answering-said (Err number) = refl
answering-said (Ok None) = refl
answering-said (Ok (Some found)) = refl

-- two answers that stand for the same are the same
pub search-settles : (a b : Result (Option Found) ℕ) → said_search a ≡ said_search b → a ≡ b
search-settles a b e = sym (answering-said a) ∙ ap answering e ∙ answering-said b
