-- What is known of a record where the call that returned it was not refused.
use mathlib.Core.Path.{◌≡◌, refl, sym, ◌∙◌, ap}
use mathlib.Core.Logic.{inl, inr}
use mathlib.Core.Bool.{Bool, true, false, true≢false}
use mathlib.Core.List.{List, [], ◌∷◌}
use Prim.Native.Nat.{ℕ, zero, suc, ◌≤◌}
use lib.ListN.{length}
use borrow.Author.Tests.{not-false}
use denote.Enum.Declared.{tag_of}
use types.Run.{OneOf, miss}
use Rattle.model.specs.declared.Answer.{Answer}
use Rattle.model.specs.declared.Answer.TheVariants.{Refused, Accepted, Marked, NothingToCancel, Moved, Idle, Held, Wants, Asleep}
use Rattle.model.specs.declared.Record.{Record}
use Rattle.model.specs.Answers.{Said, Reply, accepted, refused, replied, said}
use Rattle.model.specs.Refusals.{unless}
use Rattle.model.specs.RecordBytes.{record_length, lawful}
use Rattle.model.specs.Decoding.{front, record_of, unreadable, decode_refusal, decode_answer, decode, DecodePromise}
use Rattle.model.specs.contracts.Answer.{the_type}
use Rattle.laws.proofs.Rows.{none-holds}
use Rattle.laws.proofs.Schedule.{front-kind, lawful-long}

-- the cases of an answer, by their numbers, but for the refusal, which is 0
abbrev pub others : List ℕ
others = 1 ∷ 2 ∷ 3 ∷ 4 ∷ 5 ∷ 6 ∷ 7 ∷ 8 ∷ []

-- the answer is of another case than the refusal
abbrev pub Accepts : Answer → Type 0
Accepts a = OneOf others (tag_of the_type a)

-- an answer that is no refusal is
pub accepts-other : (a : Answer) → ((g : ℕ) → a ≡ Refused g → ⊥) → Accepts a
accepts-other (Refused g) other = absurd (other g refl)
accepts-other Accepted other = inl refl
accepts-other Marked other = inr (inl refl)
accepts-other NothingToCancel other = inr (inr (inl refl))
accepts-other Moved other = inr (inr (inr (inl refl)))
accepts-other Idle other = inr (inr (inr (inr (inl refl))))
accepts-other Held other = inr (inr (inr (inr (inr (inl refl)))))
accepts-other Wants other = inr (inr (inr (inr (inr (inr (inl refl))))))
accepts-other Asleep other = inr (inr (inr (inr (inr (inr (inr refl))))))

-- what is said is a refusal
abbrev refuses : Said → Bool
refuses (refused g) = true
refuses (replied r) = false

-- an answer of another case says none
accepts-says : (a : Answer) → Accepts a → refuses (said a) ≡ false
accepts-says (Refused g) other = absurd (miss others 0 tt other)
accepts-says Accepted other = refl
accepts-says Marked other = refl
accepts-says NothingToCancel other = refl
accepts-says Moved other = refl
accepts-says Idle other = refl
accepts-says Held other = refl
accepts-says Wants other = refl
accepts-says Asleep other = refl

-- so the call had no ground to refuse
pub no_ground : (a : Answer) (g : ℕ) (r : Reply) → said a ≡ unless g refused (replied r) → Accepts a → g ≡ 0
unfolding unless
no_ground a zero r says other = refl
no_ground a (suc g) r says other = absurd (true≢false (sym (ap refuses says) ∙ accepts-says a other))

-- a record that was read has all its bytes
pub record_whole : (first : Bool) (bytes : List ℕ) (a : Answer) (item : Record) → DecodePromise first bytes a item → Accepts a → record_length item.kind ≤ length bytes
unfolding decode_answer decode decode_refusal unreadable record_of unless
record_whole first bytes a item promise other =
    let none : decode_refusal first bytes ≡ 0 = no_ground a (decode_refusal first bytes) accepted promise.answers other in
    let lawfully : lawful first (front bytes) ≡ true = not-false _ (none-holds (unreadable first bytes ∷ []) refl none).0 in
    rw (promise.reads, none, front-kind bytes) (lawful-long bytes first lawfully)
