use mathlib.Core.Path.{◌≡◌, refl, ap, ◌∙◌}
use mathlib.Core.List.{◌∷◌, ◌++◌}
use Prim.Native.Nat.{ℕ}
use native.Mathlib.Omega.{arith}
use lib.ListN.{length, replicate}
use borrow.Author.Rules.{rules}
use Rattle.model.specs.declared.Record.{Record}
use Rattle.model.specs.Operations.{receive_time}
use Rattle.model.specs.Encoding.{partner_of, word_bytes, parts_of}
use Rattle.laws.proofs.Schedule.{words-length}
use Rattle.writing.specs.Spelled.{up_to_set, spelled}
use Rattle.writing.proofs.Words.{bytes_of, set-put}
use Rattle.writing.proofs.spell.Statement.{statement}
use Rattle.writing.proofs.spell.Tie as tie

-- the bytes up to the set, by the results of what was called for three of them
fields-spelled : (r : Record) (parts partner time : ℕ) → parts ≡ parts_of r.op → partner ≡ partner_of r.op.receive → time ≡ receive_time r.op.receive
    → 0x4C ∷ 0x34 ∷ r.kind ∷ r.thread ∷ parts ∷ r.op.send.target ∷ partner ∷ r.op.send.count ∷ r.op.send.time ∷ time ∷ bytes_of r.op.send.words ++ replicate 4 0 ≡ up_to_set r ++ replicate 4 0
fields-spelled r parts partner time e f g = rw (e, f, g) refl

-- ---- the places of the code from which the need below speaks; each leads back to the one before
-- at the entry there are eight words, so up to its set the record has 42 bytes
set-place : (s : tie.Start) → length (up_to_set s.args.item) ≡ 42
set-place s = let eight : length s.args.item.op.send.words ≡ 8 = search rules in omega (arith, words-length s.args.item.op.send.words)

-- all fields are put before the words
abbrev Fields : Type 0
Fields = tie.After-receive_time

abbrev entry : Fields → tie.Start
entry f = f.before.before.before.before.before.before.before

-- the words are put
abbrev Words : Type 0
Words = tie.After-put_words

abbrev fields : Words → Fields
fields w = w.before.before

-- ---- the need
returns : tie.Need-returns
unfolding spelled
returns c =
    let w : Words = c.before.before.before.before in
    let f : Fields = fields w in
    c.before.put_word.ensures
    ∙ set-put (up_to_set (entry f).args.item) _ _ (set-place (entry f)) (w.put_words.ensures ∙ fields-spelled (entry f).args.item _ _ _ f.before.before.parts_of.ensures f.before.partner_of.ensures f.receive_time.ensures)
    ∙ ap (λ (set : ℕ). up_to_set (entry f).args.item ++ word_bytes set) f.before.before.before.set_of-set.ensures

pub spell_spec : {M : Type 1} → statement M
spell_spec =
    tie.close
    (tie.spec
    (λ c κs. search rules)
    (λ c. search rules)
    (λ c. search rules)
    (λ c. search rules)
    (λ c. search rules)
    (λ c κs. search rules)
    (λ c. search rules)
    (λ c. search rules)
    (λ c κs. search rules)
    (λ c. search rules)
    (λ c. search rules)
    (λ c. search rules)
    (λ c κs. search rules)
    (λ c. search rules)
    (λ c. search rules)
    (λ c κs. search rules)
    (λ c. search rules)
    (λ c κs. search rules)
    returns)
