use mathlib.Core.Path.{◌≡◌, sym, ◌∙◌}
use mathlib.Core.Bool.{true}
use native.Mathlib.Omega.{arith}
use borrow.Author.Tests.{not-true, not-false}
use borrow.Author.Rules.{rules}
use Rattle.model.specs.RecordBytes.{lawful}
use Rattle.model.specs.Decoding.{front}
use Rattle.laws.proofs.Schedule.{lawful-long, lawful-head-long}
use Rattle.reading.proofs.Reading.{front_read, bare-read, refused-read, accepted-read}
use Rattle.reading.proofs.read.Statement.{statement}
use Rattle.reading.proofs.read.Tie as tie

-- ---- the places of the code from which the needs below speak; each leads back to the one before
-- the record is lawful
abbrev Lawful : Type 0
Lawful = tie.Else-not-is_lawful

abbrev entry : Lawful → tie.Start
entry l = l.before.before.before

lawfully : (l : Lawful) → lawful (entry l).args.first (front (entry l).args.bytes.now) ≡ true
lawfully l = sym l.before.is_lawful.ensures ∙ not-false l.before.is_lawful.result l.if-not-is_lawful.false-raw

-- it is known whether it is a begin
abbrev Told : Type 0
Told = tie.After-is_begin

abbrev known : Told → Lawful
known t = t.before.before.before

-- ---- the needs
returns : tie.Need-returns-then-not-is_lawful
returns c = refused-read _ _ _ (sym c.before.before.is_lawful.ensures ∙ not-true c.before.before.is_lawful.result c.before.if-not-is_lawful.true-raw) c.bare_record-nothing.ensures

returns-2 : tie.Need-returns-then-not-is_begin
returns-2 c =
    let t : Told = c.before.before in
    accepted-read _ _ _ (lawfully (known t)) (c.bare_record-item.ensures ∙ bare-read _ (sym t.is_begin.ensures ∙ not-true t.is_begin.result c.before.if-not-is_begin.true-raw))

operation-at-requires : tie.Need-operation_at-op-requires
operation-at-requires c κs =
    let t : Told = c.before in
    (sym t.is_begin.ensures ∙ not-false t.is_begin.result c.if-not-is_begin.false-raw, lawful-long _ _ (lawfully (known t)))

returns-3 : tie.Need-returns
returns-3 c = accepted-read _ _ _ (lawfully (known c.before.before)) (rw c.operation_at-op.ensures (front_read _))

pub read_spec : {M : Type 1} → statement M
read_spec =
    tie.close
    (tie.spec
    (λ c κs. search rules)
    (λ c κs. search rules)
    returns
    (λ c. omega (arith, lawful-head-long _ _ (lawfully c.before)))
    (λ c. omega (arith, lawful-head-long _ _ (lawfully c.before.before)))
    (λ c κs. search rules)
    (λ c κs. search rules)
    returns-2
    operation-at-requires
    returns-3)
