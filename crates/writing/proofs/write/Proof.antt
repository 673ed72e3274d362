use mathlib.Core.Bool.{true}
use mathlib.Core.Path.{◌≡◌, sym, ◌∙◌}
use Prim.Native.Nat.{◌≤◌}
use native.Mathlib.Omega.{arith}
use lib.Seq.{length-take-le}
use lib.ListN.{length}
use borrow.Author.Tests.{not-true, not-false}
use borrow.Author.Rules.{rules}
use Rattle.model.specs.RecordBytes.{record_length, lawful}
use Rattle.model.specs.Decoding.{front}
use Rattle.writing.specs.Spelled.{fits_kind}
use Rattle.writing.proofs.Promised.{record_fits, not_fitting, not-lawful, too_long, well_written}
use Rattle.writing.proofs.write.Statement.{statement}
use Rattle.writing.proofs.write.Tie as tie

-- ---- the places of the code from which the needs below speak; each leads back to the one before
-- the record is spelled as if it were a begin with a set
abbrev Spelled : Type 0
Spelled = tie.After-spell-space

abbrev entry : Spelled → tie.Start
entry s = s.before.before

-- so it has the 46 bytes of one
whole : (s : Spelled) → length s.spell-space.result ≡ 46
whole s = search rules

-- it is tested whether its operation is one of its kind
abbrev KindTested : Type 0
KindTested = tie.After-fits_kind

abbrev spelled : KindTested → Spelled
spelled k = k.before.before.before

-- it is, and it is tested whether its bytes are lawful
abbrev LawfulTested : Type 0
LawfulTested = tie.After-is_lawful

abbrev kind-tested : LawfulTested → KindTested
kind-tested l = l.before.before.before

-- its operation is one of its kind
fitting : (l : LawfulTested) → let s = spelled (kind-tested l) in fits_kind (entry s).args.item.kind (entry s).args.item.op.receive s.spell-space.result ≡ true
fitting l = let k = kind-tested l in sym k.fits_kind.ensures ∙ not-false k.fits_kind.result l.before.before.if-not-fits_kind.false-raw

-- they are, and the record's length is known
abbrev Measured : Type 0
Measured = tie.After-record_length-n

abbrev lawful-tested : Measured → LawfulTested
lawful-tested m = m.before.before

-- its bytes are lawful
lawfully : (m : Measured) → let s = spelled (kind-tested (lawful-tested m)) in lawful (entry s).args.first (front s.spell-space.result) ≡ true
lawfully m = let l = lawful-tested m in sym l.is_lawful.ensures ∙ not-false l.is_lawful.result m.before.if-not-is_lawful.false-raw

-- the length is that of the record's kind
long : (m : Measured) → m.record_length-n.result ≡ record_length (entry (spelled (kind-tested (lawful-tested m)))).args.item.kind
long m = m.record_length-n.ensures

-- the record is not longer than what is spelled
within : (m : Measured) → m.record_length-n.result ≤ length (spelled (kind-tested (lawful-tested m))).spell-space.result
within m = let s = spelled (kind-tested (lawful-tested m)) in omega (arith, long m, record_fits _ _ s.spell-space.ensures (whole s))

-- ---- the needs
-- refused: its operation is not one of its kind
returns : tie.Need-returns-then-not-fits_kind
returns c =
    let k = c.before in
    let s = spelled k in
    not_fitting _ _ s.spell-space.ensures (whole s) _ _ (sym k.fits_kind.ensures ∙ not-true k.fits_kind.result c.if-not-fits_kind.true-raw)

-- refused: its bytes are not lawful
returns-2 : tie.Need-returns-then-not-is_lawful
returns-2 c =
    let l = c.before in
    let s = spelled (kind-tested l) in
    not-lawful _ _ s.spell-space.ensures (whole s) _ _ (fitting l) (sym l.is_lawful.ensures ∙ not-true l.is_lawful.result c.if-not-is_lawful.true-raw)

-- refused: there are too few bytes for the record
returns-3 : tie.Need-returns-then-bytes-n
returns-3 c =
    let m = c.before in
    let l = lawful-tested m in
    let s = spelled (kind-tested l) in
    too_long _ _ s.spell-space.ensures (whole s) _ _ (fitting l) _ (long m) c.if-bytes-n.true

array-share-prefix-space : tie.Need-slice_bounds-space-end
array-share-prefix-space c = within c.before

slice-aggregate-copy-front : tie.Need-slice_bounds-copy_front-end
slice-aggregate-copy-front c = sym (length-take-le _ _ (within c.before.before))

copy-front-requires : tie.Need-copy_front-requires
copy-front-requires c κs = rw (length-take-le _ _ (within c.before.before.before)) c.before.before.if-bytes-n.false

-- the record is written
returns-4 : tie.Need-returns
returns-4 c =
    let copied = c.before.before in
    let fits = copied.before.before.before in
    let m = fits.before in
    let l = lawful-tested m in
    let s = spelled (kind-tested l) in
    well_written _ _ s.spell-space.ensures (whole s) _ _ (fitting l) _ (long m) (lawfully m) fits.if-bytes-n.false _ copied.copy_front.ensures

pub write_spec : {M : Type 1} → statement M
write_spec =
    tie.close
    (tie.spec
    (λ c κs. search rules)
    (λ c. search rules)
    (λ c κs. search rules)
    returns
    (λ c. search rules)
    (λ c κs. search rules)
    returns-2
    (λ c κs. search rules)
    returns-3
    array-share-prefix-space
    slice-aggregate-copy-front
    copy-front-requires
    (λ c. search rules)
    returns-4)
