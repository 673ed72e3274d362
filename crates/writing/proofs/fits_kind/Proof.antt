use mathlib.Core.Path.{sym, ap, ◌∙◌}
use Prim.Native.Nat.{◌-◌}
use native.Mathlib.Omega.{arith}
use lib.Seq.{take_all}
use lib.ListN.{length, drop, length-drop}
use borrow.Author.Rules.{rules}
use Rattle.model.specs.Encoding.{all_zero}
use Rattle.writing.specs.Spelled.{fits_kind}
use Rattle.writing.proofs.fits_kind.Statement.{statement}
use Rattle.writing.proofs.fits_kind.Tie as tie

-- a begin
returns : tie.Need-returns-then-is_begin
unfolding fits_kind
returns c = let t = c.before in rw (sym t.before.is_begin.ensures ∙ t.if-is_begin.true, c.names_set.ensures)

-- any other record
returns-2 : tie.Need-returns
unfolding fits_kind
returns-2 c =
    let o = c.before.before in
    let bytes = o.before.before.before.args.bytes.now in
    rw (sym o.before.is_begin.ensures ∙ o.if-is_begin.false) (c.all_zero.ensures ∙ ap all_zero (take_all (length bytes - 4) (drop 4 bytes) (omega (arith, length-drop 4 bytes))))

pub fits_kind_spec : {M : Type 1} → statement M
fits_kind_spec =
    tie.close
    (tie.spec
    (λ c κs. search rules)
    (λ c κs. search rules)
    returns
    (λ c. search rules)
    (λ c. search rules)
    (λ c. search rules)
    (λ c κs. search rules)
    returns-2)
