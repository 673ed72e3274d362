use Rattle.std.proofs.Common.{rules}
use Rattle.scanning.proofs.Numbers.{digits-start, digits-none, digits_more, digits-stop, digits-all}
use Rattle.scanning.proofs.number.Goals as goal

-- an empty word
pub returns-then-is_empty : goal.returns-then-is_empty
returns-then-is_empty c = digits-none _ (search rules)

-- no byte so far
pub loop-byte-init : goal.loop-byte-init
loop-byte-init c = digits-start _

-- a byte that is no digit
pub returns-then-not-is_digit : goal.returns-then-not-is_digit
returns-then-not-is_digit c = digits-stop _ _ _ c.loop-byte.invariant c.loop-byte-test.true (cc)

-- one digit more
pub loop-byte-preserved : goal.loop-byte-preserved
loop-byte-preserved c = digits_more _ _ _ c.loop-byte.invariant _ c.loop-byte-test.true (cc) c.with_digit-value.ensures

-- every byte is a digit
pub returns : goal.returns
returns c = digits-all _ _ _ c.loop-byte.invariant (search rules) c.loop-byte-test.false
