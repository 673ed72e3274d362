use Rattle.scanning.proofs.Numbers.{digit-above}
use Rattle.scanning.proofs.with_digit.Goals as goal

-- a digit is at least the first
pub overflow_sub-byte : goal.overflow_sub-byte
overflow_sub-byte c = digit-above _ c.requires.byte_value
