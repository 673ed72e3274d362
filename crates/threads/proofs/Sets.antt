-- The laws of sets of threads that the tests of a receive part rest on.
use Rattle.laws.proofs.Sets.{no_member, one-member, no-member-wide, none-beyond, one-beyond, none-beyond-wide, beyond_shifted}

pub ruleset sets = (no_member, one-member, no-member-wide, none-beyond, one-beyond, none-beyond-wide, beyond_shifted)
