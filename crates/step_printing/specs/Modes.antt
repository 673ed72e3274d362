-- What the number of a mode asks for.
use Rattle.std.specs.Prelude.{ℕ, cond, eqb}
use Rattle.step_printing.specs.declared.records.Mode.{Mode}
use Rattle.step_printing.specs.declared.records.Mode.TheVariants.{Full, Words, Logs}

-- any number but those of the other two prints every field
unfoldable pub mode_of : ℕ → Mode
mode_of number = cond (eqb number 1) Words (cond (eqb number 2) Logs Full)
