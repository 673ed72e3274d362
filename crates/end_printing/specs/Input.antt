-- What is known of the text that is printed for an input: how it starts and how long it is, but not which bytes the operating system delivered.
use Rattle.std.specs.Prelude.{◌≡◌, ◌⊎◌, List, [], ◌++◌, ℕ, ◌≤◌, length}
use Rattle.std.specs.Io.KnownBytes.{Appends}
use Rattle.std.specs.declared.option.Option.{Option}
use Rattle.model.specs.Bondtrace.{ascii, bondtrace}

-- an input of fewer bytes is played to its end: 2^63
abbrev pub most_bytes : ℕ
most_bytes = 9223372036854775808

-- what is printed of an input that is not
unfoldable pub too_long : List ℕ
too_long = ascii "input too long\n"

-- the text of an input that starts with the first bytes and has as many as were delivered
pub record Told (first : List ℕ) (delivered : ℕ) (text : List ℕ) : Type 0 where
  pub more : List ℕ
  pub counted : length (first ++ more) ≡ delivered
  pub told : (text ≡ bondtrace (first ++ more)) ⊎ ((text ≡ too_long) × (most_bytes ≤ delivered))

-- where it is known what a writer held and holds, it grew by one text and by nothing else: that of some input. Which one it is, is not said here
pub record TellsSome (before after : Option (List ℕ)) : Type 0 where
  pub delivered : ℕ
  pub text : List ℕ
  pub told : Told [] delivered text
  pub appended : Appends before after text
