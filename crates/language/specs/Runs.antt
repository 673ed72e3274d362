-- Runs of bytes: one without a blank, one without the end of a line.
use Rattle.std.specs.Prelude.{Bool, true, not, ◌&&◌, List, [], ◌∷◌, ℕ, eqb}
use Rattle.language.specs.Words.{newline, is_blank}

-- a test holds of every byte
unfoldable pub each : (ℕ → Bool) → List ℕ → Bool
each test [] = true
each test (byte ∷ line) = test byte && each test line

-- no byte is a blank
abbrev pub solid : List ℕ → Bool
solid word = each (λ byte. not (is_blank byte)) word

-- no byte ends a line
abbrev pub unbroken : List ℕ → Bool
unbroken line = each (λ byte. not (eqb byte newline)) line

-- the last line of an input, where it ends with the input
unfoldable pub last_line : List ℕ → List (List ℕ)
last_line [] = []
last_line (byte ∷ line) = (byte ∷ line) ∷ []
