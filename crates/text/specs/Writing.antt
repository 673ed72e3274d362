-- What it is to write a text into a caller's bytes from a place on, as far as they reach.
use Rattle.std.specs.Prelude.{◌≡◌, List, ℕ, ◌+◌, ◌-◌, ◌≤◌, min, length, take}
use Rattle.std.proofs.lemmas.List.Edits.{sets}
use Rattle.text.specs.declared.Text.{Text}

-- n counts bytes at the front of some bytes. The second part follows from the first; both stand here, since the borrow checker looks for them where `&out[..n]` is borrowed
abbrev pub Counts : ℕ → List ℕ → Type 0
Counts n bytes = (n ≤ length bytes) × (n ≡ length (take n bytes))

-- a text behind what is written already: the bytes are those before but for the text, which stands behind those that are written and is cut off where the bytes end; what is written counts it
unfoldable pub written : List ℕ → Text → Text
written text before = record {
  out = record before.out { now = sets before.out.now before.len text };
  len = before.len + min (length text) (length before.out.now - before.len);
}

-- the bytes after are those before but for the text, which stands from place start on and is cut off where the bytes end; stop is the place behind what is written
pub record Written (start : ℕ) (text before after : List ℕ) (stop : ℕ) : Type 0 where
  pub bytes : after ≡ sets before start text
  pub place : stop ≡ start + min (length text) (length before - start)

-- what a call promises that prints a text of at most so many bytes: it stands from the first byte on, and stop counts what is written
pub record Printed (text : List ℕ) (most : ℕ) (before after : List ℕ) (stop : ℕ) : Type 0 where
  pub written : Written 0 text before after stop
  pub counts : Counts stop after
  pub short : length text ≤ most
