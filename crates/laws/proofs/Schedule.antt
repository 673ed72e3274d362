-- The kinds of a begin; how long a record, its words and its set are as bytes; the record at the front of bytes that may go on past it.
use mathlib.Core.Path.{◌≡◌, refl, sym, ap, ◌∙◌}
use mathlib.Core.Logic.{◌≢◌}
use mathlib.Core.Bool.{Bool, true, false, beq, false≢true}
use mathlib.Core.List.{List, [], ◌∷◌, ◌++◌, map}
use Prim.Native.Nat.{ℕ, ◌+◌, ◌*◌, ◌≤◌, ◌<◌}
use native.Mathlib.Omega.{arith}
use lib.ListN.{length, drop, length-append}
use lib.Seq.{get_or-take}
use lib.Dec.{eqb}
use borrow.Author.Tests.{eqb-true, ne_eqb}
use Rattle.model.specs.Lists.{bit, concat}
use Rattle.model.specs.RecordBytes.{longest_record, begin_kind, set_kind, is_begin, record_length, byte, kind_byte, thread_byte, lawful}
use Rattle.model.specs.declared.Receive.{Receive}
use Rattle.model.specs.Operations.{names_set}
use Rattle.model.specs.Encoding.{word_bytes, set_of, set_bytes}
use Rattle.model.specs.Decoding.{front}
use Rattle.model.proofs.Laws.{by, same?, all_of-read}
use Rattle.laws.proofs.Lists.{or_left, or_right}
use Rattle.laws.proofs.Joined.{take-and-rest}

-- ---- the two kinds of a begin
-- a begin without a set
pub is-begin : (kind : ℕ) → kind ≡ begin_kind → is_begin kind ≡ true
unfolding is_begin
is-begin kind e = rw e refl

-- one with a set
pub is_set : (kind : ℕ) → kind ≡ set_kind → is_begin kind ≡ true
unfolding is_begin
is_set kind e = rw e refl

-- another kind is no begin
pub begin_kinds : (kind : ℕ) → kind ≢ begin_kind → kind ≢ set_kind → is_begin kind ≡ false
unfolding is_begin
begin_kinds kind d e = rw (ne_eqb kind begin_kind d, ne_eqb kind set_kind e) refl

-- what is no begin is none without a set
pub no-begin : (kind : ℕ) → is_begin kind ≡ false → eqb kind begin_kind ≡ false
unfolding is_begin
no-begin kind = or_left (eqb kind begin_kind) (eqb kind set_kind)

-- and none with one
pub no-set : (kind : ℕ) → is_begin kind ≡ false → eqb kind set_kind ≡ false
unfolding is_begin
no-set kind = or_right (eqb kind begin_kind) (eqb kind set_kind)

-- a begin that is not without a set is one with a set
pub must_set : (kind : ℕ) → is_begin kind ≡ true → kind ≢ begin_kind → kind ≡ set_kind
must_set kind b d = same? kind set_kind (λ e. e) (λ e. absurd (false≢true (sym (begin_kinds kind d e) ∙ b)))

-- every kind is that of a begin without a set, that of one with a set, or another
pub by_kind {ℓ} : {P : Type ℓ} (kind : ℕ) → (kind ≡ begin_kind → P) → (kind ≡ set_kind → P) → (kind ≢ begin_kind → kind ≢ set_kind → P) → P
by_kind kind f g h = same? kind begin_kind f (λ d. same? kind set_kind g (λ e. h d e))

-- ---- lengths
-- a begin has 42
pub record_begin : (kind : ℕ) → kind ≡ begin_kind → record_length kind ≡ 42
unfolding record_length
record_begin kind e = rw e refl

-- one with a set 46
pub record_set : (kind : ℕ) → kind ≡ set_kind → record_length kind ≡ 46
unfolding record_length
record_set kind e = rw e refl

-- any other four
pub record_other : (kind : ℕ) → kind ≢ begin_kind → kind ≢ set_kind → record_length kind ≡ 4
unfolding record_length
record_other kind d e = rw (ne_eqb kind begin_kind d, ne_eqb kind set_kind e) refl

-- so a record has at least four
pub record_head : (kind : ℕ) → 4 ≤ record_length kind
record_head kind = by_kind kind (λ e. rw (record_begin kind e) (omega arith)) (λ e. rw (record_set kind e) (omega arith)) (λ d e. rw (record_other kind d e) (omega arith))

-- and at most as many as the longest
pub record_longest : (kind : ℕ) → record_length kind ≤ longest_record
record_longest kind = by_kind kind (λ e. rw (record_begin kind e) (omega arith)) (λ e. rw (record_set kind e) (omega arith)) (λ d e. rw (record_other kind d e) (omega arith))

-- words take four bytes each
pub words-length : (words : List ℕ) → length (concat (map word_bytes words)) ≡ 4 * length words
unfolding concat word_bytes
words-length [] = refl
words-length (w ∷ words) = omega (arith, words-length words)

-- ---- the set of a begin, as bytes
-- the bytes of a set that is named
pub set-bytes : (w : Receive) → names_set w ≡ true → set_bytes w ≡ word_bytes (set_of w)
set-bytes w e = rw e refl

-- there are none where no set is named
pub no-set-bytes : (w : Receive) → names_set w ≡ false → set_bytes w ≡ []
no-set-bytes w e = rw e refl

-- a set takes four bytes
pub set-length : (w : Receive) → length (set_bytes w) ≡ 4 * bit (names_set w)
unfolding word_bytes
set-length w = by (names_set w) (λ e. rw e refl) (λ e. rw e refl)

-- a begin that is as long as its kind names a set exactly if its kind has one
pub length-tells : (kind : ℕ) (b : Bool) → is_begin kind ≡ true → record_length kind ≡ 42 + 4 * bit b → beq (eqb kind set_kind) b ≡ true
length-tells kind true begins long = same? kind begin_kind (λ e. absurd (omega (arith, record_begin kind e))) (λ d. rw (must_set kind begins d) refl)
length-tells kind false begins long = same? kind begin_kind (λ e. rw e refl) (λ d. absurd (omega (arith, record_set kind (must_set kind begins d))))

-- ---- the record at the front
module _ (bytes : List ℕ) where
  -- a byte of the record is that of the bytes
  pub front-byte : (i : ℕ) → i < record_length (kind_byte bytes) → byte (front bytes) i ≡ byte bytes i
  unfolding front
  front-byte i l = get_or-take (record_length (kind_byte bytes)) bytes i 0 l

  -- so are the four of its head
  pub head_byte : (i : ℕ) → i < 4 → byte (front bytes) i ≡ byte bytes i
  head_byte i l = front-byte i (omega (arith, record_head (kind_byte bytes)))

  -- its kind
  pub front-kind : kind_byte (front bytes) ≡ kind_byte bytes
  front-kind = head_byte 2 (omega arith)

  -- its thread
  pub front-thread : thread_byte (front bytes) ≡ thread_byte bytes
  front-thread = head_byte 3 (omega arith)

  -- the record and what stands behind it
  pub front-and-behind : front bytes ++ drop (length (front bytes)) bytes ≡ bytes
  unfolding front
  front-and-behind = take-and-rest (record_length (kind_byte bytes)) bytes

  -- they are as long as the bytes
  pub front_length : length (front bytes) + length (drop (length (front bytes)) bytes) ≡ length bytes
  front_length = sym (length-append (front bytes) (drop (length (front bytes)) bytes)) ∙ ap length front-and-behind

-- ---- lawful ones
-- lawful bytes are as many as their kind says
pub lawful-length : (first : Bool) (bytes : List ℕ) → lawful first bytes ≡ true → length bytes ≡ record_length (kind_byte bytes)
unfolding lawful
lawful-length first bytes rules = eqb-true (length bytes) (record_length (kind_byte bytes)) (all_of-read _ rules).1.1.1.1.0

-- at least four
pub lawful-least : (first : Bool) (bytes : List ℕ) → lawful first bytes ≡ true → 4 ≤ length bytes
lawful-least first bytes rules = omega (arith, lawful-length first bytes rules, record_head (kind_byte bytes))

module _ (bytes : List ℕ) (first : Bool) (rules : lawful first (front bytes) ≡ true) where
  -- a lawful record at the front is whole
  pub lawful-long : record_length (kind_byte bytes) ≤ length bytes
  lawful-long = omega (arith, lawful-length first (front bytes) rules, ap record_length (front-kind bytes), front_length bytes)

  -- so it has its head
  pub lawful-head-long : 4 ≤ length bytes
  lawful-head-long = omega (arith, lawful-long, record_head (kind_byte bytes))
