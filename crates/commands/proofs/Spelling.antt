-- The operation that words spell: what parts stand for, and what their numbers are.
use mathlib.Core.Path.{◌≡◌, refl, sym, ap, subst, ◌∙◌}
use mathlib.Core.Bool.{true, false}
use mathlib.Core.List.{List, [], ◌∷◌, ◌++◌}
use Prim.Native.Nat.{ℕ, ◌%◌, ◌≤◌, ◌<◌}
use Prim.Native.Char.{code}
use native.Mathlib.Omega.{arith}
use lib.Dec.{eqb, ltb}
use lib.ListN.{length, take, drop, get_or, replicate, length-take}
use lib.Seq.{get_or-take}
use borrow.Author.Tests.{ltb-false, eqb-true, eqb-false}
use Rattle.model.specs.declared.Operation.{Operation}
use Rattle.model.specs.declared.SendPart.{SendPart}
use Rattle.model.specs.declared.Receive.{Receive}
use Rattle.model.specs.declared.Receive.TheVariants.{Absent, Open, Closed}
use Rattle.model.specs.Lists.{up_to, same_numbers}
use Rattle.model.specs.Threads.{no_operation}
use Rattle.model.specs.Bondtrace.{ascii}
use Rattle.model.specs.Refusals.{first_refusal}
use Rattle.model.proofs.Laws.{by}
use Rattle.laws.proofs.Lists.{zero_or_not}
use Rattle.language.specs.Words.{words, is_number, value}
use Rattle.language.specs.Grammar.{largest, takes_sign, takes_choice}
use Rattle.language.specs.Commands.{not_number, is_negative, digits_of, wrong_digits, wrong_number, kept, Progress, stopped, reached, read_number, read_numbers, Spelled, misspelled, spelled, starts_with, closed, read_open, read_closed, read_wait, read_receive, with_word, read_words, empty_send, read_send, read_parts}
use Rattle.scanning.specs.Scanned.{between, Found}
use Rattle.scanning.proofs.Runs.{found_none, found_word}
use Rattle.commands.specs.declared.cursors.Cursor.{Cursor}
use Rattle.commands.specs.declared.Misread.{Misread}
use Rattle.scanning.specs.declared.Span.{Span}
use Rattle.letters.specs.declared.Reason.TheVariants.{NoPart, TooMuch}
use Rattle.std.specs.Prelude.{Result, Ok, Err}
use Rattle.commands.specs.Standing.{Refuses, Reaches, Spells, Valued}
use Rattle.letters.proofs.Measures.{reason-there}
use Rattle.commands.proofs.Reading.{unless-none, unless-some, unless-told, refuses_through, between_none, placed_word}

-- ---- an operation
-- what words spell is what that is equal to
pub spells_as : (line : List ℕ) {s t : Spelled} (r : Result Operation Misread) → s ≡ t → Spells line s r → Spells line t r
spells_as line r e s = let P : Spelled → Type 0 = λ x. Spells line x r in subst P e s

-- ---- the end of an operation
module _ (line : List ℕ) (at : ℕ) (word : Span) (f : Found line at word.start word.end) (send : SendPart) (receive : Receive) where
  -- nothing is left
  pub close-end : word.start ≡ word.end → spelled (record { send = send; receive = receive }) ≡ closed send (λ _. receive) (reached [] (words (drop at line)))
  unfolding closed
  close-end s = rw (found_none line _ _ _ f s)

  -- something is
  pub close_more : (word.start ≡ word.end → ⊥) → Refuses line misspelled (closed send (λ _. receive) (reached [] (words (drop at line)))) (record { reason = TooMuch; word = word })
  unfolding closed
  close_more d = record { word = placed_word f; means = rw (found_word line _ _ _ f d) }

-- only the receive part depends on the numbers
closed_same : (send : SendPart) (receive : Receive) (f : List ℕ → Receive) (ns ms : List ℕ) (left : List (List ℕ)) → receive ≡ f ms
    → closed send (λ _. receive) (reached ns left) ≡ closed send f (reached ms left)
unfolding closed
closed_same send receive f ns ms [] e = rw e
closed_same send receive f ns ms (word ∷ left) e = refl

-- ---- numbers that were read
-- a number that is not refused is at most the largest
pub not-above : (letter : ℕ) (digits : List ℕ) → wrong_digits letter digits ≡ 0 → value digits ≤ largest letter
unfolding wrong_digits first_refusal
not-above letter digits e = by (is_number digits)
    (λ n. by (ltb (largest letter) (value digits)) (λ l. let clash : ◌≡◌ {A = ℕ} 6 0 = rw (n, l) at e in absurd (omega arith)) (λ l. ltb-false _ _ l))
    (λ n. absurd (reason-there letter not_number (λ z. omega arith) (rw n at e)))

-- a list with one number more
pub record NumberMore (letter : ℕ) (before after : List ℕ) : Type 0 where
  pub number : ℕ
  pub small : number ≤ largest letter
  pub is : after ≡ before ++ (number ∷ [])

-- a number whose letter has no sign, where it is read
pub number_more : (letter : ℕ) → takes_sign letter ≡ false → (before after : List ℕ) (left later : List (List ℕ)) → read_number letter (reached before left) ≡ reached after later
    → NumberMore letter before after
unfolding read_number wrong_number kept
number_more letter unsigned before after [] later e = let clash : ◌≡◌ {A = ℕ} 0 1 = cc in absurd (omega arith)
number_more letter unsigned before after (word ∷ left) later e = zero_or_not (wrong_number letter word)
    (λ z. let read : reached (before ++ (value (digits_of letter word) ∷ [])) left ≡ reached after later = rw unsigned at (sym (unless-none _ _ _ z) ∙ e) in
    record { number = value (digits_of letter word); small = not-above letter (digits_of letter word) z; is = cc })
    (λ g z. let stop : stopped (wrong_number letter word) word ≡ reached after later = sym (unless-some _ _ _ (λ n. omega arith)) ∙ e in
    let clash : ◌≡◌ {A = ℕ} 0 1 = cc in absurd (omega arith))

-- a list with one byte more
pub record ByteMore (before after : List ℕ) : Type 0 where
  pub byte : ℕ
  pub small : byte < 256
  pub is : after ≡ before ++ (byte ∷ [])

-- a number with the letter of a byte, where it is read
byte_more : (before after : List ℕ) (left later : List (List ℕ)) → read_number (code "b") (reached before left) ≡ reached after later → ByteMore before after
unfolding takes_sign largest
byte_more before after left later e =
    let m = number_more (code "b") refl before after left later e in
    record { byte = m.number; small = omega (arith, m.small); is = m.is }

-- one such number
pub one_byte : (numbers : List ℕ) (left later : List (List ℕ)) → read_numbers (ascii "b") (reached [] left) ≡ reached numbers later → ByteMore [] numbers
unfolding read_numbers ascii up_to
one_byte numbers left later e = byte_more [] numbers left later e

-- two bytes
pub record TwoBytes (numbers : List ℕ) : Type 0 where
  pub first : ℕ
  pub second : ℕ
  pub small : first < 256
  pub small_too : second < 256
  pub are : numbers ≡ first ∷ second ∷ []

-- two such numbers
pub two_bytes : (numbers : List ℕ) (left later : List (List ℕ)) → read_numbers (ascii "bb") (reached [] left) ≡ reached numbers later → TwoBytes numbers
unfolding read_numbers ascii up_to read_number
two_bytes numbers left later e = go (read_number (code "b") (reached [] left)) refl e where
  go : (p : Progress) → read_number (code "b") (reached [] left) ≡ p → read_number (code "b") p ≡ reached numbers later → TwoBytes numbers
  go (stopped reason word) q n = let clash : ◌≡◌ {A = ℕ} 0 1 = cc in absurd (omega arith)
  go (reached front behind) q n =
      let a = byte_more [] front left behind q in
      let b = byte_more front numbers behind later n in
      record { first = a.byte; second = b.byte; small = a.small; small_too = b.small; are = b.is ∙ ap (λ (l : List ℕ). l ++ (b.byte ∷ [])) a.is }

-- the low byte of a number that was read is the number
pub low_same : (after numbers : List ℕ) (count i : ℕ) → take count after ≡ numbers → i < length numbers → get_or numbers i 0 < 256 → get_or after i 0 % 256 ≡ get_or (take count after) i 0
low_same after numbers count i e lt small =
    let inside : i < count = omega (arith, ap length e, length-take count after) in
    let there : get_or (take count after) i 0 ≡ get_or after i 0 = get_or-take count after i 0 inside in
    let low : get_or after i 0 < 256 = rw (sym there, e) small in
    omega (arith, there)

-- the first of two bytes
low_first : (after : List ℕ) (count : ℕ) → TwoBytes (take count after) → get_or after 0 0 % 256 ≡ get_or (take count after) 0 0
low_first after count b = low_same after _ count 0 b.are (omega arith) b.small

-- the second
low_second : (after : List ℕ) (count : ℕ) → TwoBytes (take count after) → get_or after 1 0 % 256 ≡ get_or (take count after) 1 0
low_second after count b = low_same after _ count 1 b.are (omega arith) b.small_too

-- ---- the first word
module _ (line : List ℕ) (at start end : ℕ) (f : Found line at start end) (name : List ℕ) (some : same_numbers [] name ≡ false) where
  -- a word that is found is not empty
  word-there : same_numbers (between start end line) name ≡ true → start ≡ end → ⊥
  word-there e s = let clash : true ≡ false = sym e ∙ rw (between_none line start end s) some in let z : ◌≡◌ {A = ℕ} 0 1 = cc in omega arith

  -- it is this one
  pub starts_yes : same_numbers (between start end line) name ≡ true → starts_with name (words (drop at line)) ≡ true
  unfolding starts_with
  starts_yes e = rw (found_word line at start end f (word-there e)) e

  -- then the others stand behind it
  pub starts_behind : same_numbers (between start end line) name ≡ true → drop 1 (words (drop at line)) ≡ words (drop end line)
  starts_behind e = rw (found_word line at start end f (word-there e))

  -- it is another, or none
  pub starts_no : same_numbers (between start end line) name ≡ false → starts_with name (words (drop at line)) ≡ false
  unfolding starts_with
  starts_no e = by (eqb start end) (λ s. rw (found_none line at start end f (eqb-true _ _ s))) (λ s. rw (found_word line at start end f (eqb-false _ _ s)) e)

-- ---- a receive part
-- numbers that were not read spell no operation
pub closed-refused : (line : List ℕ) (send : SendPart) (f : List ℕ → Receive) {p : Progress} {m : Misread} → Refuses line stopped p m → Refuses line misspelled (closed send f p) m
unfolding closed
closed-refused line send f r = refuses_through misspelled (closed send f) (λ reason word. refl) r

module _ (line : List ℕ) (send : SendPart) (left : List (List ℕ)) where
  -- a time code behind `receive any` was not read
  pub open-refused : {m : Misread} → Refuses line stopped (read_numbers (ascii "b") (reached [] left)) m → Refuses line misspelled (read_open send left) m
  unfolding read_open
  open-refused r = closed-refused line send _ r

  -- or a partner and a time code behind `receive`
  pub closed-numbers-refused : {m : Misread} → Refuses line stopped (read_numbers (ascii "bb") (reached [] left)) m → Refuses line misspelled (read_closed send left) m
  unfolding read_closed
  closed-numbers-refused r = closed-refused line send _ r

  module _ (after : List ℕ) (most : ℕ) (last : Cursor) where
    -- only a time code is read
    pub time-read : (wait : ℕ → Receive) → Reaches line after (read_numbers (ascii "b") (reached [] left)) most last
        → closed send (λ _. wait (get_or after 0 0 % 256)) (reached [] (words (drop last.at line))) ≡ closed send (λ numbers. wait (get_or numbers 0 0)) (read_numbers (ascii "b") (reached [] left))
    time-read wait a =
        let b = one_byte (take last.count after) left (words (drop last.at line)) (sym a.means) in
        closed_same send _ (λ numbers. wait (get_or numbers 0 0)) [] (take last.count after) (words (drop last.at line)) (ap wait (low_same after (b.byte ∷ []) last.count 0 b.is (omega arith) b.small))
        ∙ ap (closed send (λ numbers. wait (get_or numbers 0 0))) a.means

    -- behind `receive any`
    pub open-read : Reaches line after (read_numbers (ascii "b") (reached [] left)) most last
        → closed send (λ _. Open (record { time = get_or after 0 0 % 256; partner = 0 })) (reached [] (words (drop last.at line))) ≡ read_open send left
    unfolding read_open
    open-read a = time-read (λ time. Open (record { time = time; partner = 0 })) a

    -- behind `receive`
    pub closed-read : Reaches line after (read_numbers (ascii "bb") (reached [] left)) most last
        → closed send (λ _. Closed (record { time = get_or after 1 0 % 256; partner = get_or after 0 0 % 256 })) (reached [] (words (drop last.at line))) ≡ read_closed send left
    unfolding read_closed
    closed-read a =
        let b = two_bytes (take last.count after) left (words (drop last.at line)) (sym a.means) in
        closed_same send _ (λ numbers. Closed (record { time = get_or numbers 1 0; partner = get_or numbers 0 0 })) [] (take last.count after) (words (drop last.at line)) (rw (low_first after last.count b, low_second after last.count b))
        ∙ ap (closed send (λ numbers. Closed (record { time = get_or numbers 1 0; partner = get_or numbers 0 0 }))) a.means

module _ (line : List ℕ) (at : ℕ) (word : Span) (f : Found line at word.start word.end) (send : SendPart) where
  -- no word is left
  pub receive-none : word.start ≡ word.end → spelled (record { send = send; receive = Absent }) ≡ read_receive send (words (drop at line))
  unfolding read_receive
  receive-none s = rw (found_none line at _ _ f s)

  module _ (d : word.start ≡ word.end → ⊥) where
    -- the word `receive`
    pub receive-word : same_numbers (between word.start word.end line) (ascii "receive") ≡ true → read_wait send (words (drop word.end line)) ≡ read_receive send (words (drop at line))
    unfolding read_receive
    receive-word e = rw (found_word line at _ _ f d, e)

    -- another
    pub receive_other : same_numbers (between word.start word.end line) (ascii "receive") ≡ false → Refuses line misspelled (read_receive send (words (drop at line))) (record { reason = NoPart; word = word })
    unfolding read_receive
    receive_other e = record { word = placed_word f; means = rw (found_word line at _ _ f d, e) }

-- ---- a send part
module _ (line : List ℕ) (at : ℕ) (word : Span) (f : Found line at word.start word.end) (send : SendPart) where
  -- no word is left
  pub words-end : word.start ≡ word.end → read_receive send (words (drop at line)) ≡ read_words send (words (drop at line))
  unfolding read_words
  words-end s = rw (found_none line at _ _ f s)

  module _ (d : word.start ≡ word.end → ⊥) where
    -- the word `receive`
    pub words-receive : same_numbers (between word.start word.end line) (ascii "receive") ≡ true → read_receive send (words (drop at line)) ≡ read_words send (words (drop at line))
    unfolding read_words
    words-receive e = rw (found_word line at _ _ f d, e)

    module _ (e : same_numbers (between word.start word.end line) (ascii "receive") ≡ false) where
      -- what is no word of a message
      pub words-wrong : (m : Misread) → Valued (code "w") line word (Err m) → Refuses line misspelled (read_words send (words (drop at line))) m
      unfolding read_words wrong_number
      words-wrong m v = record {
        word = rw v.0 (placed_word f);
        means = rw (v.0, found_word line at _ _ f d, e, v.1) (sym (unless-told _ _ m.reason));
      }

      -- what is one
      pub words_more : (number : ℕ) → Valued (code "w") line word (Ok number) → read_words (with_word number send) (words (drop word.end line)) ≡ read_words send (words (drop at line))
      unfolding read_words wrong_number digits_of is_negative takes_sign takes_choice
      words_more number v = rw (found_word line at _ _ f d, e, v.1) (sym (unless-none _ _ _ v.0))

module _ (line : List ℕ) (left : List (List ℕ)) where
  -- the numbers behind `send` were not read
  pub send-refused : {m : Misread} → Refuses line stopped (read_numbers (ascii "bb") (reached [] left)) m → Refuses line misspelled (read_send (read_numbers (ascii "bb") (reached [] left))) m
  unfolding read_send
  send-refused r = refuses_through misspelled read_send (λ reason word. refl) r

  -- they were
  pub send-read : (after : List ℕ) (most : ℕ) (last : Cursor) → Reaches line after (read_numbers (ascii "bb") (reached [] left)) most last
      → read_words (record { present = true; target = get_or after 0 0 % 256; count = 0; time = get_or after 1 0 % 256; words = replicate 8 0 }) (words (drop last.at line))
      ≡ read_send (read_numbers (ascii "bb") (reached [] left))
  unfolding read_send empty_send
  send-read after most last a =
      let b = two_bytes _ left _ (sym a.means) in
      rw (← a.means, low_first after last.count b, low_second after last.count b)

-- ---- an operation
module _ (left : List (List ℕ)) where
  -- the word `send`
  pub parts-send : (behind : List (List ℕ)) → starts_with (ascii "send") left ≡ true → drop 1 left ≡ behind → read_send (read_numbers (ascii "bb") (reached [] behind)) ≡ read_parts left
  unfolding read_parts
  parts-send behind e d = rw (e, d)

  -- another
  pub parts-receive : starts_with (ascii "send") left ≡ false → read_receive no_operation.send left ≡ read_parts left
  unfolding read_parts
  parts-receive e = rw e
