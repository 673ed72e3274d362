-- The line of a record: a name, and words with a space before each; how long it is.
use mathlib.Core.Path.{◌≡◌, refl, sym, ap, ◌∙◌}
use mathlib.Core.Bool.{Bool, true, false, cond}
use mathlib.Core.List.{List, [], ◌∷◌, ◌++◌, map, append_assoc}
use Prim.Native.Nat.{ℕ, ◌*◌, ◌≤◌, ◌<◌}
use native.Mathlib.Omega.{arith}
use lib.ListN.{length, get_or, length-append}
use lib.Dec.{eqb}
use Rattle.model.specs.declared.SendPart.{SendPart}
use Rattle.model.specs.declared.Receive.{Receive}
use Rattle.model.specs.declared.Receive.TheVariants.{Absent, Open, Closed, OneOf}
use Rattle.model.specs.declared.Operation.{Operation}
use Rattle.model.specs.declared.Record.{Record}
use Rattle.model.specs.Operations.{receive_time}
use Rattle.model.specs.Encoding.{partner_of, set_of}
use Rattle.model.specs.RecordBytes.{table_kind, is_begin, step_kind, cancel_kind}
use Rattle.model.specs.Lists.{up_to}
use Rattle.model.specs.Bondtrace.{ascii, decimal, spaced}
use Rattle.model.proofs.Laws.{length-up-to}
use Rattle.laws.proofs.Digits.{spaced-short}
use Rattle.language.specs.RecordText.{sent_words, send_text, receive_text, record_line}
use Rattle.language.specs.Runs.{each}
use Rattle.roundtrip.specs.Fits.{AllUnder, FitsOperation}
use Rattle.roundtrip.proofs.Lists.{cons_under, nil-under, up_to-under}
use Rattle.spelling.specs.Lengths.{longest_line, LineShort}
use Rattle.spelling.proofs.Texts.{is_word, are_words, are-words-append, apart, apart-append}
use Rattle.spelling.proofs.Numbers.{words-decimal, spaced-apart}
use Rattle.spelling.proofs.Parts.{receive_words, send_words}

-- what holds of two texts holds of the one that a test chooses
chosen : (P : List ℕ → Type 0) (test : Bool) (text other : List ℕ) → P text → P other → P (cond test text other)
chosen P true text other f g = f
chosen P false text other f g = g

-- what holds of a name with a thread, of a begin and of a tick holds of the line of any record
pub line-cases : (P : List ℕ → Type 0) (r : Record) → ((name : List ℕ) → is_word name ≡ true → length name ≤ 6 → P (name ++ spaced (r.thread ∷ [])))
    → P (ascii "begin" ++ spaced (r.thread ∷ []) ++ send_text r.op.send ++ receive_text r.op.receive) → P (ascii "tick") → P (record_line r)
unfolding record_line
line-cases P r named begun alone =
    chosen P (eqb r.kind table_kind) _ _ (named (ascii "table") (unfold is_word each ascii up_to in refl) (unfold ascii up_to in omega arith))
    (chosen P (is_begin r.kind) _ _ begun
    (chosen P (eqb r.kind step_kind) _ _ (named (ascii "step") (unfold is_word each ascii up_to in refl) (unfold ascii up_to in omega arith))
    (chosen P (eqb r.kind cancel_kind) _ _ (named (ascii "cancel") (unfold is_word each ascii up_to in refl) (unfold ascii up_to in omega arith)) alone)))

-- ---- the line of a record, by its kind
module _ (r : Record) where
  -- a table
  pub line_of_table : eqb r.kind table_kind ≡ true → record_line r ≡ ascii "table" ++ spaced (r.thread ∷ [])
  unfolding record_line
  line_of_table e = rw e refl

  module _ (no_table : eqb r.kind table_kind ≡ false) where
    -- a begin
    pub line_of_begin : is_begin r.kind ≡ true → record_line r ≡ ascii "begin" ++ spaced (r.thread ∷ []) ++ send_text r.op.send ++ receive_text r.op.receive
    unfolding record_line
    line_of_begin e = rw (no_table, e) refl

    module _ (no-begin : is_begin r.kind ≡ false) where
      -- a step
      pub line_of_step : eqb r.kind step_kind ≡ true → record_line r ≡ ascii "step" ++ spaced (r.thread ∷ [])
      unfolding record_line
      line_of_step e = rw (no_table, no-begin, e) refl

      module _ (no_step : eqb r.kind step_kind ≡ false) where
        -- a cancel
        pub line_of_cancel : eqb r.kind cancel_kind ≡ true → record_line r ≡ ascii "cancel" ++ spaced (r.thread ∷ [])
        unfolding record_line
        line_of_cancel e = rw (no_table, no-begin, no_step, e) refl

        -- a tick
        pub line_of_tick : eqb r.kind cancel_kind ≡ false → record_line r ≡ ascii "tick"
        unfolding record_line
        line_of_tick e = rw (no_table, no-begin, no_step, e) refl

-- ---- the parts of a begin
-- a part that may be missing
apart-cond : (there : Bool) (text : List ℕ) (words : List (List ℕ)) → text ≡ apart words → cond there text [] ≡ apart (cond there words [])
unfolding apart
apart-cond true text words e = e
apart-cond false text words e = refl

-- the text of a send part has its words
send-apart : (send : SendPart) → send_text send ≡ apart (send_words send)
unfolding send_text send_words
send-apart send = apart-cond send.present _ _ (behind (send.target ∷ send.time ∷ sent_words send))
  where
    behind : (numbers : List ℕ) → ascii " send" ++ spaced numbers ≡ apart (ascii "send" ∷ map decimal numbers)
    behind numbers = unfold apart ascii up_to in ap (λ (l : List ℕ). ascii " send" ++ l) (spaced-apart numbers)

-- so has that of a receive part
receive-apart : (receive : Receive) → receive_text receive ≡ apart (receive_words receive)
unfolding receive_text receive_words apart ascii up_to
receive-apart Absent = refl
receive-apart (Open wait) = ap (λ (l : List ℕ). ascii " receive any" ++ l) (spaced-apart (wait.time ∷ []))
receive-apart (Closed wait) = ap (λ (l : List ℕ). ascii " receive" ++ l) (spaced-apart (wait.partner ∷ wait.time ∷ []))
receive-apart (OneOf time set) = ap (λ (l : List ℕ). ascii " receive set" ++ l) (spaced-apart (set ∷ time ∷ []))

-- they are words
send-words : (send : SendPart) → are_words (send_words send) ≡ true
unfolding send_words
send-words send = either send.present _ (behind (send.target ∷ send.time ∷ sent_words send))
  where
    either : (there : Bool) (words : List (List ℕ)) → are_words words ≡ true → are_words (cond there words []) ≡ true
    either true words e = e
    either false words e = unfold are_words in refl

    behind : (numbers : List ℕ) → are_words (ascii "send" ∷ map decimal numbers) ≡ true
    behind numbers = unfold are_words is_word each ascii up_to in words-decimal numbers

-- and so are they
receive-words : (receive : Receive) → are_words (receive_words receive) ≡ true
unfolding receive_words are_words is_word each ascii up_to
receive-words Absent = refl
receive-words (Open wait) = words-decimal (wait.time ∷ [])
receive-words (Closed wait) = words-decimal (wait.partner ∷ wait.time ∷ [])
receive-words (OneOf time set) = words-decimal (set ∷ time ∷ [])

-- ---- lines
-- a name and a thread
pub thread-line : (name : List ℕ) (thread : ℕ) → name ++ spaced (thread ∷ []) ≡ name ++ apart (decimal thread ∷ [])
thread-line name thread = ap (λ (l : List ℕ). name ++ l) (spaced-apart (thread ∷ []))

module _ (thread : ℕ) (send : SendPart) (receive : Receive) where
  -- the words behind the name of a begin
  abbrev pub begin_words : List (List ℕ)
  begin_words = decimal thread ∷ send_words send ++ receive_words receive

  -- the line of a begin
  pub begin-line : (name : List ℕ) → name ++ spaced (thread ∷ []) ++ send_text send ++ receive_text receive ≡ name ++ apart begin_words
  begin-line name =
      rw (spaced-apart (thread ∷ []), send-apart send, receive-apart receive)
      (append_assoc (name ++ apart (decimal thread ∷ [])) (apart (send_words send)) (apart (receive_words receive))
      ∙ append_assoc name (apart (decimal thread ∷ [])) (apart (send_words send) ++ apart (receive_words receive))
      ∙ ap (λ (l : List ℕ). name ++ l) (ap (λ (l : List ℕ). apart (decimal thread ∷ []) ++ l) (sym (apart-append (send_words send) (receive_words receive)))
      ∙ sym (apart-append (decimal thread ∷ []) (send_words send ++ receive_words receive))))

  -- they are words
  pub begin-words : are_words begin_words ≡ true
  begin-words = are-words-append (decimal thread ∷ []) (send_words send ++ receive_words receive) (words-decimal (thread ∷ []))
      (are-words-append (send_words send) (receive_words receive) (send-words send) (receive-words receive))

-- ---- lengths
-- numbers that are bytes or words of 32 bits, each behind a space
numbers-short : (k : ℕ) (numbers : List ℕ) → AllUnder 0x1_0000_0000 numbers → length numbers ≤ k → length (spaced numbers) ≤ 11 * k
numbers-short k numbers small few = omega (arith, spaced-short numbers small)

-- one number
one-short : (n : ℕ) → n < 256 → length (spaced (n ∷ [])) ≤ 11
one-short n small = numbers-short 1 (n ∷ []) (cons_under _ n [] (omega arith) (nil-under _ (omega arith))) (omega arith)

-- two numbers
two-short : (m n : ℕ) → m < 0x1_0000_0000 → n < 256 → length (spaced (m ∷ n ∷ [])) ≤ 22
two-short m n f g = numbers-short 2 (m ∷ n ∷ []) (cons_under _ m (n ∷ []) (omega arith) (cons_under _ n [] (omega arith) (nil-under _ (omega arith)))) (omega arith)

-- a receive part
receive-short : (receive : Receive) → partner_of receive < 256 → set_of receive < 0x1_0000_0000 → receive_time receive < 256 → length (receive_text receive) ≤ 34
unfolding receive_text ascii up_to
receive-short Absent p m t = omega arith
receive-short (Open wait) p m t = omega (arith, length-append (ascii " receive any") (spaced (wait.time ∷ [])), one-short wait.time t)
receive-short (Closed wait) p m t = omega (arith, length-append (ascii " receive") (spaced (wait.partner ∷ wait.time ∷ [])), two-short wait.partner wait.time (omega arith) t)
receive-short (OneOf time set) p m t = omega (arith, length-append (ascii " receive set") (spaced (set ∷ time ∷ [])), two-short set time m t)

-- a send part
send-short : (o : Operation) → FitsOperation o → length (send_text o.send) ≤ 2832
unfolding send_text sent_words
send-short o fits = chosen (λ text. length text ≤ 2832) o.send.present _ [] (behind (o.send.target ∷ o.send.time ∷ sent_words o.send) small few) (omega arith)
  where
    word : ℕ → ℕ
    word i = get_or o.send.words i 0

    small : AllUnder 0x1_0000_0000 (o.send.target ∷ o.send.time ∷ up_to o.send.count word)
    small = cons_under _ o.send.target (o.send.time ∷ up_to o.send.count word) (omega (arith, fits.target))
        (cons_under _ o.send.time (up_to o.send.count word) (omega (arith, fits.time)) (up_to-under 0x1_0000_0000 o.send.count word fits.words))

    few : length (o.send.target ∷ o.send.time ∷ up_to o.send.count word) ≤ 257
    few = omega (arith, length-up-to o.send.count word, fits.count)

    behind : (numbers : List ℕ) → AllUnder 0x1_0000_0000 numbers → length numbers ≤ 257 → length (ascii " send" ++ spaced numbers) ≤ 2832
    behind numbers u h = unfold ascii up_to in omega (arith, length-append (ascii " send") (spaced numbers), numbers-short 257 numbers u h)

-- the line of a record is no longer than the longest
pub line-short : LineShort
line-short r fits = line-cases (λ line. length line ≤ longest_line) r named begun alone
  where
    thread : List ℕ
    thread = spaced (r.thread ∷ [])

    named : (name : List ℕ) → is_word name ≡ true → length name ≤ 6 → length (name ++ thread) ≤ longest_line
    named name e short = omega (arith, length-append name thread, one-short r.thread fits.thread)

    begun : length (ascii "begin" ++ thread ++ send_text r.op.send ++ receive_text r.op.receive) ≤ longest_line
    begun = unfold ascii up_to in simp length-append
        (omega (arith, one-short r.thread fits.thread, send-short r.op fits.op, receive-short r.op.receive fits.op.partner fits.op.set fits.op.wait))

    alone : length (ascii "tick") ≤ longest_line
    alone = unfold ascii up_to in omega arith
