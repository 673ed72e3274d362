-- The operation of a begin as bytes, and back.
use mathlib.Core.Path.{◌≡◌, refl, sym, ap, ◌∙◌}
use mathlib.Core.Logic.{◌≢◌}
use mathlib.Core.Bool.{Bool, true, false, cond, true≢false, false≢true}
use mathlib.Core.List.{List, [], ◌∷◌, ◌++◌, map, append-nil, map-append}
use Prim.Native.Nat.{ℕ, zero, suc, ◌+◌, ◌*◌, ◌/◌, ◌%◌, ◌≤◌}
use native.Mathlib.Omega.{arith}
use native.Mathlib.Nat.{div-div-eq-div-mul}
use lib.ListN.{length, take, drop, length-drop, take-append-drop}
use lib.Seq.{take_all}
use lib.Dec.{eqb}
use borrow.Author.Tests.{eqb-true, eqb-false, leb-true, not-true}
use Rattle.model.specs.declared.Wait.{Wait}
use Rattle.model.specs.declared.Receive.{Receive}
use Rattle.model.specs.declared.Receive.TheVariants.{Absent, Open, Closed, OneOf}
use Rattle.model.specs.declared.Operation.{Operation}
use Rattle.model.specs.Lists.{bit, concat, up_to}
use Rattle.model.specs.Operations.{has_receive, receive_time, open_part, names_set}
use Rattle.model.specs.RecordBytes.{byte, parts_byte, partner_byte, receive_time_byte, send_bit, receive_bit, open_bit, word_at, lawful_begin, lawful_set}
use Rattle.model.specs.Encoding.{word_bytes, partner_of, set_of, set_bytes, parts_of, operation_bytes}
use Rattle.model.specs.Decoding.{operation_of, set_operation_of}
use Rattle.model.proofs.Laws.{by, implies-read, all_of-read, length-up-to}
use Rattle.laws.proofs.Lists.{bit-small}
use Rattle.laws.proofs.Below.{take-up-to}
use Rattle.laws.proofs.Joined.{concat_snoc}
use Rattle.laws.proofs.Schedule.{set-bytes, no-set-bytes}
use Rattle.roundtrip.specs.Fits.{Bytes, FitsOperation}
use Rattle.roundtrip.proofs.Lists.{up_to-under, append-under, nil-under}
use Rattle.roundtrip.proofs.Words.{words-bytes, words-read, word-behind, words-written, word_small, word-bytes}

-- the receive part that two bits choose
abbrev chosen : Wait → Bool → Bool → Receive
chosen wait receives opens = cond receives (cond opens (Open wait) (Closed wait)) Absent

-- ---- written and read
-- the parts byte of a send part or none, and of a receive part or none
abbrev pub parts : Bool → Receive → ℕ
parts sends w = bit sends + 2 * bit (has_receive w) + 4 * bit (open_part w)

-- it says whether there is a send part
pub sends-read : (sends : Bool) (w : Receive) → send_bit (parts sends w) ≡ sends
unfolding send_bit
sends-read true Absent = refl
sends-read true (Open w) = refl
sends-read true (Closed w) = refl
sends-read true (OneOf time set) = refl
sends-read false Absent = refl
sends-read false (Open w) = refl
sends-read false (Closed w) = refl
sends-read false (OneOf time set) = refl

-- and which receive part, where that names no set
receive-read : (sends : Bool) (w : Receive) → names_set w ≡ false → chosen (record { time = receive_time w; partner = partner_of w }) (receive_bit (parts sends w)) (open_bit (parts sends w)) ≡ w
unfolding receive_bit open_bit
receive-read true Absent h = refl
receive-read true (Open w) h = refl
receive-read true (Closed w) h = refl
receive-read true (OneOf time set) h = absurd (true≢false h)
receive-read false Absent h = refl
receive-read false (Open w) h = refl
receive-read false (Closed w) h = refl
receive-read false (OneOf time set) h = absurd (true≢false h)

-- or its set
set-named : (w : Receive) → names_set w ≡ true → OneOf (receive_time w) (set_of w) ≡ w
set-named Absent h = absurd (false≢true h)
set-named (Open w) h = absurd (false≢true h)
set-named (Closed w) h = absurd (false≢true h)
set-named (OneOf time set) h = refl

module _ (a b c d : ℕ) (o : Operation) (fits : FitsOperation o) where
  -- the first ten bytes
  abbrev pub head : List ℕ
  head = a ∷ b ∷ c ∷ d ∷ parts_of o ∷ o.send.target ∷ partner_of o.receive ∷ o.send.count ∷ o.send.time ∷ receive_time o.receive ∷ []

  -- the words behind them
  pub words_back : up_to 8 (word_at (head ++ (concat (map word_bytes o.send.words) ++ set_bytes o.receive))) ≡ o.send.words
  words_back = words-read head o.send.words (set_bytes o.receive) refl 8 fits.eight fits.words

  -- an operation that was written past four bytes is read
  pub operation-read : names_set o.receive ≡ false → operation_of (a ∷ b ∷ c ∷ d ∷ operation_bytes o) ≡ o
  unfolding operation_of operation_bytes parts_of
  operation-read none = λ i. record {
    send = record { present = sends-read o.send.present o.receive i; target = o.send.target; count = o.send.count; time = o.send.time; words = words_back i };
    receive = receive-read o.send.present o.receive none i;
  }

  -- the set behind the words
  set_back : names_set o.receive ≡ true → word_at (head ++ (concat (map word_bytes o.send.words) ++ set_bytes o.receive)) 8 ≡ set_of o.receive
  set_back named = word-behind head o.send.words (set_bytes o.receive) refl (set_of o.receive) (set-bytes o.receive named) fits.set 8 fits.eight

  -- and so is one that names a set
  pub set-operation-read : names_set o.receive ≡ true → set_operation_of (a ∷ b ∷ c ∷ d ∷ operation_bytes o) ≡ o
  unfolding set_operation_of operation_of operation_bytes parts_of
  set-operation-read named = (λ i. record {
    send = record { present = sends-read o.send.present o.receive i; target = o.send.target; count = o.send.count; time = o.send.time; words = words_back i };
    receive = OneOf (receive_time o.receive) (set_back named i);
  }) ∙ (λ i. record { send = o.send; receive = set-named o.receive named i })

-- what is written of an operation are bytes
pub operation-bytes : (o : Operation) → FitsOperation o → Bytes (operation_bytes o)
unfolding operation_bytes parts_of
operation-bytes o fits zero = omega (arith, bit-small o.send.present, bit-small (has_receive o.receive), bit-small (open_part o.receive))
operation-bytes o fits (suc zero) = fits.target
operation-bytes o fits (suc (suc zero)) = fits.partner
operation-bytes o fits (suc (suc (suc zero))) = fits.count
operation-bytes o fits (suc (suc (suc (suc zero)))) = fits.time
operation-bytes o fits (suc (suc (suc (suc (suc zero))))) = fits.wait
operation-bytes o fits (suc (suc (suc (suc (suc (suc i)))))) = append-under 256 (concat (map word_bytes o.send.words)) (set_bytes o.receive) (words-bytes o.send.words) (set-small o.receive) i
  where
    set-small : (w : Receive) → Bytes (set_bytes w)
    set-small Absent = nil-under 256 (omega arith)
    set-small (Open w) = nil-under 256 (omega arith)
    set-small (Closed w) = nil-under 256 (omega arith)
    set-small (OneOf time set) = word-bytes set

-- ---- read and written
-- a test for an odd number, as a number
odd-bit : (k : ℕ) → bit (eqb (k % 2) 1) ≡ k % 2
odd-bit k =
    by (eqb (k % 2) 1)
    (λ e. let i : k % 2 ≡ 1 = eqb-true (k % 2) 1 e in rw e (omega arith))
    (λ e. let i : k % 2 ≢ 1 = eqb-false (k % 2) 1 e in rw e (omega arith))

-- a parts byte is the sum of its three bits
parts-sum : (parts : ℕ) → parts ≤ 7 → bit (send_bit parts) + 2 * bit (receive_bit parts) + 4 * bit (open_bit parts) ≡ parts
unfolding send_bit receive_bit open_bit
parts-sum parts small = rw (odd-bit parts, odd-bit (parts / 2), odd-bit (parts / 4), ← div-div-eq-div-mul parts 2 2) (omega arith)

-- the bytes of words and of one more
nine : (words : List ℕ) (word : ℕ) → concat (map word_bytes (words ++ (word ∷ []))) ≡ concat (map word_bytes words) ++ word_bytes word
nine words word = rw (map-append, concat_snoc) refl

module _ (wait : Wait) where
  -- the chosen receive part is there where the first bit is set
  chosen-there : (receives opens : Bool) → has_receive (chosen wait receives opens) ≡ receives
  chosen-there true true = refl
  chosen-there true false = refl
  chosen-there false opens = refl

  -- it is open where the second bit is set
  chosen-open : (receives opens : Bool) → (opens ≡ true → receives ≡ true) → open_part (chosen wait receives opens) ≡ opens
  chosen-open true true h = refl
  chosen-open true false h = refl
  chosen-open false true h = h refl
  chosen-open false false h = refl

  -- its time code is kept
  chosen-time : (receives opens : Bool) → (receives ≡ false → wait.time ≡ 0) → receive_time (chosen wait receives opens) ≡ wait.time
  chosen-time true true h = refl
  chosen-time true false h = refl
  chosen-time false opens h = sym (h refl)

  -- it names no set
  chosen-bare : (receives opens : Bool) → names_set (chosen wait receives opens) ≡ false
  chosen-bare true true = refl
  chosen-bare true false = refl
  chosen-bare false opens = refl

  -- nor has it one
  chosen-set : (receives opens : Bool) → set_of (chosen wait receives opens) ≡ 0
  chosen-set true true = refl
  chosen-set true false = refl
  chosen-set false opens = refl

  -- its partner is kept
  chosen-partner : (receives opens : Bool) → (receives ≡ false → wait.partner ≡ 0) → partner_of (chosen wait receives opens) ≡ wait.partner
  chosen-partner true true h = refl
  chosen-partner true false h = refl
  chosen-partner false opens h = sym (h refl)

-- a begin that is read names no set
pub read-bare : (bytes : List ℕ) → names_set (operation_of bytes).receive ≡ false
unfolding operation_of
read-bare bytes = chosen-bare (record { time = receive_time_byte bytes; partner = partner_byte bytes }) (receive_bit (parts_byte bytes)) (open_bit (parts_byte bytes))

-- the first ten bytes, one by one
ten_bytes : (bytes : List ℕ) → 10 ≤ length bytes
    → bytes ≡ byte bytes 0 ∷ byte bytes 1 ∷ byte bytes 2 ∷ byte bytes 3 ∷ byte bytes 4 ∷ byte bytes 5 ∷ byte bytes 6 ∷ byte bytes 7 ∷ byte bytes 8 ∷ byte bytes 9 ∷ drop 10 bytes
unfolding up_to
ten_bytes bytes long = sym (take-append-drop 10 bytes) ∙ ap (λ l. l ++ drop 10 bytes) (take-up-to bytes 0 10 (byte bytes) long (λ j l. refl))

module _ (bytes : List ℕ) (lawful : lawful_begin bytes ≡ true) where
  -- the bytes of a wait
  abbrev wait : Wait
  wait = record { time = receive_time_byte bytes; partner = partner_byte bytes }

  -- the receive bit of the parts byte
  abbrev receives : Bool
  receives = receive_bit (parts_byte bytes)

  -- and its open bit
  abbrev opens : Bool
  opens = open_bit (parts_byte bytes)

  -- "nothing above 7"
  parts-small : parts_byte bytes ≤ 7
  unfolding lawful_begin
  parts-small = leb-true (parts_byte bytes) 7 (all_of-read _ lawful).0

  -- "4 open, only with 2"
  open-receives : opens ≡ true → receives ≡ true
  unfolding lawful_begin
  open-receives = implies-read _ _ (all_of-read _ lawful).1.0

  -- without a receive part its time code is 0
  no-time : receives ≡ false → receive_time_byte bytes ≡ 0
  unfolding lawful_begin
  no-time e = eqb-true (receive_time_byte bytes) 0 (implies-read _ _ (all_of-read _ lawful).1.1.1.0 (rw e refl))

  -- and its partner
  no-partner : receives ≡ false → partner_byte bytes ≡ 0
  unfolding lawful_begin
  no-partner e = eqb-true (partner_byte bytes) 0 (implies-read _ _ (all_of-read _ lawful).1.1.1.1.0 (rw e refl))

  -- the parts byte is that of the operation
  parts-written : parts_of (operation_of bytes) ≡ parts_byte bytes
  unfolding parts_of operation_of
  parts-written = rw (chosen-there wait receives opens, chosen-open wait receives opens open-receives) (parts-sum (parts_byte bytes) parts-small)

  -- the operation that was read from a begin is written as the bytes past its fourth
  pub operation-written : Bytes bytes → length bytes ≡ 42 → byte bytes 0 ∷ byte bytes 1 ∷ byte bytes 2 ∷ byte bytes 3 ∷ operation_bytes (operation_of bytes) ≡ bytes
  unfolding operation_bytes operation_of
  operation-written u long =
      (λ i. byte bytes 0 ∷ byte bytes 1 ∷ byte bytes 2 ∷ byte bytes 3 ∷ parts-written i ∷ byte bytes 5 ∷ chosen-partner wait receives opens no-partner i
      ∷ byte bytes 7 ∷ byte bytes 8 ∷ chosen-time wait receives opens no-time i ∷ words i)
      ∙ sym (ten_bytes bytes (omega arith))
    where
      words : concat (map word_bytes (up_to 8 (word_at bytes))) ++ set_bytes (chosen wait receives opens) ≡ drop 10 bytes
      words = rw (no-set-bytes (chosen wait receives opens) (chosen-bare wait receives opens), append-nil (concat (map word_bytes (up_to 8 (word_at bytes))))) (words-written bytes u 8 (omega arith) ∙ take_all 32 (drop 10 bytes) (rw length-drop (omega arith)))

  -- ---- of a begin with a set
  module _ (rules : lawful_set bytes ≡ true) where
    -- "its parts with 2"
    set-receives : receives ≡ true
    unfolding lawful_set
    set-receives = (all_of-read _ rules).0

    -- "and without 4"
    set-closed : opens ≡ false
    unfolding lawful_set
    set-closed = not-true opens (all_of-read _ rules).1.0

    -- "and partner 0"
    set-alone : partner_byte bytes ≡ 0
    unfolding lawful_set
    set-alone = eqb-true (partner_byte bytes) 0 (all_of-read _ rules).1.1.0

    -- the parts byte is that of the operation
    set-parts : parts_of (set_operation_of bytes) ≡ parts_byte bytes
    unfolding parts_of set_operation_of operation_of
    set-parts = (let e = sym set-receives in let f = sym set-closed in λ i. bit (send_bit (parts_byte bytes)) + 2 * bit (e i) + 4 * bit (f i)) ∙ parts-sum (parts_byte bytes) parts-small

    -- the operation that was read is written as the bytes past the fourth
    pub set-operation-written : Bytes bytes → length bytes ≡ 46 → byte bytes 0 ∷ byte bytes 1 ∷ byte bytes 2 ∷ byte bytes 3 ∷ operation_bytes (set_operation_of bytes) ≡ bytes
    unfolding operation_bytes set_operation_of operation_of
    set-operation-written u long =
        (λ i. byte bytes 0 ∷ byte bytes 1 ∷ byte bytes 2 ∷ byte bytes 3 ∷ set-parts i ∷ byte bytes 5 ∷ sym set-alone i ∷ byte bytes 7 ∷ byte bytes 8 ∷ byte bytes 9 ∷ words i)
        ∙ sym (ten_bytes bytes (omega arith))
      where
        ninth : concat (map word_bytes (up_to 8 (word_at bytes) ++ (word_at bytes 8 ∷ []))) ≡ take 36 (drop 10 bytes)
        ninth = unfold up_to in words-written bytes u 9 (omega arith)

        words : concat (map word_bytes (up_to 8 (word_at bytes))) ++ word_bytes (word_at bytes 8) ≡ drop 10 bytes
        words = sym (nine (up_to 8 (word_at bytes)) (word_at bytes 8)) ∙ ninth ∙ take_all 36 (drop 10 bytes) (rw length-drop (omega arith))

    -- and its fields are in range
    pub set-operation-fits : Bytes bytes → FitsOperation (set_operation_of bytes)
    unfolding set_operation_of operation_of
    set-operation-fits u = record {
      target = u 5;
      count = u 7;
      time = u 8;
      eight = length-up-to 8 (word_at bytes);
      words = up_to-under 0x1_0000_0000 8 (word_at bytes) (word_small bytes u);
      partner = omega arith;
      set = word_small bytes u 8;
      wait = u 9;
    }

  -- and its fields are in range
  pub operation-fits : Bytes bytes → FitsOperation (operation_of bytes)
  unfolding operation_of
  operation-fits u = record {
    target = u 5;
    count = u 7;
    time = u 8;
    eight = length-up-to 8 (word_at bytes);
    words = up_to-under 0x1_0000_0000 8 (word_at bytes) (word_small bytes u);
    partner = rw (chosen-partner wait receives opens no-partner) (u 6);
    set = rw (chosen-set wait receives opens) (omega arith);
    wait = rw (chosen-time wait receives opens no-time) (u 9);
  }
