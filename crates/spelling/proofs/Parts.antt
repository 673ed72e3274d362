-- The words of an operation, and that they are read as the operation that they were made of.
use mathlib.Core.Path.{◌≡◌, refl, sym, ap, ◌∙◌}
use mathlib.Core.Bool.{true, false, cond}
use mathlib.Core.List.{List, [], ◌∷◌, ◌++◌, map}
use Prim.Native.Nat.{ℕ, zero, suc, ◌≤◌, ◌<◌, min}
use Prim.Native.Char.{code}
use native.Mathlib.Omega.{arith}
use lib.ListN.{length, get_or, set, replicate, length-set}
use lib.Seq.{ext_get_or, get_or-set_same, get_or-set_other}
use Rattle.model.specs.declared.SendPart.{SendPart}
use Rattle.model.specs.declared.Receive.{Receive}
use Rattle.model.specs.declared.Receive.TheVariants.{Absent, Open, Closed, OneOf}
use Rattle.model.specs.declared.Operation.{Operation}
use Rattle.model.specs.Lists.{up_to, same_numbers}
use Rattle.model.specs.Operations.{receive_time, open_part}
use Rattle.model.specs.Encoding.{partner_of, set_of}
use Rattle.model.specs.Threads.{no_operation}
use Rattle.model.specs.Refusals.{unless}
use Rattle.model.specs.Bondtrace.{ascii, decimal}
use Rattle.model.proofs.Laws.{by, same?}
use Rattle.laws.proofs.Lists.{cond-true, cond-false}
use Rattle.roundtrip.proofs.Lists.{up_to-under, replicate-under}
use Rattle.language.specs.Commands.{reached, read_numbers, Spelled, spelled, starts_with, closed, read_open, read_closed, read_one_of, read_partners, read_wait, read_receive, with_word, read_words, empty_send, read_send, read_parts}
use Rattle.language.specs.RecordText.{sent_words}
use Rattle.roundtrip.specs.Fits.{AllUnder, FitsOperation}
use Rattle.spelling.proofs.Numbers.{value-decimal, number-decimal, number-no_name, decimal-no-comma}
use Rattle.spelling.proofs.Letters.{byte-read, wide_read, word-not-wrong}

-- ---- a receive part
-- its words
unfoldable pub receive_words : Receive → List (List ℕ)
receive_words Absent = []
receive_words (Open wait) = ascii "receive" ∷ ascii "any" ∷ decimal wait.time ∷ []
receive_words (Closed wait) = ascii "receive" ∷ decimal wait.partner ∷ decimal wait.time ∷ []
receive_words (OneOf time set) = ascii "receive" ∷ ascii "set" ∷ decimal set ∷ decimal time ∷ []

-- two bytes are read
two_bytes : (m n : ℕ) (left : List (List ℕ)) → m < 256 → n < 256 → read_numbers (ascii "bb") (reached [] (decimal m ∷ decimal n ∷ left)) ≡ reached (m ∷ n ∷ []) left
unfolding read_numbers ascii up_to
two_bytes m n left f g = rw (byte-read m [] (decimal n ∷ left) f) (byte-read n (m ∷ []) left g)

-- one byte is
pub one_byte : (n : ℕ) (left : List (List ℕ)) → n < 256 → read_numbers (ascii "b") (reached [] (decimal n ∷ left)) ≡ reached (n ∷ []) left
unfolding read_numbers ascii up_to
one_byte n left g = byte-read n [] left g

-- a number is not the word `any`
not_any : (n : ℕ) (left : List (List ℕ)) → starts_with (ascii "any") (decimal n ∷ left) ≡ false
unfolding starts_with ascii up_to
not_any n left = number-no_name (decimal n) (code "a") (code "n" ∷ code "y" ∷ []) (number-decimal n) (omega arith)

-- nor the word `set`
not_set : (n : ℕ) (left : List (List ℕ)) → starts_with (ascii "set") (decimal n ∷ left) ≡ false
unfolding starts_with ascii up_to
not_set n left = number-no_name (decimal n) (code "s") (code "e" ∷ code "t" ∷ []) (number-decimal n) (omega arith)

-- nor the word `receive`
not-receive : (n : ℕ) → same_numbers (decimal n) (ascii "receive") ≡ false
unfolding ascii up_to
not-receive n = number-no_name (decimal n) (code "r") (code "e" ∷ code "c" ∷ code "e" ∷ code "i" ∷ code "v" ∷ code "e" ∷ []) (number-decimal n) (omega arith)

-- the words of a receive part are read as it
receive-read : (send : SendPart) (receive : Receive) → partner_of receive < 256 → set_of receive < 0x1_0000_0000 → receive_time receive < 256 → (open_part receive ≡ true → partner_of receive ≡ 0)
    → read_receive send (receive_words receive) ≡ spelled (record { send = send; receive = receive })
unfolding read_receive receive_words same_numbers ascii up_to
receive-read send Absent p m t o = refl
receive-read send (Open wait) p m t o = any_read
  where
    any_read : read_wait send (ascii "any" ∷ decimal wait.time ∷ []) ≡ spelled (record { send = send; receive = Open wait })
    any_read = unfold read_wait read_open starts_with closed in rw (one_byte wait.time [] t) (λ i. spelled (record { send = send; receive = Open (record { time = wait.time; partner = sym (o refl) i }) }))
receive-read send (Closed wait) p m t o = one-read
  where
    one-read : read_wait send (decimal wait.partner ∷ decimal wait.time ∷ []) ≡ spelled (record { send = send; receive = Closed wait })
    one-read = unfold read_wait read_partners read_closed closed in
        rw (not_any wait.partner (decimal wait.time ∷ []), not_set wait.partner (decimal wait.time ∷ []), decimal-no-comma wait.partner, two_bytes wait.partner wait.time [] p t) refl
receive-read send (OneOf time set) p m t o = set-read
  where
    set-read : read_wait send (ascii "set" ∷ decimal set ∷ decimal time ∷ []) ≡ spelled (record { send = send; receive = OneOf time set })
    set-read = unfold read_wait read_one_of read_numbers starts_with closed in rw (wide_read set [] (decimal time ∷ []) m, byte-read time (set ∷ []) [] t) refl

-- ---- the words of a send part
-- a send part with words put into it one after the other
unfoldable pub with_words : List ℕ → SendPart → SendPart
with_words [] send = send
with_words (word ∷ words) send = with_words words (with_word word send)

-- then one word more
with_words-last : (words : List ℕ) (word : ℕ) (send : SendPart) → with_words (words ++ (word ∷ [])) send ≡ with_word word (with_words words send)
unfolding with_words
with_words-last [] word send = refl
with_words-last (first ∷ words) word send = with_words-last words word (with_word first send)

-- behind the last word the receive part is read
words-end : (send : SendPart) (receive : Receive) → read_words send (receive_words receive) ≡ read_receive send (receive_words receive)
unfolding read_words receive_words same_numbers ascii up_to
words-end send Absent = refl
words-end send (Open wait) = refl
words-end send (Closed wait) = refl
words-end send (OneOf time set) = refl

-- one word is read into a send part
word_read : (word : ℕ) (send : SendPart) (left : List (List ℕ)) → word < 0x1_0000_0000 → read_words send (decimal word ∷ left) ≡ read_words (with_word word send) left
unfolding read_words unless
word_read word send left small = rw (not-receive word, word-not-wrong word small, value-decimal word) refl

-- all of them are
words-read : (words : List ℕ) (send : SendPart) (receive : Receive) → AllUnder 0x1_0000_0000 words
    → read_words send (map decimal words ++ receive_words receive) ≡ read_receive (with_words words send) (receive_words receive)
unfolding with_words
words-read [] send receive small = words-end send receive
words-read (word ∷ words) send receive small =
    word_read word send (map decimal words ++ receive_words receive) (small 0) ∙ words-read words (with_word word send) receive (λ i. small (suc i))

-- the first k values of a function put into a list
unfoldable filled : ℕ → (ℕ → ℕ) → List ℕ → List ℕ
filled zero f words = words
filled (suc k) f words = set (filled k f words) k (f k)

-- the list stays as long as it is
length-filled : (k : ℕ) (f : ℕ → ℕ) (words : List ℕ) → length (filled k f words) ≡ length words
unfolding filled
length-filled zero f words = refl
length-filled (suc k) f words = length-set (filled k f words) k (f k) ∙ length-filled k f words

-- a list whose first k words are put into one that has the others already
filled-place : (k : ℕ) (new old : List ℕ) (i : ℕ) → i < length old → (k ≤ i → get_or old i 0 ≡ get_or new i 0) → get_or (filled k (λ j. get_or new j 0) old) i 0 ≡ get_or new i 0
unfolding filled
filled-place zero new old i h same = same (omega arith)
filled-place (suc k) new old i h same = same? i k
    (λ e. rw e (get_or-set_same (filled k (λ j. get_or new j 0) old) k (get_or new k 0) 0 (omega (arith, length-filled k (λ j. get_or new j 0) old))))
    (λ d. get_or-set_other (filled k (λ j. get_or new j 0) old) k i (get_or new k 0) 0 d ∙ filled-place k new old i h (λ l. same (omega arith)))

-- is that list
filled-whole : (k : ℕ) (new old : List ℕ) → length new ≡ length old → ((i : ℕ) → k ≤ i → get_or old i 0 ≡ get_or new i 0) → filled k (λ j. get_or new j 0) old ≡ new
filled-whole k new old long same = ext_get_or 0 _ new (length-filled k (λ j. get_or new j 0) old ∙ sym long)
    (λ i h. filled-place k new old i (omega (arith, length-filled k (λ j. get_or new j 0) old)) (same i))

-- a send part with the first k values of a function put into it, from no words on
abbrev fill : ℕ → (ℕ → ℕ) → ℕ → ℕ → SendPart
fill k f target time = record { present = true; target = target; count = k; time = time; words = filled k f (replicate 8 0) }

-- with one word more
fill-next : (k : ℕ) (f : ℕ → ℕ) (target time : ℕ) → k < 255 → with_word (f k) (fill k f target time) ≡ fill (suc k) f target time
unfolding with_word filled
fill-next k f target time h = let few : min 255 (suc k) ≡ suc k = omega arith in rw few refl

-- is what the words make of an empty one
with_words-filled : (k : ℕ) (f : ℕ → ℕ) (target time : ℕ) → k ≤ 255 → with_words (up_to k f) (empty_send (target ∷ time ∷ [])) ≡ fill k f target time
unfolding up_to with_words empty_send filled
with_words-filled zero f target time h = refl
with_words-filled (suc k) f target time h =
    with_words-last (up_to k f) (f k) (empty_send (target ∷ time ∷ [])) ∙ ap (with_word (f k)) (with_words-filled k f target time (omega arith)) ∙ fill-next k f target time (omega arith)

-- ---- operations
-- the words of a send part
unfoldable pub send_words : SendPart → List (List ℕ)
send_words send = cond send.present (ascii "send" ∷ decimal send.target ∷ decimal send.time ∷ map decimal (sent_words send)) []

-- those of one that is there are read, and then the receive part
send-read : (target time : ℕ) (words : List ℕ) (receive : Receive) → target < 256 → time < 256 → AllUnder 0x1_0000_0000 words
    → read_parts (ascii "send" ∷ decimal target ∷ decimal time ∷ map decimal words ++ receive_words receive) ≡ read_receive (with_words words (empty_send (target ∷ time ∷ []))) (receive_words receive)
unfolding read_parts starts_with read_send same_numbers ascii up_to
send-read target time words receive t c small =
    ap read_send (two_bytes target time (map decimal words ++ receive_words receive) t c) ∙ words-read words (empty_send (target ∷ time ∷ [])) receive small

-- without one the receive part is read
no-send-read : (receive : Receive) → read_parts (receive_words receive) ≡ read_receive no_operation.send (receive_words receive)
unfolding read_parts starts_with receive_words same_numbers ascii up_to
no-send-read Absent = refl
no-send-read (Open wait) = refl
no-send-read (Closed wait) = refl
no-send-read (OneOf time set) = refl

-- what a lawful begin says of its operation: nothing stands where the parts do not use it
pub record Tidy (o : Operation) : Type 0 where
  pub unsent : o.send.present ≡ false → no_operation.send ≡ o.send
  pub beyond : (i : ℕ) → o.send.count ≤ i → get_or o.send.words i 0 ≡ 0
  pub anyone : open_part o.receive ≡ true → partner_of o.receive ≡ 0

module _ (o : Operation) (fits : FitsOperation o) (tidy : Tidy o) where
  -- the words that are past the count are 0, as they were before any word was read
  words-filled : filled o.send.count (λ i. get_or o.send.words i 0) (replicate 8 0) ≡ o.send.words
  words-filled = filled-whole o.send.count o.send.words (replicate 8 0) fits.eight
      (λ i h. let zero-before : get_or (replicate 8 0) i 0 < 1 = replicate-under 1 8 0 (omega arith) i in omega (arith, tidy.beyond i h))

  -- so the send part is made of its words again
  send-filled : o.send.present ≡ true → with_words (sent_words o.send) (empty_send (o.send.target ∷ o.send.time ∷ [])) ≡ o.send
  unfolding sent_words
  send-filled e =
      with_words-filled o.send.count (λ i. get_or o.send.words i 0) o.send.target o.send.time (omega (arith, fits.count))
      ∙ (λ i. record { present = sym e i; target = o.send.target; count = o.send.count; time = o.send.time; words = words-filled i })

  -- once a send part is read, the operation is
  operation-read : (send : SendPart) → send ≡ o.send → read_receive send (receive_words o.receive) ≡ spelled o
  operation-read send e =
      receive-read send o.receive fits.partner fits.set fits.wait tidy.anyone ∙ ap {B = Spelled} (λ (s : SendPart). spelled (record { send = s; receive = o.receive })) e

  -- an operation is read from its words
  pub parts-read : read_parts (send_words o.send ++ receive_words o.receive) ≡ spelled o
  unfolding send_words
  parts-read = by o.send.present
      (λ e. ap (λ (w : List (List ℕ)). read_parts (w ++ receive_words o.receive)) (cond-true o.send.present _ [] e)
      ∙ send-read o.send.target o.send.time (sent_words o.send) o.receive fits.target fits.time words_small
      ∙ operation-read _ (send-filled e))
      (λ e. ap (λ (w : List (List ℕ)). read_parts (w ++ receive_words o.receive)) (cond-false o.send.present _ [] e)
      ∙ no-send-read o.receive
      ∙ operation-read no_operation.send (tidy.unsent e))
    where
      words_small : AllUnder 0x1_0000_0000 (sent_words o.send)
      words_small = unfold sent_words in up_to-under 0x1_0000_0000 o.send.count (λ i. get_or o.send.words i 0) fits.words
