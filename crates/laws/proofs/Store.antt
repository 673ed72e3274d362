-- The word store: what a write into one thread's words leaves of the others, and the words of a thread one by one.
use mathlib.Core.Path.{◌≡◌, refl, ap, ◌∙◌}
use mathlib.Core.Logic.{◌≢◌, ◌⊎◌, inl, inr, ⊎_elim}
use mathlib.Core.List.{List, [], ◌∷◌}
use Prim.Native.Nat.{ℕ, suc, ◌+◌, ◌-◌, ◌*◌, ◌≤◌, ◌<◌}
use native.Mathlib.Omega.{arith}
use lib.ListN.{length, get_or, set, take, drop, replicate, length-drop, length-set}
use lib.Seq.{length-take-le, get_or-set_same, get_or-set_other, take-set-le, drop-set-lt, drop-set-add, get_or-take, get_or-drop, sets, length-sets}
use lib.Dec.{ltb}
use borrow.Author.Tests.{ltb-true, ltb-false}
use Rattle.model.specs.declared.SendPart.{SendPart}
use Rattle.model.specs.declared.Thread.{Thread}
use Rattle.model.specs.Operations.{word_limit, message}
use Rattle.model.specs.Store.{words_at, zeroed, word_copied}
use Rattle.model.specs.Step.{Action, stay, take_lock, abort_send, start_copy, to_release, copy_word, finish_call, finish_send, free_target, retry, to_idle, abort_receive, take_sender, clear_poll, free_sender, store_after}
use Rattle.laws.proofs.Below.{take-up-to}
use Rattle.model.proofs.Laws.{by}

-- the place of thread y's j-th word
abbrev pub word_place : ℕ → ℕ → ℕ
word_place y j = 8 * y + j

-- ---- writes outside a thread's words
-- place i is outside thread y's words
abbrev pub Outside : ℕ → ℕ → Type 0
Outside i y = (i < 8 * y) ⊎ (8 * y + 8 ≤ i)

-- a place of thread x's words is outside those of any other thread
pub outside-other : (x y k : ℕ) → y ≢ x → k < word_limit → Outside (word_place x k) y
outside-other x y k d l = by (ltb (8 * x + k) (8 * y))
    (λ e. inl (ltb-true (8 * x + k) (8 * y) e))
    (λ e. inr (let f : 8 * y ≤ 8 * x + k = ltb-false (8 * x + k) (8 * y) e in omega arith))

-- a write outside a thread's words leaves them
pub words-set-other : (store : List ℕ) (i v y : ℕ) → Outside i y → words_at (set store i v) y ≡ words_at store y
unfolding words_at
words-set-other store i v y o = ⊎_elim
    (λ l. ap (take 8) (drop-set-lt (8 * y) store i v l))
    (λ l. let e : i ≡ 8 * y + (i - 8 * y) = omega arith in
    rw e (rw (drop-set-add (8 * y) store (i - 8 * y) v) (take-set-le 8 (drop (8 * y) store) (i - 8 * y) v (omega arith))))
    o

-- writes into thread x's words leave those of any other thread
words_sets_other : (vs store : List ℕ) (x y i : ℕ) → y ≢ x → 8 * x ≤ i → i + length vs ≤ 8 * x + 8 → words_at (sets store i vs) y ≡ words_at store y
words_sets_other [] store x y i d low high = refl
words_sets_other (v ∷ vs) store x y i d low high =
    let e : i ≡ 8 * x + (i - 8 * x) = omega arith in
    words_sets_other vs (set store i v) x y (suc i) d (omega arith) (omega arith)
    ∙ words-set-other store i v y (rw e (outside-other x y (i - 8 * x) d (omega arith)))

-- zeroing thread x's words leaves those of any other thread
pub words-zeroed-other : (store : List ℕ) (x y : ℕ) → y ≢ x → words_at (zeroed x store) y ≡ words_at store y
unfolding zeroed
words-zeroed-other store x y d = words_sets_other (replicate 8 0) store x y (8 * x) d (omega arith) (omega arith)

-- zeroing a thread's words keeps the store's length
pub length-zeroed : (x : ℕ) (store : List ℕ) → length (zeroed x store) ≡ length store
unfolding zeroed
length-zeroed x store = length-sets store (8 * x) (replicate 8 0)

-- ---- a word copied by thread h
-- the place that it is written to
abbrev pub copy_place : Thread → ℕ
copy_place h = word_place h.op.send.target h.copied

module _ (h : Thread) (store : List ℕ) where
  -- the store keeps its length
  pub length-word-copied : length (word_copied h store) ≡ length store
  unfolding word_copied
  length-word-copied = length-set store (copy_place h) (get_or h.op.send.words h.copied 0)

  -- at that place stands the word
  pub word-copied-here : copy_place h < length store → get_or (word_copied h store) (copy_place h) 0 ≡ get_or h.op.send.words h.copied 0
  unfolding word_copied
  word-copied-here l = get_or-set_same store (copy_place h) (get_or h.op.send.words h.copied 0) 0 l

  -- every other place is as it was
  pub word-copied-elsewhere : (i : ℕ) → i ≢ copy_place h → get_or (word_copied h store) i 0 ≡ get_or store i 0
  unfolding word_copied
  word-copied-elsewhere i d = get_or-set_other store (copy_place h) i (get_or h.op.send.words h.copied 0) 0 d

  -- the words of every thread but the target are as they were
  pub words-copied-other : (y : ℕ) → y ≢ h.op.send.target → h.copied < word_limit → words_at (word_copied h store) y ≡ words_at store y
  unfolding word_copied
  words-copied-other y d l = words-set-other store (copy_place h) _ y (outside-other h.op.send.target y h.copied d l)

-- ---- the words of a thread
-- thread y's word j
pub word-at : (store : List ℕ) (y j : ℕ) → j < word_limit → get_or (words_at store y) j 0 ≡ get_or store (word_place y j) 0
unfolding words_at
word-at store y j l = get_or-take 8 (drop (8 * y) store) j 0 l ∙ get_or-drop (8 * y) store j 0

module _ (store : List ℕ) (n y : ℕ) (fit : length store ≡ 8 * n) (below : y < n) where
  -- a thread of the table has eight words
  pub length-words : length (words_at store y) ≡ 8
  unfolding words_at
  length-words = length-take-le 8 (drop (8 * y) store) (rw length-drop (omega arith))

  -- its first words are a message, where they are so one by one
  pub words-are-message : (part : SendPart) → part.count ≤ word_limit → ((j : ℕ) → j < part.count → get_or (words_at store y) j 0 ≡ get_or part.words j 0)
      → take part.count (words_at store y) ≡ message part
  unfolding message
  words-are-message part few h = take-up-to (words_at store y) 0 part.count (λ i. get_or part.words i 0) (omega (arith, length-words)) h

-- ---- the store after a step
-- a step leaves the store as it was, or copies one word
pub step-store : (a : Action) (h : Thread) (store : List ℕ) → (store_after a h store ≡ store) ⊎ ((a ≡ copy_word) × (store_after a h store ≡ word_copied h store))
unfolding store_after
step-store (stay a) h store = inl refl
step-store take_lock h store = inl refl
step-store (abort_send c) h store = inl refl
step-store start_copy h store = inl refl
step-store to_release h store = inl refl
step-store copy_word h store = inr (refl, refl)
step-store finish_call h store = inl refl
step-store finish_send h store = inl refl
step-store (free_target p) h store = inl refl
step-store retry h store = inl refl
step-store to_idle h store = inl refl
step-store (abort_receive c) h store = inl refl
step-store (take_sender s) h store = inl refl
step-store clear_poll h store = inl refl
step-store free_sender h store = inl refl
