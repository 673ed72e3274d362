-- Document 01, "The table": the word store, and the eight words of each thread in it.
use Rattle.std.specs.Prelude.{List, ℕ, ◌+◌, ◌*◌, get_or, set, take, drop, replicate}
use Rattle.std.proofs.lemmas.List.Edits.{sets}
use Rattle.model.specs.declared.Thread.{Thread}

-- "the eight words of thread t start at place 8×t"
unfoldable pub words_at : List ℕ → ℕ → List ℕ
words_at store x = take 8 (drop (8 * x) store)

-- the store with thread x's eight words zero
unfoldable pub zeroed : ℕ → List ℕ → List ℕ
zeroed x store = sets store (8 * x) (replicate 8 0)

-- copying sets the next word of the target's slice of the store
unfoldable pub word_copied : Thread → List ℕ → List ℕ
word_copied h store = set store (8 * h.op.send.target + h.copied) (get_or h.op.send.words h.copied 0)
