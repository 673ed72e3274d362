-- Laws of slices of the word store, in the form in which the code borrows them.
use Rattle.std.specs.Prelude.{◌≡◌, List, ℕ, ◌+◌, ◌-◌, ◌*◌, ◌≤◌, min, length, take, drop, replicate}
use Rattle.std.proofs.Common.{arith, append_assoc}
use Rattle.std.proofs.lemmas.List.{length-take, length-drop, length-take-le, take_all, take-take, take_min, drop_min, drop-drop}
use Rattle.std.proofs.lemmas.List.Edits.{sets-eq}
use borrow.Rule.Slice.PartMut.{mid_of, put_mid}
use Rattle.model.specs.Store.{words_at, zeroed}

-- the slice from place a to place a + k is k long
slice-length : (a k : ℕ) → a + k - a ≡ k
slice-length a k = omega arith

-- zeros put in the place of the slice of thread x's words make the store zeroed there
pub zeros-put : (store : List ℕ) (x : ℕ) → 8 * x + 8 ≤ length store
    → put_mid (8 * x) (8 * x + 8 - 8 * x) store (replicate (length (mid_of (8 * x) (8 * x + 8 - 8 * x) store)) 0) ≡ zeroed x store
unfolding zeroed
zeros-put store x long = rw (slice-length, length-take-le 8 (drop (8 * x) store) (rw length-drop (omega arith)), sets-eq (replicate 8 0) store (8 * x) long, drop-drop, append_assoc)

-- the slice between two places that the store has is the first count words of thread x
pub first-there : (store : List ℕ) (x count : ℕ) {start most stop : ℕ} → start ≡ min (8 * x) (length store) → most ≡ min count 8 → stop ≡ min (start + most) (length store)
    → take (stop - start) (drop start store) ≡ take count (words_at store x)
unfolding words_at
first-there store x count {start} {most} {stop} starts few stops =
    let own = drop (8 * x) store in
    let e : stop - start ≡ min count (length (take 8 own)) = omega (arith, length-drop (8 * x) store, length-take 8 own) in
    let first : min count (length (take 8 own)) ≤ 8 = omega (arith, length-take 8 own) in
    rw (e, starts, drop_min) (rw (← take-take _ 8 own first) (take_min count (take 8 own)))
