-- Laws of sets of threads: what a set of one member has, and that no member stands past a set's last bit.
use mathlib.Core.Path.{◌≡◌, refl, sym, ap, ◌∙◌}
use mathlib.Core.Logic.{◌≢◌}
use mathlib.Core.Bool.{true, false, true≢false}
use Prim.Native.Nat.{ℕ, zero, suc, ◌+◌, ◌-◌, ◌*◌, ◌/◌, ◌%◌, ◌^◌, ◌≤◌, ◌<◌}
use native.Mathlib.Omega.{arith}
use native.Mathlib.Nat.{div-eq_of_lt-le, zero-add, suc-add, div-eq_of_lt, div_self, mul-div_cancel, pow-suc, lt_of_lt_of_le, one-mul, le-div_iff_mul-le, div-lt_iff_lt-mul, add-div_right}
use lib.Dec.{eqb, leb, ltb}
use lib.Pow.{pow_pos, pow_mono, pow-lt, pow-add}
use borrow.Author.Tests.{eq-eqb, ne_eqb, le-leb, lt-leb, leb-true, leb-false, lt-ltb, eqb-false}
use Rattle.model.specs.Operations.{member}
use Rattle.model.proofs.Laws.{by, same?}

-- nothing is a member past the last bit
pub no-member-past : (set s : ℕ) → set < 2 ^ s → member set s ≡ false
unfolding member
no-member-past set s h = rw (div-eq_of_lt h) refl

-- the empty set has no member
pub no_member : (s : ℕ) → member 0 s ≡ false
no_member s = no-member-past 0 s (pow_pos s)

-- a power of two is even, but the first
even : (k : ℕ) → (2 ^ suc k) % 2 ≡ 0
even k = let e : 2 ^ suc k ≡ 2 ^ k * 2 = pow-suc 2 k in omega arith

-- a smaller member's power divides a larger one's
over : (s k : ℕ) → 2 ^ (k + s) / 2 ^ s ≡ 2 ^ k
over s k = ap (λ (a : ℕ). a / 2 ^ s) (pow-add 2 k s) ∙ mul-div_cancel (2 ^ k) (pow_pos s)

-- a set of one member has it
has-itself : (s : ℕ) → member (2 ^ s) s ≡ true
unfolding member
has-itself s = rw (div_self (pow_pos s)) refl

-- it has no smaller one
none_below : (s k : ℕ) → member (2 ^ (suc k + s)) s ≡ false
unfolding member
none_below s k = ap (λ (a : ℕ). eqb (a % 2) 1) (over s (suc k)) ∙ ap (λ (a : ℕ). eqb a 1) (even k)

-- the set of one member has that member and no other
pub one-member : (p s : ℕ) → member (2 ^ p) s ≡ eqb p s
one-member p s = same? p s
    (λ e. ap (λ (q : ℕ). member (2 ^ q) s) e ∙ has-itself s ∙ sym (eq-eqb p s e))
    (λ d. by (leb p s)
    (λ l. let i : p ≤ s = leb-true p s l in let below : p < s = omega arith in no-member-past (2 ^ p) s (pow-lt below) ∙ sym (ne_eqb p s d))
    (λ l. let i : s < p = leb-false p s l in let whole : p ≡ suc (p - suc s) + s = omega arith in
    ap (λ (q : ℕ). member (2 ^ q) s) whole ∙ none_below s (p - suc s) ∙ sym (ne_eqb p s d)))

-- it reaches beyond n exactly where its member does
pub one-beyond : (n p : ℕ) → leb (2 ^ n) (2 ^ p) ≡ leb n p
one-beyond n p = by (leb n p)
    (λ e. le-leb (2 ^ n) (2 ^ p) (pow_mono (leb-true n p e)) ∙ sym e)
    (λ e. lt-leb (2 ^ n) (2 ^ p) (pow-lt (leb-false n p e)) ∙ sym e)

-- a set with one member more has no more bits
pub with_one-more : (set s n : ℕ) → set < 2 ^ n → s < n → member set s ≡ false → set + 2 ^ s < 2 ^ n
unfolding member
with_one-more set s n h l e =
    let k = n - suc s in
    let whole : 2 ^ n ≡ 2 ^ suc k * 2 ^ s = ap (λ (m : ℕ). 2 ^ m) (omega arith) ∙ pow-add 2 (suc k) s in
    let other : (set / 2 ^ s) % 2 ≢ 1 = eqb-false _ 1 e in
    let below : set / 2 ^ s < 2 ^ suc k = (div-lt_iff_lt-mul (pow_pos s)).1 (rw (sym whole) h) in
    let room : set / 2 ^ s + 1 < 2 ^ suc k = omega (arith, even k) in
    rw whole ((div-lt_iff_lt-mul (pow_pos s)).0 (rw (add-div_right set (pow_pos s)) room))

-- ---- sets of 32 bits
-- no member has a number from 32 on
pub no-member-wide : (set s : ℕ) → set < 2 ^ 32 → 32 ≤ s → member set s ≡ false
no-member-wide set s h l = no-member-past set s (lt_of_lt_of_le h (pow_mono l))

-- so no member is beyond 32 or more threads
pub none-beyond-wide : (set n : ℕ) → set < 2 ^ 32 → 32 ≤ n → leb (2 ^ n) set ≡ false
none-beyond-wide set n h l = lt-leb (2 ^ n) set (lt_of_lt_of_le h (pow_mono l))

-- a member is beyond n where something is left of the set without its first n bits
pub beyond_shifted : (set n : ℕ) → leb (2 ^ n) set ≡ ltb 0 (set / 2 ^ n)
beyond_shifted set n = by (leb (2 ^ n) set)
    (λ e. let some : 1 * 2 ^ n ≤ set = rw (one-mul (2 ^ n)) (leb-true (2 ^ n) set e) in e ∙ sym (lt-ltb 0 (set / 2 ^ n) ((le-div_iff_mul-le (pow_pos n)).1 some)))
    (λ e. e ∙ sym (rw (div-eq_of_lt (leb-false (2 ^ n) set e)) refl))

-- the empty set has no member beyond anything
pub none-beyond : (n : ℕ) → leb (2 ^ n) 0 ≡ false
none-beyond n = lt-leb (2 ^ n) 0 (pow_pos n)

-- ---- what it is to have a member beyond n
-- a member beyond n makes the set as large as n's bit
pub beyond-large : (set n s : ℕ) → n ≤ s → member set s ≡ true → leb (2 ^ n) set ≡ true
beyond-large set n s l m = by (leb (2 ^ n) set) (λ e. e) (λ e.
    absurd (true≢false (sym m ∙ no-member-past set s (lt_of_lt_of_le (leb-false (2 ^ n) set e) (pow_mono l)))))

-- the bit that a set reaches and does not pass is a member
top : (set m : ℕ) → 2 ^ m ≤ set → set < 2 ^ suc m → member set m ≡ true
unfolding member
top set m low high =
    let two : 2 ^ suc m ≡ 2 ^ m * 2 = pow-suc 2 m in
    let one : set / 2 ^ m ≡ 1 = div-eq_of_lt-le (2 ^ m) (omega arith) (omega arith) in
    rw one refl

-- a set of n + k bits that is as large as n's bit has a member among the last k
pub beyond-member : (set n k : ℕ) → set < 2 ^ (k + n) → 2 ^ n ≤ set → (s : ℕ) × (n ≤ s) × (member set s ≡ true)
beyond-member set n zero h l = absurd (let z : 2 ^ (0 + n) ≡ 2 ^ n = ap (λ (m : ℕ). 2 ^ m) (zero-add n) in omega arith)
beyond-member set n (suc k) h l = by (leb (2 ^ (k + n)) set)
    (λ e. (k + n, omega arith, top set (k + n) (leb-true (2 ^ (k + n)) set e) (let z : 2 ^ (suc k + n) ≡ 2 ^ suc (k + n) = ap (λ (m : ℕ). 2 ^ m) (suc-add k n) in omega arith)))
    (λ e. beyond-member set n k (leb-false (2 ^ (k + n)) set e) l)
