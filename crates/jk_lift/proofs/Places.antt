-- The formulas at place i0 + j of a line of n places from i0 on, whose neighbours stand at i0 + b
-- and i0 + a, and the values that the code reads there.
use Rattle.std.proofs.Common.{◌≡◌, ℕ, ℤ, List, ◌+◌, ◌-◌, ◌*◌, ◌/◌, ◌%◌, ◌^◌, ◌<◌, ◌≤◌, ◌≢◌, length, get_or, set, pos, inl, inr, refl, ◌∙◌, arith, w32, to_z, of_z}
use Rattle.std.specs.List.{All}
use Rattle.std.proofs.lemmas.Bool.{cases_lt}
use borrow.Author.Count.{below_more}
use Rattle.std.proofs.lemmas.Int.{ints, to_z-of_z}
use Rattle.std.proofs.lemmas.List.{get_or_past, get_or-set_same, get_or-set_other}
use Rattle.jk_lift.specs.Lifting.{before, after, high_pass, low_pass, even_sample, odd_sample, high_at, lifted, even_at, unlifted}
use Rattle.jk_math.specs.Signed.{IsBelow}
use Rattle.jk_lift.specs.Samples.{line_of, woven}
use Rattle.jk_lift.proofs.Neighbours.{before_at, after_at}
use Rattle.jk_lift.proofs.Equations.{high_at_is, even_at_is, lifted_even, unlifted_odd, line_of_at}

-- b and a are the neighbours of j among n places
pub record AreNeighbours (n j b a : ℕ) : Type 0 where
  pub long : 2 ≤ n
  pub inside : j < n
  pub before_inside : 0 < j → b + 1 ≡ j
  pub before_first : j ≡ 0 → b ≡ 1
  pub after_inside : j + 1 < n → a ≡ j + 1
  pub after_last : j + 1 ≡ n → a + 1 ≡ j

pub before_is : (i0 n j b a : ℕ) → AreNeighbours n j b a → before i0 (i0 + n) (i0 + j) ≡ i0 + b
before_is i0 n j b a h = before_at i0 n j b h.long h.inside h.before_inside h.before_first

pub after_is : (i0 n j b a : ℕ) → AreNeighbours n j b a → after i0 (i0 + n) (i0 + j) ≡ i0 + a
after_is i0 n j b a h = after_at i0 n j a h.long h.inside h.after_inside h.after_last

pub high_place : (i0 n : ℕ) (x : ℕ → ℤ) (j b a : ℕ) → AreNeighbours n j b a →
    high_at i0 (i0 + n) x (i0 + j) ≡ high_pass (x (i0 + j)) (x (i0 + b)) (x (i0 + a))
high_place i0 n x j b a h = rw (high_at_is, before_is i0 n j b a h, after_is i0 n j b a h) refl

pub even_place : (i0 n : ℕ) (y : ℕ → ℤ) (j b a : ℕ) → AreNeighbours n j b a →
    even_at i0 (i0 + n) y (i0 + j) ≡ even_sample (y (i0 + j)) (y (i0 + b)) (y (i0 + a))
even_place i0 n y j b a h = rw (even_at_is, before_is i0 n j b a h, after_is i0 n j b a h) refl

pub low_place : (i0 n : ℕ) (x : ℕ → ℤ) (j b a : ℕ) → AreNeighbours n j b a → (i0 + j) % 2 ≡ 0 →
    lifted i0 (i0 + n) x (i0 + j) ≡ low_pass (x (i0 + j)) (high_at i0 (i0 + n) x (i0 + b)) (high_at i0 (i0 + n) x (i0 + a))
low_place i0 n x j b a h even =
    let long = h.long in
    lifted_even i0 (i0 + n) x (i0 + j) (omega arith) even ∙ rw (before_is i0 n j b a h, after_is i0 n j b a h) refl

pub odd_place : (i0 n : ℕ) (y : ℕ → ℤ) (j b a : ℕ) → AreNeighbours n j b a → (i0 + j) % 2 ≡ 1 →
    unlifted i0 (i0 + n) y (i0 + j) ≡ odd_sample (y (i0 + j)) (even_at i0 (i0 + n) y (i0 + b)) (even_at i0 (i0 + n) y (i0 + a))
odd_place i0 n y j b a h odd =
    let long = h.long in
    unlifted_odd i0 (i0 + n) y (i0 + j) (omega arith) odd ∙ rw (before_is i0 n j b a h, after_is i0 n j b a h) refl

-- an entry of a list of small numbers, or the 0 past its end
pub entry_below : (m : ℕ) (xs : List ℤ) → 0 < m → All (IsBelow m) xs → (k : ℕ) → IsBelow m (get_or xs k (pos 0))
entry_below m xs some small k =
    elim (cases_lt k (length xs)) [
      | inl lt ↦ small k (pos 0) lt
      | inr ge ↦ rw (get_or_past xs k (pos 0) ge) (omega (arith, ints), omega (arith, ints))
    ]

-- what the code reads, as it passes it on
abbrev pub read : List ℤ → ℕ → ℤ
read xs k = to_z w32 (of_z w32 (get_or xs k (pos 0)))

pub read_is : (xs : List ℤ) → All (IsBelow (2 ^ 29)) xs → (k : ℕ) → read xs k ≡ get_or xs k (pos 0)
read_is xs small k =
    let e = entry_below (2 ^ 29) xs (omega arith) small k in
    to_z-of_z w32 _ (omega (arith, ints))

pub read_below : (xs : List ℤ) → All (IsBelow (2 ^ 29)) xs → (k : ℕ) → IsBelow (2 ^ 29) (read xs k)
read_below xs small k = rw (read_is xs small k) (entry_below (2 ^ 29) xs (omega arith) small k)

-- the high-pass coefficient of three entries of a line
pub high_read : (i0 : ℕ) (line : List ℤ) (j b a i : ℕ) (r : ℤ) → All (IsBelow (2 ^ 29)) line → AreNeighbours (length line) j b a →
    i ≡ i0 + j → r ≡ high_pass (read line j) (read line b) (read line a) → r ≡ high_at i0 (i0 + length line) (line_of i0 line) i
high_read i0 line j b a i r small h e v =
    rw (e, high_place i0 (length line) (line_of i0 line) j b a h, line_of_at, line_of_at, line_of_at)
    (v ∙ rw (read_is line small j, read_is line small b, read_is line small a) refl)

pub at_first : (n j b a : ℕ) → 2 ≤ n → j ≡ 0 → b ≡ 1 → a ≡ 1 → AreNeighbours n j b a
at_first n j b a long zero left right = record {
  long = long;
  inside = omega arith;
  before_inside = λ h. omega arith;
  before_first = λ _. left;
  after_inside = λ h. omega arith;
  after_last = λ h. omega arith;
}

pub at_inside : (n j b a : ℕ) → b + 1 ≡ j → a ≡ j + 1 → a < n → AreNeighbours n j b a
at_inside n j b a left right l = record {
  long = omega arith;
  inside = omega arith;
  before_inside = λ h. left;
  before_first = λ h. omega arith;
  after_inside = λ h. right;
  after_last = λ h. omega arith;
}

pub at_last : (n j b a : ℕ) → b + 1 ≡ j → a ≡ b → j + 1 ≡ n → AreNeighbours n j b a
at_last n j b a left right l = record {
  long = omega arith;
  inside = omega arith;
  before_inside = λ h. left;
  before_first = λ h. omega arith;
  after_inside = λ h. omega arith;
  after_last = λ h. omega arith;
}

-- a number, as the code passes it on
abbrev pub passed : ℤ → ℤ
passed z = to_z w32 (of_z w32 z)

pub passed_is : (r : ℤ) → IsBelow (2 ^ 30 - 1) r → passed r ≡ r
passed_is r l = to_z-of_z w32 r (omega (arith, ints))

-- the low-pass coefficient of an entry of a line between two high-pass coefficients
pub low_read : (i0 : ℕ) (line : List ℤ) (j : ℕ) (last next r : ℤ) → All (IsBelow (2 ^ 29)) line → 2 ≤ length line → (i0 + j) % 2 ≡ 0 →
    last ≡ high_at i0 (i0 + length line) (line_of i0 line) (before i0 (i0 + length line) (i0 + j)) →
    next ≡ high_at i0 (i0 + length line) (line_of i0 line) (after i0 (i0 + length line) (i0 + j)) →
    r ≡ low_pass (read line j) last next → r ≡ lifted i0 (i0 + length line) (line_of i0 line) (i0 + j)
low_read i0 line j last next r small long even is_last is_next v =
    rw (lifted_even i0 (i0 + length line) (line_of i0 line) (i0 + j) (omega arith) even, line_of_at, ← is_last, ← is_next)
    (v ∙ rw (read_is line small j) refl)

-- one more entry is written
pub filled_more : (value : ℕ → ℤ) (xs : List ℤ) (k : ℕ) (v : ℤ) → k < length xs →
    ((u : ℕ) → u < k → get_or xs u (pos 0) ≡ value u) → v ≡ value k →
    (u : ℕ) → u < k + 1 → get_or (set xs k v) u (pos 0) ≡ value u
filled_more value xs k v room below here =
    let P : ℕ → Type 0 = λ u. get_or (set xs k v) u (pos 0) ≡ value u in
    below_more P k
    (λ u l. let ne : u ≢ k = omega arith in rw get_or-set_other (below u l))
    (rw get_or-set_same here)

-- the coefficients of a line, by their places
pub woven_low : (start : ℕ) (low high : List ℤ) (u j : ℕ) → j ≡ 2 * u + start % 2 → woven start low high (start + j) ≡ get_or low u (pos 0)
woven_low start low high u j e =
    let even : (start + j) % 2 ≡ 0 = omega arith in
    let same : (start + j) / 2 - (start + 1) / 2 ≡ u = omega arith in
    rw (even, same) refl

pub woven_high : (start : ℕ) (low high : List ℤ) (u j : ℕ) → j + start % 2 ≡ 2 * u + 1 → woven start low high (start + j) ≡ get_or high u (pos 0)
woven_high start low high u j e =
    let odd : (start + j) % 2 ≡ 1 = omega arith in
    let same : (start + j) / 2 - start / 2 ≡ u = omega arith in
    rw (odd, same) refl

-- the even sample of a low-pass coefficient between two high-pass coefficients
pub even_read : (start n : ℕ) (low high : List ℤ) (u p q j b a i : ℕ) (r : ℤ) → All (IsBelow (2 ^ 29)) low → All (IsBelow (2 ^ 29)) high →
    AreNeighbours n j b a → j ≡ 2 * u + start % 2 → b + start % 2 ≡ 2 * p + 1 → a + start % 2 ≡ 2 * q + 1 → i ≡ start + j →
    r ≡ even_sample (read low u) (read high p) (read high q) → r ≡ even_at start (start + n) (woven start low high) i
even_read start n low high u p q j b a i r small_low small_high h at_u at_p at_q e v =
    rw (e, even_place start n (woven start low high) j b a h, woven_low start low high u j at_u, woven_high start low high p b at_p, woven_high start low high q a at_q)
    (v ∙ rw (read_is low small_low u, read_is high small_high p, read_is high small_high q) refl)

-- the odd sample of a high-pass coefficient between two even samples
pub odd_read : (start n : ℕ) (low high : List ℤ) (u j : ℕ) (last next r : ℤ) → All (IsBelow (2 ^ 29)) high → 2 ≤ n → j + start % 2 ≡ 2 * u + 1 →
    last ≡ even_at start (start + n) (woven start low high) (before start (start + n) (start + j)) →
    next ≡ even_at start (start + n) (woven start low high) (after start (start + n) (start + j)) →
    r ≡ odd_sample (read high u) last next → r ≡ unlifted start (start + n) (woven start low high) (start + j)
odd_read start n low high u j last next r small long at_u is_last is_next v =
    rw (unlifted_odd start (start + n) (woven start low high) (start + j) (omega arith) (omega arith), woven_high start low high u j at_u, ← is_last, ← is_next)
    (v ∙ rw (read_is high small u) refl)
