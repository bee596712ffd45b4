-- How high a tree is, and how many nodes it has.
use Rattle.std.proofs.Common.{◌≡◌, ℕ, zero, suc, ◌+◌, ◌-◌, ◌*◌, ◌/◌, ◌%◌, ◌^◌, ◌<◌, ◌≤◌, max, Bool, true, false, cond, refl, ap, ◌∙◌, inl, inr, arith}
use Rattle.std.specs.Prelude.{nat_le}
use Rattle.std.proofs.lemmas.Bool.{cases_lt}
use Rattle.std.proofs.lemmas.Bool.Decides.{nat_tests}
use Rattle.std.proofs.lemmas.Nat.{one_shl, pow_below}
use Rattle.std.proofs.Math.Pow.{pow_pos}
use Rattle.jk_tree.specs.TagTree.{Shape, wide, level_from, top, start}
use Rattle.jk_tree.proofs.Places.{wide_to}

pub wide_shifted : (n i : ℕ) → i ≤ 16 → (n + 1 * 2 ^ i % 2 ^ 64 - 1) / 2 ^ i ≡ wide n i
unfolding wide
wide_shifted n i h = ap (λ m. (n + m - 1) / 2 ^ i) (one_shl i 64 (omega (arith, h)))

times_more : (a b : ℕ) → 0 < b → a ≤ a * b
times_more a b h = grind arith

pub wide_most : (n i : ℕ) → n < 65536 → wide n i ≤ 65536
wide_most n i h =
    elim (cases_lt 65536 (wide n i)) [
      | inl more ↦ absurd (let fits = wide_to n i 65536 more in let some = times_more 65536 (2 ^ i) (pow_pos i) in omega (arith, fits, some, h))
      | inr within ↦ within
    ]

pub level_step : (n i : ℕ) → 2 ^ i < n → i < n → level_from (n - i) n i ≡ level_from (n - (i + 1)) n (i + 1)
unfolding level_from
level_step n i less under =
    let test : nat_le n (2 ^ i) ≡ false = grind (arith, nat_tests) in
    ap (λ k. level_from k n i) (let e : n - i ≡ suc (n - (i + 1)) = omega (arith, under) in e)
    ∙ ap (λ (b : Bool). cond b i (level_from (n - (i + 1)) n (i + 1))) test

pub level_end : (more n i : ℕ) → n ≤ 2 ^ i → level_from more n i ≡ i
unfolding level_from
level_end zero n i h = refl
level_end (suc more) n i h =
    let test : nat_le n (2 ^ i) ≡ true = grind (arith, nat_tests) in
    ap (λ (b : Bool). cond b i (level_from more n (i + 1))) test

-- a power is above its exponent
pub pow_over : (i : ℕ) → i < 2 ^ i
pow_over zero = pow_pos 0
pow_over (suc i) =
    let before = pow_over i in
    let grows = pow_below i (suc i) (omega arith) in
    omega (arith, before, grows)

pub level_small : (n i : ℕ) → 2 ^ i < n → n < 65536 → i + 1 ≤ 16
level_small n i less h =
    elim (cases_lt 15 i) [
      | inl more ↦ absurd (let low = pow_high i more in omega (arith, low, less, h))
      | inr within ↦ omega (arith, within)
    ]
  where
    pow_high : (i : ℕ) → 15 < i → 65536 ≤ 2 ^ i
    pow_high i more =
        elim (cases_lt 16 i) [
          | inl above_it ↦ (let p : 65536 < 2 ^ i = pow_below 16 i above_it in omega (arith, p))
          | inr at ↦ (let e : 16 ≡ i = omega (arith, more, at) in let p : 2 ^ 16 ≡ 2 ^ i = ap (λ k. 2 ^ k) e in let q : 65536 ≡ 2 ^ i = p in omega (arith, q))
        ]

pub top-shape : (width height : ℕ) → top record { width = width; height = height } ≡ level_from (max width height) (max width height) 0
unfolding top
top-shape width height = refl

pub start-zero : (s : Shape) → start s 0 ≡ 0
unfolding start
start-zero s = refl

pub start-suc : (s : Shape) (i : ℕ) → start s (i + 1) ≡ start s i + wide s.width i * wide s.height i
unfolding start
start-suc s i = ap (start s) (let e : i + 1 ≡ suc i = omega arith in e)

times_within : (a b m : ℕ) → a ≤ m → b ≤ m → a * b ≤ m * m
times_within a b m h k = grind arith

pub level_fits : (a b : ℕ) → a ≤ 65536 → b ≤ 65536 → a * b ≤ 2 ^ 32
level_fits a b h k = times_within a b 65536 h k
