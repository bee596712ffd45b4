-- The greatest magnitude of a block.
use Rattle.std.proofs.Common.{◌≡◌, ℕ, zero, suc, ◌+◌, ◌<◌, ◌≤◌, List, [], ◌∷◌, length, get_or, take, max, ℤ, pos, unsigned_abs, ap, ◌∙◌, arith}
use Rattle.jk_block.specs.BlockWritten.{greatest}

-- one value more
pub greatest_more : (xs : List ℤ) (i : ℕ) (d : ℤ) → i < length xs → greatest (take (i + 1) xs) ≡ max (greatest (take i xs)) (unsigned_abs (get_or xs i d))
greatest_more xs i d h = ap (λ n. greatest (take n xs)) (let e : i + 1 ≡ suc i = omega arith in e) ∙ more xs i h
  where
    more : (xs : List ℤ) (i : ℕ) → i < length xs → greatest (take (suc i) xs) ≡ max (greatest (take i xs)) (unsigned_abs (get_or xs i d))
    more [] i h = absurd (omega arith)
    more (x ∷ xs) zero h = let e : max (unsigned_abs x) 0 ≡ max 0 (unsigned_abs x) = omega arith in e
    more (x ∷ xs) (suc i) h =
        let r = more xs i (omega arith) in
        ap (max (unsigned_abs x)) r ∙ (let e : max (unsigned_abs x) (max (greatest (take i xs)) (unsigned_abs (get_or xs i d))) ≡ max (max (unsigned_abs x) (greatest (take i xs))) (unsigned_abs (get_or xs i d)) = omega arith in e)

-- each magnitude is at most the greatest
pub greatest_bounds : (xs : List ℤ) (i : ℕ) → unsigned_abs (get_or xs i (pos 0)) ≤ greatest xs
greatest_bounds [] i = omega arith
greatest_bounds (x ∷ xs) zero = omega arith
greatest_bounds (x ∷ xs) (suc i) = let r = greatest_bounds xs i in omega (arith, r)

pub greatest_small : (xs : List ℤ) (n : ℕ) → 0 < n → ((i : ℕ) → i < length xs → unsigned_abs (get_or xs i (pos 0)) < n) → greatest xs < n
greatest_small [] n p h = p
greatest_small (x ∷ xs) n p h = let a = h 0 (omega arith) in let r = greatest_small xs n p (λ i l. h (suc i) (omega arith)) in omega (arith, a, r)
