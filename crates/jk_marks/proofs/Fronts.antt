-- The front of a front.
use Rattle.std.proofs.Common.{◌≡◌, ℕ, zero, suc, ◌≤◌, min, List, [], ◌∷◌, take, replicate, ap, ◌∙◌, arith}
use Rattle.std.proofs.lemmas.List.{take-replicate}

pub take_take : {X : Type 0} (m n : ℕ) (xs : List X) → take (min n m) xs ≡ take m (take n xs)
take_take zero n xs =
    let none : min n 0 ≡ 0 = omega arith in
    ap (λ k. take k xs) none
take_take (suc m) zero xs =
    let none : min 0 (suc m) ≡ 0 = omega arith in
    ap (λ k. take k xs) none
take_take (suc m) (suc n) [] =
    let some : min (suc n) (suc m) ≡ suc (min n m) = omega arith in
    ap (λ k. take k []) some
take_take (suc m) (suc n) (x ∷ xs) =
    let some : min (suc n) (suc m) ≡ suc (min n m) = omega arith in
    ap (λ k. take k (x ∷ xs)) some ∙ ap (λ ys. x ∷ ys) (take_take m n xs)

-- the greatest exponents of a precinct size
abbrev pub greatest : ℕ × ℕ
greatest = (15, 15)

pub greatest_front : (n : ℕ) → n ≤ 11 → take n (replicate 11 greatest) ≡ replicate n greatest
greatest_front n le = take-replicate n 11 greatest le
