-- The coefficients of a block row by row.
use Rattle.std.proofs.Common.{◌≡◌, ℕ, zero, suc, ◌+◌, ◌-◌, ◌*◌, ◌/◌, ◌%◌, ◌≤◌, List, [], ◌∷◌, ◌++◌, map, sym, ap, ◌∙◌, ℤ, append_assoc, append-nil, arith}
use Rattle.std.specs.List.{range_with_len}
use Rattle.std.proofs.lemmas.List.FromFn.{map-range_with_len_more}
use Rattle.std.proofs.lemmas.Nat.{div-mul-add}
use Rattle.std.proofs.Math.Nat.{mod-eq-sub-div-mul, mul_comm}
use Rattle.jk_scan.specs.declared.shape.BlockShape.{BlockShape}
use Rattle.jk_scan.specs.Neighbours.{Field}
use Rattle.jk_block.specs.Meaning.{values_of}

-- the first rows of a field
abbrev pub rows_of : Field ℤ → (w n : ℕ) → List ℤ
rows_of q w n = map (λ i. q (i % w) (i / w)) (range_with_len 0 (n * w))

abbrev pub row_of : Field ℤ → (w y : ℕ) → List ℤ
row_of q w y = map (λ x. q x y) (range_with_len 0 w)

part : (q : Field ℤ) (w y k : ℕ) → k ≤ w → map (λ i. q (i % w) (i / w)) (range_with_len 0 (y * w + k)) ≡ rows_of q w y ++ map (λ x. q x y) (range_with_len 0 k)
part q w y zero h = ap (λ n. map (λ i. q (i % w) (i / w)) (range_with_len 0 n)) (let e : y * w + 0 ≡ y * w = omega arith in e) ∙ sym (append-nil (rows_of q w y))
part q w y (suc k) h =
    let d = div-mul-add y w k (omega arith) in
    let m = mod-eq-sub-div-mul (y * w + k) w in
    let r : (y * w + k) % w ≡ k = m ∙ ap (λ d. y * w + k - d * w) d ∙ (let e : y * w + k - y * w ≡ k = omega arith in e) in
    ap (λ n. map (λ i. q (i % w) (i / w)) (range_with_len 0 n)) (let e : y * w + suc k ≡ y * w + k + 1 = omega arith in e)
    ∙ map-range_with_len_more (λ i. q (i % w) (i / w)) 0 (y * w + k) (y * w + k) (omega arith)
    ∙ ap (λ (vs : List ℤ). vs ++ q ((y * w + k) % w) ((y * w + k) / w) ∷ []) (part q w y k (omega arith))
    ∙ ap (λ n. (rows_of q w y ++ map (λ x. q x y) (range_with_len 0 k)) ++ q n ((y * w + k) / w) ∷ []) r
    ∙ ap (λ n. (rows_of q w y ++ map (λ x. q x y) (range_with_len 0 k)) ++ q k n ∷ []) d
    ∙ append_assoc (rows_of q w y) (map (λ x. q x y) (range_with_len 0 k)) (q k y ∷ [])
    ∙ ap (λ (vs : List ℤ). rows_of q w y ++ vs) (sym (map-range_with_len_more (λ x. q x y) 0 k k (omega arith)) ∙ ap (λ n. map (λ x. q x y) (range_with_len 0 n)) (let e : k + 1 ≡ suc k = omega arith in e))

-- one more row
pub rows_more : (q : Field ℤ) (w y : ℕ) → rows_of q w (y + 1) ≡ rows_of q w y ++ row_of q w y
rows_more q w y = ap (λ n. map (λ i. q (i % w) (i / w)) (range_with_len 0 n)) (let e : (y + 1) * w ≡ y * w + w = omega arith in e) ∙ part q w y w (omega arith)

pub rows_all : (s : BlockShape) (q : Field ℤ) → rows_of q s.width s.height ≡ values_of s q
unfolding values_of
rows_all s q = ap (λ n. map (λ i. q (i % s.width) (i / s.width)) (range_with_len 0 n)) (mul_comm s.height s.width)
