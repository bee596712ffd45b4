-- Numbers of places.
use Rattle.std.proofs.Common.{◌≡◌, ℕ, ◌+◌, ◌*◌, ◌/◌, ◌%◌, ◌<◌, true, ap, ◌∙◌, arith}
use Rattle.std.specs.Prelude.{nat_lt}
use Rattle.std.proofs.lemmas.Bool.{and_parts}
use Rattle.std.proofs.lemmas.Bool.Decides.{nat_tests}
use Rattle.std.proofs.lemmas.Nat.{mul-add-lt, same_from_place}
use Rattle.std.proofs.Math.Nat.{mul_comm}
use Rattle.jk_scan.specs.declared.shape.BlockShape.{BlockShape}
use Rattle.jk_scan.specs.Neighbours.{is_inside}
use Rattle.jk_scan.specs.Moments.{number, stripes, visits}

pub number_row : (w x i j : ℕ) → j < 4 → number w x (4 * i + j) ≡ 4 * (w * i + x) + j
unfolding number
number_row w x i j h =
    let d : (4 * i + j) / 4 ≡ i = omega arith in
    let m : (4 * i + j) % 4 ≡ j = omega arith in
    ap (λ d. 4 * (w * d + x) + (4 * i + j) % 4) d ∙ ap (λ m. 4 * (w * i + x) + m) m

pub inside_parts : (s : BlockShape) (x y : ℕ) → is_inside s x y ≡ true → (x < s.width) × (y < s.height)
inside_parts s x y h = let b = and_parts (nat_lt x s.width) (nat_lt y s.height) h in let b0 = b.0 in let b1 = b.1 in (grind (arith, nat_tests), grind (arith, nat_tests))

pub number_same : (w x y x' y' : ℕ) → x < w → x' < w → number w x y ≡ number w x' y' → (x ≡ x') × (y ≡ y')
unfolding number
number_same w x y x' y' h h' e =
    let m : y % 4 ≡ y' % 4 = omega arith in
    let u : w * (y / 4) + x ≡ w * (y' / 4) + x' = omega arith in
    let c = mul_comm w (y / 4) in
    let c' = mul_comm w (y' / 4) in
    let d = same_from_place (y / 4) x (y' / 4) x' w h h' (omega (arith, u, c, c')) in
    let r = d.0 in
    (d.1, omega arith)

pub number_below : (s : BlockShape) (x y : ℕ) → is_inside s x y ≡ true → number s.width x y < visits s
unfolding number visits
number_below s x y h =
    let i = inside_parts s x y h in
    let row : y / 4 < (s.height + 3) / 4 = let b = i.1 in omega arith in
    let m = mul-add-lt (y / 4) s.width x ((s.height + 3) / 4) row i.0 in
    let c = mul_comm (y / 4) s.width in
    omega (arith, m, c)

-- the numbers of the stripes
pub number_room : (s : BlockShape) (x i j : ℕ) → x < s.width → i < stripes s → j < 4 → number s.width x (4 * i + j) < visits s
unfolding visits
number_room s x i j h l k =
    let e = number_row s.width x i j k in
    let m = mul-add-lt i s.width x (stripes s) l h in
    let c = mul_comm i s.width in
    omega (arith, e, m, c)
