-- The places next to each place of a word.
use Rattle.std.proofs.Common.{◌≡◌, ℕ, Bool, ◌+◌, ◌-◌, ◌*◌, ◌/◌, ◌%◌, ◌^◌, ◌<◌, true, ap, ◌∙◌, arith}
use Rattle.std.specs.Prelude.{◌&&◌, nat_le}
use Rattle.std.specs.Int.RustNames.{bit_or}
use Rattle.std.proofs.lemmas.Bool.Decides.{nat_tests}
use Rattle.jk_scan.specs.Neighbours.{west, east, north, south}
use Rattle.jk_scan.specs.declared.nearby.Nearby.{Nearby}
use Rattle.jk_scan.specs.Bits.{on}
use Rattle.jk_scan.specs.Words.{Truths, of_rows, bordered}
use Rattle.jk_scan.specs.WordPlaces.{column, row}
use Rattle.jk_scan.specs.Surroundings.{IsAround, Turns}
use Rattle.jk_scan.specs.WordNumbers.{IsNear}
use Rattle.jk_scan.proofs.Adding.{rows_between}
use Rattle.jk_scan.proofs.BitLaws.{on_shl, on_shr_at}
use Rattle.jk_scan.proofs.Beheld.{behold}

-- the neighbours of the place (x, y) in a field with its border
pub record AreBeside (f : Truths) (x y : ℕ) : Type 0 where
  pub left : bordered f (x + 8 + 0 - 1) (y + 4 + 1 - 1) ≡ west f x y
  pub right : bordered f (x + 8 + 2 - 1) (y + 4 + 1 - 1) ≡ east f x y
  pub above : bordered f (x + 8 + 1 - 1) (y + 4 + 0 - 1) ≡ north f x y
  pub below : bordered f (x + 8 + 1 - 1) (y + 4 + 2 - 1) ≡ south f x y
  pub left_above : bordered f (x + 8 + 0 - 1) (y + 4 + 0 - 1) ≡ west (north f) x y
  pub right_above : bordered f (x + 8 + 2 - 1) (y + 4 + 0 - 1) ≡ east (north f) x y
  pub left_below : bordered f (x + 8 + 0 - 1) (y + 4 + 2 - 1) ≡ west (south f) x y
  pub right_below : bordered f (x + 8 + 2 - 1) (y + 4 + 2 - 1) ≡ east (south f) x y

pub beside : (f : Truths) (x y : ℕ) → AreBeside f x y
beside f x y = record {
  left = place c1 r0 d1 e0;
  right = place c2 r0 d2 e0;
  above = place c0 r1 d0 e1;
  below = place c0 r2 d0 e2;
  left_above = place c1 r1 d1 e1;
  right_above = place c2 r1 d2 e1;
  left_below = place c1 r2 d1 e2;
  right_below = place c2 r2 d2 e2;
}
  where
    place : {a a' b b' : Bool} {x x' y y' : ℕ} → a ≡ a' → b ≡ b' → x ≡ x' → y ≡ y' → (a && (b && f x y)) ≡ (a' && (b' && f x' y'))
    place p q e g = cc

    c0 : nat_le 8 (x + 8 + 1 - 1) ≡ true
    c0 = grind (arith, nat_tests)

    c1 : nat_le 8 (x + 8 + 0 - 1) ≡ nat_le 1 x
    c1 = grind (arith, nat_tests)

    c2 : nat_le 8 (x + 8 + 2 - 1) ≡ true
    c2 = grind (arith, nat_tests)

    r0 : nat_le 4 (y + 4 + 1 - 1) ≡ true
    r0 = grind (arith, nat_tests)

    r1 : nat_le 4 (y + 4 + 0 - 1) ≡ nat_le 1 y
    r1 = grind (arith, nat_tests)

    r2 : nat_le 4 (y + 4 + 2 - 1) ≡ true
    r2 = grind (arith, nat_tests)

    d0 : x + 8 + 1 - 1 - 8 ≡ x
    d0 = omega arith

    d1 : x + 8 + 0 - 1 - 8 ≡ x - 1
    d1 = omega arith

    d2 : x + 8 + 2 - 1 - 8 ≡ x + 1
    d2 = omega arith

    e0 : y + 4 + 1 - 1 - 4 ≡ y
    e0 = omega arith

    e1 : y + 4 + 0 - 1 - 4 ≡ y - 1
    e1 = omega arith

    e2 : y + 4 + 2 - 1 - 4 ≡ y + 1
    e2 = omega arith

-- the columns left and right of the places of a word
abbrev pub left_of : (early left : ℕ) → ℕ
left_of early left = bit_or (early * 2 ^ 8 % 2 ^ 64) (left / 2 ^ 56)

abbrev pub right_of : (late right : ℕ) → ℕ
right_of late right = bit_or (late / 2 ^ 8) (right * 2 ^ 56 % 2 ^ 64)

abbrev pub near_of : (early late left right : ℕ) → Nearby
near_of early late left right = record {
  west = left_of early left;
  east = right_of late right;
  north = early * 2 ^ 1 % 2 ^ 64;
  south = late / 2 ^ 1;
  north_west = left_of early left * 2 ^ 1 % 2 ^ 64;
  north_east = right_of late right * 2 ^ 1 % 2 ^ 64;
  south_west = left_of early left / 2 ^ 1;
  south_east = right_of late right / 2 ^ 1;
}

pub near_at : (f : Truths) (j s own early late left right k : ℕ) → own < 2 ^ 64 → late < 2 ^ 64 → left < 2 ^ 64 → right < 2 ^ 64 → k < 64 → of_rows (k % 8) ≡ true → Turns own early late k
    → IsAround (bordered f) j s (record { centre = own; west = left; east = right }) → IsNear f (column j k) (row s k) (near_of early late left right) k
near_at f j s own early late left right k ob tb lb rb within on_row turns h =
    let between = rows_between (k % 8) on_row in
    let r = k % 8 - 1 in
    let few : r < 4 = omega (arith, between) in
    let e : k % 8 ≡ r + 1 = omega (arith, between) in
    let b = behold (bordered f) j s own early late left right r k ob tb lb rb within few e turns h in
    let n = beside f (column j k) (row s k) in
    let west = left_of early left in
    let east = right_of late right in
    record {
      is_west = ap (on west) (let g : k ≡ 8 * (k / 8) + (r + 1) = omega (arith, e) in g) ∙ b.west 1 (omega arith) ∙ at (8 * (j + 1) + k / 8 + 0 - 1) (column j k + 8 + 0 - 1) (4 * (s + 1) + (r + 1) - 1 + 1 - 1) (row s k + 4 + 1 - 1) (omega arith) (omega (arith, e)) ∙ n.left;
      is_east = ap (on east) (let g : k ≡ 8 * (k / 8) + (r + 1) = omega (arith, e) in g) ∙ b.east 1 (omega arith) ∙ at (8 * (j + 1) + k / 8 + 2 - 1) (column j k + 8 + 2 - 1) (4 * (s + 1) + (r + 1) - 1 + 1 - 1) (row s k + 4 + 1 - 1) (omega arith) (omega (arith, e)) ∙ n.right;
      is_north = on_shl early 1 64 (8 * (k / 8) + r) k (omega (arith, e)) within ∙ b.above ∙ at (8 * (j + 1) + k / 8 + 1 - 1) (column j k + 8 + 1 - 1) (4 * (s + 1) + (r + 1) - 1 + 0 - 1) (row s k + 4 + 0 - 1) (omega arith) (omega (arith, e)) ∙ n.above;
      is_south = on_shr_at late 1 (8 * (k / 8) + (r + 2)) k (omega (arith, e)) ∙ b.below ∙ at (8 * (j + 1) + k / 8 + 1 - 1) (column j k + 8 + 1 - 1) (4 * (s + 1) + (r + 1) - 1 + 2 - 1) (row s k + 4 + 2 - 1) (omega arith) (omega (arith, e)) ∙ n.below;
      is_north_west = on_shl west 1 64 (8 * (k / 8) + (r + 0)) k (omega (arith, e)) within ∙ b.west 0 (omega arith) ∙ at (8 * (j + 1) + k / 8 + 0 - 1) (column j k + 8 + 0 - 1) (4 * (s + 1) + (r + 1) - 1 + 0 - 1) (row s k + 4 + 0 - 1) (omega arith) (omega (arith, e)) ∙ n.left_above;
      is_north_east = on_shl east 1 64 (8 * (k / 8) + (r + 0)) k (omega (arith, e)) within ∙ b.east 0 (omega arith) ∙ at (8 * (j + 1) + k / 8 + 2 - 1) (column j k + 8 + 2 - 1) (4 * (s + 1) + (r + 1) - 1 + 0 - 1) (row s k + 4 + 0 - 1) (omega arith) (omega (arith, e)) ∙ n.right_above;
      is_south_west = on_shr_at west 1 (8 * (k / 8) + (r + 2)) k (omega (arith, e)) ∙ b.west 2 (omega arith) ∙ at (8 * (j + 1) + k / 8 + 0 - 1) (column j k + 8 + 0 - 1) (4 * (s + 1) + (r + 1) - 1 + 2 - 1) (row s k + 4 + 2 - 1) (omega arith) (omega (arith, e)) ∙ n.left_below;
      is_south_east = on_shr_at east 1 (8 * (k / 8) + (r + 2)) k (omega (arith, e)) ∙ b.east 2 (omega arith) ∙ at (8 * (j + 1) + k / 8 + 2 - 1) (column j k + 8 + 2 - 1) (4 * (s + 1) + (r + 1) - 1 + 2 - 1) (row s k + 4 + 2 - 1) (omega arith) (omega (arith, e)) ∙ n.right_below;
    }
  where
    at : (x x' y y' : ℕ) → x ≡ x' → y ≡ y' → bordered f x y ≡ bordered f x' y'
    at x x' y y' e g = cc
