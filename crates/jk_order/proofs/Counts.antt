-- The number of packets covers the precincts of each resolution.
use Rattle.std.proofs.Common.{◌≡◌, ℕ, zero, suc, ◌+◌, ◌-◌, ◌*◌, ◌^◌, ◌<◌, ◌≤◌, ◌⊎◌, inl, inr, min, List, [], ◌∷◌, length, get_or, refl, ap, arith}
use Rattle.std.specs.Prelude.{sum_by}
use Rattle.std.proofs.Math.Nat.{mul-le-mul_right}
use Rattle.std.proofs.lemmas.Bool.{cases_lt}
use Rattle.std.proofs.lemmas.List.Sums.{sum_by-cons}
use Rattle.jk_math.specs.declared.rect.Rect.{Rect}
use Rattle.jk_marks.specs.declared.coding.Coding.{Coding}
use Rattle.jk_geom.specs.declared.shape.TileShape.{TileShape}
use Rattle.jk_geom.specs.TileShapes.{IsTileShape, coding_of, no_coding}
use Rattle.jk_geom.specs.Precincts.{precinct_number}
use Rattle.jk_geom.specs.Counts.{precincts_below}
use Rattle.jk_geom.proofs.Laws.{precincts_of, below_more, number_is}
use Rattle.jk_order.specs.PacketOrder.{packet_count}

-- a resolution's precincts are among those of the resolutions below a greater one
pub number_below : (a : Rect) (k : Coding) (r n : ℕ) → r < n → precinct_number a k r ≤ precincts_below a k n
number_below a k r zero h = absurd (omega arith)
number_below a k r (suc n) h = by (λ less. number_below a k r n less) (cases_lt r n)
  where
    by : (r < n → precinct_number a k r ≤ precincts_below a k n) → (r < n) ⊎ (n ≤ r) → precinct_number a k r ≤ precincts_below a k (suc n)
    by before (inl less) = let b = before less in let m = below_more a k n in omega arith
    by before (inr last) =
        let same : r ≡ n = omega arith in
        let m = below_more a k n in
        let is : precinct_number a k r ≡ precinct_number a k n = ap (λ q. precinct_number a k q) same in
        omega arith

-- an element's share of a sum
pub share_below : {A : Type 0} (f : A → ℕ) (xs : List A) (c : ℕ) (d : A) → c < length xs → f (get_or xs c d) ≤ sum_by f xs
share_below f [] c d h = absurd (omega arith)
share_below {A} f (x ∷ xs) zero d h =
    let here : get_or (x ∷ xs) 0 d ≡ x = refl in
    let is : f (get_or (x ∷ xs) 0 d) ≡ f x = ap f here in
    let all = sum_by-cons f x xs in
    omega arith
share_below {A} f (x ∷ xs) (suc c) d h =
    let rest = share_below f xs c d (omega arith) in
    let there : get_or (x ∷ xs) (suc c) d ≡ get_or xs c d = refl in
    let is : f (get_or (x ∷ xs) (suc c) d) ≡ f (get_or xs c d) = ap f there in
    let all = sum_by-cons f x xs in
    omega arith

pub count_is : (s : TileShape) → packet_count s ≡ s.layers * sum_by (λ (k : Coding). precincts_of s.rect k) s.codings
unfolding packet_count
count_is s = number_is s.rect s.layers s.codings

-- no resolution has more precincts than the tile has packets
pub number_few : (s : TileShape) (c r : ℕ) → IsTileShape s → c < length s.codings → r ≤ (coding_of s.codings c).levels
    → precinct_number s.rect (coding_of s.codings c) r ≤ packet_count s
number_few s c r shape hc hr =
    let k = coding_of s.codings c in
    let one = number_below s.rect k r (k.levels + 1) (omega arith) in
    let all : precincts_of s.rect k ≤ sum_by (λ (k : Coding). precincts_of s.rect k) s.codings = share_below (λ (k : Coding). precincts_of s.rect k) s.codings c no_coding hc in
    let some = shape.some_layers in
    let times : 1 * sum_by (λ (k : Coding). precincts_of s.rect k) s.codings ≤ s.layers * sum_by (λ (k : Coding). precincts_of s.rect k) s.codings = mul-le-mul_right (sum_by (λ (k : Coding). precincts_of s.rect k) s.codings) some in
    let is = count_is s in
    omega arith

-- a count that was seen to be small is that of the packets
pub count_fits : (s : TileShape) (n : ℕ) → n ≡ min (packet_count s) (2 ^ 64 - 1) → n ≤ 2 ^ 24 → packet_count s ≤ 2 ^ 24
count_fits s n e h = omega arith
