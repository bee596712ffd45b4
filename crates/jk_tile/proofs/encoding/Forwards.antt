-- From samples to what the wavelet takes.
use Rattle.std.proofs.Common.{◌≡◌, ℕ, zero, suc, ◌+◌, ◌-◌, ◌*◌, ◌^◌, ◌<◌, ◌≤◌, Bool, true, false, List, [], ◌∷◌, ◌++◌, length, get_or, All, ℤ, pos, negsuc, ◌-ℤ◌, ◌≤ℤ◌, unsigned_abs, refl, sym, ap, subst, ◌∙◌, inl, inr, arith}
use Rattle.std.proofs.Math.Pow.{pow_mono}
use Rattle.std.proofs.Math.Nat.{pow-suc}
use Rattle.std.proofs.lemmas.Nat.{row_fits}
use Rattle.std.proofs.lemmas.Bool.{cases_lt}
use Rattle.std.proofs.lemmas.Int.{ints}
use Rattle.std.proofs.lemmas.List.{get_or_past}
use Rattle.std.proofs.lemmas.List.Elements.{All-nil, All-get_or, All-from_get_or}
use Rattle.jk_math.specs.declared.rect.Rect.{Rect}
use Rattle.jk_math.specs.Picture.{Picture, IsPicture, IsPlane, lowest, greatest, sample_at}
use Rattle.jk_math.specs.Raster.{places_of, plane_at, raster}
use Rattle.jk_math.specs.Signed.{IsBelow, signed_at}
use Rattle.jk_math.proofs.Laws.{IsPlaceOf, raster_length, raster_entry, entry_place}
use Rattle.jk_rct.specs.Colour.{y0_of, y1_of, y2_of}
use Rattle.jk_rct.proofs.Laws.{keeps_range}
use Rattle.std.proofs.lemmas.List.FromFn.{length-map-range_with_len, get_or-map-range_with_len}
use Rattle.jk_marks.specs.declared.siz.Siz.{Siz}
use Rattle.jk_geom.specs.Rectangles.{IsArea, IsWithin, tile_area}
use Rattle.jk_params.specs.declared.parameters.Parameters.{Parameters}
use Rattle.jk_params.specs.Profile.{siz_of}
use Rattle.jk_wave.specs.Analysis.{analysed, analysed_bands}
use Rattle.jk_wave.specs.SourceRows.{AreBelow}
use Rattle.jk_wave.specs.Bands.{numbered_area}
use Rattle.jk_wave.proofs.Laws.{has_planes}
use Rattle.jk_tile.specs.Samples.{shift}
use Rattle.jk_tile.specs.Filling.{IsPartOf}
use Rattle.jk_tile.specs.encoding.Forward.{picture_area, levelled, coloured, tile_value}
use Rattle.jk_tile.proofs.Colours.{IsTransform}

-- ---- one component

same_columns : (x w : ℕ) → x + w - x ≡ w
same_columns x w = omega arith

-- the samples of a component by the reference grid
pub plane_of : (p : Picture) (c x y : ℕ) → plane_at (picture_area p) (get_or p.planes c []) x y ≡ sample_at p c (x - p.x0) (y - p.y0)
plane_of p c x y = ap (λ w. signed_at (get_or p.planes c []) ((y - p.y0) * w + (x - p.x0))) (same_columns p.x0 p.width)

-- ---- how great samples are

-- a number of the range of samples of 16 bits at most, less the level shift
abbrev pub IsLevelled : ℤ → Type 0
IsLevelled z = (negsuc 32767 ≤ℤ z) × (z ≤ℤ pos 32767)

in_range : (depth : ℕ) (signed : Bool) (z : ℤ) → 1 ≤ depth → depth ≤ 16 → lowest depth signed ≤ℤ z → z ≤ℤ greatest depth signed → IsLevelled (z -ℤ shift depth signed)
in_range depth true z some few low high =
    let half : 2 ^ (depth - 1) ≤ 2 ^ 15 = pow_mono {i = depth - 1} {j = 15} (omega (arith, few)) in
    (omega (arith, ints, half, low), omega (arith, ints, half, high))
in_range depth false z some few low high =
    let half : 2 ^ (depth - 1) ≤ 2 ^ 15 = pow_mono {i = depth - 1} {j = 15} (omega (arith, few)) in
    let e : depth ≡ suc (depth - 1) = omega (arith, some) in
    let twice : 2 ^ depth ≡ 2 ^ (depth - 1) * 2 = ap (λ n. 2 ^ n) e ∙ pow-suc 2 (depth - 1) in
    (omega (arith, ints, half, low), omega (arith, ints, half, twice, high))

-- a sample of the list, or what stands past its end
list_in_range : (depth : ℕ) (signed : Bool) (xs : List ℤ) (k : ℕ) → 1 ≤ depth → depth ≤ 16 → k < length xs → All (λ s. (lowest depth signed ≤ℤ s) × (s ≤ℤ greatest depth signed)) xs → IsLevelled (signed_at xs k -ℤ shift depth signed)
list_in_range depth signed xs k some few lt all =
    let h = All-get_or (λ s. (lowest depth signed ≤ℤ s) × (s ≤ℤ greatest depth signed)) xs k (pos 0) lt all in
    in_range depth signed (signed_at xs k) some few h.0 h.1

plane_is : (p : Picture) (c : ℕ) → IsPicture p → c < length p.planes → IsPlane (p.width * p.height) p.depth p.signed (get_or p.planes c [])
plane_is p c is lt = All-get_or (IsPlane (p.width * p.height) p.depth p.signed) p.planes c [] lt is.components.each

pub levelled_small : (p : Picture) (c x y : ℕ) → IsPicture p → c < length p.planes → IsWithin (picture_area p) x y → IsLevelled (levelled p c x y)
levelled_small p c x y is lt h =
    let plane = plane_is p c is lt in
    let left = h.left in let right = h.right in let upper = h.upper in let lower = h.lower in
    let fits : (y - p.y0) * p.width + p.width ≤ p.height * p.width = row_fits (y - p.y0) p.width p.height p.width (omega (arith, upper, lower)) (omega arith) in
    let turned : p.height * p.width ≡ p.width * p.height = omega arith in
    list_in_range p.depth p.signed (get_or p.planes c []) ((y - p.y0) * p.width + (x - p.x0)) is.components.some_bits is.components.few_bits (omega (arith, fits, turned, left, right, plane.count)) plane.range

small_abs : (z : ℤ) → IsLevelled z → unsigned_abs z ≤ 65535
small_abs z h = omega (arith, ints, h.0, h.1)

-- what the component transform gives
pub coloured_at : IsTransform coloured y0_of y1_of y2_of
unfolding coloured
coloured_at = record { first = λ v. refl; second = λ v. refl; third = λ v. refl; others = λ v c. refl }

pub value_plain : (p : Picture) (c x y : ℕ) → tile_value p false c x y ≡ levelled p c x y
unfolding tile_value
value_plain p c x y = refl

pub value_coloured : (p : Picture) (c x y : ℕ) → tile_value p true c x y ≡ coloured (λ i. levelled p i x y) c
unfolding tile_value
value_coloured p c x y = refl

-- the value of a component, by those of the first three where it is one of these
pub plain_is : (p : Picture) (colour : Bool) (c x y : ℕ) → colour ≡ false → levelled p c x y ≡ tile_value p colour c x y
plain_is p colour c x y e = sym (value_plain p c x y) ∙ ap (λ (b : Bool). tile_value p b c x y) (sym e)

pub first_is : (p : Picture) (colour : Bool) (c x y : ℕ) → colour ≡ true → c ≡ 0 → y0_of (levelled p 0 x y) (levelled p 1 x y) (levelled p 2 x y) ≡ tile_value p colour c x y
first_is p colour c x y e at =
    sym (value_coloured p 0 x y ∙ coloured_at.first (λ i. levelled p i x y)) ∙ ap (λ (n : ℕ). tile_value p true n x y) (sym at) ∙ ap (λ (b : Bool). tile_value p b c x y) (sym e)

pub second_is : (p : Picture) (colour : Bool) (c x y : ℕ) → colour ≡ true → c ≡ 1 → y1_of (levelled p 0 x y) (levelled p 1 x y) (levelled p 2 x y) ≡ tile_value p colour c x y
second_is p colour c x y e at =
    sym (value_coloured p 1 x y ∙ coloured_at.second (λ i. levelled p i x y)) ∙ ap (λ (n : ℕ). tile_value p true n x y) (sym at) ∙ ap (λ (b : Bool). tile_value p b c x y) (sym e)

pub third_is : (p : Picture) (colour : Bool) (c x y : ℕ) → colour ≡ true → c ≡ 2 → y2_of (levelled p 0 x y) (levelled p 1 x y) (levelled p 2 x y) ≡ tile_value p colour c x y
third_is p colour c x y e at =
    sym (value_coloured p 2 x y ∙ coloured_at.third (λ i. levelled p i x y)) ∙ ap (λ (n : ℕ). tile_value p true n x y) (sym at) ∙ ap (λ (b : Bool). tile_value p b c x y) (sym e)

pub other_is : (p : Picture) (colour : Bool) (c x y : ℕ) → colour ≡ true → 3 ≤ c → levelled p c x y ≡ tile_value p colour c x y
other_is p colour c x y e from =
    let n : ℕ = c - 3 in
    let at : suc (suc (suc n)) ≡ c = omega (arith, from) in
    sym (value_coloured p (suc (suc (suc n))) x y ∙ coloured_at.others (λ i. levelled p i x y) n ∙ ap (λ (k : ℕ). levelled p k x y) at)
    ∙ ap (λ (k : ℕ). tile_value p true k x y) at ∙ ap (λ (b : Bool). tile_value p b c x y) (sym e)

coloured_small : (v : ℕ → ℤ) (n c : ℕ) → 3 ≤ n → c < n → ((i : ℕ) → i < n → IsLevelled (v i)) → unsigned_abs (coloured v c) ≤ 65535
coloured_small v n c three lt small = by c lt
  where
    ranges : (negsuc 32767 ≤ℤ y0_of (v 0) (v 1) (v 2)) × (y0_of (v 0) (v 1) (v 2) ≤ℤ pos 32767)
        × (unsigned_abs (y1_of (v 0) (v 1) (v 2)) ≤ unsigned_abs (pos 32767 -ℤ negsuc 32767))
        × (unsigned_abs (y2_of (v 0) (v 1) (v 2)) ≤ unsigned_abs (pos 32767 -ℤ negsuc 32767))
    ranges =
        let a = small 0 (omega (arith, three)) in let b = small 1 (omega (arith, three)) in let d = small 2 (omega (arith, three)) in
        keeps_range (negsuc 32767) (pos 32767) (v 0) (v 1) (v 2) a.0 a.1 b.0 b.1 d.0 d.1

    by : (c : ℕ) → c < n → unsigned_abs (coloured v c) ≤ 65535
    by zero lt = subst (λ z. unsigned_abs z ≤ 65535) (sym (coloured_at.first v)) (small_abs (y0_of (v 0) (v 1) (v 2)) (ranges.0, ranges.1))
    by (suc zero) lt = subst (λ z. unsigned_abs z ≤ 65535) (sym (coloured_at.second v)) ranges.2
    by (suc (suc zero)) lt = subst (λ z. unsigned_abs z ≤ 65535) (sym (coloured_at.third v)) ranges.3
    by (suc (suc (suc c))) lt = subst (λ z. unsigned_abs z ≤ 65535) (sym (coloured_at.others v c)) (small_abs (v (suc (suc (suc c)))) (small (suc (suc (suc c))) lt))

-- each value has a magnitude of at most 65,535
pub value_small : (p : Picture) (colour : Bool) (c x y : ℕ) → IsPicture p → (colour ≡ true → 3 ≤ length p.planes) → c < length p.planes → IsWithin (picture_area p) x y → unsigned_abs (tile_value p colour c x y) ≤ 65535
value_small p true c x y is three lt h = subst (λ z. unsigned_abs z ≤ 65535) (sym (value_coloured p c x y)) (coloured_small (λ i. levelled p i x y) (length p.planes) c (three refl) lt (λ i less. levelled_small p i x y is less h))
value_small p false c x y is three lt h = subst (λ z. unsigned_abs z ≤ 65535) (sym (value_plain p c x y)) (small_abs (levelled p c x y) (levelled_small p c x y is lt h))

-- ---- lists

pub raster_small : (m : ℕ) (a : Rect) (f : ℕ → ℕ → ℤ) → ((x y : ℕ) → IsPlaceOf a x y → IsBelow m (f x y)) → All (IsBelow m) (raster a f)
raster_small m a f small = All-from_get_or (IsBelow m) (raster a f) (pos 0) (λ k lt.
    let less : k < places_of a = omega (arith, lt, raster_length a f) in
    subst (IsBelow m) (sym (raster_entry a f k less)) (small _ _ (entry_place a k less)))

-- a place of a part is one of the rectangle
pub part_within : (part area : Rect) (x y : ℕ) → IsPartOf part area → IsPlaceOf part x y → IsWithin area x y
part_within part area x y is h =
    let left = is.left in let right = is.right in let upper = is.upper in let lower = is.lower in
    let hl = h.left in let hr = h.right in let hu = h.upper in let hd = h.lower in
    record { left = omega (arith, left, hl); right = omega (arith, right, hr); upper = omega (arith, upper, hu); lower = omega (arith, lower, hd) }

abs_below : (z : ℤ) → unsigned_abs z ≤ 65535 → IsBelow (2 ^ 17) z
abs_below z h = (omega (arith, ints, h), omega (arith, ints, h))

pub values_small : (p : Picture) (colour : Bool) (c : ℕ) (a : Rect) → IsPicture p → (colour ≡ true → 3 ≤ length p.planes) → c < length p.planes → IsPartOf a (picture_area p) → AreBelow (2 ^ 17) a (tile_value p colour c)
values_small p colour c a is three lt part x y h =
    abs_below (tile_value p colour c x y) (value_small p colour c x y is three lt (part_within a (picture_area p) x y part (record { left = h.left; right = h.right; upper = h.upper; lower = h.lower })))

pub shift_range : (depth : ℕ) (signed : Bool) → 1 ≤ depth → depth ≤ 16 → (pos 0 ≤ℤ shift depth signed) × (shift depth signed ≤ℤ pos 32768)
shift_range depth true some few = (omega (arith, ints), omega (arith, ints))
shift_range depth false some few = let half : 2 ^ (depth - 1) ≤ 2 ^ 15 = pow_mono {i = depth - 1} {j = 15} (omega (arith, few)) in (omega (arith, ints), omega (arith, ints, half))

-- a sample of the image before the level shift
pub plane_below : (p : Picture) (c : ℕ) → IsPicture p → c < length p.planes → All (IsBelow (2 ^ 28)) (get_or p.planes c [])
plane_below p c is lt =
    let plane = plane_is p c is lt in
    let z = shift_range p.depth p.signed is.components.some_bits is.components.few_bits in
    All-from_get_or (IsBelow (2 ^ 28)) (get_or p.planes c []) (pos 0) (λ k less.
    let s = list_in_range p.depth p.signed (get_or p.planes c []) k is.components.some_bits is.components.few_bits less plane.range in
    let low = s.0 in let high = s.1 in let zl = z.0 in let zh = z.1 in
    (omega (arith, ints, low, high, zl, zh), omega (arith, ints, low, high, zl, zh)))

-- ---- the sub-bands

-- ---- how many bit-planes they need

-- each coefficient has at most 23 bit-planes
pub coefficient_small : (p : Picture) (colour : Bool) (c levels b : ℕ) (a : Rect) → IsPicture p → (colour ≡ true → 3 ≤ length p.planes) → c < length p.planes → IsPartOf a (picture_area p) → levels ≤ 5 → b ≤ 3 * levels
    → (x y : ℕ) → IsWithin (numbered_area a levels b) x y → unsigned_abs (analysed a levels (tile_value p colour c) b x y) < 2 ^ 23
coefficient_small p colour c levels b a is three lt part few le x y h =
    has_planes a levels (tile_value p colour c) b x y few le (λ u v w. value_small p colour c u v is three lt (part_within a (picture_area p) u v part (record { left = w.left; right = w.right; upper = w.upper; lower = w.lower }))) h

-- those of the list of a sub-band
pub raster_few : (m : ℕ) (a : Rect) (f : ℕ → ℕ → ℤ) → ((x y : ℕ) → IsWithin a x y → unsigned_abs (f x y) < m) → All (λ v. unsigned_abs v < m) (raster a f)
raster_few m a f small = All-from_get_or (λ v. unsigned_abs v < m) (raster a f) (pos 0) (λ k lt.
    let less : k < places_of a = omega (arith, lt, raster_length a f) in
    let h = entry_place a k less in
    subst (λ v. unsigned_abs v < m) (sym (raster_entry a f k less)) (small _ _ (record { left = h.left; right = h.right; upper = h.upper; lower = h.lower })))

pub band_list : (a : Rect) (levels b : ℕ) (f : ℕ → ℕ → ℤ) → b < 3 * levels + 1 → get_or (analysed_bands a levels f) b [] ≡ raster (numbered_area a levels b) (analysed a levels f b)
unfolding analysed_bands
band_list a levels b f lt = get_or-map-range_with_len (λ i. raster (numbered_area a levels i) (analysed a levels f i)) 0 (3 * levels + 1) b b [] lt (omega arith)

pub band_length : (a : Rect) (levels : ℕ) (f : ℕ → ℕ → ℤ) → length (analysed_bands a levels f) ≡ 3 * levels + 1
unfolding analysed_bands
band_length a levels f = length-map-range_with_len (λ i. raster (numbered_area a levels i) (analysed a levels f i)) 0 (3 * levels + 1)

pub bands_few : (p : Picture) (colour : Bool) (c levels : ℕ) (a : Rect) → IsPicture p → (colour ≡ true → 3 ≤ length p.planes) → c < length p.planes → IsPartOf a (picture_area p) → levels ≤ 5
    → (b : ℕ) → All (λ v. unsigned_abs v < 2 ^ 23) (get_or (analysed_bands a levels (tile_value p colour c)) b [])
bands_few p colour c levels a is three lt part few b = elim (cases_lt b (3 * levels + 1)) [
  | inl less ↦
      subst (All (λ v. unsigned_abs v < 2 ^ 23)) (sym (band_list a levels b (tile_value p colour c) less))
      (raster_few (2 ^ 23) (numbered_area a levels b) (analysed a levels (tile_value p colour c) b) (λ x y h. coefficient_small p colour c levels b a is three lt part few (omega (arith, less)) x y h))
  | inr past ↦ subst (All (λ v. unsigned_abs v < 2 ^ 23)) (sym (get_or_past (analysed_bands a levels (tile_value p colour c)) b [] (omega (arith, past, band_length a levels (tile_value p colour c))))) (All-nil (λ v. unsigned_abs v < 2 ^ 23))
]

-- a tile lies in the image
tile_bounds : (s : Siz) (t : ℕ) → (s.x0 ≤ (tile_area s t).x0) × ((tile_area s t).x1 ≤ s.x1) × (s.y0 ≤ (tile_area s t).y0) × ((tile_area s t).y1 ≤ s.y1)
unfolding tile_area
tile_bounds s t = (omega arith, omega arith, omega arith, omega arith)

pub tile_is_part : (p : Picture) (q : Parameters) (t : ℕ) → IsArea (tile_area (siz_of p q) t) → IsPartOf (tile_area (siz_of p q) t) (picture_area p)
tile_is_part p q t is = let b = tile_bounds (siz_of p q) t in record { left = b.0; across = is.left; right = b.1; upper = b.2; down = is.upper; lower = b.3 }
