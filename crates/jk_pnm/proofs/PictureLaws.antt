-- The picture of a raster: it is in the profile where no sample is above maxval.
use Rattle.std.proofs.Common.{◌≡◌, ℕ, ◌+◌, ◌*◌, ◌^◌, ◌<◌, ◌≤◌, Bool, true, false, leb, List, [], ◌∷◌, length, map, All, ℤ, pos, ◌≤ℤ◌, Ok, Err, refl, inl, inr, arith}
use Rattle.std.specs.List.{range_with_len, list_all}
use Rattle.std.proofs.Math.Nat.{mul-le-mul_left, mul_comm}
use Rattle.std.proofs.lemmas.Bool.{and_parts, and_from, leb-true, le-leb, cases_Bool}
use Rattle.std.proofs.lemmas.Int.{ints}
use Rattle.std.proofs.lemmas.List.{length-map}
use Rattle.std.proofs.lemmas.List.FromFn.{length-range_with_len}
use Rattle.std.proofs.lemmas.List.Elements.{All-cons, All-nil, All-head, All-tail}
use Rattle.jk_math.specs.Picture.{Picture, IsPlane, IsPicture, lowest, greatest}
use Rattle.jk_math.specs.declared.fault.Fault.TheVariants.{BadPnm}
use Rattle.jk_pnm.specs.declared.header.Header.{Header}
use Rattle.jk_pnm.specs.Pnm.{components_of, plane_from, planes_from}
use Rattle.jk_pnm.specs.Reading.{samples_of, picture_of, are_below, picture_at}

abbrev InRange : ℕ → ℤ → Type 0
InRange depth s = (lowest depth false ≤ℤ s) × (s ≤ℤ greatest depth false)

samples_fit : (m depth : ℕ) (xs : List ℕ) → 2 ^ depth ≡ m + 1 → list_all (λ s. leb s m) xs ≡ true → All (InRange depth) (map pos xs)
samples_fit m depth [] bits below = All-nil (InRange depth)
samples_fit m depth (x ∷ xs) bits below =
    let both = and_parts (leb x m) (list_all (λ s. leb s m) xs) below in
    let few : x ≤ m = leb-true x m both.0 in
    let first : InRange depth (pos x) = (omega (arith, ints), omega (arith, ints)) in
    All-cons (InRange depth) (pos x) (map pos xs) first (samples_fit m depth xs bits both.1)

samples_below : (m depth : ℕ) (xs : List ℕ) → 2 ^ depth ≡ m + 1 → All (InRange depth) (map pos xs) → list_all (λ s. leb s m) xs ≡ true
samples_below m depth [] bits fit = refl
samples_below m depth (x ∷ xs) bits fit =
    let first : InRange depth (pos x) = All-head (InRange depth) (pos x) (map pos xs) fit in
    let few : x ≤ m = omega (arith, ints, first.1) in
    and_from (leb x m) (list_all (λ s. leb s m) xs) (le-leb x m few) (samples_below m depth xs bits (All-tail (InRange depth) (pos x) (map pos xs) fit))

plane_count : (m n pixels c : ℕ) (raster : List ℕ) → length (map pos (plane_from m n pixels raster c)) ≡ pixels
plane_count m n pixels c raster = simp (length-map, length-range_with_len)

planes_fit : (m n pixels depth : ℕ) (raster cs : List ℕ) → 2 ^ depth ≡ m + 1 → list_all (list_all (λ s. leb s m)) (map (plane_from m n pixels raster) cs) ≡ true
    → All (IsPlane pixels depth false) (map (map pos) (map (plane_from m n pixels raster) cs))
planes_fit m n pixels depth raster [] bits below = All-nil (IsPlane pixels depth false)
planes_fit m n pixels depth raster (c ∷ cs) bits below =
    let p = plane_from m n pixels raster c in
    let both = and_parts (list_all (λ s. leb s m) p) (list_all (list_all (λ s. leb s m)) (map (plane_from m n pixels raster) cs)) below in
    let plane : IsPlane pixels depth false (map pos p) = record { count = plane_count m n pixels c raster; range = samples_fit m depth p bits both.0 } in
    All-cons (IsPlane pixels depth false) (map pos p) (map (map pos) (map (plane_from m n pixels raster) cs)) plane (planes_fit m n pixels depth raster cs bits both.1)

pub planes_below : (m n pixels depth : ℕ) (raster cs : List ℕ) → 2 ^ depth ≡ m + 1 → All (IsPlane pixels depth false) (map (map pos) (map (plane_from m n pixels raster) cs))
    → list_all (list_all (λ s. leb s m)) (map (plane_from m n pixels raster) cs) ≡ true
planes_below m n pixels depth raster [] bits fit = refl
planes_below m n pixels depth raster (c ∷ cs) bits fit =
    let p = plane_from m n pixels raster c in
    let others = map (map pos) (map (plane_from m n pixels raster) cs) in
    let first = All-head (IsPlane pixels depth false) (map pos p) others fit in
    and_from (list_all (λ s. leb s m) p) (list_all (list_all (λ s. leb s m)) (map (plane_from m n pixels raster) cs))
    (samples_below m depth p bits first.range) (planes_below m n pixels depth raster cs bits (All-tail (IsPlane pixels depth false) (map pos p) others fit))

some_components : (colour : Bool) → (1 ≤ components_of colour) × (components_of colour ≤ 4)
some_components false = (omega arith, omega arith)
some_components true = (omega arith, omega arith)

planes_count : (m n pixels : ℕ) (raster : List ℕ) → length (map (map pos) (planes_from m n pixels raster)) ≡ n
unfolding planes_from
planes_count m n pixels raster = simp (length-map, length-range_with_len)

side_le : (a b : ℕ) → 0 < b → a ≤ a * b
side_le a b h = omega (arith, mul-le-mul_left a h)

pub picture_is : (h : Header) (raster : List ℕ) → 0 < h.width → 0 < h.height → h.width * h.height ≤ 2 ^ 28 → 2 ^ h.depth ≡ h.maxval + 1 → (1 ≤ h.depth) × (h.depth ≤ 16)
    → are_below h.maxval (samples_of h raster) ≡ true → IsPicture (picture_of h raster)
unfolding are_below planes_from
picture_is h raster wide high area bits few below =
    let w = h.width in
    let t = h.height in
    let n = components_of h.colour in
    let some = some_components h.colour in
    let count = planes_count h.maxval n (w * t) raster in
    record {
      frame = record { wide = wide; high = high; right = omega (arith, area, side_le w t high); lower = omega (arith, area, side_le t w wide, mul_comm w t); area = area };
      components = record {
        some_bits = few.0;
        few_bits = few.1;
        some = omega (arith, count, some.0);
        few = omega (arith, count, some.1);
        each = planes_fit h.maxval n (w * t) h.depth raster (range_with_len 0 n) bits below;
      };
    }

pub picture_below : (h : Header) (raster : List ℕ) → 2 ^ h.depth ≡ h.maxval + 1 → IsPicture (picture_of h raster) → are_below h.maxval (samples_of h raster) ≡ true
unfolding are_below planes_from
picture_below h raster bits is =
    let n = components_of h.colour in
    planes_below h.maxval n (h.width * h.height) h.depth raster (range_with_len 0 n) bits is.components.each

pub picture_ok : (h : Header) (raster : List ℕ) → are_below h.maxval (samples_of h raster) ≡ true → picture_at h raster ≡ Ok (picture_of h raster)
unfolding picture_at
picture_ok h raster below = rw below refl

pub picture_bad : (h : Header) (raster : List ℕ) → (are_below h.maxval (samples_of h raster) ≡ true → ⊥) → picture_at h raster ≡ Err BadPnm
unfolding picture_at
picture_bad h raster not_below = elim (cases_Bool (are_below h.maxval (samples_of h raster))) [
  | inl yes_below ↦ absurd (not_below yes_below)
  | inr above ↦ rw above refl
]

-- the picture of a header with these planes
abbrev pub page_of : Header → List (List ℤ) → Picture
page_of h planes = record { x0 = 0; y0 = 0; width = h.width; height = h.height; depth = h.depth; signed = false; planes = planes }
