-- Pictures made of planes of samples.
use Rattle.std.proofs.Common.{◌≡◌, ℕ, ◌+◌, ◌*◌, ◌-◌, ◌/◌, ◌%◌, ◌<◌, ◌≤◌, Bool, true, false, List, All, ℤ, pos, ◌≤ℤ◌, sym, ap, subst, ◌∙◌, arith, lit≤}
use Rattle.std.proofs.lemmas.List.{get_or_default}
use Rattle.std.proofs.lemmas.List.FromFn.{length-map-range_with_len, get_or-map-range_with_len}
use Rattle.std.proofs.lemmas.Int.{ints, clamps}
use Rattle.std.proofs.Math.Nat.{one-le-pow}
use Rattle.std.specs.Int.{int_min, int_max}
use Rattle.std.specs.Global.{Vec}
use Rattle.jk_math.specs.Lists.{lists_of}
use Rattle.jk_math.specs.declared.rect.Rect.{Rect}
use Rattle.jk_math.specs.Picture.{IsFrame, IsPlane, IsPicture, lowest, greatest}
use Rattle.jk_math.specs.Raster.{raster, places_of, columns_of}
use Rattle.jk_math.proofs.Laws.{raster_length, raster_entry}
use Rattle.jk_marks.specs.declared.siz.Siz.{Siz}
use Rattle.jk_marks.specs.declared.segments.Cod.{Cod}
use Rattle.jk_marks.specs.Siz.{IsSiz}
use Rattle.jk_params.specs.Headers.{Headers}
use Rattle.jk_tile.specs.Samples.{clamped}
use Rattle.jk_tile.specs.Pixels.{tile_sample}
use Rattle.jk_code.specs.MeaningReading.{sample_of_tiles, picture_with, planes_of_tiles}

range_is : (depth : ℕ) (signed : Bool) → 1 ≤ depth → lowest depth signed ≤ℤ greatest depth signed
range_is depth true h = let p = one-le-pow (depth - 1) 2 (lit≤ tt) in omega (arith, ints, p)
range_is depth false h = let p = one-le-pow depth 2 (lit≤ tt) in omega (arith, ints, p)

within : (z low high : ℤ) → low ≤ℤ high → (low ≤ℤ int_min (int_max z low) high) × (int_min (int_max z low) high ≤ℤ high)
within z low high h = (omega (arith, ints, clamps), omega (arith, ints, clamps))

pub clamped_range : (depth : ℕ) (signed : Bool) (z : ℤ) → 1 ≤ depth → (lowest depth signed ≤ℤ clamped depth signed z) × (clamped depth signed z ≤ℤ greatest depth signed)
clamped_range depth signed z h = within z (lowest depth signed) (greatest depth signed) (range_is depth signed h)

-- the frame of a rectangle
abbrev pub HasFrame : Rect → Type 0
HasFrame a = IsFrame a.x0 a.y0 (a.x1 - a.x0) (a.y1 - a.y0)

-- a sample is within its range
abbrev InRange : Siz → ℤ → Type 0
InRange s z = (lowest s.depth s.signed ≤ℤ z) × (z ≤ℤ greatest s.depth s.signed)

pixel_range : (cod : Cod) (s : Siz) (v : ℕ → ℤ) (c : ℕ) → 1 ≤ s.depth → InRange s (tile_sample cod s v c)
unfolding tile_sample
pixel_range cod s v c some = clamped_range s.depth s.signed _ some

-- a list of such values
raster_range : (a : Rect) (f : ℕ → ℕ → ℤ) (s : Siz) → ((x y : ℕ) → InRange s (f x y)) → All (InRange s) (raster a f)
raster_range a f s each k d lt =
    let less : k < places_of a = omega (arith, lt, raster_length a f) in
    subst (InRange s) (get_or_default (raster a f) k (pos 0) d lt) (subst (InRange s) (sym (raster_entry a f k less)) (each (a.x0 + k % columns_of a) (a.y0 + k / columns_of a)))

-- The picture of all tiles is one of the profile.
pub tiles_are_picture : (bytes : List ℕ) (h : Headers) (d : ℕ) (a : Rect) → IsSiz h.siz → HasFrame a → IsPicture (picture_with h.siz a (planes_of_tiles bytes h d a))
tiles_are_picture bytes h d a is frame =
    let f : ℕ → List ℤ = λ c. raster a (sample_of_tiles bytes h d c) in
    let count = length-map-range_with_len f 0 h.siz.components in
    let turned : places_of a ≡ (a.x1 - a.x0) * (a.y1 - a.y0) = omega arith in
    record {
      frame = frame;
      components = record {
        some_bits = is.some_bits;
        few_bits = is.few_bits;
        some = omega (arith, count, is.some_components);
        few = omega (arith, count, is.few_components);
        each = λ c e lt.
            let less : c < h.siz.components = omega (arith, lt, count) in
            subst (IsPlane ((a.x1 - a.x0) * (a.y1 - a.y0)) h.siz.depth h.siz.signed) (sym (get_or-map-range_with_len f 0 h.siz.components c c e less (omega arith)))
            (record { count = raster_length a (sample_of_tiles bytes h d c) ∙ turned; range = raster_range a (sample_of_tiles bytes h d c) h.siz (λ x y. pixel_range _ h.siz _ c is.some_bits) });
      };
    }
