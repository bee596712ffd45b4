-- A picture that is put together of stripes of rows.
use Rattle.std.proofs.Common.{◌≡◌, ℕ, ◌+◌, ◌*◌, ◌-◌, ◌<◌, ◌≤◌, ◌⊎◌, Bool, true, false, if◌then◌else◌, List, [], ◌∷◌, All, length, map, get_or, leb, ℤ, pos, ◌≤ℤ◌, refl, sym, ap, subst, ◌∙◌, inl, inr, arith, lit≤}
use Rattle.std.specs.List.{range_with_len}
use Rattle.std.proofs.lemmas.Bool.{cases_lt, le-leb, lt-leb}
use Rattle.std.proofs.lemmas.Int.{ints}
use Rattle.std.proofs.lemmas.List.{ext_get_or, get_or_past, get_or_default}
use Rattle.std.proofs.lemmas.List.FromFn.{length-map-range_with_len, get_or-map-range_with_len}
use Rattle.std.proofs.Math.Nat.{one-le-pow}
use Rattle.jk_math.specs.Memory.{IsMemory}
use Rattle.jk_math.specs.declared.fault.Fault.{Fault}
use Rattle.jk_math.specs.Picture.{Picture, IsPicture, IsPlane, lowest, greatest}
use Rattle.jk_math.specs.declared.rect.Rect.{Rect}
use Rattle.jk_math.specs.Raster.{raster, places_of}
use Rattle.jk_math.proofs.Laws.{raster_length, raster_entry, raster_at, raster_is, raster_same, IsPlaceOf}
use Rattle.jk_params.specs.declared.picture_frame.PictureFrame.{PictureFrame}
use Rattle.jk_params.specs.PictureFrames.{frame_of, IsPictureFrame}
use Rattle.jk_code.specs.Made.{rows_of}
use Rattle.jk_code.specs.Rows.{AreTaken, WereTaken}
use Rattle.jk_code.specs.RowsWritten.{IsStripe, WereGiven, HasMet, sample_on_grid, HaveSameRows}
use Rattle.jk_params.proofs.Laws.{frame_is}
use Rattle.jk_code.proofs.RowLaws.{none_taken, taken_more, taken_one}

-- ---- a picture by its samples

abbrev pub area_in : PictureFrame → Rect
area_in f = record { x0 = f.x0; y0 = f.y0; x1 = f.x0 + f.width; y1 = f.y0 + f.height }

-- the picture of a frame with these samples, by component, column and row of the reference grid
abbrev pub picture_from : PictureFrame → (ℕ → ℕ → ℕ → ℤ) → Picture
picture_from f g = record {
  x0 = f.x0;
  y0 = f.y0;
  width = f.width;
  height = f.height;
  depth = f.depth;
  signed = f.signed;
  planes = map (λ c. raster (area_in f) (g c)) (range_with_len 0 f.components);
}

from_frame : (f : PictureFrame) (g : ℕ → ℕ → ℕ → ℤ) → frame_of (picture_from f g) ≡ f
from_frame f g = ap (λ (n : ℕ). let r : PictureFrame = record f { components = n } in r) (length-map-range_with_len (λ c. raster (area_in f) (g c)) 0 f.components)

-- a sample in its range
abbrev InRange : (depth : ℕ) → Bool → ℤ → Type 0
InRange depth signed z = (lowest depth signed ≤ℤ z) × (z ≤ℤ greatest depth signed)

zero_range : (depth : ℕ) (signed : Bool) → 1 ≤ depth → InRange depth signed (pos 0)
zero_range depth true h = let p = one-le-pow (depth - 1) 2 (lit≤ tt) in (omega (arith, ints, p), omega (arith, ints, p))
zero_range depth false h = let p = one-le-pow depth 2 (lit≤ tt) in (omega (arith, ints, p), omega (arith, ints, p))

value_range : (p : Picture) → IsPicture p → (c x y : ℕ) → InRange p.depth p.signed (sample_on_grid p c x y)
value_range p is c x y = by (cases_lt c (length p.planes))
  where
    index : ℕ
    index = (y - p.y0) * p.width + (x - p.x0)

    range : ℤ → Type 0
    range z = InRange p.depth p.signed z

    zero : range (pos 0)
    zero = zero_range p.depth p.signed is.components.some_bits

    past : (xs : List ℤ) → length xs ≤ index → range (get_or xs index (pos 0))
    past xs le = subst range (sym (get_or_past xs index (pos 0) le)) zero

    in_plane : (lt : c < length p.planes) → range (sample_on_grid p c x y)
    in_plane lt = elim (cases_lt index (length (get_or p.planes c []))) [
      | inl less ↦ (is.components.each c [] lt).range index (pos 0) less
      | inr le ↦ past (get_or p.planes c []) le
    ]

    by : (c < length p.planes) ⊎ (length p.planes ≤ c) → range (sample_on_grid p c x y)
    by (inl lt) = in_plane lt
    by (inr le) =
        subst (λ (plane : List ℤ). range (get_or plane index (pos 0))) (sym (get_or_past p.planes c [] le)) zero

raster_range : (a : Rect) (f : ℕ → ℕ → ℤ) (depth : ℕ) (signed : Bool) → ((x y : ℕ) → InRange depth signed (f x y)) → All (InRange depth signed) (raster a f)
raster_range a f depth signed each k d lt =
    let less : k < places_of a = omega (arith, lt, raster_length a f) in
    subst (InRange depth signed) (get_or_default (raster a f) k (pos 0) d lt) (subst (InRange depth signed) (sym (raster_entry a f k less)) (each _ _))

places_are : (x y w h : ℕ) → (y + h - y) * (x + w - x) ≡ w * h
places_are x y w h =
    let wide : x + w - x ≡ w = omega arith in
    let high : y + h - y ≡ h = omega arith in
    ap (λ n. n * (x + w - x)) high ∙ ap (λ n. h * n) wide ∙ (let turn : h * w ≡ w * h = grind arith in turn)

from_is : (f : PictureFrame) (g : ℕ → ℕ → ℕ → ℤ) → IsPictureFrame f → ((c x y : ℕ) → InRange f.depth f.signed (g c x y)) → IsPicture (picture_from f g)
from_is f g is each =
    let plane : ℕ → List ℤ = λ c. raster (area_in f) (g c) in
    let count = length-map-range_with_len plane 0 f.components in
    let some = is.some in
    let few = is.few in
    let places : places_of (area_in f) ≡ f.width * f.height = places_are f.x0 f.y0 f.width f.height in
    record {
      frame = is.frame;
      components = record {
        some_bits = is.some_bits;
        few_bits = is.few_bits;
        some = omega (arith, count, some);
        few = omega (arith, count, few);
        each = λ c e lt.
            let less : c < f.components = omega (arith, lt, count) in
            subst (IsPlane (f.width * f.height) f.depth f.signed) (sym (get_or-map-range_with_len plane 0 f.components c c e less (omega arith)))
            (record { count = raster_length (area_in f) (g c) ∙ places; range = raster_range (area_in f) (g c) f.depth f.signed (each c) });
      };
    }

-- the samples that it was made of
from_value : (f : PictureFrame) (g : ℕ → ℕ → ℕ → ℤ) (c x y : ℕ) → c < f.components → IsPlaceOf (area_in f) x y → sample_on_grid (picture_from f g) c x y ≡ g c x y
from_value f g c x y lt place =
    let plane : ℕ → List ℤ = λ c. raster (area_in f) (g c) in
    let wide : f.x0 + f.width - f.x0 ≡ f.width = omega arith in
    ap (λ (xs : List ℤ). get_or xs ((y - f.y0) * f.width + (x - f.x0)) (pos 0)) (get_or-map-range_with_len plane 0 f.components c c [] lt (omega arith))
    ∙ ap (λ w. get_or (plane c) ((y - f.y0) * w + (x - f.x0)) (pos 0)) (sym wide) ∙ raster_at (area_in f) (g c) x y place

-- ---- the same rows

pub same_rows_in : (p q : Picture) (y z v w : ℕ) → y ≤ v → w ≤ z → HaveSameRows p q y z → HaveSameRows p q v w
same_rows_in p q y z v w low high same = record {
  frame = same.frame;
  values = λ c x r lt left right upper lower. same.values c x r lt left right (omega (arith, low, upper)) (omega (arith, high, lower));
}

-- so many planes of a rectangle
abbrev planes_on : Rect → ℕ → (ℕ → ℕ → ℕ → ℤ) → List (List ℤ)
planes_on a n g = map (λ c. raster a (g c)) (range_with_len 0 n)

planes_same : (a : Rect) (n : ℕ) (g h : ℕ → ℕ → ℕ → ℤ) → ((c x y : ℕ) → c < n → IsPlaceOf a x y → g c x y ≡ h c x y) → planes_on a n g ≡ planes_on a n h
planes_same a n g h same =
    let first : ℕ → List ℤ = λ c. raster a (g c) in
    let second : ℕ → List ℤ = λ c. raster a (h c) in
    let count = length-map-range_with_len first 0 n in
    ext_get_or [] (planes_on a n g) (planes_on a n h) (count ∙ sym (length-map-range_with_len second 0 n)) (λ c lt.
    let less : c < n = omega (arith, lt, count) in
    get_or-map-range_with_len first 0 n c c [] less (omega arith) ∙ raster_same a (g c) (h c) (λ x y place. same c x y less place) ∙ sym (get_or-map-range_with_len second 0 n c c [] less (omega arith)))

-- rows of a picture by what they depend on
abbrev rows_on : PictureFrame → (y z : ℕ) → (ℕ → ℕ → ℕ → ℤ) → Picture
rows_on f y z g = record {
  x0 = f.x0;
  y0 = y;
  width = f.x0 + f.width - f.x0;
  height = z - y;
  depth = f.depth;
  signed = f.signed;
  planes = planes_on (record { x0 = f.x0; y0 = y; x1 = f.x0 + f.width; y1 = z }) f.components g;
}

abbrev with_planes : Picture → List (List ℤ) → Picture
with_planes p planes = record p { planes = planes }

pub same_rows : (p q : Picture) (y z : ℕ) → HaveSameRows p q y z → rows_of p y z ≡ rows_of q y z
same_rows p q y z same =
    ap (λ (planes : List (List ℤ)). let r : Picture = record (rows_of p y z) { planes = planes } in r)
    (planes_same (record { x0 = p.x0; y0 = y; x1 = p.x0 + p.width; y1 = z }) (length p.planes) (sample_on_grid p) (sample_on_grid q) (λ c u v lt place.
    let left = place.left in let right = place.right in let upper = place.upper in let lower = place.lower in
    same.values c u v lt left right upper lower))
    ∙ ap (λ (f : PictureFrame). rows_on f y z (sample_on_grid q)) same.frame

-- what was taken of one was taken of the other
pub same_taken : {A : Type 0} (took : A → Picture → A → Type 0) (p q : Picture) (y z : ℕ) (from to : A) → HaveSameRows p q y z → WereTaken took p y z from to → WereTaken took q y z from to
same_taken {A} took p q y z from to same taken = (taken.0, go y from taken.0 (omega arith) taken.1)
  where
    go : (w : ℕ) (x : A) (stripes : List (ℕ × A)) → y ≤ w → AreTaken took p w z x stripes to → AreTaken took q w z x stripes to
    go w x [] low h = h
    go w x (s ∷ stripes) low h =
        let here = same_rows p q w s.0 (same_rows_in p q y z w s.0 low h.1 same) in
        let next = h.0 in
        (h.0, h.1, subst (λ (rows : Picture). took x rows s.1) here h.2, go s.0 s.1 stripes (omega (arith, low, next)) h.3)

planes_whole : (p : Picture) → IsPicture p → planes_on (record { x0 = p.x0; y0 = p.y0; x1 = p.x0 + p.width; y1 = p.y0 + p.height }) (length p.planes) (sample_on_grid p) ≡ p.planes
planes_whole p is =
    let a : Rect = record { x0 = p.x0; y0 = p.y0; x1 = p.x0 + p.width; y1 = p.y0 + p.height } in
    let plane : ℕ → List ℤ = λ c. raster a (sample_on_grid p c) in
    let count = length-map-range_with_len plane 0 (length p.planes) in
    let wide : p.x0 + p.width - p.x0 ≡ p.width = omega arith in
    ext_get_or [] (planes_on a (length p.planes) (sample_on_grid p)) p.planes count (λ c lt.
    let less : c < length p.planes = omega (arith, lt, count) in
    let values = get_or p.planes c [] in
    get_or-map-range_with_len plane 0 (length p.planes) c c [] less (omega arith)
    ∙ sym (raster_is a values (sample_on_grid p c) ((is.components.each c [] less).count ∙ sym (places_are p.x0 p.y0 p.width p.height)) (λ x y place. ap (λ w. get_or values ((y - p.y0) * w + (x - p.x0)) (pos 0)) wide)))

-- a picture is all its rows
pub whole_rows : (p : Picture) → IsPicture p → rows_of p p.y0 (p.y0 + p.height) ≡ p
whole_rows p is =
    let wide : p.x0 + p.width - p.x0 ≡ p.width = omega arith in
    let high : p.y0 + p.height - p.y0 ≡ p.height = omega arith in
    ap (λ (planes : List (List ℤ)). with_planes (rows_of p p.y0 (p.y0 + p.height)) planes) (planes_whole p is)
    ∙ ap (λ (w : ℕ). let r : Picture = record p { width = w; height = p.y0 + p.height - p.y0 } in r) wide ∙ ap (λ (h : ℕ). let r : Picture = record p { height = h } in r) high

rows_values : (f : PictureFrame) (y z : ℕ) (g h : ℕ → ℕ → ℕ → ℤ) → ((c x r : ℕ) → c < f.components → f.x0 ≤ x → x < f.x0 + f.width → y ≤ r → r < z → g c x r ≡ h c x r) → rows_on f y z g ≡ rows_on f y z h
rows_values f y z g h same =
    ap (λ (planes : List (List ℤ)). with_planes (rows_on f y z g) planes)
    (planes_same (record { x0 = f.x0; y0 = y; x1 = f.x0 + f.width; y1 = z }) f.components g h (λ c u v lt place.
    let left = place.left in let right = place.right in let upper = place.upper in let lower = place.lower in
    same c u v lt left right upper lower))

-- ---- one stripe more

-- a picture whose rows from y on are those of another
abbrev pub joined : (y : ℕ) → (p v : Picture) → Picture
joined y p v = picture_from (frame_of p) (λ c x r. if leb y r then sample_on_grid v c x r else sample_on_grid p c x r)

joined_is : (y : ℕ) (p v : Picture) → IsPicture p → IsPicture v → v.depth ≡ p.depth → v.signed ≡ p.signed → IsPicture (joined y p v)
joined_is y p v is_p is_v depth signed = from_is (frame_of p) (λ c x r. if leb y r then sample_on_grid v c x r else sample_on_grid p c x r) (frame_is p is_p) (λ c x r. by c x r (leb y r))
  where
    of_v : (c x r : ℕ) → InRange p.depth p.signed (sample_on_grid v c x r)
    of_v c x r = subst (λ (s : Bool). InRange p.depth s (sample_on_grid v c x r)) signed (subst (λ d. InRange d v.signed (sample_on_grid v c x r)) depth (value_range v is_v c x r))

    by : (c x r : ℕ) (b : Bool) → InRange p.depth p.signed (if b then sample_on_grid v c x r else sample_on_grid p c x r)
    by c x r true = of_v c x r
    by c x r false = value_range p is_p c x r

-- its rows above y,
pub joined_above : (y : ℕ) (p v : Picture) (a : ℕ) → p.y0 ≤ a → y ≤ p.y0 + p.height → HaveSameRows p (joined y p v) a y
joined_above y p v a low high =
    let g : ℕ → ℕ → ℕ → ℤ = λ c x r. if leb y r then sample_on_grid v c x r else sample_on_grid p c x r in
    record {
      frame = sym (from_frame (frame_of p) g);
      values = λ c x r lt left right upper lower.
          sym
          (from_value (frame_of p) g c x r lt (record { left = left; right = right; upper = omega (arith, low, upper); lower = omega (arith, high, lower) })
          ∙ ap (λ (b : Bool). if b then sample_on_grid v c x r else sample_on_grid p c x r) (lt-leb y r lower));
    }

-- and those from y on
joined_value : (y : ℕ) (p v : Picture) (z c x r : ℕ) → p.y0 ≤ y → z ≤ p.y0 + p.height → c < length p.planes → p.x0 ≤ x → x < p.x0 + p.width → y ≤ r → r < z → sample_on_grid (joined y p v) c x r ≡ sample_on_grid v c x r
joined_value y p v z c x r low high lt left right upper lower =
    let g : ℕ → ℕ → ℕ → ℤ = λ c x r. if leb y r then sample_on_grid v c x r else sample_on_grid p c x r in
    from_value (frame_of p) g c x r lt (record { left = left; right = right; upper = omega (arith, low, upper); lower = omega (arith, high, lower) })
    ∙ ap (λ (b : Bool). if b then sample_on_grid v c x r else sample_on_grid p c x r) (le-leb y r upper)

-- a stripe that was joined
joined_stripe : (y : ℕ) (p v : Picture) (z : ℕ) → IsPicture v → IsStripe (frame_of p) y z v → p.y0 ≤ y → y < z → z ≤ p.y0 + p.height → rows_of (joined y p v) y z ≡ v
joined_stripe y p v z is stripe low more high =
    let g : ℕ → ℕ → ℕ → ℤ = λ c x r. if leb y r then sample_on_grid v c x r else sample_on_grid p c x r in
    let count = ap (λ (f : PictureFrame). f.components) (from_frame (frame_of p) g) in
    let top : v.y0 ≡ y = ap (λ (f : PictureFrame). f.y0) stripe in
    let tall : v.height ≡ z - y = ap (λ (f : PictureFrame). f.height) stripe in
    let end : v.y0 + v.height ≡ z = omega (arith, top, tall, more) in
    rows_values (frame_of (joined y p v)) y z (sample_on_grid (joined y p v)) (sample_on_grid v) (λ c x r lt left right upper lower. joined_value y p v z c x r low high (omega (arith, lt, count)) left right upper lower)
    ∙ ap (λ (f : PictureFrame). rows_on f y z (sample_on_grid v)) (from_frame (frame_of p) g)
    ∙ sym (ap (λ (f : PictureFrame). rows_on f y z (sample_on_grid v)) stripe)
    ∙ ap (λ n. rows_of v n z) (sym top) ∙ ap (λ n. rows_of v v.y0 n) (sym end) ∙ whole_rows v is

-- ---- what was given

abbrev pub blank : PictureFrame → Picture
blank f = picture_from f (λ c x y. pos 0)

pub given_none : {A : Type 0} (gave : A → Picture → A → Type 0) (f : PictureFrame) (y : ℕ) (x : A) → IsPictureFrame f → WereGiven gave f y y x x (blank f)
given_none gave f y x is = record {
  picture = from_is f (λ c x y. pos 0) is (λ c x y. zero_range f.depth f.signed is.some_bits);
  frame = from_frame f (λ c x y. pos 0);
  rows = none_taken gave (blank f) y x;
}

-- the frame of a picture's joined one
joined_frame : (f : PictureFrame) (y : ℕ) (p v : Picture) → frame_of p ≡ f → frame_of (joined y p v) ≡ f
joined_frame f y p v same = from_frame (frame_of p) (λ c x r. if leb y r then sample_on_grid v c x r else sample_on_grid p c x r) ∙ same

-- a stripe more
pub given_more : {A : Type 0} (gave : A → Picture → A → Type 0) (f : PictureFrame) (a y z : ℕ) (from mid to : A) (p v : Picture) → f.y0 ≤ a → a ≤ y → y < z → z ≤ f.y0 + f.height
    → WereGiven gave f a y from mid p → IsPicture v → IsStripe f y z v → gave mid v to → WereGiven gave f a z from to (joined y p v)
given_more gave f a y z from mid to p v low before more high given is stripe here =
    let top : p.y0 ≡ f.y0 = ap (λ (x : PictureFrame). x.y0) given.frame in
    let tall : p.height ≡ f.height = ap (λ (x : PictureFrame). x.height) given.frame in
    let own : IsStripe (frame_of p) y z v = subst (λ (x : PictureFrame). IsStripe x y z v) (sym given.frame) stripe in
    let depth : v.depth ≡ p.depth = ap (λ (x : PictureFrame). x.depth) own in
    let signed : v.signed ≡ p.signed = ap (λ (x : PictureFrame). x.signed) own in
    let last = joined_stripe y p v z is own (omega (arith, top, low, before)) more (omega (arith, top, tall, high)) in
    record {
      picture = joined_is y p v given.picture is depth signed;
      frame = joined_frame f y p v given.frame;
      rows = taken_more gave (joined y p v) a y z from mid to (omega (arith, more))
          (same_taken gave p (joined y p v) a y from mid (joined_above y p v a (omega (arith, top, low)) (omega (arith, top, tall, more, high))) given.rows)
          (taken_one gave (joined y p v) y z mid to more (subst (λ (x : Picture). gave mid x to) (sym last) here));
    }

-- a fault in place of the next rows
pub met_here : {A : Type 0} (gave : A → Picture → A → Type 0) (met : A → Fault → A → Type 0) (f : PictureFrame) (a y z : ℕ) (from mid to : A) (p : Picture) (e : Fault) → a ≤ y → y < z
    → WereGiven gave f a y from mid p → IsMemory e ⊎ met mid e to → IsMemory e ⊎ HasMet gave met f a z from to e
met_here gave met f a y z from mid to p e low high given why = elim why [
  | inl memory ↦ inl memory
  | inr fault ↦ inr (record { picture = p; next = y; before = mid; low = low; high = high; given = given; fault = fault })
]

-- ---- the same rows as what was joined

pub same_self : (p : Picture) (y z : ℕ) → HaveSameRows p p y z
same_self p y z = record { frame = refl; values = λ c x r lt left right upper lower. refl }

pub same_join : (p q r : Picture) (y z : ℕ) → HaveSameRows p q y z → HaveSameRows q r y z → HaveSameRows p r y z
same_join p q r y z first second =
    let count = ap (λ (f : PictureFrame). f.components) first.frame in
    let x0 = ap (λ (f : PictureFrame). f.x0) first.frame in
    let width = ap (λ (f : PictureFrame). f.width) first.frame in
    record {
      frame = first.frame ∙ second.frame;
      values = λ c x r lt left right upper lower. first.values c x r lt left right upper lower
          ∙ second.values c x r (omega (arith, lt, count)) (omega (arith, left, x0)) (omega (arith, right, x0, width)) upper lower;
    }

-- A picture with the rows that were joined has those before and the stripe.
pub record HasJoined (p v r : Picture) (a y z : ℕ) : Type 0 where
  pub before : HaveSameRows p r a y
  pub stripe : v ≡ rows_of r v.y0 (v.y0 + v.height)

pub joined_agrees : (f : PictureFrame) (a y z : ℕ) (p v r : Picture) → f.y0 ≤ a → a ≤ y → y < z → z ≤ f.y0 + f.height → frame_of p ≡ f → IsPicture v → IsStripe f y z v → HaveSameRows (joined y p v) r a z → HasJoined p v r a y z
joined_agrees f a y z p v r low before more high frame is stripe same =
    let top : p.y0 ≡ f.y0 = ap (λ (x : PictureFrame). x.y0) frame in
    let tall : p.height ≡ f.height = ap (λ (x : PictureFrame). x.height) frame in
    let own : IsStripe (frame_of p) y z v = subst (λ (x : PictureFrame). IsStripe x y z v) (sym frame) stripe in
    let first : v.y0 ≡ y = ap (λ (x : PictureFrame). x.y0) stripe in
    let rows : v.height ≡ z - y = ap (λ (x : PictureFrame). x.height) stripe in
    let end : v.y0 + v.height ≡ z = omega (arith, first, rows, more) in
    record {
      before = same_join p (joined y p v) r a y (joined_above y p v a (omega (arith, top, low)) (omega (arith, top, tall, more, high))) (same_rows_in (joined y p v) r a z a y (omega arith) (omega (arith, more)) same);
      stripe = sym (joined_stripe y p v z is own (omega (arith, top, low, before)) more (omega (arith, top, tall, high)))
          ∙ same_rows (joined y p v) r y z (same_rows_in (joined y p v) r a z y z before (omega arith) same)
          ∙ ap (λ n. rows_of r n z) (sym first) ∙ ap (λ n. rows_of r v.y0 n) (sym end);
    }

-- a sample of some rows is the picture's
pub rows_value : (p : Picture) (a b c x y : ℕ) → c < length p.planes → p.x0 ≤ x → x < p.x0 + p.width → a ≤ y → y < b → sample_on_grid (rows_of p a b) c x y ≡ sample_on_grid p c x y
rows_value p a b c x y lt left right upper lower =
    let w : Rect = record { x0 = p.x0; y0 = a; x1 = p.x0 + p.width; y1 = b } in
    let plane : ℕ → List ℤ = λ c. raster w (sample_on_grid p c) in
    ap (λ (xs : List ℤ). get_or xs ((y - a) * (p.x0 + p.width - p.x0) + (x - p.x0)) (pos 0)) (get_or-map-range_with_len plane 0 (length p.planes) c c [] lt (omega arith))
    ∙ raster_at w (sample_on_grid p c) x y (record { left = left; right = right; upper = upper; lower = lower })

-- What a stripe behind the rows of a picture makes of it.
pub record IsStep {A : Type 0} (gave : A → Picture → A → Type 0) (f : PictureFrame) (a y z : ℕ) (from to : A) (p v : Picture) : Type 0 where
  pub given : WereGiven gave f a z from to (joined y p v)
  pub start : v.y0 ≡ y
  pub end : v.y0 + v.height ≡ z
  pub stripe : IsStripe f v.y0 (v.y0 + v.height) v
  pub agrees : (r : Picture) → HaveSameRows (joined y p v) r a z → HasJoined p v r a y z

pub stripe_step : {A : Type 0} (gave : A → Picture → A → Type 0) (f : PictureFrame) (a y z : ℕ) (from mid to : A) (p v : Picture) → f.y0 ≤ a → a ≤ y → y < z → z ≤ f.y0 + f.height
    → WereGiven gave f a y from mid p → IsPicture v → IsStripe f y z v → gave mid v to → IsStep gave f a y z from to p v
stripe_step gave f a y z from mid to p v low before more high given is stripe here =
    let start : v.y0 ≡ y = ap (λ (x : PictureFrame). x.y0) stripe in
    let rows : v.height ≡ z - y = ap (λ (x : PictureFrame). x.height) stripe in
    let end : v.y0 + v.height ≡ z = omega (arith, start, rows, more) in
    record {
      given = given_more gave f a y z from mid to p v low before more high given is stripe here;
      start = start;
      end = end;
      stripe = subst (λ n. IsStripe f n (v.y0 + v.height) v) (sym start) (subst (λ n. IsStripe f y n v) (sym end) stripe);
      agrees = λ r same. joined_agrees f a y z p v r low before more high given.frame is stripe same;
    }
