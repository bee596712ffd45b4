-- What the test of parameters says, and the number of packets.
use Rattle.std.proofs.Common.{◌≡◌, ℕ, zero, suc, ◌+◌, ◌-◌, ◌*◌, ◌/◌, ◌^◌, ◌<◌, ◌≤◌, ◌⊎◌, inl, inr, Bool, true, false, not, ◌&&◌, ◌||◌, eqb, leb, ltb, List, [], ◌∷◌, length, replicate, Option, None, Some, refl, sym, ap, subst, ◌∙◌, arith, lit<}
use Rattle.std.specs.Prelude.{option_map, sum_by}
use Rattle.std.specs.List.{list_all, AllByRecursion}
use Rattle.std.proofs.Math.Nat.{mul-div-le, lt-div-mul-add}
use Rattle.std.proofs.lemmas.Bool.{eqb-true, leb-true, ltb-true, and_parts, or_cases}
use Rattle.std.proofs.lemmas.List.{length-replicate, get_or-replicate}
use Rattle.std.proofs.lemmas.List.Folds.{sum_by-replicate}
use Rattle.jk_math.specs.declared.rect.Rect.{Rect}
use Rattle.jk_math.specs.Picture.{Picture, IsPicture}
use Rattle.jk_marks.specs.declared.siz.Siz.{Siz}
use Rattle.jk_marks.specs.declared.coding.Coding.{Coding}
use Rattle.jk_marks.specs.declared.segments.CodingStyle.{CodingStyle}
use Rattle.jk_marks.specs.declared.segments.Quantisation.{Quantisation}
use Rattle.jk_marks.specs.Siz.{IsSiz, tile_count}
use Rattle.jk_marks.specs.Coding.{IsCoding}
use Rattle.jk_marks.specs.Segments.{ArePrecincts, IsStyle}
use Rattle.jk_geom.specs.Rectangles.{tile_area}
use Rattle.jk_geom.specs.Precincts.{precincts_across, precincts_down, precinct_number}
use Rattle.jk_geom.specs.Counts.{precincts_below, packet_number}
use Rattle.jk_geom.specs.TileShapes.{no_coding, AreCodings}
use Rattle.jk_params.specs.declared.parameters.Parameters.{Parameters}
use Rattle.jk_params.specs.Tiling.{first_tile, tile_side}
use Rattle.jk_params.specs.Coding.{coding_with}
use Rattle.jk_params.specs.Headers.{total, packets_alike, most_packets}
use Rattle.jk_params.specs.declared.picture_frame.PictureFrame.{PictureFrame}
use Rattle.jk_params.specs.PictureFrames.{frame_of, IsPictureFrame}
use Rattle.jk_params.specs.Profile.{siz_for, cod_of, are_sizes, are_precincts, is_tile, is_contained, tiles_for, coding_for, frame_packets, is_profile_for, is_profile, IsWrittenFor, IsWrittenBy}
use Rattle.jk_params.proofs.GoodLaws.{coding_is}

-- sums of the same numbers
total_same : (f g : ℕ → ℕ) (n : ℕ) → ((t : ℕ) → f t ≡ g t) → total f n ≡ total g n
unfolding total
total_same f g zero same = refl
total_same f g (suc n) same = ap (λ x. x + f n) (total_same f g n same) ∙ ap (λ x. total g n + x) (same n)

sum_same : (f : Coding → ℕ) (j k : Coding) (n : ℕ) → f j ≡ f k → sum_by f (replicate n j) ≡ sum_by f (replicate n k)
sum_same f j k n same = sum_by-replicate f n j ∙ ap (λ x. n * x) same ∙ sym (sum_by-replicate f n k)

-- the precincts of a resolution, those of the resolutions below one, and the packets of a tile
number_same : (a : Rect) (k : CodingStyle) (p q : Quantisation) (r : ℕ) → precinct_number a (coding_with k p) r ≡ precinct_number a (coding_with k q) r
unfolding precincts_across precincts_down
number_same a k p q r = refl

below_same : (a : Rect) (k : CodingStyle) (p q : Quantisation) (r : ℕ) → precincts_below a (coding_with k p) r ≡ precincts_below a (coding_with k q) r
unfolding precincts_below
below_same a k p q zero = refl
below_same a k p q (suc r) =
    ap (λ x. x + precinct_number a (coding_with k p) r) (below_same a k p q r) ∙ ap (λ x. precincts_below a (coding_with k q) r + x) (number_same a k p q r)

pub tile_same : (a : Rect) (layers n : ℕ) (k : CodingStyle) (p q : Quantisation) → packet_number a layers (replicate n (coding_with k p)) ≡ packet_number a layers (replicate n (coding_with k q))
unfolding packet_number
tile_same a layers n k p q =
    ap (λ x. layers * x) (sum_same (λ (j : Coding). precincts_below a j (j.levels + 1)) (coding_with k p) (coding_with k q) n (below_same a k p q (k.levels + 1)))

-- the number of packets doesn't depend on guard bits and exponents
pub same_packets : (siz : Siz) (layers n : ℕ) (k : CodingStyle) (a b : Quantisation)
    → packets_alike siz layers (replicate n (coding_with k a)) ≡ packets_alike siz layers (replicate n (coding_with k b))
same_packets siz layers n k a b =
    total_same (λ t. packet_number (tile_area siz t) layers (replicate n (coding_with k a))) (λ t. packet_number (tile_area siz t) layers (replicate n (coding_with k b)))
    (tile_count siz) (λ t. tile_same (tile_area siz t) layers n k a b)

-- the sizes that are tested
record AreSizes (q : Parameters) : Type 0 where
  levels : q.levels ≤ 5
  some : 1 ≤ q.layers
  few : q.layers ≤ 32
  narrow : 2 ≤ q.xcb
  wide : q.xcb ≤ 10
  low : 2 ≤ q.ycb
  high : q.ycb ≤ 10
  area : q.xcb + q.ycb ≤ 12

sizes_are : (q : Parameters) → are_sizes q ≡ true → AreSizes q
sizes_are q e =
    let a1 = leb q.levels 5 in
    let a2 = a1 && leb 1 q.layers in
    let a3 = a2 && leb q.layers 32 in
    let a4 = a3 && leb 2 q.xcb in
    let a5 = a4 && leb q.xcb 10 in
    let a6 = a5 && leb 2 q.ycb in
    let a7 = a6 && leb q.ycb 10 in
    let t8 = and_parts a7 (leb (q.xcb + q.ycb) 12) e in
    let t7 = and_parts a6 (leb q.ycb 10) t8.0 in
    let t6 = and_parts a5 (leb 2 q.ycb) t7.0 in
    let t5 = and_parts a4 (leb q.xcb 10) t6.0 in
    let t4 = and_parts a3 (leb 2 q.xcb) t5.0 in
    let t3 = and_parts a2 (leb q.layers 32) t4.0 in
    let t2 = and_parts a1 (leb 1 q.layers) t3.0 in
    record {
      levels = leb-true q.levels 5 t2.0;
      some = leb-true 1 q.layers t2.1;
      few = leb-true q.layers 32 t3.1;
      narrow = leb-true 2 q.xcb t4.1;
      wide = leb-true q.xcb 10 t5.1;
      low = leb-true 2 q.ycb t6.1;
      high = leb-true q.ycb 10 t7.1;
      area = leb-true (q.xcb + q.ycb) 12 t8.1;
    }

-- exponents of which each passes a test
all_small : (ps : List (ℕ × ℕ)) → list_all (λ s. leb s.0 15 && leb s.1 15) ps ≡ true → AllByRecursion (λ p. (p.0 < 16) × (p.1 < 16)) ps
all_small [] e = tt
all_small (p ∷ ps) e =
    let h = and_parts (leb p.0 15 && leb p.1 15) (list_all (λ s. leb s.0 15 && leb s.1 15) ps) e in
    let one = and_parts (leb p.0 15) (leb p.1 15) h.0 in
    ((omega (arith, leb-true p.0 15 one.0), omega (arith, leb-true p.1 15 one.1)), all_small ps h.1)

all_whole : (ps : List (ℕ × ℕ)) → list_all (λ s. ltb 0 s.0 && ltb 0 s.1) ps ≡ true → AllByRecursion (λ p. (0 < p.0) × (0 < p.1)) ps
all_whole [] e = tt
all_whole (p ∷ ps) e =
    let h = and_parts (ltb 0 p.0 && ltb 0 p.1) (list_all (λ s. ltb 0 s.0 && ltb 0 s.1) ps) e in
    let one = and_parts (ltb 0 p.0) (ltb 0 p.1) h.0 in
    ((ltb-true 0 p.0 one.0, ltb-true 0 p.1 one.1), all_whole ps h.1)

precincts_are : (levels : ℕ) (ps : List (ℕ × ℕ)) → are_precincts levels ps ≡ true → ArePrecincts levels ps
precincts_are levels [] e = record { count = inl refl; small = tt; whole = tt }
precincts_are levels (p ∷ ps) e =
    by (or_cases (eqb (length (p ∷ ps)) 0) (eqb (length (p ∷ ps)) (levels + 1) && list_all (λ s. leb s.0 15 && leb s.1 15) (p ∷ ps) && list_all (λ s. ltb 0 s.0 && ltb 0 s.1) ps) e)
  where
    by : (eqb (length (p ∷ ps)) 0 ≡ true) ⊎ ((eqb (length (p ∷ ps)) (levels + 1) && list_all (λ s. leb s.0 15 && leb s.1 15) (p ∷ ps) && list_all (λ s. ltb 0 s.0 && ltb 0 s.1) ps) ≡ true)
        → ArePrecincts levels (p ∷ ps)
    by (inl none) = let is = eqb-true (length (p ∷ ps)) 0 none in absurd (omega (arith, is))
    by (inr h) =
        let t2 = and_parts (eqb (length (p ∷ ps)) (levels + 1) && list_all (λ s. leb s.0 15 && leb s.1 15) (p ∷ ps)) (list_all (λ s. ltb 0 s.0 && ltb 0 s.1) ps) h in
        let t1 = and_parts (eqb (length (p ∷ ps)) (levels + 1)) (list_all (λ s. leb s.0 15 && leb s.1 15) (p ∷ ps)) t2.0 in
        record { count = inr (eqb-true (length (p ∷ ps)) (levels + 1) t1.0); small = all_small (p ∷ ps) t1.1; whole = all_whole ps t2.1 }

-- the style that is written
pub style_fits : (q : Parameters) → are_sizes q ≡ true → are_precincts q.levels q.precincts.items ≡ true → IsStyle (cod_of q).style
style_fits q sizes precincts =
    let s = sizes_are q sizes in
    let five = s.levels in
    record {
      levels = omega (arith, five);
      narrow = s.narrow;
      wide = s.wide;
      low = s.low;
      high = s.high;
      area = s.area;
      precincts = precincts_are q.levels q.precincts.items precincts;
    }

-- one coding for all components
pub alike_codings : (n : ℕ) (k : Coding) → 1 ≤ n → n ≤ 4 → IsCoding k → AreCodings (replicate n k)
alike_codings n k some few is =
    let count = length-replicate n k in
    record {
      some = omega (arith, count, some);
      few = omega (arith, count, few);
      each = λ c lt. subst (λ (x : Coding). IsCoding x) (sym (get_or-replicate n c k no_coding (omega (arith, count, lt)))) is;
    }

-- the codings that are counted
pub codings_fit : (q : Parameters) (n : ℕ) → are_sizes q ≡ true → are_precincts q.levels q.precincts.items ≡ true → 1 ≤ n → n ≤ 4
    → AreCodings (replicate n (coding_for q))
codings_fit q n sizes precincts some few =
    alike_codings n (coding_for q) some few (coding_is (cod_of q).style (record { guard = 2; exponents = [] }) (style_fits q sizes precincts))

-- The tiles of one side: they have a side, and the first of them holds the start of the image.
record IsAxis (side : Option ℕ) (start end : ℕ) : Type 0 where
  some : 0 < tile_side side end
  fits : tile_side side end < 2 ^ 32
  before : first_tile side start ≤ start
  beyond : start < first_tile side start + tile_side side end

axis_none : (start end : ℕ) → start < end → end < 2 ^ 31 → IsAxis None start end
axis_none start end lt few = record { some = omega (arith, lt); fits = omega (arith, few); before = omega arith; beyond = omega (arith, lt) }

axis_some : (side start end : ℕ) → 0 < side → side < 2 ^ 31 → IsAxis (Some side) start end
axis_some side start end some few =
    let under : side * (start / side) ≤ start = mul-div-le start side in
    let over : start < start / side * side + side = lt-div-mul-add some in
    record { some = some; fits = omega (arith, few); before = under; beyond = omega (arith, over) }

tile_axes : (t : Option (ℕ × ℕ)) (x0 x1 y0 y1 : ℕ) → is_tile t ≡ true → x0 < x1 → x1 < 2 ^ 31 → y0 < y1 → y1 < 2 ^ 31
    → IsAxis (option_map (λ s. s.0) t) x0 x1 × IsAxis (option_map (λ s. s.1) t) y0 y1
tile_axes None x0 x1 y0 y1 e wide right high lower = (axis_none x0 x1 wide right, axis_none y0 y1 high lower)
tile_axes (Some t) x0 x1 y0 y1 e wide right high lower =
    let a1 = leb 1 t.0 in
    let a2 = a1 && ltb t.0 (2 ^ 31) in
    let a3 = a2 && leb 1 t.1 in
    let t4 = and_parts a3 (ltb t.1 (2 ^ 31)) e in
    let t3 = and_parts a2 (leb 1 t.1) t4.0 in
    let t2 = and_parts a1 (ltb t.0 (2 ^ 31)) t3.0 in
    (axis_some t.0 x0 x1 (leb-true 1 t.0 t2.0) (ltb-true t.0 (2 ^ 31) t2.1), axis_some t.1 y0 y1 (leb-true 1 t.1 t3.1) (ltb-true t.1 (2 ^ 31) t4.1))

-- the size that is written
pub siz_fits : (q : Parameters) (f : PictureFrame) → IsPictureFrame f → is_tile q.tile ≡ true → leb (tiles_for q.tile f) 65535 ≡ true → IsSiz (siz_for f q)
siz_fits q f is tile tiles =
    let size = is.frame in
    let wide = size.wide in
    let high = size.high in
    let axes = tile_axes q.tile f.x0 (f.x0 + f.width) f.y0 (f.y0 + f.height) tile (omega (arith, wide)) size.right (omega (arith, high)) size.lower in
    let w : f.x0 + f.width - f.x0 ≡ f.width = omega arith in
    let h : f.y0 + f.height - f.y0 ≡ f.height = omega arith in
    record {
      part_one = lit< tt;
      wide = omega (arith, wide);
      high = omega (arith, high);
      right = size.right;
      lower = size.lower;
      area = rw (w, h) size.area;
      tile_wide = axes.0.some;
      tile_high = axes.1.some;
      width_fits = axes.0.fits;
      height_fits = axes.1.fits;
      tile_left = axes.0.before;
      tile_right = axes.0.beyond;
      tile_upper = axes.1.before;
      tile_lower = axes.1.beyond;
      tiles = leb-true (tiles_for q.tile f) 65535 tiles;
      some_components = is.some;
      few_components = is.few;
      some_bits = is.some_bits;
      few_bits = is.few_bits;
    }

-- the colour transform has three components to go over
colour_fits : (colour : Bool) (n : ℕ) → (not colour || leb 3 n) ≡ true → colour ≡ true → 3 ≤ n
colour_fits true n e is = leb-true 3 n e
colour_fits false n e is = absurd cc

-- what is within the profile can be written
pub profile_means : (q : Parameters) (f : PictureFrame) → IsPictureFrame f → is_profile_for q f ≡ true → IsWrittenFor q f
unfolding is_profile_for
profile_means q f is e =
    let n = f.components in
    let a1 = are_sizes q in
    let a2 = a1 && are_precincts q.levels q.precincts.items in
    let a3 = a2 && is_tile q.tile in
    let a4 = a3 && (not q.colour || leb 3 n) in
    let a5 = a4 && is_contained q.container n f.signed in
    let a6 = a5 && leb (tiles_for q.tile f) 65535 in
    let t7 = and_parts a6 (leb (frame_packets q f) most_packets) e in
    let t6 = and_parts a5 (leb (tiles_for q.tile f) 65535) t7.0 in
    let t5 = and_parts a4 (is_contained q.container n f.signed) t6.0 in
    let t4 = and_parts a3 (not q.colour || leb 3 n) t5.0 in
    let t3 = and_parts a2 (is_tile q.tile) t4.0 in
    let t2 = and_parts a1 (are_precincts q.levels q.precincts.items) t3.0 in
    let s = sizes_are q t2.0 in
    let some = s.some in
    let few = s.few in
    let style = style_fits q t2.0 t2.1 in
    record {
      sizes = t2.0;
      precincts = t2.1;
      siz = siz_fits q f is t3.1 t6.1;
      cod = record { some_layers = omega (arith, some); few_layers = omega (arith, few); colour = colour_fits q.colour n t4.1; style = style };
      coding = coding_is (cod_of q).style (record { guard = 2; exponents = [] }) style;
      few = leb-true (frame_packets q f) most_packets t7.1;
      tile = t3.1;
      tiles = t6.1;
      contained = t5.1;
      levels = s.levels;
      layers = (s.some, s.few);
    }

-- The frame of a picture is one that a picture may have.
pub frame_is : (p : Picture) → IsPicture p → IsPictureFrame (frame_of p)
frame_is p is = record {
  frame = is.frame;
  some_bits = is.components.some_bits;
  few_bits = is.components.few_bits;
  some = is.components.some;
  few = is.components.few;
}

-- An image is within the profile as its frame is, and is written as its frame is.
pub profile_by_frame : (q : Parameters) (p : Picture) → is_profile q p ≡ is_profile_for q (frame_of p)
unfolding is_profile
profile_by_frame q p = refl

pub written_by_frame : (q : Parameters) (p : Picture) → IsWrittenFor q (frame_of p) → IsWrittenBy q p
written_by_frame q p by = record {
  sizes = by.sizes;
  precincts = by.precincts;
  siz = by.siz;
  cod = by.cod;
  coding = by.coding;
  few = by.few;
  tile = by.tile;
  tiles = by.tiles;
  contained = by.contained;
  levels = by.levels;
  layers = by.layers;
}

pub frame_by_written : (q : Parameters) (p : Picture) → IsWrittenBy q p → IsWrittenFor q (frame_of p)
frame_by_written q p by = record {
  sizes = by.sizes;
  precincts = by.precincts;
  siz = by.siz;
  cod = by.cod;
  coding = by.coding;
  few = by.few;
  tile = by.tile;
  tiles = by.tiles;
  contained = by.contained;
  levels = by.levels;
  layers = by.layers;
}
