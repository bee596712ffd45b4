-- The code-blocks of a tile-component that is written.
use Rattle.std.proofs.Common.{◌≡◌, ℕ, zero, suc, ◌+◌, ◌-◌, ◌*◌, ◌^◌, ◌<◌, ◌≤◌, List, [], ◌∷◌, ◌++◌, length, map, All, ℤ, pos, unsigned_abs, refl, sym, ap, subst, ◌∙◌, arith}
use Rattle.std.proofs.lemmas.List.Elements.{All-get_or, All-from_get_or}
use Rattle.std.proofs.lemmas.Nat.{pow_pos}
use Rattle.std.specs.List.{flat_map, range_with_len}
use Rattle.std.proofs.lemmas.List.{append-nil}
use Rattle.std.proofs.lemmas.List.Concat.{flat_map-append}
use Rattle.std.proofs.lemmas.List.FromFn.{map-range_with_len_more}
use Rattle.jk_math.specs.declared.rect.Rect.{Rect}
use Rattle.jk_math.specs.Raster.{columns_of, rows_of, places_of, plane_at, raster}
use Rattle.jk_math.specs.BitLength.{bit_length}
use Rattle.jk_math.proofs.Laws.{raster_length, index_below, bit_length_room, bit_length_few}
use Rattle.jk_marks.specs.declared.coding.Coding.{Coding}
use Rattle.jk_math.specs.declared.orientation.Orientation.{Orientation}
use Rattle.jk_math.specs.declared.style.Style.{Style}
use Rattle.jk_geom.specs.declared.grid.BlockGrid.{BlockGrid}
use Rattle.jk_geom.specs.Rectangles.{band_area}
use Rattle.jk_geom.specs.Blocks.{block_area, block_grid}
use Rattle.jk_geom.specs.Partitions.{block_number}
use Rattle.jk_scan.specs.declared.shape.BlockShape.{BlockShape}
use Rattle.jk_block.specs.BlockWritten.{greatest, Coded, coded}
use Rattle.jk_block.proofs.Laws.{greatest_bounds, greatest_small}
use Rattle.jk_wave.specs.Bands.{high_orientation, numbered_area}
use Rattle.jk_walk.specs.TilePackets.{orientations, band_number, planes_of}
use Rattle.jk_packet.specs.Written.{Table}
use Rattle.jk_tile.specs.Filling.{IsPartOf}
use Rattle.jk_tile.specs.TileBlocks.{orientation_at, grid_at, block_at_place, shape_of_area, block_shape, IsBlockShape}
use Rattle.jk_tile.specs.encoding.TileWritten.{WrittenBands, AreWrittenBands, band_of, coefficient_of, block_list, coded_at}
use Rattle.jk_tile.proofs.AllBands.{numbered_low, numbered_high}
use Rattle.jk_tile.proofs.Places.{block_is_shape, block_is_part}
use Rattle.jk_tile.proofs.encoding.Forwards.{raster_few, part_within}

-- the number of a sub-band of a resolution up to the highest
pub number_few : (levels r i : ℕ) → r ≤ levels → i < length (orientations r) → band_number r i ≤ 3 * levels
number_few levels zero i le lt = omega arith
number_few levels (suc q) i le lt = omega (arith, le, lt)

orientation_high : (q i : ℕ) → i < 3 → high_orientation i ≡ orientation_at (suc q) i
orientation_high q zero lt = refl
orientation_high q (suc zero) lt = refl
orientation_high q (suc (suc zero)) lt = refl
orientation_high q (suc (suc (suc i))) lt = absurd (omega (arith, lt))

-- the rectangle of a sub-band
pub numbered_is : (a : Rect) (levels r i : ℕ) → i < length (orientations r) → numbered_area a levels (band_number r i) ≡ band_area a levels r (orientation_at r i)
numbered_is a levels zero zero lt = numbered_low a levels
numbered_is a levels zero (suc i) lt = absurd (omega (arith, lt))
numbered_is a levels (suc q) i lt = numbered_high a levels q i lt ∙ ap (band_area a levels (suc q)) (orientation_high q i lt)

-- ---- a code-block

pub few_blocks : (s : WrittenBands) (r n i j : ℕ) (grid : BlockGrid) → grid ≡ grid_at s.rect s.coding r n i → j < grid.across * grid.down → j < block_number (grid_at s.rect s.coding r n i)
few_blocks s r n i j grid e lt = subst (λ (g : BlockGrid). j < g.across * g.down) e lt

pub place_of : (s : WrittenBands) (r n i j : ℕ) (grid : BlockGrid) (place : Rect) → grid ≡ grid_at s.rect s.coding r n i → place ≡ block_area grid j → place ≡ block_at_place s.rect s.coding r n i j
place_of s r n i j grid place e is = is ∙ ap (λ (g : BlockGrid). block_area g j) e

pub area_of : (s : WrittenBands) (r i : ℕ) (rect area : Rect) (levels : ℕ) (o : Orientation) → i < length (orientations r) → rect ≡ s.rect → levels ≡ s.coding.levels → o ≡ orientation_at r i → area ≡ band_area rect levels r o
    → area ≡ numbered_area s.rect s.coding.levels (band_number r i)
area_of s r i rect area levels o lt er el eo e =
    e ∙ ap (λ (a : Rect). band_area a levels r o) er ∙ ap (λ n. band_area s.rect n r o) el ∙ ap (band_area s.rect s.coding.levels r) eo ∙ sym (numbered_is s.rect s.coding.levels r i lt)

-- a code-block lies in its sub-band
pub place_part : (s : WrittenBands) (r n i j : ℕ) (area place : Rect) → i < length (orientations r) → j < block_number (grid_at s.rect s.coding r n i) → area ≡ numbered_area s.rect s.coding.levels (band_number r i)
    → place ≡ block_at_place s.rect s.coding r n i j → IsPartOf place area
place_part s r n i j area place lt few ea ep =
    subst (IsPartOf place) (sym (ea ∙ numbered_is s.rect s.coding.levels r i lt)) (subst (λ (b : Rect). IsPartOf b (band_area s.rect s.coding.levels r (orientation_at r i))) (sym ep) (block_is_part s.rect s.coding r n i j few))

pub plane_long : (s : WrittenBands) (r i : ℕ) (area : Rect) (plane : List ℤ) → AreWrittenBands s → r ≤ s.coding.levels → i < length (orientations r) → area ≡ numbered_area s.rect s.coding.levels (band_number r i)
    → plane ≡ band_of s (band_number r i) → length plane ≡ places_of area
plane_long s r i area plane are le lt ea ep = ap (λ (l : List ℤ). length l) ep ∙ are.long (band_number r i) (number_few s.coding.levels r i le lt) ∙ ap (λ (a : Rect). places_of a) (sym ea)

-- what is cut out of the sub-band is the code-block
pub values_are : (s : WrittenBands) (r n i j : ℕ) (area place : Rect) (plane values : List ℤ) → area ≡ numbered_area s.rect s.coding.levels (band_number r i) → place ≡ block_at_place s.rect s.coding r n i j
    → plane ≡ band_of s (band_number r i) → values ≡ raster place (plane_at area plane) → values ≡ block_list s.rect s.coding (coefficient_of s) r n i j
values_are s r n i j area place plane values ea ep el e =
    e ∙ ap (λ (b : Rect). raster b (plane_at area plane)) ep ∙ ap (λ (a : Rect). raster (block_at_place s.rect s.coding r n i j) (plane_at a plane)) ea
    ∙ ap (λ (l : List ℤ). raster (block_at_place s.rect s.coding r n i j) (plane_at (numbered_area s.rect s.coding.levels (band_number r i)) l)) el

pub shape_fits : (s : WrittenBands) (r n i j : ℕ) → AreWrittenBands s → j < block_number (grid_at s.rect s.coding r n i) → IsBlockShape (block_shape s.rect s.coding r n i j)
shape_fits s r n i j are lt = block_is_shape s.rect s.coding r n i j are.coding lt

-- each coefficient of a part of a sub-band is one of the sub-band
pub cut_few : (m : ℕ) (area place : Rect) (plane : List ℤ) → IsPartOf place area → length plane ≡ places_of area → All (λ v. unsigned_abs v < m) plane → All (λ v. unsigned_abs v < m) (raster place (plane_at area plane))
cut_few m area place plane part long small = raster_few m place (plane_at area plane) (λ x y h.
    let within = part_within place area x y part (record { left = h.left; right = h.right; upper = h.upper; lower = h.lower }) in
    let lt = index_below area x y (record { left = within.left; right = within.right; upper = within.upper; lower = within.lower }) in
    All-get_or (λ v. unsigned_abs v < m) plane ((y - area.y0) * columns_of area + (x - area.x0)) (pos 0) (omega (arith, lt, long)) small)

pub block_long : (place : Rect) (f : ℕ → ℕ → ℤ) (values : List ℤ) (o : Orientation) (t : Style) (shape : BlockShape) → values ≡ raster place f → shape ≡ shape_of_area place o t → length values ≡ shape.width * shape.height
block_long place f values o t shape e is =
    ap (λ (l : List ℤ). length l) e ∙ raster_length place f ∙ (let turned : rows_of place * columns_of place ≡ columns_of place * rows_of place = omega arith in turned) ∙ ap (λ (b : BlockShape). b.width * b.height) (sym is)

pub block_small : (area place : Rect) (plane band values : List ℤ) → IsPartOf place area → length plane ≡ places_of area → plane ≡ band → All (λ v. unsigned_abs v < 2 ^ 23) band → values ≡ raster place (plane_at area plane)
    → All (λ v. unsigned_abs v < 2 ^ 23) values
block_small area place plane band values part long e small is =
    subst (All (λ v. unsigned_abs v < 2 ^ 23)) (sym is) (cut_few (2 ^ 23) area place plane part long (subst (All (λ v. unsigned_abs v < 2 ^ 23)) (sym e) small))

-- a code-block has no more bits than its sub-band
pub planes_room : (s : WrittenBands) (r n i j : ℕ) → AreWrittenBands s → r ≤ s.coding.levels → i < length (orientations r) → j < block_number (grid_at s.rect s.coding r n i)
    → (coded_at s.rect s.coding (coefficient_of s) r n i j).planes ≤ planes_of s.coding (band_number r i)
unfolding coded
planes_room s r n i j are le lt few =
    let b = band_number r i in
    let area = numbered_area s.rect s.coding.levels b in
    let place = block_at_place s.rect s.coding r n i j in
    let band = band_of s b in
    let bits = bit_length (greatest band) in
    let room_for = bit_length_room (greatest band) in
    let all : All (λ v. unsigned_abs v < 2 ^ bits) band = All-from_get_or (λ v. unsigned_abs v < 2 ^ bits) band (pos 0) (λ k less. let bound = greatest_bounds band k in omega (arith, bound, room_for)) in
    let part = place_part s r n i j area place lt few refl refl in
    let long = plane_long s r i area band are le lt refl refl in
    let cut = cut_few (2 ^ bits) area place band part long all in
    let list = block_list s.rect s.coding (coefficient_of s) r n i j in
    let small = greatest_small list (2 ^ bits) (pow_pos bits) (λ k less. All-get_or (λ v. unsigned_abs v < 2 ^ bits) list k (pos 0) less cut) in
    let least = bit_length_few (greatest (block_list s.rect s.coding (coefficient_of s) r n i j)) bits small in
    let room = are.room b (number_few s.coding.levels r i le lt) in
    omega (arith, least, room)

-- ---- the tables of a precinct

pub grid_of : (s : WrittenBands) (r n i : ℕ) (rect : Rect) (coding : Coding) (o : Orientation) (grid : BlockGrid) → rect ≡ s.rect → coding ≡ s.coding → o ≡ orientation_at r i → grid ≡ block_grid rect coding r n o → grid ≡ grid_at s.rect s.coding r n i
grid_of s r n i rect coding o grid er ec eo e = e ∙ ap (λ (a : Rect). block_grid a coding r n o) er ∙ ap (λ (k : Coding). block_grid s.rect k r n o) ec ∙ ap (block_grid s.rect s.coding r n) eo

pub room_of : (s : WrittenBands) (r n i j planes : ℕ) (k : Coded) → AreWrittenBands s → r ≤ s.coding.levels → i < length (orientations r) → j < block_number (grid_at s.rect s.coding r n i)
    → k ≡ coded_at s.rect s.coding (coefficient_of s) r n i j → planes ≡ planes_of s.coding (band_number r i) → k.planes ≤ planes
room_of s r n i j planes k are le lt few e ep = let room = planes_room s r n i j are le lt few in let same = ap (λ (c : Coded). c.planes) e in omega (arith, room, same, ep)

pub bands_more : (g : ℕ → List Table) (n : ℕ) (old new : List Table) → old ≡ flat_map (λ ts. ts) (map g (range_with_len 0 n)) → new ≡ old ++ g n → new ≡ flat_map (λ ts. ts) (map g (range_with_len 0 (n + 1)))
bands_more g n old new eo e =
    e ∙ ap (λ (ts : List Table). ts ++ g n) eo ∙ ap (λ (ts : List Table). flat_map (λ x. x) (map g (range_with_len 0 n)) ++ ts) (sym (append-nil (g n)))
    ∙ sym (flat_map-append (λ ts. ts) (map g (range_with_len 0 n)) (g n ∷ [])) ∙ ap (flat_map (λ ts. ts)) (sym (map-range_with_len_more g 0 n n (omega arith)))
