-- A tile as it is written: its sub-bands have room in their bit-planes, and its precincts have tables.
use Rattle.std.proofs.Common.{◌≡◌, ℕ, zero, suc, ◌+◌, ◌-◌, ◌*◌, ◌%◌, ◌^◌, ◌<◌, ◌≤◌, Bool, true, false, cond, eqb, max, List, [], ◌∷◌, length, map, get_or, All, ℤ, unsigned_abs, refl, sym, ap, subst, ◌∙◌, inl, inr, arith, lit≤, lit<, take, pos}
use Rattle.std.specs.List.{AllByRecursion, range_with_len}
use Rattle.std.proofs.lemmas.Bool.{cases_lt}
use Rattle.std.proofs.lemmas.List.{get_or-replicate, length-replicate, take_all}
use Rattle.std.proofs.lemmas.List.Elements.{All-get_or}
use Rattle.std.proofs.lemmas.List.FromFn.{length-map-range_with_len, get_or-map-range_with_len}
use Rattle.jk_math.specs.declared.rect.Rect.{Rect}
use Rattle.jk_math.specs.BitLength.{bit_length}
use Rattle.jk_math.specs.Picture.{Picture, IsPicture}
use Rattle.jk_math.specs.Raster.{plane_at}
use Rattle.jk_math.proofs.Laws.{raster_length, raster_same, raster_at, bit_length_few}
use Rattle.jk_marks.specs.declared.coding.Coding.{Coding}
use Rattle.jk_marks.specs.Siz.{tile_count}
use Rattle.jk_marks.specs.Coding.{IsCoding}
use Rattle.jk_geom.specs.Rectangles.{IsWithin, tile_area}
use Rattle.jk_geom.specs.Partitions.{block_number}
use Rattle.jk_geom.specs.TileShapes.{coding_of}
use Rattle.jk_packet.specs.declared.shape.BandShape.{BandShape}
use Rattle.jk_packet.specs.PacketText.{band_shape}
use Rattle.jk_packet.specs.Written.{Table, IsTable, AreBandTables, AreTables, band_tables, table_at}
use Rattle.jk_params.specs.declared.parameters.Parameters.{Parameters}
use Rattle.jk_params.specs.Coding.{band_count, HasPlanes}
use Rattle.jk_params.specs.Profile.{siz_of, IsWrittenBy}
use Rattle.jk_block.specs.BlockWritten.{greatest, Coded, coded}
use Rattle.jk_block.proofs.Laws.{greatest_small}
use Rattle.jk_wave.specs.Bands.{numbered_area}
use Rattle.jk_walk.specs.TilePackets.{orientations, band_number, planes_of, band_at, bands_at}
use Rattle.jk_walk.proofs.Laws.{exponent_fits}
use Rattle.jk_tile.specs.Filling.{IsPartOf}
use Rattle.jk_tile.specs.encoding.Forward.{tile_value}
use Rattle.jk_tile.specs.encoding.Needs.{written_coefficient, written_band, most, tile_need, need, gain, exponents_with, exponents_for}
use Rattle.jk_tile.specs.TileBlocks.{grid_at, block_at_place, block_shape}
use Rattle.jk_tile.specs.encoding.TileWritten.{AreWrittenBands, band_of, coefficient_of, block_list, coded_at}
use Rattle.jk_tile.specs.encoding.TilesFrom.{written_component}
use Rattle.jk_tile.specs.encoding.PacketsWritten.{coded_table, band_tables_at, precinct_tables, written_coding, written_shape, tile_tables}
use Rattle.jk_tile.proofs.Places.{block_is_shape, block_is_part}
use Rattle.jk_tile.proofs.encoding.Forwards.{band_list, band_length, coefficient_small, raster_few, tile_is_part, part_within}
use Rattle.jk_tile.proofs.encoding.WrittenBlocks.{number_few, numbered_is, planes_room}
use Rattle.jk_tile.proofs.encoding.LayerTables.{table_fits}
use Rattle.jk_tile.proofs.encoding.PacketsTold.{HaveTables}
use Rattle.jk_tile.proofs.encoding.TileAreas.{tile_is_area}

-- ---- needs

most_bounds : (f : ℕ → ℕ) (n i : ℕ) → i < n → f i ≤ most f n
most_bounds f zero i lt = absurd (omega (arith, lt))
most_bounds f (suc n) i lt = elim (cases_lt i n) [
  | inl less ↦ let before = most_bounds f n i less in omega (arith, before)
  | inr last ↦ let same : i ≡ n = omega (arith, lt, last) in let e = ap f same in omega (arith, e)
]

most_few : (f : ℕ → ℕ) (n m : ℕ) → ((i : ℕ) → i < n → f i ≤ m) → most f n ≤ m
most_few f zero m h = omega arith
most_few f (suc n) m h = let before = most_few f n m (λ i lt. h i (omega (arith, lt))) in let last = h n (omega arith) in omega (arith, before, last)

greatest_few : (xs : List ℤ) (n : ℕ) → 0 < n → All (λ v. unsigned_abs v < n) xs → greatest xs < n
greatest_few xs n some all = greatest_small xs n some (λ i lt. All-get_or (λ v. unsigned_abs v < n) xs i (pos 0) lt all)

need_by : (p : Picture) (q : Parameters) (b : ℕ) → need p q b ≡ most (λ t. tile_need p q t b) (tile_count (siz_of p q))
unfolding need
need_by p q b = refl

need_bounds : (p : Picture) (q : Parameters) (t c b : ℕ) → t < tile_count (siz_of p q) → c < length p.planes → bit_length (greatest (written_band p q t c b)) ≤ need p q b
need_bounds p q t c b tile some =
    let one = most_bounds (λ i. bit_length (greatest (written_band p q t i b))) (length p.planes) c some in
    let all = most_bounds (λ i. tile_need p q i b) (tile_count (siz_of p q)) t tile in
    let by = need_by p q b in
    omega (arith, one, all, by)

band_small : (p : Picture) (q : Parameters) (t c b : ℕ) → IsPicture p → IsWrittenBy q p → t < tile_count (siz_of p q) → c < length p.planes → b ≤ 3 * q.levels → All (λ v. unsigned_abs v < 2 ^ 23) (written_band p q t c b)
band_small p q t c b is by tile some le =
    let a = tile_area (siz_of p q) t in
    let part = tile_is_part p q t (tile_is_area (siz_of p q) t by.siz tile) in
    raster_few (2 ^ 23) (numbered_area a q.levels b) (written_coefficient p q t c b) (λ x y h. coefficient_small p q.colour c q.levels b a is (by.cod).colour some part by.levels le x y h)

need_few : (p : Picture) (q : Parameters) (b : ℕ) → IsPicture p → IsWrittenBy q p → b ≤ 3 * q.levels → need p q b ≤ 23
need_few p q b is by le =
    let all = most_few (λ t. tile_need p q t b) (tile_count (siz_of p q)) 23 (λ t tile. most_few (λ c. bit_length (greatest (written_band p q t c b))) (length p.planes) 23 (λ c some.
    bit_length_few (greatest (written_band p q t c b)) 23 (greatest_few (written_band p q t c b) (2 ^ 23) (lit< tt) (band_small p q t c b is by tile some le)))) in
    let e = need_by p q b in
    omega (arith, all, e)

-- ---- exponents

gain_few : (b : ℕ) → gain b ≤ 2
gain_few zero = lit≤ tt
gain_few (suc b) = by (eqb (b % 3) 2)
  where
    by : (t : Bool) → cond t 2 1 ≤ 2
    by true = lit≤ tt
    by false = lit≤ tt

pub exponents_long : (p : Picture) (q : Parameters) → length (exponents_for p q) ≡ band_count q.levels
exponents_long p q = length-map-range_with_len (λ b. max (p.depth + gain b) (need p q b - 1)) 0 (band_count q.levels)

exponent_at : (p : Picture) (q : Parameters) (b : ℕ) → b < band_count q.levels → get_or (exponents_for p q) b 0 ≡ max (p.depth + gain b) (need p q b - 1)
exponent_at p q b lt = get_or-map-range_with_len (λ i. max (p.depth + gain i) (need p q i - 1)) 0 (band_count q.levels) b b 0 lt (omega arith)

-- an exponent of what is written
abbrev pub IsSmall : ℕ → Type 0
IsSmall e = (1 ≤ e) × (e ≤ 22)

small_from : (p : Picture) (q : Parameters) (a n : ℕ) → IsPicture p → IsWrittenBy q p → a + n ≤ band_count q.levels → AllByRecursion IsSmall (map (λ b. max (p.depth + gain b) (need p q b - 1)) (range_with_len a n))
small_from p q a zero is by le = tt
small_from p q a (suc n) is by le =
    let some = is.components.some_bits in
    let few = is.components.few_bits in
    let g = gain_few a in
    let needs = need_few p q a is by (omega (arith, le)) in
    ((omega (arith, some), omega (arith, few, g, needs)), small_from p q (a + 1) n is by (omega (arith, le)))

pub exponents_small : (p : Picture) (q : Parameters) → IsPicture p → IsWrittenBy q p → AllByRecursion IsSmall (exponents_for p q)
exponents_small p q is by = small_from p q 0 (band_count q.levels) is by (omega arith)

all_planes : (es : List ℕ) → AllByRecursion IsSmall es → AllByRecursion (λ e. (1 ≤ 2 + e) × (2 + e ≤ 24)) es
all_planes [] h = tt
all_planes (e ∷ es) h = let few = h.0.1 in ((omega arith, omega (arith, few)), all_planes es h.1)

-- the coding has bit-planes
pub planes_have : (p : Picture) (q : Parameters) → IsPicture p → IsWrittenBy q p → HasPlanes (written_coding p q)
planes_have p q is by =
    let es = exponents_for p q in
    let n = band_count q.levels in
    let whole : take n es ≡ es = take_all n es (let e = exponents_long p q in omega (arith, e)) in
    record {
      count = ap (λ (x : List ℕ). length x) whole ∙ exponents_long p q;
      planes = subst (λ (x : List ℕ). AllByRecursion (λ e. (1 ≤ 2 + e) × (2 + e ≤ 24)) x) (sym whole) (all_planes es (exponents_small p q is by));
    }

-- how many a sub-band has
pub planes_are : (p : Picture) (q : Parameters) (b : ℕ) → b < band_count q.levels → planes_of (written_coding p q) b ≡ max (p.depth + gain b) (need p q b - 1) + 1
planes_are p q b lt =
    let es = exponents_for p q in
    let n = band_count q.levels in
    let whole : take n es ≡ es = take_all n es (let e = exponents_long p q in omega (arith, e)) in
    let at : get_or (take n es) b 0 ≡ max (p.depth + gain b) (need p q b - 1) = ap (λ (x : List ℕ). get_or x b 0) whole ∙ exponent_at p q b lt in
    omega (arith, at)

-- ---- a component of a tile

source_band : (p : Picture) (q : Parameters) (t c b : ℕ) → b ≤ 3 * q.levels → band_of (written_component p q t c) b ≡ written_band p q t c b
source_band p q t c b le = band_list (tile_area (siz_of p q) t) q.levels b (tile_value p q.colour c) (omega (arith, le))

-- exponents say nothing of the partitions
pub coding_is : (p : Picture) (q : Parameters) → IsWrittenBy q p → IsCoding (written_coding p q)
coding_is p q by = let k = by.coding in record { levels = k.levels; narrow = k.narrow; wide = k.wide; low = k.low; high = k.high; area = k.area; count = k.count; small = k.small; whole = k.whole }

pub are_written : (p : Picture) (q : Parameters) (t c : ℕ) → IsPicture p → IsWrittenBy q p → t < tile_count (siz_of p q) → c < length p.planes → AreWrittenBands (written_component p q t c)
are_written p q t c is by tile some =
    let a = tile_area (siz_of p q) t in
    record {
      area = tile_is_area (siz_of p q) t by.siz tile;
      coding = coding_is p q by;
      planes = planes_have p q is by;
      some_layers = by.layers.0;
      few_layers = by.layers.1;
      count = band_length a q.levels (tile_value p q.colour c);
      long = λ b le. ap (λ (l : List ℤ). length l) (source_band p q t c b le) ∙ raster_length (numbered_area a q.levels b) (written_coefficient p q t c b);
      small = λ b le. subst (All (λ v. unsigned_abs v < 2 ^ 23)) (sym (source_band p q t c b le)) (band_small p q t c b is by tile some le);
      room = λ b le.
          (let same = ap (λ (l : List ℤ). bit_length (greatest l)) (source_band p q t c b le) in
          let bound = need_bounds p q t c b tile some in
          let planes = planes_are p q b (omega (arith, le)) in
          omega (arith, same, bound, planes));
    }

-- ---- the tables of a precinct

source_agrees : (p : Picture) (q : Parameters) (t c b : ℕ) → b ≤ 3 * q.levels → (x y : ℕ) → IsWithin (numbered_area (tile_area (siz_of p q) t) q.levels b) x y → coefficient_of (written_component p q t c) b x y ≡ written_coefficient p q t c b x y
source_agrees p q t c b le x y h =
    let area = numbered_area (tile_area (siz_of p q) t) q.levels b in
    ap (λ (l : List ℤ). plane_at area l x y) (source_band p q t c b le) ∙ raster_at area (written_coefficient p q t c b) x y (record { left = h.left; right = h.right; upper = h.upper; lower = h.lower })

-- the coefficients are those of the image
block_same : (p : Picture) (q : Parameters) (t c r n i j : ℕ) → r ≤ q.levels → i < length (orientations r) → j < block_number (grid_at (tile_area (siz_of p q) t) (written_coding p q) r n i)
    → coded_at (tile_area (siz_of p q) t) (written_coding p q) (coefficient_of (written_component p q t c)) r n i j ≡ coded_at (tile_area (siz_of p q) t) (written_coding p q) (written_coefficient p q t c) r n i j
block_same p q t c r n i j le lt few =
    let a = tile_area (siz_of p q) t in
    let k = written_coding p q in
    let b = band_number r i in
    let place = block_at_place a k r n i j in
    let inside = subst (IsPartOf place) (sym (numbered_is a q.levels r i lt)) (block_is_part a k r n i j few) in
    ap (coded (block_shape a k r n i j)) (raster_same place (coefficient_of (written_component p q t c) b) (written_coefficient p q t c b) (λ x y h. source_agrees p q t c b (number_few q.levels r i le lt) x y (part_within place (numbered_area a q.levels b) x y inside h)))

pub lists_from : {X : Type 0} (f g : ℕ → X) (a n : ℕ) → ((i : ℕ) → a ≤ i → i < a + n → f i ≡ g i) → map f (range_with_len a n) ≡ map g (range_with_len a n)
lists_from f g a zero same = refl
lists_from {X} f g a (suc n) same =
    ap (λ (x : X). x ∷ map f (range_with_len (a + 1) n)) (same a (omega arith) (omega arith)) ∙ ap (λ (xs : List X). g a ∷ xs) (lists_from f g (a + 1) n (λ i from below. same i (omega (arith, from)) (omega (arith, below))))

-- the exponents of what all tiles and components need are those of the image
pub exponents_are : (p : Picture) (q : Parameters) (needs : ℕ → ℕ) → ((b : ℕ) → b < band_count q.levels → needs b ≡ need p q b) → exponents_with p.depth q.levels needs ≡ exponents_for p q
exponents_are p q needs same =
    lists_from (λ b. max (p.depth + gain b) (needs b - 1)) (λ b. max (p.depth + gain b) (need p q b - 1)) 0 (band_count q.levels) (λ b from to. ap (λ n. max (p.depth + gain b) (n - 1)) (same b (omega (arith, to))))

-- so are the tables
pub tables_same : (p : Picture) (q : Parameters) (t c r n : ℕ) → r ≤ q.levels
    → precinct_tables q.layers (tile_area (siz_of p q) t) (written_coding p q) (coefficient_of (written_component p q t c)) r n ≡ tile_tables p q t c r n
unfolding precinct_tables
tables_same p q t c r n le =
    let a = tile_area (siz_of p q) t in
    let k = written_coding p q in
    lists_from (band_tables_at q.layers a k (coefficient_of (written_component p q t c)) r n) (band_tables_at q.layers a k (written_coefficient p q t c) r n) 0 (length (orientations r)) (λ i from lt.
    lists_from (λ j. coded_table q.layers (planes_of k (band_number r i)) (coded_at a k (coefficient_of (written_component p q t c)) r n i j)) (λ j. coded_table q.layers (planes_of k (band_number r i)) (coded_at a k (written_coefficient p q t c) r n i j)) 0 (block_number (grid_at a k r n i)) (λ j at few.
    ap (coded_table q.layers (planes_of k (band_number r i))) (block_same p q t c r n i j le (omega (arith, lt)) (omega (arith, few)))))

-- a block has no more bits than its sub-band
pub block_room : (p : Picture) (q : Parameters) (t c r n i j : ℕ) → IsPicture p → IsWrittenBy q p → t < tile_count (siz_of p q) → c < length p.planes → r ≤ q.levels → i < length (orientations r)
    → j < block_number (grid_at (tile_area (siz_of p q) t) (written_coding p q) r n i) → (coded_at (tile_area (siz_of p q) t) (written_coding p q) (written_coefficient p q t c) r n i j).planes ≤ planes_of (written_coding p q) (band_number r i)
block_room p q t c r n i j is by tile some le lt few =
    subst (λ (k : Coded). k.planes ≤ planes_of (written_coding p q) (band_number r i)) (block_same p q t c r n i j le lt few) (planes_room (written_component p q t c) r n i j (are_written p q t c is by tile some) le lt few)

few_planes : (p : Picture) (q : Parameters) (b : ℕ) → IsPicture p → IsWrittenBy q p → b < band_count q.levels → planes_of (written_coding p q) b ≤ 23
few_planes p q b is by lt =
    let fits = exponent_fits (written_coding p q) b (planes_have p q is by) lt in
    let few = fits.2 in
    omega (arith, few)

tables_count : (p : Picture) (q : Parameters) (t c r n : ℕ) → length (tile_tables p q t c r n) ≡ length (orientations r)
unfolding precinct_tables
tables_count p q t c r n = length-map-range_with_len (band_tables_at q.layers (tile_area (siz_of p q) t) (written_coding p q) (written_coefficient p q t c) r n) 0 (length (orientations r))

tables_at : (p : Picture) (q : Parameters) (t c r n i : ℕ) → i < length (orientations r) → band_tables (tile_tables p q t c r n) i ≡ band_tables_at q.layers (tile_area (siz_of p q) t) (written_coding p q) (written_coefficient p q t c) r n i
unfolding precinct_tables
tables_at p q t c r n i lt = get_or-map-range_with_len (band_tables_at q.layers (tile_area (siz_of p q) t) (written_coding p q) (written_coefficient p q t c) r n) 0 (length (orientations r)) i i [] lt (omega arith)

-- table j of sub-band i
pub table_for : (p : Picture) (q : Parameters) (t c r n i j : ℕ) → i < length (orientations r) → j < block_number (grid_at (tile_area (siz_of p q) t) (written_coding p q) r n i)
    → table_at (band_tables (tile_tables p q t c r n) i) j ≡ coded_table q.layers (planes_of (written_coding p q) (band_number r i)) (coded_at (tile_area (siz_of p q) t) (written_coding p q) (written_coefficient p q t c) r n i j)
table_for p q t c r n i j lt few =
    ap (λ (ts : List Table). table_at ts j) (tables_at p q t c r n i lt)
    ∙ get_or-map-range_with_len (λ k. coded_table q.layers (planes_of (written_coding p q) (band_number r i)) (coded_at (tile_area (siz_of p q) t) (written_coding p q) (written_coefficient p q t c) r n i k)) 0 (block_number (grid_at (tile_area (siz_of p q) t) (written_coding p q) r n i)) j j _ few (omega arith)

-- the shape of sub-band i
pub shape_at : (a : Rect) (k : Coding) (r n i : ℕ) → i < length (orientations r) → band_shape (bands_at a k r n) i ≡ band_at a k r n i
shape_at a k r n i lt = get_or-map-range_with_len (band_at a k r n) 0 (length (orientations r)) i i _ lt (omega arith)

band_fits : (p : Picture) (q : Parameters) (t c r n i : ℕ) → IsPicture p → IsWrittenBy q p → t < tile_count (siz_of p q) → c < length p.planes → r ≤ q.levels → i < length (orientations r)
    → AreBandTables (band_at (tile_area (siz_of p q) t) (written_coding p q) r n i) q.layers (band_tables (tile_tables p q t c r n) i)
band_fits p q t c r n i is by tile some le lt =
    let a = tile_area (siz_of p q) t in
    let k = written_coding p q in
    let planes = few_planes p q (band_number r i) is by (let few = number_few q.levels r i le lt in omega (arith, few)) in
    record {
      long = ap (λ (ts : List Table). length ts) (tables_at p q t c r n i lt) ∙ length-map-range_with_len (λ j. coded_table q.layers (planes_of k (band_number r i)) (coded_at a k (written_coefficient p q t c) r n i j)) 0 (block_number (grid_at a k r n i));
      planes = omega (arith, planes);
      each = λ j few.
          (let fits = block_is_shape a k r n i j (coding_is p q by) few in
          subst (IsTable q.layers (planes_of k (band_number r i))) (sym (table_for p q t c r n i j lt few))
          (table_fits (block_shape a k r n i j) (block_list a k (written_coefficient p q t c) r n i j) q.layers (planes_of k (band_number r i)) by.layers.0 fits.narrow fits.area (block_room p q t c r n i j is by tile some le lt few) planes));
    }

coding_at : (p : Picture) (q : Parameters) (t c : ℕ) → c < length p.planes → coding_of (written_shape p q t).codings c ≡ written_coding p q
coding_at p q t c lt = get_or-replicate (length p.planes) c (written_coding p q) _ lt

pub precinct_fits : (p : Picture) (q : Parameters) (t c r n : ℕ) → IsPicture p → IsWrittenBy q p → t < tile_count (siz_of p q) → c < length p.planes → r ≤ q.levels
    → AreTables (bands_at (tile_area (siz_of p q) t) (written_coding p q) r n) q.layers (tile_tables p q t c r n)
precinct_fits p q t c r n is by tile some le =
    let a = tile_area (siz_of p q) t in
    let k = written_coding p q in
    let long = length-map-range_with_len (band_at a k r n) 0 (length (orientations r)) in
    let layers = by.layers.1 in
    record {
      long = tables_count p q t c r n ∙ sym long;
      few = omega (arith, layers);
      each = λ i lt.
          (let less : i < length (orientations r) = omega (arith, lt, long) in
          subst (λ (b : BandShape). AreBandTables b q.layers (band_tables (tile_tables p q t c r n) i)) (sym (shape_at a k r n i less)) (band_fits p q t c r n i is by tile some le less));
    }

-- all precincts of the tile have tables
pub tables_have : (p : Picture) (q : Parameters) (t : ℕ) → IsPicture p → IsWrittenBy q p → t < tile_count (siz_of p q) → HaveTables (written_shape p q t) (tile_tables p q t)
tables_have p q t is by tile = record {
  each = λ c r n precinct.
      (let some : c < length p.planes = let lt = precinct.component in let long = length-replicate (length p.planes) (written_coding p q) in omega (arith, lt, long) in
      let own = coding_at p q t c some in
      let le = precinct.resolution in
      let levels = ap (λ (k : Coding). k.levels) own in
      subst (λ (k : Coding). AreTables (bands_at (tile_area (siz_of p q) t) k r n) q.layers (tile_tables p q t c r n)) (sym own) (precinct_fits p q t c r n is by tile some (omega (arith, le, levels))));
}
