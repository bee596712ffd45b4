-- A code-block put into the list of its sub-band.
use Rattle.std.proofs.Common.{◌≡◌, ℕ, zero, suc, ◌+◌, ◌*◌, ◌/◌, ◌%◌, ◌<◌, ◌≤◌, Bool, true, false, ◌&&◌, leb, ltb, if◌then◌else◌, List, [], ◌∷◌, ◌++◌, take, drop, length, map, get_or, set, All, Result, Ok, Err, ℤ, refl, sym, ap, subst, ◌∙◌, arith}
use Rattle.std.specs.List.{AllByRecursion}
use Rattle.std.specs.Global.{Vec}
use Rattle.std.specs.Vec.{with_items}
use Rattle.std.proofs.lemmas.List.{get_or-map, map-set, get_or-set_same, get_or-set_other, length-set}
use Rattle.std.proofs.lemmas.Bool.{and_parts, leb-true, ltb-true, le-leb, lt-ltb}
use Rattle.jk_math.specs.declared.rect.Rect.{Rect}
use Rattle.jk_math.specs.Raster.{plane_at}
use Rattle.jk_math.specs.Lists.{list_at}
use Rattle.jk_geom.specs.Precincts.{precinct_number, precincts_across, precincts_down}
use Rattle.jk_marks.specs.declared.coding.Coding.{Coding}
use Rattle.jk_math.specs.declared.orientation.Orientation.{Orientation}
use Rattle.jk_math.specs.declared.style.Style.{Style}
use Rattle.jk_geom.specs.declared.grid.BlockGrid.{BlockGrid}
use Rattle.jk_geom.specs.Rectangles.{IsWithin, band_area, meet, cell}
use Rattle.jk_geom.specs.Blocks.{block_area, block_grid}
use Rattle.jk_geom.specs.Partitions.{block_number}
use Rattle.jk_scan.specs.declared.shape.BlockShape.{BlockShape}
use Rattle.jk_walk.specs.declared.places.PacketPlace.{PacketPlace}
use Rattle.jk_walk.specs.TilePackets.{Body, orientations, band_number, planes_of}
use Rattle.jk_walk.specs.WalkReading.{place_end}
use Rattle.jk_tile.specs.TileBlocks.{orientation_at, grid_at, block_at_place, shape_of_area, block_shape, block_bodies, IsBlockShape}
use Rattle.jk_tile.specs.decoding.TileReading.{each, tested, is_met, met_tested, precinct_part_tested, resolution_part_tested, bodies_of, bodies_values, block_values, values_or}
use Rattle.jk_tile.specs.declared.decoding.bodies.BodyPlace.{BodyPlace}
use Rattle.jk_tile.specs.declared.decoding.chains.PacketChains.{PacketChains}
use Rattle.jk_tile.specs.decoding.Gathered.{place_in, AreNumbers, IsChain, AreByPrecinct, AreByBlock, bodies_in, body_of, IsInside}
use Rattle.jk_tile.specs.Filling.{has, IsPartOf, touches}
use Rattle.jk_tile.specs.decoding.Source.{Source, IsSource, source_bodies, source_coefficient, source_part, ShowsBlocks, block_count, resolution_values, resolution_at}
use Rattle.jk_math.specs.declared.fault.Fault.{Fault}
use Rattle.jk_wave.specs.Bands.{numbered_area}
use Rattle.jk_wave.proofs.Laws.{part_inside, part_within}
use Rattle.jk_tile.proofs.Fillings.{touches_at, none_touched}
use Rattle.jk_tile.proofs.Steps.{fine, each_only, bind_ok, bind_err, met_by, resolution_part_by}
use Rattle.jk_tile.proofs.AllBands.{numbered_low, numbered_high}
use Rattle.jk_tile.proofs.Places.{block_is_shape, coefficient_is}

-- a place that a rectangle has
pub has_within : (a : Rect) (x y : ℕ) → has a x y ≡ true → IsWithin a x y
has_within a x y e =
    let both = and_parts (leb a.x0 x && ltb x a.x1) (leb a.y0 y && ltb y a.y1) e in
    let across = and_parts (leb a.x0 x) (ltb x a.x1) both.0 in
    let down = and_parts (leb a.y0 y) (ltb y a.y1) both.1 in
    record { left = leb-true _ _ across.0; right = ltb-true _ _ across.1; upper = leb-true _ _ down.0; lower = ltb-true _ _ down.1 }

pub within_has : (a : Rect) (x y : ℕ) → IsWithin a x y → has a x y ≡ true
within_has a x y h =
    ap (λ b. (b && ltb x a.x1) && (leb a.y0 y && ltb y a.y1)) (le-leb _ _ h.left) ∙ ap (λ b. b && (leb a.y0 y && ltb y a.y1)) (lt-ltb _ _ h.right)
    ∙ ap (λ b. b && ltb y a.y1) (le-leb _ _ h.upper) ∙ lt-ltb _ _ h.lower

-- What a part is put into shows what it did, and what the part has.
abbrev pub IsPut : Rect → Rect → (old new values : List ℤ) → Type 0
IsPut area place old new values = (x y : ℕ) → IsWithin area x y → plane_at area new x y ≡ (if has place x y then plane_at place values x y else plane_at area old x y)

abbrev pub Agrees : Rect → List ℤ → (ℕ → ℕ → ℤ) → Type 0
Agrees place values f = (x y : ℕ) → IsWithin place x y → plane_at place values x y ≡ f x y

pub put_keeps : (area place : Rect) (old new values : List ℤ) (f : ℕ → ℕ → ℤ) → IsPut area place old new values → Agrees place values f
    → (x y : ℕ) → IsWithin area x y → plane_at area old x y ≡ f x y → plane_at area new x y ≡ f x y
put_keeps area place old new values f put agrees x y h before = go (has place x y) refl
  where
    go : (b : Bool) → has place x y ≡ b → plane_at area new x y ≡ f x y
    go true e = put x y h ∙ ap (λ (b : Bool). if b then plane_at place values x y else plane_at area old x y) e ∙ agrees x y (has_within place x y e)
    go false e = put x y h ∙ ap (λ (b : Bool). if b then plane_at place values x y else plane_at area old x y) e ∙ before

pub put_shows : (area place : Rect) (old new values : List ℤ) (f : ℕ → ℕ → ℤ) → IsPut area place old new values → Agrees place values f → IsPartOf place area
    → (x y : ℕ) → IsWithin place x y → plane_at area new x y ≡ f x y
put_shows area place old new values f put agrees part x y h =
    let hl = h.left in let hr = h.right in let hu = h.upper in let hd = h.lower in
    let inside : IsWithin area x y = record { left = omega (arith, hl, part.left); right = omega (arith, hr, part.right); upper = omega (arith, hu, part.upper); lower = omega (arith, hd, part.lower) } in
    put x y inside ∙ ap (λ (b : Bool). if b then plane_at place values x y else plane_at area old x y) (within_has place x y h) ∙ agrees x y h

-- what the rectangle has of it
pub put_at : (area place : Rect) (old new values : List ℤ) (f : ℕ → ℕ → ℤ) → IsPut area place old new values → Agrees place values f
    → (x y : ℕ) → IsWithin place x y → IsWithin area x y → plane_at area new x y ≡ f x y
put_at area place old new values f put agrees x y h inside =
    put x y inside ∙ ap (λ (b : Bool). if b then plane_at place values x y else plane_at area old x y) (within_has place x y h) ∙ agrees x y h

-- the place of the code-block
pub place_is : (s : Source) (r n i j : ℕ) (grid : BlockGrid) (place : Rect) → grid ≡ grid_at s.region.rect s.coding r n i → place ≡ block_area grid j → place ≡ block_at_place s.region.rect s.coding r n i j
place_is s r n i j grid place eg e = e ∙ ap (λ (g : BlockGrid). block_area g j) eg

pub few_is : (s : Source) (r n i j : ℕ) (grid : BlockGrid) → grid ≡ grid_at s.region.rect s.coding r n i → j < block_number grid → j < block_number (grid_at s.region.rect s.coding r n i)
few_is s r n i j grid e lt = subst (λ (g : BlockGrid). j < block_number g) e lt

-- its shape
pub shape_is : (s : Source) (r n i j : ℕ) (place : Rect) (o : Orientation) (t : Style) (shape : BlockShape) → IsSource s → place ≡ block_at_place s.region.rect s.coding r n i j → o ≡ orientation_at r i
    → t ≡ s.coding.style → shape ≡ shape_of_area place o t → j < block_number (grid_at s.region.rect s.coding r n i) → IsBlockShape shape
shape_is s r n i j place o t shape is ep eo et e lt =
    let same : shape ≡ shape_of_area (block_at_place s.region.rect s.coding r n i j) (orientation_at r i) s.coding.style =
    e ∙ ap (λ (p : Rect). shape_of_area p o t) ep ∙ ap (λ (q : Orientation). shape_of_area (block_at_place s.region.rect s.coding r n i j) q t) eo
    ∙ ap (λ (u : Style). shape_of_area (block_at_place s.region.rect s.coding r n i j) (orientation_at r i) u) et in
    subst IsBlockShape (sym same) (block_is_shape s.region.rect s.coding r n i j is.coding lt)

-- what is due
pub due_is : (s : Source) (r n i j planes : ℕ) (place : Rect) (o : Orientation) (t : Style) (shape : BlockShape) (bodies : List Body) → place ≡ block_at_place s.region.rect s.coding r n i j → o ≡ orientation_at r i
    → t ≡ s.coding.style → shape ≡ shape_of_area place o t → planes ≡ planes_of s.coding (band_number r i) → bodies ≡ block_bodies i j (source_bodies s r n)
    → bodies_values shape planes bodies ≡ block_values s.region.rect s.coding r n i j (source_bodies s r n)
due_is s r n i j planes place o t shape bodies ep eo et e en eb =
    let same : shape ≡ shape_of_area (block_at_place s.region.rect s.coding r n i j) (orientation_at r i) s.coding.style =
    e ∙ ap (λ (p : Rect). shape_of_area p o t) ep ∙ ap (λ (q : Orientation). shape_of_area (block_at_place s.region.rect s.coding r n i j) q t) eo
    ∙ ap (λ (u : Style). shape_of_area (block_at_place s.region.rect s.coding r n i j) (orientation_at r i) u) et in
    ap (λ (x : BlockShape). bodies_values x planes bodies) same ∙ ap (λ m. bodies_values (block_shape s.region.rect s.coding r n i j) m bodies) en
    ∙ ap (bodies_values (block_shape s.region.rect s.coding r n i j) (planes_of s.coding (band_number r i))) eb

-- values that are due are the coefficients
pub values_agree : (s : Source) (r n i j : ℕ) (place : Rect) (values : List ℤ) → IsSource s → r ≤ s.coding.levels → n < precinct_number s.region.rect s.coding r → i < length (orientations r) → j < block_number (grid_at s.region.rect s.coding r n i)
    → place ≡ block_at_place s.region.rect s.coding r n i j → block_values s.region.rect s.coding r n i j (source_bodies s r n) ≡ Ok values → Agrees place values (source_coefficient s (band_number r i))
values_agree s r n i j place values is few precinct band lt ep due x y h =
    let at = block_at_place s.region.rect s.coding r n i j in
    let there : IsWithin at x y = subst (λ (p : Rect). IsWithin p x y) ep h in
    ap (λ (p : Rect). plane_at p values x y) ep ∙ sym (ap (λ d. plane_at at (values_or d) x y) due)
    ∙ sym (coefficient_is s.region.rect s.coding (source_bodies s) r n i j x y is.coding few band precinct lt there)

-- the packets end where the codestream does
pub ends_fit : (size bound : ℕ) (places : List PacketPlace) → size < bound → AllByRecursion (λ w. place_end w ≤ size) places → AllByRecursion (λ w. place_end w < bound) places
ends_fit size bound [] lt h = tt
ends_fit size bound (w ∷ places) lt h = (omega (arith, h.0, lt), ends_fit size bound places lt h.1)

-- the test of a code-block, if it is met
abbrev pub block_tested : Source → (r n i j : ℕ) → Result (Unit {0}) Fault
block_tested s r n i j = if is_met s.region s.coding r n i j then tested (block_values s.region.rect s.coding r n i j (source_bodies s r n)) else Ok tt

-- the bodies of a precinct, by the numbers of its packets
pub numbered_bodies : (s : Source) (r n : ℕ) (numbers : List ℕ) → AreNumbers s.packets s.packets s.component r n numbers → bodies_in s.bytes (map (place_in s.packets) numbers) ≡ source_bodies s r n
unfolding bodies_of
numbered_bodies s r n numbers is = is.whose s.bytes

-- what a code-block has of them
pub listed_bodies : (s : Source) (r n i j first count : ℕ) (numbers : List ℕ) (places : List PacketPlace) (lists : List (Vec BodyPlace)) (v : Vec BodyPlace) (lent : List BodyPlace)
    → AreNumbers s.packets s.packets s.component r n numbers → places ≡ s.packets → AreByBlock (length s.bytes) i first count (λ bytes. bodies_in bytes (map (place_in places) numbers)) lists → j < count
    → v ≡ get_or lists j v → lent ≡ v.items → (All (IsInside (length s.bytes)) lent) × (map (body_of s.bytes) lent ≡ block_bodies i (first + j) (source_bodies s r n))
listed_bodies s r n i j first count numbers places lists v lent of ep h lt ev el =
    let inside : j < length lists = omega (arith, lt, h.long) in
    let same : lent ≡ list_at lists j = el ∙ ap (λ (w : Vec BodyPlace). w.items) ev ∙ sym (get_or-map (λ w. w.items) lists j v [] inside) in (
      subst (All (IsInside (length s.bytes))) (sym same) (h.inside j lt),
      ap (map (body_of s.bytes)) same ∙ h.each s.bytes j lt ∙ ap (λ (ws : List PacketPlace). block_bodies i (first + j) (bodies_in s.bytes (map (place_in ws) numbers))) ep
          ∙ ap (block_bodies i (first + j)) (numbered_bodies s r n numbers of),
    )

-- the grid of code-blocks
pub grid_is : (s : Source) (r n i : ℕ) (rect : Rect) (coding : Coding) (o : Orientation) (grid : BlockGrid) → rect ≡ s.region.rect → coding ≡ s.coding → o ≡ orientation_at r i → grid ≡ block_grid rect coding r n o
    → grid ≡ grid_at s.region.rect s.coding r n i
grid_is s r n i rect coding o grid er ec eo e =
    e ∙ ap (λ (x : Rect). block_grid x coding r n o) er ∙ ap (λ (k : Coding). block_grid s.region.rect k r n o) ec ∙ ap (block_grid s.region.rect s.coding r n) eo

-- a precinct of which nothing is asked for has no code-block that is met
pub grid_touched : (g : BlockGrid) (area : Rect) (j : ℕ) → touches g.area area ≡ false → touches (block_area g j) area ≡ false
unfolding block_area
grid_touched g area j none =
    none_touched g.area (meet (cell (g.column + j % g.across) (g.row + j / g.across) g.width g.height) g.area) area (omega arith) (omega arith) (omega arith) (omega arith) none

pub none_met : (s : Source) (r n i : ℕ) (grid : BlockGrid) (area : Rect) → grid ≡ grid_at s.region.rect s.coding r n i → area ≡ source_part s r i → touches grid.area area ≡ false
    → (j : ℕ) → is_met s.region s.coding r n i j ≡ false
none_met s r n i grid area eg ea none j =
    ap (touches (block_at_place s.region.rect s.coding r n i j)) (sym ea) ∙ ap (λ (g : BlockGrid). touches (block_area g j) area) (sym eg) ∙ grid_touched grid area j none

pub none_tested : (s : Source) (r n i : ℕ) → ((j : ℕ) → is_met s.region s.coding r n i j ≡ false) → met_tested s.region s.coding r n i (source_bodies s r n) ≡ fine
none_tested s r n i none =
    met_by s.region s.coding r n i (source_bodies s r n)
    ∙ each_only (block_count s r n i) (block_tested s r n i) (λ j lt. ap (λ (b : Bool). if b then tested (block_values s.region.rect s.coding r n i j (source_bodies s r n)) else Ok tt) (none j))

pub none_shown : (s : Source) (r n i count : ℕ) (rows : List ℤ) → ((j : ℕ) → is_met s.region s.coding r n i j ≡ false) → ShowsBlocks s r n i count rows
none_shown s r n i count rows none j lt x y h inside =
    absurd (let f : true ≡ false = sym (touches_at (block_at_place s.region.rect s.coding r n i j) (source_part s r i) x y h inside) ∙ none j in cc)

-- ---- the sub-bands of a resolution

-- the vector at its place
pub vector_items : {X : Type 0} (lists : List (Vec X)) (i : ℕ) (v : Vec X) → i < length lists → v ≡ get_or lists i v → v.items ≡ list_at lists i
vector_items lists i v lt e = ap (λ (w : Vec _). w.items) e ∙ sym (get_or-map (λ w. w.items) lists i v [] lt)

-- another list in the place of one
pub put_here : {X : Type 0} (lists : List (Vec X)) (i : ℕ) (v : Vec X) → i < length lists → list_at (set lists i v) i ≡ v.items
put_here {X} lists i v lt = get_or-map (λ w. w.items) (set lists i v) i v [] (omega (arith, lt, length-set lists i v)) ∙ ap (λ (w : Vec X). w.items) (get_or-set_same lists i v v lt)

pub put_there : {X : Type 0} (lists : List (Vec X)) (i k : ℕ) (v : Vec X) → (k ≡ i → ⊥) → list_at (set lists i v) k ≡ list_at lists k
put_there {X} lists i k v other =
    ap (λ (ls : List (List X)). get_or ls k []) (map-set (λ w. w.items) lists i v) ∙ get_or-set_other (map (λ (w : Vec X). w.items) lists) i k v.items [] other

-- a vector whose elements are all written again
take_front : {X : Type 0} (xs ys : List X) → take (length xs) (xs ++ ys) ≡ xs
take_front [] ys = refl
take_front {X} (x ∷ xs) ys = ap (λ (zs : List X). x ∷ zs) (take_front xs ys)

pub with_same : {X : Type 0} (v : Vec X) (xs : List X) → length xs ≡ length v.items → (with_items v xs).items ≡ xs
with_same v xs e =
    let len : v.len ≡ length xs = omega (arith, e, v.ok.0) in
    ap (λ n. take n (xs ++ drop (length xs) v.items)) len ∙ take_front xs (drop (length xs) v.items)

-- the numbers of a precinct's packets
pub followed_numbers : (s : Source) (r n count : ℕ) (places : List PacketPlace) (c : ℕ) (chains : PacketChains) (numbers lent : List ℕ) → places ≡ s.packets → c ≡ s.component
    → AreByPrecinct places 0 c r count chains → n < count → ((list : List ℕ) → IsChain chains.next.items 0 (get_or chains.first.items n 0) list → numbers ≡ list) → lent ≡ numbers → AreNumbers s.packets s.packets s.component r n lent
followed_numbers s r n count places c chains numbers lent ep ec h lt told el =
    let own = h.each n lt in
    let same : lent ≡ own.0 = el ∙ told own.0 own.1 in
    subst (λ (xs : List ℕ). AreNumbers s.packets s.packets s.component r n xs) (sym same)
    (subst (λ m. AreNumbers s.packets s.packets m r n own.0) ec (subst (λ (ws : List PacketPlace). AreNumbers ws ws c r n own.0) ep own.2))

-- a sub-band of the part
pub number_under : (r i top : ℕ) → r ≤ top → i < length (orientations r) → band_number r i ≤ 3 * top
number_under zero i top few lt = omega arith
number_under (suc r) i top few lt = omega (arith, few, lt)

pub numbered_band : (a : Rect) (levels r i : ℕ) → i < length (orientations r) → numbered_area a levels (band_number r i) ≡ band_area a levels r (orientation_at r i)
numbered_band a levels zero zero lt = numbered_low a levels
numbered_band a levels zero (suc i) lt = absurd (omega (arith, lt))
numbered_band a levels (suc r) zero lt = numbered_high a levels r 0 (omega arith)
numbered_band a levels (suc r) (suc zero) lt = numbered_high a levels r 1 (omega arith)
numbered_band a levels (suc r) (suc (suc zero)) lt = numbered_high a levels r 2 (omega arith)
numbered_band a levels (suc r) (suc (suc (suc i))) lt = absurd (omega (arith, lt))

pub few_levels : (s : Source) (r : ℕ) → IsSource s → r ≤ s.region.top → r ≤ s.coding.levels
few_levels s r is few = omega (arith, few, is.region.top, is.levels)

pub part_in_band : (s : Source) (r i x y : ℕ) → IsSource s → r ≤ s.region.top → i < length (orientations r) → IsWithin (source_part s r i) x y
    → IsWithin (band_area s.region.rect s.coding.levels r (orientation_at r i)) x y
part_in_band s r i x y is few lt h =
    subst (λ (a : Rect). IsWithin a x y) (numbered_band s.region.rect s.region.levels r i lt ∙ ap (λ n. band_area s.region.rect n r (orientation_at r i)) is.levels)
    (part_within (source_part s r i) (numbered_area s.region.rect s.region.levels (band_number r i)) x y
    (part_inside s.region is.region (band_number r i) (number_under r i s.region.top few lt)) h)

-- how many precincts there are
pub count_is : (s : Source) (r across down : ℕ) (rect : Rect) (coding : Coding) → rect ≡ s.region.rect → coding ≡ s.coding → across ≡ precincts_across rect coding r → down ≡ precincts_down rect coding r → across * down ≡ precinct_number s.region.rect s.coding r
count_is s r across down rect coding er ec ea ed =
    ap (λ n. n * down) ea ∙ ap (λ n. precincts_across rect coding r * n) ed ∙ ap (λ (x : Rect). precinct_number x coding r) er ∙ ap (λ (k : Coding). precinct_number s.region.rect k r) ec

-- a resolution whose code-blocks are fine, and one whose aren't
pub resolution_fine : (s : Source) (r : ℕ) → each (precinct_number s.region.rect s.coding r) (λ n. precinct_part_tested s.region s.coding r n (source_bodies s r n)) ≡ fine → resolution_at s r ≡ Ok (resolution_values s r)
unfolding resolution_at
resolution_fine s r e = bind_ok (resolution_part_tested s.region s.coding r (source_bodies s r)) (λ _. Ok (resolution_values s r)) tt (resolution_part_by s.region s.coding r (source_bodies s r) ∙ e)

pub resolution_err : (s : Source) (r : ℕ) (e : Fault) → each (precinct_number s.region.rect s.coding r) (λ n. precinct_part_tested s.region s.coding r n (source_bodies s r n)) ≡ Err e → resolution_at s r ≡ Err e
unfolding resolution_at
resolution_err s r e h = bind_err (resolution_part_tested s.region s.coding r (source_bodies s r)) (λ _. Ok (resolution_values s r)) e (resolution_part_by s.region s.coding r (source_bodies s r) ∙ h)
