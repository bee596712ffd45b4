-- What is decoded of a tile is what its packets decode to, and what they decode to is decoded.
use Rattle.std.proofs.Common.{◌≡◌, ℕ, zero, suc, ◌+◌, ◌-◌, ◌*◌, ◌/◌, ◌%◌, ◌<◌, ◌≤◌, Bool, true, false, nat_lt, ◌&&◌, if◌then◌else◌, List, [], ◌∷◌, ◌++◌, length, filter, get_or, Result, Ok, Err, ℤ, pos, refl, sym, ap, subst, ◌∙◌, arith}
use Rattle.std.specs.List.{AllByRecursion, AllZip, flat_map}
use Rattle.std.proofs.lemmas.Bool.{and_parts, ltb-true, lt-ltb}
use Rattle.jk_math.specs.Answer.{◌>>=◌}
use Rattle.jk_math.specs.Steps.{ok_is}
use Rattle.jk_math.specs.declared.fault.Fault.{Fault}
use Rattle.jk_marks.specs.declared.siz.Siz.{Siz}
use Rattle.jk_marks.specs.declared.segments.Cod.{Cod}
use Rattle.jk_math.specs.declared.rect.Rect.{Rect}
use Rattle.jk_math.specs.Raster.{plane_at, columns_of, rows_of}
use Rattle.jk_marks.specs.declared.coding.Coding.{Coding}
use Rattle.jk_marks.specs.Coding.{IsCoding}
use Rattle.jk_marks.specs.Siz.{tile_count}
use Rattle.jk_geom.specs.Rectangles.{IsWithin, band_area, tile_area}
use Rattle.jk_geom.specs.Precincts.{precinct_number}
use Rattle.jk_geom.specs.Partitions.{block_number, precinct_of}
use Rattle.jk_geom.specs.TileShapes.{coding_of}
use Rattle.jk_order.specs.PacketOrder.{is_of}
use Rattle.jk_params.specs.Headers.{Headers, tile_in, AreHeaders}
use Rattle.jk_math.specs.declared.orientation.Orientation.{Orientation}
use Rattle.jk_math.specs.declared.style.Style.{Style}
use Rattle.jk_scan.specs.declared.shape.BlockShape.{BlockShape}
use Rattle.jk_scan.specs.Neighbours.{is_inside}
use Rattle.jk_block.specs.Meaning.{value_in, values_of as block_list}
use Rattle.jk_block.specs.Reading.{block_at}
use Rattle.jk_block.proofs.Laws.{block_found, block_only, value_at}
use Rattle.jk_wave.specs.Bands.{numbered_area, high_orientation}
use Rattle.jk_wave.proofs.Laws.{is_decided}
use Rattle.jk_walk.specs.declared.places.PacketPlace.{PacketPlace}
use Rattle.jk_walk.specs.TilePackets.{Body, Packet, orientations, band_number, planes_of, of_precinct}
use Rattle.jk_walk.specs.WalkReading.{packets_at, bodies_at, IsPlaced}
use Rattle.jk_walk.proofs.Laws.{packets_found, packets_only}
use Rattle.jk_tile.specs.TileBlocks.{orientation_at, grid_at, block_at_place, shape_of_area, block_shape, block_bodies, block_bytes, passes_in, zeros_in, band_resolution, band_index}
use Rattle.jk_tile.specs.TileMeaning.{shown_area, values_of, IsBlockAt, DecodesTile}
use Rattle.jk_tile.specs.decoding.TileReading.{bodies_of, each, tested, bodies_values, block_values, block_value, block_with, values_or, coefficient_at, band_tested, precinct_tested, resolution_tested, component_tested, component_values, component_samples, tile_planes_at}
use Rattle.jk_tile.specs.Pixels.{uncoloured, tile_sample}
use Rattle.jk_tile.specs.Samples.{sample_of}
use Rattle.jk_tile.proofs.Steps.{fine, each_found, each_only, tested_then, tested_ok, bind_ok, band_by, precinct_by, resolution_by, component_by}
use Rattle.jk_tile.proofs.Places.{block_found as block_with_place, coefficient_is, coefficient_by}
use Rattle.jk_tile.proofs.Colours.{rasters, planes_by, uncoloured_same}
use Rattle.jk_tile.proofs.Components.{shown_is, levels_read}
use Rattle.jk_tile.proofs.AllBands.{numbered_low, numbered_high}

-- ---- bodies

-- the bodies of a precinct are those at the places of its packets
bodies_same : (bytes : List ℕ) (packets : List Packet) (places : List PacketPlace) (c r n : ℕ) → AllZip (IsPlaced bytes) packets places
    → flat_map (λ p. p.bodies) (of_precinct c r n packets) ≡ flat_map (λ w. bodies_at bytes w.body w.parts) (filter (λ w. is_of c r n w.name) places)
bodies_same bytes [] [] c r n h = refl
bodies_same bytes [] (w ∷ places) c r n h = absurd h
bodies_same bytes (p ∷ packets) [] c r n h = absurd h
bodies_same bytes (p ∷ packets) (w ∷ places) c r n h = go (is_of c r n p.name) refl (bodies_same bytes packets places c r n h.1)
  where
    name : is_of c r n w.name ≡ is_of c r n p.name
    name = ap (is_of c r n) h.0.name

    go : (b : Bool) → is_of c r n p.name ≡ b → flat_map (λ p. p.bodies) (of_precinct c r n packets) ≡ flat_map (λ w. bodies_at bytes w.body w.parts) (filter (λ w. is_of c r n w.name) places)
        → flat_map (λ p. p.bodies) (of_precinct c r n (p ∷ packets)) ≡ flat_map (λ w. bodies_at bytes w.body w.parts) (filter (λ w. is_of c r n w.name) (w ∷ places))
    go true e rest =
        ap (λ (b : Bool). flat_map (λ (x : Packet). x.bodies) (if b then p ∷ of_precinct c r n packets else of_precinct c r n packets)) e
        ∙ ap (λ (bs : List Body). bs ++ flat_map (λ (x : Packet). x.bodies) (of_precinct c r n packets)) h.0.bodies ∙ ap (λ (bs : List Body). bodies_at bytes w.body w.parts ++ bs) rest
        ∙ sym (ap (λ (b : Bool). flat_map (λ (x : PacketPlace). bodies_at bytes x.body x.parts) (if b then w ∷ filter (λ x. is_of c r n x.name) places else filter (λ x. is_of c r n x.name) places)) (name ∙ e))
    go false e rest =
        ap (λ (b : Bool). flat_map (λ (x : Packet). x.bodies) (if b then p ∷ of_precinct c r n packets else of_precinct c r n packets)) e
        ∙ rest
        ∙ sym (ap (λ (b : Bool). flat_map (λ (x : PacketPlace). bodies_at bytes x.body x.parts) (if b then w ∷ filter (λ x. is_of c r n x.name) places else filter (λ x. is_of c r n x.name) places)) (name ∙ e))

pub bodies_are : (bytes : List ℕ) (packets : List Packet) (places : List PacketPlace) (c r n : ℕ) → AllZip (IsPlaced bytes) packets places
    → flat_map (λ p. p.bodies) (of_precinct c r n packets) ≡ bodies_of bytes places c r n
unfolding bodies_of
bodies_are bytes packets places c r n h = bodies_same bytes packets places c r n h

-- ---- a code-block

pub values_by : (s : BlockShape) (planes : ℕ) (bodies : List Body) → bodies_values s planes bodies ≡ block_at s (planes - zeros_in bodies) (passes_in bodies) (block_bytes bodies)
unfolding bodies_values
values_by s planes bodies = refl

-- a place of a code-block, from its upper left corner on
inside_is : (b : Rect) (x y : ℕ) (o : Orientation) (style : Style) → is_inside (shape_of_area b o style) x y ≡ true → IsWithin b (b.x0 + x) (b.y0 + y)
inside_is b x y o style e =
    let parts = and_parts (nat_lt x (columns_of b)) (nat_lt y (rows_of b)) e in
    let across = ltb-true _ _ parts.0 in
    let down = ltb-true _ _ parts.1 in
    record { left = omega arith; right = omega (arith, across); upper = omega arith; lower = omega (arith, down) }

is_inside_from : (b : Rect) (x y : ℕ) (o : Orientation) (style : Style) → IsWithin b x y → is_inside (shape_of_area b o style) (x - b.x0) (y - b.y0) ≡ true
is_inside_from b x y o style h =
    let hl = h.left in let hr = h.right in let hu = h.upper in let hd = h.lower in
    ap (λ t. t && nat_lt (y - b.y0) (rows_of b)) (lt-ltb _ _ (omega (arith, hl, hr))) ∙ lt-ltb _ _ (omega (arith, hu, hd))

-- the value of the list at a place is that at the same place of the rectangle
value_there : (b : Rect) (x y : ℕ) (o : Orientation) (style : Style) (values : List ℤ) → plane_at b values (b.x0 + x) (b.y0 + y) ≡ value_in (shape_of_area b o style) values x y
value_there b x y o style values =
    let across : b.x0 + x - b.x0 ≡ x = omega arith in
    let down : b.y0 + y - b.y0 ≡ y = omega arith in
    ap (λ k. get_or values (k * columns_of b + (b.x0 + x - b.x0)) (pos 0)) down ∙ ap (λ k. get_or values (y * columns_of b + k) (pos 0)) across

-- what is read of a code-block is what its bodies mean
pub block_means : (a : Rect) (k : Coding) (bodies : ℕ → ℕ → List Body) (mine : List Body) (r n i j : ℕ) (values : List ℤ) → IsCoding k → r ≤ k.levels → i < length (orientations r) → n < precinct_number a k r
    → j < block_number (grid_at a k r n i) → mine ≡ bodies r n → block_values a k r n i j (bodies r n) ≡ Ok values → IsBlockAt a k mine (coefficient_at a k bodies) r n i j
block_means a k bodies mine r n i j values coding few band precinct block same e =
    subst (λ bs. IsBlockAt a k bs (coefficient_at a k bodies) r n i j) (sym same) (record {
      values = value_in (block_shape a k r n i j) values;
      means = block_found (block_shape a k r n i j) _ _ _ values (sym (values_by (block_shape a k r n i j) (planes_of k (band_number r i)) (block_bodies i j (bodies r n))) ∙ e);
      placed = λ x y is.
          let b = block_at_place a k r n i j in
          coefficient_is a k bodies r n i j (b.x0 + x) (b.y0 + y) coding few band precinct block (inside_is b x y (orientation_at r i) k.style is)
          ∙ ap (λ d. plane_at b (values_or d) (b.x0 + x) (b.y0 + y)) e ∙ value_there b x y (orientation_at r i) k.style values;
    })

-- what the bodies of a code-block mean is read
block_read : (a : Rect) (k : Coding) (mine : List Body) (coefficients : ℕ → ℕ → ℕ → ℤ) (r n i j : ℕ) (bodies : List Body) → mine ≡ bodies → (is : IsBlockAt a k mine coefficients r n i j)
    → block_values a k r n i j bodies ≡ Ok (block_list (block_shape a k r n i j) is.values)
block_read a k mine coefficients r n i j bodies same is =
    ap (block_values a k r n i j) (sym same) ∙ values_by (block_shape a k r n i j) (planes_of k (band_number r i)) (block_bodies i j mine) ∙ block_only (block_shape a k r n i j) _ _ _ is.values is.means

-- and its coefficients are those that are meant
pub block_coefficients : (a : Rect) (k : Coding) (mine : List Body) (coefficients : ℕ → ℕ → ℕ → ℤ) (r n i j : ℕ) (bodies : List Body) → mine ≡ bodies → IsBlockAt a k mine coefficients r n i j
    → (x y : ℕ) → IsWithin (block_at_place a k r n i j) x y → block_value a k r n i j bodies x y ≡ coefficients (band_number r i) x y
block_coefficients a k mine coefficients r n i j bodies same is x y h =
    let b = block_at_place a k r n i j in
    let hl = h.left in let hu = h.upper in
    let across : b.x0 + (x - b.x0) ≡ x = omega (arith, hl) in
    let down : b.y0 + (y - b.y0) ≡ y = omega (arith, hu) in
    let inside = is_inside_from b x y (orientation_at r i) k.style h in
    ap (λ d. plane_at b (values_or d) x y) (block_read a k mine coefficients r n i j bodies same is)
    ∙ value_at (block_shape a k r n i j) is.values (x - b.x0) (y - b.y0) inside ∙ sym (is.placed (x - b.x0) (y - b.y0) inside)
    ∙ ap (λ u. coefficients (band_number r i) u (b.y0 + (y - b.y0))) across ∙ ap (coefficients (band_number r i) x) down

-- ---- all code-blocks of a tile

-- the code-blocks of a component that are asked for
record IsAsked (a : Rect) (k : Coding) (d r n i j : ℕ) : Type 0 where
  resolution : r + d ≤ k.levels
  precinct : n < precinct_number a k r
  band : i < length (orientations r)
  block : j < block_number (grid_at a k r n i)

-- each of them is fine where the component is
component_blocks : (a : Rect) (k : Coding) (d : ℕ) (bodies : ℕ → ℕ → List Body) → component_tested a k d bodies ≡ fine → (r n i j : ℕ) → IsAsked a k d r n i j → (values : List ℤ) × (block_values a k r n i j (bodies r n) ≡ Ok values)
component_blocks a k d bodies e r n i j is =
    let few : r < k.levels - d + 1 = let h = is.resolution in omega (arith, h) in
    let resolution = each_found (k.levels - d + 1) (λ r. resolution_tested a k r (bodies r)) tt (sym (component_by a k d bodies) ∙ e) r few in
    let precinct = each_found (precinct_number a k r) (λ n. precinct_tested a k r n (bodies r n)) tt (sym (resolution_by a k r (bodies r)) ∙ resolution) n is.precinct in
    let band = each_found (length (orientations r)) (λ i. band_tested a k r n i (bodies r n)) tt (sym (precinct_by a k r n (bodies r n)) ∙ precinct) i is.band in
    let block = each_found (block_number (grid_at a k r n i)) (λ j. tested (block_values a k r n i j (bodies r n))) tt (sym (band_by a k r n i (bodies r n)) ∙ band) j is.block in
    tested_then (block_values a k r n i j (bodies r n)) tt block

-- and the component is fine where each of them is
blocks_component : (a : Rect) (k : Coding) (d : ℕ) (bodies : ℕ → ℕ → List Body) → d ≤ k.levels → ((r n i j : ℕ) → IsAsked a k d r n i j → tested (block_values a k r n i j (bodies r n)) ≡ fine) → component_tested a k d bodies ≡ fine
blocks_component a k d bodies le all =
    component_by a k d bodies ∙ each_only (k.levels - d + 1) (λ r. resolution_tested a k r (bodies r)) (λ r few.
    resolution_by a k r (bodies r) ∙ each_only (precinct_number a k r) (λ n. precinct_tested a k r n (bodies r n)) (λ n precinct.
    precinct_by a k r n (bodies r n) ∙ each_only (length (orientations r)) (λ i. band_tested a k r n i (bodies r n)) (λ i band.
    band_by a k r n i (bodies r n) ∙ each_only (block_number (grid_at a k r n i)) (λ j. tested (block_values a k r n i j (bodies r n))) (λ j block.
    all r n i j (record { resolution = omega (arith, few, le); precinct = precinct; band = band; block = block })))))

-- what the components are, where a tile is decoded
pub tile_tested : (bytes : List ℕ) (h : Headers) (t d : ℕ) (places : List PacketPlace) (planes : List (List ℤ)) → tile_planes_at bytes h t d places ≡ Ok planes
    → (each h.siz.components (λ c. component_tested (tile_area h.siz t) (coding_of (tile_in h.tiles t).codings c) d (bodies_of bytes places c)) ≡ fine) × (planes ≡ rasters (shown_area h.siz t d) (component_samples bytes h t d places) h.siz.components)
tile_tested bytes h t d places planes e =
    go (each h.siz.components (λ c. component_tested (tile_area h.siz t) (coding_of (tile_in h.tiles t).codings c) d (bodies_of bytes places c))) (rasters (shown_area h.siz t d) (component_samples bytes h t d places) h.siz.components)
    (sym (planes_by bytes h t d places) ∙ e)
  where
    go : (r : Result (Unit {0}) Fault) (due : List (List ℤ)) → (r >>= λ _. Ok due) ≡ Ok planes → (r ≡ fine) × (planes ≡ due)
    go (Ok u) due e = (refl, sym (ok_is due planes e))
    go (Err x) due e = absurd cc

-- What is decoded of a tile is what its packets decode to.
pub tile_found : (bytes : List ℕ) (h : Headers) (t d : ℕ) (places : List PacketPlace) (planes : List (List ℤ)) → AreHeaders (length bytes) h → t < tile_count h.siz → packets_at bytes h t ≡ Ok places → tile_planes_at bytes h t d places ≡ Ok planes
    → DecodesTile bytes h (tile_in h.tiles t) t d (component_samples bytes h t d places) × (planes ≡ rasters (shown_area h.siz t d) (component_samples bytes h t d places) h.siz.components)
tile_found bytes h t d places planes are lt ep e =
    let f = tile_in h.tiles t in
    let a = tile_area h.siz t in
    let stand = packets_found bytes h t places are lt ep in
    let both = tile_tested bytes h t d places planes e in (
      record {
        packets = stand.0;
        tile = stand.1;
        coefficients = λ c. coefficient_at a (coding_of f.codings c) (bodies_of bytes places c);
        blocks = λ c r n i j is few band block.
            let k = coding_of f.codings c in
            let count : c < h.siz.components = omega (arith, is.component, (are.each t lt).all) in
            let component = each_found h.siz.components (λ c. component_tested a (coding_of f.codings c) d (bodies_of bytes places c)) tt both.0 c count in
            let found = component_blocks a k d (bodies_of bytes places c) component r n i j (record { resolution = few; precinct = is.precinct; band = band; block = block }) in
            block_means a k (bodies_of bytes places c) (flat_map (λ p. p.bodies) (of_precinct c r n stand.0)) r n i j found.0 ((are.each t lt).codings.each c is.component) is.resolution band is.precinct block
            (bodies_are bytes stand.0 places c r n stand.2) found.1;
        shown = λ component x y some within. refl;
      },
      both.1,
    )

-- ---- sub-bands by their numbers

record IsNumbered (a : Rect) (levels b : ℕ) : Type 0 where
  band : band_index b < length (orientations (band_resolution b))
  number : band_number (band_resolution b) (band_index b) ≡ b
  area : numbered_area a levels b ≡ band_area a levels (band_resolution b) (orientation_at (band_resolution b) (band_index b))

numbered_is : (a : Rect) (levels b : ℕ) → IsNumbered a levels b
numbered_is a levels zero = record { band = omega arith; number = refl; area = numbered_low a levels }
numbered_is a levels (suc m) =
    let e : suc (m / 3) ≡ m / 3 + 1 = omega arith in
    let lt : m % 3 < 3 = omega arith in
    let whole : 3 * (m / 3) + 1 + m % 3 ≡ suc m = omega arith in
    record {
      band = subst (λ r. m % 3 < length (orientations r)) e lt;
      number = ap (λ r. band_number r (m % 3)) (sym e) ∙ whole;
      area = ap (numbered_area a levels) (sym whole) ∙ numbered_high a levels (m / 3) (m % 3) lt ∙ high (m / 3) (m % 3) lt ∙ ap (λ r. band_area a levels r (orientation_at r (m % 3))) e;
    }
  where
    high : (q i : ℕ) → i < 3 → band_area a levels (suc q) (high_orientation i) ≡ band_area a levels (suc q) (orientation_at (suc q) i)
    high q zero lt = refl
    high q (suc zero) lt = refl
    high q (suc (suc zero)) lt = refl
    high q (suc (suc (suc i))) lt = absurd (omega (arith, lt))

-- ---- what is meant is decoded

-- Coefficients whose code-blocks the bodies mean are those that are read.
coefficients_same : (a : Rect) (k : Coding) (d : ℕ) (bodies mine : ℕ → ℕ → List Body) (coefficients : ℕ → ℕ → ℕ → ℤ) → IsCoding k → d ≤ k.levels → ((r n : ℕ) → mine r n ≡ bodies r n)
    → ((r n i j : ℕ) → IsAsked a k d r n i j → IsBlockAt a k (mine r n) coefficients r n i j)
    → (b x y : ℕ) → b ≤ 3 * (k.levels - d) → IsWithin (numbered_area a k.levels b) x y → coefficient_at a k bodies b x y ≡ coefficients b x y
coefficients_same a k d bodies mine coefficients coding le same blocks b x y few h =
    let r = band_resolution b in
    let i = band_index b in
    let is = numbered_is a k.levels b in
    let within : IsWithin (band_area a k.levels r (orientation_at r i)) x y = subst (λ (z : Rect). IsWithin z x y) is.area h in
    let small : r + d ≤ k.levels = let q = resolution_few b (k.levels - d) few in omega (arith, q, le) in
    let low : r ≤ k.levels = omega (arith, small) in
    let holds = block_with_place a k r i x y coding low is.band within in
    let n = precinct_of a k r x y in
    let j = block_with a k r n i x y in
    coefficient_by a k bodies b x y
    ∙ block_coefficients a k (mine r n) coefficients r n i j (bodies r n) (same r n) (blocks r n i j (record { resolution = small; precinct = holds.precinct; band = is.band; block = holds.block })) x y holds.place
    ∙ ap (λ m. coefficients m x y) is.number
  where
    resolution_few : (b top : ℕ) → b ≤ 3 * top → band_resolution b + d ≤ top + d
    resolution_few zero top few = omega arith
    resolution_few (suc m) top few = omega (arith, few)

-- a pixel depends on the components that there are
pub pixel_same : (cod : Cod) (siz : Siz) (v w : ℕ → ℤ) (n c : ℕ) → (cod.colour ≡ true → 3 ≤ n) → c < n → ((i : ℕ) → i < n → v i ≡ w i) → tile_sample cod siz v c ≡ tile_sample cod siz w c
unfolding tile_sample
pixel_same cod siz v w n c three lt same = go cod.colour refl
  where
    coloured : 3 ≤ n → uncoloured v c ≡ uncoloured w c
    coloured many = uncoloured_same v w n c many lt same

    go : (b : Bool) → cod.colour ≡ b → sample_of siz (if cod.colour then uncoloured v c else v c) ≡ sample_of siz (if cod.colour then uncoloured w c else w c)
    go true e = ap (λ (b : Bool). sample_of siz (if b then uncoloured v c else v c)) e ∙ ap (sample_of siz) (coloured (three e)) ∙ sym (ap (λ (b : Bool). sample_of siz (if b then uncoloured w c else w c)) e)
    go false e = ap (λ (b : Bool). sample_of siz (if b then uncoloured v c else v c)) e ∙ ap (sample_of siz) (same c lt) ∙ sym (ap (λ (b : Bool). sample_of siz (if b then uncoloured w c else w c)) e)

-- What the packets of a tile decode to is decoded.
pub record IsDecoded (bytes : List ℕ) (h : Headers) (t d : ℕ) (samples : ℕ → ℕ → ℕ → ℤ) : Type 0 where
  pub places : List PacketPlace
  pub packets : packets_at bytes h t ≡ Ok places
  pub planes : tile_planes_at bytes h t d places ≡ Ok (rasters (shown_area h.siz t d) (component_samples bytes h t d places) h.siz.components)
  pub same : (c x y : ℕ) → c < h.siz.components → IsWithin (shown_area h.siz t d) x y → samples c x y ≡ component_samples bytes h t d places c x y

pub tile_only : (bytes : List ℕ) (h : Headers) (t d : ℕ) (samples : ℕ → ℕ → ℕ → ℤ) → AreHeaders (length bytes) h → t < tile_count h.siz → AllByRecursion (λ k. d ≤ k.levels) (tile_in h.tiles t).codings
    → DecodesTile bytes h (tile_in h.tiles t) t d samples → IsDecoded bytes h t d samples
tile_only bytes h t d samples are lt levels is =
    let f = tile_in h.tiles t in
    let a = tile_area h.siz t in
    let read = packets_only bytes h t is.packets are lt is.tile in
    let places = read.0 in
    let mine : ℕ → ℕ → ℕ → List Body = λ c r n. flat_map (λ p. p.bodies) (of_precinct c r n is.packets) in
    let same : (c r n : ℕ) → mine c r n ≡ bodies_of bytes places c r n = λ c r n. bodies_are bytes is.packets places c r n read.2 in
    let blocks : (c : ℕ) → c < length f.codings → (r n i j : ℕ) → IsAsked a (coding_of f.codings c) d r n i j → IsBlockAt a (coding_of f.codings c) (mine c r n) (is.coefficients c) r n i j = λ c some r n i j asked.
    is.blocks c r n i j (record { component = some; resolution = let q = asked.resolution in omega (arith, q); precinct = asked.precinct }) asked.resolution asked.band asked.block in
    let count = (are.each t lt).all in
    let fine_all : each h.siz.components (λ c. component_tested a (coding_of f.codings c) d (bodies_of bytes places c)) ≡ fine =
    each_only h.siz.components (λ c. component_tested a (coding_of f.codings c) d (bodies_of bytes places c)) (λ c less.
    let some : c < length f.codings = omega (arith, less, count) in
    blocks_component a (coding_of f.codings c) d (bodies_of bytes places c) (levels_read f.codings c d (coding_of f.codings c) levels some refl) (λ r n i j asked.
    tested_ok (block_values a (coding_of f.codings c) r n i j (bodies_of bytes places c r n)) _ (block_read a (coding_of f.codings c) (mine c r n) (is.coefficients c) r n i j (bodies_of bytes places c r n) (same c r n) (blocks c some r n i j asked)))) in
    record {
      places = places;
      packets = read.1;
      planes = planes_by bytes h t d places ∙ bind_ok _ _ tt fine_all;
      same = λ c x y less within.
          is.shown c x y less within
          ∙ pixel_same f.cod h.siz (λ i. values_of a (coding_of f.codings i) d (is.coefficients i) x y) (λ i. component_values bytes h t d places i x y) h.siz.components c (are.each t lt).colour less (λ i few.
          let some : i < length f.codings = omega (arith, few, count) in
          let k = coding_of f.codings i in
          let le = levels_read f.codings i d k levels some refl in
          sym (is_decided a k.levels (coefficient_at a k (bodies_of bytes places i)) (is.coefficients i) (k.levels - d) (omega arith)
          (λ b u v small inside. coefficients_same a k d (bodies_of bytes places i) (mine i) (is.coefficients i) ((are.each t lt).codings.each i some) le (same i) (blocks i some) b u v small inside)
          x y (subst (λ (z : Rect). IsWithin z x y) (sym (shown_is a k.levels d le)) within)));
    }
