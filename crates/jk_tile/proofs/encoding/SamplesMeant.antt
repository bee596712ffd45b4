-- What a tile that is written means: the samples of the image.
use Rattle.std.proofs.Common.{◌≡◌, ℕ, zero, suc, ◌+◌, ◌-◌, ◌*◌, ◌/◌, ◌<◌, ◌≤◌, Bool, true, false, if◌then◌else◌, List, [], ◌∷◌, length, map, get_or, replicate, ℤ, pos, ◌+ℤ◌, ◌-ℤ◌, ◌≤ℤ◌, refl, sym, ap, subst, ◌∙◌, arith}
use Rattle.std.specs.Int.{int_min, int_max}
use Rattle.std.specs.List.{flat_map, range_with_len}
use Rattle.std.proofs.lemmas.Int.{ints}
use Rattle.std.proofs.lemmas.List.{get_or-replicate, length-replicate}
use Rattle.std.proofs.lemmas.List.Elements.{All-get_or}
use Rattle.std.proofs.lemmas.Nat.{row_fits}
use Rattle.jk_math.specs.declared.rect.Rect.{Rect}
use Rattle.jk_math.specs.Picture.{Picture, IsPicture, IsPlane, lowest, greatest, sample_at}
use Rattle.jk_marks.specs.declared.siz.Siz.{Siz}
use Rattle.jk_marks.specs.declared.segments.Cod.{Cod}
use Rattle.jk_marks.specs.declared.coding.Coding.{Coding}
use Rattle.jk_marks.specs.Siz.{tile_count}
use Rattle.jk_geom.specs.Rectangles.{IsWithin, tile_area, resolution_area}
use Rattle.jk_geom.specs.Partitions.{reduced_area, block_number}
use Rattle.jk_geom.specs.TileShapes.{coding_of}
use Rattle.jk_params.specs.declared.parameters.Parameters.{Parameters}
use Rattle.jk_params.specs.Headers.{Headers}
use Rattle.jk_params.specs.Profile.{siz_of, cod_of, IsWrittenBy}
use Rattle.jk_rct.specs.Colour.{y0_of, y1_of, y2_of, i0_of, i1_of, i2_of}
use Rattle.jk_rct.proofs.Laws.{undoes_colour}
use Rattle.jk_wave.specs.Resolutions.{resolution_of}
use Rattle.jk_wave.proofs.Laws.{is_undone}
use Rattle.jk_walk.specs.TilePackets.{Body, slice_of, orientations, band_at, bands_at, of_precinct, IsTile}
use Rattle.jk_packet.specs.Written.{Table, HasBlock, bodies_in, bodies_of}
use Rattle.jk_packet.specs.declared.shape.BandShape.{BandShape}
use Rattle.jk_packet.specs.PacketText.{band_shape}
use Rattle.std.proofs.lemmas.List.FromFn.{length-map-range_with_len}
use Rattle.jk_packet.proofs.Laws.{block_written}
use Rattle.jk_tile.specs.Samples.{shift, clamped, sample_of}
use Rattle.jk_tile.specs.Pixels.{uncoloured, tile_sample}
use Rattle.jk_tile.specs.encoding.Forward.{picture_area, levelled, coloured, tile_value}
use Rattle.jk_tile.specs.encoding.Needs.{written_coefficient}
use Rattle.jk_tile.specs.TileBlocks.{grid_at}
use Rattle.jk_tile.specs.TileMeaning.{values_of, IsBlockAt, DecodesTile}
use Rattle.jk_tile.specs.encoding.PacketsWritten.{body_from, written_coding, written_shape, tile_tables, tile_packets, tile_text}
use Rattle.jk_tile.proofs.Colours.{uncoloured_same, inverse_is}
use Rattle.jk_tile.proofs.encoding.Forwards.{coloured_at, value_plain, value_coloured, tile_is_part, part_within}
use Rattle.jk_tile.proofs.encoding.PacketsTold.{tile_is}
use Rattle.jk_tile.proofs.encoding.BlocksMeant.{precinct_bodies, block_meant}
use Rattle.jk_tile.proofs.encoding.TileAreas.{tile_is_area}
use Rattle.jk_tile.proofs.encoding.WrittenTile.{tables_have, block_room, table_for, shape_at, precinct_fits}

-- ---- samples

-- a sample in its range isn't clamped
unclamped : (depth : ℕ) (signed : Bool) (z : ℤ) → lowest depth signed ≤ℤ z → z ≤ℤ greatest depth signed → clamped depth signed z ≡ z
unclamped depth signed z low high =
    ap (λ w. int_min w (greatest depth signed)) (greater z (lowest depth signed) low) ∙ lesser z (greatest depth signed) high
  where
    greater : (a b : ℤ) → b ≤ℤ a → int_max a b ≡ a
    greater a b h = grind (arith, ints, h)

    lesser : (a b : ℤ) → a ≤ℤ b → int_min a b ≡ a
    lesser a b h = grind (arith, ints, h)

back : (s z : ℤ) → s -ℤ z +ℤ z ≡ s
back s z = omega (arith, ints)

-- the sample of a place of the image
pub sample_back : (p : Picture) (q : Parameters) (c x y : ℕ) → IsPicture p → c < length p.planes → IsWithin (picture_area p) x y → sample_of (siz_of p q) (levelled p c x y) ≡ sample_at p c (x - p.x0) (y - p.y0)
sample_back p q c x y is lt h =
    let s = sample_at p c (x - p.x0) (y - p.y0) in
    let plane : IsPlane (p.width * p.height) p.depth p.signed (get_or p.planes c []) = All-get_or (IsPlane (p.width * p.height) p.depth p.signed) p.planes c [] lt is.components.each in
    let left = h.left in let right = h.right in let upper = h.upper in let lower = h.lower in
    let fits : (y - p.y0) * p.width + p.width ≤ p.height * p.width = row_fits (y - p.y0) p.width p.height p.width (omega (arith, upper, lower)) (omega arith) in
    let turned : p.height * p.width ≡ p.width * p.height = omega arith in
    let count = plane.count in
    let range = All-get_or (λ z. (lowest p.depth p.signed ≤ℤ z) × (z ≤ℤ greatest p.depth p.signed)) (get_or p.planes c []) ((y - p.y0) * p.width + (x - p.x0)) (pos 0) (omega (arith, fits, turned, left, right, count)) plane.range in
    ap (clamped p.depth p.signed) (back s (shift p.depth p.signed)) ∙ unclamped p.depth p.signed s range.0 range.1

three_same : (f : ℤ → ℤ → ℤ → ℤ) (a b c d e g : ℤ) → a ≡ d → b ≡ e → c ≡ g → f a b c ≡ f d e g
three_same f a b c d e g p q r = ap (λ x. f x b c) p ∙ ap (λ x. f d x c) q ∙ ap (λ x. f d e x) r

-- the component transforms undo each other
colour_back : (v : ℕ → ℤ) (c : ℕ) → uncoloured (coloured v) c ≡ v c
colour_back v zero =
    inverse_is.first (coloured v) ∙ three_same i0_of (coloured v 0) (coloured v 1) (coloured v 2) (y0_of (v 0) (v 1) (v 2)) (y1_of (v 0) (v 1) (v 2)) (y2_of (v 0) (v 1) (v 2)) (coloured_at.first v) (coloured_at.second v) (coloured_at.third v)
    ∙ (undoes_colour (v 0) (v 1) (v 2)).0
colour_back v (suc zero) =
    inverse_is.second (coloured v) ∙ three_same i1_of (coloured v 0) (coloured v 1) (coloured v 2) (y0_of (v 0) (v 1) (v 2)) (y1_of (v 0) (v 1) (v 2)) (y2_of (v 0) (v 1) (v 2)) (coloured_at.first v) (coloured_at.second v) (coloured_at.third v)
    ∙ (undoes_colour (v 0) (v 1) (v 2)).1
colour_back v (suc (suc zero)) =
    inverse_is.third (coloured v) ∙ three_same i2_of (coloured v 0) (coloured v 1) (coloured v 2) (y0_of (v 0) (v 1) (v 2)) (y1_of (v 0) (v 1) (v 2)) (y2_of (v 0) (v 1) (v 2)) (coloured_at.first v) (coloured_at.second v) (coloured_at.third v)
    ∙ (undoes_colour (v 0) (v 1) (v 2)).2
colour_back v (suc (suc (suc c))) = inverse_is.others (coloured v) c ∙ coloured_at.others v c

pixel : (cod : Cod) (siz : Siz) (v : ℕ → ℤ) (c : ℕ) → tile_sample cod siz v c ≡ sample_of siz (if cod.colour then uncoloured v c else v c)
unfolding tile_sample
pixel cod siz v c = refl

-- what the values of a pixel give back
values_back : (p : Picture) (q : Parameters) (v : ℕ → ℤ) (c x y : ℕ) → IsPicture p → (q.colour ≡ true → 3 ≤ length p.planes) → c < length p.planes → IsWithin (picture_area p) x y
    → ((i : ℕ) → i < length p.planes → v i ≡ tile_value p q.colour i x y) → tile_sample (cod_of q) (siz_of p q) v c ≡ sample_at p c (x - p.x0) (y - p.y0)
values_back p q v c x y is three lt h same = pixel (cod_of q) (siz_of p q) v c ∙ by q.colour refl
  where
    by : (b : Bool) → q.colour ≡ b → sample_of (siz_of p q) (if q.colour then uncoloured v c else v c) ≡ sample_at p c (x - p.x0) (y - p.y0)
    by true e =
        ap (λ (b : Bool). sample_of (siz_of p q) (if b then uncoloured v c else v c)) e
        ∙ ap (sample_of (siz_of p q)) (uncoloured_same v (coloured (λ i. levelled p i x y)) (length p.planes) c (three e) lt (λ i less. same i less ∙ ap (λ (b : Bool). tile_value p b i x y) e ∙ value_coloured p i x y)
        ∙ colour_back (λ i. levelled p i x y) c)
        ∙ sample_back p q c x y is lt h
    by false e =
        ap (λ (b : Bool). sample_of (siz_of p q) (if b then uncoloured v c else v c)) e
        ∙ ap (sample_of (siz_of p q)) (same c lt ∙ ap (λ (b : Bool). tile_value p b c x y) e ∙ value_plain p c x y)
        ∙ sample_back p q c x y is lt h

-- ---- a tile

pub coding_at : (p : Picture) (q : Parameters) (c : ℕ) → c < length p.planes → coding_of (replicate (length p.planes) (written_coding p q)) c ≡ written_coding p q
coding_at p q c lt = get_or-replicate (length p.planes) c (written_coding p q) _ lt

-- the sub-bands of a component give its values back
component_back : (p : Picture) (q : Parameters) (t c x y : ℕ) → IsWithin (tile_area (siz_of p q) t) x y → values_of (tile_area (siz_of p q) t) (written_coding p q) 0 (written_coefficient p q t c) x y ≡ tile_value p q.colour c x y
component_back p q t c x y h =
    let none : q.levels - 0 ≡ q.levels = omega arith in
    ap (λ n. resolution_of (tile_area (siz_of p q) t) q.levels (written_coefficient p q t c) n x y) none ∙ is_undone (tile_area (siz_of p q) t) q.levels (tile_value p q.colour c) x y h

whole_one : (x : ℕ) → (x + 1 - 1) / 1 ≡ x
whole_one x = omega arith

whole_area : (a : Rect) → reduced_area a 0 ≡ a
unfolding resolution_area
whole_area a = λ i. record { x0 = whole_one a.x0 i; y0 = whole_one a.y0 i; x1 = whole_one a.x1 i; y1 = whole_one a.y1 i }

-- the bodies of a block of the tile mean its coefficients
block_is : (p : Picture) (q : Parameters) (t c r n i j : ℕ) → IsPicture p → IsWrittenBy q p → t < tile_count (siz_of p q) → c < length p.planes → r ≤ q.levels → i < length (orientations r)
    → j < block_number (grid_at (tile_area (siz_of p q) t) (written_coding p q) r n i)
    → IsBlockAt (tile_area (siz_of p q) t) (written_coding p q) (map body_from (flat_map (bodies_in (tile_tables p q t c r n)) (range_with_len 0 q.layers))) (written_coefficient p q t c) r n i j
block_is p q t c r n i j is by tile some le lt few =
    let a = tile_area (siz_of p q) t in
    let k = written_coding p q in
    let ts = tile_tables p q t c r n in
    let shapes = bands_at a k r n in
    let long = length-map-range_with_len (band_at a k r n) 0 (length (orientations r)) in
    let shape = shape_at a k r n i lt in
    let blocks : j < (band_shape shapes i).across * (band_shape shapes i).down = subst (λ (b : BandShape). j < b.across * b.down) (sym shape) few in
    let has = block_written shapes q.layers ts i j (precinct_fits p q t c r n is by tile some le) (omega (arith, long, lt)) blocks in
    block_meant a k (written_coefficient p q t c) q.layers r n i j (flat_map (bodies_in ts) (range_with_len 0 q.layers)) by.layers.0 (block_room p q t c r n i j is by tile some le lt few)
    (subst (λ (x : Table). HasBlock x (bodies_of i j (flat_map (bodies_in ts) (range_with_len 0 q.layers)))) (table_for p q t c r n i j lt few) has)

-- A tile that is written decodes to the samples of the image.
pub written_decodes : (p : Picture) (q : Parameters) (t : ℕ) (codestream : List ℕ) (h : Headers) (places : List (ℕ × ℕ)) → IsPicture p → IsWrittenBy q p → t < tile_count (siz_of p q) → h.siz ≡ siz_of p q
    → map (slice_of codestream) places ≡ tile_text p q t ∷ []
    → DecodesTile codestream h (record { cod = cod_of q; codings = replicate (length p.planes) (written_coding p q); data_places = places }) t 0 (λ c x y. sample_at p c (x - p.x0) (y - p.y0))
unfolding tile_text
written_decodes p q t codestream h places is by tile siz content =
    subst (λ (s : Siz). DecodesTile codestream (record h { siz = s }) (record { cod = cod_of q; codings = replicate (length p.planes) (written_coding p q); data_places = places }) t 0 (λ c x y. sample_at p c (x - p.x0) (y - p.y0))) (sym siz) (record {
      packets = tile_packets p q t;
      tile = subst (IsTile (written_shape p q t) q.sop q.eph (tile_packets p q t)) (sym content) (tile_is (written_shape p q t) q.sop q.eph (tile_tables p q t) (tables_have p q t is by tile));
      coefficients = written_coefficient p q t;
      blocks = λ c r n i j precinct shown band block.
          (let some : c < length p.planes = let lt = precinct.component in let long = length-replicate (length p.planes) (written_coding p q) in omega (arith, lt, long) in
          let own = coding_at p q c some in
          let levels = ap (λ (k : Coding). k.levels) own in
          let few = subst (λ (k : Coding). j < block_number (grid_at (tile_area (siz_of p q) t) k r n i)) own block in
          let le = precinct.resolution in
          let low : r ≤ q.levels = omega (arith, le, levels) in
          subst (λ (k : Coding). IsBlockAt (tile_area (siz_of p q) t) k (flat_map (λ x. x.bodies) (of_precinct c r n (tile_packets p q t))) (written_coefficient p q t c) r n i j) (sym own)
          (subst (λ (bs : List Body). IsBlockAt (tile_area (siz_of p q) t) (written_coding p q) bs (written_coefficient p q t c) r n i j) (sym (precinct_bodies (written_shape p q t) q.sop q.eph (tile_tables p q t) c r n precinct))
          (block_is p q t c r n i j is by tile some low band few)));
      shown = λ c x y some within.
          (let inside = subst (λ (a : Rect). IsWithin a x y) (whole_area (tile_area (siz_of p q) t)) within in
          let part = tile_is_part p q t (tile_is_area (siz_of p q) t by.siz tile) in
          let image = part_within (tile_area (siz_of p q) t) (picture_area p) x y part (record { left = inside.left; right = inside.right; upper = inside.upper; lower = inside.lower }) in
          sym (values_back p q (λ i. values_of (tile_area (siz_of p q) t) (coding_of (replicate (length p.planes) (written_coding p q)) i) 0 (written_coefficient p q t i) x y) c x y is (by.cod).colour some image (λ i lt.
          ap (λ (k : Coding). values_of (tile_area (siz_of p q) t) k 0 (written_coefficient p q t i) x y) (coding_at p q i lt) ∙ component_back p q t i x y inside)));
    })
