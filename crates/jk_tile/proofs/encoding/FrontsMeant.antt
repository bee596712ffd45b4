-- What the first layers of a tile that is written mean: the coefficients without their lowest bit-planes.
use Rattle.std.proofs.Common.{◌≡◌, ℕ, zero, suc, ◌+◌, ◌-◌, ◌*◌, ◌<◌, ◌≤◌, Bool, List, [], ◌∷◌, length, map, take, replicate, sum_by, Some, ℤ, refl, sym, ap, subst, ◌∙◌, arith}
use Rattle.std.specs.List.{flat_map, range_with_len}
use Rattle.std.proofs.lemmas.List.{length-replicate, take-map}
use Rattle.std.proofs.lemmas.List.FromFn.{length-map-range_with_len}
use Rattle.jk_math.specs.declared.rect.Rect.{Rect}
use Rattle.jk_math.specs.Picture.{Picture, IsPicture}
use Rattle.jk_marks.specs.declared.siz.Siz.{Siz}
use Rattle.jk_marks.specs.declared.coding.Coding.{Coding}
use Rattle.jk_marks.specs.Siz.{tile_count}
use Rattle.jk_geom.specs.declared.shape.TileShape.{TileShape}
use Rattle.jk_geom.specs.Rectangles.{tile_area}
use Rattle.jk_geom.specs.Partitions.{block_number}
use Rattle.jk_geom.specs.TileShapes.{coding_of}
use Rattle.jk_order.specs.PacketOrder.{IsPrecinct, order}
use Rattle.jk_packet.specs.declared.header.BlockContribution.{BlockContribution}
use Rattle.jk_packet.specs.declared.shape.BandShape.{BandShape}
use Rattle.jk_packet.specs.declared.table.LayerPart.{LayerPart}
use Rattle.jk_packet.specs.PacketText.{band_shape}
use Rattle.jk_packet.specs.Written.{Table, table_of, bodies_in, bodies_of}
use Rattle.jk_packet.proofs.Laws.{table_bytes, table_passes, HasFront, front_written}
use Rattle.jk_params.specs.declared.parameters.Parameters.{Parameters}
use Rattle.jk_params.specs.Headers.{Headers, TileFields}
use Rattle.jk_params.specs.Profile.{siz_of, cod_of, IsWrittenBy}
use Rattle.jk_scan.specs.declared.shape.BlockShape.{BlockShape}
use Rattle.jk_block.specs.Meaning.{IsBlockMeaning, truncated, value_in}
use Rattle.jk_block.specs.BlockWritten.{Coded, coded}
use Rattle.jk_block.specs.Layers.{passes_upto, bytes_upto}
use Rattle.jk_block.proofs.Laws.{upto_means, upto_cut}
use Rattle.jk_walk.specs.TilePackets.{Body, Packet, slice_of, orientations, band_number, planes_of, band_at, bands_at, of_precinct, IsTile}
use Rattle.jk_tile.specs.TileBlocks.{grid_at, block_at_place, block_shape, block_bytes, passes_in, zeros_in}
use Rattle.jk_tile.specs.TileMeaning.{values_of, IsBlockAt, DecodesLayers}
use Rattle.jk_tile.specs.encoding.TileWritten.{block_list, coded_at}
use Rattle.jk_tile.specs.encoding.PacketsWritten.{Tables, passes_before, bytes_before, layer_part, body_from, coded_table, written_packets, written_coding, written_shape, tile_tables, tile_packets, tile_text}
use Rattle.jk_tile.specs.encoding.Needs.{written_coefficient}
use Rattle.jk_tile.specs.encoding.Fronts.{without_planes, front_coefficient, front_sample}
use Rattle.jk_tile.proofs.encoding.LayerTables.{part_of, cut_from, ends_from, last_from, sum_from, zero_planes_are}
use Rattle.jk_tile.proofs.encoding.PacketsTold.{of_layers, bodies_same, tile_is}
use Rattle.jk_tile.proofs.encoding.BlocksMeant.{flat_by, flat_from, block_from, segment_from, passes_from, without_passes, placed_at}
use Rattle.jk_tile.proofs.encoding.SamplesMeant.{coding_at}
use Rattle.jk_tile.proofs.TileLaws.{pixel_same}
use Rattle.jk_tile.proofs.encoding.WrittenTile.{tables_have, block_room, table_for, shape_at, precinct_fits}

-- ---- the first parts of a table

take_listed : {X : Type 0} (f : ℕ → X) (a n m : ℕ) → n ≤ m → take n (map f (range_with_len a m)) ≡ map f (range_with_len a n)
take_listed f a zero m le = refl
take_listed f a (suc n) zero le = absurd (omega (arith, le))
take_listed {X} f a (suc n) (suc m) le = ap (λ (xs : List X). f a ∷ xs) (take_listed f (a + 1) n m (omega (arith, le)))

front_parts : (layers planes n : ℕ) (k : Coded) → n ≤ layers → take n (coded_table layers planes k).parts ≡ (table_of (planes - k.planes) 0 (map (part_of layers k) (range_with_len 0 n)) k.bytes).parts
unfolding coded_table
front_parts layers planes n k le = take_listed (layer_part layers k) 0 n layers le ∙ sym (cut_from layers k 0 n)

front_bytes : (s : BlockShape) (values : List ℤ) (layers planes n : ℕ) → n ≤ layers
    → flat_map (λ p. p.1) (take n (coded_table layers planes (coded s values)).parts) ≡ take (bytes_before layers (coded s values) n) (coded s values).bytes
front_bytes s values layers planes n le =
    let k = coded s values in
    ap (λ (ps : List (ℕ × List ℕ)). flat_map (λ p. p.1) ps) (front_parts layers planes n k le)
    ∙ table_bytes (planes - k.planes) 0 (map (part_of layers k) (range_with_len 0 n)) k.bytes (ends_from s values layers 0 n (omega (arith, le)))
    ∙ ap (λ m. take m k.bytes) (last_from layers k 0 n ∙ ap (bytes_before layers k) (let e : 0 + n ≡ n = omega arith in e))

front_passes : (layers planes n : ℕ) (k : Coded) → n ≤ layers → sum_by (λ p. p.0) (take n (coded_table layers planes k).parts) ≡ passes_before layers k.planes n
front_passes layers planes n k le =
    ap (λ (ps : List (ℕ × List ℕ)). sum_by (λ p. p.0) ps) (front_parts layers planes n k le)
    ∙ table_passes (planes - k.planes) 0 (map (part_of layers k) (range_with_len 0 n)) k.bytes
    ∙ (let own = sum_by (λ (p : LayerPart). p.passes) (map (part_of layers k) (range_with_len 0 n)) in let z : own ≡ 0 + own = omega arith in z)
    ∙ sum_from layers k 0 n ∙ ap (passes_before layers k.planes) (let e : 0 + n ≡ n = omega arith in e)

-- ---- a block

-- what bodies that have the front of a block's table mean
front_means : (s : BlockShape) (values : List ℤ) (layers planes l : ℕ) (bs : List (BlockContribution × List ℕ)) → l < layers → (coded s values).planes ≤ planes → HasFront (coded_table layers planes (coded s values)) (suc l) bs
    → IsBlockMeaning s (planes - zeros_in (map body_from bs)) (passes_in (map body_from bs)) (block_bytes (map body_from bs)) (truncated s (coded s values).planes (passes_upto layers (coded s values).planes l) (value_in s values))
front_means s values layers planes l [] lt room has =
    let k = coded s values in
    let n = passes_upto layers k.planes l in
    let q = truncated s k.planes n (value_in s values) in
    let none : n ≡ 0 = sym (front_passes layers planes (suc l) k (omega (arith, lt))) ∙ sym has.passes in
    subst (λ m. IsBlockMeaning s (planes - 0) m [] q) none (without_passes s k.planes (planes - 0) n (take (bytes_upto layers k l) k.bytes) q none (upto_means s values layers l lt))
front_means s values layers planes l (b ∷ bs) lt room has =
    let k = coded s values in
    let n = passes_upto layers k.planes l in
    let q = truncated s k.planes n (value_in s values) in
    let zeros : b.0.zero_planes ≡ planes - k.planes = has.zeros.0 ∙ zero_planes_are layers planes k in
    let bits : planes - b.0.zero_planes ≡ k.planes = omega (arith, zeros, room) in
    let passes : passes_in (map body_from (b ∷ bs)) ≡ n = passes_from (b ∷ bs) ∙ has.passes ∙ front_passes layers planes (suc l) k (omega (arith, lt)) in
    let bytes : block_bytes (map body_from (b ∷ bs)) ≡ take (bytes_upto layers k l) k.bytes = segment_from (b ∷ bs) ∙ has.bytes ∙ front_bytes s values layers planes (suc l) (omega (arith, lt)) in
    subst (λ p. IsBlockMeaning s p (passes_in (map body_from (b ∷ bs))) (block_bytes (map body_from (b ∷ bs))) q) (sym bits)
    (subst (λ m. IsBlockMeaning s k.planes m (block_bytes (map body_from (b ∷ bs))) q) (sym passes)
    (subst (λ (x : List ℕ). IsBlockMeaning s k.planes n x q) (sym bytes) (upto_means s values layers l lt)))

-- the bodies of a block mean its coefficients without the lowest bit-planes
front_meant : (a : Rect) (k : Coding) (f : ℕ → ℕ → ℕ → ℤ) (layers l r n i j : ℕ) (bodies : List (BlockContribution × List ℕ)) → l < layers → (coded_at a k f r n i j).planes ≤ planes_of k (band_number r i)
    → HasFront (coded_table layers (planes_of k (band_number r i)) (coded_at a k f r n i j)) (suc l) (bodies_of i j bodies)
    → IsBlockAt a k (map body_from bodies) (λ b x y. without_planes (layers - suc l) (f b x y)) r n i j
front_meant a k f layers l r n i j bodies lt room has =
    let s = block_shape a k r n i j in
    let values = block_list a k f r n i j in
    let planes = planes_of k (band_number r i) in
    let own = block_from i j bodies in
    let q = truncated s (coded s values).planes (passes_upto layers (coded s values).planes l) (value_in s values) in
    let low : layers - suc l ≡ layers - 1 - l = omega arith in
    record {
      values = q;
      means = subst (λ (bs : List Body). IsBlockMeaning s (planes - zeros_in bs) (passes_in bs) (block_bytes bs) q) (sym own) (front_means s values layers planes l (bodies_of i j bodies) lt room has);
      placed = λ x y inside.
          ap (without_planes (layers - suc l)) (placed_at (block_at_place a k r n i j) s (f (band_number r i)) x y refl refl inside)
          ∙ ap (λ m. without_planes m (value_in s values x y)) low ∙ sym (upto_cut s values layers l x y);
    }

-- ---- a precinct

flat_front : (k : ℕ) (packets : List Packet) → flat_map (λ p. p.bodies) (take k packets) ≡ flat_map (λ bs. bs) (take k (map (λ p. p.bodies) packets))
flat_front k packets = flat_by (take k packets) ∙ ap (flat_map (λ (bs : List Body). bs)) (sym (take-map (λ (p : Packet). p.bodies) k packets))

precinct_front : (s : TileShape) (sop eph : Bool) (tables : Tables) (k c r n : ℕ) → k ≤ s.layers → IsPrecinct s c r n
    → flat_map (λ p. p.bodies) (take k (of_precinct c r n (written_packets s sop eph tables 0 (order s)))) ≡ map body_from (flat_map (bodies_in (tables c r n)) (range_with_len 0 k))
precinct_front s sop eph tables k c r n le precinct =
    let packets = of_precinct c r n (written_packets s sop eph tables 0 (order s)) in
    let f : ℕ → List Body = λ l. map body_from (bodies_in (tables c r n) l) in
    flat_front k packets
    ∙ ap (λ (bs : List (List Body)). flat_map (λ (x : List Body). x) (take k bs)) (of_layers s sop eph tables (λ p. p.bodies) (λ c r k l. map body_from (bodies_in (tables c r k) l)) (bodies_same s sop eph tables) c r n precinct)
    ∙ ap (flat_map (λ (x : List Body). x)) (take_listed f 0 k s.layers le)
    ∙ flat_from (bodies_in (tables c r n)) (range_with_len 0 k)

front_is : (p : Picture) (q : Parameters) (l t c r n i j : ℕ) → IsPicture p → IsWrittenBy q p → l < q.layers → t < tile_count (siz_of p q) → c < length p.planes → r ≤ q.levels → i < length (orientations r)
    → j < block_number (grid_at (tile_area (siz_of p q) t) (written_coding p q) r n i)
    → IsBlockAt (tile_area (siz_of p q) t) (written_coding p q) (map body_from (flat_map (bodies_in (tile_tables p q t c r n)) (range_with_len 0 (suc l)))) (front_coefficient p q (suc l) t c) r n i j
front_is p q l t c r n i j is by few tile some le lt less =
    let a = tile_area (siz_of p q) t in
    let k = written_coding p q in
    let ts = tile_tables p q t c r n in
    let shapes = bands_at a k r n in
    let long = length-map-range_with_len (band_at a k r n) 0 (length (orientations r)) in
    let shape = shape_at a k r n i lt in
    let blocks : j < (band_shape shapes i).across * (band_shape shapes i).down = subst (λ (b : BandShape). j < b.across * b.down) (sym shape) less in
    let has = front_written shapes q.layers (suc l) ts i j (omega (arith, few)) (precinct_fits p q t c r n is by tile some le) (omega (arith, long, lt)) blocks in
    front_meant a k (written_coefficient p q t c) q.layers l r n i j (flat_map (bodies_in ts) (range_with_len 0 (suc l))) few (block_room p q t c r n i j is by tile some le lt less)
    (subst (λ (x : Table). HasFront x (suc l) (bodies_of i j (flat_map (bodies_in ts) (range_with_len 0 (suc l))))) (table_for p q t c r n i j lt less) has)

-- ---- a tile

-- The first layers of a tile that is written decode to the samples of the coefficients without their lowest bit-planes.
pub front_decodes : (p : Picture) (q : Parameters) (k d t : ℕ) (codestream : List ℕ) (h : Headers) (places : List (ℕ × ℕ)) → IsPicture p → IsWrittenBy q p → 1 ≤ k → k ≤ q.layers → t < tile_count (siz_of p q) → h.siz ≡ siz_of p q
    → map (slice_of codestream) places ≡ tile_text p q t ∷ []
    → DecodesLayers codestream h (record { cod = cod_of q; codings = replicate (length p.planes) (written_coding p q); data_places = places }) t d (Some k) (front_sample p q k d t)
unfolding tile_text
front_decodes p q zero d t codestream h places is by some few tile siz content = absurd (omega (arith, some))
front_decodes p q (suc l) d t codestream h places is by some few tile siz content =
    let fields : List (ℕ × ℕ) → TileFields = λ ps. record { cod = cod_of q; codings = replicate (length p.planes) (written_coding p q); data_places = ps } in
    let own : (c : ℕ) → c < length p.planes → coding_of (replicate (length p.planes) (written_coding p q)) c ≡ written_coding p q = λ c lt. coding_at p q c lt in
    subst (λ (s : Siz). DecodesLayers codestream (record h { siz = s }) (fields places) t d (Some (suc l)) (front_sample p q (suc l) d t)) (sym siz) (record {
      packets = tile_packets p q t;
      tile = subst (IsTile (written_shape p q t) q.sop q.eph (tile_packets p q t)) (sym content) (tile_is (written_shape p q t) q.sop q.eph (tile_tables p q t) (tables_have p q t is by tile));
      coefficients = front_coefficient p q (suc l) t;
      blocks = λ c r n i j precinct shown band block.
          (let there : c < length p.planes = let lt = precinct.component in let long = length-replicate (length p.planes) (written_coding p q) in omega (arith, lt, long) in
          let coding = own c there in
          let levels = ap (λ (k : Coding). k.levels) coding in
          let less = subst (λ (k : Coding). j < block_number (grid_at (tile_area (siz_of p q) t) k r n i)) coding block in
          let le = precinct.resolution in
          let low : r ≤ q.levels = omega (arith, le, levels) in
          subst (λ (k : Coding). IsBlockAt (tile_area (siz_of p q) t) k (flat_map (λ x. x.bodies) (take (suc l) (of_precinct c r n (tile_packets p q t)))) (front_coefficient p q (suc l) t c) r n i j) (sym coding)
          (subst (λ (bs : List Body). IsBlockAt (tile_area (siz_of p q) t) (written_coding p q) bs (front_coefficient p q (suc l) t c) r n i j) (sym (precinct_front (written_shape p q t) q.sop q.eph (tile_tables p q t) (suc l) c r n few precinct))
          (front_is p q l t c r n i j is by (omega (arith, few)) tile there low band less)));
      shown = λ c x y there within.
          pixel_same (cod_of q) (siz_of p q) (λ i. values_of (tile_area (siz_of p q) t) (written_coding p q) d (front_coefficient p q (suc l) t i) x y)
          (λ i. values_of (tile_area (siz_of p q) t) (coding_of (replicate (length p.planes) (written_coding p q)) i) d (front_coefficient p q (suc l) t i) x y) (length p.planes) c ((by.cod).colour) there
          (λ i lt. ap (λ (k : Coding). values_of (tile_area (siz_of p q) t) k d (front_coefficient p q (suc l) t i) x y) (sym (own i lt)));
    })
