-- What the packets of a tile that is written mean of each code-block: the block.
use Rattle.std.proofs.Common.{◌≡◌, ℕ, ◌+◌, ◌-◌, ◌*◌, ◌≤◌, Bool, true, ◌&&◌, nat_lt, List, [], ◌∷◌, ◌++◌, map, sum_by, get_or, ℤ, pos, refl, sym, ap, subst, ◌∙◌, inl, inr, arith}
use Rattle.std.specs.Prelude.{◌==◌}
use Rattle.std.specs.List.{flat_map, range_with_len}
use Rattle.std.proofs.lemmas.Bool.{cases_Bool, cond-true, cond-false, and_parts, ltb-true}
use Rattle.std.proofs.lemmas.List.{map-append}
use Rattle.std.proofs.lemmas.List.Sums.{sum_by-cons}
use Rattle.std.proofs.lemmas.Nat.{pow_pos}
use Rattle.jk_math.specs.declared.rect.Rect.{Rect}
use Rattle.jk_math.specs.Raster.{columns_of, rows_of, raster}
use Rattle.jk_math.proofs.Laws.{raster_at}
use Rattle.jk_marks.specs.declared.coding.Coding.{Coding}
use Rattle.jk_geom.specs.declared.shape.TileShape.{TileShape}
use Rattle.jk_order.specs.PacketOrder.{IsPrecinct, order}
use Rattle.jk_packet.specs.declared.header.BlockContribution.{BlockContribution}
use Rattle.jk_packet.specs.Written.{bodies_in, bodies_of, HasBlock}
use Rattle.jk_scan.specs.declared.shape.BlockShape.{BlockShape}
use Rattle.jk_scan.specs.Neighbours.{Field, is_inside}
use Rattle.jk_block.specs.Meaning.{IsBlockMeaning, truncated, value_in}
use Rattle.jk_block.specs.BlockWritten.{coded}
use Rattle.jk_block.proofs.Laws.{coded_means, coded_passes}
use Rattle.jk_walk.specs.TilePackets.{Body, Packet, band_number, planes_of, of_precinct}
use Rattle.jk_tile.specs.TileBlocks.{block_at_place, block_shape, block_bodies, block_bytes, passes_in, zeros_in}
use Rattle.jk_tile.specs.TileMeaning.{IsBlockAt}
use Rattle.jk_tile.specs.encoding.TileWritten.{block_list, coded_at}
use Rattle.jk_tile.specs.encoding.PacketsWritten.{Tables, body_from, written_packets, coded_table}
use Rattle.jk_tile.proofs.encoding.PacketsTold.{of_layers, bodies_same}
use Rattle.jk_tile.proofs.encoding.LayerTables.{table_has_bytes, table_has_passes, zero_planes_are}

-- ---- the bodies of a precinct

pub flat_by : (ps : List Packet) → flat_map (λ p. p.bodies) ps ≡ flat_map (λ bs. bs) (map (λ p. p.bodies) ps)
flat_by [] = refl
flat_by (p ∷ ps) = ap (λ (bs : List Body). p.bodies ++ bs) (flat_by ps)

pub flat_from : (h : ℕ → List (BlockContribution × List ℕ)) (ls : List ℕ) → flat_map (λ bs. bs) (map (λ l. map body_from (h l)) ls) ≡ map body_from (flat_map h ls)
flat_from h [] = refl
flat_from h (l ∷ ls) = ap (λ (bs : List Body). map body_from (h l) ++ bs) (flat_from h ls) ∙ sym (map-append body_from (h l) (flat_map h ls))

pub precinct_bodies : (s : TileShape) (sop eph : Bool) (tables : Tables) (c r n : ℕ) → IsPrecinct s c r n
    → flat_map (λ p. p.bodies) (of_precinct c r n (written_packets s sop eph tables 0 (order s))) ≡ map body_from (flat_map (bodies_in (tables c r n)) (range_with_len 0 s.layers))
precinct_bodies s sop eph tables c r n precinct =
    flat_by (of_precinct c r n (written_packets s sop eph tables 0 (order s)))
    ∙ ap (flat_map (λ bs. bs)) (of_layers s sop eph tables (λ p. p.bodies) (λ c r k l. map body_from (bodies_in (tables c r k) l)) (bodies_same s sop eph tables) c r n precinct)
    ∙ flat_from (bodies_in (tables c r n)) (range_with_len 0 s.layers)

-- ---- those of a block

pub block_from : (i j : ℕ) (bs : List (BlockContribution × List ℕ)) → block_bodies i j (map body_from bs) ≡ map body_from (bodies_of i j bs)
block_from i j [] = refl
block_from i j (b ∷ bs) = elim (cases_Bool ((b.0.band == i) && (b.0.block == j))) [
  | inl own ↦
      cond-true ((b.0.band == i) && (b.0.block == j)) (body_from b ∷ block_bodies i j (map body_from bs)) (block_bodies i j (map body_from bs)) own
      ∙ ap (λ (xs : List Body). body_from b ∷ xs) (block_from i j bs)
      ∙ sym (ap (map body_from) (cond-true ((b.0.band == i) && (b.0.block == j)) (b ∷ bodies_of i j bs) (bodies_of i j bs) own))
  | inr other ↦
      cond-false ((b.0.band == i) && (b.0.block == j)) (body_from b ∷ block_bodies i j (map body_from bs)) (block_bodies i j (map body_from bs)) other
      ∙ block_from i j bs
      ∙ sym (ap (map body_from) (cond-false ((b.0.band == i) && (b.0.block == j)) (b ∷ bodies_of i j bs) (bodies_of i j bs) other))
]

pub segment_from : (bs : List (BlockContribution × List ℕ)) → block_bytes (map body_from bs) ≡ flat_map (λ b. b.1) bs
segment_from [] = refl
segment_from (b ∷ bs) = ap (λ (x : List ℕ). b.1 ++ x) (segment_from bs)

pub passes_from : (bs : List (BlockContribution × List ℕ)) → passes_in (map body_from bs) ≡ sum_by (λ b. b.0.passes) bs
passes_from [] = refl
passes_from (b ∷ bs) =
    sum_by-cons (λ (x : Body). x.part.passes) (body_from b) (map body_from bs) ∙ ap (λ n. b.0.passes + n) (passes_from bs) ∙ sym (sum_by-cons (λ (x : BlockContribution × List ℕ). x.0.passes) b bs)

-- ---- a block

no_pass_is_zero : (s : BlockShape) (planes : ℕ) (q : Field ℤ) (x y : ℕ) → truncated s planes 0 q x y ≡ pos 0
unfolding truncated
no_pass_is_zero s planes q x y = refl

-- a block without a coding pass is zero, of however many bit-planes
pub without_passes : (s : BlockShape) (p planes passes : ℕ) (bytes : List ℕ) (q : Field ℤ) → passes ≡ 0 → IsBlockMeaning s p passes bytes q → IsBlockMeaning s planes passes [] q
without_passes s p planes passes bytes q none is =
    let at : (x y : ℕ) → is_inside s x y ≡ true → q x y ≡ pos 0 = λ x y h. sym (is.coded x y h) ∙ ap (λ n. truncated s p n q x y) none ∙ no_pass_is_zero s p q x y in
    record {
      few = omega (arith, none);
      small = λ x y h. let z = at x y h in let some = pow_pos planes in rw z some;
      coded = λ x y h. ap (λ n. truncated s planes n q x y) none ∙ no_pass_is_zero s planes q x y ∙ sym (at x y h);
      spelled = λ some. absurd (omega (arith, some, none));
    }

-- what bodies that have a block's table mean
table_means : (s : BlockShape) (values : List ℤ) (layers planes : ℕ) (bs : List (BlockContribution × List ℕ)) → 1 ≤ layers → (coded s values).planes ≤ planes → HasBlock (coded_table layers planes (coded s values)) bs
    → IsBlockMeaning s (planes - zeros_in (map body_from bs)) (passes_in (map body_from bs)) (block_bytes (map body_from bs)) (value_in s values)
table_means s values layers planes [] some room has =
    let k = coded s values in
    let none : k.passes ≡ 0 = coded_passes s values ∙ sym (table_has_passes layers planes k some) ∙ sym has.passes in
    subst (λ n. IsBlockMeaning s (planes - 0) n [] (value_in s values)) none (without_passes s k.planes (planes - 0) k.passes k.bytes (value_in s values) none (coded_means s values))
table_means s values layers planes (b ∷ bs) some room has =
    let k = coded s values in
    let zeros : b.0.zero_planes ≡ planes - k.planes = has.zeros.0 ∙ zero_planes_are layers planes k in
    let bits : planes - b.0.zero_planes ≡ k.planes = omega (arith, zeros, room) in
    let passes : passes_in (map body_from (b ∷ bs)) ≡ k.passes = passes_from (b ∷ bs) ∙ has.passes ∙ table_has_passes layers planes k some ∙ sym (coded_passes s values) in
    let bytes : block_bytes (map body_from (b ∷ bs)) ≡ k.bytes = segment_from (b ∷ bs) ∙ has.bytes ∙ table_has_bytes s values layers planes some in
    subst (λ p. IsBlockMeaning s p (passes_in (map body_from (b ∷ bs))) (block_bytes (map body_from (b ∷ bs))) (value_in s values)) (sym bits)
    (subst (λ n. IsBlockMeaning s k.planes n (block_bytes (map body_from (b ∷ bs))) (value_in s values)) (sym passes)
    (subst (λ (x : List ℕ). IsBlockMeaning s k.planes k.passes x (value_in s values)) (sym bytes) (coded_means s values)))

-- where the values of a block stand
pub placed_at : (place : Rect) (kind_shape : BlockShape) (f : ℕ → ℕ → ℤ) (x y : ℕ) → kind_shape.width ≡ columns_of place → kind_shape.height ≡ rows_of place → is_inside kind_shape x y ≡ true
    → f (place.x0 + x) (place.y0 + y) ≡ value_in kind_shape (raster place f) x y
placed_at place s f x y wide high inside =
    let both = and_parts (nat_lt x s.width) (nat_lt y s.height) inside in
    let across = ltb-true x s.width both.0 in
    let down = ltb-true y s.height both.1 in
    let at = raster_at place f (place.x0 + x) (place.y0 + y) (record { left = omega arith; right = omega (arith, across, wide); upper = omega arith; lower = omega (arith, down, high) }) in
    let column : place.x0 + x - place.x0 ≡ x = omega arith in
    let row : place.y0 + y - place.y0 ≡ y = omega arith in
    sym at ∙ ap (λ n. get_or (raster place f) (n * columns_of place + (place.x0 + x - place.x0)) (pos 0)) row ∙ ap (λ n. get_or (raster place f) (y * columns_of place + n) (pos 0)) column
    ∙ ap (λ w. get_or (raster place f) (y * w + x) (pos 0)) (sym wide)

-- the bodies of a block mean its coefficients
pub block_meant : (a : Rect) (k : Coding) (f : ℕ → ℕ → ℕ → ℤ) (layers r n i j : ℕ) (bodies : List (BlockContribution × List ℕ)) → 1 ≤ layers → (coded_at a k f r n i j).planes ≤ planes_of k (band_number r i)
    → HasBlock (coded_table layers (planes_of k (band_number r i)) (coded_at a k f r n i j)) (bodies_of i j bodies) → IsBlockAt a k (map body_from bodies) f r n i j
block_meant a k f layers r n i j bodies some room has =
    let s = block_shape a k r n i j in
    let values = block_list a k f r n i j in
    let planes = planes_of k (band_number r i) in
    let own = block_from i j bodies in
    record {
      values = value_in s values;
      means = subst (λ (bs : List Body). IsBlockMeaning s (planes - zeros_in bs) (passes_in bs) (block_bytes bs) (value_in s values)) (sym own) (table_means s values layers planes (bodies_of i j bodies) some room has);
      placed = λ x y inside. placed_at (block_at_place a k r n i j) s (f (band_number r i)) x y refl refl inside;
    }
