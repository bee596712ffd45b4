-- What the rows of an image become, stripe by stripe, is what is written of it.
use Rattle.std.proofs.Common.{◌≡◌, ℕ, zero, suc, ◌-◌, ◌<◌, ◌≤◌, Bool, true, false, List, length, replicate, ℤ, refl, sym, ap, subst, ◌∙◌, arith}
use Rattle.std.proofs.lemmas.List.{get_or-replicate, length-replicate}
use Rattle.jk_math.specs.Picture.{Picture, IsPicture, sample_at}
use Rattle.jk_marks.specs.declared.siz.Siz.{Siz}
use Rattle.jk_marks.specs.declared.coding.Coding.{Coding}
use Rattle.jk_marks.specs.declared.segments.CodingStyle.{CodingStyle}
use Rattle.jk_marks.specs.declared.segments.Order.TheVariants.{Lrcp}
use Rattle.jk_marks.specs.declared.segments.Quantisation.{Quantisation}
use Rattle.jk_marks.specs.Siz.{IsSiz, tile_count}
use Rattle.jk_marks.specs.Coding.{IsCoding}
use Rattle.jk_geom.specs.declared.shape.TileShape.{TileShape}
use Rattle.jk_geom.specs.Counts.{packet_number}
use Rattle.jk_geom.specs.Rectangles.{IsWithin, tile_area}
use Rattle.jk_geom.specs.TileShapes.{IsTileShape}
use Rattle.jk_params.specs.declared.parameters.Parameters.{Parameters}
use Rattle.jk_params.specs.Coding.{band_count, coding_with}
use Rattle.jk_params.specs.Headers.{packets_alike, most_packets}
use Rattle.jk_params.specs.Profile.{siz_of, IsWrittenBy}
use Rattle.jk_params.proofs.Laws.{part_of_total, same_packets}
use Rattle.jk_rct.specs.Colour.{y0_of, y1_of, y2_of}
use Rattle.jk_walk.specs.TilePackets.{planes_of}
use Rattle.jk_tile.specs.encoding.Forward.{levelled, coloured, tile_value}
use Rattle.jk_tile.specs.encoding.Needs.{need}
use Rattle.jk_tile.specs.encoding.PacketsWritten.{written_coding}
use Rattle.jk_tile.specs.encoding.Strips.{ComponentFrame, IsFrame}
use Rattle.jk_tile.specs.encoding.FallingTiles.{AreTileSixteen}
use Rattle.jk_tile.specs.encoding.FallenTiles.{HasTileRoom}
use Rattle.jk_tile.specs.declared.encoding.fallen_tile.FallenTile.{FallenTile}
use Rattle.jk_tile.proofs.encoding.Forwards.{coloured_at, value_plain, value_coloured, value_small, tile_is_part, part_within}
use Rattle.jk_tile.proofs.encoding.TileAreas.{tile_is_area}
use Rattle.jk_tile.proofs.encoding.TileIndex.{level_few}
use Rattle.jk_tile.proofs.encoding.PacketsFew.{count_is, few_below}
use Rattle.jk_tile.proofs.encoding.WrittenTile.{planes_are}

-- ---- before the first row: a component of a tile, whose exponents aren't known

pub frame_made : (z : Siz) (k : CodingStyle) (steps known : Quantisation) (layers n t : ℕ) → IsSiz z → IsCoding (coding_with k known) → k.levels ≤ 5 → 1 ≤ layers → layers ≤ 32 → 1 ≤ n → n ≤ 4
    → packets_alike z layers (replicate n (coding_with k known)) ≤ most_packets → t < tile_count z → IsFrame (record { rect = tile_area z t; coding = coding_with k steps; layers = layers })
frame_made z k steps known layers n t siz coding levels some few one four packets lt =
    let own : Coding = coding_with k steps in
    let codings : List Coding = replicate n own in
    let shape : TileShape = record { rect = tile_area z t; layers = layers; order = Lrcp; codings = codings } in
    let long = length-replicate n own in
    let is_coding : IsCoding own = record { levels = coding.levels; narrow = coding.narrow; wide = coding.wide; low = coding.low; high = coding.high; area = coding.area; count = coding.count; small = coding.small; whole = coding.whole } in
    let is_shape : IsTileShape shape = record {
      area = tile_is_area z t siz lt;
      some_layers = some;
      few_layers = omega (arith, few);
      codings = record { some = omega (arith, one, long); few = omega (arith, four, long); each = λ c less. subst IsCoding (sym (get_or-replicate n c own _ (omega (arith, less, long)))) is_coding };
    } in
    let part = part_of_total (λ i. packet_number (tile_area z i) layers codings) (tile_count z) t lt in
    let same = same_packets z layers n k steps known in
    let below = few_below shape own is_shape (ap (λ m. replicate m own) (sym long)) (let count = count_is shape in omega (arith, count, part, same, packets)) in
    record { area = is_shape.area; coding = is_coding; few_levels = levels; precincts = λ r le. level_few (tile_area z t) own r (omega (arith, le)) below }

-- ---- a stripe of the image

levelled_same : (p v : Picture) (c x y : ℕ) → v.depth ≡ p.depth → v.signed ≡ p.signed → sample_at v c (x - v.x0) (y - v.y0) ≡ sample_at p c (x - p.x0) (y - p.y0) → levelled v c x y ≡ levelled p c x y
levelled_same p v c x y ed es e = cc

each_same : (t : ℤ → ℤ → ℤ → ℤ) (a b c d e f : ℤ) → a ≡ d → b ≡ e → c ≡ f → t a b c ≡ t d e f
each_same t a b c d e f h i j = cc

-- the values of a stripe are those of the picture whose samples it has
pub value_same : (p v : Picture) (colours : Bool) (c x y : ℕ) → v.depth ≡ p.depth → v.signed ≡ p.signed → (colours ≡ true → 3 ≤ length v.planes) → c < length v.planes
    → ((i : ℕ) → i < length v.planes → sample_at v i (x - v.x0) (y - v.y0) ≡ sample_at p i (x - p.x0) (y - p.y0)) → tile_value v colours c x y ≡ tile_value p colours c x y
value_same p v false c x y ed es three lt same = value_plain v c x y ∙ levelled_same p v c x y ed es (same c lt) ∙ sym (value_plain p c x y)
value_same p v true c x y ed es three lt same = value_coloured v c x y ∙ by c lt ∙ sym (value_coloured p c x y)
  where
    at : (i : ℕ) → i < length v.planes → levelled v i x y ≡ levelled p i x y
    at i less = levelled_same p v i x y ed es (same i less)

    each : (t : ℤ → ℤ → ℤ → ℤ) → t (levelled v 0 x y) (levelled v 1 x y) (levelled v 2 x y) ≡ t (levelled p 0 x y) (levelled p 1 x y) (levelled p 2 x y)
    each t = let many = three refl in each_same t _ _ _ _ _ _ (at 0 (omega (arith, many))) (at 1 (omega (arith, many))) (at 2 (omega (arith, many)))

    by : (c : ℕ) → c < length v.planes → coloured (λ i. levelled v i x y) c ≡ coloured (λ i. levelled p i x y) c
    by zero lt = coloured_at.first (λ i. levelled v i x y) ∙ each y0_of ∙ sym (coloured_at.first (λ i. levelled p i x y))
    by (suc zero) lt = coloured_at.second (λ i. levelled v i x y) ∙ each y1_of ∙ sym (coloured_at.second (λ i. levelled p i x y))
    by (suc (suc zero)) lt = coloured_at.third (λ i. levelled v i x y) ∙ each y2_of ∙ sym (coloured_at.third (λ i. levelled p i x y))
    by (suc (suc (suc c))) lt = coloured_at.others (λ i. levelled v i x y) c ∙ at (suc (suc (suc c))) lt ∙ sym (coloured_at.others (λ i. levelled p i x y) c)

-- values of 16 bits
pub sixteen_are : (p : Picture) (q : Parameters) (t : ℕ) (s : ComponentFrame) → IsPicture p → IsWrittenBy q p → t < tile_count (siz_of p q) → s.rect ≡ tile_area (siz_of p q) t → AreTileSixteen s (length p.planes) (tile_value p q.colour)
sixteen_are p q t s is by tile e c lt x y h =
    let part = tile_is_part p q t (tile_is_area (siz_of p q) t by.siz tile) in
    let own = subst (λ a. IsWithin a x y) e h in
    value_small p q.colour c x y is (by.cod).colour lt (part_within (tile_area (siz_of p q) t) _ x y part (record { left = own.left; right = own.right; upper = own.upper; lower = own.lower }))

-- ---- behind the last row

-- the exponents make room for what each tile needs
pub room_late : (p : Picture) (q : Parameters) (s : ComponentFrame) (needs : ℕ → ℕ) (t : FallenTile) → s.coding.levels ≡ q.levels → ((b : ℕ) → b < band_count q.levels → needs b ≤ need p q b) → HasTileRoom s needs t → HasTileRoom s (planes_of (written_coding p q)) t
room_late p q s needs t levels most room = record {
  each = λ c other lt b band less.
      (let few : b < band_count q.levels = omega (arith, less, levels) in
      let bits = room.each c other lt b band less in
      let bound = most b few in
      let planes = planes_are p q b few in
      omega (arith, bits, bound, planes));
}
