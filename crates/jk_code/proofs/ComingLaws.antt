-- Laws of the tiles of an image whose rows come.
use Rattle.std.proofs.Common.{◌≡◌, ℕ, ◌+◌, ◌-◌, ◌*◌, ◌%◌, ◌<◌, ◌≤◌, min, max, List, length, [], refl, sym, ap, subst, ◌∙◌, arith}
use Rattle.jk_math.specs.Picture.{Picture, IsPicture}
use Rattle.jk_marks.specs.declared.siz.Siz.{Siz}
use Rattle.jk_marks.specs.declared.coding.Coding.{Coding}
use Rattle.jk_marks.specs.Siz.{tile_count, tiles_across}
use Rattle.jk_geom.specs.Rectangles.{tile_area}
use Rattle.jk_params.specs.Profile.{siz_of, cod_of, IsWrittenBy}
use Rattle.jk_tile.specs.encoding.Forward.{tile_value}
use Rattle.jk_params.specs.declared.picture_frame.PictureFrame.{PictureFrame}
use Rattle.jk_params.specs.PictureFrames.{frame_of}
use Rattle.jk_params.specs.Profile.{siz_for, IsWrittenFor}
use Rattle.jk_code.specs.Made.{rows_of}
use Rattle.jk_code.specs.RowsWritten.{IsStripe, sample_on_grid}
use Rattle.jk_tile.specs.encoding.Strips.{IsFrame}
use Rattle.jk_tile.specs.encoding.FallingTiles.{HasRowsFor, GivesTile, AreTileSixteen}
use Rattle.jk_tile.specs.encoding.TilesFrom.{tile_lists}
use Rattle.jk_tile.specs.declared.encoding.fallen_tile.FallenTile.{FallenTile}
use Rattle.jk_code.specs.declared.coming.ComingImage.{ComingImage}
use Rattle.jk_code.specs.ComingRows.{IsComing, component_of, area_of_coming, tiles_coming, lists_coming}
use Rattle.jk_code.specs.ComingWalks.{IsBetweenTiles}
use Rattle.std.specs.List.{flat_map, range_with_len}
use Rattle.jk_packet.specs.Written.{Table}
use Rattle.jk_wave.specs.Analysis.{analysed_bands}
use Rattle.jk_tile.specs.encoding.PacketsWritten.{written_coding}
use Rattle.jk_tile.specs.encoding.TileWriters.{component_lists}
use Rattle.jk_params.proofs.Laws.{written_by_frame}
use Rattle.jk_tile.proofs.Laws.{frame_made, value_same, sixteen_are}
use Rattle.jk_code.proofs.PictureRows.{rows_value}
use Rattle.jk_code.proofs.TileRowing.{number_of, rows_by, row_whole, area_rows, first_row, next_row, last_row, first_shown, next_shown}

-- a component of a tile
pub component_framed : (s : ComingImage) (t : ℕ) → IsComing s → t < tiles_coming s → IsFrame (component_of s t)
component_framed s t is lt =
    let q = s.parameters.now in
    subst (λ (k : Coding). IsFrame (record { rect = area_of_coming s t; coding = k; layers = q.layers })) (sym is.coding)
    (frame_made (siz_for s.frame q) (cod_of q).style (record { guard = 0; exponents = [] }) (record { guard = 2; exponents = [] }) q.layers s.frame.components t is.written.siz is.written.coding is.written.levels is.written.layers.0
    is.written.layers.1 is.frame.some is.frame.few is.written.few lt)

-- a picture with its frame
pub coming_written : (s : ComingImage) (p : Picture) → IsComing s → frame_of p ≡ s.frame → IsWrittenBy s.parameters.now p
coming_written s p is same = written_by_frame s.parameters.now p (subst (λ (f : PictureFrame). IsWrittenFor s.parameters.now f) (sym same) is.written)

pub columns : (z : Siz) (t : ℕ) → ((tile_area z t).x0 ≡ max (z.tile_x0 + t % tiles_across z * z.tile_width) z.x0) × ((tile_area z t).x1 ≡ min (z.tile_x0 + (t % tiles_across z + 1) * z.tile_width) z.x1)
unfolding tile_area
columns z t = (refl, refl)

-- what a tile has of a stripe
pub stripe_of_tile : (s : ComingImage) (t y e : ℕ) (v : Picture) → IsStripe s.frame v.y0 (v.y0 + v.height) v → v.y0 ≡ y → e ≡ v.y0 + v.height → e ≤ (area_of_coming s t).y1 → HasRowsFor (component_of s t) y e v
stripe_of_tile s t y e v stripe next end lower =
    let c = columns (siz_for s.frame s.parameters.now) t in
    let x0 = ap (λ (f : PictureFrame). f.x0) stripe in
    let width = ap (λ (f : PictureFrame). f.width) stripe in
    record { left = omega (arith, c.0, x0); right = omega (arith, c.1, x0, width); upper = omega (arith, next); order = omega (arith, next, end); lower = omega (arith, end); inside = lower }

pub stripe_gives : (s : ComingImage) (t from e : ℕ) (p v : Picture) → IsComing s → frame_of p ≡ s.frame → IsStripe s.frame v.y0 (v.y0 + v.height) v → v ≡ rows_of p v.y0 (v.y0 + v.height) → v.y0 ≡ from → e ≡ v.y0 + v.height
    → GivesTile (component_of s t) s.parameters.now.colour v from e (tile_value p s.parameters.now.colour)
stripe_gives s t from e p v is same stripe rows start end c x y lt within =
    let a = columns (siz_for s.frame s.parameters.now) t in
    let all = stripe ∙ ap (λ (f : PictureFrame). let r : PictureFrame = record f { y0 = v.y0; height = v.y0 + v.height - v.y0 } in r) (sym same) in
    let count : length v.planes ≡ length p.planes = ap (λ (f : PictureFrame). f.components) all in
    let many : length v.planes ≡ s.frame.components = ap (λ (f : PictureFrame). f.components) stripe in
    let x0 : p.x0 ≡ s.frame.x0 = ap (λ (f : PictureFrame). f.x0) same in
    let width : p.width ≡ s.frame.width = ap (λ (f : PictureFrame). f.width) same in
    let left = within.left in let right = within.right in let up = within.upper in let down = within.lower in
    let upper : v.y0 ≤ y = omega (arith, up, start) in
    let lower : y < v.y0 + v.height = omega (arith, down, end) in
    value_same p v s.parameters.now.colour c x y (ap (λ (f : PictureFrame). f.depth) all) (ap (λ (f : PictureFrame). f.signed) all) (λ colour. (let three = is.written.cod.colour colour in omega (arith, three, many))) lt (λ i less.
    ap (λ (u : Picture). sample_on_grid u i x y) rows
    ∙ rows_value p v.y0 (v.y0 + v.height) i x y (omega (arith, less, count)) (omega (arith, a.0, x0, left)) (omega (arith, a.1, x0, width, right)) upper lower)

pub coming_sixteen : (s : ComingImage) (t n : ℕ) (p : Picture) → IsComing s → IsPicture p → frame_of p ≡ s.frame → t < tiles_coming s → n ≡ length p.planes → AreTileSixteen (component_of s t) n (tile_value p s.parameters.now.colour)
coming_sixteen s t n p is picture same lt count =
    let q = s.parameters.now in
    let siz : siz_of p q ≡ siz_for s.frame q = ap (λ f. siz_for f q) same in
    subst (λ k. AreTileSixteen (component_of s t) k (tile_value p q.colour)) (sym count)
    (sixteen_are p q t (component_of s t) picture (coming_written s p is same) (subst (λ (z : Siz). t < tile_count z) (sym siz) lt) (ap (λ (z : Siz). tile_area z t) (sym siz)))

-- ---- rows of tiles

pub between_first : (s : ComingImage) (none : List FallenTile) → IsComing s → none ≡ [] → IsBetweenTiles s (length none) s.frame.y0
between_first s none is empty =
    let z = siz_for s.frame s.parameters.now in
    let siz = is.written.siz in
    let first = first_shown z 0 siz in
    subst (λ (l : List FallenTile). IsBetweenTiles s (length l) s.frame.y0) (sym empty) (record {
      begins = first.0;
      few = omega arith;
      at = λ some. sym (first_row z siz);
      end = λ past. absurd (let some = first.2 in omega (arith, some, past));
    })

pub between_next : (s : ComingImage) (first y : ℕ) → IsComing s → IsBetweenTiles s first y → first < tiles_coming s → IsBetweenTiles s (first + tiles_across (siz_for s.frame s.parameters.now)) (area_of_coming s first).y1
between_next s first y is at lt =
    let z = siz_for s.frame s.parameters.now in
    let siz = is.written.siz in
    let whole = row_whole z first at.begins lt in
    record {
      begins = (next_shown z 0 first siz at.begins lt).0;
      few = whole;
      at = λ more. sym (next_row z first siz at.begins more);
      end = λ none. last_row z first siz at.begins (omega (arith, whole, none));
    }

pub beside_first : (s : ComingImage) (first y k : ℕ) → IsBetweenTiles s first y → k < tiles_across (siz_for s.frame s.parameters.now)
    → ((area_of_coming s (first + k)).y0 ≡ (area_of_coming s first).y0) × ((area_of_coming s (first + k)).y1 ≡ (area_of_coming s first).y1)
beside_first s first y k at lt =
    let z = siz_for s.frame s.parameters.now in
    rows_by z (first + k) first (number_of first (tiles_across z) k at.begins lt).0

-- a tile's rows are the image's
pub rows_inside : (s : ComingImage) (t : ℕ) → (s.frame.y0 ≤ (area_of_coming s t).y0) × ((area_of_coming s t).y1 ≤ s.frame.y0 + s.frame.height)
rows_inside s t = let r = area_rows (siz_for s.frame s.parameters.now) t in (omega (arith, r.0), omega (arith, r.1))

-- the tables of a tile are those that are written
pub lists_same : (s : ComingImage) (j : Coding) (p : Picture) (t : ℕ) → frame_of p ≡ s.frame → j ≡ written_coding p s.parameters.now → lists_coming s j p t ≡ tile_lists p s.parameters.now t
lists_same s j p t frame coding =
    let q = s.parameters.now in
    let lists : PictureFrame → Coding → List (List Table) = λ f k. flat_map (λ c. component_lists (record {
      rect = tile_area (siz_for f q) t;
      coding = k;
      layers = q.layers;
      bands = analysed_bands (tile_area (siz_for f q) t) k.levels (tile_value p q.colour c);
    })) (range_with_len 0 f.components) in
    ap (λ (f : PictureFrame). lists f j) (sym frame) ∙ ap (λ (k : Coding). lists (frame_of p) k) coding

pub coming_levels : (s : ComingImage) → IsComing s → s.coding.now.levels ≡ s.parameters.now.levels
coming_levels s is = ap (λ (k : Coding). k.levels) is.coding
