-- The tiles of an image in memory: its rows are theirs, and their code-blocks have room.
use Rattle.std.proofs.Common.{◌≡◌, ℕ, zero, suc, ◌+◌, ◌<◌, ◌≤◌, inl, inr, max, length, get_or, refl, sym, ap, subst, ◌∙◌, arith}
use Rattle.std.proofs.lemmas.Bool.{cases_lt}
use Rattle.jk_math.specs.Picture.{Picture}
use Rattle.jk_marks.specs.Siz.{tile_count}
use Rattle.jk_geom.specs.Rectangles.{tile_area}
use Rattle.jk_params.specs.declared.parameters.Parameters.{Parameters}
use Rattle.jk_params.specs.declared.picture_frame.PictureFrame.{PictureFrame}
use Rattle.jk_params.specs.PictureFrames.{frame_of}
use Rattle.jk_params.specs.Profile.{siz_of, siz_for}
use Rattle.jk_walk.specs.TilePackets.{planes_of}
use Rattle.jk_tile.specs.Filling.{IsPartOf}
use Rattle.jk_tile.specs.encoding.Forward.{picture_area, tile_value}
use Rattle.jk_tile.specs.encoding.Needs.{most, tile_need}
use Rattle.jk_tile.specs.encoding.PacketsWritten.{written_coding}
use Rattle.jk_tile.specs.encoding.Strips.{ComponentFrame}
use Rattle.jk_tile.specs.encoding.FallingTiles.{HasRowsFor}
use Rattle.jk_tile.specs.encoding.FallenTiles.{fallen_in, band_need, IsCodedTile, HasTileRoom}
use Rattle.jk_tile.specs.declared.encoding.fallen_tile.FallenTile.{FallenTile}
use Rattle.jk_tile.proofs.Laws.{need_is, room_late}
use Rattle.jk_code.specs.declared.coming.ComingImage.{ComingImage}
use Rattle.jk_code.specs.ComingRows.{IsComing, component_of, area_of_coming, tiles_coming}
use Rattle.jk_code.proofs.ComingLaws.{columns, rows_inside, component_framed}
use Rattle.jk_code.proofs.NeedLaws.{need_of_tile}

-- rows of a tile are rows of the image
pub rows_of_image : (s : ComingImage) (t y e : ℕ) (p : Picture) → frame_of p ≡ s.frame → (area_of_coming s t).y0 ≤ y → y ≤ e → e ≤ (area_of_coming s t).y1 → HasRowsFor (component_of s t) y e p
rows_of_image s t y e p same low order high =
    let c = columns (siz_for s.frame s.parameters.now) t in
    let rows = rows_inside s t in
    let x0 = ap (λ (f : PictureFrame). f.x0) same in
    let width = ap (λ (f : PictureFrame). f.width) same in
    let y0 = ap (λ (f : PictureFrame). f.y0) same in
    let height = ap (λ (f : PictureFrame). f.height) same in
    record {
      left = omega (arith, c.0, x0);
      right = omega (arith, c.1, x0, width);
      upper = omega (arith, rows.0, y0, low);
      order = order;
      lower = omega (arith, rows.1, y0, height, high);
      inside = high;
    }

-- and it lies in the image
pub part_of_image : (s : ComingImage) (t : ℕ) (p : Picture) → IsComing s → frame_of p ≡ s.frame → t < tiles_coming s → IsPartOf (area_of_coming s t) (picture_area p)
part_of_image s t p is same lt =
    let area = (component_framed s t is lt).area in
    let a = area_of_coming s t in
    let rows = rows_of_image s t a.y0 a.y1 p same (omega arith) area.upper (omega arith) in
    record { left = rows.left; across = area.left; right = rows.right; upper = rows.upper; down = rows.order; lower = rows.lower }

-- one of the first n numbers is no greater than the greatest of them
most_has : (g : ℕ → ℕ) (n c : ℕ) → c < n → g c ≤ most g n
most_has g zero c lt = absurd (omega (arith, lt))
most_has g (suc n) c lt = elim (cases_lt c n) [
  | inl less ↦ (let more = most_has g n c less in omega (arith, more))
  | inr past ↦ (let here : c ≡ n = omega (arith, lt, past) in subst (λ k. g k ≤ max (most g n) (g n)) (sym here) (omega arith))
]

coded_room : (p : Picture) (q : Parameters) (t : ℕ) (s : ComponentFrame) (x : FallenTile) → s.rect ≡ tile_area (siz_of p q) t → s.coding.levels ≡ q.levels → fallen_in x ≡ length p.planes → IsCodedTile s (tile_value p q.colour) x
    → HasTileRoom s (λ b. tile_need p q t b) x
coded_room p q t s x rect levels count coded = record {
  each = λ c other lt b band less.
      (let is : (get_or (get_or x.components.items c other).bands.items b band).bits ≡ band_need s (tile_value p q.colour c) b = (coded.each c other lt b band less).bits in
      let more = most_has (λ i. band_need s (tile_value p q.colour i) b) (fallen_in x) c lt in
      let all = need_of_tile p q t b (fallen_in x) s rect levels count in
      omega (arith, is, more, all));
}

-- in the sub-bands of the image as they are written
pub image_room : (p : Picture) (q : Parameters) (t : ℕ) (s : ComponentFrame) (x : FallenTile) → s.rect ≡ tile_area (siz_of p q) t → s.coding.levels ≡ q.levels → fallen_in x ≡ length p.planes → t < tile_count (siz_of p q)
    → IsCodedTile s (tile_value p q.colour) x → HasTileRoom s (planes_of (written_coding p q)) x
image_room p q t s x rect levels count lt coded =
    room_late p q s (λ b. tile_need p q t b) x levels
    (λ b few. (let more = most_has (λ k. tile_need p q k b) (tile_count (siz_of p q)) t lt in let is = need_is p q b (tile_count (siz_of p q)) refl in omega (arith, more, is)))
    (coded_room p q t s x rect levels count coded)
