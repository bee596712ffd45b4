-- A tile whose rows come: what an image has of it, and how many bits its sub-bands need.
use Rattle.std.proofs.Common.{◌≡◌, ℕ, suc, ◌+◌, ◌<◌, Bool, List, length, max, ℤ, sym, ap, subst, ◌∙◌, arith}
use Rattle.jk_math.specs.declared.rect.Rect.{Rect}
use Rattle.jk_math.specs.Picture.{Picture}
use Rattle.jk_math.specs.Raster.{raster}
use Rattle.jk_math.proofs.Laws.{raster_same}
use Rattle.jk_wave.specs.climbing.Held.{rows_between}
use Rattle.jk_tile.specs.Filling.{IsPartOf}
use Rattle.jk_tile.specs.encoding.Forward.{picture_area, tile_value}
use Rattle.jk_tile.specs.encoding.Needs.{most}
use Rattle.jk_tile.specs.encoding.Strips.{ComponentFrame, IsFrame}
use Rattle.jk_tile.specs.encoding.FallingTiles.{HasRowsFor, GivesTile}

-- ---- rows of an image

-- those of the tile
pub rows_part : (s : ComponentFrame) (y e : ℕ) (v : Picture) (part : Rect) → IsFrame s → HasRowsFor s y e v → part ≡ rows_between s.rect y e → IsPartOf part (picture_area v)
rows_part s y e v part frame is same =
    let left = is.left in let right = is.right in
    let upper = is.upper in let order = is.order in let lower = is.lower in
    let across = frame.area.left in
    subst (λ (a : Rect). IsPartOf a (picture_area v)) (sym same) (record { left = left; across = across; right = right; upper = upper; down = order; lower = lower })

-- their values are those of f
pub rows_values : (s : ComponentFrame) (colours : Bool) (v : Picture) (part : Rect) (f : ℕ → ℕ → ℕ → ℤ) (c y e from : ℕ) (values : List ℤ) → c < length v.planes → part ≡ rows_between s.rect y e → y ≡ from → GivesTile s colours v y e f
    → values ≡ raster part (tile_value v colours c) → values ≡ raster (rows_between s.rect from e) (f c)
rows_values s colours v part f c y e from values lt same at gives is =
    is ∙ ap (λ (a : Rect). raster a (tile_value v colours c)) same
    ∙ raster_same (rows_between s.rect y e) (tile_value v colours c) (f c) (λ x z h. gives c x z lt (record { left = h.left; right = h.right; upper = h.upper; lower = h.lower }))
    ∙ ap (λ n. raster (rows_between s.rect n e) (f c)) at

-- ---- how many bits are needed

-- one component more
pub most_raised : (f : ℕ → ℕ) (n old now new : ℕ) → now ≡ max old (most f n) → new ≡ max now (f n) → new ≡ max old (most f (n + 1))
most_raised f n old now new was is =
    let joined : max (max old (most f n)) (f n) ≡ max old (max (most f n) (f n)) = omega arith in
    let one : n + 1 ≡ suc n = omega arith in
    is ∙ ap (λ k. max k (f n)) was ∙ joined ∙ ap (λ k. max old (most f k)) (sym one)
