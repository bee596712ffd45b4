use Rattle.std.proofs.Common.{◌≡◌, ◌<◌, ℕ, sym, ap, subst, ◌∙◌}
use Rattle.jk_math.specs.Lists.{lists_of}
use Rattle.jk_math.specs.Picture.{Picture}
use Rattle.jk_marks.specs.declared.siz.Siz.{Siz}
use Rattle.jk_marks.specs.Siz.{tile_count}
use Rattle.jk_params.specs.declared.parameters.Parameters.{Parameters}
use Rattle.jk_params.specs.Profile.{siz_of}
use Rattle.jk_tile.specs.encoding.PacketsWritten.{tile_text}
use Rattle.jk_params.specs.declared.picture_frame.PictureFrame.{PictureFrame}
use Rattle.jk_params.specs.Profile.{siz_for}
use Rattle.jk_tile.specs.encoding.TilesFrom.{tile_lists}
use Rattle.jk_code.specs.declared.tabled.TableTiles.{TableTiles}
use Rattle.jk_code.specs.ComingRows.{tiles_coming}
use Rattle.jk_code.specs.TablesTold.{AreTablesOf}
use Rattle.jk_code.proofs.ComingLaws.{lists_same}
use Rattle.jk_code.proofs.tabled.TableTilesTileContents.content.Goals as goal

-- the number of a tile of the picture
inside : (s : TableTiles) (p : Picture) (t : ℕ) → AreTablesOf s p → t < tile_count (siz_of p s.coming.parameters.now) → t < tiles_coming s.coming
inside s p t told lt = subst (λ (z : Siz). t < tile_count z) (ap (λ (f : PictureFrame). siz_for f s.coming.parameters.now) told.frame) lt

pub packets_of-requires : goal.packets_of-requires
packets_of-requires c =
    let s = c.args.self.now in
    let t = c.args.number in
    let k = s.coming.parameters.now in
    let here : t < tiles_coming s.coming = inside s c.requires.number.0 t c.requires.number.2.1 (subst (λ (j : Parameters). t < tile_count (siz_of c.requires.number.0 j)) (sym c.requires.number.2.0) c.requires.number.3) in
    let lists : (p : Picture) → AreTablesOf s p → lists_of c.deref.result.now ≡ tile_lists p c.outline_at-outline.result.parameters.now t = λ p told.
    ap (λ xs. lists_of xs) c.deref.ensures.value ∙ told.tables t c.index-self-number.result here ∙ lists_same s.coming s.coding.now p t told.frame told.coding ∙ ap (λ j. tile_lists p j t) (sym c.outline_at-outline.ensures.parameters) in
    let told = c.requires.number.2.1 in
    let p = c.requires.number.0 in
    record { tile = (p, t, c.outline_at-outline.ensures.outline p told.picture told.frame told.coding, lists p told) }

pub returns-then-self-clause-value : goal.returns-then-self-clause-value
returns-then-self-clause-value c =
    let s = c.args.self.now in
    let t = c.args.number in
    let k = s.coming.parameters.now in
    let here : t < tiles_coming s.coming = inside s c.requires.number.0 t c.requires.number.2.1 (subst (λ (j : Parameters). t < tile_count (siz_of c.requires.number.0 j)) (sym c.requires.number.2.0) c.requires.number.3) in
    let lists : (p : Picture) → AreTablesOf s p → lists_of c.deref.result.now ≡ tile_lists p c.outline_at-outline.result.parameters.now t = λ p told.
    ap (λ xs. lists_of xs) c.deref.ensures.value ∙ told.tables t c.index-self-number.result here ∙ lists_same s.coming s.coding.now p t told.frame told.coding ∙ ap (λ j. tile_lists p j t) (sym c.outline_at-outline.ensures.parameters) in
    λ p q tells.
    c.in_ok-packets_of.ensures.exact p t (c.outline_at-outline.ensures.outline p tells.1.picture tells.1.frame tells.1.coding) (lists p tells.1)
    ∙ ap (λ j. tile_text p j t) (c.outline_at-outline.ensures.parameters ∙ tells.0)

pub returns-clause-value : goal.returns-clause-value
returns-clause-value c =
    let s = c.args.self.now in
    let t = c.args.number in
    let k = s.coming.parameters.now in
    let here : t < tiles_coming s.coming = inside s c.requires.number.0 t c.requires.number.2.1 (subst (λ (j : Parameters). t < tile_count (siz_of c.requires.number.0 j)) (sym c.requires.number.2.0) c.requires.number.3) in
    let lists : (p : Picture) → AreTablesOf s p → lists_of c.deref-2.result.now ≡ tile_lists p c.outline_at-outline.result.parameters.now t = λ p told.
    ap (λ xs. lists_of xs) c.deref-2.ensures.value ∙ told.tables t c.index-self-number.result here ∙ lists_same s.coming s.coding.now p t told.frame told.coding ∙ ap (λ j. tile_lists p j t) (sym c.outline_at-outline.ensures.parameters) in
    λ p q tells. (
      p,
      t,
      record { outline = c.outline_at-outline.ensures.outline p tells.1.picture tells.1.frame tells.1.coding; tables = lists p tells.1 },
      ap (λ j. tile_text p j t) (c.outline_at-outline.ensures.parameters ∙ tells.0),
    )
