use Rattle.std.proofs.Common.{◌≡◌, ◌<◌, ◌+◌, suc, max, length, get_or, inl, inr, sym, ap, subst, ◌∙◌, arith}
use Rattle.std.specs.Prelude.{slice_index}
use Rattle.std.proofs.lemmas.Bool.{cases_lt}
use Rattle.std.proofs.lemmas.List.{get_or_default}
use Rattle.jk_marks.specs.declared.siz.Siz.{Siz}
use Rattle.jk_marks.specs.Siz.{tile_count}
use Rattle.jk_geom.specs.Rectangles.{tile_area}
use Rattle.jk_tile.specs.encoding.Forward.{tile_value}
use Rattle.jk_tile.specs.encoding.Needs.{most, tile_need}
use Rattle.jk_params.specs.declared.picture_frame.PictureFrame.{PictureFrame}
use Rattle.jk_params.specs.Profile.{siz_for}
use Rattle.jk_tile.specs.encoding.Strips.{ComponentFrame}
use Rattle.jk_tile.specs.encoding.FallenTiles.{fallen_in, band_need, IsCodedTile, HasTileRoom}
use Rattle.jk_tile.specs.declared.encoding.fallen_tile.FallenTile.{FallenTile}
use Rattle.jk_code.specs.ComingRows.{component_of, tiles_coming}
use Rattle.jk_code.proofs.NeedLaws.{need_of_tile, room_rises}
use Rattle.jk_tile.proofs.Laws.{need_is}
use Rattle.jk_code.proofs.ComingLaws.{coming_levels}
use Rattle.jk_code.proofs.tabled.needs_of.Goals as goal

pub loop-t-preserved : goal.loop-t-preserved
loop-t-preserved c =
    let s = c.args.coming.now in
    let q = s.parameters.now in
    let t = c.loop-t.t in
    let all = c.args.tiles.now in
    let x = c.index-tiles-t.result in
    let is : x ≡ get_or all t x = c.index-tiles-t.is in
    let now = c.loop-t.invariant in
    let source = c.component_at-source.ensures in
    let many = c.requires.tiles.count in
    let tile : t < tiles_coming s = omega (arith, c.loop-t-test.true, many) in
    let own = c.requires.tiles.each t x tile in
    record {
      needs = λ p same coded b lt.
          (let f = tile_value p q.colour in
          let siz = ap (λ g. siz_for g q) same in
          let count : length p.planes ≡ s.frame.components = ap (λ (g : PictureFrame). g.components) same in
          let here : IsCodedTile c.component_at-source.result f x = subst (λ (g : ComponentFrame). IsCodedTile g f x) (sym source) (subst (IsCodedTile (component_of s t) f) (sym is) (coded t x tile)) in
          let levels : c.component_at-source.result.coding.levels ≡ q.levels = ap (λ (g : ComponentFrame). g.coding.levels) source ∙ coming_levels s c.requires.coming in
          let one : t + 1 ≡ suc t = omega arith in
          let few : fallen_in x ≡ s.frame.components = subst (λ (y : FallenTile). fallen_in y ≡ s.frame.components) (sym is) own.components in
          let need = need_of_tile p q t b (fallen_in x) c.component_at-source.result (ap (λ (g : ComponentFrame). g.rect) source ∙ ap (λ (w : Siz). tile_area w t) (sym siz)) levels (few ∙ sym count) in
          c.raise.ensures.needs f here b (omega (arith, lt, levels)) ∙ ap (λ n. max n (most (λ k. band_need c.component_at-source.result (f k) b) (fallen_in x))) (now.needs p same coded b lt) ∙ ap (λ n. max (most (λ u. tile_need p q u b) t) n) need ∙ ap (λ n. most (λ u. tile_need p q u b) n) (sym one));
      room = λ u other lt. elim (cases_lt u t) [
        | inl less ↦ room_rises (component_of s u) (slice_index c.loop-t.needs) (slice_index c.raise.new.needs) (get_or all u other) c.raise.ensures.rise (now.room u other less)
        | inr past ↦
            (let e : u ≡ t = omega (arith, lt, past) in
            let here : x ≡ get_or all t other = is ∙ get_or_default all t x other (omega (arith, c.loop-t-test.true)) in
            subst (λ w. HasTileRoom (component_of s w) (slice_index c.raise.new.needs) (get_or all w other)) (sym e)
            (subst (λ (g : ComponentFrame). HasTileRoom g (slice_index c.raise.new.needs) (get_or all t other)) source (subst (HasTileRoom c.component_at-source.result (slice_index c.raise.new.needs)) here c.raise.ensures.room)))
      ];
    }

pub returns-clause-needs : goal.returns-clause-needs
returns-clause-needs c p same coded b lt =
    let s = c.args.coming.now in
    let q = s.parameters.now in
    let many = c.requires.tiles.count in
    let last : c.loop-t.t ≡ tiles_coming s = omega (arith, c.loop-t-test.false, c.loop-t.auto.t-end, many) in
    let siz = ap (λ g. siz_for g q) same in
    c.loop-t.invariant.needs p same coded b lt ∙ need_is p q b c.loop-t.t (last ∙ ap (λ (z : Siz). tile_count z) (sym siz))
