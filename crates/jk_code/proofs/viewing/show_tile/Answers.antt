use Rattle.std.proofs.Common.{◌≡◌, List, ℤ, ap, subst, sym, ◌∙◌}
use Rattle.std.specs.Global.{Vec}
use Rattle.jk_math.specs.declared.rect.Rect.{Rect}
use Rattle.jk_math.specs.Lists.{lists_of}
use Rattle.jk_geom.specs.Rectangles.{meet}
use Rattle.jk_tile.specs.Filling.{IsPartOf}
use Rattle.jk_tile.specs.TileMeaning.{shown_area}
use Rattle.jk_tile.specs.decoding.TileSources.{TileSource, IsTileSource}
use Rattle.jk_tile.proofs.Laws.{part_decoded}
use Rattle.jk_code.specs.Tiles.{IsPartSeen}
use Rattle.jk_code.proofs.ViewSteps.{part_seen}
use Rattle.jk_code.proofs.viewing.show_tile.Goals as goal

-- the part of the window that a tile has
part_of : {i s : TileSource} (w : Rect) {part shown : Rect} → i ≡ s → part ≡ meet w shown → shown ≡ shown_area i.headers.siz i.number i.reduce → part ≡ meet w (shown_area s.headers.siz s.number s.reduce)
part_of w e ep es = ep ∙ ap (meet w) (es ∙ ap (λ (s : TileSource). shown_area s.headers.siz s.number s.reduce) e)

pub decode_part_of-requires-clause-inside : goal.decode_part_of-requires-clause-inside
decode_part_of-requires-clause-inside c =
    let s = c.args.tile.now in
    let is = part_of c.args.window.now c.tile.view_is c.meet-part.ensures c.shown.ensures.value in
    subst (λ (u : Rect). IsPartOf u (shown_area s.headers.siz s.number s.reduce)) (sym is) (part_seen s.headers s.reduce s.number c.args.window.now c.requires.seen).tile

pub put_tile-requires-clause-sound : goal.put_tile-requires-clause-sound
put_tile-requires-clause-sound c = (subst IsTileSource c.tile.view_is c.tile.invariant).sound

pub put_tile-requires-clause-number : goal.put_tile-requires-clause-number
put_tile-requires-clause-number c = (subst IsTileSource c.tile.view_is c.tile.invariant).is_tile

pub put_tile-requires-clause-part : goal.put_tile-requires-clause-part
put_tile-requires-clause-part c =
    let s = c.args.tile.now in
    let is = part_of c.args.window.now c.tile.view_is c.meet-part.ensures c.shown.ensures.value in
    subst (IsPartSeen s.headers s.reduce s.number c.args.window.now) (sym is) (part_seen s.headers s.reduce s.number c.args.window.now c.requires.seen)

pub put_tile-requires-clause-shown : goal.put_tile-requires-clause-shown
put_tile-requires-clause-shown c =
    let s = c.args.tile.now in
    ap (λ (vs : List (Vec ℤ)). lists_of vs) c.deref.ensures.value
    ∙ part_decoded s.bytes s.headers s.number s.reduce c.meet-part.result s.packets (lists_of c.in_ok-values.values.items) c.in_ok-values.ensures.exact
