use Rattle.std.proofs.Common.{◌+◌, ◌*◌, map, pos, sym, ap, ◌∙◌, arith}
use Rattle.std.proofs.lemmas.List.{get_or-map}
use Rattle.jk_c.proofs.Passing.{passed_number}
use Rattle.jk_c.proofs.Planes.{plane_more}
use Rattle.jk_c.proofs.Spreading.{place_below}
use Rattle.jk_c.proofs.stripes.plane.Goals as goal

pub loop-i-preserved : goal.loop-i-preserved
loop-i-preserved g c =
    let value = g.T.Sample.value in
    let pixels = c.args.pixels.now in
    let i = c.loop-i.i in
    let k = c.args.components in
    let place = i * k + c.args.component in
    let x = c.index-pixels-i.result in
    let below = place_below i c.args.area k c.args.component (omega arith) c.requires.component in
    let whole = c.requires.whole in
    let is = passed_number c.number.result c.number.ensures.within ∙ c.number.ensures.value ∙ ap value c.index-pixels-i.is ∙ sym (get_or-map value pixels place x (pos 0) (omega (arith, below, whole))) in
    plane_more (map value pixels) i k c.args.component _ c.loop-i.samples.items c.push.new.self.items is c.loop-i.invariant c.in_ok-push.ensures.items
