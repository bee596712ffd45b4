use Rattle.std.proofs.Common.{map}
use Rattle.jk_c.specs.Signed.{signed_plane_in}
use Rattle.jk_c.proofs.Planes.{planes_more}
use Rattle.jk_c.proofs.stripes.planes.Goals as goal

pub loop-component-preserved : goal.loop-component-preserved
loop-component-preserved g c =
    planes_more (signed_plane_in (map g.T.Sample.value c.args.pixels.now) c.args.area c.args.components) c.loop-component.component c.loop-component.planes.items c.push.new.self.items c.in_ok-plane.field-0 c.loop-component.invariant c.in_ok-push.ensures.items c.in_ok-plane.ensures.value
