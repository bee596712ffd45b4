use Rattle.std.proofs.Common.{◌≡◌, ◌*◌, ◌≤◌, Ok, sym, subst, arith}
use Rattle.jk_tree.specs.TagTree.{Shape, shape_of}
use Rattle.jk_tree.specs.Asking.{IsKnown}
use Rattle.jk_packet.specs.Reading.{BandState, block_at}
use Rattle.jk_packet.proofs.KnownLaws.{silent_block}
use Rattle.jk_packet.proofs.band.Band.next_told.Goals as goal

pub returns-clause-silent : goal.returns-clause-silent
returns-clause-silent c = λ j least less number bits parts.
    let s = c.self.inside in
    let sh = shape_of s.shape.across s.shape.down in
    let b : BandState = record { shape = sh; planes = s.shape.planes; blocks = s.blocks.items; inclusion = s.inclusion; zeros = s.zeros } in
    let n = s.shape.across * s.shape.down in
    let same : s.inclusion.shape ≡ sh = c.self.invariant.1 in
    let within : c.next_open.result ≤ n = subst (λ (x : Shape). c.next_open.result ≤ x.width * x.height) same c.next_open.ensures.within in
    subst (λ (x : BandState). block_at number c.args.layer j record { band = x; bits = bits; parts = parts } ≡ Ok record { band = x; bits = bits; parts = parts }) c.self.view_is
    (silent_block number c.args.layer j n b bits parts c.self.invariant.3 (omega (arith, less, within)) (c.next_open.ensures.silent j least less)
    (λ known. c.next_open.ensures.unknown j least less (subst (λ (x : Shape). IsKnown x s.inclusion.nodes j) (sym same) known)))
