use Rattle.std.proofs.Common.{◌*◌, ◌^◌, ◌≡◌, suc, sym, arith}
use Rattle.std.proofs.Math.Nat.{pow-suc}
use Rattle.jk_packet.proofs.ReadLaws.{log2_is}
use Rattle.jk_packet.proofs.words.floor_log2.Goals as goal

pub returns-clause-exact : goal.returns-clause-exact
returns-clause-exact c =
    let r = c.ilog2.result in
    let e = c.ilog2.ensures in
    let up : 2 ^ suc r ≡ 2 ^ r * 2 = pow-suc 2 r in
    let above = e.next_power_gt in
    sym (log2_is c.args.passes r e.bound e.power_le (omega (arith, up, above)))
