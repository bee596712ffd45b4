use Rattle.std.proofs.Common.{refl, map}
use Rattle.jk_c.proofs.PicturedLaws.{stripe_has}
use Rattle.jk_c.proofs.pixel_supply.PixelSupplyRowSupply.give.Goals as goal

pub returns-clause-rows : goal.returns-clause-rows
returns-clause-rows g c =
    let s = c.args.self.now in
    stripe_has s.frame (map g.T.Sample.value s.pixels.now) s.given c.args.end c.in_ok-rows.rows c.in_ok-rows.ensures.rows

pub returns-clause-gave : goal.returns-clause-gave
returns-clause-gave g c = record { frame = refl; pixels = refl; rows = c.in_ok-rows.ensures.rows }
