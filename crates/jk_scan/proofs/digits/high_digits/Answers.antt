use Rattle.jk_scan.specs.Bits.{on}
use Rattle.jk_scan.proofs.BitLaws.{on_or, on_and}
use Rattle.jk_scan.proofs.DigitBits.{high_digits_are}
use Rattle.jk_scan.proofs.digits.high_digits.Goals as goal

pub returns : goal.returns
returns c k l =
    let n = c.args.near in
    simp (on_or, on_and, c.without-two.ensures k l, c.without-one.ensures k l, c.without-one_beside.ensures k l, c.without.ensures k l, c.without-2.ensures k l, c.without-3.ensures k l, c.without-4.ensures k l)
    (high_digits_are (on n.west k) (on n.east k) (on n.north k) (on n.south k) (on n.north_west k) (on n.north_east k) (on n.south_west k) (on n.south_east k))
