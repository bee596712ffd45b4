use Rattle.jk_scan.specs.Bits.{on}
use Rattle.jk_scan.proofs.BitLaws.{on_or, on_and}
use Rattle.jk_scan.proofs.DigitBits.{low_digits_are}
use Rattle.jk_scan.proofs.digits.low_digits.Goals as goal

pub returns : goal.returns
returns c k l =
    let n = c.args.near in
    simp (on_or, on_and, c.without-one_across.ensures k l, c.without-one_down.ensures k l, c.without.ensures k l, c.without-one_diagonal.ensures k l, c.without-2.ensures k l, c.without-five_or_seven.ensures k l, c.without-3.ensures k l, c.without-4.ensures k l, c.without-5.ensures k l, c.without-6.ensures k l)
    (low_digits_are (on c.args.west k) (on c.args.east k) (on c.args.north k) (on c.args.south k) (on n.north_west k) (on n.north_east k) (on n.south_west k) (on n.south_east k))
