use Rattle.jk_scan.specs.Bits.{on}
use Rattle.jk_scan.proofs.BitLaws.{on_or, on_and}
use Rattle.jk_scan.proofs.DigitBits.{sign_digits_are, all_ones}
use Rattle.jk_scan.proofs.digits.sign_digits.Goals as goal

pub returns : goal.returns
returns c k l =
    let n = c.args.near in
    let m = c.args.signs in
    simp (on_or, on_and, c.without.ensures k l, c.without-2.ensures k l, c.without-3.ensures k l, c.without-4.ensures k l, c.without-plus_across.ensures k l, c.without-minus_across.ensures k l, c.without-plus_down.ensures k l, c.without-minus_down.ensures k l, c.without-ten_or_eleven.ensures k l, c.without-5.ensures k l, c.without-6.ensures k l, c.without-7.ensures k l, c.without-8.ensures k l, c.without-9.ensures k l, c.without-10.ensures k l, c.without-11.ensures k l, all_ones k l)
    (sign_digits_are (on n.west k) (on n.east k) (on n.north k) (on n.south k) (on m.west k) (on m.east k) (on m.north k) (on m.south k) (on c.args.own k))
