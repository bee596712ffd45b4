use Rattle.std.proofs.Common.{ℕ, refl, ◌+◌, ◌<◌, ◌∙◌, ap, sym, arith}
use Rattle.jk_geom.specs.Rectangles.{is_empty}
use Rattle.jk_geom.specs.Precincts.{precinct_number}
use Rattle.jk_tile.proofs.Showing.{followed_numbers}
use Rattle.jk_tile.proofs.decoding.StripLaws.{across_is}
use Rattle.jk_tile.proofs.decoding.ahead.add_row_blocks.Goals as goal

pub first_precinct-first-requires-clause-some : goal.first_precinct-first-requires-clause-some
first_precinct-first-requires-clause-some c = ap is_empty (sym c.strip_area.ensures.value) ∙ sym c.is_empty.ensures ∙ c.if-is_empty.false

pub follow-requires-clause-chain : goal.follow-requires-clause-chain
follow-requires-clause-chain c =
    let s = c.args.source.now in
    let wide = across_is s c.args.at.resolution c.precinct_count-across.result.0 c.rect-rect.result c.coding.result.now c.rect-rect.ensures.value c.coding.ensures.value c.precinct_count-across.ensures.across in
    let lt : c.first_precinct-first.result + c.loop-k.k < precinct_number s.region.rect s.coding c.args.at.resolution = omega (arith, wide, c.loop-k-test.true, c.first_precinct-first.ensures.inside) in
    let own = c.requires.chains.each (c.first_precinct-first.result + c.loop-k.k) lt in
    (own.0, own.1)

pub add_row_part-requires-clause-numbers : goal.add_row_part-requires-clause-numbers
add_row_part-requires-clause-numbers c =
    let s = c.args.source.now in
    let r = c.args.at.resolution in
    let n : ℕ = c.first_precinct-first.result + c.loop-k.k in
    let wide = across_is s r c.precinct_count-across.result.0 c.rect-rect.result c.coding.result.now c.rect-rect.ensures.value c.coding.ensures.value c.precinct_count-across.ensures.across in
    let lt : n < precinct_number s.region.rect s.coding r = omega (arith, wide, c.loop-k-test.true, c.first_precinct-first.ensures.inside) in
    followed_numbers s r n (precinct_number s.region.rect s.coding r) s.packets s.component c.args.chains.now c.follow.new.numbers.items c.deref.result.now refl refl c.requires.chains lt c.in_ok-follow.ensures.numbers c.deref.ensures.value
