use Rattle.std.proofs.Common.{◌≡◌, ◌<◌, List, length, map, sym, ap, ◌∙◌, arith}
use Rattle.std.proofs.lemmas.Bool.Decides.{nat_tests}
use Rattle.std.proofs.lemmas.List.{take_all, nil_from_length}
use Rattle.jk_packet.specs.declared.shape.BandShape.{BandShape}
use Rattle.jk_packet.specs.Reading.{blank_band}
use Rattle.jk_packet.proofs.BandLaws.{seen_made, seen_blank}
use Rattle.jk_packet.proofs.precinct.make_bands.Goals as goal

pub returns-then-not-is_empty-clause-made : goal.returns-then-not-is_empty-clause-made
returns-then-not-is_empty-clause-made c =
    let long = c.args.bands.now.ok.0 in
    let some : 0 < length c.args.bands.now.items = (let test = sym c.is_empty.ensures ∙ c.if-not-is_empty.true in grind (arith, nat_tests)) in
    sym (seen_made _ c.args.bands.now.items some)

pub returns-clause-made : goal.returns-clause-made
returns-clause-made c =
    let test = sym c.is_empty.ensures ∙ c.if-not-is_empty.false in
    let none : length c.args.bands.now.items ≡ 0 = (let long = c.args.bands.now.ok.0 in grind (arith, nat_tests)) in
    c.loop-band.invariant
    ∙ ap (λ (xs : List BandShape). map blank_band xs) (take_all c.loop-band.band-index c.bands-band-items.result.now c.loop-band-test.false ∙ c.bands-band-items.ensures)
    ∙ sym (seen_blank _ c.args.bands.now.items (nil_from_length c.args.bands.now.items none))
