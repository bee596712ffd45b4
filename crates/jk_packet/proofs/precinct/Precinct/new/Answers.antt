use Rattle.std.proofs.Common.{◌≡◌, List, [], None, sym, ap, subst}
use Rattle.jk_packet.specs.Shapes.{bands_of}
use Rattle.jk_packet.specs.Reading.{BandState, PrecinctState, blank_bands, blank_precinct, bands_seen}
use Rattle.jk_packet.proofs.BandLaws.{seen_blank}
use Rattle.jk_packet.specs.Standing.{PrecinctStands, PrecinctReached}
use Rattle.jk_packet.proofs.PrecinctLaws.{fresh_stands, fresh_reached}
use Rattle.jk_packet.proofs.precinct.Precinct.new.Goals as goal

-- the precinct as it was made
made : (c : goal.After-new) → (record { bands = bands_seen (bands_of c.args.shape.now) c.new.result.items; sop = c.args.shape.now.sop; eph = c.args.shape.now.eph; layers = 0; failed = None }) ≡ blank_precinct (bands_of c.args.shape.now) c.args.shape.now.sop c.args.shape.now.eph
unfolding blank_bands
made c =
    let s = c.args.shape.now in
    ap (λ (bs : List BandState). record { bands = bs; sop = s.sop; eph = s.eph; layers = 0; failed = None }) (seen_blank (bands_of s) c.new.result.items c.new.ensures.items)

pub returns-clause-blank : goal.returns-clause-blank
returns-clause-blank c = made c

pub returns-clause-stands : goal.returns-clause-stands
returns-clause-stands c = λ trees are.
    let s = c.args.shape.now in
    subst (λ (p : PrecinctState). PrecinctStands (bands_of s) trees [] p) (sym (made c)) (fresh_stands (bands_of s) s.sop s.eph trees are)

pub returns-clause-reached : goal.returns-clause-reached
returns-clause-reached c =
    let s = c.args.shape.now in
    subst (λ (p : PrecinctState). PrecinctReached (bands_of s) [] [] p) (sym (made c)) (fresh_reached (bands_of s) s.sop s.eph)
