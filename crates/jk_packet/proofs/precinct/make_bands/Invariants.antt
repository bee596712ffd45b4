use Rattle.std.proofs.Common.{◌≡◌, take, map}
use Rattle.jk_packet.specs.Reading.{blank_band}
use Rattle.jk_packet.proofs.precinct.make_bands.Given as goal

abbrev pub invariant-loop-band : goal.invariant-loop-band
invariant-loop-band l = l.made.items ≡ map blank_band (take l.band-index l.band-items)
