-- The sub-bands of a precinct.
use Rattle.std.specs.Prelude.{List, take}
use Rattle.jk_packet.specs.declared.shape.BandShape.{BandShape}
use Rattle.jk_packet.specs.declared.shape.PrecinctShape.{PrecinctShape}

-- the sub-bands, in the order of the packet
abbrev pub bands_of : PrecinctShape → List BandShape
bands_of s = take s.count s.bands
