-- What the packets of a precinct have of one code-block, gathered from the parts of their headers.
use Rattle.std.specs.Prelude.{◌≡◌, ℕ, ◌*◌, ◌<◌, ◌≤◌, ◌&&◌, ◌==◌, List, length, map}
use Rattle.std.specs.List.{AllByRecursion, filter, flat_map}
use Rattle.jk_packet.specs.declared.shape.BandShape.{BandShape}
use Rattle.jk_packet.specs.declared.header.BlockContribution.{BlockContribution}
use Rattle.jk_packet.specs.Words.{most_passes}
use Rattle.jk_packet.specs.Reading.{part_of}
use Rattle.jk_packet.specs.PacketText.{PacketContribution, contributions, zeros_of, passes_of, Layer, band_layers, band_shape}
use Rattle.jk_packet.specs.PacketText.{parts_of}

-- the parts of block j of sub-band i
abbrev pub parts_in : ℕ → ℕ → List BlockContribution → List BlockContribution
parts_in i j parts = filter (λ p. (p.band == i) && (p.block == j)) parts

-- the part is of a block that there is
abbrev pub IsOfBlock : List BandShape → BlockContribution → Type 0
IsOfBlock shapes p = (p.band < length shapes)
    × (p.block < (band_shape shapes p.band).across * (band_shape shapes p.band).down)

-- the contributions to block j of sub-band i, layer by layer
abbrev pub block_contributions : List Layer → ℕ → ℕ → List PacketContribution
block_contributions layers i j = contributions (band_layers i layers) j

-- Contributions to a block of so many bit-planes: all tell the same zero bit-planes, and there are
-- no more passes than the other bit-planes have.
pub record IsHistory (planes : ℕ) (cs : List PacketContribution) : Type 0 where
  pub same : AllByRecursion (λ c. c.zero_planes ≡ zeros_of cs) cs
  pub zeros : zeros_of cs ≤ planes
  pub passes : passes_of cs ≤ most_passes planes (zeros_of cs)

-- The parts of block j of sub-band i in the headers of these layers are its contributions, layer by
-- layer.
abbrev pub Gathers : List BandShape → List Layer → ℕ → ℕ → Type 0
Gathers shapes layers i j =
    (parts_in i j (flat_map parts_of layers)
    ≡ map (λ c. part_of i j c.zero_planes c.piece) (block_contributions layers i j))
    × IsHistory (band_shape shapes i).planes (block_contributions layers i j)
