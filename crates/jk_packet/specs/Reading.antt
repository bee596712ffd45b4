-- Reading packet headers from front to back, with the first fault.
use Rattle.std.specs.Prelude.{ℕ, zero, suc, ◌+◌, ◌-◌, ◌*◌, Bool, true, false, not, ◌&&◌, ◌==◌, nat_lt, if◌then◌else◌}
use Rattle.std.specs.Prelude.{List, [], ◌∷◌, ◌++◌, length, map, drop, replicate, slice_index, slice_index_or, slice_set}
use Rattle.std.specs.Prelude.{Option, None, Result, Ok, Err}
use Rattle.jk_math.specs.Answer.{◌>>=◌, refuse}
use Rattle.jk_math.specs.declared.fault.Fault.{Fault}
use Rattle.jk_math.specs.declared.fault.Fault.TheVariants.{Truncated, BadLength, PacketHeader, TooManyPasses}
use Rattle.jk_bits.specs.Reading.{Bits, bit_at, finish_at}
use Rattle.jk_tree.specs.TagTree.{Shape, shape_of, query_of}
use Rattle.jk_tree.specs.Asking.{TagTreeRead, node_at, unless_failed, ask_at, blank_tree}
use Rattle.jk_packet.specs.declared.shape.BandShape.{BandShape}
use Rattle.jk_packet.specs.declared.header.BlockContribution.{BlockContribution}
use Rattle.jk_packet.specs.declared.header.Header.{Header}
use Rattle.jk_packet.specs.declared.words.Addition.{Addition}
use Rattle.jk_packet.specs.declared.block.Block.{Block}
use Rattle.jk_packet.specs.Words.{floor_log2, most_passes}

-- a bit as a number
abbrev pub digit : Bool → ℕ
digit bit = if bit then 1 else 0

-- a number of n bits behind those of value, the highest first
unfoldable pub number_at : ℕ → ℕ → Bits → Result (ℕ × Bits) Fault
number_at zero value r = Ok (value, r)
number_at (suc n) value r = bit_at r >>= λ b. number_at n (value * 2 + digit b.0) b.1

-- the number of coding passes
unfoldable pub passes_at : Bits → Result (ℕ × Bits) Fault
passes_at r =
    bit_at r >>= λ a. if not a.0 then Ok (1, a.1)
    else (bit_at a.1 >>= λ b. if not b.0 then Ok (2, b.1)
    else (number_at 2 0 b.1 >>= λ c. if nat_lt c.0 3 then Ok (3 + c.0, c.1)
    else (number_at 5 0 c.1 >>= λ d. if nat_lt d.0 31 then Ok (6 + d.0, d.1)
    else (number_at 7 0 d.1 >>= λ e. Ok (37 + e.0, e.1)))))

-- The growth of Lblock, of which `growth` was read; with `room` more the length field would pass 32
-- bits. The test stands before each bit, also before the first.
unfoldable pub growth_at : ℕ → ℕ → Bits → Result (ℕ × Bits) Fault
growth_at zero growth r = Err PacketHeader
growth_at (suc room) growth r = bit_at r >>= λ b. if b.0 then growth_at room (growth + 1) b.1 else Ok (growth, b.1)

-- The words of a code-block that has a piece, of whose passes `most` are allowed and `before` were
-- read.
unfoldable pub piece_at : (most before lblock : ℕ) → Bits → Result (Addition × Bits) Fault
piece_at most before lblock r =
    passes_at r >>= λ n. refuse (nat_lt most (before + n.0)) TooManyPasses
    >>= λ _. growth_at (33 - (lblock + floor_log2 n.0)) 0 n.1
    >>= λ g. number_at (lblock + g.0 + floor_log2 n.0) 0 g.1
    >>= λ k. Ok (record { passes = n.0; growth = g.0; length = k.0 }, k.1)

-- a code-block of which nothing was read
abbrev pub blank_block : Block
blank_block = record { included = false; zero_planes = 0; passes = 0; length_bits = 3 }

-- whether a block has a piece in the packet of a layer
unfoldable pub included_at : (layer leaf : ℕ) → Block → TagTreeRead × Bits → Result (Bool × (TagTreeRead × Bits)) Fault
included_at layer leaf b s =
    if b.included then (bit_at s.1 >>= λ r. Ok (r.0, (s.0, r.1))) else ask_at (query_of leaf (layer + 1)) s

-- the number of zero bit-planes of a block that has a piece
unfoldable pub zero_planes_at : (planes leaf : ℕ) → Block → TagTreeRead × Bits → Result (ℕ × (TagTreeRead × Bits)) Fault
zero_planes_at planes leaf b s =
    if b.included then Ok (b.zero_planes, s)
    else (ask_at (query_of leaf (planes + 1)) s >>= λ o. refuse (not o.0) PacketHeader
    >>= λ _. Ok ((node_at o.1.0.nodes leaf).low, o.1))

-- What packet headers have told so far of a sub-band of a precinct.
pub record BandState : Type 0 where
  pub shape : Shape
  pub planes : ℕ
  pub blocks : List Block
  pub inclusion : TagTreeRead
  pub zeros : TagTreeRead

-- a sub-band, the bits, and the parts that were read
pub record BandWalk : Type 0 where
  pub band : BandState
  pub bits : Bits
  pub parts : List BlockContribution

-- the block at an index
abbrev pub block_in : List Block → ℕ → Block
block_in blocks i = slice_index_or blocks i blank_block

-- a block once a piece was read
abbrev pub grown : Block → ℕ → Addition → Block
grown b zeros p =
    record {
      included = true;
      zero_planes = zeros;
      passes = b.passes + p.passes;
      length_bits = b.length_bits + p.growth;
    }

-- what is told of a piece
abbrev pub part_of : (band block zeros : ℕ) → Addition → BlockContribution
part_of band block zeros p =
    record { band = band; block = block; zero_planes = zeros; passes = p.passes; length = p.length }

-- a sub-band once the inclusion of a block was read
abbrev pub with_inclusion : BandWalk → TagTreeRead × Bits → BandWalk
with_inclusion w o = record w { band = record w.band { inclusion = o.0 }; bits = o.1 }

-- a sub-band once a piece of a block was read
abbrev pub with_piece : (number i : ℕ) → BandWalk → ℕ × (TagTreeRead × Bits) → Addition × Bits → BandWalk
with_piece number i w z p = record {
  band = record w.band { blocks = slice_set w.band.blocks i (grown (block_in w.band.blocks i) z.0 p.0); zeros = z.1.0 };
  bits = p.1;
  parts = w.parts ++ part_of number i z.0 p.0 ∷ [];
}

-- a block that has a piece
unfoldable pub taken_at : (number i : ℕ) → BandWalk → Result BandWalk Fault
taken_at number i w =
    zero_planes_at w.band.planes i (block_in w.band.blocks i) (w.band.zeros, w.bits)
    >>= λ z. piece_at (most_passes w.band.planes z.0) (block_in w.band.blocks i).passes
    (block_in w.band.blocks i).length_bits z.1.1
    >>= λ p. Ok (with_piece number i w z p)

-- one block
unfoldable pub block_at : (number layer i : ℕ) → BandWalk → Result BandWalk Fault
block_at number layer i w =
    included_at layer i (block_in w.band.blocks i) (w.band.inclusion, w.bits)
    >>= λ o. if o.0 then taken_at number i (with_inclusion w o.1) else Ok (with_inclusion w o.1)

-- so many blocks, from the i-th on
unfoldable pub blocks_at : (number layer more i : ℕ) → BandWalk → Result BandWalk Fault
blocks_at number layer zero i w = Ok w
blocks_at number layer (suc more) i w = block_at number layer i w >>= λ v. blocks_at number layer more (i + 1) v

-- all blocks of a sub-band
abbrev pub band_at : (number layer : ℕ) → BandWalk → Result BandWalk Fault
band_at number layer w = blocks_at number layer (w.band.shape.width * w.band.shape.height) 0 w

-- a sub-band of which nothing was read
unfoldable pub blank_band : BandShape → BandState
blank_band b = record {
  shape = shape_of b.across b.down;
  planes = b.planes;
  blocks = replicate (b.across * b.down) blank_block;
  inclusion = blank_tree (shape_of b.across b.down);
  zeros = blank_tree (shape_of b.across b.down);
}

-- the sub-bands of a precinct, the bits, and the parts that were read
pub record Walk : Type 0 where
  pub bands : List BandState
  pub bits : Bits
  pub parts : List BlockContribution

-- no sub-band
unfoldable pub no_band : BandState
no_band = blank_band record { across = 0; down = 0; planes = 0 }

abbrev pub band_in : List BandState → ℕ → BandState
band_in bands number = slice_index_or bands number no_band

-- so many sub-bands, from one on
unfoldable pub bands_at : (layer more number : ℕ) → Walk → Result Walk Fault
bands_at layer zero number w = Ok w
bands_at layer (suc more) number w =
    band_at number layer (record { band = band_in w.bands number; bits = w.bits; parts = w.parts })
    >>= λ v. bands_at layer more (number + 1)
    (record { bands = slice_set w.bands number v.band; bits = v.bits; parts = v.parts })

-- the sub-bands of a packet that isn't empty
abbrev pub packet_at : ℕ → Walk → Result Walk Fault
packet_at layer w = bands_at layer (length w.bands) 0 w

-- How many bytes an SOP marker segment takes that may stand at the front (A.8.1): its length is 4,
-- its counter isn't looked at.
unfoldable pub sop_at : Bool → List ℕ → Result ℕ Fault
sop_at allowed bytes =
    if allowed && (slice_index bytes 0 == 0xFF) && (slice_index bytes 1 == 0x91) then
    (refuse (nat_lt (length bytes) 4) Truncated
    >>= λ _. refuse (not ((slice_index bytes 2 == 0x00) && (slice_index bytes 3 == 0x04))) BadLength
    >>= λ _. refuse (nat_lt (length bytes) 6) Truncated
    >>= λ _. Ok 6)
    else Ok 0

-- How many bytes the EPH marker takes that must stand here (A.8.2).
unfoldable pub eph_at : Bool → List ℕ → Result ℕ Fault
eph_at due bytes =
    if due then
    (refuse (nat_lt (length bytes) 2) Truncated
    >>= λ _. refuse (not ((slice_index bytes 0 == 0xFF) && (slice_index bytes 1 == 0x92))) PacketHeader
    >>= λ _. Ok 2)
    else Ok 0

-- What the packet headers of a precinct have told so far: how many layers were read, and why a
-- header was refused, if one was.
pub record PrecinctState : Type 0 where
  pub bands : List BandState
  pub sop : Bool
  pub eph : Bool
  pub layers : ℕ
  pub failed : Option Fault

-- sub-bands of which nothing was read
unfoldable pub blank_bands : List BandShape → List BandState
blank_bands shapes = map blank_band shapes

-- the sub-bands, which are blank until they are made
unfoldable pub bands_seen : List BandShape → List BandState → List BandState
bands_seen shapes [] = blank_bands shapes
bands_seen shapes (b ∷ bs) = b ∷ bs

-- a precinct of which no packet was read
abbrev pub blank_precinct : List BandShape → Bool → Bool → PrecinctState
blank_precinct bands sop eph = record { bands = blank_bands bands; sop = sop; eph = eph; layers = 0; failed = None }

-- a header: how many bytes it takes, and its parts
pub record HeaderText : Type 0 where
  pub length : ℕ
  pub parts : List BlockContribution

abbrev pub text_of : Header → HeaderText
text_of h = record { length = h.length; parts = h.parts }

-- the bits of bytes, from the first on
abbrev pub bits_of : List ℕ → Bits
bits_of bytes = record { bytes = bytes; read = 0; failed = false }

-- the first bit, and what follows it where the packet isn't empty
unfoldable pub bits_at : ℕ → List BandState → Bits → Result Walk Fault
bits_at layer bands r =
    bit_at r >>= λ b. if b.0 then packet_at layer (record { bands = bands; bits = b.1; parts = [] })
    else Ok (record { bands = bands; bits = b.1; parts = [] })

-- the end of a header: the EPH marker
abbrev pub text_end : (eph : Bool) → List ℕ → ℕ → Walk → ℕ → Result (HeaderText × List BandState) Fault
text_end eph bytes n w m = eph_at eph (drop (n + m) bytes)
    >>= λ k. Ok (record { length = n + m + k; parts = w.parts }, w.bands)

-- the rest of a header, once its bits were read
abbrev pub text_rest : (eph : Bool) → List ℕ → ℕ → Walk → Result (HeaderText × List BandState) Fault
text_rest eph bytes n w = finish_at w.bits >>= λ m. text_end eph bytes n w m

-- the header of the packet of a layer, with the sub-bands after it
unfoldable pub text_at : (sop eph : Bool) (layer : ℕ) → List ℕ → List BandState
    → Result (HeaderText × List BandState) Fault
text_at sop eph layer bytes bands =
    sop_at sop bytes >>= λ n. bits_at layer bands (bits_of (drop n bytes)) >>= λ w. text_rest eph bytes n w

-- The header of the next layer's packet, with the precinct after it.
unfoldable pub header_at : ℕ → List ℕ → PrecinctState → Result (HeaderText × PrecinctState) Fault
header_at layer bytes s =
    unless_failed s.failed
    (text_at s.sop s.eph layer bytes s.bands >>= λ o. Ok (o.0, record s { bands = o.1; layers = s.layers + 1 }))
