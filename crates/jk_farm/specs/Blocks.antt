-- What code-blocks mean and how they are written, one after another.
use Rattle.std.specs.Prelude.{◌≡◌, ◌⊎◌, ℕ, ◌*◌, ◌-◌, ◌^◌, ◌<◌, ◌≤◌, List, [], ◌∷◌, length, map, All, ℤ, unsigned_abs}
use Rattle.std.specs.Prelude.{Result, Ok, Err, IfOk, IfErr, get_or}
use Rattle.jk_math.specs.Answer.{◌>>=◌, Answers}
use Rattle.jk_math.specs.Memory.{IsMemory}
use Rattle.jk_math.specs.declared.fault.Fault.{Fault}
use Rattle.jk_block.specs.declared.decoding.Block.{Block}
use Rattle.jk_block.specs.declared.encoding.CodedBlock.{CodedBlock}
use Rattle.jk_block.specs.Reading.{block_at}
use Rattle.jk_block.specs.BlockWritten.{Coded, coded}
use Rattle.jk_block.specs.CodedBlocks.{shape_of, contents}
use Rattle.jk_farm.specs.declared.segments.Segment.{Segment}

-- a segment of a code-block of the profile
pub record IsCodedSegment (s : Segment) : Type 0 where
  pub wide : 1 ≤ s.shape.width
  pub narrow : s.shape.width ≤ 1024
  pub high : 1 ≤ s.shape.height
  pub low : s.shape.height ≤ 1024
  pub area : s.shape.width * s.shape.height ≤ 4096
  pub planes : s.planes ≤ 23

-- what it means
abbrev pub segment_at : Segment → Result (List ℤ) Fault
segment_at s = block_at s.shape s.planes s.passes s.bytes.items

-- what segments mean, or the fault of the first that has one
unfoldable pub segments_at : List Segment → Result (List (List ℤ)) Fault
segments_at [] = Ok []
segments_at (s ∷ ss) = segment_at s >>= λ values. segments_at ss >>= λ more. Ok (values ∷ more)

-- each coefficient is below 2 to the power of the segment's bit-planes in magnitude, and the block
-- has its shape
pub record IsBlockOf (s : Segment) (b : Block) : Type 0 where
  pub shape : shape_of b ≡ s.shape
  pub small : All (λ v. unsigned_abs v < 2 ^ s.planes) b.values.items

-- what the job of a segment gives
pub record IsRead (s : Segment) (r : Result Block Fault) : Type 0 where
  pub exact : Answers (λ b. b.values.items) r (segment_at s)
  pub sized : IfOk r (IsBlockOf s)

-- a code-block of the profile
pub record IsBlock (b : Block) : Type 0 where
  pub narrow : b.width ≤ 1024
  pub low : b.height ≤ 1024
  pub area : b.width * b.height ≤ 4096
  pub whole : length b.values.items ≡ b.width * b.height
  pub small : All (λ v. unsigned_abs v < 2 ^ 23) b.values.items

-- a block as it is written
pub record IsCodedAs (b : Block) (k : CodedBlock) : Type 0 where
  pub contents_are : contents k ≡ coded (shape_of b) b.values.items
  pub planes : k.planes ≤ 23
  pub marks : length k.marks.items ≡ 3 * k.planes - 2
  pub short : length k.bytes.items < 2 ^ 25

-- what the job of a block gives
pub record IsWritten (b : Block) (r : Result CodedBlock Fault) : Type 0 where
  pub coded : IfOk r (IsCodedAs b)
  pub memory : IfErr r IsMemory
