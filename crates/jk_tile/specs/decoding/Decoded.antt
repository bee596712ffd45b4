-- Code-blocks that are decoded before the parts that are made of them.
use Rattle.std.specs.Global.{Vec}
use Rattle.std.specs.Prelude.{◌≡◌, ℕ, ◌*◌, ◌^◌, ◌≤◌, List, length, map, All, ℤ, Result, Ok, IfOk}
use Rattle.jk_math.specs.Signed.{IsBelow}
use Rattle.jk_math.specs.declared.fault.Fault.{Fault}
use Rattle.jk_scan.specs.declared.shape.BlockShape.{BlockShape}
use Rattle.jk_tile.specs.TileBlocks.{IsBlockShape}
use Rattle.jk_tile.specs.decoding.Gathered.{body_of, IsInside}
use Rattle.jk_tile.specs.decoding.TileReading.{bodies_values}
use Rattle.jk_tile.specs.declared.decoding.bodies.BodyPlace.{BodyPlace}
use Rattle.jk_tile.specs.declared.decoding.decoded.BlockSegment.{BlockSegment}
use Rattle.jk_tile.specs.declared.decoding.decoded.SegmentJob.{SegmentJob}
use Rattle.jk_tile.specs.declared.decoding.decoded.DecodedBlock.{DecodedBlock}
use Rattle.jk_tile.specs.declared.decoding.decoded.DecodedBlocks.{DecodedBlocks}

-- These are the coefficients that bodies of a codestream mean, in this shape and a sub-band of so
-- many bit-planes.
pub record IsDecodedAs (bytes : List ℕ) (shape : BlockShape) (planes : ℕ) (bodies : List BodyPlace) (values : List ℤ) : Type 0 where
  pub exact : bodies_values shape planes (map (body_of bytes) bodies) ≡ Ok values
  pub small : All (IsBelow (2 ^ 23)) values
  pub long : length values ≡ shape.height * shape.width

abbrev pub IsDecoded : List ℕ → DecodedBlock → Type 0
IsDecoded bytes b = IsDecodedAs bytes b.shape b.planes b.bodies.items b.values.items

-- each block is decoded from its bodies
abbrev pub AreDecoded : List ℕ → DecodedBlocks → Type 0
AreDecoded bytes d = All (IsDecoded bytes) d.blocks.items

-- a code-block of the profile, whose bodies lie in a codestream of so many bytes
pub record IsBlockSegment (size : ℕ) (b : BlockSegment) : Type 0 where
  pub shape : IsBlockShape b.shape
  pub planes : b.planes ≤ 23
  pub inside : All (IsInside size) b.bodies.items

-- a job of such code-blocks, and what it gives
abbrev pub IsSegmentJob : SegmentJob → Type 0
IsSegmentJob j = All (IsBlockSegment (length j.bytes.now)) j.segments.now

abbrev pub AreBlocksOf : List ℕ → Vec DecodedBlock → Type 0
AreBlocksOf bytes v = All (IsDecoded bytes) v.items

abbrev pub AreDecodedFrom : SegmentJob → Result (Vec DecodedBlock) Fault → Type 0
AreDecodedFrom j r = IfOk r (AreBlocksOf j.bytes.now)

-- such a job of this codestream
pub record IsJobOf (bytes : List ℕ) (j : SegmentJob) : Type 0 where
  pub bytes_are : j.bytes.now ≡ bytes
  pub job : IsSegmentJob j

-- code-blocks of a codestream of so many bytes
abbrev pub AreSegments : ℕ → List BlockSegment → Type 0
AreSegments size segments = All (IsBlockSegment size) segments
