-- Code-blocks that are coded before the rows of them in which they stand (T.800 Annexes C and D).
use Rattle.std.specs.Prelude.{◌≡◌, ℕ, ◌*◌, ◌^◌, ◌<◌, ◌≤◌, List, length, map, All, unsigned_abs, Result, IfOk, IfErr}
use Rattle.std.specs.Global.{Vec}
use Rattle.std.specs.List.{flat_map}
use Rattle.jk_math.specs.Memory.{IsMemory}
use Rattle.jk_math.specs.declared.fault.Fault.{Fault}
use Rattle.jk_block.specs.declared.decoding.Block.{Block}
use Rattle.jk_block.specs.BlockWritten.{coded}
use Rattle.jk_block.specs.CodedBlocks.{shape_of}
use Rattle.jk_tile.specs.encoding.Layered.{Layered, layered}
use Rattle.jk_tile.specs.declared.encoding.ahead.UncodedBlocks.{UncodedBlocks}
use Rattle.jk_tile.specs.declared.encoding.ahead.CodedBlocks.{CodedBlocks}
use Rattle.jk_tile.specs.declared.encoding.ahead.GroupJob.{GroupJob}

-- a code-block of the profile, with its coefficients
pub record IsCodable (b : Block) : Type 0 where
  pub narrow : b.width ≤ 1024
  pub low : b.height ≤ 1024
  pub area : b.width * b.height ≤ 4096
  pub whole : length b.values.items ≡ b.width * b.height
  pub small : All (λ v. unsigned_abs v < 2 ^ 23) b.values.items

-- what is coded of it, cut into so many layers
abbrev pub layered_block : (layers : ℕ) → Block → Layered
layered_block layers b = layered layers (coded (shape_of b) b.values.items)

abbrev pub AreUncoded : UncodedBlocks → Type 0
AreUncoded u = All IsCodable u.blocks.items

-- of each code-block, in their order, what is coded of it
pub record IsCodedAhead (d : CodedBlocks) : Type 0 where
  pub coded : d.coded.items ≡ map (layered_block d.layers) d.blocks.items

-- ---- jobs of some code-blocks each

abbrev pub IsGroup : GroupJob → Type 0
IsGroup j = All IsCodable j.blocks.now

-- what is coded of those of a job
abbrev pub layered_group : GroupJob → List Layered
layered_group j = map (layered_block j.layers) j.blocks.now

-- what a job gives
pub record IsGroupCoded (j : GroupJob) (r : Result (Vec Layered) Fault) : Type 0 where
  pub value : IfOk r (λ v. v.items ≡ layered_group j)
  pub memory : IfErr r IsMemory

-- The jobs have these code-blocks, in their order.
pub record AreGroupsOf (layers : ℕ) (blocks : List Block) (jobs : List GroupJob) : Type 0 where
  pub groups : All IsGroup jobs
  pub whole : flat_map layered_group jobs ≡ map (layered_block layers) blocks
