-- Blocks and coded blocks as contracts see them, and how far a block is coded.
use Rattle.std.specs.Prelude.{◌≡◌, ℕ, ℤ, List}
use Rattle.jk_mqenc.specs.Encoded.{EncoderView, Codes}
use Rattle.jk_scan.specs.declared.shape.BlockShape.{BlockShape}
use Rattle.jk_scan.specs.Neighbours.{Field}
use Rattle.jk_block.specs.declared.decoding.Block.{Block}
use Rattle.jk_block.specs.declared.encoding.CodedBlock.{CodedBlock}
use Rattle.jk_block.specs.Meaning.{pass_decisions, value_in}
use Rattle.jk_block.specs.BlockWritten.{Coded, marks_upto}

abbrev pub shape_of : Block → BlockShape
shape_of b = record { width = b.width; height = b.height; orientation = b.orientation; style = b.style }

-- the coefficients of a block by their places
abbrev pub coefficients_of : Block → Field ℤ
coefficients_of b = value_in (shape_of b) b.values.items

abbrev pub contents : CodedBlock → Coded
contents k = record { planes = k.planes; passes = k.passes; bytes = k.bytes.items; marks = k.marks.items }

-- The encoder has coded the first passes, and so many bytes were placed after each.
pub record HasCodedPasses (s : BlockShape) (planes passes : ℕ) (q : Field ℤ) (encoder : EncoderView)
    (marks : List ℕ) : Type 0 where
  pub codes : Codes encoder s.style.reset (pass_decisions s planes passes q)
  pub marked : marks ≡ marks_upto s planes passes q
