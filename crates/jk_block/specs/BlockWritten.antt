-- What is written of a block: all its coding passes, by the MQ encoder (T.800 Annexes C and D).
use Rattle.std.specs.Prelude.{ℕ, ◌+◌, ◌-◌, ◌*◌, List, [], ◌∷◌, ◌==◌, if◌then◌else◌, map, max, ℤ, unsigned_abs}
use Rattle.std.specs.List.{range_with_len}
use Rattle.jk_math.specs.BitLength.{bit_length}
use Rattle.jk_mqenc.specs.Encoded.{written_by, finished}
use Rattle.jk_scan.specs.declared.shape.BlockShape.{BlockShape}
use Rattle.jk_scan.specs.Neighbours.{Field}
use Rattle.jk_block.specs.Meaning.{pass_decisions, value_in}

-- the greatest magnitude
abbrev pub greatest : List ℤ → ℕ
greatest [] = 0
greatest (v ∷ vs) = max (unsigned_abs v) (greatest vs)

-- The passes of a block of so many bit-planes: the highest plane has a cleanup pass alone, each
-- lower one has three (D.3).
abbrev pub pass_count : ℕ → ℕ
pass_count planes = 3 * planes - 2

-- how many bytes are placed after each pass
unfoldable pub marks_upto : BlockShape → (planes passes : ℕ) → Field ℤ → List ℕ
marks_upto s planes passes q =
    map (λ n. written_by s.style.reset (pass_decisions s planes (n + 1) q)) (range_with_len 0 passes)

-- The bytes of the first passes. Without a pass there are none.
unfoldable pub bytes_of : BlockShape → (planes passes : ℕ) → Field ℤ → List ℕ
bytes_of s planes passes q = if passes == 0 then [] else finished s.style.reset (pass_decisions s planes passes q)

-- a block as it is written
pub record Coded : Type 0 where
  pub planes : ℕ
  pub passes : ℕ
  pub bytes : List ℕ
  pub marks : List ℕ

-- a block with these coefficients, row by row, as it is written: all passes of the planes that its
-- greatest magnitude has
unfoldable pub coded : BlockShape → List ℤ → Coded
coded s values =
    let planes = bit_length (greatest values) in
    let q = value_in s values in
    record {
      planes = planes;
      passes = pass_count planes;
      bytes = bytes_of s planes (pass_count planes) q;
      marks = marks_upto s planes (pass_count planes) q;
    }
