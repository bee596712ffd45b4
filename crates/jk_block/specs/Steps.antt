-- The passes of a bit-plane word by word.
use Rattle.std.specs.Prelude.{◌≡◌, ℕ, ◌+◌, ◌*◌, ◌%◌, ◌<◌, true, nat_lt, List, Result, Ok, if◌then◌else◌}
use Rattle.jk_math.specs.declared.fault.Fault.{Fault}
use Rattle.jk_scan.specs.declared.shape.BlockShape.{BlockShape}
use Rattle.jk_scan.specs.Neighbours.{is_inside}
use Rattle.jk_scan.specs.Moments.{stripes, propagation, refinement, cleanup}
use Rattle.jk_scan.specs.Words.{of_rows}
use Rattle.jk_scan.specs.WordPlaces.{column, row}
use Rattle.jk_scan.specs.Flags.{across}
use Rattle.jk_block.specs.declared.word_place.Pass.{Pass}
use Rattle.jk_block.specs.declared.word_place.Pass.TheVariants.{Propagation, Refinement, Cleanup}
use Rattle.jk_block.specs.declared.word_place.WordPlace.{WordPlace}
use Rattle.jk_block.specs.Reading.{Progress, times, column_at}

-- the number of a pass
abbrev pub number_of : Pass → ℕ
number_of Propagation = propagation
number_of Refinement = refinement
number_of Cleanup = cleanup

-- The word lies in the block.
pub record IsWordPlace (s : BlockShape) (at : WordPlace) : Type 0 where
  pub plane : at.plane < 23
  pub word : at.word < across s
  pub stripe : at.stripe < stripes s

-- Bit k of the word is a place of the block.
pub record IsBitPlace (s : BlockShape) (at : WordPlace) (k : ℕ) : Type 0 where
  pub within : k < 64
  pub on_row : of_rows (k % 8) ≡ true
  pub inside : is_inside s (column at.word k) (row at.stripe k) ≡ true

-- column c of a word in a pass, if the block has it
unfoldable pub word_column : List ℕ → BlockShape → (b pass j i c : ℕ) → Progress → Result Progress Fault
word_column bytes s b pass j i c z =
    if nat_lt (8 * j + c) s.width then column_at bytes s b pass (8 * j + c) i z else Ok z

-- a word in a pass
unfoldable pub word_pass : List ℕ → BlockShape → (b pass j i : ℕ) → Progress → Result Progress Fault
word_pass bytes s b pass j i z = times 8 (word_column bytes s b pass j i) z
