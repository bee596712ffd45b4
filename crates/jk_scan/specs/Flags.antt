-- Truth values of the places of a block in an array of words, with a border of words that show
-- nothing.
use Rattle.std.specs.Prelude.{ℕ, ◌+◌, ◌*◌, ◌/◌, ◌%◌, ◌<◌, ◌≤◌, List, get_or}
use Rattle.jk_scan.specs.declared.shape.BlockShape.{BlockShape}
use Rattle.jk_scan.specs.Moments.{stripes}
use Rattle.jk_scan.specs.Bits.{on}
use Rattle.jk_scan.specs.Words.{Truths, of_rows, bordered, Shows}

-- the sizes of code-blocks
pub record IsSized (s : BlockShape) : Type 0 where
  pub wide : 1 ≤ s.width
  pub narrow : s.width ≤ 1024
  pub high : 1 ≤ s.height
  pub low : s.height ≤ 1024
  pub area : s.width * s.height ≤ 4096

-- how many words a stripe has
abbrev pub across : BlockShape → ℕ
across s = (s.width + 7) / 8

-- the place of the word j of the stripe i in the array, both counted with the border
unfoldable pub word_at : BlockShape → (j i : ℕ) → ℕ
word_at s j i = i * (across s + 2) + j

-- how many words show a block, with their border
abbrev pub words_shown : BlockShape → ℕ
words_shown s = (across s + 2) * (stripes s + 2)

-- The words show a field.
abbrev pub IsDrawn : BlockShape → Truths → List ℕ → Type 0
IsDrawn s f words =
    (j i : ℕ) → j < across s + 2 → i < stripes s + 2 → Shows of_rows (bordered f) j i (get_or words (word_at s j i) 0)

-- the truth value of a place in the words
abbrev pub flag_at : BlockShape → List ℕ → Truths
flag_at s words x y = on (get_or words (word_at s (x / 8 + 1) (y / 4 + 1)) 0) (8 * (x % 8) + (y % 4 + 1))
