-- What is told of two columns in refinement: one byte of each member. Bits 0 to 3 of the index are
-- the members of the first column, bits 4 to 7 those of the second.
use Rattle.std.specs.Prelude.{◌≡◌, ℕ, ◌+◌, ◌*◌, ◌/◌, ◌%◌, ◌<◌, List, [], ◌∷◌, length, map, get_or, if◌then◌else◌}
use Rattle.std.specs.List.{range_with_len}
use Rattle.jk_scan.specs.Bits.{on}
use Rattle.jk_scan.specs.WordNumbers.{byte_of, byte_at}
use Rattle.jk_columns.specs.Columns.{chained, padded}

unfoldable pub pair_place : (index k : ℕ) → List ℕ
pair_place index k = if on index k then k ∷ [] else []

-- the places of the members
unfoldable pub pair_places : (index : ℕ) → List ℕ
pair_places index = chained 8 (pair_place index)

unfoldable pub pair_shuffle_of : (index : ℕ) → List ℕ
pair_shuffle_of index = padded (pair_places index)

unfoldable pub pair_count_of : (index : ℕ) → ℕ
pair_count_of index = length (pair_places index)

unfoldable pub pair_shuffles : List (List ℕ)
pair_shuffles = map pair_shuffle_of (range_with_len 0 256)

-- what is told of two columns with these bytes
abbrev pub pair_bytes : (bytes : List ℕ) → (index : ℕ) → List ℕ
pair_bytes bytes index = map (λ k. get_or bytes k 0) (pair_places index)

-- The bytes of four rows, two columns in each number: the rows of one behind those of the other.
abbrev pub HasPairs : (rows pairs : List ℕ) → Type 0
HasPairs rows pairs =
    (p k : ℕ) → p < 4 → k < 8 → byte_of (get_or pairs p 0) k ≡ byte_of (get_or rows (k % 4) 0) (2 * p + k / 4)

-- the index of two columns of a word
pub record IsPairIndex (members p index : ℕ) : Type 0 where
  pub small : index < 256
  pub members_are : (k : ℕ) → k < 8 → on index k ≡ on members (8 * (2 * p + k / 4) + (k % 4 + 1))

-- The bytes of the members of column c, row by row.
unfoldable pub member_bytes : (rows : List ℕ) → (members c : ℕ) → List ℕ
member_bytes rows members c =
    chained 4 (λ r. if on members (8 * c + (r + 1)) then byte_at rows (8 * c + (r + 1)) ∷ [] else [])
