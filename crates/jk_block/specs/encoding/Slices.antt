-- Slices: one byte of each of eight magnitudes in one number.
use Rattle.std.specs.Prelude.{◌≡◌, ℕ, ℤ, ◌+◌, ◌*◌, ◌/◌, ◌%◌, ◌^◌, ◌<◌, ◌≤◌, Bool, true, false}
use Rattle.std.specs.Prelude.{if◌then◌else◌, ◌&&◌, nat_lt, List}
use Rattle.std.specs.Prelude.{get_or, unsigned_abs}
use Rattle.std.specs.Int.{is_negative}
use Rattle.std.specs.Int.RustNames.{bit_or}
use Rattle.jk_scan.specs.declared.shape.BlockShape.{BlockShape}
use Rattle.jk_scan.specs.Bits.{on}
use Rattle.jk_scan.specs.Neighbours.{Field, is_inside}
use Rattle.jk_scan.specs.Moments.{stripes}
use Rattle.jk_scan.specs.Words.{of_rows}
use Rattle.jk_scan.specs.WordPlaces.{column, row}
use Rattle.jk_scan.specs.Flags.{across}

-- a magnitude, with its sign in bit 31
abbrev pub signed : ℤ → ℕ
signed v = bit_or (unsigned_abs v) ((if is_negative v then 1 else 0) * 2 ^ 31 % 2 ^ 32)

-- bit b of a place inside
abbrev pub bit_in : BlockShape → (b : ℕ) → Field ℤ → Field Bool
bit_in s b q x y = is_inside s x y && on (signed (q x y)) b

-- the negative places
abbrev pub negative_of : BlockShape → Field ℤ → Field Bool
negative_of s q x y = is_inside s x y && is_negative (q x y)

-- those in the first n words, stripe by stripe
abbrev pub negative_to : BlockShape → Field ℤ → (n : ℕ) → Field Bool
negative_to s q n x y = negative_of s q x y && nat_lt (y / 4 * across s + x / 8) n

-- No magnitude inside has bit 31.
abbrev pub IsShort : BlockShape → Field ℤ → Type 0
IsShort s q = (x y : ℕ) → is_inside s x y ≡ true → unsigned_abs (q x y) < 2 ^ 31

-- how many slices a block has, with the rows behind its last one up to a whole stripe
abbrev pub slices_of : BlockShape → ℕ
slices_of s = 4 * stripes s * across s

-- Bit i of byte c of the slice j of row y is bit shift + i of the magnitude in column 8j + c. The
-- slices of a row stand one behind another, and those of a row before those of the next one. The
-- rows go on to the end of the last stripe, there with zeros.
abbrev pub IsSliced : BlockShape → (shift : ℕ) → Field ℤ → List ℕ → Type 0
IsSliced s shift q slices =
    (j y c i : ℕ) → j < across s → y < 4 * stripes s → c < 8 → i < 8
    → on (get_or slices (y * across s + j) 0) (8 * c + i) ≡ bit_in s (shift + i) q (8 * j + c) y

-- The slices of rows behind the last one are zero.
abbrev pub IsClearBehind : BlockShape → List ℕ → Type 0
IsClearBehind s slices =
    (j y c i : ℕ) → j < across s → y < 4 * stripes s → c < 8 → i < 8 → s.height ≤ y
    → on (get_or slices (y * across s + j) 0) (8 * c + i) ≡ false

-- The first n slices are so, and those of rows behind the last one.
pub record IsSlicedTo (s : BlockShape) (shift : ℕ) (q : Field ℤ) (n : ℕ) (slices : List ℕ) : Type 0 where
  pub first : (j y c i : ℕ) → j < across s → y < 4 * stripes s → c < 8 → i < 8 → y * across s + j < n
      → on (get_or slices (y * across s + j) 0) (8 * c + i) ≡ bit_in s (shift + i) q (8 * j + c) y
  pub behind : IsClearBehind s slices

-- The word shows which of its places have a 1 in bit b.
abbrev pub IsPlaneWord : BlockShape → (b : ℕ) → Field ℤ → (j i word : ℕ) → Type 0
IsPlaneWord s b q j i word = (m : ℕ) → m < 64 → on word m ≡ (of_rows (m % 8) && bit_in s b q (column j m) (row i m))
