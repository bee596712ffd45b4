-- A number for each place of a word, in words of its binary digits, and in bytes of lines.
use Rattle.std.specs.Prelude.{◌≡◌, ℕ, ◌+◌, ◌-◌, ◌*◌, ◌/◌, ◌%◌, ◌^◌, Bool, not, ◌&&◌, if◌then◌else◌}
use Rattle.std.specs.Prelude.{List, get_or}
use Rattle.jk_scan.specs.declared.contexts.SignContext.{SignContext}
use Rattle.jk_scan.specs.declared.digits.Digits.{Digits}
use Rattle.jk_scan.specs.declared.nearby.Nearby.{Nearby}
use Rattle.jk_scan.specs.Bits.{on}
use Rattle.jk_scan.specs.Neighbours.{west, east, north, south}
use Rattle.jk_scan.specs.Passes.{flipped}
use Rattle.jk_scan.specs.Words.{Truths}

-- the number with these digits, the lowest first
unfoldable pub of_digits : (a b c d : Bool) → ℕ
of_digits a b c d =
    (if a then 1 else 0) + (if b then 2 else 0) + ((if c then 4 else 0) + (if d then 8 else 0))

-- the number of the place at bit k
abbrev pub number_at : Digits → (k : ℕ) → ℕ
number_at d k = of_digits (on d.ones k) (on d.twos k) (on d.fours k) (on d.eights k)

-- byte c of a word
abbrev pub byte_of : (word c : ℕ) → ℕ
byte_of word c = word / 2 ^ (8 * c) % 2 ^ 8

-- the byte of the place at bit k, where the four rows of a word have eight bytes each
abbrev pub byte_at : List ℕ → (k : ℕ) → ℕ
byte_at rows k = byte_of (get_or rows (k % 8 - 1) 0) (k / 8)

-- the decision of a sign in one byte
abbrev pub sign_byte : SignContext → (negative : Bool) → ℕ
sign_byte c negative = 2 * c.context + (if flipped c.flip negative then 1 else 0)

-- significant at bit k and positive, or negative
abbrev pub plus : (places signs k : ℕ) → Bool
plus places signs k = on places k && not (on signs k)

abbrev pub minus : (places signs k : ℕ) → Bool
minus places signs k = on places k && on signs k

-- Bit k of each word is the place next to (x, y) on this side.
pub record IsNear (f : Truths) (x y : ℕ) (near : Nearby) (k : ℕ) : Type 0 where
  pub is_west : on near.west k ≡ west f x y
  pub is_east : on near.east k ≡ east f x y
  pub is_north : on near.north k ≡ north f x y
  pub is_south : on near.south k ≡ south f x y
  pub is_north_west : on near.north_west k ≡ west (north f) x y
  pub is_north_east : on near.north_east k ≡ east (north f) x y
  pub is_south_west : on near.south_west k ≡ west (south f) x y
  pub is_south_east : on near.south_east k ≡ east (south f) x y
