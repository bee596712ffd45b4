-- Words as fields.
use Rattle.std.specs.Prelude.{◌≡◌, ℕ, zero, suc, ◌+◌, ◌*◌, ◌/◌, ◌%◌, ◌<◌, Bool, ◌&&◌, ◌||◌, nat_eq, nat_lt, List}
use Rattle.std.specs.Prelude.{◌≤◌, get_or, length, replicate, if◌then◌else◌}
use Rattle.jk_scan.specs.declared.shape.BlockShape.{BlockShape}
use Rattle.jk_scan.specs.Bits.{on}
use Rattle.jk_scan.specs.Neighbours.{Field, is_inside}
use Rattle.jk_scan.specs.Moments.{stripes}
use Rattle.jk_scan.specs.Flags.{across, word_at, flag_at}

-- the places inside whose bit is set in words
abbrev pub flagged : BlockShape → List ℕ → Field Bool
flagged s words x y = is_inside s x y && flag_at s words x y

-- the places with a magnitude
abbrev pub significant_of : BlockShape → Field ℕ → Field Bool
significant_of s magnitude x y = is_inside s x y && nat_lt 0 (magnitude x y)

-- the place is one of the word j of the stripe i
abbrev pub is_in_word : (j i : ℕ) → Field Bool
is_in_word j i x y = nat_eq (x / 8) j && nat_eq (y / 4) i

-- the bit of a place in its word
abbrev pub own_bit : Field ℕ
own_bit x y = 8 * (x % 8) + (y % 4 + 1)

-- a field with the places of the word j of the stripe i
abbrev pub with_word : Field Bool → (j i word : ℕ) → Field Bool
with_word f j i word x y = f x y || (is_in_word j i x y && on word (own_bit x y))

-- how many words show a block once, with their border
abbrev pub words_of : BlockShape → ℕ
words_of s = (across s + 2) * (stripes s + 2)

-- Words that are enough to show a block, and mark no place.
abbrev pub AreUnmarked : BlockShape → List ℕ → Type 0
AreUnmarked s words = (words_of s ≤ length words) × (words ≡ replicate (length words) 0)

-- Words that are the same where they show a block.
abbrev pub AreSameWords : BlockShape → (a b : List ℕ) → Type 0
AreSameWords s a b = (k : ℕ) → k < words_of s → get_or a k 0 ≡ get_or b k 0

-- The truth value of a place in the words of bit-plane b. The planes stand one behind another.
abbrev pub plane_bit : BlockShape → List ℕ → (b x y : ℕ) → Bool
plane_bit s bits b x y = on (get_or bits (b * words_of s + word_at s (x / 8 + 1) (y / 4 + 1)) 0) (own_bit x y)

-- the number of n bits from bit b on, the lowest first
unfoldable pub number_from : (ℕ → Bool) → (b n : ℕ) → ℕ
number_from bit b zero = 0
number_from bit b (suc n) = (if bit b then 1 else 0) + 2 * number_from bit (b + 1) n

-- the magnitudes of which so many bit-planes are given
abbrev pub magnitude_of : BlockShape → (planes : ℕ) → List ℕ → Field ℕ
magnitude_of s planes bits x y = if is_inside s x y then number_from (λ b. plane_bit s bits b x y) 0 planes else 0
