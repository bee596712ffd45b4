-- What words of 32 places show: eight columns of a stripe's four rows. Bit 8c + 1 + r of the word
-- (j, s) is the place in column 8j + c and row 4s + r; the other bits of a byte are not set.
use Rattle.std.specs.Prelude.{◌≡◌, ℕ, ◌+◌, ◌-◌, ◌*◌, ◌<◌, ◌≤◌, Bool, true, false, not, ◌&&◌, ◌||◌, nat_lt, nat_le}
use Rattle.jk_scan.specs.Neighbours.{Field}
use Rattle.jk_scan.specs.Bits.{on}

-- a truth value for each place: column, then row
abbrev pub Truths : Type 0
Truths = Field Bool

-- the bits of a byte that are rows of the stripe
abbrev pub of_rows : ℕ → Bool
of_rows i = nat_le 1 i && nat_lt i 5

-- the bits of a byte that are rows of the stripe, or next to it
abbrev pub of_gathered : ℕ → Bool
of_gathered i = nat_lt i 6

-- Bit i of byte c of the word at (j, s) is the field's value in column 8j + c, row 4s + i - 1, at
-- these bits i; other bits are not set.
abbrev pub Shows : (ℕ → Bool) → Truths → (j s : ℕ) → ℕ → Type 0
Shows rows f j s word = (c i : ℕ) → c < 8 → i < 8 → on word (8 * c + i) ≡ (rows i && f (8 * j + c) (4 * s + i - 1))

-- The same, of these bits alone.
abbrev pub ShowsAt : (ℕ → Bool) → Truths → (j s : ℕ) → ℕ → Type 0
ShowsAt rows f j s word =
    (c i : ℕ) → c < 8 → i < 8 → rows i ≡ true → on word (8 * c + i) ≡ f (8 * j + c) (4 * s + i - 1)

-- Bit i of each byte of a word j is what h has in its column.
abbrev pub IsLine : (ℕ → Bool) → (i j : ℕ) → ℕ → Type 0
IsLine h i j word = (c : ℕ) → c < 8 → on word (8 * c + i) ≡ h (8 * j + c)

-- Fields begin with eight columns and four rows of border, so that each place that is asked for has
-- neighbours on all sides.

-- at a place, or above or below it
abbrev pub up_down : Truths → Truths
up_down f c r = (f c r || f c (r - 1)) || f c (r + 1)

-- at a place, or next to it in its row
abbrev pub aside : Truths → Truths
aside f c r = (f c r || f (c - 1) r) || f (c + 1) r

-- above or below a place
abbrev pub upright : Truths → Truths
upright f c r = f c (r - 1) || f c (r + 1)

-- at one of the eight neighbours
abbrev pub near : Truths → Truths
near f c r = upright f c r || (up_down f (c - 1) r || up_down f (c + 1) r)

-- inside, not significant, and next to a significant place
abbrev pub is_member : (inside significant : Truths) → Truths
is_member inside f c r = inside c r && (not (f c r) && aside (up_down f) c r)

-- a field with its border
abbrev pub bordered : Truths → Truths
bordered f c r = nat_le 8 c && (nat_le 4 r && f (c - 8) (r - 4))

-- one of the six bits of a byte
abbrev pub any_of_six : (word c : ℕ) → Bool
any_of_six word c =
    on word (8 * c + 0) || (on word (8 * c + 1)
    || (on word (8 * c + 2) || (on word (8 * c + 3) || (on word (8 * c + 4) || on word (8 * c + 5)))))

-- no byte has more than six bits
abbrev pub IsNarrow : ℕ → Type 0
IsNarrow word = (c i : ℕ) → c < 8 → 6 ≤ i → i < 8 → on word (8 * c + i) ≡ false

-- Three columns of three places each, around the place in column c and row r, stand in the bits
-- 8a + t.
abbrev pub IsNeighbourhood : Truths → (c r : ℕ) → ℕ → Type 0
IsNeighbourhood f c r neighbourhood =
    (a t : ℕ) → a < 3 → t < 3 → on neighbourhood (8 * a + t) ≡ f (c + a - 1) (r + t - 1)

-- Three places of column c, from the row above row r on, stand in the bits from 0 on.
abbrev pub IsColumn : Truths → (c r : ℕ) → ℕ → Type 0
IsColumn f c r word = (t : ℕ) → t < 3 → on word t ≡ f c (r + t - 1)

-- one of the six rows of a column, from the row above a stripe to the row below it
abbrev pub in_six : Truths → (c s : ℕ) → Bool
in_six f c s =
    f c (4 * s + 0 - 1) || (f c (4 * s + 1 - 1)
    || (f c (4 * s + 2 - 1) || (f c (4 * s + 3 - 1) || (f c (4 * s + 4 - 1) || f c (4 * s + 5 - 1)))))

-- Bit 1 of each byte from a column on says that the column is within limits, and that nothing is
-- significant in the three by six places around.
abbrev pub IsQuietFrom : (limits : ℕ → Bool) → Truths → (j s from quiet : ℕ) → Type 0
IsQuietFrom limits f j s from quiet =
    (c : ℕ) → from ≤ c → c < 8 → on quiet (8 * c + 1) ≡ (limits c && not (in_six (aside f) (8 * j + c) s))
