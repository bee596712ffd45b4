-- What words show of a block at a bit-plane while its decisions are listed.
use Rattle.std.specs.Prelude.{◌≡◌, ◌<◌, ◌≤◌, ℕ, length, ◌+◌, ◌-◌, ◌*◌, ◌/◌, ◌%◌, Bool, true, false, ◌&&◌, nat_eq, nat_lt}
use Rattle.std.specs.Prelude.{nat_le, [], ◌∷◌, ℤ, if◌then◌else◌}
use Rattle.jk_scan.specs.declared.shape.BlockShape.{BlockShape}
use Rattle.jk_scan.specs.Contexts.{run_length, uniform}
use Rattle.jk_scan.specs.Neighbours.{Field, is_inside, seen_from, zero_in}
use Rattle.jk_scan.specs.Moments.{number, visits, spread, significant}
use Rattle.jk_scan.specs.Passes.{BlockAtPlane, Decided, is_one, joined, sign_decision, column_decisions}
use Rattle.jk_scan.specs.Bits.{on}
use Rattle.jk_scan.specs.Words.{of_rows}
use Rattle.jk_scan.specs.WordPlaces.{column, row}
use Rattle.jk_scan.specs.Flags.{IsDrawn}
use Rattle.jk_mqenc.specs.Encoded.{decision_of}
use Rattle.jk_block.specs.Meaning.{plane_at, value_in}
use Rattle.jk_block.specs.Fields.{words_of}
use Rattle.jk_block.specs.encoding.Slices.{negative_of}
use Rattle.jk_block.specs.declared.encoding.plane.BlockPlane.{BlockPlane}
use Rattle.jk_block.specs.declared.encoding.flags.Flags.{Flags}

-- the block at the bit-plane
abbrev pub seen : BlockPlane → BlockAtPlane
seen v = plane_at v.shape v.plane (value_in v.shape v.values.now)

-- The word shows which of its places have the bit 1.
abbrev pub ShowsOnes : BlockPlane → (j i word : ℕ) → Type 0
ShowsOnes v j i word =
    (m : ℕ) → m < 64 → on word m ≡ (of_rows (m % 8) && is_one ((seen v).magnitude (column j m) (row i m)))

-- significant at a moment
abbrev pub significant_at : BlockPlane → ℕ → Field Bool
significant_at v t = significant v.shape (seen v).magnitude t

-- the same, as a stripe sees it
abbrev pub seen_at : BlockPlane → (t stripe : ℕ) → Field Bool
seen_at v t stripe = seen_from v.shape stripe (significant_at v t)

-- the negative places
abbrev pub negative_in : BlockPlane → Field Bool
negative_in v = negative_of v.shape (value_in v.shape v.values.now)

-- coded by the significance propagation pass before a moment
abbrev pub spread_at : BlockPlane → ℕ → Field Bool
spread_at v t x y =
    is_inside v.shape x y && (spread v.shape (seen v).magnitude x y && nat_lt (number v.shape.width x y) t)

-- The words are as many as show the block, or more.
pub record HasFlagRoom (s : BlockShape) (flags : Flags) : Type 0 where
  pub significant : words_of s ≤ length flags.significant.now
  pub visited : words_of s ≤ length flags.visited.now

-- The words show what is so at a moment.
pub record IsFlagged (v : BlockPlane) (t : ℕ) (flags : Flags) : Type 0 where
  pub known_significant : IsDrawn v.shape (significant_at v t) flags.significant.now
  pub coded : IsDrawn v.shape (spread_at v t) flags.visited.now
  pub room : HasFlagRoom v.shape flags

-- Between planes the words show what has a bit in plane b or above it.
pub record IsSignificantUpto (s : BlockShape) (b : ℕ) (q : Field ℤ) (flags : Flags) : Type 0 where
  pub known_significant : IsDrawn s (λ x y. nat_lt 0 ((plane_at s b q).magnitude x y)) flags.significant.now
  pub room : HasFlagRoom s flags

-- The byte spells the decision of the bit of a place that isn't significant at a moment, or that
-- of its sign.
abbrev pub SpellsBit : BlockPlane → (t x y byte : ℕ) → Type 0
SpellsBit v t x y byte =
    decision_of byte ≡ (zero_in v.shape (significant_at v t) x y, is_one ((seen v).magnitude x y))

abbrev pub SpellsSign : BlockPlane → (t x y byte : ℕ) → Type 0
SpellsSign v t x y byte = decision_of byte ≡ sign_decision v.shape (seen v) t x y

-- How many places of a pass come before row r of column c, where r counts from 1 and some places
-- come before the stripe.
unfoldable pub number_by : (w before c r : ℕ) → ℕ
number_by w before c r = if nat_lt c w then 4 * (before + c) + (if nat_lt r 5 then r - 1 else 4) else 4 * (before + w)

-- The moment at which a pass comes to bit k of the word j of the stripe i. Only bits of places take
-- time.
unfoldable pub moment_at : BlockShape → (pass j i k : ℕ) → ℕ
moment_at s pass j i k = pass * visits s + number_by s.width (s.width * i) (8 * j + k / 8) (k % 8)

-- column c of a word in a pass, if the block has it
unfoldable pub column_if : BlockShape → BlockAtPlane → (pass j i c : ℕ) → Decided
column_if s p pass j i c = if nat_lt (8 * j + c) s.width then column_decisions s p pass (8 * j + c) i else []

-- a word in a pass
unfoldable pub word_decisions : BlockShape → BlockAtPlane → (pass j i : ℕ) → Decided
word_decisions s p pass j i = joined 8 (column_if s p pass j i)

-- What a column in run mode decides up to its first row f with the bit 1, at the moment of that
-- row.
unfoldable pub run_head : BlockShape → BlockAtPlane → (t x i f : ℕ) → Decided
run_head s p t x i f =
    if nat_eq f 4 then (run_length, false) ∷ []
    else (run_length, true) ∷ (uniform, nat_le 2 f) ∷ (uniform, is_one f) ∷ sign_decision s p t x (4 * i + f) ∷ []
