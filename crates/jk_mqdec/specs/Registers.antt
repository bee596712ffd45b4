-- What the registers of the decoder hold of the definition's interval.
use Rattle.std.specs.Prelude.{◌≡◌, ℕ, suc, ◌+◌, ◌-◌, ◌*◌, ◌^◌, ◌<◌, ◌≤◌, ◌⊎◌, true, false, List, length}
use Rattle.jk_model.specs.Code.{is_last, is_past, fed, code_places, wanted, code_value}
use Rattle.jk_model.specs.Decisions.{State}
use Rattle.jk_mqdec.specs.declared.registers.Registers.{Registers}

-- Byte last is the one that was fed last, and place is its place in the segment, or that of the FF
-- that ended the data.
pub record IsAt (bytes : List ℕ) (place last : ℕ) : Type 0 where
  pub before_end : is_past bytes place ≡ false
  pub here : (place ≡ last) ⊎ ((place < last) × (is_last bytes place ≡ true))

-- new is old with the byte after byte last fed into it
pub record Feeds (bytes : List ℕ) (old new : Registers) (last : ℕ) : Type 0 where
  pub code : new.code ≡ old.code + fed bytes (suc last) * 2 ^ (16 - code_places bytes last)
  pub width : new.width ≡ old.width
  pub count : new.count ≡ code_places bytes last
  pub place : IsAt bytes new.place (suc last)

-- The registers hold the interval of s, and the code value as it is then. Both are in the units of
-- C, 2^16 for one of the interval.
pub record HoldsInterval (bytes : List ℕ) (r : Registers) (s : State) : Type 0 where
  pub code : r.code + 2 ^ 16 * s.low ≡ 2 ^ 9 * code_value bytes s.doublings
  pub width : r.width ≡ s.width * 2 ^ 16
  pub last : ℕ
  pub fed_last : wanted bytes last ≤ s.doublings + 14
  pub due_next : wanted bytes (suc last) ≡ s.doublings + 15 + r.count
  pub place : IsAt bytes r.place last

-- The registers hold the interval of s, and already the code value after one more doubling, still
-- in the units of s.
pub record Supplied (bytes : List ℕ) (r : Registers) (s : State) : Type 0 where
  pub code : 2 * (r.code + 2 ^ 16 * s.low) ≡ 2 ^ 9 * code_value bytes (s.doublings + 1)
  pub width : r.width ≡ s.width * 2 ^ 16
  pub last : ℕ
  pub fed_last : wanted bytes last ≤ s.doublings + 15
  pub due_next : wanted bytes (suc last) ≡ s.doublings + 15 + r.count
  pub place : IsAt bytes r.place last

-- the code value isn't below the upper end of the interval of s
abbrev pub IsOutside : List ℕ → State → Type 0
IsOutside bytes s = 128 * (s.low + s.width) ≤ code_value bytes s.doublings

-- C isn't below A
abbrev pub HasLeft : Registers → Type 0
HasLeft r = r.width ≤ r.code

-- the bounds of registers that may double
pub record CanDouble (bytes : List ℕ) (r : Registers) : Type 0 where
  pub code : r.code < r.width
  pub count : r.count < 8
  pub place : r.place ≤ length bytes

-- the bounds of registers between two decisions
pub record IsReady (bytes : List ℕ) (r : Registers) : Type 0 where
  pub code : r.code < r.width
  pub least : 2 ^ 31 ≤ r.width
  pub count : r.count < 8
  pub place : r.place ≤ length bytes
