-- The registers of the encoder as pure functions (T.800 C.2), and what they hold of the interval.
use Rattle.std.specs.Prelude.{◌≡◌, ℕ, suc, ◌+◌, ◌-◌, ◌*◌, ◌^◌, ◌/◌, ◌%◌, ◌<◌, ◌≤◌, List, [], ◌∷◌, nat_lt, ◌==◌}
use Rattle.std.specs.Prelude.{if◌then◌else◌}
use Rattle.jk_model.specs.Decisions.{State}
use Rattle.jk_model.specs.Placed.{gap, top, placed_number, end, Clean}

-- C, A, CT, and the bytes placed, the held one first
pub record Machine : Type 0 where
  pub code : ℕ
  pub width : ℕ
  pub count : ℕ
  pub placed : List ℕ

-- the weight of the last placed bit in units of the low end
unfoldable pub unit : ℕ → ℕ
unit count = 2 ^ (27 - count)

-- a byte is placed after these, from the code d
abbrev pub with_byte : List ℕ → ℕ → ℕ → Machine
with_byte bs d width = record {
  code = d % unit (gap bs);
  width = width;
  count = gap bs;
  placed = (d / unit (gap bs)) ∷ bs;
}

-- BYTEOUT
abbrev pub placed_after : List ℕ → ℕ → ℕ → Machine
placed_after [] d width = with_byte [] d width
placed_after (b ∷ o) d width =
    if b == 255
    then with_byte (b ∷ o) d width
    else if nat_lt d (2 ^ 27) then with_byte (b ∷ o) d width else with_byte (suc b ∷ o) (d - 2 ^ 27) width

unfoldable pub byte_out : Machine → Machine
byte_out m = placed_after m.placed m.code m.width

-- what stands above: the first byte has no place for a carry, and a byte after FF stays below 90
abbrev pub HasRoom : List ℕ → ℕ → ℕ → Type 0
HasRoom [] u x = x ≤ u
HasRoom (b ∷ o) u x = top o ≡ 143 → b * u + x ≤ 144 * u

pub record HoldsInterval (m : Machine) (s : State) : Type 0 where
  pub low : s.low ≡ m.code + placed_number m.placed * unit m.count
  pub clock : s.doublings + m.count ≡ 12 + end m.placed
  pub count : m.count ≤ 12
  pub width : m.width ≡ s.width
  pub positive : 1 ≤ m.width
  pub largest : m.width < 2 ^ 16
  pub room : 8 * (m.code + m.width) ≤ 9 * unit m.count
  pub above : HasRoom m.placed (unit m.count) (m.code + m.width)
  pub clean : Clean m.placed
