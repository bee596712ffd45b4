-- What the wide registers of the decoder hold of the definition's interval, with bytes that are fed
-- before they are due.
use Rattle.std.specs.Prelude.{◌≡◌, ℕ, suc, ◌+◌, ◌-◌, ◌*◌, ◌^◌, ◌<◌, ◌≤◌, List, length}
use Rattle.jk_model.specs.Code.{wanted, code_value}
use Rattle.jk_model.specs.Decisions.{State}
use Rattle.jk_mqdec.specs.declared.wide.WideRegisters.{WideRegisters}
use Rattle.jk_mqdec.specs.Registers.{IsAt}

-- The interval of s is held, and already the code value after count more doublings, which has no
-- byte to wait for. Both are in units of which one of the interval has 2^48. Whether a later code
-- value lies below a number that was doubled as often is so already of the code value before.
pub record IsHeld (bytes : List ℕ) (code width count place : ℕ) (s : State) : Type 0 where
  pub code_is : (code + 2 ^ 48 * s.low) * 2 ^ count ≡ 2 ^ 41 * code_value bytes (s.doublings + count)
  pub width_is : width ≡ s.width * 2 ^ 48
  pub near : (j x : ℕ) → j ≤ count → code_value bytes (s.doublings + j) < 128 * x
      → code_value bytes (s.doublings + count) < 128 * x * 2 ^ (count - j)
  pub last : ℕ
  pub fed_last : wanted bytes last ≤ s.doublings + count + 14
  pub due_next : wanted bytes (suc last) ≡ s.doublings + count + 15
  pub place_is : IsAt bytes place last

-- The registers hold the interval of s and the code value.
abbrev pub HoldsWide : List ℕ → WideRegisters → State → Type 0
HoldsWide bytes r s = IsHeld bytes r.code r.width r.count r.place s

-- C isn't below A
abbrev pub HasLeftWide : WideRegisters → Type 0
HasLeftWide r = r.width ≤ r.code

-- the bounds of registers between two decisions
pub record IsReadyWide (bytes : List ℕ) (r : WideRegisters) : Type 0 where
  pub code : r.code < r.width
  pub least : 2 ^ 63 ≤ r.width
  pub count : r.count ≤ 48
  pub place : r.place ≤ length bytes

-- The bounds of registers between two decisions, where the code value may have left the interval:
-- then the next decision is sure to wait for a byte.
pub record IsSteadyWide (bytes : List ℕ) (r : WideRegisters) : Type 0 where
  pub least : 2 ^ 63 ≤ r.width
  pub count : r.count ≤ 48
  pub place : r.place ≤ length bytes
  pub waits : HasLeftWide r → (r.count ≡ 0) × (r.width ≡ 2 ^ 63)
