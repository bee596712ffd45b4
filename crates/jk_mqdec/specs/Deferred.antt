-- Registers of the decoder whose doublings are put off until a byte is due.
use Rattle.std.specs.Prelude.{◌≡◌, ℕ, ◌-◌, ◌*◌, ◌^◌, ◌≤◌, List, length}
use Rattle.std.specs.Int.{w64, leading_zeros}
use Rattle.jk_mqdec.specs.declared.wide.WideRegisters.{WideRegisters}
use Rattle.jk_mqdec.specs.declared.deferred.DeferredRegisters.{DeferredRegisters}
use Rattle.jk_mqdec.specs.Wide.{HasLeftWide}

-- the registers after so many doublings that need no byte
abbrev pub doubled_wide : ℕ → WideRegisters → WideRegisters
doubled_wide n r = record { code = r.code * 2 ^ n; width = r.width * 2 ^ n; count = r.count - n; place = r.place }

-- the doublings that are put off: those that bring the width to half its range
abbrev pub put_off : WideRegisters → ℕ
put_off r = leading_zeros w64 r.width

-- the registers after these
abbrev pub caught_up : WideRegisters → WideRegisters
caught_up r = doubled_wide (put_off r) r

-- the bounds of registers of which no byte is due: no more doublings are put off than need none
pub record IsDeferred (bytes : List ℕ) (r : DeferredRegisters) : Type 0 where
  pub least : r.least * 2 ^ r.registers.count ≡ 2 ^ 63
  pub enough : r.least ≤ r.registers.width
  pub count : r.registers.count ≤ 48
  pub place : r.registers.place ≤ length bytes

-- The same between two decisions, where the code value may have left the interval: then the next
-- decision is sure to wait for a byte.
pub record IsSteadyDeferred (bytes : List ℕ) (r : DeferredRegisters) : Type 0 where
  pub bounds : IsDeferred bytes r
  pub waits : HasLeftWide r.registers → r.registers.width ≤ r.least
