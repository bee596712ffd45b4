-- Registers of the encoder whose doublings are put off until a byte is due.
use Rattle.std.specs.Prelude.{◌≡◌, ℕ, ◌+◌, ◌-◌, ◌*◌, ◌/◌, ◌^◌, ◌<◌, ◌≤◌}
use Rattle.std.specs.Int.{w64, leading_zeros}
use Rattle.jk_mqenc.specs.declared.registers.Registers.{Registers}

-- The registers C, A and CT of which the first two are scaled by 2^scale: 36 - scale doublings are
-- put off.
abbrev pub registers_at : ℕ → ℕ → ℕ → ℕ → Registers
registers_at scale code width count =
    record { code = code / 2 ^ scale; width = width / 2 ^ scale; count = count + scale - 36 }

-- the scale at which a width is one of 2^15 to 2^16
abbrev pub scale_of : ℕ → ℕ
scale_of width = 48 - leading_zeros w64 width

-- Nothing of C and A lies below the scale, and fewer doublings are put off than there are before
-- the next byte, which is due of a width below least.
pub record IsScaled (scale code width count least : ℕ) : Type 0 where
  pub code_whole : code ≡ code / 2 ^ scale * 2 ^ scale
  pub width_whole : width ≡ width / 2 ^ scale * 2 ^ scale
  pub least_is : least * 2 ^ count ≡ 2 ^ 52
  pub some : 1 ≤ count
  pub few : count ≤ 12
  pub largest : scale ≤ 36
  pub before : 36 < count + scale

-- registers between two decisions: no byte is due
pub record IsDeferred (code width count least : ℕ) : Type 0 where
  pub scaled : IsScaled (scale_of width) code width count least
  pub enough : least ≤ width
  pub fits : width < 2 ^ 52

-- the registers of a subinterval, at the scale of the whole
pub record IsTaken (scale code width count least : ℕ) : Type 0 where
  pub scaled : IsScaled scale code width count least
  pub some : 1 ≤ width / 2 ^ scale
  pub fits : width / 2 ^ scale < 2 ^ 16

-- the registers after so many doublings, fewer than CT
pub record IsDoubled (old new : Registers) : Type 0 where
  pub times : ℕ
  pub before : times < old.count
  pub fits : old.width * 2 ^ times < 2 ^ 16
  pub wide : 2 ^ 15 ≤ old.width * 2 ^ times
  pub code : new.code ≡ old.code * 2 ^ times
  pub width : new.width ≡ old.width * 2 ^ times
  pub count : new.count + times ≡ old.count
