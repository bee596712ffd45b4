-- The encoder's procedures as pure functions.
use Rattle.std.specs.Prelude.{ℕ, zero, suc, ◌+◌, ◌-◌, ◌*◌, ◌^◌, ◌/◌, Bool, nat_lt, nat_le, ◌==◌, if◌then◌else◌}
use Rattle.jk_mqenc.specs.Machine.{Machine, byte_out}

-- a doubling, before a byte is placed
abbrev pub shifted : Machine → Machine
shifted m = record m { code = 2 * m.code; width = 2 * m.width; count = m.count - 1 }

-- a doubling
unfoldable pub twice : Machine → Machine
twice m = if m.count == 1 then byte_out (shifted m) else shifted m

-- RENORME
unfoldable pub renorme : ℕ → Machine → Machine
renorme zero m = m
renorme (suc k) m = if nat_lt m.width (2 ^ 15) then renorme k (twice m) else m

-- the lower or the upper subinterval
unfoldable pub subinterval : Machine → ℕ → Bool → Machine
subinterval m q lower = if lower then record m { width = q } else record m { code = m.code + q; width = m.width - q }

-- SETBITS
unfoldable pub set_bits : ℕ → ℕ → ℕ
set_bits code width =
    let s = code / 2 ^ 16 * 2 ^ 16 + 65535 in
    if nat_le (code + width) s then s - 2 ^ 15 else s

-- k shifts
abbrev pub shifted_by : ℕ → Machine → Machine
shifted_by zero m = m
shifted_by (suc k) m = shifted_by k (shifted m)

-- C <<= CT, BYTEOUT
unfoldable pub pushed_out : Machine → Machine
pushed_out m = byte_out (shifted_by m.count (record m { width = 1 }))

-- FLUSH
unfoldable pub flushed : Machine → Machine
flushed m = pushed_out (pushed_out (record m { code = set_bits m.code m.width }))
