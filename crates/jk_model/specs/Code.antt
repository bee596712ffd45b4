-- The code value that the bytes of a segment spell (T.800 C.3.4, BYTEIN, and C.3.5, INITDEC), as a
-- sum of the bytes at their places. The bytes are numbered from 0.
use Rattle.std.specs.Prelude.{ℕ, zero, suc, ◌+◌, ◌-◌, ◌*◌, ◌^◌, Bool, false, not, ◌&&◌, ◌||◌, List, get_or, nat_lt}
use Rattle.std.specs.Prelude.{nat_le, ◌==◌, if◌then◌else◌}

-- Byte i of the segment. Past its end stand bytes FF.
abbrev pub byte_at : List ℕ → ℕ → ℕ
byte_at bytes i = get_or bytes i 255

-- Byte i is an FF that a byte above 8F follows: a marker, which ends the data.
unfoldable pub is_last : List ℕ → ℕ → Bool
is_last bytes i = (byte_at bytes i == 255) && nat_lt 143 (byte_at bytes (i + 1))

-- the data have ended before byte i
unfoldable pub is_past : List ℕ → ℕ → Bool
is_past bytes zero = false
is_past bytes (suc i) = is_past bytes i || is_last bytes i

-- Byte i as it is fed. Where the data have ended, ones are fed for ever.
unfoldable pub fed : List ℕ → ℕ → ℕ
fed bytes i = if is_past bytes i then 255 else byte_at bytes i

-- How many places after byte i the next byte begins. After an FF it begins one place early, so that
-- its top bit falls on the last bit of the FF (bit stuffing), unless the data have ended.
unfoldable pub code_places : List ℕ → ℕ → ℕ
code_places bytes i = if (fed bytes i == 255) && not (is_past bytes (suc i)) then 7 else 8

-- the place of byte i's top bit, counted from that of the first byte
unfoldable pub start : List ℕ → ℕ → ℕ
start bytes zero = 0
start bytes (suc i) = start bytes i + code_places bytes i

-- The place just after the byte before byte i. Byte i is wanted once the interval reaches there,
-- the first byte always.
unfoldable pub wanted : List ℕ → ℕ → ℕ
wanted bytes zero = 0
wanted bytes (suc i) = start bytes i + 8

-- what byte i adds to the code value after n doublings, from when on it is wanted
unfoldable pub share : List ℕ → ℕ → ℕ → ℕ
share bytes n i = if nat_le (wanted bytes i) (n + 14) then fed bytes i * 2 ^ (n + 14 - start bytes i) else 0

-- the sum of the shares of the first k bytes
unfoldable pub shares : List ℕ → ℕ → ℕ → ℕ
shares bytes n zero = 0
shares bytes n (suc k) = shares bytes n k + share bytes n k

-- The code value after n doublings of the interval: 128 times what has been fed, in units of the
-- last bit of the interval's low end. Two bytes begin at least seven places apart, so n + 15 bytes
-- are more than are wanted.
unfoldable pub code_value : List ℕ → ℕ → ℕ
code_value bytes n = shares bytes n (n + 15)
