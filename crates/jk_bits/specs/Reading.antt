-- A reader of stuffed bits, from the front of its bytes.
use Rattle.std.specs.Prelude.{◌≡◌, ℕ, ◌+◌, ◌-◌, ◌<◌, ◌≤◌, Bool, false, ◌==◌, if◌then◌else◌, List, [], ◌∷◌, ◌++◌, length}
use Rattle.std.specs.Prelude.{take, drop, Result, Ok, Err, Option, IfSome}
use Rattle.jk_math.specs.Answer.{◌>>=◌}
use Rattle.jk_math.specs.declared.fault.Fault.{Fault}
use Rattle.jk_bits.specs.Stuffing.{binary, spread, edge, size}

-- the bytes, how many bits of them were read, and whether a read has failed
pub record Bits : Type 0 where
  pub bytes : List ℕ
  pub read : ℕ
  pub failed : Bool

-- the bits that were read
abbrev pub given : Bits → List Bool
given s = take s.read (spread false s.bytes)

-- the bits that are left
abbrev pub ahead : Bits → List Bool
ahead s = drop s.read (spread false s.bytes)

-- what ends them
abbrev pub fault_ahead : Bits → Fault
fault_ahead s = edge false s.bytes

-- the first of the bits left, if there is one
abbrev pub first_bit : Bits → List Bool → Result (Bool × Bits) Fault
first_bit s [] = Err (fault_ahead s)
first_bit s (bit ∷ bits) = Ok (bit, record s { read = s.read + 1 })

-- the next bit, or what ends them
unfoldable pub bit_at : Bits → Result (Bool × Bits) Fault
bit_at s = first_bit s (ahead s)

-- how many bytes hold the bits that were read
unfoldable pub finish_at : Bits → Result ℕ Fault
finish_at s = if s.failed then Err (fault_ahead s) else size false s.read s.bytes

-- the place behind the byte in hand, which stands before position, and its stuffed byte
abbrev pub end_from : List ℕ → ℕ → ℕ → Result ℕ Fault
end_from bytes position byte = size (byte == 255) 0 (drop position bytes) >>= (λ n. Ok (position + n))

-- how many bits were read: all but those that the byte in hand and the bytes behind it have left
unfoldable pub read_of : List ℕ → ℕ → ℕ → ℕ → ℕ
read_of bytes position byte left =
    length (spread false bytes) - (left + length (spread (byte == 255) (drop position bytes)))

-- The registers of a reader: byte, the one before position, has left bits to give.
pub record IsReading (bytes : List ℕ) (position byte left : ℕ) (failed : Option Fault) : Type 0 where
  pub below : left < 8
  pub within : position ≤ length bytes
  pub fits : left + length (spread (byte == 255) (drop position bytes)) ≤ length (spread false bytes)
  pub bits_left : drop (read_of bytes position byte left) (spread false bytes)
      ≡ binary left byte ++ spread (byte == 255) (drop position bytes)
  pub ends : edge false bytes ≡ edge (byte == 255) (drop position bytes)
  pub sizes : (more : ℕ)
      → size false (read_of bytes position byte left + more) bytes
      ≡ (size (byte == 255) (more - left) (drop position bytes) >>= (λ n. Ok (position + n)))
  pub stuck : IfSome failed
      (λ e. (left ≡ 0) × (spread (byte == 255) (drop position bytes) ≡ [])
      × (e ≡ edge (byte == 255) (drop position bytes)))
