-- The bits that bytes hold, and the bytes of a list of bits: bit stuffing (T.800 B.10.1).
use Rattle.std.specs.Prelude.{◌≡◌, ℕ, zero, suc, ◌+◌, ◌-◌, ◌/◌, ◌%◌, ◌^◌, ◌<◌, Bool, true, false, ◌&&◌, ◌==◌, nat_le}
use Rattle.std.specs.Prelude.{if◌then◌else◌, List, [], ◌∷◌, ◌++◌, length, take, drop, Result, Ok, Err}
use Rattle.jk_math.specs.Answer.{◌>>=◌}
use Rattle.jk_math.specs.declared.fault.Fault.{Fault}
use Rattle.jk_math.specs.declared.fault.Fault.TheVariants.{Truncated, PacketHeader}

-- How many bits a byte carries; after: the byte before it is FF, and its highest bit is the stuffed
-- 0.
abbrev pub room : Bool → ℕ
room after = if after then 7 else 8

-- the byte's stuffed bit is there, and 1
abbrev pub stuffed_one : Bool → ℕ → Bool
stuffed_one after b = after && nat_le 128 b

-- the low n bits of x, the highest first
unfoldable pub binary : ℕ → ℕ → List Bool
binary zero x = []
binary (suc n) x = (x / 2 ^ n % 2 == 1) ∷ binary n x

-- the number that the first n bits make, the highest first, with 0 for each bit that isn't there
unfoldable pub number : ℕ → List Bool → ℕ
number zero bits = 0
number (suc n) [] = 0
number (suc n) (bit ∷ bits) = (if bit then 2 ^ n else 0) + number n bits

-- The first byte, or why there is none: the bytes end, or its stuffed bit is 1.
unfoldable pub first_byte : Bool → List ℕ → Result ℕ Fault
first_byte after [] = Err Truncated
first_byte after (b ∷ bytes) = if stuffed_one after b then Err PacketHeader else Ok b

-- All bits that the bytes hold, up to their end or to a stuffed bit that is 1.
unfoldable pub spread : Bool → List ℕ → List Bool
spread after [] = []
spread after (b ∷ bytes) = if stuffed_one after b then [] else binary (room after) b ++ spread (b == 255) bytes

-- What ends those bits.
unfoldable pub edge : Bool → List ℕ → Fault
edge after [] = Truncated
edge after (b ∷ bytes) = if stuffed_one after b then PacketHeader else edge (b == 255) bytes

-- The bytes are a text of the bits. What is left of the last byte is free; where it is FF, one more
-- byte follows, with the stuffed 0.
unfoldable pub Packs : Bool → List Bool → List ℕ → Type 0
Packs after bits [] = (bits ≡ []) × (after ≡ false)
Packs after [] (b ∷ bytes) = (after ≡ true) × (b < 128) × (bytes ≡ [])
Packs after (bit ∷ bits) (b ∷ bytes) =
    (stuffed_one after b ≡ false)
    × (take (length (bit ∷ bits)) (binary (room after) b) ≡ take (room after) (bit ∷ bits))
    × Packs (b == 255) (drop (room after) (bit ∷ bits)) bytes

-- How many bytes the text of the first n bits takes, or why it doesn't end.
unfoldable pub size : Bool → ℕ → List ℕ → Result ℕ Fault
size after zero bytes = if after then first_byte true bytes >>= (λ _. Ok 1) else Ok 0
size after (suc n) [] = Err Truncated
size after (suc n) (b ∷ bytes) = first_byte after (b ∷ bytes)
    >>= (λ _. size (b == 255) (suc n - room after) bytes >>= (λ m. Ok (suc m)))

-- The text of the bits whose padding is 0, in at most so many bytes.
unfoldable pub stuffing : ℕ → Bool → List Bool → List ℕ
stuffing zero after bits = []
stuffing (suc most) after [] = if after then 0 ∷ [] else []
stuffing (suc most) after (bit ∷ bits) =
    number (room after) (bit ∷ bits)
    ∷ stuffing most (number (room after) (bit ∷ bits) == 255) (drop (room after) (bit ∷ bits))

-- The text that is written.
unfoldable pub stuffed : List Bool → List ℕ
stuffed bits = stuffing (length bits + 1) false bits
