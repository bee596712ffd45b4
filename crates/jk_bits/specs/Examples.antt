-- Bit stuffing at a few texts (T.800 B.10.1): behind FF a byte carries seven bits.
use Rattle.std.specs.Prelude.{◌≡◌, true, false, [], ◌∷◌, ◌++◌, Ok, Err, refl, replicate}
use Rattle.jk_math.specs.declared.fault.Fault.TheVariants.{Truncated, PacketHeader}
use Rattle.jk_bits.specs.Stuffing.{binary, number, first_byte, spread, edge, size, stuffing, stuffed}

-- C0 21: sixteen bits
row_two_bytes : spread false (0xC0 ∷ 0x21 ∷ [])
    ≡ true ∷ true ∷ (replicate 8 false ++ (true ∷ false ∷ false ∷ false ∷ false ∷ true ∷ []))
unfolding spread binary
row_two_bytes = refl

-- FF 40: eight bits, and seven of which the first is 1
row_stuffed : spread false (0xFF ∷ 0x40 ∷ []) ≡ replicate 9 true ++ replicate 6 false
unfolding spread binary
row_stuffed = refl

-- nine bits that are 1: FF, and a byte with the stuffed 0 before the last of them
row_nine : stuffed (replicate 9 true) ≡ 0xFF ∷ 0x40 ∷ []
unfolding stuffed stuffing number
row_nine = refl

-- eight bits that are 1: a text doesn't end with FF
row_eight : stuffed (replicate 8 true) ≡ 0xFF ∷ 0x00 ∷ []
unfolding stuffed stuffing number
row_eight = refl

row_eight_size : size false 8 (0xFF ∷ 0x00 ∷ 0x55 ∷ []) ≡ Ok 2
unfolding size first_byte
row_eight_size = refl

-- FF 80: the stuffed bit is 1
row_stuffed_one : size false 9 (0xFF ∷ 0x80 ∷ []) ≡ Err PacketHeader
unfolding size first_byte
row_stuffed_one = refl

row_edge : edge false (0xFF ∷ 0x80 ∷ []) ≡ PacketHeader
unfolding edge
row_edge = refl

-- FF, and no byte behind it
row_cut : size false 8 (0xFF ∷ []) ≡ Err Truncated
unfolding size first_byte
row_cut = refl
