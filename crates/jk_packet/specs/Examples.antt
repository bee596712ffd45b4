-- Examples: the bits of headers of one code-block, or two, by the definition alone.
use Rattle.std.specs.Prelude.{◌≡◌, ℕ, true, false, List, [], ◌∷◌, ◌++◌, Option, Some, None, refl, replicate}
use Rattle.jk_bits.specs.Stuffing.{binary}
use Rattle.jk_tree.specs.TagTree.{wide, level_from, top, asked, told_below, told}
use Rattle.jk_packet.specs.declared.shape.BandShape.{BandShape}
use Rattle.jk_packet.specs.Words.{greatest_power, floor_log2, pass_code, piece_bits}
use Rattle.jk_packet.specs.PacketText.{PacketContribution, contributions, queries_in, queries_of, inclusion_bits, zeros_bits}
use Rattle.jk_packet.specs.PacketText.{band_bits, bands_bits, Trees, header_bits}

abbrev one_block : List BandShape
one_block = record { across = 1; down = 1; planes = 9 } ∷ []

abbrev trees_of : ℕ → ℕ → Trees
trees_of inclusion zeros = λ number. record { inclusion = λ i x y. inclusion; zeros = λ i x y. zeros }

abbrev has : (zeros passes growth length : ℕ) → Option PacketContribution
has zeros passes growth length =
    Some record { zero_planes = zeros; piece = record { passes = passes; growth = growth; length = length } }

-- C0 21: the packet isn't empty; the block is included; eight zero bit-planes; one pass; Lblock
-- stays; one byte
row_one_pass : header_bits one_block (trees_of 0 8) [] (Some ((has 8 1 0 1 ∷ []) ∷ []))
    ≡ true ∷ true ∷ (replicate 8 false ++ (true ∷ false ∷ false ∷ false ∷ false ∷ true ∷ []))
unfolding binary wide level_from top asked told_below told greatest_power floor_log2 pass_code piece_bits contributions
    queries_in queries_of inclusion_bits zeros_bits band_bits bands_bits
row_one_pass = refl

-- FF 18 00: 25 passes, whose length takes four bits more
row_many_passes : header_bits one_block (trees_of 0 0) [] (Some ((has 0 25 0 0 ∷ []) ∷ []))
    ≡ true ∷ true ∷ true
    ∷ (true ∷ true ∷ true ∷ true ∷ (true ∷ false ∷ false ∷ true ∷ true ∷ (false ∷ replicate 7 false)))
unfolding binary wide level_from top asked told_below told greatest_power floor_log2 pass_code piece_bits contributions
    queries_in queries_of inclusion_bits zeros_bits band_bits bands_bits
row_many_passes = refl

-- a value of 1: the first packet asks at threshold 1, the second, empty, asks nothing, and the
-- third asks at 3 and includes
row_empty_between : header_bits one_block (trees_of 1 8) (Some ((None ∷ []) ∷ []) ∷ None ∷ [])
    (Some ((has 8 1 0 1 ∷ []) ∷ []))
    ≡ true ∷ true ∷ (replicate 8 false ++ (true ∷ false ∷ false ∷ false ∷ false ∷ true ∷ []))
unfolding binary wide level_from top asked told_below told greatest_power floor_log2 pass_code piece_bits contributions
    queries_in queries_of inclusion_bits zeros_bits band_bits bands_bits
row_empty_between = refl

-- a block that was included has a bit, and its Lblock is kept: 3, and 2 more by the first packet
row_second_piece : header_bits one_block (trees_of 0 0) (Some ((has 0 1 2 17 ∷ []) ∷ []) ∷ [])
    (Some ((has 0 2 0 33 ∷ []) ∷ []))
    ≡ true ∷ true ∷ (true ∷ false ∷ (false ∷ (true ∷ false ∷ false ∷ false ∷ false ∷ true ∷ [])))
unfolding binary wide level_from top asked told_below told greatest_power floor_log2 pass_code piece_bits contributions
    queries_in queries_of inclusion_bits zeros_bits band_bits bands_bits
row_second_piece = refl

-- two blocks under one root: the root speaks with the first, and not again
row_two_blocks : header_bits (record { across = 2; down = 1; planes = 9 } ∷ []) (trees_of 0 0) []
    (Some ((has 0 1 0 0 ∷ has 0 1 0 0 ∷ []) ∷ []))
    ≡ true ∷ (true ∷ true
    ∷ (true ∷ true
    ∷ (false ∷ false ∷ false ∷ false ∷ false ∷ (true ∷ (true ∷ (false ∷ false ∷ false ∷ false ∷ false ∷ []))))))
unfolding binary wide level_from top asked told_below told greatest_power floor_log2 pass_code piece_bits contributions
    queries_in queries_of inclusion_bits zeros_bits band_bits bands_bits
row_two_blocks = refl

-- no blocks: an empty packet is a 0, and one that isn't a 1
row_no_blocks : header_bits (record { across = 0; down = 0; planes = 9 } ∷ []) (trees_of 0 0) [] (Some ([] ∷ []))
    ≡ true ∷ []
unfolding bands_bits band_bits
row_no_blocks = refl
