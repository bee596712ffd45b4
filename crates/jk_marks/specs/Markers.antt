-- The markers of a codestream (T.800 table A.2).
use Rattle.std.specs.Prelude.{ℕ, Bool, ◌==◌, ◌&&◌, nat_le, List, [], ◌∷◌}
use Rattle.std.specs.List.{list_any}
use Rattle.byteorder.specs.Endian.{big_bytes}

-- start of codestream
abbrev pub soc : ℕ
soc = 0xFF4F

-- image and tile size
abbrev pub siz : ℕ
siz = 0xFF51

-- coding style default
abbrev pub cod : ℕ
cod = 0xFF52

-- coding style component
abbrev pub coc : ℕ
coc = 0xFF53

-- tile-part lengths
abbrev pub tlm : ℕ
tlm = 0xFF55

-- packet length, tile-part header
abbrev pub plt : ℕ
plt = 0xFF58

-- quantization default
abbrev pub qcd : ℕ
qcd = 0xFF5C

-- quantization component
abbrev pub qcc : ℕ
qcc = 0xFF5D

-- component registration
abbrev pub crg : ℕ
crg = 0xFF63

-- comment
abbrev pub comment : ℕ
comment = 0xFF64

-- start of tile-part
abbrev pub sot : ℕ
sot = 0xFF90

-- start of data
abbrev pub sod : ℕ
sod = 0xFF93

-- end of codestream
abbrev pub eoc : ℕ
eoc = 0xFFD9

-- the markers whose meaning is left out: PLM, RGN, POC, PPM, PPT
abbrev pub is_left_out : ℕ → Bool
is_left_out m = list_any (λ k. k == m) (0xFF57 ∷ 0xFF5E ∷ 0xFF5F ∷ 0xFF60 ∷ 0xFF61 ∷ [])

-- The markers of the table: SOC, SIZ, COD, COC, TLM, PLM, PLT, QCD, QCC, RGN, POC, PPM, PPT, CRG,
-- COM, SOT, SOP, EPH, SOD, EOC. All others belong to other standards.
abbrev pub is_listed : ℕ → Bool
is_listed m =
    list_any (λ k. k == m)
    (0xFF4F ∷ 0xFF51 ∷ 0xFF52 ∷ 0xFF53 ∷ 0xFF55 ∷ 0xFF57 ∷ 0xFF58 ∷ 0xFF5C ∷ 0xFF5D ∷ 0xFF5E ∷ 0xFF5F
    ∷ 0xFF60 ∷ 0xFF61 ∷ 0xFF63 ∷ 0xFF64 ∷ 0xFF90 ∷ 0xFF91 ∷ 0xFF92 ∷ 0xFF93 ∷ 0xFFD9 ∷ [])

-- the markers that stand alone, without a length (A.1.1)
abbrev pub is_alone : ℕ → Bool
is_alone m = nat_le 0xFF30 m && nat_le m 0xFF3F

-- a marker as bytes
abbrev pub marker_text : ℕ → List ℕ
marker_text m = big_bytes 2 m
