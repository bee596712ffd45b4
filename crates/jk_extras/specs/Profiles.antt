-- Restricted ICC profiles (T.800 I.5.3.3), by the fields of the header of an ICC profile and by its
-- table of tags. Fields are numbers, the highest byte first.
use Rattle.std.specs.Prelude.{ℕ, zero, suc, ◌+◌, ◌*◌, ◌^◌, ◌==◌, ◌&&◌, ◌||◌}
use Rattle.std.specs.Prelude.{not, nat_le, Bool, if◌then◌else◌, List, [], ◌∷◌, length, drop}
use Rattle.std.specs.Prelude.{slice_index}
use Rattle.std.specs.List.{list_any, list_all}
use Rattle.byteorder.specs.Endian.{big_number}

-- An entry of the table: its signature, where its data begins in the profile, and how long it is.
pub record Tag : Type 0 where
  pub signature : ℕ
  pub start : ℕ
  pub size : ℕ

abbrev pub tag_of : List ℕ → Tag
tag_of entry =
    record { signature = big_number 4 entry; start = big_number 4 (drop 4 entry); size = big_number 4 (drop 8 entry) }

-- a table of n entries of 12 bytes each
unfoldable pub tags_in : ℕ → List ℕ → List Tag
tags_in zero table = []
tags_in (suc n) table = tag_of table ∷ tags_in n (drop 12 table)

-- whether a signature stands in a table of n entries
abbrev pub has_tag : ℕ → ℕ → List ℕ → Bool
has_tag signature n table = list_any (λ (t : Tag). t.signature == signature) (tags_in n table)

-- whether what n entries name lies within so many bytes
abbrev pub lie_within : ℕ → ℕ → List ℕ → Bool
lie_within size n table = list_all (λ (t : Tag). nat_le (t.start + t.size) size) (tags_in n table)

-- the four bytes at a place
abbrev pub field : ℕ → List ℕ → ℕ
field at profile = big_number 4 (drop at profile)

-- 132 to 2^24 bytes, as many as the profile tells
abbrev pub has_size : List ℕ → Bool
has_size p = nat_le 132 (length p) && (nat_le (length p) (2 ^ 24) && (field 0 p == length p))

-- `acsp`; the version 2 or 4; an input device `scnr` or a display device `mntr`; colours are
-- connected by `XYZ `
unfoldable pub is_known_profile : List ℕ → Bool
is_known_profile p = (field 36 p == 0x61637370)
    && (((slice_index p 8 == 2) || (slice_index p 8 == 4))
    && (((field 12 p == 0x73636E72) || (field 12 p == 0x6D6E7472)) && (field 20 p == 0x58595A20)))

-- `GRAY` of one component, `RGB ` of three
abbrev pub has_space : ℕ → List ℕ → Bool
has_space components p =
    ((components == 1) && (field 16 p == 0x47524159)) || ((components == 3) && (field 16 p == 0x52474220))

-- at most 100 entries, all of them and what they name within the profile
unfoldable pub has_table : List ℕ → Bool
has_table p = nat_le (field 128 p) 100
    && (nat_le (132 + 12 * field 128 p) (length p) && lie_within (length p) (field 128 p) (drop 132 p))

-- no `A2B0`; of one component `kTRC`; of three `rXYZ`, `gXYZ`, `bXYZ`, `rTRC`, `gTRC` and `bTRC`
unfoldable pub has_curves : ℕ → ℕ → List ℕ → Bool
has_curves components n table = not (has_tag 0x41324230 n table)
    && (if components == 1 then has_tag 0x6B545243 n table
    else (has_tag 0x7258595A n table && (has_tag 0x6758595A n table && (has_tag 0x6258595A n table
    && (has_tag 0x72545243 n table && (has_tag 0x67545243 n table && has_tag 0x62545243 n table))))))

-- a profile of so many components that may stand in a JP2 file
unfoldable pub is_restricted : ℕ → List ℕ → Bool
is_restricted components p = has_size p
    && (is_known_profile p && (has_space components p
    && (has_table p && has_curves components (field 128 p) (drop 132 p))))
