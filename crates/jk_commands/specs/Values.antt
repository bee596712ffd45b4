-- The values in the lines of `jk info --all`, each behind a space.
use Rattle.std.specs.Prelude.{ℕ, zero, suc, ◌/◌, ◌%◌, true, ◌==◌, if◌then◌else◌, List, [], ◌∷◌, ◌++◌, codes}
use Rattle.std.specs.List.{flat_map}
use Rattle.std.specs.Fmt.{decimal, digit_glyph}
use Rattle.std.specs.Char.{is_ascii_alphanumeric}
use Rattle.byteorder.specs.Endian.{big_bytes}
use Rattle.jk_marks.specs.Markers.{tlm, plt, crg, comment}

-- a value
abbrev pub value : List ℕ → List ℕ
value text = 32 ∷ text

-- WIDTHxHEIGHT
abbrev pub size_value : (width height : ℕ) → List ℕ
size_value width height = value (decimal width ++ (120 ∷ decimal height))

-- NAME=NUMBER
abbrev pub pair_value : List ℕ → ℕ → List ℕ
pair_value name n = value (name ++ (61 ∷ decimal n))

-- the texts of the numbers below n, one behind the other
unfoldable pub texts_below : (ℕ → List ℕ) → ℕ → List ℕ
texts_below f zero = []
texts_below f (suc n) = texts_below f n ++ f n

-- where there is no value, `none`
abbrev pub or_none : List ℕ → List ℕ
or_none [] = value (codes "none")
or_none (b ∷ bs) = b ∷ bs

-- LABEL: VALUE VALUE .., and LF
unfoldable pub labelled : List ℕ → List ℕ → List ℕ
labelled label values = label ++ (58 ∷ (or_none values ++ (10 ∷ [])))

-- a byte as two hexadecimal digits
abbrev pub hex_text : ℕ → List ℕ
hex_text b = digit_glyph true (b / 16) ∷ digit_glyph true (b % 16) ∷ []

-- a byte of a kind: a letter or a digit as it is, another behind % as in a URL
abbrev pub kind_byte : ℕ → List ℕ
kind_byte b = if is_ascii_alphanumeric b then b ∷ [] else 37 ∷ hex_text b

abbrev pub kind_text : ℕ → List ℕ
kind_text kind = flat_map kind_byte (big_bytes 4 kind)

-- the name of a marker (table A.2); that of another standard is its hexadecimal digits
abbrev pub marker_name : ℕ → List ℕ
marker_name m =
    if m == tlm then codes "TLM"
    else (if m == plt then codes "PLT"
    else (if m == crg then codes "CRG"
    else (if m == comment then codes "COM"
    else hex_text (m / 256) ++ hex_text (m % 256))))
