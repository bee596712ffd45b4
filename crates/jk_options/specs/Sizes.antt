-- Precinct sizes as text: two hexadecimal digits for each.
use Rattle.std.specs.Prelude.{ℕ, ◌-◌, ◌&&◌, nat_le, List, [], ◌∷◌, Result, Ok, Err, if◌then◌else◌}
use Rattle.jk_math.specs.Answer.{◌>>=◌}
use Rattle.jk_math.specs.declared.fault.Fault.{Fault}
use Rattle.jk_math.specs.declared.fault.Fault.TheVariants.{BadParameters}

-- the value of a hexadecimal digit, 0 to 9, A to F or a to f
abbrev pub digit_at : ℕ → Result ℕ Fault
digit_at c =
    if nat_le 48 c && nat_le c 57 then Ok (c - 48)
    else (if nat_le 65 c && nat_le c 70 then Ok (c - 55)
    else (if nat_le 97 c && nat_le c 102 then Ok (c - 87) else Err BadParameters))

-- A size is two digits: the exponent of the height, then that of the width. It is kept as width and
-- height.
abbrev pub size_at : (first second : ℕ) → Result (ℕ × ℕ) Fault
size_at first second = do
  height ← digit_at first
  width ← digit_at second
  Ok (width, height)

-- the sizes of a text of pairs of digits
unfoldable pub sizes_at : List ℕ → Result (List (ℕ × ℕ)) Fault
sizes_at [] = Ok []
sizes_at (first ∷ []) = Err BadParameters
sizes_at (first ∷ second ∷ rest) = do
  size ← size_at first second
  sizes ← sizes_at rest
  Ok (size ∷ sizes)
