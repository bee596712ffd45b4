-- What the steps of encoding into a writer have written when they end.
use Rattle.std.specs.Prelude.{◌≡◌, ℕ, ◌<◌, ◌≤◌, ◌⊎◌, Bool, true, false, List, [], ◌++◌, Result, Ok, Err, ⊤}
use Rattle.jk_math.specs.Front.{IsFront}
use Rattle.jk_math.specs.Memory.{IsMemory}
use Rattle.jk_math.specs.Picture.{Picture}
use Rattle.jk_math.specs.declared.fault.Fault.{Fault}
use Rattle.jk_math.specs.declared.fault.Fault.TheVariants.{Limit}
use Rattle.jk_marks.specs.Siz.{tile_count}
use Rattle.jk_params.specs.declared.parameters.Parameters.{Parameters}
use Rattle.jk_params.specs.Profile.{siz_of}
use Rattle.jk_tile.specs.encoding.Sinks.{IsPassed}
use Rattle.jk_window.specs.Views.{holds_below}
use Rattle.jk_code.specs.Written.{part_fits, parts_fit}
use Rattle.jk_code.specs.Beginnings.{parts_upto, text_before, IsFirstTooLong}

-- a tile-part is too long
abbrev pub IsTooLong : Picture → Parameters → Type 0
IsTooLong p q = (n : ℕ) × (n < tile_count (siz_of p q)) × (part_fits p q n ≡ false)

-- a tile-part is too long, and the first such is found before anything is written
abbrev pub IsTooLongAhead : Picture → Parameters → Type 0
IsTooLongAhead p q = (n : ℕ) × IsFirstTooLong p q n × (text_before q.container p q n ≡ [])

-- What was passed on of a text: all, or a beginning where this fault was told.
abbrev pub IsSent : (tells : Fault → Type 0) → List ℕ → List ℕ → Result ⊤ Fault → Type 0
IsSent tells text part r = IsPassed tells text part r

-- What was passed on of a text that may be made on the way: all, or a beginning where memory was
-- refused or a fault was told.
abbrev pub IsSentAsMade : (tells : Fault → Type 0) → (text part : List ℕ) → Result ⊤ Fault → Type 0
IsSentAsMade tells text part r = IsPassed (λ e. IsMemory e ⊎ tells e) text part r

-- What was passed on of a tile-part: all; nothing where it is too long, or memory was refused before;
-- a beginning where memory was refused or a fault was told.
abbrev pub IsPartSent : (tells : Fault → Type 0) → List ℕ → (fits : Bool) → List ℕ → Result ⊤ Fault → Type 0
IsPartSent tells text fits part (Ok done) = (fits ≡ true) × (part ≡ text)
IsPartSent tells text fits part (Err e) =
    ((e ≡ Limit) × (fits ≡ false) × (part ≡ []))
    ⊎ (IsMemory e × (part ≡ []))
    ⊎ ((IsMemory e ⊎ tells e) × (fits ≡ true) × IsFront part text)

-- What was passed on of the tile-parts behind the first: all; those before one that is too long; or a
-- beginning.
abbrev pub IsRestSent : (tells : Fault → Type 0) → Picture → Parameters → List ℕ → Result ⊤ Fault → Type 0
IsRestSent tells p q text (Ok done) = (parts_fit p q ≡ true)
    × (parts_upto p q 1 ++ text ≡ parts_upto p q (tile_count (siz_of p q)))
IsRestSent tells p q text (Err e) =
    ((e ≡ Limit) × (n : ℕ) × (0 < n) × IsFirstTooLong p q n × (parts_upto p q 1 ++ text ≡ parts_upto p q n))
    ⊎ ((IsMemory e ⊎ tells e) × (n : ℕ) × (n ≤ tile_count (siz_of p q)) × (holds_below (part_fits p q) n ≡ true)
    × IsFront (parts_upto p q 1 ++ text) (parts_upto p q n))

-- What takes a text may take nothing, and one text behind another.
pub record IsSink {K : Type 0} (took : K → List ℕ → K → Type 0) : Type 0 where
  pub none : (s : K) → took s [] s
  pub joined : (s t u : K) (x y : List ℕ) → took s x t → took t y u → took s (x ++ y) u
