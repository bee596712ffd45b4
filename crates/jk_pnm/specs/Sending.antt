-- What writing a file into a writer has written when it ends.
use Rattle.std.specs.Prelude.{◌≡◌, ℕ, ◌⊎◌, List, [], Result, Ok, Err, ⊤}
use Rattle.jk_math.specs.Front.{IsFront}
use Rattle.jk_math.specs.Memory.{IsMemory}
use Rattle.jk_math.specs.declared.fault.Fault.{Fault}
use Rattle.jk_math.specs.declared.fault.Fault.TheVariants.{Shelf}

-- What was written of a text: all, or a beginning where memory was refused or a write failed.
abbrev pub IsSent : List ℕ → List ℕ → Result ⊤ Fault → Type 0
IsSent text part (Ok done) = part ≡ text
IsSent text part (Err e) = (IsMemory e ⊎ (e ≡ Shelf)) × IsFront part text

-- What was written of the file that is given: the whole file where it wasn't refused. Else nothing,
-- where memory was refused or no file is given; or a beginning of the file, where memory was
-- refused or a write failed.
abbrev pub IsLeftBySending : Result (List ℕ) Fault → List ℕ → Result ⊤ Fault → Type 0
IsLeftBySending given part (Ok done) = given ≡ Ok part
IsLeftBySending given part (Err e) =
    (IsMemory e × (part ≡ []))
    ⊎ ((given ≡ Err e) × (part ≡ []))
    ⊎ ((IsMemory e ⊎ (e ≡ Shelf)) × (file : List ℕ) × (given ≡ Ok file) × IsFront part file)
