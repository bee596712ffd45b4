-- Examples: which names are those of files inside a folder, and the fault of what the system said.
use Rattle.std.specs.Prelude.{◌≡◌, true, false, [], ◌∷◌, map, codes, Some, refl}
use Rattle.std.specs.declared.io.Error.{Error}
use Rattle.jk_math.specs.declared.fault.Fault.TheVariants.{Shelf}
use Rattle.jk_files.specs.declared.refusal.Refusal.TheVariants.{System}
use Rattle.jk_files.specs.Names.{is_file_name}
use Rattle.jk_files.specs.Refusals.{fault_of, said_of}

names : map is_file_name (codes "scan.jp2" ∷ codes ".lock" ∷ codes "..." ∷ codes "a b\n" ∷ [])
    ≡ true ∷ true ∷ true ∷ true ∷ []
names = refl

-- the empty name, the folder itself and the one above it, and what lies elsewhere
no_names : map is_file_name ([] ∷ codes "." ∷ codes ".." ∷ codes "/" ∷ codes "../scan.jp2" ∷ codes "scans/" ∷ [])
    ≡ false ∷ false ∷ false ∷ false ∷ false ∷ false ∷ []
no_names = refl

-- whatever the system said
fault : (said : Error) → fault_of (System said) ≡ Shelf
fault said = refl

told : (said : Error) → said_of (System said) ≡ Some said
told said = refl
