-- What stands in a folder.
use Rattle.std.specs.Prelude.{◌≡◌, ℕ, List, [], ◌∷◌, ◌++◌, map, ◌⊎◌}
use Rattle.std.specs.String.{string_bytes}
use Rattle.jk_files.specs.declared.listing.Listing.{Listing}
use Rattle.jk_files.specs.declared.listing.Other.{Other}

-- the names of its files
abbrev pub file_names : Listing → List (List ℕ)
file_names l = map string_bytes l.files.items

-- the names of all else
abbrev pub other_names : Listing → List (List ℕ)
other_names l = map (λ (o : Other). string_bytes o.name) l.others.items

-- A name is added to one of the two lists, or to none.
abbrev pub AddsName : Listing → Listing → List ℕ → Type 0
AddsName old new name = ((file_names new ≡ file_names old ++ name ∷ []) × (other_names new ≡ other_names old))
    ⊎ (((file_names new ≡ file_names old) × (other_names new ≡ other_names old ++ name ∷ []))
    ⊎ ((file_names new ≡ file_names old) × (other_names new ≡ other_names old)))
