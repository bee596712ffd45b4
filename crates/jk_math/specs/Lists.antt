-- Vectors of vectors as lists of lists.
use Rattle.std.specs.Prelude.{ℕ, List, [], map, slice_index_or}
use Rattle.std.specs.Global.{Vec}

-- the vectors as they lie in memory
abbrev pub lists_of : {X : Type 0} → List (Vec X) → List (List X)
lists_of vectors = map (λ vector. vector.items) vectors

-- number n of them, and no items where there is none
abbrev pub list_at : {X : Type 0} → List (Vec X) → ℕ → List X
list_at vectors n = slice_index_or (lists_of vectors) n []
