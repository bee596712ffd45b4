-- Pairs of a query.
use Rattle.std.specs.Prelude.{ℕ, Bool, true, false, List, [], ◌∷◌}

-- whether a list of pairs is empty
abbrev pub are_none : List (List ℕ × List ℕ) → Bool
are_none [] = true
are_none (p ∷ pairs) = false
