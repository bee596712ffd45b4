-- Names that were asked for.
use Rattle.std.specs.Prelude.{ℕ, Bool, List, [], ◌∷◌, ◌++◌, cond, length, drop, nat_le}
use Rattle.jk_store.specs.Files.{is_among}

-- the most names that are kept
abbrev pub most_asked : ℕ
most_asked = 16

-- names, without the first where they are as many as may be
abbrev pub with_room : List (List ℕ) → List (List ℕ)
with_room names = cond (nat_le most_asked (length names)) (drop 1 names) names

-- a name behind those that are kept, each once
abbrev pub with_asked : List ℕ → List (List ℕ) → List (List ℕ)
with_asked name names = cond (is_among name names) names (with_room names ++ name ∷ [])

-- a name behind those that are kept, if it waits
abbrev pub asked_too : (List ℕ → Bool) → List ℕ → List (List ℕ) → List (List ℕ)
asked_too waits name names = cond (waits name) (with_asked name names) names

-- names behind those that are kept, one after another, where they wait
abbrev pub asked_all : (List ℕ → Bool) → List (List ℕ) → List (List ℕ) → List (List ℕ)
asked_all waits [] names = names
asked_all waits (n ∷ more) names = asked_all waits more (asked_too waits n names)
