-- The working variables of one block.
use Rattle.std.specs.Prelude.{◌≡◌, ℕ, List, [], ◌∷◌}
use Rattle.sha2.specs.Sha256.{rounds, schedule}
use Rattle.jk_digest.specs.declared.rounds.Variables.{Variables}

-- the variables as a list, from a to h
abbrev pub listed : Variables → List ℕ
listed v = v.a ∷ v.b ∷ v.c ∷ v.d ∷ v.e ∷ v.f ∷ v.g ∷ v.h ∷ []

-- what the variables are behind the first t rounds of block b, from the hash value h on
abbrev pub IsBehind : List ℕ → List ℕ → ℕ → Variables → Type 0
IsBehind h b t v = listed v ≡ rounds h (schedule b 48) t
