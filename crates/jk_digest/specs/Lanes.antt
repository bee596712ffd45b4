-- Eight numbers of each of four messages: the working variables, or a hash value.
use Rattle.std.specs.Prelude.{◌≡◌, ℕ, ◌<◌, List, [], ◌∷◌, length, slice_index}
use Rattle.sha2.specs.Sha256.{rounds, schedule}
use Rattle.jk_digest.specs.declared.lanes.EightWords.{EightWords}

-- each number stands there for four messages
abbrev pub AreFours : EightWords → Type 0
AreFours v = (length v.a ≡ 4) × (length v.b ≡ 4) × (length v.c ≡ 4) × (length v.d ≡ 4)
    × (length v.e ≡ 4) × (length v.f ≡ 4) × (length v.g ≡ 4) × (length v.h ≡ 4)

-- the numbers of the message at k
abbrev pub lane : EightWords → ℕ → List ℕ
lane v k = slice_index v.a k ∷ slice_index v.b k ∷ slice_index v.c k ∷ slice_index v.d k
    ∷ slice_index v.e k ∷ slice_index v.f k ∷ slice_index v.g k ∷ slice_index v.h k ∷ []

-- what the variables are behind the first t rounds of four blocks b, from four hash values h on
abbrev pub AreBehind : (ℕ → List ℕ) → (ℕ → List ℕ) → ℕ → EightWords → Type 0
AreBehind h b t v = (k : ℕ) → k < 4 → lane v k ≡ rounds (h k) (schedule (b k) 48) t
