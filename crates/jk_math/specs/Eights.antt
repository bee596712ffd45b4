-- Eight numbers beside each other in a list.
use Rattle.std.specs.Prelude.{ℕ, ℤ, List, ◌≡◌, ◌+◌, ◌*◌, ◌<◌, ◌≤◌}
use Rattle.jk_math.specs.Signed.{signed_at}

-- The eight numbers from place i on are those of f, and all others are as they were.
abbrev pub HasEight : (ℕ → ℤ) → ℕ → List ℤ → List ℤ → Type 0
HasEight f i old new =
    ((j : ℕ) → j < 8 → signed_at new (i + j) ≡ f j)
    × ((k : ℕ) → k < i → signed_at new k ≡ signed_at old k)
    × ((k : ℕ) → i + 8 ≤ k → signed_at new k ≡ signed_at old k)

-- Eight pairs of numbers from place i on are those of f and g, one of each in turn, and what is
-- before them is as it was.
abbrev pub HasPairs : (ℕ → ℤ) → (ℕ → ℤ) → ℕ → List ℤ → List ℤ → Type 0
HasPairs f g i old new =
    ((j : ℕ) → j < 8 → signed_at new (i + 2 * j) ≡ f j)
    × ((j : ℕ) → j < 8 → signed_at new (i + (2 * j + 1)) ≡ g j)
    × ((k : ℕ) → k < i → signed_at new k ≡ signed_at old k)
