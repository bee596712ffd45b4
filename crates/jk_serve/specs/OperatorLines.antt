-- The lines of the operator.
use Rattle.std.specs.Prelude.{◌≡◌, ◌≢◌, ℕ, List, [], ◌∷◌, ◌++◌, All}
pub use Rattle.jk_store.specs.Told.{added_word}

-- "add "
abbrev pub add_word : List ℕ
add_word = 97 ∷ 100 ∷ 100 ∷ 32 ∷ []

-- The line asks that the file at the path is added under the name, which ends at the first space.
abbrev pub IsAdding : List ℕ → List ℕ → List ℕ → Type 0
IsAdding line name path = (line ≡ add_word ++ name ++ 32 ∷ path) × All (λ b. b ≢ 32) name
