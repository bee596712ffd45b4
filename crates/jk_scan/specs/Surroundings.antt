-- What is seen around a word.
use Rattle.std.specs.Prelude.{◌≡◌, ℕ, ◌+◌, ◌<◌, ◌≤◌}
use Rattle.jk_scan.specs.declared.around.Around.{Around}
use Rattle.jk_scan.specs.Bits.{on}
use Rattle.jk_scan.specs.Words.{Truths, of_gathered, Shows}

-- Three gathered words show a field in the word j of the stripe s and beside it. The field has its
-- border.
pub record IsAround (f : Truths) (j s : ℕ) (around : Around) : Type 0 where
  pub centre : Shows of_gathered f (j + 1) (s + 1) around.centre
  pub west : Shows of_gathered f j (s + 1) around.west
  pub east : Shows of_gathered f (j + 2) (s + 1) around.east

-- A word is one word up to bit k, and another from there on.
pub record Turns (word early late k : ℕ) : Type 0 where
  pub before : (m : ℕ) → m < k → on word m ≡ on early m
  pub behind : (m : ℕ) → k ≤ m → m < 64 → on word m ≡ on late m
