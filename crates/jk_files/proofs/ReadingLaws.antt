-- The first bytes of a source, of which some were taken.
use Rattle.std.proofs.Common.{◌≡◌, ◌≤◌, ℕ, List, length, take, IfSome, Some, None, Option, arith}
use Rattle.std.proofs.lemmas.Grind.{common_steps}
use Rattle.std.specs.Io.KnownBytes.{Consumes, IsAtEnd}

-- as many as are wanted
pub full : (old new : Option (List ℕ)) (bytes : List ℕ) (most : ℕ) → Consumes old new bytes → length bytes ≡ most
    → IfSome old (λ all. bytes ≡ take most all)
full None new bytes most taken enough = tt
full (Some all) (Some left) bytes most taken enough = grind (arith, common_steps, taken, enough)
full (Some all) None bytes most taken enough = absurd taken

-- all that there were
pub ended : (old new : Option (List ℕ)) (bytes : List ℕ) (most : ℕ)
    → Consumes old new bytes → IsAtEnd new → length bytes ≤ most → IfSome old (λ all. bytes ≡ take most all)
ended None new bytes most taken end below = tt
ended (Some all) (Some left) bytes most taken end below = grind (arith, common_steps, taken, end, below)
ended (Some all) None bytes most taken end below = absurd taken
