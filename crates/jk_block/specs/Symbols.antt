-- The segmentation symbol (T.800 D.5): in the style that has it, four decisions end each cleanup
-- pass.
use Rattle.std.specs.Prelude.{ℕ, Bool, true, false, not, ◌&&◌, [], ◌∷◌, nat_eq, if◌then◌else◌}
use Rattle.jk_math.specs.declared.style.Style.{Style}
use Rattle.jk_scan.specs.Contexts.{uniform}
use Rattle.jk_scan.specs.Moments.{cleanup}
use Rattle.jk_scan.specs.Passes.{Decided}

abbrev pub segmentation_symbol : Decided
segmentation_symbol = (uniform, true) ∷ (uniform, false) ∷ (uniform, true) ∷ (uniform, false) ∷ []

-- four bits are those of the symbol
abbrev pub is_symbol : (a b c d : Bool) → Bool
is_symbol a b c d = a && (not b && (c && not d))

abbrev pub ends_with_symbol : Style → (pass : ℕ) → Bool
ends_with_symbol style pass = style.segments && nat_eq pass cleanup

-- what ends a pass
abbrev pub closing_decisions : Style → (pass : ℕ) → Decided
closing_decisions style pass = if ends_with_symbol style pass then segmentation_symbol else []
