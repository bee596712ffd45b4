-- What is listed of a place that isn't significant.
use Rattle.std.proofs.Common.{◌≡◌, ℕ, ◌/◌, ◌%◌, Bool, cond, [], ◌∷◌, ap, ◌∙◌}
use Rattle.std.specs.Prelude.{◌==◌}
use Rattle.jk_mqenc.specs.Encoded.{decision_of}
use Rattle.jk_scan.specs.declared.shape.BlockShape.{BlockShape}
use Rattle.jk_scan.specs.Moments.{significant}
use Rattle.jk_scan.specs.Neighbours.{zero_in}
use Rattle.jk_scan.specs.Passes.{BlockAtPlane, is_one, sign_decision, new_decisions}

-- the list of a place that isn't significant
pub new_is : (s : BlockShape) (p : BlockAtPlane) (t x y cx : ℕ) (bit : Bool) (sign : ℕ × Bool) → cx ≡ zero_in s (significant s p.magnitude t) x y → bit ≡ is_one (p.magnitude x y) → sign ≡ sign_decision s p t x y
    → ((cx, bit) ∷ cond bit (sign ∷ []) []) ≡ new_decisions s p t x y
unfolding new_decisions
new_is s p t x y cx bit sign e h g =
    ap (λ (c : ℕ). (c, bit) ∷ cond bit (sign ∷ []) []) e ∙ ap (λ (b : Bool). (zero_in s (significant s p.magnitude t) x y, b) ∷ cond b (sign ∷ []) []) h
    ∙ ap (λ (d : ℕ × Bool). (zero_in s (significant s p.magnitude t) x y, is_one (p.magnitude x y)) ∷ cond (is_one (p.magnitude x y)) (d ∷ []) []) g

-- the same of decisions as they are spelled
pub new_told : (s : BlockShape) (p : BlockAtPlane) (t x y bit sign : ℕ) → decision_of bit ≡ (zero_in s (significant s p.magnitude t) x y, is_one (p.magnitude x y)) → decision_of sign ≡ sign_decision s p t x y
    → (decision_of bit ∷ cond (bit % 2 == 1) (decision_of sign ∷ []) []) ≡ new_decisions s p t x y
new_told s p t x y bit sign e g = new_is s p t x y (bit / 2) (bit % 2 == 1) (decision_of sign) (ap (λ (d : ℕ × Bool). d.0) e) (ap (λ (d : ℕ × Bool). d.1) e) g
