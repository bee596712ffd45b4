-- The subinterval of a decision, in the code.
use Rattle.std.proofs.Common.{◌≡◌, ◌∙◌, ap, sym, subst, ℕ, ◌+◌, ◌-◌, ◌<◌, ◌≤◌, Bool, true, false, cond, refl, arith}
use Rattle.jk_mqenc.specs.Machine.{Machine}
use Rattle.jk_mqenc.specs.Coding.{subinterval}
use Rattle.jk_mqenc.proofs.Holdings.{IsHeld}
use Rattle.jk_mqenc.proofs.Spelled.{subinterval-lower, subinterval-upper, leads-lower, leads-upper}

pub held-subinterval : (m : Machine) (q : ℕ) (lower : Bool) → 1 ≤ q → q < m.width → IsHeld m → IsHeld (subinterval m q lower)
held-subinterval m q true h k i =
    subst (λ (n : Machine). IsHeld n) (sym (subinterval-lower m q)) (record i.0 { width = q }, (leads-lower m i.0 q h (omega arith) i.1).holds)
held-subinterval m q false h k i =
    subst (λ (n : Machine). IsHeld n) (sym (subinterval-upper m q)) (record i.0 { low = i.0.low + q; width = i.0.width - q }, (leads-upper m i.0 q k i.1).holds)

pub subinterval-true : (old now : Machine) (q : ℕ) (lower : Bool) → old ≡ now → lower ≡ true → record old { width = q } ≡ subinterval now q lower
subinterval-true old now q lower v e = ap (λ (m : Machine). record m { width = q }) v ∙ sym (subinterval-lower now q) ∙ ap (λ (t : Bool). subinterval now q t) (sym e)

pub subinterval-false : (old now : Machine) (q : ℕ) (lower : Bool) → old ≡ now → lower ≡ false → record old { code = old.code + q; width = old.width - q } ≡ subinterval now q lower
subinterval-false old now q lower v e = ap (λ (m : Machine). record m { code = m.code + q; width = m.width - q }) v ∙ sym (subinterval-upper now q) ∙ ap (λ (t : Bool). subinterval now q t) (sym e)

-- both registers at once
pub subinterval-made : (old now : Machine) (q code width : ℕ) (lower : Bool) → old ≡ now → code ≡ cond lower 0 q → width ≡ cond lower q (old.width - q) → record old { code = old.code + code; width = width } ≡ subinterval now q lower
subinterval-made old now q code width true v e g =
    ap (λ x. record old { code = old.code + x; width = width }) e ∙ ap (λ x. record old { code = old.code + 0; width = x }) g ∙ ap (λ x. record old { code = x; width = q }) (let z : old.code + 0 ≡ old.code = omega arith in z)
    ∙ subinterval-true old now q true v refl
subinterval-made old now q code width false v e g =
    ap (λ x. record old { code = old.code + x; width = width }) e ∙ ap (λ x. record old { code = old.code + q; width = x }) g ∙ subinterval-false old now q false v refl
