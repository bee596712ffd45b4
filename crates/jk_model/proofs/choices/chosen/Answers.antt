use Rattle.std.proofs.Common.{◌≡◌, ◌∙◌, ap, sym, ℕ, ◌-◌, ◌^◌, ◌<◌, Bool, true, false, bit_and, cond, arith}
use Rattle.std.specs.Int.Bits.{bit_xor, xor_assoc, xor_self, xor_zero_l, xor_zero_r}
use Rattle.std.proofs.lemmas.Nat.{and_mask, and_comm, xor_lt}
use Rattle.jk_model.proofs.choices.chosen.Goals as goal

-- all bits differ, or none
by_mask : (first : Bool) (a b : ℕ) → a < 2 ^ 64 → b < 2 ^ 64 → bit_xor b (bit_and (bit_xor b a) (cond first (2 ^ 64 - 1) 0)) ≡ cond first a b
by_mask true a b fits small =
    let least = xor_lt 64 b a small fits in
    ap (λ x. bit_xor b x) (and_mask (bit_xor b a) 64 ∙ omega (arith, least))
    ∙ sym (xor_assoc b b a)
    ∙ ap (λ x. bit_xor x a) (xor_self b)
    ∙ xor_zero_l a
by_mask false a b fits small = ap (λ x. bit_xor b x) (and_comm (bit_xor b a) 0) ∙ xor_zero_r b

pub returns : goal.returns
returns c =
    ap (λ m. bit_xor c.args.other (bit_and (bit_xor c.args.other c.args.one) m)) c.mask.ensures
    ∙ by_mask c.args.first c.args.one c.args.other (omega arith) (omega arith)
