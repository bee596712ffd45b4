use Rattle.std.proofs.Common.{◌≡◌, refl, ap, ◌∙◌, arith}
use Rattle.std.specs.Prelude.{◌&&◌, nat_le}
use Rattle.jk_scan.specs.Bits.{on}
use Rattle.jk_scan.proofs.Patterns.{all_below, same, patterned, pattern_at}
use Rattle.jk_scan.proofs.flags.first_rows.Goals as goal

pub returns-in-1 : goal.returns-in-1
unfolding on all_below same patterned
returns-in-1 c n i p q = pattern_at 0x0202_0202_0202_0202 (λ i. nat_le 1 i && nat_le i 1) refl n i p q ∙ ap (λ r. nat_le 1 i && nat_le i r) (let e : 1 ≡ c.args.rows = omega arith in e)

pub returns-in-2 : goal.returns-in-2
unfolding on all_below same patterned
returns-in-2 c n i p q = pattern_at 0x0606_0606_0606_0606 (λ i. nat_le 1 i && nat_le i 2) refl n i p q ∙ ap (λ r. nat_le 1 i && nat_le i r) (let e : 2 ≡ c.args.rows = omega arith in e)

pub returns-in-3 : goal.returns-in-3
unfolding on all_below same patterned
returns-in-3 c n i p q = pattern_at 0x0E0E_0E0E_0E0E_0E0E (λ i. nat_le 1 i && nat_le i 3) refl n i p q ∙ ap (λ r. nat_le 1 i && nat_le i r) (let e : 3 ≡ c.args.rows = omega arith in e)

pub returns-in_default : goal.returns-in_default
unfolding on all_below same patterned
returns-in_default c n i p q = pattern_at 0x1E1E_1E1E_1E1E_1E1E (λ i. nat_le 1 i && nat_le i 4) refl n i p q ∙ ap (λ r. nat_le 1 i && nat_le i r) (let e : 4 ≡ c.args.rows = omega arith in e)
