use Rattle.std.proofs.Common.{◌≡◌, ◌+◌, ◌-◌, ◌%◌, ◌≤◌, ◌∙◌, true, false, arith}
use Rattle.std.specs.Prelude.{nat_lt}
use Rattle.std.proofs.lemmas.Bool.Decides.{nat_tests}
use Rattle.jk_scan.proofs.HalfBits.{threes, of_unmoved, of_moved}
use Rattle.jk_scan.proofs.bytes.low_pairs.Goals as goal

pub returns-clause-first : goal.returns-clause-first
returns-clause-first c k h e =
    of_unmoved c.args.a c.args.b 0x3333_3333_3333_3333 2 k h (threes k h ∙ (let g : nat_lt (k % 4) 2 ≡ true = grind (arith, nat_tests) in g))
    (λ l. threes (k - 2) (omega (arith, h)) ∙ (let g : nat_lt ((k - 2) % 4) 2 ≡ false = (let o : 2 ≤ (k - 2) % 4 = omega (arith, l, e) in grind (arith, nat_tests)) in g))

pub returns-clause-second : goal.returns-clause-second
returns-clause-second c k h e =
    of_moved c.args.a c.args.b 0x3333_3333_3333_3333 2 (k + 2) k (omega arith) (omega (arith, h, e)) (threes (k + 2) (omega (arith, h, e)) ∙ (let g : nat_lt ((k + 2) % 4) 2 ≡ false = (let o : 2 ≤ (k + 2) % 4 = omega (arith, e) in grind (arith, nat_tests)) in g))
    (threes k h ∙ (let g : nat_lt (k % 4) 2 ≡ true = grind (arith, nat_tests) in g))
