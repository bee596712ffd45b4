use Rattle.std.proofs.Common.{◌≡◌, ◌+◌, ◌-◌, ◌%◌, ◌∙◌, true, false, arith}
use Rattle.std.specs.Prelude.{nat_eq}
use Rattle.std.proofs.lemmas.Bool.Decides.{nat_tests}
use Rattle.jk_scan.proofs.HalfBits.{fives, of_unmoved, of_moved}
use Rattle.jk_scan.proofs.bytes.even_bits.Goals as goal

pub returns-clause-first : goal.returns-clause-first
returns-clause-first c k h e =
    of_unmoved c.args.a c.args.b 0x5555_5555_5555_5555 1 k h (fives k h ∙ (let g : nat_eq (k % 2) 0 ≡ true = grind (arith, nat_tests) in g))
    (λ l. fives (k - 1) (omega (arith, h)) ∙ (let g : nat_eq ((k - 1) % 2) 0 ≡ false = (let o : (k - 1) % 2 ≡ 1 = omega (arith, l, e) in grind (arith, nat_tests)) in g))

pub returns-clause-second : goal.returns-clause-second
returns-clause-second c k h e =
    of_moved c.args.a c.args.b 0x5555_5555_5555_5555 1 (k + 1) k (omega arith) (omega (arith, h, e)) (fives (k + 1) (omega (arith, h, e)) ∙ (let g : nat_eq ((k + 1) % 2) 0 ≡ false = (let o : (k + 1) % 2 ≡ 1 = omega (arith, e) in grind (arith, nat_tests)) in g))
    (fives k h ∙ (let g : nat_eq (k % 2) 0 ≡ true = grind (arith, nat_tests) in g))
