use Rattle.std.proofs.Common.{◌≡◌, ◌+◌, ◌/◌, ◌%◌, ◌^◌, ◌≤◌, ◌∙◌, true, false, arith}
use Rattle.std.specs.Prelude.{nat_le, nat_lt}
use Rattle.std.proofs.lemmas.Bool.Decides.{nat_tests}
use Rattle.jk_scan.proofs.BitLaws.{on_shr_at}
use Rattle.jk_scan.proofs.HalfBits.{threes, twelves, of_first, of_second}
use Rattle.jk_scan.proofs.bytes.high_pairs.Goals as goal

pub returns-clause-first : goal.returns-clause-first
returns-clause-first c k h e =
    of_first (c.args.a / 2 ^ 2) c.args.b 0x3333_3333_3333_3333 0xCCCC_CCCC_CCCC_CCCC k (threes k h ∙ (let g : nat_lt (k % 4) 2 ≡ true = grind (arith, nat_tests) in g))
    (twelves k h ∙ (let g : nat_le 2 (k % 4) ≡ false = grind (arith, nat_tests) in g))
    ∙ on_shr_at c.args.a 2 (k + 2) k (omega arith)

pub returns-clause-second : goal.returns-clause-second
returns-clause-second c k h e =
    let o : 2 ≤ (k + 2) % 4 = omega (arith, e) in
    of_second (c.args.a / 2 ^ 2) c.args.b 0x3333_3333_3333_3333 0xCCCC_CCCC_CCCC_CCCC (k + 2) (threes (k + 2) (omega (arith, h, e)) ∙ (let g : nat_lt ((k + 2) % 4) 2 ≡ false = grind (arith, nat_tests) in g))
    (twelves (k + 2) (omega (arith, h, e)) ∙ (let g : nat_le 2 ((k + 2) % 4) ≡ true = grind (arith, nat_tests) in g))
