use Rattle.std.proofs.Common.{◌≡◌, ◌+◌, ◌/◌, ◌%◌, ◌^◌, ◌∙◌, true, false, arith}
use Rattle.std.specs.Prelude.{nat_eq}
use Rattle.std.proofs.lemmas.Bool.Decides.{nat_tests}
use Rattle.jk_scan.proofs.BitLaws.{on_shr_at}
use Rattle.jk_scan.proofs.HalfBits.{fives, tens, of_first, of_second}
use Rattle.jk_scan.proofs.bytes.odd_bits.Goals as goal

pub returns-clause-first : goal.returns-clause-first
returns-clause-first c k h e =
    of_first (c.args.a / 2 ^ 1) c.args.b 0x5555_5555_5555_5555 0xAAAA_AAAA_AAAA_AAAA k (fives k h ∙ (let g : nat_eq (k % 2) 0 ≡ true = grind (arith, nat_tests) in g))
    (tens k h ∙ (let g : nat_eq (k % 2) 1 ≡ false = grind (arith, nat_tests) in g))
    ∙ on_shr_at c.args.a 1 (k + 1) k (omega arith)

pub returns-clause-second : goal.returns-clause-second
returns-clause-second c k h e =
    let o : (k + 1) % 2 ≡ 1 = omega (arith, e) in
    of_second (c.args.a / 2 ^ 1) c.args.b 0x5555_5555_5555_5555 0xAAAA_AAAA_AAAA_AAAA (k + 1) (fives (k + 1) (omega (arith, h, e)) ∙ (let g : nat_eq ((k + 1) % 2) 0 ≡ false = grind (arith, nat_tests) in g))
    (tens (k + 1) (omega (arith, h, e)) ∙ (let g : nat_eq ((k + 1) % 2) 1 ≡ true = grind (arith, nat_tests) in g))
