use Rattle.std.proofs.Common.{◌≡◌, ◌+◌, ◌*◌, ◌/◌, ◌%◌, ◌^◌, ◌∙◌, true, false, arith}
use Rattle.std.specs.Prelude.{nat_le, nat_lt}
use Rattle.std.proofs.lemmas.Bool.Decides.{nat_tests}
use Rattle.jk_scan.proofs.BitLaws.{on_shl, on_shr_at}
use Rattle.jk_scan.proofs.HalfBits.{lows, highs, of_first, of_second}
use Rattle.jk_columns.proofs.sheet.indices.Goals as goal

pub returns-clause-low : goal.returns-clause-low
returns-clause-low c x r p q =
    of_first (c.args.members / 2 ^ 1) (c.args.ones * 2 ^ 3 % 2 ^ 64) 0x0F0F_0F0F_0F0F_0F0F 0xF0F0_F0F0_F0F0_F0F0 (8 * x + r)
    (lows (8 * x + r) (omega arith) ∙ (let e : nat_lt ((8 * x + r) % 8) 4 ≡ true = grind (arith, nat_tests) in e)) (highs (8 * x + r) (omega arith) ∙ (let e : nat_le 4 ((8 * x + r) % 8) ≡ false = grind (arith, nat_tests) in e))
    ∙ on_shr_at c.args.members 1 (8 * x + (r + 1)) (8 * x + r) (omega arith)

pub returns-clause-high : goal.returns-clause-high
returns-clause-high c x r p q =
    of_second (c.args.members / 2 ^ 1) (c.args.ones * 2 ^ 3 % 2 ^ 64) 0x0F0F_0F0F_0F0F_0F0F 0xF0F0_F0F0_F0F0_F0F0 (8 * x + 4 + r)
    (lows (8 * x + 4 + r) (omega arith) ∙ (let e : nat_lt ((8 * x + 4 + r) % 8) 4 ≡ false = grind (arith, nat_tests) in e)) (highs (8 * x + 4 + r) (omega arith) ∙ (let e : nat_le 4 ((8 * x + 4 + r) % 8) ≡ true = grind (arith, nat_tests) in e))
    ∙ on_shl c.args.ones 3 64 (8 * x + (r + 1)) (8 * x + 4 + r) (omega arith) (omega arith)
