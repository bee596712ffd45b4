use Rattle.std.proofs.Common.{◌≡◌, ℕ, true, ◌*◌, ◌^◌, ◌%◌, cond, sym, ap, ◌∙◌, subst, arith}
use Rattle.std.specs.Prelude.{nat_eq}
use Rattle.std.proofs.lemmas.Bool.Decides.{nat_tests}
use Rattle.jk_scan.specs.Bits.{on}
use Rattle.std.specs.Int.{bit_not, w64}
use Rattle.std.specs.Int.RustNames.{bit_or, bit_and}
use Rattle.jk_scan.proofs.Laws.{IsPut, put_bit}
use Rattle.jk_block.proofs.decoding.Sighting.{sees_significant}
use Rattle.jk_block.proofs.decoding.sight.Sight.light.Goals as goal

self : (k : ℕ) → nat_eq k k ≡ true
self k = grind (arith, nat_tests)

pub returns-clause-sign : goal.returns-clause-sign
returns-clause-sign c =
    let k = c.args.k in
    let centre = c.args.self.now.negative.centre in
    let word : ℕ → ℕ = λ digit. bit_or (bit_and centre (bit_not w64 (1 * 2 ^ k % 2 ^ 64))) (digit * 2 ^ k % 2 ^ 64) in
    ap (λ (digit : ℕ). on (word digit) k) c.digit.ensures ∙ put_bit centre k c.args.negative c.requires k c.requires ∙ ap (λ t. cond t c.args.negative (on centre k)) (self k)

pub returns-clause-sees : goal.returns-clause-sees
returns-clause-sees c = λ at d place sees.
    let k = c.args.k in
    let centre = c.args.self.now.negative.centre in
    let word : ℕ → ℕ = λ digit. bit_or (bit_and centre (bit_not w64 (1 * 2 ^ k % 2 ^ 64))) (digit * 2 ^ k % 2 ^ 64) in
    sees_significant at d c.args.self.now k (word c.digit.result) c.args.negative place
    (subst (λ (digit : ℕ). IsPut centre (word digit) k c.args.negative) (sym c.digit.ensures) (put_bit centre k c.args.negative place.within)) sees
