use Rattle.std.proofs.Common.{◌≡◌, ◌≤◌, ◌<◌, ◌+◌, ◌*◌, ℕ, sym, ap, ◌∙◌, subst, arith}
use Rattle.std.proofs.Math.Nat.{mul_comm, add-mul}
use Rattle.jk_scan.specs.Moments.{stripes}
use Rattle.jk_scan.specs.Flags.{across, word_at}
use Rattle.jk_scan.proofs.Laws.{word_fits}
use Rattle.jk_block.proofs.ages.words_of.Goals as goal

few : (a t : ℕ) → (t + 1) * (a + 2) + (a + 1) < 774 → (a + 2) * (t + 2) ≤ 774
few a t h =
    let e : (a + 2) * (t + 2) ≡ (t + 1) * (a + 2) + 1 * (a + 2) = mul_comm (a + 2) (t + 2) ∙ ap (λ n. n * (a + 2)) (let g : t + 2 ≡ t + 1 + 1 = omega arith in g) ∙ add-mul (t + 1) 1 (a + 2) in
    omega (arith, e, h)

pub returns-clause-few : goal.returns-clause-few
unfolding word_at
returns-clause-few c =
    let s = c.args.shape in
    subst (λ a. (a + 2) * (stripes s + 2) ≤ 774) (sym c.words_across.ensures) (few (across s) (stripes s) (word_fits s (across s + 1) (stripes s + 1) c.requires (omega arith) (omega arith)))
