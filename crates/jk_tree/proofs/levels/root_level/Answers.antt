use Rattle.std.proofs.Common.{◌≡◌, ℕ, ◌-◌, ◌*◌, ◌%◌, ◌<◌, ◌≤◌, ◌^◌, ap, sym, ◌∙◌, subst, arith}
use Rattle.std.proofs.lemmas.Nat.{one_shl}
use Rattle.jk_tree.specs.TagTree.{level_from}
use Rattle.jk_tree.proofs.Heights.{level_step, level_end, level_small, pow_over, top-shape}
use Rattle.jk_tree.proofs.levels.root_level.Goals as goal
use Rattle.jk_tree.proofs.levels.root_level.Goals.{After-loop-level}

-- the shift is a power
power : (level : ℕ) → level ≤ 16 → 1 * 2 ^ level % 2 ^ 32 ≡ 2 ^ level
power level h = one_shl level 32 (omega (arith, h))

pub loop-level-smaller : goal.loop-level-smaller
loop-level-smaller c =
    let i = c.loop-level.invariant in
    let less : 2 ^ c.loop-level.level < c.max-most.result = subst (λ n. n < c.max-most.result) (power c.loop-level.level i.small) c.loop-level-test.true in
    let over = pow_over c.loop-level.level in
    omega (arith, less, over)

pub loop-level-preserved : goal.loop-level-preserved
loop-level-preserved c =
    let i = c.loop-level.invariant in
    let n = c.max-most.result in
    let level = c.loop-level.level in
    let less : 2 ^ level < n = subst (λ m. m < n) (power level i.small) c.loop-level-test.true in
    let over = pow_over level in
    record {
      small = level_small n level less c.max-most.type_inv;
      found = sym (level_step n level less (omega (arith, less, over))) ∙ i.found;
    }

pub returns-clause-level : goal.returns-clause-level
returns-clause-level c =
    let i = c.loop-level.invariant in
    let n = c.max-most.result in
    let level = c.loop-level.level in
    let done : n ≤ 2 ^ level = subst (λ m. n ≤ m) (power level i.small) c.loop-level-test.false in
    sym (level_end (n - level) n level done) ∙ i.found ∙ ap (λ m. level_from m m 0) c.max-most.ensures ∙ sym (top-shape c.args.width c.args.height)
