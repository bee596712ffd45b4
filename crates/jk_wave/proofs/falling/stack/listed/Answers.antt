use Rattle.std.proofs.Common.{◌≡◌, ℕ, ◌+◌, ◌<◌, ◌++◌, [], ◌∷◌, get_or, length, sym, ◌∙◌, ap, subst, arith}
use Rattle.std.specs.Prelude.{reverse}
use Rattle.std.proofs.lemmas.List.Edits.{get_or-remove_above, length-remove}
use Rattle.jk_math.specs.Lists.{lists_of}
use Rattle.jk_wave.specs.Levels.{part_list}
use Rattle.jk_wave.specs.declared.parts.LevelParts.{LevelParts}
use Rattle.jk_wave.specs.declared.falling.level.FallingLevel.{FallingLevel}
use Rattle.jk_wave.proofs.Leaving.{AreAside, all_bands, lists_turned, lists_pushed}
use Rattle.jk_wave.proofs.falling.Stacked.{aside_pushed}
use Rattle.jk_wave.proofs.falling.stack.listed.Goals as goal

pub loop-n-preserved : goal.loop-n-preserved
loop-n-preserved c =
    let levels : ℕ = c.args.levels in
    let n : ℕ = c.loop-n._n in
    let now = c.loop-n.invariant in
    let all = c.loop-n.all.items in
    let made = c.args.made.items in
    let bands = c.loop-n.bands.items in
    let level = c.remove-level.result in
    let parts : LevelParts = c.made-ll.result in
    let count = now.count in
    let some : 0 < length all = omega (arith, count, c.loop-n-test.true) in
    let one = length-remove all 0 some in
    let fewer = ap length c.remove-level.ensures.items in
    let here : level ≡ get_or made n level = c.remove-level.ensures.value ∙ now.rest 0 level ∙ ap (λ j. get_or made j level) (let e : n + 0 ≡ n = omega arith in e) in
    let less : n < levels = omega (arith, c.loop-n-test.true) in
    record {
      count = (let e : length c.remove-level.new.self.items + (n + 1) ≡ levels = omega (arith, fewer, one, count) in e);
      rest = λ k other.
          ap (λ l. get_or l k other) c.remove-level.ensures.items ∙ get_or-remove_above all 0 other k (omega arith) some ∙ now.rest (k + 1) other ∙ ap (λ j. get_or made j other) (let e : n + (k + 1) ≡ n + 1 + k = omega arith in e);
      low = now.low;
      aside = λ rect f have.
          let part : (o : ℕ) → part_list parts o ≡ part_list (get_or made n level).parts o = λ o. ap (λ (p : LevelParts). part_list p o) c.made-ll.ensures ∙ ap (λ (s : FallingLevel). part_list s.parts o) here in
          subst (AreAside rect levels (n + 1) f)
          (sym (ap lists_of (c.in_ok-push-3.ensures.items ∙ ap (λ l. l ++ parts.hl ∷ []) (c.in_ok-push-2.ensures.items ∙ ap (λ l. l ++ parts.lh ∷ []) c.in_ok-push.ensures.items)) ∙ lists_pushed bands parts.hh parts.lh parts.hl))
          (aside_pushed rect levels n f (lists_of bands) parts.hh.items parts.lh.items parts.hl.items less
          (part 3 ∙ have n 3 level less (omega arith) (omega arith)) (part 2 ∙ have n 2 level less (omega arith) (omega arith)) (part 1 ∙ have n 1 level less (omega arith) (omega arith)) (now.aside rect f have));
    }

pub returns-clause-exact : goal.returns-clause-exact
returns-clause-exact c rect f have low =
    let levels : ℕ = c.args.levels in
    let bands = c.loop-n.bands.items in
    let top : c.loop-n._n ≡ levels = omega (arith, c.loop-n-test.false, c.loop-n.auto._n-end) in
    let aside = subst (λ n. AreAside rect levels n f (lists_of bands)) top (c.loop-n.invariant.aside rect f have) in
    ap lists_of (c.reverse.ensures.items ∙ ap reverse c.in_ok-push-4.ensures.items) ∙ lists_turned bands c.args.low ∙ all_bands rect levels f (lists_of bands) c.args.low.items aside low
