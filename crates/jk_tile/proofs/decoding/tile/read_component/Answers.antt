use Rattle.std.proofs.Common.{◌≡◌, ◌<◌, ◌+◌, ◌-◌, ◌^◌, All, Ok, ◌∙◌, ap, sym, subst, arith}
use Rattle.std.proofs.lemmas.List.Elements.{All-nil}
use Rattle.std.proofs.lemmas.Result.{err_from_is_err_and}
use Rattle.jk_math.specs.Signed.{IsBelow}
use Rattle.jk_wave.specs.RegionRows.{IsMadeSmall}
use Rattle.jk_wave.specs.declared.region.Region.{Region}
use Rattle.jk_tile.specs.decoding.TileReading.{each, resolution_part_tested}
use Rattle.jk_tile.specs.decoding.Source.{source_bodies, resolution_at, resolution_values}
use Rattle.jk_tile.proofs.Steps.{each_none, each_more, each_fails, refuses_on}
use Rattle.jk_tile.proofs.AllBands.{resolution_then, resolution_fails, source_fine, source_err, highest_values}
use Rattle.jk_tile.proofs.decoding.tile.read_component.Goals as goal

pub loop-r-init : goal.loop-r-init
loop-r-init c = record {
  tested = each_none _;
  values = λ some. absurd (omega (arith, some));
  made = λ some. absurd (omega (arith, some));
  small = subst (All (IsBelow (2 ^ 29))) (sym c.new-values.ensures.items) (All-nil (IsBelow (2 ^ 29)));
}

pub returns-in_err-values-clause-exact : goal.returns-in_err-values-clause-exact
returns-in_err-values-clause-exact c =
    let s = c.args.source.now in
    let e = c.in_err-values.field-0.0 in
    let q = err_from_is_err_and c.from_residual.result c.from_residual.ensures.1 in
    let top = ap (λ (q : Region). q.top) c.region-top.ensures.value in
    let lt : c.loop-r.r < s.region.top + 1 = omega (arith, c.loop-r-test.true, top) in
    rw (q.1, q.2) (refuses_on e (resolution_at s c.loop-r.r) _ c.in_err-values.ensures.exact
    (λ h. source_err s e (each_fails (s.region.top + 1) c.loop-r.r (λ r. resolution_part_tested s.region s.coding r (source_bodies s r)) e lt c.loop-r.invariant.tested (resolution_fails s c.loop-r.r e h))))

pub loop-r-preserved : goal.loop-r-preserved
loop-r-preserved c =
    let s = c.args.source.now in
    let r = c.loop-r.r in
    let is = resolution_then s r c.in_ok-values.values.items c.in_ok-values.ensures.exact in
    let one : r ≡ r + 1 - 1 = omega arith in
    record {
      tested = each_more r (λ r. resolution_part_tested s.region s.coding r (source_bodies s r)) c.loop-r.invariant.tested is.0;
      values = λ some. is.1 ∙ ap (resolution_values s) one;
      made = λ some. subst (λ n. IsMadeSmall s.region n c.in_ok-values.values.items) one c.in_ok-values.ensures.made;
      small = c.in_ok-values.ensures.small;
    }

pub returns-clause-exact : goal.returns-clause-exact
returns-clause-exact c =
    let s = c.args.source.now in
    let top = ap (λ (q : Region). q.top) c.region-top.ensures.value in
    let all : c.loop-r.r ≡ s.region.top + 1 = omega (arith, c.loop-r-test.false, c.loop-r.auto.r-end, top) in
    let last : c.loop-r.r - 1 ≡ s.region.top = omega (arith, all) in
    source_fine s (ap (λ k. each k (λ r. resolution_part_tested s.region s.coding r (source_bodies s r))) (sym all) ∙ c.loop-r.invariant.tested)
    ∙ ap Ok (sym (c.loop-r.invariant.values (omega (arith, all)) ∙ ap (resolution_values s) last ∙ highest_values s))
