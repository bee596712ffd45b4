use Rattle.std.proofs.Common.{◌≡◌, ◌≢◌, ◌<◌, ◌++◌, ℕ, List, inl, inr, length, set, sym, ap, subst, ◌∙◌, arith}
use Rattle.std.proofs.lemmas.Bool.{cases_eq}
use Rattle.std.proofs.lemmas.List.{length-set}
use Rattle.jk_math.specs.declared.rect.Rect.{Rect}
use Rattle.jk_math.specs.Lists.{list_at}
use Rattle.jk_marks.specs.declared.coding.Coding.{Coding}
use Rattle.jk_geom.specs.Precincts.{precincts_across}
use Rattle.jk_math.specs.Raster.{plane_at}
use Rattle.jk_tile.specs.encoding.Layered.{Layered}
use Rattle.jk_tile.specs.encoding.Strips.{layered_between}
use Rattle.jk_tile.proofs.encoding.ListsKept.{list_changed, list_kept, list_was}
use Rattle.jk_tile.proofs.encoding.StripBlocks.{none_kept, strip_done}
use Rattle.jk_tile.proofs.encoding.row_coding.code_strip.Goals as goal

pub loop-n-preserved : goal.loop-n-preserved
loop-n-preserved c =
    let s = c.args.source.now in
    let w = c.args.strip in
    let n : ℕ = c.loop-n.n in
    let now = c.loop-n.invariant in
    let all = c.loop-n.coded.items in
    let was = c.index_mut.result.now in
    let is = c.code_part.new.coded in
    let more : ℕ → List Layered = λ m. layered_between s (λ _. plane_at w.area w.values.now) w.resolution m w.band w.area.y0 w.area.y1 in
    let inside = c.first_precinct-first.ensures.inside in
    let test = c.loop-n-test.true in
    let long = now.count in
    let count = c.requires.count in
    let from = c.loop-n.auto.n in
    let across = c.precinct_count-across.ensures.across ∙ ap (λ (k : Coding). precincts_across c.rect-rect.result k w.resolution) c.coding.ensures.value ∙ ap (λ (a : Rect). precincts_across a s.coding w.resolution) c.rect-rect.ensures.value in
    let here : n < length all = omega (arith, test, inside, long, count, across) in
    record {
      count = length-set all n is ∙ now.count;
      done = λ m low high. elim (cases_eq m n) [
        | inl e ↦ subst (λ j. list_at (set all n is) j ≡ list_at c.args.coded.now.items j ++ more j) (sym e)
            (list_changed all n is here ∙ c.in_ok-code_part.ensures.coded ∙ ap (λ (xs : List Layered). xs ++ more n) (list_was all n was here c.index_mut.ensures.value ∙ now.rest n (inr (omega arith))))
        | inr ne ↦ list_kept all n m is ne ∙ now.done m low (omega (arith, high, ne))
      ];
      ahead = c.in_ok-code_part.ensures.ahead;
      rest = λ m out. elim out [
        | inl low ↦ list_kept all n m is (let ne : m ≢ n = omega (arith, low, from) in ne) ∙ now.rest m (inl low)
        | inr high ↦ list_kept all n m is (let ne : m ≢ n = omega (arith, high) in ne) ∙ now.rest m (inr (omega (arith, high)))
      ];
    }

pub returns-then-is_empty-clause-coded : goal.returns-then-is_empty-clause-coded
returns-then-is_empty-clause-coded c n lt =
    let s = c.args.source.now in
    let w = c.args.strip in
    none_kept s w (λ _. plane_at w.area w.values.now) n (list_at c.args.coded.now.items n) c.requires.strip lt (sym c.is_empty.ensures ∙ c.if-is_empty.true)

pub returns-clause-coded : goal.returns-clause-coded
returns-clause-coded c n lt =
    let s = c.args.source.now in
    let w = c.args.strip in
    let across = c.precinct_count-across.ensures.across ∙ ap (λ (k : Coding). precincts_across c.rect-rect.result k w.resolution) c.coding.ensures.value ∙ ap (λ (a : Rect). precincts_across a s.coding w.resolution) c.rect-rect.ensures.value in
    strip_done s w (λ _. plane_at w.area w.values.now) c.first_precinct-first.result c.precinct_count-across.result.0 c.loop-n.n (list_at c.args.coded.now.items) (list_at c.loop-n.coded.items) c.requires.strip c.first_precinct-first.ensures.value across
    (omega (arith, c.loop-n-test.false, c.loop-n.auto.n-end)) c.loop-n.invariant.done c.loop-n.invariant.rest n lt
