use Rattle.std.proofs.Common.{sym, refl, ◌∙◌, ℕ, ◌+◌, ◌-◌, List, ◌∷◌, [], length, ap}
use Rattle.std.proofs.lemmas.List.{length-append}
use Rattle.std.proofs.lemmas.Result.{err_from_is_err_and}
use Rattle.jk_marks.specs.Reading.{precincts_at}
use Rattle.jk_marks.proofs.Loops.{precincts_more, precincts_end}
use Rattle.jk_marks.proofs.coding_segments.read_precincts.Goals as goal

pub returns-in_err-width : goal.returns-in_err-width
returns-in_err-width c =
    let p = err_from_is_err_and c.from_residual.result c.from_residual.ensures.1 in
    let step = precincts_more c.args.count c.loop-index.index c.loop-index.precincts c.loop-index.cursor c.loop-index-test.true in
    rw (p.1, p.2) (sym c.loop-index.invariant.left ∙ step ∙ rw (c.loop-index.invariant.count, c.in_err-width.ensures) refl)

pub loop-index-preserved : goal.loop-index-preserved
loop-index-preserved c =
    let step = precincts_more c.args.count c.loop-index.index c.loop-index.precincts c.loop-index.cursor c.loop-index-test.true in
    let pair : ℕ × ℕ = (c.in_ok-width.width, c.in_ok-width.height) in
    record {
      count = ap (λ (x : List (ℕ × ℕ)). length x) c.push.ensures ∙ length-append c.loop-index.precincts (pair ∷ []) ∙ ap (λ k. k + 1) c.loop-index.invariant.count;
      left = ap (λ (x : List (ℕ × ℕ)). precincts_at (c.args.count - (c.loop-index.index + 1)) x c.read_precinct.new.cursor) c.push.ensures
          ∙ sym (sym c.loop-index.invariant.left ∙ step ∙ rw (c.loop-index.invariant.count, c.in_ok-width.ensures) refl);
    }

pub returns : goal.returns
returns c = sym c.loop-index.invariant.left ∙ precincts_end c.args.count c.loop-index.index c.loop-index.precincts c.loop-index.cursor c.loop-index-test.false
