use Rattle.std.proofs.Common.{◌<◌, nat_le, List, sym, ap, ◌∙◌, arith}
use Rattle.std.specs.List.{list_all}
use Rattle.jk_marks.specs.Siz.{tile_count}
use Rattle.jk_marks.specs.declared.coding.Coding.{Coding}
use Rattle.jk_params.specs.Headers.{tile_in}
use Rattle.jk_params.specs.Levels.{has_levels}
use Rattle.jk_params.proofs.Below.{below_fails}
use Rattle.jk_params.proofs.levels.tiles_have_levels.Goals as goal

pub returns-then-not-codings_have_levels : goal.returns-then-not-codings_have_levels
returns-then-not-codings_have_levels c =
    let h = c.args.headers.now in
    let t = c.loop-number.number in
    let lt : t < tile_count h.siz = omega (arith, c.loop-number-test.true, c.loop-number.invariant.end_is) in
    let same = ap (λ (ks : List Coding). list_all (λ (k : Coding). nat_le c.args.levels k.levels) ks) c.codings.ensures in
    sym (below_fails (λ t. has_levels c.args.levels (tile_in h.tiles t)) (tile_count h.siz) t lt (sym same ∙ sym c.if-not-codings_have_levels.ensures))
