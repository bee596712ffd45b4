use Rattle.std.proofs.Common.{◌<◌, Bool, not, length, sym, ap, ◌∙◌, arith}
use Rattle.jk_marks.specs.declared.segments.Cod.{Cod}
use Rattle.jk_params.specs.Headers.{tile_in}
use Rattle.jk_window.proofs.Laws.{below_fails}
use Rattle.jk_commands.specs.AllLines.{flag_in}
use Rattle.jk_commands.proofs.coding_values.none_has.Goals as goal

pub returns-then-of : goal.returns-then-of
returns-then-of c =
    let h = c.args.headers.now in
    let t = c.loop-number.number in
    let test : Cod → Bool = λ cod. not (flag_in c.args.flag cod) in
    let lt : t < length h.tiles = omega (arith, c.loop-number-test.true, c.loop-number.invariant.end_is) in
    sym (below_fails (λ t. test (tile_in h.tiles t).cod) (length h.tiles) t lt (ap test (sym c.cod.ensures) ∙ ap not (sym c.if-of.ensures)))
