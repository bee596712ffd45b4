use Rattle.std.proofs.Common.{◌<◌, Bool, List, length, sym, ap, ◌∙◌, arith}
use Rattle.std.specs.List.{list_all}
use Rattle.jk_marks.specs.declared.coding.Coding.{Coding}
use Rattle.jk_params.specs.Headers.{tile_in}
use Rattle.jk_window.proofs.Laws.{below_fails}
use Rattle.jk_commands.specs.AllLines.{has_style}
use Rattle.jk_commands.proofs.coding_values.all_have_style.Goals as goal

pub returns-then-not-have_style : goal.returns-then-not-have_style
returns-then-not-have_style c =
    let h = c.args.headers.now in
    let t = c.loop-number.number in
    let test : List Coding → Bool = λ ks. list_all (has_style c.args.style) ks in
    let lt : t < length h.tiles = omega (arith, c.loop-number-test.true, c.loop-number.invariant.end_is) in
    sym (below_fails (λ t. test (tile_in h.tiles t).codings) (length h.tiles) t lt (sym (ap test c.codings.ensures) ∙ sym c.if-not-have_style.ensures))
