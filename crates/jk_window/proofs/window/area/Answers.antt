use Rattle.std.proofs.Common.{sym, arith}
use Rattle.jk_params.proofs.Laws.{few_levels}
use Rattle.jk_window.proofs.window.area.Goals as goal

pub overflow_cast-view : goal.overflow_cast-view
overflow_cast-view c = let few = few_levels c.requires.0 c.args.view.reduce c.args.headers.now c.requires.1 (sym c.if-not-has_levels.ensures) in omega (arith, few)

pub reduced_image-area-requires-clause-levels : goal.reduced_image-area-requires-clause-levels
reduced_image-area-requires-clause-levels c = few_levels c.requires.0 c.args.view.reduce c.args.headers.now c.requires.1 (sym c.if-not-has_levels.ensures)

pub returns-clause-few : goal.returns-clause-few
returns-clause-few c = few_levels c.requires.0 c.args.view.reduce c.args.headers.now c.requires.1 (sym c.if-not-has_levels.ensures)
