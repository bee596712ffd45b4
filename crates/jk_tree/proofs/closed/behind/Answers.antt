use Rattle.std.proofs.Common.{◌<◌, sym, subst}
use Rattle.jk_tree.proofs.Closing.{in_square, next_square, square_fits}
use Rattle.jk_tree.proofs.closed.behind.Goals as goal

pub returns-clause-after : goal.returns-clause-after
returns-clause-after c = subst (λ n. c.args.place < n) (sym (square_fits c.args.place c.args.level c.requires.place c.requires.level)) (next_square c.args.place c.args.level)

pub returns-clause-same : goal.returns-clause-same
returns-clause-same c = λ x from to. in_square c.args.place x c.args.level from (subst (λ n. x < n) (square_fits c.args.place c.args.level c.requires.place c.requires.level) to)
