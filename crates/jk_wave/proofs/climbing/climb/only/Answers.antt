use Rattle.std.proofs.Common.{◌++◌, ap, ◌∙◌}
use Rattle.jk_wave.specs.climbing.Held.{column_sample}
use Rattle.jk_wave.proofs.climbing.Given.{one_row}
use Rattle.jk_wave.proofs.climbing.climb.only.Goals as goal

pub returns-clause-samples : goal.returns-clause-samples
returns-clause-samples c f here =
    let a = c.args.area.now in
    c.in_ok-extend_from_slice.ensures.items
    ∙ ap (λ r. c.args.out.now.items ++ r) (one_row a (column_sample a f) a.y0 a.y1 c.make_only.new.row c.requires.one (c.make_only.ensures f here))
