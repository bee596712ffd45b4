use Rattle.jk_rct.proofs.Pixels.{i1_is, with_i1, with_i1_fits}
use Rattle.jk_rct.proofs.inverse_pixel.Goals as goal

pub overflow_add-result : goal.overflow_add-result
overflow_add-result c =
    let i1 = i1_is c.args.y0 c.args.y1 c.args.y2 c.quarter.result c.requires.y0 c.requires.y1 c.requires.y2 c.quarter.ensures in
    with_i1_fits c.args.y2 _ _ c.requires.y2 i1.0 i1.1

pub overflow_add-result-2 : goal.overflow_add-result-2
overflow_add-result-2 c =
    let i1 = i1_is c.args.y0 c.args.y1 c.args.y2 c.quarter.result c.requires.y0 c.requires.y1 c.requires.y2 c.quarter.ensures in
    with_i1_fits c.args.y1 _ _ c.requires.y1 i1.0 i1.1

pub returns-clause-i0 : goal.returns-clause-i0
returns-clause-i0 c =
    let i1 = i1_is c.args.y0 c.args.y1 c.args.y2 c.quarter.result c.requires.y0 c.requires.y1 c.requires.y2 c.quarter.ensures in
    with_i1 c.args.y2 _ _ c.requires.y2 i1.0 i1.1

pub returns-clause-i1 : goal.returns-clause-i1
returns-clause-i1 c =
    let i1 = i1_is c.args.y0 c.args.y1 c.args.y2 c.quarter.result c.requires.y0 c.requires.y1 c.requires.y2 c.quarter.ensures in
    i1.0

pub returns-clause-i2 : goal.returns-clause-i2
returns-clause-i2 c =
    let i1 = i1_is c.args.y0 c.args.y1 c.args.y2 c.quarter.result c.requires.y0 c.requires.y1 c.requires.y2 c.quarter.ensures in
    with_i1 c.args.y1 _ _ c.requires.y1 i1.0 i1.1
