use Rattle.jk_wave.specs.Levels.{part_list}
use Rattle.jk_wave.proofs.Descending.{part_done}
use Rattle.jk_wave.proofs.sweep.analyse_plane.Goals as goal

pub returns-clause-parts : goal.returns-clause-parts
returns-clause-parts g c o few =
    part_done c.args.area.now o (g.S.RowSource.value_at c.args.source.now) (part_list c.fill.new.parts o) few (c.in_ok-fill.ensures.parts o few)
