use Rattle.jk_wave.specs.declared.parts.LevelParts.{LevelParts}
use Rattle.jk_wave.proofs.falling.Thin.{none_kept}
use Rattle.jk_wave.proofs.falling.level.FallingLevel.clear.Goals as goal

pub returns-clause-none : goal.returns-clause-none
returns-clause-none c o some few =
    let parts : LevelParts = record { ll = c.args.self.now.parts.ll; hl = c.clear.new.self; lh = c.clear-2.new.self; hh = c.clear-3.new.self } in
    none_kept parts o some c.clear.ensures.items c.clear-2.ensures.items c.clear-3.ensures.items
