use Rattle.std.proofs.Common.{◌∙◌}
use Rattle.jk_wave.proofs.Leaving.{bands_small}
use Rattle.jk_wave.proofs.forward.analyse_source.Goals as goal

pub returns-clause-small : goal.returns-clause-small
returns-clause-small g c =
    bands_small c.args.rect.now c.args.levels (g.S.RowSource.value_at c.args.source.now) c.new.result c.requires.levels c.requires.small (c.new.ensures ∙ c.in_ok-bands.ensures.exact)
