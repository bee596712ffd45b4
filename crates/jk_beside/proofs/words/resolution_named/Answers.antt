use Rattle.jk_beside.proofs.Decimals.{whole_held, not_none}
use Rattle.jk_beside.proofs.words.resolution_named.Goals as goal

pub returns-in-None-clause-whole : goal.returns-in-None-clause-whole
returns-in-None-clause-whole c n is some small =
    absurd (not_none c.grid.result (c.grid.ensures.some _ (whole_held c.args.text.now n is some small)) c.in-None.is)
