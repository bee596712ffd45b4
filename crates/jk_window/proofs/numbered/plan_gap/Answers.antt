use Rattle.std.proofs.lemmas.Result.{on_ok_weaker}
use Rattle.jk_window.proofs.NumberedPlans.{gap_planned}
use Rattle.jk_window.proofs.numbered.plan_gap.Goals as goal

pub returns-clause-ok : goal.returns-clause-ok
returns-clause-ok c =
    on_ok_weaker c.write_emptied.result
    (λ is. gap_planned c.args.tile.now c.args.plan.now c.write_emptied.new.self c.args.first c.args.behind
    c.requires.cut.entries.count c.requires.none (c.requires.cut.counters c.if-counted.false) c.requires.order c.requires.within is)
    c.write_emptied.ensures.ok
