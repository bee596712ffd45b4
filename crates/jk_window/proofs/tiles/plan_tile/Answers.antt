use Rattle.jk_window.proofs.tiles.plan_tile.Goals as goal

pub returns-then-emptied-clause-plans : goal.returns-then-emptied-clause-plans
returns-then-emptied-clause-plans c = record {
  emptied = λ _. c.is_emptied-emptied.ensures c.if-emptied.true;
  planned = λ never. absurd cc;
}
