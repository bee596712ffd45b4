use Rattle.std.proofs.Common.{map, refl, ap, ◌∙◌}
use Rattle.std.proofs.lemmas.List.{take_all}
use Rattle.jk_tile.specs.encoding.Ahead.{layered_block}
use Rattle.jk_tile.proofs.encoding.AheadLaws.{groups_more}
use Rattle.jk_tile.proofs.encoding.ahead.groups.Goals as goal

pub loop-from-preserved : goal.loop-from-preserved
loop-from-preserved c = record {
  inside = c.group_size-count.ensures.inside;
  upto = groups_more c.args.layers c.args.blocks.now c.loop-from.from c.group_size-count.result _ c.loop-from.jobs.items c.push.new.self.items c.requires refl c.part.ensures c.loop-from.invariant.upto c.in_ok-push.ensures.items;
}

pub returns-clause-groups : goal.returns-clause-groups
returns-clause-groups c = record {
  groups = c.loop-from.invariant.upto.groups;
  whole = c.loop-from.invariant.upto.whole ∙ ap (map (layered_block c.args.layers)) (take_all c.loop-from.from c.args.blocks.now c.loop-from-test.false);
}
