use Rattle.jk_tile.specs.encoding.Strips.{row_values, layered_at}
use Rattle.jk_tile.proofs.encoding.StripBlocks.{part_more}
use Rattle.jk_tile.proofs.encoding.row_coding.code_part.Goals as goal

pub layered_part-requires-clause-j : goal.layered_part-requires-clause-j
layered_part-requires-clause-j c = c.in-Some.ensures.some.0.each c.loop-k.k c.loop-k-test.true

pub loop-k-preserved : goal.loop-k-preserved
loop-k-preserved c =
    let w = c.args.strip in
    let p = c.in-Some.part in
    record {
      ahead = c.layered_part.ensures.ahead;
      coded = part_more (layered_at c.args.source.now (row_values w) w.resolution p.precinct w.band) p.first c.loop-k.k c.in_ok-layered_part.field-0 c.args.coded.now.items c.loop-k.coded.items c.push.new.self.items
          c.in_ok-layered_part.ensures.value c.loop-k.invariant.coded c.in_ok-push.ensures.items;
    }
