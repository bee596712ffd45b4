use Rattle.std.proofs.Common.{get_or}
use Rattle.jk_columns.proofs.Paired.{pair_told}
use Rattle.jk_columns.proofs.PairBits.{pairs_none, pairs_more, pair_small}
use Rattle.jk_columns.proofs.pairs.put_pairs.Goals as goal

pub loop-p-init : goal.loop-p-init
loop-p-init c = pairs_none c.args.rows.now c.args.members c.args.bytes.now c.args.count

pub put_pair-count-requires-clause-small : goal.put_pair-count-requires-clause-small
put_pair-count-requires-clause-small c =
    let p = c.loop-p.p in
    pair_small c.args.rows.now (get_or c.pairs-pairs.result p 0) p c.loop-p-test.true c.requires.small (λ k l. c.pairs-pairs.ensures p k c.loop-p-test.true l) c.pair-own.result c.pair-own.ensures.value

pub loop-p-preserved : goal.loop-p-preserved
loop-p-preserved c =
    let rows = c.args.rows.now in
    let l = c.loop-p in
    let next = c.put_pair-count in
    let own = get_or c.pairs-pairs.result l.p 0 in
    pairs_more rows c.args.members c.args.bytes.now c.args.count l.bytes next.new.bytes l.count next.result l.p c.pair_index.result c.pair-own.result l.invariant c.loop-p-test.true
    (pair_told rows c.pair-own.result c.args.members l.p c.pair_index.result own c.loop-p-test.true c.pair-own.ensures.value (λ k h. c.pairs-pairs.ensures l.p k c.loop-p-test.true h) (c.pair_index.ensures c.args.members c.pair_indices-indices.ensures))
    next.ensures.told next.ensures.few next.ensures.sheet
