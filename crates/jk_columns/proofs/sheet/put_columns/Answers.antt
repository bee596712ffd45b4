use Rattle.std.proofs.Common.{◌+◌, refl, arith}
use Rattle.jk_columns.proofs.Joining.{put_none, put_more, column_small, sheet_less}
use Rattle.jk_columns.proofs.sheet.put_columns.Goals as goal

pub loop-c-init : goal.loop-c-init
loop-c-init c = put_none c.args.rows.now c.args.members c.args.ones c.args.runs c.args.bytes.now c.args.count

pub put_column-count-requires-clause-index : goal.put_column-count-requires-clause-index
put_column-count-requires-clause-index c = (c.index_at.ensures c.args.members c.args.ones c.indices-indices.ensures.low c.indices-indices.ensures.high).small

pub put_column-count-requires-clause-small : goal.put_column-count-requires-clause-small
put_column-count-requires-clause-small c =
    let rows = c.args.rows.now in
    let l = c.loop-c in
    column_small rows l.c c.column-own.result c.loop-c-test.true c.requires.bits c.requires.signs (c.column-own.ensures rows.bits rows.signs c.columns-columns.result l.c c.loop-c-test.true c.columns-columns.ensures refl)

pub put_column-count-requires-clause-room : goal.put_column-count-requires-clause-room
put_column-count-requires-clause-room c =
    let l = c.loop-c in
    let few = l.invariant.few in
    let within = c.loop-c-test.true in
    sheet_less l.bytes (c.args.count + 96) (l.count + 16) (l.invariant.sheet (c.args.count + 96) c.requires.room) (omega (arith, few, within))

pub loop-c-preserved : goal.loop-c-preserved
loop-c-preserved c =
    let rows = c.args.rows.now in
    let l = c.loop-c in
    let next = c.put_column-count in
    put_more rows c.args.members c.args.ones c.args.runs c.args.bytes.now c.args.count l.bytes next.new.bytes l.count next.result l.c c.index_at.result c.column-own.result
    l.invariant c.loop-c-test.true (c.column-own.ensures rows.bits rows.signs c.columns-columns.result l.c c.loop-c-test.true c.columns-columns.ensures refl)
    (c.index_at.ensures c.args.members c.args.ones c.indices-indices.ensures.low c.indices-indices.ensures.high)
    next.ensures.told next.ensures.few next.ensures.sheet
