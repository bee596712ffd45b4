use Rattle.std.proofs.Common.{◌++◌, ◌+◌, ℕ, List, take, drop, sym, ap, subst, ◌∙◌}
use Rattle.std.specs.List.{flat_map}
use Rattle.std.proofs.lemmas.List.{take_all}
use Rattle.std.proofs.lemmas.Result.{err_from_is_err_and}
use Rattle.jk_packet.specs.Written.{Table, part_in}
use Rattle.jk_tile.proofs.encoding.Passing.{front_more, passed_more, passed_rest}
use Rattle.jk_tile.proofs.encoding.packets.pass_bodies.Goals as goal

pub loop-table-init : goal.loop-table-init
loop-table-init g c = g.met.S.TextSink.none c.args.sink.now

pub loop-table-preserved : goal.loop-table-preserved
loop-table-preserved g c =
    let f = λ (t : Table). (part_in t c.args.layer).1 in
    let xs = c.args.tables.now in
    let i = c.loop-table.table-index in
    let before = flat_map f (take i xs) in
    let passed = c.in_ok-take.ensures in
    subst (λ (l : List ℕ). g.S.TextSink.took c.args.sink.now l c.take.new.self)
    (ap (λ (l : List ℕ). before ++ l) (passed.2 ∙ c.bytes.ensures) ∙ passed_more f xs i c.table-item.result c.loop-table-test.true c.table-item.is)
    (g.met.S.TextSink.joined c.args.sink.now c.loop-table.sink c.take.new.self before passed.0 c.loop-table.invariant passed.1)

pub returns-in_err-take : goal.returns-in_err-take
returns-in_err-take g c =
    let f = λ (t : Table). (part_in t c.args.layer).1 in
    let xs = c.args.tables.now in
    let i = c.loop-table.table-index in
    let before = flat_map f (take i xs) in
    let passed = c.in_err-take.ensures in
    let same = err_from_is_err_and c.from_residual.result c.from_residual.ensures.1 in
    rw (same.1, same.2) (
      before ++ passed.0,
      g.met.S.TextSink.joined c.args.sink.now c.loop-table.sink c.take.new.self before passed.0 c.loop-table.invariant passed.1,
      (passed.2.0, front_more before passed.0 c.bytes.result.now _ _ passed.2.1 (passed_rest f xs i c.table-item.result c.loop-table-test.true c.table-item.is ∙ ap (λ (l : List ℕ). before ++ (l ++ flat_map f (drop (i + 1) xs))) (sym c.bytes.ensures))),
    )

pub returns : goal.returns
returns g c =
    let f = λ (t : Table). (part_in t c.args.layer).1 in
    let all = ap (λ (ts : List Table). flat_map f ts) (take_all c.loop-table.table-index c.args.tables.now c.loop-table-test.false) in (flat_map f (take c.loop-table.table-index c.args.tables.now), c.loop-table.invariant, all)
