use Rattle.std.proofs.Common.{◌+◌, ◌-◌, ◌*◌, ◌/◌, ◌%◌, arith}
use Rattle.jk_scan.proofs.Adding.{rows_between}
use Rattle.jk_scan.proofs.Beside.{column_from, at_place}
use Rattle.jk_scan.proofs.columns.columns_at.Goals as goal

pub returns-clause-west : goal.returns-clause-west
returns-clause-west c f j s h =
    let k = c.args.k in
    let b = rows_between (k % 8) c.requires.on_row in
    column_from c.moved_right.result f (8 * (j + 1) + k / 8 + 0 - 1) (8 * (j + 1) + k / 8 - 1) s k (omega arith) b.0 b.1 (omega arith)
    (λ i q. c.moved_right.ensures f j (s + 1) (k / 8) i h.centre h.west (omega arith) q)

pub returns-clause-centre : goal.returns-clause-centre
returns-clause-centre c f j s h =
    let k = c.args.k in
    let b = rows_between (k % 8) c.requires.on_row in
    column_from c.args.seen.centre f (8 * (j + 1) + k / 8 + 1 - 1) (8 * (j + 1) + k / 8) s k (omega arith) b.0 b.1 (omega arith)
    (λ i q. at_place f (j + 1) (s + 1) c.args.seen.centre (k / 8) i (8 * (j + 1) + k / 8) (4 * (s + 1) + i - 1) h.centre (omega arith) q (omega arith) (omega arith))

pub returns-clause-east : goal.returns-clause-east
returns-clause-east c f j s h =
    let k = c.args.k in
    let b = rows_between (k % 8) c.requires.on_row in
    column_from c.moved_left.result f (8 * (j + 1) + k / 8 + 2 - 1) (8 * (j + 1) + k / 8 + 1) s k (omega arith) b.0 b.1 (omega arith)
    (λ i q. c.moved_left.ensures f j (s + 1) (k / 8) i h.centre h.east (omega arith) q)
