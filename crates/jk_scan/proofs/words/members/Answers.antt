use Rattle.std.proofs.Common.{◌+◌, ◌-◌, ◌*◌, arith}
use Rattle.jk_scan.specs.Words.{of_rows, of_gathered, up_down}
use Rattle.jk_scan.proofs.Neighbours.{members_seen, shown_at, line_of}
use Rattle.jk_scan.proofs.words.members.Goals as goal

pub returns : goal.returns
returns c f m j s h hi =
    members_seen c.with_columns.result c.args.seen.centre c.args.inside (omega arith) f m (j + 1) (s + 1) h.centre hi
    (λ n i p q row. c.with_columns.ensures (λ x. up_down f x (4 * (s + 1) + i - 1)) j i q
    (line_of of_rows (up_down f) (j + 1) (s + 1) i c.with_rows.result q row (c.with_rows.ensures f (j + 1) s (shown_at of_gathered f (j + 1) (s + 1) c.args.seen.centre h.centre)))
    (line_of of_rows (up_down f) j (s + 1) i c.with_rows-2.result q row (c.with_rows-2.ensures f j s (shown_at of_gathered f j (s + 1) c.args.seen.west h.west)))
    (line_of of_rows (up_down f) (j + 2) (s + 1) i c.with_rows-3.result q row (c.with_rows-3.ensures f (j + 2) s (shown_at of_gathered f (j + 2) (s + 1) c.args.seen.east h.east))) n p)
