-- Each order packs its numbers, with the place of the next packet's precinct.
use Rattle.std.proofs.Common.{sym, ap, ◌∙◌}
use Rattle.jk_marks.specs.declared.segments.Order.{Order}
use Rattle.jk_order.specs.Streams.{rank_at, column_x, row_y}
use Rattle.jk_order.proofs.Ranks.{placed_rank}
use Rattle.jk_order.proofs.stream.Stream.rank.Goals as goal

pub returns-in-Lrcp : goal.returns-in-Lrcp
returns-in-Lrcp c =
    let s = c.args.self.now in
    let f = c.args.frame.now in
    let by = ap (λ (o : Order). rank_at o s.layer s.resolution s.component s.precinct (column_x f s s.column) (row_y f s s.row)) c.in-Lrcp.is in
    c.packed.ensures ∙ sym (placed_rank f s c.requires.placed ∙ by)

pub returns-in-Rlcp : goal.returns-in-Rlcp
returns-in-Rlcp c =
    let s = c.args.self.now in
    let f = c.args.frame.now in
    let by = ap (λ (o : Order). rank_at o s.layer s.resolution s.component s.precinct (column_x f s s.column) (row_y f s s.row)) c.in-Rlcp.is in
    c.packed-in-Rlcp.ensures ∙ sym (placed_rank f s c.requires.placed ∙ by)

pub returns-in-Rpcl : goal.returns-in-Rpcl
returns-in-Rpcl c =
    let s = c.args.self.now in
    let f = c.args.frame.now in
    let by = ap (λ (o : Order). rank_at o s.layer s.resolution s.component s.precinct (column_x f s s.column) (row_y f s s.row)) c.in-Rpcl.is in
    rw (c.y.ensures, c.x.ensures) at c.packed-in-Rpcl.ensures ∙ sym (placed_rank f s c.requires.placed ∙ by)

pub returns-in-Pcrl : goal.returns-in-Pcrl
returns-in-Pcrl c =
    let s = c.args.self.now in
    let f = c.args.frame.now in
    let by = ap (λ (o : Order). rank_at o s.layer s.resolution s.component s.precinct (column_x f s s.column) (row_y f s s.row)) c.in-Pcrl.is in
    rw (c.y-in-Pcrl.ensures, c.x-in-Pcrl.ensures) at c.packed-in-Pcrl.ensures ∙ sym (placed_rank f s c.requires.placed ∙ by)

pub returns-in-Cprl : goal.returns-in-Cprl
returns-in-Cprl c =
    let s = c.args.self.now in
    let f = c.args.frame.now in
    let by = ap (λ (o : Order). rank_at o s.layer s.resolution s.component s.precinct (column_x f s s.column) (row_y f s s.row)) c.in-Cprl.is in
    rw (c.y-in-Cprl.ensures, c.x-in-Cprl.ensures) at c.packed-in-Cprl.ensures ∙ sym (placed_rank f s c.requires.placed ∙ by)
