use Rattle.std.proofs.Common.{◌++◌, List, ap, ◌∙◌}
use Rattle.std.specs.List.{flat_map}
use Rattle.std.proofs.lemmas.List.{take_all}
use Rattle.jk_packet.specs.Written.{Table, part_in}
use Rattle.jk_packet.proofs.writer.push_bodies.Goals as goal

pub returns-in_err-extend_from_slice-clause-front : goal.returns-in_err-extend_from_slice-clause-front
returns-in_err-extend_from_slice-clause-front c = record { more = _; text = c.in_err-extend_from_slice.ensures.items ∙ c.loop-table.invariant }

pub returns-clause-ok : goal.returns-clause-ok
returns-clause-ok c =
    c.loop-table.invariant
    ∙ ap (λ (ts : List Table). c.args.out.now.items ++ flat_map (λ (t : Table). (part_in t c.args.layer).1) ts) (take_all c.loop-table.table-index c.args.tables.now c.loop-table-test.false)

pub returns-clause-front : goal.returns-clause-front
returns-clause-front c = record { more = _; text = c.loop-table.invariant }
