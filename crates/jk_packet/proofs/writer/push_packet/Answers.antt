use Rattle.std.proofs.Common.{ℕ, ◌++◌, List, append_assoc, ap, ◌∙◌}
use Rattle.std.specs.List.{flat_map}
use Rattle.jk_packet.specs.Shapes.{bands_of}
use Rattle.jk_packet.specs.Written.{Table, part_in, header_in, banded}
use Rattle.jk_packet.proofs.PrecinctWriting.{bodies_flat}
use Rattle.jk_packet.proofs.writer.push_packet.Goals as goal

pub returns-clause-ok : goal.returns-clause-ok
returns-clause-ok c =
    let shapes = bands_of c.args.shape.now in
    let flat = c.args.tables.now in
    let out = c.args.out.now.items in
    let bodies = flat_map (λ (t : Table). (part_in t c.args.place.layer).1) flat in
    let head = header_in shapes c.args.shape.now.sop c.args.shape.now.eph (banded shapes flat) c.args.place.layer c.args.place.number in
    c.in_ok-push_bodies.ensures.ok ∙ ap (λ (bs : List ℕ). bs ++ bodies) c.in_ok-push_head.ensures.ok ∙ append_assoc out head bodies
    ∙ ap (λ (bs : List ℕ). out ++ (head ++ bs)) (bodies_flat shapes flat c.args.place.layer c.requires.whole)
