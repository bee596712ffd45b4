use Rattle.std.proofs.Common.{ℕ, ◌%◌, ◌++◌, Bool, List, ap, ◌∙◌}
use Rattle.jk_packet.specs.Shapes.{bands_of}
use Rattle.jk_packet.specs.PacketText.{eph_text}
use Rattle.jk_packet.specs.Written.{sop_text, banded}
use Rattle.jk_packet.proofs.PrecinctWriting.{header_by}
use Rattle.jk_packet.proofs.writer.push_head.Goals as goal

pub returns-clause-ok : goal.returns-clause-ok
returns-clause-ok c =
    let shapes = bands_of c.args.shape.now in
    let out = c.args.out.now.items in
    let header = c.deref.result.now in
    c.in_ok-push_header.ensures.ok
    ∙ ap (λ (b : Bool). out ++ (sop_text b (c.args.place.number % 65536) ++ (header ++ eph_text c.eph.result))) c.sop.ensures
    ∙ ap (λ (b : Bool). out ++ (sop_text c.args.shape.now.sop (c.args.place.number % 65536) ++ (header ++ eph_text b))) c.eph.ensures
    ∙ header_by shapes c.args.shape.now.sop c.args.shape.now.eph (banded shapes c.args.tables.now) c.args.place.layer c.args.place.number out header (c.deref.ensures.value ∙ c.in_ok-header.ensures.told)
