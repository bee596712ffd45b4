use Rattle.std.proofs.Common.{◌≡◌, ◌≤◌, List, length, subst, sym, ap, ◌∙◌, arith, length-append}
use Rattle.jk_packet.specs.declared.table.LayerPart.{LayerPart}
use Rattle.jk_packet.specs.Written.{AreEnds}
use Rattle.jk_packet.proofs.Laws.{ends_wider, ends_push}
use Rattle.vectors_packet.proofs.writing.push_part.Goals as goal

pub returns : goal.returns
returns c =
    let long = length-append c.args.bytes.now.items c.args.body.now in
    let all = ap length c.in_ok-extend_from_slice.ensures.items in
    let size = c.len-length.ensures in
    let own = c.extend_from_slice.new.self.ok.0 in
    subst (λ (ps : List LayerPart). AreEnds 0 ps (length c.extend_from_slice.new.self.items)) (sym c.in_ok-push.ensures.items)
    (ends_push 0 c.args.parts.now.items (length c.args.bytes.now.items) (length c.extend_from_slice.new.self.items) _ (omega arith) c.requires (omega (arith, long, all, size, own)) (omega (arith, size, own)))

pub returns-then-length : goal.returns-then-length
returns-then-length c =
    let long = length-append c.args.bytes.now.items c.args.body.now in
    let all = ap length c.in_ok-extend_from_slice.ensures.items in
    ends_wider 0 c.args.parts.now.items (length c.args.bytes.now.items) (length c.extend_from_slice.new.self.items) (omega (arith, long, all)) c.requires
