use Rattle.jk_boxes.specs.Boxes.{box_text}
use Rattle.jk_boxes.specs.Written.{header_box}
use Rattle.jk_boxes.proofs.WrittenLaws.{front_joined}
use Rattle.jk_boxes.proofs.writing.front.Goals as goal

pub returns-clause-ok : goal.returns-clause-ok
unfolding box_text
returns-clause-ok c codestream long =
    let h = box_text (header_box c.args.width c.args.height c.args.components c.args.depth) in
    rw (c.in_ok-put_code_head.ensures.ok, c.in_ok-put_header.ensures.ok, c.in_ok-extend_from_slice.ensures.items, c.in_ok-out.ensures.items)
    (front_joined h codestream c.args.size long)
