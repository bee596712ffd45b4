use Rattle.std.proofs.Common.{ℕ, ◌+◌, ◌++◌, List, drop, map, refl, sym, ap, ◌∙◌, append_assoc, arith}
use Rattle.jk_boxes.specs.Boxes.{box_text, boxes_text}
use Rattle.jk_extras.specs.Extras.{other_box}
use Rattle.jk_extras.proofs.Sizes.{size_at, text_at}
use Rattle.jk_extras.proofs.putting.put_others.Goals as goal

pub loop-other-init : goal.loop-other-init
loop-other-init c = record { text = refl; low = c.requires }

pub put_other-requires : goal.put_other-requires
put_other-requires c = omega (arith, size_at c.args.others.now c.loop-other.other-index c.other-item.result (omega arith) c.other-item.is, c.loop-other.invariant.low)

pub loop-other-preserved : goal.loop-other-preserved
loop-other-preserved c =
    let os = c.args.others.now in
    let i = c.loop-other.other-index in
    let o = c.other-item.result in
    let more = boxes_text (map other_box (drop (i + 1) os)) in
    let text = text_at os i o (omega arith) c.other-item.is in
    record {
      text = ap (λ (x : List ℕ). x ++ more) c.in_ok-put_other.ensures.ok ∙ append_assoc c.loop-other.out.items (box_text (other_box o)) more
          ∙ ap (λ (x : List ℕ). c.loop-other.out.items ++ x) (sym text) ∙ c.loop-other.invariant.text;
      low = omega (arith, size_at os i o (omega arith) c.other-item.is, c.loop-other.invariant.low);
    }
