use Rattle.std.proofs.Common.{◌≡◌, ◌<◌, ◌^◌, ◌++◌, drop, map}
use Rattle.jk_boxes.specs.Boxes.{boxes_text}
use Rattle.jk_extras.specs.Extras.{other_box}
use Rattle.jk_extras.proofs.Sizes.{others_size}
use Rattle.jk_extras.proofs.putting.put_others.Given as goal

abbrev pub invariant-loop-other : goal.invariant-loop-other
invariant-loop-other l = record {
  text : l.out.items ++ boxes_text (map other_box (drop l.other-index l.others)) ≡ l.fn.out.items ++ boxes_text (map other_box l.others);
  low : others_size (drop l.other-index l.others) < 2 ^ 32;
}
