use Rattle.std.proofs.Common.{◌≤◌, length, rules, arith}
use Rattle.jk_math.specs.Picture.{IsPlane}
use Rattle.jk_math.proofs.PictureLemmas.{all_lists_of, all_from_lists_of, length_lists_of}
use Rattle.jk_math.proofs.image.are_components.Goals as goal

pub returns : goal.returns
returns c =
    let planes = c.args.planes.now in
    let plane = IsPlane c.args.area c.args.depth c.args.signed in
    let count = length_lists_of planes in
    let some_bits : 1 ≤ c.args.depth = search rules in
    let few_bits : c.args.depth ≤ 16 = search rules in
    let some : 1 ≤ length planes = search rules in
    let few : length planes ≤ 4 = search rules in (
      λ t. record {
        some_bits = some_bits;
        few_bits = few_bits;
        some = omega arith;
        few = omega arith;
        each = all_lists_of plane planes (c.are_planes.ensures.0 t);
      },
      λ h. c.are_planes.ensures.1 (all_from_lists_of plane planes h.each),
    )
