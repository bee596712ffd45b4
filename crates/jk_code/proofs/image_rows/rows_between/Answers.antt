use Rattle.std.proofs.Common.{◌≡◌, ◌+◌, ◌*◌, ◌-◌, ◌<◌, ◌≤◌, ℕ, List, ℤ, [], length, map, take, drop, get_or, sym, ap, subst, ◌∙◌}
use Rattle.std.specs.List.{range_with_len}
use Rattle.jk_math.specs.Lists.{lists_of}
use Rattle.jk_math.specs.Steps.{if_ok}
use Rattle.jk_code.proofs.ImageLaws.{IsPartOf, IsCut, part_long, cut_picture, cut_made, not_refused}
use Rattle.jk_code.proofs.image_rows.rows_between.Goals as goal

pub planes_between-requires-clause-long : goal.planes_between-requires-clause-long
planes_between-requires-clause-long c k lt =
    let p = c.args.image.now in
    let y = c.args.from in
    let z = c.args.to in
    let first : ℕ = (y - c.y0.result) * c.width-width.result in
    let count : ℕ = (z - y) * c.width-width.result in
    let part : IsPartOf p y z first count = record {
      low = c.requires.from;
      order = c.requires.order;
      high = c.requires.inside;
      first_is = ap (λ t. (y - t) * c.width-width.result) c.y0.ensures ∙ ap (λ t. (y - p.y0) * t) c.width-width.ensures.value;
      count_is = ap (λ t. (z - y) * t) c.width-width.ensures.value;
    } in
    subst (λ (ps : List (List ℤ)). first + count ≤ length (get_or ps k [])) (sym c.planes.ensures)
    (part_long p y z first count k c.width-width.ensures.profile part (subst (λ (ps : List (List ℤ)). k < length ps) c.planes.ensures lt))

pub returns-clause-rows : goal.returns-clause-rows
returns-clause-rows c =
    let p = c.args.image.now in
    let y = c.args.from in
    let z = c.args.to in
    let first : ℕ = (y - c.y0.result) * c.width-width.result in
    let count : ℕ = (z - y) * c.width-width.result in
    let part : IsPartOf p y z first count = record {
      low = c.requires.from;
      order = c.requires.order;
      high = c.requires.inside;
      first_is = ap (λ t. (y - t) * c.width-width.result) c.y0.ensures ∙ ap (λ t. (y - p.y0) * t) c.width-width.ensures.value;
      count_is = ap (λ t. (z - y) * t) c.width-width.ensures.value;
    } in
    let planes = lists_of c.in_ok-planes.planes.items in
    let same : planes ≡ map (λ k. take count (drop first (get_or p.planes k []))) (range_with_len 0 (length p.planes)) =
    c.in_ok-planes.ensures.value ∙ ap (λ (ps : List (List ℤ)). map (λ k. take count (drop first (get_or ps k []))) (range_with_len 0 (length ps))) c.planes.ensures in
    let cut : IsCut p y z c.x0.result c.width.result c.depth.result c.signed.result planes = record { left = c.x0.ensures.value; wide = c.width.ensures.value; deep = c.depth.ensures; sign = c.signed.ensures } in
    if_ok c.new.result (λ v value. cut_made p v y z first count c.x0.result c.width.result c.depth.result c.signed.result planes c.width-width.ensures.profile part same cut value) c.new.ensures.value

pub returns-clause-memory : goal.returns-clause-memory
returns-clause-memory c =
    let p = c.args.image.now in
    let y = c.args.from in
    let z = c.args.to in
    let first : ℕ = (y - c.y0.result) * c.width-width.result in
    let count : ℕ = (z - y) * c.width-width.result in
    let part : IsPartOf p y z first count = record {
      low = c.requires.from;
      order = c.requires.order;
      high = c.requires.inside;
      first_is = ap (λ t. (y - t) * c.width-width.result) c.y0.ensures ∙ ap (λ t. (y - p.y0) * t) c.width-width.ensures.value;
      count_is = ap (λ t. (z - y) * t) c.width-width.ensures.value;
    } in
    let planes = lists_of c.in_ok-planes.planes.items in
    let same : planes ≡ map (λ k. take count (drop first (get_or p.planes k []))) (range_with_len 0 (length p.planes)) =
    c.in_ok-planes.ensures.value ∙ ap (λ (ps : List (List ℤ)). map (λ k. take count (drop first (get_or ps k []))) (range_with_len 0 (length ps))) c.planes.ensures in
    let cut : IsCut p y z c.x0.result c.width.result c.depth.result c.signed.result planes = record { left = c.x0.ensures.value; wide = c.width.ensures.value; deep = c.depth.ensures; sign = c.signed.ensures } in
    not_refused c.new.result _ (c.new.ensures.made (cut_picture p y z first count c.x0.result c.width.result c.depth.result c.signed.result planes c.width-width.ensures.profile part same cut))
