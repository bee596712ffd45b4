use Rattle.std.proofs.Common.{◌-◌, ◌*◌, ◌≤◌, ◌^◌, ◌∷◌, ℕ, length, min, ap, sym, ◌∙◌, arith}
use Rattle.std.proofs.Math.Nat.{mul-le-mul_right}
use Rattle.jk_marks.specs.Siz.{tile_count}
use Rattle.jk_packet.specs.PacketText.{eph_text}
use Rattle.jk_window.specs.Planning.{PlanFields, plan_length}
use Rattle.jk_window.proofs.PartPlans.{tile_at, part_at}
use Rattle.jk_window.proofs.PartLaws.{count_few, ends_long}
use Rattle.jk_window.proofs.Beside.{part_count, beside_size}
use Rattle.jk_window.proofs.planning.content_length.Goals as goal

pub count-count-requires-clause-part : goal.count-count-requires-clause-part
count-count-requires-clause-part c =
    let long = ends_long _ _ c.parts-parts.result.now.ends.items c.parts-parts.ensures.ends.ends in
    omega (arith, long, c.requires.head.number)

few_bytes : (m most k : ℕ) → m ≤ most → most ≤ 2 ^ 24 → k ≤ 3 → m * k ≤ 2 ^ 26
few_bytes m most k a b small =
    let bound : m * k ≤ 2 ^ 24 * k = mul-le-mul_right k (omega (arith, a, b)) in
    omega (arith, bound, small)

pub overflow_mul-result : goal.overflow_mul-result
overflow_mul-result c =
    let count = c.count-count.ensures in
    let few = count_few 0 _ c.parts-parts.result.now.ends.items c.args.head.now.number c.parts-parts.ensures.ends.ends.ascend in
    let bound = few_bytes c.count-count.result _ c.emptied_size-size.result (omega (arith, count, few)) c.parts-parts.ensures.few c.emptied_size-size.ensures.small in
    record { fits = omega (arith, bound) }

pub returns-then-emptied : goal.returns-then-emptied
returns-then-emptied c = λ w v plans.
    let i = c.args.index.now in
    let t = c.args.head.now.tile in
    let n = c.args.head.now.number in
    let m = c.count-count.result in
    let count = c.count-count.ensures in
    let few = count_few 0 _ c.parts-parts.result.now.ends.items n c.parts-parts.ensures.ends.ends.ascend in
    let bound = few_bytes m _ c.emptied_size-size.result (omega (arith, count, few)) c.parts-parts.ensures.few c.emptied_size-size.ensures.small in
    let plan = tile_at i w v (tile_count i.headers.siz) t c.args.tiles.now c.index-tiles-tile.result plans c.requires.head.tile c.index-tiles-tile.is in
    let are = plan.emptied (sym c.is_emptied-emptied.ensures ∙ c.if-emptied.true) in
    let size = beside_size i w v t n m are (part_count i t n c.parts-parts.result.now c.parts-parts.ensures.ends c.parts-parts.ensures.all ∙ sym count) in
    let eph = c.parts-parts.ensures.ends.eph in
    let each = c.emptied_size-size.ensures.size ∙ ap (λ b. length (0 ∷ eph_text b)) eph in
    let all = ap (λ q. m * q) each in
    omega (arith, bound, size, all)

pub part-requires : goal.part-requires
part-requires c =
    let i = c.args.index.now in
    let t = c.args.head.now.tile in
    let w = c.requires.plans.0 in
    let v = c.requires.plans.1 in
    let plan = tile_at i w v (tile_count i.headers.siz) t c.args.tiles.now c.index-tiles-tile.result c.requires.plans.2 c.requires.head.tile c.index-tiles-tile.is in
    (part_at i w v t c.args.head.now.number c.index-tiles-tile.result plan (sym c.is_emptied-emptied.ensures ∙ c.if-emptied.false) c.requires.head.number).0

pub returns : goal.returns
returns c = λ w v plans.
    let i = c.args.index.now in
    let t = c.args.head.now.tile in
    let plan = tile_at i w v (tile_count i.headers.siz) t c.args.tiles.now c.index-tiles-tile.result plans c.requires.head.tile c.index-tiles-tile.is in
    let part = part_at i w v t c.args.head.now.number c.index-tiles-tile.result plan (sym c.is_emptied-emptied.ensures ∙ c.if-emptied.false) c.requires.head.number in
    let long = ap (λ (p : PlanFields). plan_length p) c.part.ensures ∙ part.1.long in
    c.length.ensures ∙ ap (λ k. min k (2 ^ 64 - 1)) long
