use Rattle.std.proofs.Common.{◌*◌, ◌<◌, ◌^◌, ◌∷◌, length, ap, sym, ◌∙◌, subst, arith}
use Rattle.std.proofs.lemmas.Result.{on_ok_weaker}
use Rattle.jk_marks.specs.Siz.{tile_count}
use Rattle.jk_marks.specs.PartHeads.{psot_for}
use Rattle.jk_packet.specs.PacketText.{eph_text}
use Rattle.jk_window.specs.Planning.{PlanFields, plan_length, IsPartPlan}
use Rattle.jk_window.proofs.PartPlans.{tile_at, part_at, planned_part, emptied_part}
use Rattle.jk_window.proofs.PartLaws.{count_few, ends_long}
use Rattle.jk_window.proofs.Beside.{part_count, beside_size}
use Rattle.jk_window.proofs.planning.plan_content.Goals as goal

pub count-count-requires-clause-part : goal.count-count-requires-clause-part
count-count-requires-clause-part c =
    let long = ends_long _ _ c.parts-parts.result.now.ends.items c.parts-parts.ensures.ends.ends in
    omega (arith, long, c.requires.head.number)

pub plan_emptied-requires-clause-few : goal.plan_emptied-requires-clause-few
plan_emptied-requires-clause-few c =
    let count = c.count-count.ensures in
    let few = count_few 0 _ c.parts-parts.result.now.ends.items c.args.head.now.number c.parts-parts.ensures.ends.ends.ascend in
    let most = c.parts-parts.ensures.few in
    omega (arith, count, few, most)

pub plan_emptied-requires-clause-fits : goal.plan_emptied-requires-clause-fits
plan_emptied-requires-clause-fits c =
    let i = c.args.index.now in
    let t = c.args.head.now.tile in
    let n = c.args.head.now.number in
    let w = c.requires.fits.0 in
    let v = c.requires.fits.1 in
    let plan = tile_at i w v (tile_count i.headers.siz) t c.args.tiles.now c.index-tiles-tile.result c.requires.fits.2 c.requires.head.tile c.index-tiles-tile.is in
    let are = plan.emptied (sym c.is_emptied-emptied.ensures ∙ c.if-emptied.true) in
    let eph = c.parts-parts.ensures.ends.eph in
    let size = beside_size i w v t n c.count-count.result are (part_count i t n c.parts-parts.result.now c.parts-parts.ensures.ends c.parts-parts.ensures.all ∙ sym c.count-count.ensures)
    ∙ ap (λ b. c.count-count.result * length (0 ∷ eph_text b)) (sym eph) in
    subst (λ k. psot_for c.args.head.now k < 2 ^ 32) size c.requires.fits.3

pub returns-then-emptied-clause-text : goal.returns-then-emptied-clause-text
returns-then-emptied-clause-text c =
    on_ok_weaker c.plan_emptied.result
    (λ made w v file plans index.
    let i = c.args.index.now in
    let t = c.args.head.now.tile in
    let n = c.args.head.now.number in
    let plan = tile_at i w v (tile_count i.headers.siz) t c.args.tiles.now c.index-tiles-tile.result plans c.requires.head.tile c.index-tiles-tile.is in
    let are = plan.emptied (sym c.is_emptied-emptied.ensures ∙ c.if-emptied.true) in
    let eph = c.parts-parts.ensures.ends.eph in
    emptied_part file i w v c.args.plan.now c.plan_emptied.new.plan c.args.head.now c.args.segments.now c.count-count.result _ are
    (part_count i t n c.parts-parts.result.now c.parts-parts.ensures.ends c.parts-parts.ensures.all ∙ sym c.count-count.ensures) eph (made file))
    c.plan_emptied.ensures.text

pub part-requires : goal.part-requires
part-requires c =
    let i = c.args.index.now in
    let t = c.args.head.now.tile in
    let w = c.requires.fits.0 in
    let v = c.requires.fits.1 in
    let plan = tile_at i w v (tile_count i.headers.siz) t c.args.tiles.now c.index-tiles-tile.result c.requires.fits.2 c.requires.head.tile c.index-tiles-tile.is in
    (part_at i w v t c.args.head.now.number c.index-tiles-tile.result plan (sym c.is_emptied-emptied.ensures ∙ c.if-emptied.false) c.requires.head.number).0

pub plan_part-requires : goal.plan_part-requires
plan_part-requires c =
    let i = c.args.index.now in
    let t = c.args.head.now.tile in
    let w = c.requires.fits.0 in
    let v = c.requires.fits.1 in
    let plan = tile_at i w v (tile_count i.headers.siz) t c.args.tiles.now c.index-tiles-tile.result c.requires.fits.2 c.requires.head.tile c.index-tiles-tile.is in
    let part = (part_at i w v t c.args.head.now.number c.index-tiles-tile.result plan (sym c.is_emptied-emptied.ensures ∙ c.if-emptied.false) c.requires.head.number).1 in
    record {
      size = ap (λ (p : PlanFields). p.size) c.part.ensures ∙ part.size ∙ sym c.requires.size;
      fits = subst (λ k. psot_for c.args.head.now k < 2 ^ 32) (sym (ap (λ (p : PlanFields). plan_length p) c.part.ensures ∙ part.long)) c.requires.fits.3;
    }

pub returns-clause-text : goal.returns-clause-text
returns-clause-text c =
    on_ok_weaker c.plan_part.result
    (λ made w v file plans index.
    let i = c.args.index.now in
    let t = c.args.head.now.tile in
    let plan = tile_at i w v (tile_count i.headers.siz) t c.args.tiles.now c.index-tiles-tile.result plans c.requires.head.tile c.index-tiles-tile.is in
    let part = (part_at i w v t c.args.head.now.number c.index-tiles-tile.result plan (sym c.is_emptied-emptied.ensures ∙ c.if-emptied.false) c.requires.head.number).1 in
    planned_part file i w v c.args.plan.now c.plan_part.new.plan c.part.result.now c.args.head.now c.args.segments.now index c.requires.head.tile
    (subst (IsPartPlan i w v t c.args.head.now.number) (sym c.part.ensures) part) (made file))
    c.plan_part.ensures.text
