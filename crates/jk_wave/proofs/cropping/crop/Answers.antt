use Rattle.std.proofs.Common.{◌≡◌, ℕ, true, ◌&&◌, eqb, length, take, ◌∙◌, ap, arith}
use Rattle.std.proofs.lemmas.Bool.Decides.{nat_tests}
use Rattle.jk_math.specs.declared.rect.Rect.{Rect}
use Rattle.jk_math.specs.Raster.{places_of, plane_at, raster}
use Rattle.jk_wave.proofs.MovedRows.{crop_whole, crop_part, part_fewer}
use Rattle.jk_wave.proofs.Rows.{written_items}
use Rattle.jk_wave.proofs.cropping.crop.Goals as goal

same_rect : (a b : Rect) → true ≡ (eqb a.x0 b.x0 && (eqb a.y0 b.y0 && (eqb a.x1 b.x1 && eqb a.y1 b.y1))) → a ≡ b
same_rect a b e =
    let left : a.x0 ≡ b.x0 = grind (arith, nat_tests) in
    let upper : a.y0 ≡ b.y0 = grind (arith, nat_tests) in
    let right : a.x1 ≡ b.x1 = grind (arith, nat_tests) in
    let lower : a.y1 ≡ b.y1 = grind (arith, nat_tests) in
    λ i. record { x0 = left i; y0 = upper i; x1 = right i; y1 = lower i }

pub returns-then-eq : goal.returns-then-eq
returns-then-eq c =
    let same = c.if-eq.ensures in
    crop_whole c.args.area.now c.args.part.now c.args.plane.items (same_rect c.args.part.now c.args.area.now same) c.requires.whole

pub returns : goal.returns
returns c =
    let fewer = part_fewer c.args.area.now c.args.part.now c.requires.part in
    let n : ℕ = places_of c.args.part.now in
    let kept : length c.move_rows.new.plane ≡ length c.args.plane.items = c.move_rows.auto.plane ∙ ap length c.deref_mut.ensures.value in
    c.truncate.ensures.items
    ∙ ap (take n) (written_items c.args.plane.len c.move_rows.new.plane c.args.plane.items (omega (arith, c.args.plane.ok.0)) kept)
    ∙ crop_part c.args.area.now c.args.part.now n c.deref_mut.result.now c.move_rows.new.plane c.requires.part (omega arith) (omega arith)
    c.move_rows.ensures
    ∙ ap (λ l. raster c.args.part.now (plane_at c.args.area.now l)) c.deref_mut.ensures.value
