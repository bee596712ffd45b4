use Rattle.std.proofs.Common.{◌≡◌, ◌+◌, ◌-◌, ◌/◌, length, refl, ap, ◌∙◌, arith}
use Rattle.jk_wave.proofs.Rows.{row_length}
use Rattle.jk_wave.proofs.Synthesis.{line_samples}
use Rattle.jk_wave.specs.climbing.PartRows.{half_width, pair_at}
use Rattle.jk_wave.proofs.climbing.WovenParts.{pair_woven}
use Rattle.jk_wave.proofs.climbing.parts.weave.Goals as goal

pub synthesise_line-requires-clause-low_length : goal.synthesise_line-requires-clause-low_length
synthesise_line-requires-clause-low_length c =
    let a = c.args.area.now in
    ap length c.part_row.ensures ∙ row_length (half_width a 0) (half_width a 0) c.args.n c.args.low.now refl c.requires.low_inside
    ∙ (let e : half_width a 0 ≡ (a.x0 + length c.args.row.now + 1) / 2 - (a.x0 + 1) / 2 = omega (arith, c.requires.long, c.requires.area.left) in e)

pub synthesise_line-requires-clause-high_length : goal.synthesise_line-requires-clause-high_length
synthesise_line-requires-clause-high_length c =
    let a = c.args.area.now in
    ap length c.part_row-2.ensures ∙ row_length (half_width a 1) (half_width a 1) c.args.m c.args.high.now refl c.requires.high_inside
    ∙ (let e : half_width a 1 ≡ (a.x0 + length c.args.row.now) / 2 - a.x0 / 2 = omega (arith, c.requires.long, c.requires.area.left) in e)

pub returns : goal.returns
returns c k lt =
    let a = c.args.area.now in
    line_samples a.x0 a.x1 c.part_row.result.now c.part_row-2.result.now c.synthesise_line.new.line (pair_at a c.args.n c.args.m c.args.low.now c.args.high.now)
    (omega (arith, c.synthesise_line.auto.line, c.requires.long, c.requires.area.left)) c.synthesise_line.ensures
    (λ i from to. pair_woven a c.args.n c.args.m c.args.low.now c.args.high.now c.part_row.result.now c.part_row-2.result.now i from to c.part_row.ensures c.part_row-2.ensures) k (omega (arith, lt))
