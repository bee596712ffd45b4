use Rattle.std.proofs.Common.{◌≡◌, ◌%◌, length, ◌∙◌, ap, arith}
use Rattle.std.proofs.Math.Nat.{mul-mod_left}
use Rattle.std.proofs.lemmas.Grind.{common_steps}
use Rattle.jk_math.specs.Raster.{columns_of, rows_of, places_of}
use Rattle.jk_wave.specs.LevelRows.{woven_rows}
use Rattle.jk_wave.proofs.RowsMade.{made_more, next_small}
use Rattle.jk_wave.proofs.Synthesis.{rows_small, plane_samples, raster_none}
use Rattle.jk_wave.proofs.level.synthesise_level.Goals as goal

pub synthesise_row-requires-clause-small : goal.synthesise_row-requires-clause-small
synthesise_row-requires-clause-small c =
    next_small c.args.area.now c.loop-row.row c.args.rows.now c.loop-row.rows (omega arith) (omega arith) c.requires.small c.loop-row.invariant

pub loop-row-preserved : goal.loop-row-preserved
loop-row-preserved c =
    made_more c.args.area.now c.loop-row.row c.args.rows.now c.loop-row.rows c.synthesise_row.new.rows
    c.synthesise_row.ensures.written c.synthesise_row.ensures.others c.loop-row.invariant

pub synthesise_rows-requires-clause-whole : goal.synthesise_rows-requires-clause-whole
synthesise_rows-requires-clause-whole c =
    let long : length c.loop-row.rows ≡ places_of c.args.area.now = omega arith in
    ap (λ n. n % columns_of c.args.area.now) long ∙ mul-mod_left (rows_of c.args.area.now) (columns_of c.args.area.now)

pub synthesise_rows-requires-clause-small : goal.synthesise_rows-requires-clause-small
synthesise_rows-requires-clause-small c =
    rows_small c.args.area.now c.args.rows.now c.loop-row.rows (omega arith) c.requires.small (λ j x lj lx. c.loop-row.invariant.made j x (omega arith) lx)

pub returns-after-loop-row : goal.returns-after-loop-row
returns-after-loop-row c =
    let area = c.args.area.now in
    plane_samples area (woven_rows area c.args.rows.now) c.loop-row.rows c.synthesise_rows.new.rows
    c.requires.area.left c.requires.area.upper (omega arith) (omega arith) (λ j x lj lx. c.loop-row.invariant.made j x (omega arith) lx) c.synthesise_rows.ensures

pub returns-else-not-is_empty : goal.returns-else-not-is_empty
returns-else-not-is_empty c =
    let none : length c.args.rows.now ≡ 0 = grind (arith, common_steps, c.if-not-is_empty.ensures) in
    raster_none c.args.area.now c.args.rows.now _ c.requires.whole none
