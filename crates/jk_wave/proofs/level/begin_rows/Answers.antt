use Rattle.std.proofs.Common.{◌≡◌, length, sym, ◌∙◌, ap, subst, arith}
use Rattle.jk_math.specs.Raster.{places_of}
use Rattle.jk_math.specs.Signed.{signed_at}
use Rattle.jk_wave.specs.declared.places.BandRows.{BandRows}
use Rattle.jk_wave.specs.LevelRows.{part_rows, FitsIn, IsBegun}
use Rattle.jk_wave.proofs.PutRows.{begun_is}
use Rattle.jk_wave.proofs.PartRows.{rows_fit}
use Rattle.jk_wave.proofs.Rows.{written_items}
use Rattle.jk_wave.proofs.level.begin_rows.Goals as goal

pub put_rows-requires-clause-fits : goal.put_rows-requires-clause-fits
put_rows-requires-clause-fits c =
    let a = c.args.area.now in
    let long : places_of a ≡ length c.deref_mut.result.now = sym (ap length c.deref_mut.ensures.value ∙ c.in_ok-rows.ensures.zeros.count) in
    subst (λ (p : BandRows). FitsIn p (length c.deref_mut.result.now)) (sym c.part_rows.ensures.value)
    (subst (FitsIn (part_rows a 0)) long (rows_fit a 0 (omega arith)))

pub returns-clause-begun : goal.returns-clause-begun
returns-clause-begun c =
    let a = c.args.area.now in
    let kept : length c.put_rows.new.rows ≡ length c.in_ok-rows.rows.items = c.put_rows.auto.rows ∙ ap length c.deref_mut.ensures.value in
    let all = written_items c.in_ok-rows.rows.len c.put_rows.new.rows c.in_ok-rows.rows.items (omega (arith, c.in_ok-rows.rows.ok.0)) kept in
    subst (IsBegun a c.args.below.now) (sym all)
    (begun_is a c.part_rows.result c.args.below.now c.in_ok-rows.rows.items c.put_rows.new.rows c.part_rows.ensures.value c.in_ok-rows.ensures.zeros kept
    c.put_rows.ensures.written (λ k away. c.put_rows.ensures.others k away ∙ ap (λ l. signed_at l k) c.deref_mut.ensures.value))
