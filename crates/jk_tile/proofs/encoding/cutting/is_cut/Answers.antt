use Rattle.std.proofs.Common.{◌≡◌, ◌+◌, ◌*◌, ◌++◌, List, ℤ, take, refl, ap, subst, sym, ◌∙◌, arith}
use Rattle.std.proofs.Math.Seq.{take-add}
use Rattle.std.proofs.lemmas.List.{take_all}
use Rattle.jk_math.specs.Raster.{columns_of, rows_of}
use Rattle.jk_tile.proofs.encoding.Copying.{IsCut, cut_more, cut_all}
use Rattle.jk_tile.proofs.encoding.cutting.is_cut.Goals as goal

pub loop-row-preserved : goal.loop-row-preserved
loop-row-preserved c =
    let area = c.args.area.now in
    let part = c.args.part.now in
    let values = c.args.values.now in
    let list = c.args.list.now in
    let row = c.loop-row.row in
    let w = columns_of part in
    let own = sym c.cut-own.ensures ∙ c.if-not-are_same.ensures refl ∙ c.row_of.ensures in
    let more : (row + 1) * w ≡ row * w + w = omega arith in
    subst (IsCut area part (row + 1) values)
    (sym (ap (λ n. take n list) more ∙ take-add (row * w) w list ∙ ap (λ (l : List ℤ). take (row * w) list ++ l) own))
    (cut_more area part row values (take (row * w) list) c.requires.part c.requires.whole c.loop-row-test.true c.loop-row.invariant)

pub returns : goal.returns
returns c _ =
    let part = c.args.part.now in
    let list = c.args.list.now in
    let row = c.loop-row.row in
    let last : row ≡ rows_of part = omega (arith, c.loop-row-test.false, c.loop-row.auto.row-end) in
    let long = c.if-list-height.false ∙ ap (λ n. n * columns_of part) (sym last) in
    sym (take_all (row * columns_of part) list (omega (arith, long)))
    ∙ cut_all c.args.area.now part row c.args.values.now (take (row * columns_of part) list) c.requires.part last c.loop-row.invariant
