use Rattle.std.proofs.Common.{◌≡◌, ◌≤◌, [], ◌∙◌, ℤ, List, ap, length, get_or, arith}
use Rattle.jk_math.specs.Steps.{if_ok}
use Rattle.jk_pnm.proofs.RasterLaws.{grey_part, colour_part}
use Rattle.jk_pnm.proofs.WrittenLaws.{three_components}
use Rattle.jk_pnm.proofs.writing.put_raster.Goals as goal

pub returns-then-len-eq1-clause-ok : goal.returns-then-len-eq1-clause-ok
returns-then-len-eq1-clause-ok c =
    let planes = c.args.image.now.planes in
    let p = c.plane.result.now in
    let one : length planes ≡ 1 = omega (arith, c.if-len-eq1.true, c.len.ensures, ap length c.planes-planes.ensures) in
    let is : p ≡ get_or planes 0 [] = c.plane.ensures ∙ ap (λ (ps : List (List ℤ)). get_or ps 0 []) c.planes-planes.ensures in
    let count = (c.requires.profile.components.each 0 [] (omega (arith, one))).count in
    let within : c.args.to ≤ length p = omega (arith, c.requires.to, count, ap length is) in
    if_ok c.put_one.result (λ v text. grey_part c.args.maxval c.args.from c.args.to planes p c.args.out.items v.items one is within text) c.put_one.ensures.ok

pub returns-else-len-eq1-clause-ok : goal.returns-else-len-eq1-clause-ok
returns-else-len-eq1-clause-ok c =
    let planes = c.args.image.now.planes in
    let p = c.plane-else-len-eq1.result.now in
    let q = c.plane-else-len-eq1-2.result.now in
    let r = c.plane-else-len-eq1-3.result.now in
    let three : length planes ≡ 3 = three_components c.args.image.now c.requires.written (λ one. c.if-len-eq1.false (c.len.ensures ∙ ap length c.planes-planes.ensures ∙ one)) in
    let is : p ≡ get_or planes 0 [] = c.plane-else-len-eq1.ensures ∙ ap (λ (ps : List (List ℤ)). get_or ps 0 []) c.planes-planes.ensures in
    let is-2 : q ≡ get_or planes 1 [] = c.plane-else-len-eq1-2.ensures ∙ ap (λ (ps : List (List ℤ)). get_or ps 1 []) c.planes-planes.ensures in
    let is-3 : r ≡ get_or planes 2 [] = c.plane-else-len-eq1-3.ensures ∙ ap (λ (ps : List (List ℤ)). get_or ps 2 []) c.planes-planes.ensures in
    let count = (c.requires.profile.components.each 0 [] (omega (arith, three))).count in
    let within : c.args.to ≤ length p = omega (arith, c.requires.to, count, ap length is) in
    if_ok c.put_three.result (λ v text. colour_part c.args.maxval c.args.from c.args.to planes p q r c.args.out.items v.items three is is-2 is-3 within text) c.put_three.ensures.ok
