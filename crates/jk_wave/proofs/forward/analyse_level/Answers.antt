use Rattle.std.proofs.Common.{◌++◌, ◌∷◌, [], List, ℤ, ◌∙◌, ap, arith}
use Rattle.jk_math.specs.Lists.{lists_of}
use Rattle.jk_math.specs.Raster.{raster}
use Rattle.jk_wave.specs.Levels.{half_area, part_of}
use Rattle.jk_wave.proofs.Leaving.{lists_pushed}
use Rattle.jk_wave.proofs.forward.analyse_level.Goals as goal

pub returns-clause-ll : goal.returns-clause-ll
returns-clause-ll g c = c.in_ok-ll.ensures.parts 0 (omega arith)

pub returns-clause-high : goal.returns-clause-high
returns-clause-high g c =
    let area = c.args.area.now in
    let f = g.S.RowSource.value_at c.args.source.now in
    let parts = c.in_ok-ll.field-0 in
    let old = c.args.bands.now.items in
    let high : List (List ℤ) → List (List ℤ) = λ more. lists_of old ++ more in
    let hh = c.in_ok-ll.ensures.parts 3 (omega arith) in
    let lh = c.in_ok-ll.ensures.parts 2 (omega arith) in
    let hl = c.in_ok-ll.ensures.parts 1 (omega arith) in
    ap lists_of (c.in_ok-push-3.ensures.items ∙ ap (λ l. l ++ parts.hl ∷ []) (c.in_ok-push-2.ensures.items ∙ ap (λ l. l ++ parts.lh ∷ []) c.in_ok-push.ensures.items))
    ∙ lists_pushed old parts.hh parts.lh parts.hl
    ∙ ap (λ l. high (l ∷ parts.lh.items ∷ parts.hl.items ∷ [])) hh
    ∙ ap (λ l. high (raster (half_area area 3) (part_of area f 3) ∷ l ∷ parts.hl.items ∷ [])) lh
    ∙ ap (λ l. high (raster (half_area area 3) (part_of area f 3) ∷ raster (half_area area 2) (part_of area f 2) ∷ l ∷ [])) hl
