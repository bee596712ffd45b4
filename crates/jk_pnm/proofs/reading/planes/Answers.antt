use Rattle.std.proofs.Common.{◌≡◌, ◌*◌, ◌++◌, ◌∷◌, [], ℕ, ℤ, List, map, pos, sym, ap, ◌∙◌, arith}
use Rattle.std.specs.Global.{Vec}
use Rattle.std.specs.List.{range_with_len}
use Rattle.std.proofs.lemmas.List.{map-append}
use Rattle.std.proofs.lemmas.List.FromFn.{map-range_with_len_more}
use Rattle.jk_math.specs.Lists.{lists_of}
use Rattle.jk_pnm.specs.Pnm.{components_of, plane_from}
use Rattle.jk_pnm.proofs.PlaneLaws.{planes_are}
use Rattle.jk_pnm.proofs.reading.planes.Goals as goal

pub loop-component-preserved : goal.loop-component-preserved
loop-component-preserved c =
    let h = c.args.header.now in
    let i = c.loop-component.component in
    let plane : ℕ → List ℤ = λ component. map pos (plane_from h.maxval (components_of h.colour) (h.width * h.height) c.args.raster.now component) in
    let old = c.loop-component.planes.items in
    let new = c.in_ok-plane.field-0 in
    let lists : lists_of c.push.new.self.items ≡ lists_of (old ++ (new ∷ [])) = ap (λ (ps : List (Vec ℤ)). lists_of ps) c.in_ok-push.ensures.items in
    lists
    ∙ map-append (λ (p : Vec ℤ). p.items) old (new ∷ [])
    ∙ ap (λ (x : List ℤ). lists_of old ++ (x ∷ [])) c.in_ok-plane.ensures.value
    ∙ ap (λ (xs : List (List ℤ)). xs ++ (plane i ∷ [])) c.loop-component.invariant
    ∙ sym (map-range_with_len_more plane 0 i i (omega arith))

pub returns-clause-value : goal.returns-clause-value
returns-clause-value c =
    let h = c.args.header.now in
    let plane : ℕ → List ℤ = λ component. map pos (plane_from h.maxval (components_of h.colour) (h.width * h.height) c.args.raster.now component) in
    let all : c.loop-component.component ≡ components_of h.colour = omega (arith, c.components-components.ensures) in
    c.loop-component.invariant
    ∙ ap (λ (n : ℕ). map plane (range_with_len 0 n)) all
    ∙ planes_are h.maxval (components_of h.colour) (h.width * h.height) c.args.raster.now
