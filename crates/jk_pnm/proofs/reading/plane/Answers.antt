use Rattle.std.proofs.Common.{◌≡◌, ◌*◌, true, false, ltb, ℕ, ℤ, List, IfOk, length, map, pos, sym, ap, subst, ◌∙◌}
use Rattle.jk_pnm.specs.Pnm.{components_of, plane_from}
use Rattle.jk_pnm.proofs.PlaneLaws.{wide_plane_is, narrow_plane_is, grey_plane_is, grey_size, coloured}
use Rattle.jk_pnm.proofs.reading.plane.Goals as goal

pub returns-then-is_wide-clause-value : goal.returns-then-is_wide-clause-value
returns-then-is_wide-clause-value c =
    let h = c.args.header.now in
    let wide : ltb 255 h.maxval ≡ true = sym c.is_wide.ensures ∙ c.if-is_wide.true in
    let is = wide_plane_is h.maxval c.components-components.result c.pixels-pixels.result c.args.component c.args.raster.now wide in
    let named : plane_from h.maxval c.components-components.result c.pixels-pixels.result c.args.raster.now c.args.component ≡ plane_from h.maxval (components_of h.colour) (h.width * h.height) c.args.raster.now c.args.component
    = ap (λ (n : ℕ). plane_from h.maxval n c.pixels-pixels.result c.args.raster.now c.args.component) c.components-components.ensures ∙ ap (λ (n : ℕ). plane_from h.maxval (components_of h.colour) n c.args.raster.now c.args.component) c.pixels-pixels.ensures in
    subst (λ (x : List ℤ). IfOk c.wide_plane.result (λ v. v.items ≡ x)) (is ∙ ap (λ (xs : List ℕ). map pos xs) named) c.wide_plane.ensures.value

pub returns-else-components-eq1-clause-value : goal.returns-else-components-eq1-clause-value
returns-else-components-eq1-clause-value c =
    let h = c.args.header.now in
    let narrow : ltb 255 h.maxval ≡ false = sym c.is_wide.ensures ∙ c.if-is_wide.false in
    let three = coloured h.colour (λ one. c.if-components-eq1.false (c.components-components.ensures ∙ one)) in
    let is = narrow_plane_is h.maxval 3 c.pixels-pixels.result c.args.component c.args.raster.now narrow in
    let named : plane_from h.maxval 3 c.pixels-pixels.result c.args.raster.now c.args.component ≡ plane_from h.maxval (components_of h.colour) (h.width * h.height) c.args.raster.now c.args.component
    = ap (λ (n : ℕ). plane_from h.maxval n c.pixels-pixels.result c.args.raster.now c.args.component) (sym three) ∙ ap (λ (n : ℕ). plane_from h.maxval (components_of h.colour) n c.args.raster.now c.args.component) c.pixels-pixels.ensures in
    subst (λ (x : List ℤ). IfOk c.narrow_plane.result (λ v. v.items ≡ x)) (is ∙ ap (λ (xs : List ℕ). map pos xs) named) c.narrow_plane.ensures.value

pub returns-then-components-eq1-clause-value : goal.returns-then-components-eq1-clause-value
returns-then-components-eq1-clause-value c =
    let h = c.args.header.now in
    let narrow : ltb 255 h.maxval ≡ false = sym c.is_wide.ensures ∙ c.if-is_wide.false in
    let one : components_of h.colour ≡ 1 = sym c.components-components.ensures ∙ c.if-components-eq1.true in
    let whole : length c.args.raster.now ≡ h.width * h.height = c.requires.whole ∙ grey_size h one narrow in
    let is = grey_plane_is h.maxval (components_of h.colour) (h.width * h.height) c.args.component c.args.raster.now one c.requires.component whole narrow in
    subst (λ (x : List ℤ). IfOk c.bytes_plane.result (λ v. v.items ≡ x)) is c.bytes_plane.ensures.value
