use Rattle.std.proofs.Common.{◌≡◌, ℕ, ◌+◌, ◌-◌, ◌*◌, ◌/◌, ◌≤◌, ◌++◌, length, sym, ◌∙◌, ap, arith}
use Rattle.std.proofs.Math.Nat.{mul-le-mul_right}
use Rattle.jk_math.specs.declared.rect.Rect.{Rect}
use Rattle.jk_math.specs.Raster.{columns_of, rows_of}
use Rattle.jk_math.proofs.Laws.{raster_length}
use Rattle.jk_geom.specs.Rectangles.{resolution_area}
use Rattle.jk_wave.specs.Bands.{coefficients_of}
use Rattle.jk_wave.specs.Resolutions.{resolution_of}
use Rattle.jk_wave.specs.climbing.Stack.{made_of}
use Rattle.jk_wave.proofs.climbing.Stacking.{made_within, made_more, cut_rows, lowest_raster, lowest_is}
use Rattle.jk_wave.proofs.climbing.stack.put_lowest.Goals as goal

pub overflow_sub-at : goal.overflow_sub-at
overflow_sub-at c =
    let b = c.args.bands.now in
    let first = lowest_is b.rect b.levels c.args.top c.args.from c.asked.result c.asked.ensures.value in
    let within = made_within b.rect b.levels c.args.top c.args.from 0 c.requires.area c.requires.top c.requires.some in
    let upper = ap (λ (a : Rect). a.y0) c.resolution-lowest.ensures.value in
    omega (arith, first, within.0, upper)

pub overflow_sub-count : goal.overflow_sub-count
overflow_sub-count c =
    let b = c.args.bands.now in
    let first = lowest_is b.rect b.levels c.args.top c.args.from c.asked.result c.asked.ensures.value in
    let last = lowest_is b.rect b.levels c.args.top c.args.e c.asked-2.result c.asked-2.ensures.value in
    let more = made_more b.rect b.levels c.args.top c.args.from c.args.e 0 c.requires.area c.requires.order in
    omega (arith, first, last, more)

pub cut-requires : goal.cut-requires
cut-requires c =
    let b = c.args.bands.now in
    let top : ℕ = c.args.top in
    let area = c.resolution-lowest.result in
    let a = resolution_area b.rect b.levels 0 in
    let is = c.resolution-lowest.ensures.value in
    let first = lowest_is b.rect b.levels top c.args.from c.asked.result c.asked.ensures.value in
    let last = lowest_is b.rect b.levels top c.args.e c.asked-2.result c.asked-2.ensures.value in
    let more = made_more b.rect b.levels top c.args.from c.args.e 0 c.requires.area c.requires.order in
    let from = made_within b.rect b.levels top c.args.from 0 c.requires.area c.requires.top c.requires.some in
    let to = made_within b.rect b.levels top c.args.e 0 c.requires.area c.requires.top c.requires.some in
    let upper = ap (λ (r : Rect). r.y0) is in
    let lower = ap (λ (r : Rect). r.y1) is in
    let w : ℕ = area.x1 - area.x0 in
    let p : ℕ = (c.asked.result + 1) / 2 in
    let r : ℕ = (c.asked-2.result + 1) / 2 in
    let long : length c.plane.result.now ≡ (area.y1 - area.y0) * w =
    ap length (c.plane.ensures ∙ lowest_raster b.rect b.levels top b.bands c.requires.bands) ∙ raster_length a (resolution_of b.rect b.levels (coefficients_of b.rect b.levels b.bands) 0)
    ∙ ap (λ (d : Rect). rows_of d * columns_of d) (sym is) in
    let sum : (p - area.y0) * w + (r - p) * w ≡ (p - area.y0 + (r - p)) * w = grind arith in
    let fits : (p - area.y0 + (r - p)) * w ≤ (area.y1 - area.y0) * w = mul-le-mul_right w (omega (arith, first, last, more, from.0, to.1, upper, lower)) in
    omega (arith, long, sum, fits)

pub returns-clause-rows : goal.returns-clause-rows
returns-clause-rows c =
    let b = c.args.bands.now in
    let top : ℕ = c.args.top in
    let bands = coefficients_of b.rect b.levels b.bands in
    let a = resolution_area b.rect b.levels 0 in
    let g = resolution_of b.rect b.levels bands 0 in
    let area = c.resolution-lowest.result in
    let is = c.resolution-lowest.ensures.value in
    let first = lowest_is b.rect b.levels top c.args.from c.asked.result c.asked.ensures.value in
    let last = lowest_is b.rect b.levels top c.args.e c.asked-2.result c.asked-2.ensures.value in
    let more = made_more b.rect b.levels top c.args.from c.args.e 0 c.requires.area c.requires.order in
    let from = made_within b.rect b.levels top c.args.from 0 c.requires.area c.requires.top c.requires.some in
    let to = made_within b.rect b.levels top c.args.e 0 c.requires.area c.requires.top c.requires.some in
    let p = made_of b.rect b.levels top c.args.from 0 in
    let r = made_of b.rect b.levels top c.args.e 0 in
    let front : ((c.asked.result + 1) / 2 - area.y0) * (area.x1 - area.x0) ≡ (p - a.y0) * columns_of a =
    ap (λ n. (n - area.y0) * (area.x1 - area.x0)) first ∙ ap (λ (d : Rect). (p - d.y0) * (d.x1 - d.x0)) is in
    let count : ((c.asked-2.result + 1) / 2 - (c.asked.result + 1) / 2) * (area.x1 - area.x0) ≡ (r - p) * columns_of a =
    ap (λ n. (n - (c.asked.result + 1) / 2) * (area.x1 - area.x0)) last ∙ ap (λ n. (r - n) * (area.x1 - area.x0)) first ∙ ap (λ (d : Rect). (r - p) * (d.x1 - d.x0)) is in
    c.in_ok-extend_from_slice.ensures.items
    ∙ ap (λ l. l ++ c.cut.result.now) c.clear.ensures.items
    ∙ c.cut.ensures
    ∙ cut_rows a p r _ _ g c.plane.result.now from.0 more to.1 (c.plane.ensures ∙ lowest_raster b.rect b.levels top b.bands c.requires.bands) front count
