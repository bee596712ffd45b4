use Rattle.std.proofs.Common.{◌≡◌, ℕ, ◌-◌, ◌*◌, ◌/◌, ◌^◌, ◌≤◌, ◌∙◌, ap, sym, arith}
use Rattle.jk_math.specs.declared.rect.Rect.{Rect}
use Rattle.jk_marks.specs.declared.coding.Coding.{Coding}
use Rattle.jk_marks.specs.Coding.{precinct_size}
use Rattle.jk_geom.specs.Rectangles.{resolution_area}
use Rattle.jk_geom.specs.Precincts.{precincts_across, part_height}
use Rattle.jk_tile.specs.encoding.Strips.{ComponentFrame, first_precinct_at}
use Rattle.jk_tile.proofs.encoding.StripBlocks.{first_is, has_place, row_within}
use Rattle.jk_tile.proofs.encoding.row_coding.first_precinct.Goals as goal

-- what the calls gave
first_given : (s : ComponentFrame) (r y : ℕ) (rect : Rect) (k : Coding) (area : Rect) (high e across : ℕ) → rect ≡ s.rect → k ≡ s.coding → area ≡ resolution_area rect k.levels r → high ≡ part_height k r → e ≡ (precinct_size k r).1
    → across ≡ precincts_across rect k r → (y / 2 ^ high - area.y0 / 2 ^ e) * across ≡ first_precinct_at s r y
first_given s r y rect k area high e across er ek ea eh ee ec =
    ap (λ n. (y / 2 ^ n - area.y0 / 2 ^ e) * across) (eh ∙ ap (λ (x : Coding). part_height x r) ek)
    ∙ ap (λ (a : Rect). (y / 2 ^ part_height s.coding r - a.y0 / 2 ^ e) * across) (ea ∙ ap (λ (x : Coding). resolution_area rect x.levels r) ek ∙ ap (λ (a : Rect). resolution_area a s.coding.levels r) er)
    ∙ ap (λ n. (y / 2 ^ part_height s.coding r - (resolution_area s.rect s.coding.levels r).y0 / 2 ^ n) * across) (ee ∙ ap (λ (x : Coding). (precinct_size x r).1) ek)
    ∙ ap (λ n. (y / 2 ^ part_height s.coding r - (resolution_area s.rect s.coding.levels r).y0 / 2 ^ (precinct_size s.coding r).1) * n) (ec ∙ ap (λ (x : Coding). precincts_across rect x r) ek ∙ ap (λ (a : Rect). precincts_across a s.coding r) er)
    ∙ sym (first_is s r y)

after_given : (s : ComponentFrame) (r y : ℕ) (rect : Rect) (k : Coding) (area : Rect) (high e : ℕ) → rect ≡ s.rect → k ≡ s.coding → area ≡ resolution_area rect k.levels r → high ≡ part_height k r → e ≡ (precinct_size k r).1
    → (resolution_area s.rect s.coding.levels r).y0 / 2 ^ (precinct_size s.coding r).1 ≤ y / 2 ^ part_height s.coding r → area.y0 / 2 ^ e ≤ y / 2 ^ high
after_given s r y rect k area high e er ek ea eh ee after =
    let top : area.y0 / 2 ^ e ≡ (resolution_area s.rect s.coding.levels r).y0 / 2 ^ (precinct_size s.coding r).1 =
    ap (λ (a : Rect). a.y0 / 2 ^ e) (ea ∙ ap (λ (x : Coding). resolution_area rect x.levels r) ek ∙ ap (λ (a : Rect). resolution_area a s.coding.levels r) er)
    ∙ ap (λ n. (resolution_area s.rect s.coding.levels r).y0 / 2 ^ n) (ee ∙ ap (λ (x : Coding). (precinct_size x r).1) ek) in
    let here : y / 2 ^ high ≡ y / 2 ^ part_height s.coding r = ap (λ n. y / 2 ^ n) (eh ∙ ap (λ (x : Coding). part_height x r) ek) in
    omega (arith, top, here, after)

pub overflow_sub-row : goal.overflow_sub-row
overflow_sub-row c =
    let s = c.args.source.now in
    let w = c.args.strip in
    let place = has_place s w c.rect-rect.ensures.frame c.requires.strip c.requires.some in
    let order = after_given s w.resolution w.area.y0 c.rect-rect.result c.coding-coding.result.now c.resolution-area.result c.precinct_part_size.result.1 c.precinct_size.result.1 c.rect-rect.ensures.value c.coding-coding.ensures.value
    c.resolution-area.ensures.value c.precinct_part_size.ensures.height (ap (λ (p : ℕ × ℕ). p.1) c.precinct_size.ensures.value) place.at.after in
    omega (arith, order)

pub overflow_mul-result : goal.overflow_mul-result
overflow_mul-result c =
    let s = c.args.source.now in
    let w = c.args.strip in
    let place = has_place s w c.rect-rect.ensures.frame c.requires.strip c.requires.some in
    let value = first_given s w.resolution w.area.y0 c.rect-rect.result c.coding-coding.result.now c.resolution-area.result c.precinct_part_size.result.1 c.precinct_size.result.1 c.precinct_count-across.result.0 c.rect-rect.ensures.value c.coding-coding.ensures.value
    c.resolution-area.ensures.value c.precinct_part_size.ensures.height (ap (λ (p : ℕ × ℕ). p.1) c.precinct_size.ensures.value) c.precinct_count-across.ensures.across in
    let within = (row_within s w.resolution place.precinct w.area.y0 _ value place.is_precinct place.at).2 in
    let few = c.rect-rect.ensures.frame.precincts w.resolution c.requires.strip.resolution in
    omega (arith, within, few)

pub returns-clause-value : goal.returns-clause-value
returns-clause-value c =
    first_given c.args.source.now c.args.strip.resolution c.args.strip.area.y0 c.rect-rect.result c.coding-coding.result.now c.resolution-area.result c.precinct_part_size.result.1 c.precinct_size.result.1 c.precinct_count-across.result.0 c.rect-rect.ensures.value
    c.coding-coding.ensures.value c.resolution-area.ensures.value c.precinct_part_size.ensures.height (ap (λ (p : ℕ × ℕ). p.1) c.precinct_size.ensures.value) c.precinct_count-across.ensures.across

pub returns-clause-inside : goal.returns-clause-inside
returns-clause-inside c =
    let s = c.args.source.now in
    let w = c.args.strip in
    let place = has_place s w c.rect-rect.ensures.frame c.requires.strip c.requires.some in
    (row_within s w.resolution place.precinct w.area.y0 _ (returns-clause-value c) place.is_precinct place.at).2
