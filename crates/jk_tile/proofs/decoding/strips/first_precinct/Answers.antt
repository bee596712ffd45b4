use Rattle.std.proofs.Common.{◌≡◌, ℕ, false, ◌+◌, ◌-◌, ◌*◌, ◌/◌, ◌^◌, ◌≤◌, ◌∙◌, ap, sym, arith}
use Rattle.jk_math.specs.declared.rect.Rect.{Rect}
use Rattle.jk_marks.specs.declared.coding.Coding.{Coding}
use Rattle.jk_marks.specs.Coding.{precinct_size}
use Rattle.jk_geom.specs.Rectangles.{resolution_area, is_empty}
use Rattle.jk_geom.specs.Precincts.{precincts_across, precinct_number, part_height}
use Rattle.jk_tile.specs.decoding.Source.{Source, IsSource}
use Rattle.jk_tile.specs.decoding.Strips.{block_exponent, strip_area, first_precinct_of, IsBlockRow}
use Rattle.jk_tile.specs.declared.decoding.strips.BlockRow.{BlockRow}
use Rattle.jk_tile.proofs.Showing.{few_levels}
use Rattle.jk_tile.proofs.decoding.StripLaws.{first_is, exponent_is, strip_place, IsFoundIn, found_in, beside_within}
use Rattle.jk_tile.proofs.decoding.strips.first_precinct.Goals as goal

-- what the calls gave
abbrev rows_over : (row high low y e : ℕ) → ℕ
rows_over row high low y e = row / 2 ^ (high - low) - y / 2 ^ e

row_same : (s : Source) (w : BlockRow) (rect : Rect) (k : Coding) (area : Rect) (high low e across : ℕ) → rect ≡ s.region.rect → k ≡ s.coding → area ≡ resolution_area rect k.levels w.resolution → high ≡ part_height k w.resolution
    → low ≡ block_exponent k w.resolution → e ≡ (precinct_size k w.resolution).1 → across ≡ precincts_across rect k w.resolution → rows_over w.row high low area.y0 e * across ≡ first_precinct_of s w
row_same s w rect k area high low e across er ek ea eh el ee ec =
    ap (λ n. rows_over w.row n low area.y0 e * across) (eh ∙ ap (λ (x : Coding). part_height x w.resolution) ek)
    ∙ ap (λ n. rows_over w.row (part_height s.coding w.resolution) n area.y0 e * across) (el ∙ ap (λ (x : Coding). block_exponent x w.resolution) ek)
    ∙ ap (λ n. rows_over w.row (part_height s.coding w.resolution) (block_exponent s.coding w.resolution) n e * across)
    (ap (λ (a : Rect). a.y0) (ea ∙ ap (λ (x : Coding). resolution_area rect x.levels w.resolution) ek ∙ ap (λ (a : Rect). resolution_area a s.coding.levels w.resolution) er))
    ∙ ap (λ n. rows_over w.row (part_height s.coding w.resolution) (block_exponent s.coding w.resolution) (resolution_area s.region.rect s.coding.levels w.resolution).y0 n * across) (ee ∙ ap (λ (x : Coding). (precinct_size x w.resolution).1) ek)
    ∙ ap (λ n. rows_over w.row (part_height s.coding w.resolution) (block_exponent s.coding w.resolution) (resolution_area s.region.rect s.coding.levels w.resolution).y0 (precinct_size s.coding w.resolution).1 * n)
    (ec ∙ ap (λ (x : Coding). precincts_across rect x w.resolution) ek ∙ ap (λ (a : Rect). precincts_across a s.coding w.resolution) er)
    ∙ sym (first_is s w)

-- the precinct that has the first place of the strip
found : (s : Source) (w : BlockRow) → IsSource s → IsBlockRow s w → is_empty (strip_area s w) ≡ false → IsFoundIn s w (strip_area s w).x0 (strip_area s w).y0
found s w is row some = found_in s w (strip_area s w).x0 (strip_area s w).y0 is row (strip_place s w some)

-- the first precinct is one of all, and so are those beside it
inside : (s : Source) (w : BlockRow) (first : ℕ) → IsSource s → IsBlockRow s w → is_empty (strip_area s w) ≡ false → first ≡ first_precinct_of s w
    → first + precincts_across s.region.rect s.coding w.resolution ≤ precinct_number s.region.rect s.coding w.resolution
inside s w first is row some at = let f = found s w is row some in (beside_within s w f.precinct first at f.is_precinct f.beside).2

-- the rows above that of the strip
after : (s : Source) (w : BlockRow) (rect : Rect) (k : Coding) (area : Rect) (high low e : ℕ) → IsSource s → IsBlockRow s w → is_empty (strip_area s w) ≡ false → rect ≡ s.region.rect → k ≡ s.coding
    → area ≡ resolution_area rect k.levels w.resolution → high ≡ part_height k w.resolution → low ≡ block_exponent k w.resolution → e ≡ (precinct_size k w.resolution).1 → area.y0 / 2 ^ e ≤ w.row / 2 ^ (high - low)
after s w rect k area high low e is row some er ek ea eh el ee =
    let f = found s w is row some in
    let top : area.y0 / 2 ^ e ≡ (resolution_area s.region.rect s.coding.levels w.resolution).y0 / 2 ^ (precinct_size s.coding w.resolution).1 =
    ap (λ (a : Rect). a.y0 / 2 ^ e) (ea ∙ ap (λ (x : Coding). resolution_area rect x.levels w.resolution) ek ∙ ap (λ (a : Rect). resolution_area a s.coding.levels w.resolution) er)
    ∙ ap (λ n. (resolution_area s.region.rect s.coding.levels w.resolution).y0 / 2 ^ n) (ee ∙ ap (λ (x : Coding). (precinct_size x w.resolution).1) ek) in
    let here : w.row / 2 ^ (high - low) ≡ w.row / 2 ^ (part_height s.coding w.resolution - block_exponent s.coding w.resolution) =
    ap (λ n. w.row / 2 ^ (n - low)) (eh ∙ ap (λ (x : Coding). part_height x w.resolution) ek)
    ∙ ap (λ n. w.row / 2 ^ (part_height s.coding w.resolution - n)) (el ∙ ap (λ (x : Coding). block_exponent x w.resolution) ek) in
    let least = f.beside.after in
    omega (arith, top, here, least)

-- the code-blocks are no higher than their part of a precinct
above : (k : Coding) (r high low : ℕ) → high ≡ part_height k r → low ≡ block_exponent k r → low ≤ high
above k r high low eh el = let e = exponent_is k r in omega (arith, e, eh, el)

pub overflow_sub-above : goal.overflow_sub-above
overflow_sub-above c = above c.coding-coding.result.now c.args.at.resolution c.precinct_part_size.result.1 c.block_exponent.result c.precinct_part_size.ensures.height c.block_exponent.ensures.value

pub overflow_sub-row : goal.overflow_sub-row
overflow_sub-row c =
    after c.args.source.now c.args.at c.rect-rect.result c.coding-coding.result.now c.resolution-area.result c.precinct_part_size.result.1 c.block_exponent.result c.precinct_size.result.1 c.rect-rect.ensures.source c.requires.row c.requires.some
    c.rect-rect.ensures.value c.coding-coding.ensures.value c.resolution-area.ensures.value c.precinct_part_size.ensures.height c.block_exponent.ensures.value (ap (λ (p : ℕ × ℕ). p.1) c.precinct_size.ensures.value)

pub overflow_mul-result : goal.overflow_mul-result
overflow_mul-result c =
    let s = c.args.source.now in
    let w = c.args.at in
    let is = c.rect-rect.ensures.source in
    let value = row_same s w c.rect-rect.result c.coding-coding.result.now c.resolution-area.result c.precinct_part_size.result.1 c.block_exponent.result c.precinct_size.result.1 c.precinct_count-across.result.0
    c.rect-rect.ensures.value c.coding-coding.ensures.value c.resolution-area.ensures.value c.precinct_part_size.ensures.height c.block_exponent.ensures.value (ap (λ (p : ℕ × ℕ). p.1) c.precinct_size.ensures.value) c.precinct_count-across.ensures.across in
    let within = inside s w _ is c.requires.row c.requires.some value in
    let few = is.precincts w.resolution (few_levels s w.resolution is c.requires.row.resolution) in
    omega (arith, within, few)

pub returns-clause-value : goal.returns-clause-value
returns-clause-value c =
    row_same c.args.source.now c.args.at c.rect-rect.result c.coding-coding.result.now c.resolution-area.result c.precinct_part_size.result.1 c.block_exponent.result c.precinct_size.result.1 c.precinct_count-across.result.0
    c.rect-rect.ensures.value c.coding-coding.ensures.value c.resolution-area.ensures.value c.precinct_part_size.ensures.height c.block_exponent.ensures.value (ap (λ (p : ℕ × ℕ). p.1) c.precinct_size.ensures.value) c.precinct_count-across.ensures.across

pub returns-clause-inside : goal.returns-clause-inside
returns-clause-inside c =
    inside c.args.source.now c.args.at _ c.rect-rect.ensures.source c.requires.row c.requires.some
    (row_same c.args.source.now c.args.at c.rect-rect.result c.coding-coding.result.now c.resolution-area.result c.precinct_part_size.result.1 c.block_exponent.result c.precinct_size.result.1 c.precinct_count-across.result.0
    c.rect-rect.ensures.value c.coding-coding.ensures.value c.resolution-area.ensures.value c.precinct_part_size.ensures.height c.block_exponent.ensures.value (ap (λ (p : ℕ × ℕ). p.1) c.precinct_size.ensures.value) c.precinct_count-across.ensures.across)
