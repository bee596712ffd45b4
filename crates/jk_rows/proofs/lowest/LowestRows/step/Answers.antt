use Rattle.std.proofs.Common.{◌≡◌, ℕ, ◌+◌, ◌*◌, ◌/◌, ◌^◌, ◌≤◌, ◌++◌, sym, ◌∙◌, ap, subst, arith}
use Rattle.jk_math.specs.Raster.{raster}
use Rattle.jk_marks.specs.declared.coding.Coding.{Coding}
use Rattle.jk_wave.specs.Resolutions.{resolution_of}
use Rattle.jk_wave.specs.climbing.Held.{rows_between}
use Rattle.jk_wave.proofs.Laws.{resolution_is_area, no_rows, joined}
use Rattle.jk_tile.specs.decoding.Source.{source_coefficient}
use Rattle.jk_tile.specs.decoding.Strips.{block_exponent}
use Rattle.jk_rows.specs.Components.{area_at, taken_rows, made_rows, AreBlocksAt}
use Rattle.jk_rows.proofs.Taken.{taken_low, made_low, low_within, low_more}
use Rattle.jk_rows.proofs.lowest.LowestRows.step.Goals as goal

pub loop-from-init : goal.loop-from-init
loop-from-init c =
    let s = c.args.source.now in
    let g = resolution_of s.region.rect s.region.levels (source_coefficient s) 0 in
    let first = c.taken-from.ensures.value in
    let more = low_more s c.args.d c.args.e c.requires.source c.requires.order in
    record {
      more = omega (arith, first);
      to = omega (arith, first, more, c.taken-end.ensures.value);
      blocks = subst (λ n. AreBlocksAt s 0 n c.args.self.now.chains (λ i. c.args.self.now.strip.items)) (sym first) c.requires.at;
      rows = c.clear.ensures.items ∙ sym (no_rows (area_at s 0) (taken_rows s 0 c.args.d) c.taken-from.result g (omega (arith, first)));
    }

pub give-requires-clause-from : goal.give-requires-clause-from
give-requires-clause-from c =
    let s = c.args.source.now in
    let order = c.requires.order in let last = c.requires.e in
    let within = low_within s c.args.d c.requires.source c.requires.d (omega (arith, order, last)) in
    let more = c.loop-from.invariant.more in
    omega (arith, within.0, more)

pub give-requires-clause-to : goal.give-requires-clause-to
give-requires-clause-to c =
    let s = c.args.source.now in
    let order = c.requires.order in let first = c.requires.d in
    let within = low_within s c.args.e c.requires.source (omega (arith, order, first)) c.requires.e in
    let end = c.cell_end-to.ensures.to in
    omega (arith, within.1, end, c.taken-end.ensures.value)

pub give-requires-clause-cell : goal.give-requires-clause-cell
give-requires-clause-cell c =
    let s = c.args.source.now in
    let power : c.block_exponent-exponent.result ≡ block_exponent s.coding 0 = c.block_exponent-exponent.ensures.value ∙ ap (λ (k : Coding). block_exponent k 0) c.coding.ensures.value in
    subst (λ n. c.cell_end-to.result ≤ (c.loop-from.from / 2 ^ n + 1) * 2 ^ n) power c.cell_end-to.ensures.cell

pub loop-from-preserved : goal.loop-from-preserved
loop-from-preserved c =
    let s = c.args.source.now in
    let g = resolution_of s.region.rect s.region.levels (source_coefficient s) 0 in
    let more = c.loop-from.invariant.more in
    let behind = c.cell_end-to.ensures.from in
    record {
      more = omega (arith, more, behind);
      to = c.cell_end-to.ensures.to;
      blocks = c.in_ok-give.ensures.blocks;
      rows = c.in_ok-give.ensures.rows ∙ ap (λ l. l ++ raster (rows_between (area_at s 0) c.loop-from.from c.cell_end-to.result) g) c.loop-from.invariant.rows
          ∙ joined (area_at s 0) (taken_rows s 0 c.args.d) c.loop-from.from c.cell_end-to.result g more (omega (arith, behind));
    }

pub returns-clause-at : goal.returns-clause-at
returns-clause-at c =
    let s = c.args.source.now in
    let to = c.loop-from.invariant.to in
    let last : c.loop-from.from ≡ taken_rows s 0 c.args.e = omega (arith, to, c.loop-from-test.false, c.taken-end.ensures.value) in
    subst (λ n. AreBlocksAt s 0 n c.loop-from.self.chains (λ i. c.loop-from.self.strip.items)) last c.loop-from.invariant.blocks

pub returns-clause-rows : goal.returns-clause-rows
returns-clause-rows c =
    let s = c.args.source.now in
    let g = resolution_of s.region.rect s.region.levels (source_coefficient s) 0 in
    let to = c.loop-from.invariant.to in
    let last : c.loop-from.from ≡ taken_rows s 0 c.args.e = omega (arith, to, c.loop-from-test.false, c.taken-end.ensures.value) in
    let same : (n : ℕ) → taken_rows s 0 n ≡ made_rows s 0 n = λ n. taken_low s n ∙ sym (made_low s n) in
    c.loop-from.invariant.rows ∙ ap (λ n. raster (rows_between (area_at s 0) (taken_rows s 0 c.args.d) n) g) (last ∙ same c.args.e)
    ∙ ap (λ n. raster (rows_between (area_at s 0) n (made_rows s 0 c.args.e)) g) (same c.args.d)

pub taken-end-requires-clause-e : goal.taken-end-requires-clause-e
taken-end-requires-clause-e c =
    let s = c.args.source.now in
    let lower = (resolution_is_area s.region.rect s.region.levels s.region.top c.requires.source.region.rect).lower in
    let to = c.requires.e in
    omega (arith, to, lower)

pub taken-from-requires-clause-e : goal.taken-from-requires-clause-e
taken-from-requires-clause-e c =
    let s = c.args.source.now in
    let lower = (resolution_is_area s.region.rect s.region.levels s.region.top c.requires.source.region.rect).lower in
    let order = c.requires.order in let to = c.requires.e in
    omega (arith, order, to, lower)
