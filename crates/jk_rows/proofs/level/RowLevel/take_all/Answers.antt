use Rattle.std.proofs.Common.{◌≡◌, ℕ, ◌+◌, ◌*◌, ◌/◌, ◌%◌, ◌^◌, ◌<◌, ◌≤◌, ◌++◌, inl, inr, sym, ◌∙◌, ap, subst, arith}
use Rattle.std.proofs.lemmas.Bool.{cases_lt}
use Rattle.jk_math.specs.Raster.{raster}
use Rattle.jk_marks.specs.declared.coding.Coding.{Coding}
use Rattle.jk_wave.specs.Resolutions.{resolution_of}
use Rattle.jk_wave.specs.climbing.Held.{rows_between}
use Rattle.jk_wave.specs.climbing.Intervals.{rows_reached}
use Rattle.jk_wave.proofs.Laws.{resolution_is_area, reached_more, given_more}
use Rattle.jk_tile.specs.decoding.Source.{source_coefficient}
use Rattle.jk_tile.specs.decoding.Strips.{block_exponent}
use Rattle.jk_rows.specs.Components.{area_at, cell_exponent, StandsBefore}
use Rattle.jk_rows.proofs.Climbed.{cell_is, even_end, none_behind}
use Rattle.jk_rows.proofs.level.RowLevel.take_all.Goals as goal

pub loop-from-init : goal.loop-from-init
loop-from-init c =
    let s = c.args.source.now in
    let a = area_at s (c.args.q + 1) in
    record {
      more = omega arith;
      to = c.requires.order;
      stands = c.requires.stands;
      given = λ m waits under. (waits, none_behind a (rows_reached a c.args.rows.from) (resolution_of s.region.rect s.region.levels (source_coefficient s) (c.args.q + 1)) c.args.out.now.items);
    }

pub cell_end-to-requires-clause-to : goal.cell_end-to-requires-clause-to
cell_end-to-requires-clause-to c =
    let s = c.args.source.now in
    let lower = (resolution_is_area s.region.rect s.region.levels (c.args.q + 1) c.requires.source.region.rect).lower in
    let to = c.requires.to in
    omega (arith, to, lower)

pub take-requires-clause-cell : goal.take-requires-clause-cell
take-requires-clause-cell c =
    let s = c.args.source.now in
    let r : ℕ = c.args.q + 1 in
    let power : c.block_exponent-exponent.result ≡ block_exponent s.coding r = c.block_exponent-exponent.ensures.value ∙ ap (λ (k : Coding). block_exponent k r) c.coding.ensures.value in
    let same : c.block_exponent-exponent.result + 1 ≡ cell_exponent s.coding r = ap (λ n. n + 1) power ∙ sym (cell_is s.coding c.args.q) in
    subst (λ n. c.cell_end-to.result ≤ (c.loop-from.from / 2 ^ n + 1) * 2 ^ n) same c.cell_end-to.ensures.cell

pub take-requires-clause-to : goal.take-requires-clause-to
take-requires-clause-to c = let to = c.requires.to in let end = c.cell_end-to.ensures.to in omega (arith, to, end)

pub take-requires-clause-pairs : goal.take-requires-clause-pairs
take-requires-clause-pairs c = λ behind short. elim (cases_lt c.cell_end-to.result c.args.rows.to) [
  | inl less ↦ even_end c.cell_end-to.result c.block_exponent-exponent.result (c.cell_end-to.ensures.end less)
  | inr more ↦
      let end = c.cell_end-to.ensures.to in
      let last : c.args.rows.to ≡ c.cell_end-to.result = omega (arith, end, more) in
      let a = area_at c.args.source.now (c.args.q + 1) in
      subst (λ n. n % 2 ≡ 0) last (c.requires.pairs (subst (λ n. a.y0 < n) (sym last) behind) (subst (λ n. n < a.y1) (sym last) short))
]

pub take-requires-clause-waits : goal.take-requires-clause-waits
take-requires-clause-waits c =
    let end = c.cell_end-to.ensures.to in
    let under = c.requires.waits.2 in
    (c.requires.waits.0, (c.loop-from.invariant.given c.requires.waits.0 c.requires.waits.1 under).0, omega (arith, under, end))

pub loop-from-preserved : goal.loop-from-preserved
loop-from-preserved c =
    let s = c.args.source.now in
    let q : ℕ = c.args.q in
    let a = area_at s (q + 1) in
    let is = resolution_is_area s.region.rect s.region.levels (q + 1) c.requires.source.region.rect in
    let from : ℕ = c.loop-from.from in
    let to : ℕ = c.cell_end-to.result in
    let more = c.loop-from.invariant.more in
    let behind = c.cell_end-to.ensures.from in
    let end = c.cell_end-to.ensures.to in
    record {
      more = omega (arith, more, behind);
      to = end;
      stands = c.in_ok-take.ensures.stands;
      given = λ m waits under.
          let before = c.loop-from.invariant.given m waits under in
          let next = c.in_ok-take.ensures.samples m before.0 (omega (arith, under, end)) in (
            next.0,
            given_more a (rows_reached a c.args.rows.from) (rows_reached a from) (rows_reached a to) (resolution_of s.region.rect s.region.levels (source_coefficient s) (q + 1)) c.args.out.now.items c.loop-from.out.items c.take.new.out.items
                (reached_more a c.args.rows.from from is more) (reached_more a from to is (omega (arith, behind))) before.1 next.1,
          );
    }

pub returns-clause-stands : goal.returns-clause-stands
returns-clause-stands c =
    let to = c.loop-from.invariant.to in
    let last : c.loop-from.from ≡ c.args.rows.to = omega (arith, to, c.loop-from-test.false) in
    subst (λ n. StandsBefore c.args.source.now c.args.q n c.loop-from.self) last c.loop-from.invariant.stands

pub returns-clause-samples : goal.returns-clause-samples
returns-clause-samples c = λ m waits under.
    let s = c.args.source.now in
    let a = area_at s (c.args.q + 1) in
    let to = c.loop-from.invariant.to in
    let last : c.loop-from.from ≡ c.args.rows.to = omega (arith, to, c.loop-from-test.false) in
    let done = c.loop-from.invariant.given m waits under in
    (done.0, subst (λ n. c.loop-from.out.items ≡ c.args.out.now.items ++ raster (rows_between a (rows_reached a c.args.rows.from) (rows_reached a n)) (resolution_of s.region.rect s.region.levels (source_coefficient s) (c.args.q + 1))) last done.1)
