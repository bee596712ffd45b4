use Rattle.std.proofs.Common.{◌≡◌, ◌<◌, length, ◌∙◌, ap, sym, subst, inl, inr, arith}
use Rattle.std.proofs.lemmas.Bool.{cases_eq}
use Rattle.std.proofs.lemmas.Result.{err_from_is_err_and}
use Rattle.jk_walk.specs.TilePackets.{orientations}
use Rattle.jk_tile.specs.decoding.TileReading.{each, met_tested}
use Rattle.jk_tile.specs.decoding.Source.{source_bodies, block_count, ShowsBlocks}
use Rattle.jk_tile.proofs.Steps.{each_none, each_more, each_fails, refuses_on, precinct_part_by}
use Rattle.jk_tile.proofs.decoding.Filled.{fills_same, fills_then, shown_on}
use Rattle.jk_tile.proofs.decoding.Unread.{none_listed, unread_bodies, unread_fine, unread_shown}
use Rattle.jk_tile.proofs.decoding.reading.read_precinct.Goals as goal

pub loop-i-init : goal.loop-i-init
loop-i-init c = record {
  tested = each_none _;
  fills = fills_same c.args.source.now c.args.r c.args.rows.now c.requires.filling;
  shows = λ i lt few. absurd (omega (arith, lt));
}

pub returns-in_err-read_band-clause-exact : goal.returns-in_err-read_band-clause-exact
returns-in_err-read_band-clause-exact c =
    let s = c.args.source.now in
    let bodies = source_bodies s c.args.r c.args.n in
    let e = c.in_err-read_band.field-0.0 in
    let q = err_from_is_err_and c.from_residual.result c.from_residual.ensures.1 in
    let lt : c.loop-i.i < length (orientations c.args.r) = omega (arith, c.loop-i-test.true, c.band_count-i-end.ensures) in
    rw (q.1, q.2) (refuses_on e (met_tested s.region s.coding c.args.r c.args.n c.loop-i.i bodies) _ c.in_err-read_band.ensures.exact
    (λ h. precinct_part_by s.region s.coding c.args.r c.args.n bodies
    ∙ each_fails (length (orientations c.args.r)) c.loop-i.i (λ i. met_tested s.region s.coding c.args.r c.args.n i bodies) e lt c.loop-i.invariant.tested h))

pub loop-i-preserved : goal.loop-i-preserved
loop-i-preserved c =
    let s = c.args.source.now in
    let bodies = source_bodies s c.args.r c.args.n in
    record {
      tested = each_more c.loop-i.i (λ i. met_tested s.region s.coding c.args.r c.args.n i bodies) c.loop-i.invariant.tested c.in_ok-read_band.ensures.exact;
      fills = fills_then s c.args.r c.args.rows.now c.loop-i.rows c.read_band.new.rows c.loop-i.invariant.fills c.in_ok-read_band.ensures.fills;
      shows = λ i less few. elim (cases_eq i c.loop-i.i) [
        | inl same ↦ subst (λ k. ShowsBlocks s c.args.r c.args.n k (block_count s c.args.r c.args.n k) c.read_band.new.rows) (sym same) c.in_ok-read_band.ensures.shows
        | inr other ↦ shown_on s c.args.r c.args.n i (block_count s c.args.r c.args.n i) c.loop-i.rows c.read_band.new.rows few c.in_ok-read_band.ensures.fills (c.loop-i.invariant.shows i (omega (arith, less, other)) few)
      ];
    }

pub returns-clause-exact : goal.returns-clause-exact
returns-clause-exact c =
    let s = c.args.source.now in
    let bodies = source_bodies s c.args.r c.args.n in
    let count : c.loop-i.i ≡ length (orientations c.args.r) = omega (arith, c.loop-i-test.false, c.loop-i.auto.i-end, c.band_count-i-end.ensures) in
    precinct_part_by s.region s.coding c.args.r c.args.n bodies ∙ ap (λ k. each k (λ i. met_tested s.region s.coding c.args.r c.args.n i bodies)) (sym count) ∙ c.loop-i.invariant.tested

pub returns-then-is_empty-clause-exact : goal.returns-then-is_empty-clause-exact
returns-then-is_empty-clause-exact c =
    let s = c.args.source.now in
    let none = none_listed c.args.numbers.now c.is_empty.result c.is_empty.ensures c.if-is_empty.true in
    unread_fine s c.args.r c.args.n (unread_bodies s c.args.r c.args.n c.args.numbers.now none c.requires.numbers)

pub returns-then-is_empty-clause-fills : goal.returns-then-is_empty-clause-fills
returns-then-is_empty-clause-fills c = fills_same c.args.source.now c.args.r c.args.rows.now c.requires.filling

pub returns-then-is_empty-clause-shows : goal.returns-then-is_empty-clause-shows
returns-then-is_empty-clause-shows c =
    let s = c.args.source.now in
    let none = none_listed c.args.numbers.now c.is_empty.result c.is_empty.ensures c.if-is_empty.true in
    unread_shown s c.args.r c.args.n c.args.rows.now c.requires.source c.requires.r c.requires.n (unread_bodies s c.args.r c.args.n c.args.numbers.now none c.requires.numbers) c.requires.filling
