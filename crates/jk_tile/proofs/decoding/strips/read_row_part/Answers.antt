use Rattle.std.proofs.Common.{◌≡◌, ℕ, ◌+◌, ◌-◌, ◌*◌, ◌/◌, ◌<◌, ◌≤◌, inl, inr, length, ◌∙◌, sym, subst, arith}
use Rattle.std.specs.List.{AllByRecursion}
use Rattle.std.proofs.lemmas.Bool.{cases_eq}
use Rattle.std.proofs.lemmas.Result.{err_from_is_err_and}
use Rattle.jk_math.specs.declared.rect.Rect.{Rect}
use Rattle.jk_geom.specs.declared.grid.BlockGrid.{BlockGrid}
use Rattle.jk_geom.specs.Blocks.{block_area}
use Rattle.jk_geom.specs.Rectangles.{IsWithin}
use Rattle.jk_wave.proofs.Laws.{part_within}
use Rattle.jk_walk.specs.WalkReading.{place_end}
use Rattle.jk_tile.specs.Filling.{IsPartOf}
use Rattle.jk_tile.specs.TileBlocks.{grid_at, block_at_place}
use Rattle.jk_tile.specs.decoding.TileReading.{tested, block_values}
use Rattle.jk_tile.specs.decoding.Source.{Source, source_bodies, block_count}
use Rattle.jk_tile.specs.declared.decoding.strips.BlockRow.{BlockRow}
use Rattle.jk_tile.specs.decoding.Strips.{IsFine, ShowsBlockIn, row_of_block, strip_area}
use Rattle.jk_tile.proofs.Showing.{listed_bodies, grid_is}
use Rattle.jk_tile.proofs.decoding.StripLaws.{row_blocks, row_block_in, block_in_strip, cause_from}
use Rattle.jk_tile.proofs.decoding.strips.read_row_part.Goals as goal

-- code-block k of those that the precinct has of the row
record IsOfRow (s : Source) (w : BlockRow) (n j : ℕ) : Type 0 where
  block : j < block_count s w.resolution n w.band
  row : row_of_block s w.resolution n w.band j ≡ w.row

of_row : (s : Source) (w : BlockRow) (n k : ℕ) (g : BlockGrid) → g ≡ grid_at s.region.rect s.coding w.resolution n w.band → (w.row < g.row → ⊥) → (g.row + g.down ≤ w.row → ⊥) → k < g.across
    → IsOfRow s w n ((w.row - g.row) * g.across + k)
of_row s w n k g is above below lt =
    let both = row_blocks g w.row k (omega (arith, above)) (omega (arith, below)) lt in
    record {
      block = subst (λ (h : BlockGrid). (w.row - g.row) * g.across + k < h.across * h.down) is both.0;
      row = subst (λ (h : BlockGrid). h.row + ((w.row - g.row) * g.across + k) / h.across ≡ w.row) is both.1;
    }

-- the same of a number
of_number : (s : Source) (w : BlockRow) (n j : ℕ) (g : BlockGrid) → g ≡ grid_at s.region.rect s.coding w.resolution n w.band → (w.row < g.row → ⊥) → (g.row + g.down ≤ w.row → ⊥) → (w.row - g.row) * g.across ≤ j
    → j < (w.row - g.row) * g.across + g.across → IsOfRow s w n j
of_number s w n j g is above below from to =
    let first : ℕ = (w.row - g.row) * g.across in
    let k : ℕ = j - first in
    let whole : first + k ≡ j = omega (arith, from) in
    subst (IsOfRow s w n) whole (of_row s w n k g is above below (omega (arith, from, to)))

-- a place of it lies in the strip
in_strip_at : (s : Source) (w : BlockRow) (n j x y : ℕ) (area : Rect) → area ≡ strip_area s w → IsOfRow s w n j → IsWithin (block_at_place s.region.rect s.coding w.resolution n w.band j) x y → IsWithin area x y
in_strip_at s w n j x y area is of h =
    subst (λ (a : Rect). IsWithin a x y) (sym is) (part_within (block_at_place s.region.rect s.coding w.resolution n w.band j) (strip_area s w) x y (block_in_strip s w n j of.block of.row) h)

pub index-bodies-requires : goal.index-bodies-requires
index-bodies-requires c =
    let s = c.args.source.now in
    let ends = subst (λ ws. AllByRecursion (λ w. place_end w ≤ length s.bytes) ws) (sym c.packets.ensures) c.rect-rect.ensures.source.ends in
    let long = (c.in_ok-lists.ensures.lists (length s.bytes) ends).long in
    let lt = c.loop-k-test.true in
    let same = c.in_ok-lists.lists.ok in
    omega (arith, lt, long, same)

pub read_into-requires-clause-inside : goal.read_into-requires-clause-inside
read_into-requires-clause-inside c =
    let s = c.args.source.now in
    let w = c.args.at in
    let g = c.blocks-grid.result in
    let ends = subst (λ ws. AllByRecursion (λ w. place_end w ≤ length s.bytes) ws) (sym c.packets.ensures) c.rect-rect.ensures.source.ends in
    (listed_bodies s w.resolution c.args.part.precinct w.band c.loop-k.k ((w.row - g.row) * g.across) g.across c.args.part.numbers.now c.packets.result.now c.in_ok-lists.lists.items c.index-bodies.result.now c.deref.result.now
    c.requires.numbers c.packets.ensures (c.in_ok-lists.ensures.lists (length s.bytes) ends) c.loop-k-test.true c.index-bodies.ensures c.deref.ensures.value).0

pub read_into-requires-clause-bodies : goal.read_into-requires-clause-bodies
read_into-requires-clause-bodies c =
    let s = c.args.source.now in
    let w = c.args.at in
    let g = c.blocks-grid.result in
    let ends = subst (λ ws. AllByRecursion (λ w. place_end w ≤ length s.bytes) ws) (sym c.packets.ensures) c.rect-rect.ensures.source.ends in
    (listed_bodies s w.resolution c.args.part.precinct w.band c.loop-k.k ((w.row - g.row) * g.across) g.across c.args.part.numbers.now c.packets.result.now c.in_ok-lists.lists.items c.index-bodies.result.now c.deref.result.now
    c.requires.numbers c.packets.ensures (c.in_ok-lists.ensures.lists (length s.bytes) ends) c.loop-k-test.true c.index-bodies.ensures c.deref.ensures.value).1

pub read_into-requires-clause-place : goal.read_into-requires-clause-place
read_into-requires-clause-place c =
    let s = c.args.source.now in
    let w = c.args.at in
    let n = c.args.part.precinct in
    let g = c.blocks-grid.result in
    let grid = grid_is s w.resolution n w.band c.rect-rect.result c.coding.result.now c.orientation-orientation.result g c.rect-rect.ensures.value c.coding.ensures.value c.orientation-orientation.ensures c.blocks-grid.ensures.value in
    let j : ℕ = (w.row - g.row) * g.across + c.loop-k.k in
    let of = of_row s w n c.loop-k.k g grid (λ h. omega (arith, h, c.if-at-grid.false)) (λ h. omega (arith, h, c.if-grid-at.false)) c.loop-k-test.true in
    subst (λ (h : BlockGrid). IsPartOf (block_area h j) c.args.part.area.now) (sym grid)
    (subst (λ (a : Rect). IsPartOf (block_at_place s.region.rect s.coding w.resolution n w.band j) a) (sym c.requires.area) (block_in_strip s w n j of.block of.row))

pub returns-in_err-read_into-clause-cause : goal.returns-in_err-read_into-clause-cause
returns-in_err-read_into-clause-cause c =
    let s = c.args.source.now in
    let w = c.args.at in
    let n = c.args.part.precinct in
    let g = c.blocks-grid.result in
    let grid = grid_is s w.resolution n w.band c.rect-rect.result c.coding.result.now c.orientation-orientation.result g c.rect-rect.ensures.value c.coding.ensures.value c.orientation-orientation.ensures c.blocks-grid.ensures.value in
    let j : ℕ = (w.row - g.row) * g.across + c.loop-k.k in
    let of = of_row s w n c.loop-k.k g grid (λ h. omega (arith, h, c.if-at-grid.false)) (λ h. omega (arith, h, c.if-grid-at.false)) c.loop-k-test.true in
    let e = c.in_err-read_into.field-0.0 in
    let q = err_from_is_err_and c.from_residual-in_err-read_into.result c.from_residual-in_err-read_into.ensures.1 in
    rw (q.1, q.2) (cause_from s e (tested (block_values s.region.rect s.coding w.resolution n w.band j (source_bodies s w.resolution n))) c.in_err-read_into.ensures.exact (λ h. record {
      resolution = w.resolution;
      precinct = n;
      band = w.band;
      block = j;
      asked = c.requires.row.resolution;
      is_precinct = c.requires.precinct;
      is_band = c.requires.row.band;
      is_block = of.block;
      refuses = h;
    }))

pub loop-k-preserved : goal.loop-k-preserved
loop-k-preserved c =
    let s = c.args.source.now in
    let w = c.args.at in
    let n = c.args.part.precinct in
    let g = c.blocks-grid.result in
    let area = c.args.part.area.now in
    let grid = grid_is s w.resolution n w.band c.rect-rect.result c.coding.result.now c.orientation-orientation.result g c.rect-rect.ensures.value c.coding.ensures.value c.orientation-orientation.ensures c.blocks-grid.ensures.value in
    let first : ℕ = (w.row - g.row) * g.across in
    let last : ℕ = first + c.loop-k.k in
    let lt = c.loop-k-test.true in
    let done = c.in_ok-read_into.ensures in
    record {
      long = done.long ∙ c.loop-k.invariant.long;
      fine = λ j from to. elim (cases_eq j last) [
        | inl same ↦ subst (IsFine s w.resolution n w.band) (sym same) done.exact
        | inr other ↦ c.loop-k.invariant.fine j from (omega (arith, to, other))
      ];
      shows = λ j from to x y h. elim (cases_eq j last) [
        | inl same ↦ subst (λ m. ShowsBlockIn s w.resolution n w.band m area c.read_into.new.strip) (sym same) done.shows x y h
        | inr other ↦
            let before : j < last = omega (arith, to, other) in
            let of = of_number s w n j g grid (λ z. omega (arith, z, c.if-at-grid.false)) (λ z. omega (arith, z, c.if-grid-at.false)) from (omega (arith, before, lt)) in
            done.keeps x y (in_strip_at s w n j x y area c.requires.area of h) (c.loop-k.invariant.shows j from before x y h)
      ];
      keeps = λ x y h before. done.keeps x y h (c.loop-k.invariant.keeps x y h before);
    }

pub returns-clause-fine : goal.returns-clause-fine
returns-clause-fine c j lt row =
    let s = c.args.source.now in
    let w = c.args.at in
    let n = c.args.part.precinct in
    let g = c.blocks-grid.result in
    let grid = grid_is s w.resolution n w.band c.rect-rect.result c.coding.result.now c.orientation-orientation.result g c.rect-rect.ensures.value c.coding.ensures.value c.orientation-orientation.ensures c.blocks-grid.ensures.value in
    let at = row_block_in g w.row j (subst (λ (h : BlockGrid). j < h.across * h.down) (sym grid) lt) (subst (λ (h : BlockGrid). h.row + j / h.across ≡ w.row) (sym grid) row) in
    c.loop-k.invariant.fine j at.0 (let to = at.1 in omega (arith, to, c.loop-k-test.false))

pub returns-clause-shows : goal.returns-clause-shows
returns-clause-shows c j lt row =
    let s = c.args.source.now in
    let w = c.args.at in
    let n = c.args.part.precinct in
    let g = c.blocks-grid.result in
    let grid = grid_is s w.resolution n w.band c.rect-rect.result c.coding.result.now c.orientation-orientation.result g c.rect-rect.ensures.value c.coding.ensures.value c.orientation-orientation.ensures c.blocks-grid.ensures.value in
    let at = row_block_in g w.row j (subst (λ (h : BlockGrid). j < h.across * h.down) (sym grid) lt) (subst (λ (h : BlockGrid). h.row + j / h.across ≡ w.row) (sym grid) row) in
    c.loop-k.invariant.shows j at.0 (let to = at.1 in omega (arith, to, c.loop-k-test.false))
