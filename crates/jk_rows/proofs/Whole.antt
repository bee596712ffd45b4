-- All rows of a component: which code-blocks are fine behind the last one.
use Rattle.std.proofs.Common.{◌≡◌, ℕ, zero, suc, ◌+◌, ◌-◌, ◌<◌, ◌≤◌, length, ◌∙◌, ap, subst, add-one, arith}
use Rattle.jk_geom.specs.Rectangles.{resolution_area}
use Rattle.jk_geom.specs.Precincts.{precinct_number}
use Rattle.jk_wave.specs.climbing.Intervals.{rows_taken}
use Rattle.jk_wave.proofs.Laws.{takes_all, taken_all, resolution_is_area}
use Rattle.jk_walk.specs.TilePackets.{orientations}
use Rattle.jk_tile.specs.decoding.TileReading.{each, tested, block_values, band_tested, precinct_tested, resolution_tested}
use Rattle.jk_tile.specs.decoding.Source.{Source, IsSource, source_bodies, block_count}
use Rattle.jk_tile.proofs.Laws.{fine, each_only, band_by, precinct_by, resolution_by}
use Rattle.jk_rows.specs.declared.component.ComponentRows.{ComponentRows}
use Rattle.jk_rows.specs.Components.{area_at, taken_rows, IsFineAbove, IsComponentRows}
use Rattle.jk_rows.proofs.Taken.{taken_low, taken_high}
use Rattle.jk_rows.proofs.Cells.{fine_all}
use Rattle.jk_rows.proofs.Pushed.{some_element}

-- all rows are taken where all are asked for
pub taken_last : (s : Source) (r : ℕ) → IsSource s → r ≤ s.region.top → taken_rows s r (area_at s s.region.top).y1 ≡ (area_at s r).y1
taken_last s zero is few =
    let rect = s.region.rect in
    let levels = s.region.levels in
    let top : ℕ = s.region.top in
    let none : top - top ≡ 0 = omega arith in
    taken_low s (area_at s top).y1 ∙ takes_all rect levels top top is.region.rect is.region.top (omega arith) ∙ ap (λ n. (resolution_area rect levels n).y1) none
taken_last s (suc q) is few =
    let rect = s.region.rect in
    let levels = s.region.levels in
    let top : ℕ = s.region.top in
    let a = area_at s (q + 1) in
    let back : top - (top - (q + 1)) ≡ q + 1 = omega (arith, few) in
    subst (λ r. taken_rows s r (area_at s top).y1 ≡ (area_at s r).y1) (add-one q)
    (taken_high s q (area_at s top).y1
    ∙ ap (rows_taken a) (takes_all rect levels top (top - (q + 1)) is.region.rect is.region.top (omega arith) ∙ ap (λ n. (resolution_area rect levels n).y1) back)
    ∙ taken_all a (resolution_is_area rect levels (q + 1) is.region.rect))

-- the code-blocks of a resolution above its last row
fine_at : (s : Source) (c : ComponentRows) (e r : ℕ) → IsComponentRows s e c → r ≤ s.region.top → IsFineAbove s r (taken_rows s r e)
fine_at s c e zero at few = at.lowest.fine
fine_at s c e (suc q) at few =
    let count = at.count in
    let less : q < s.region.top = omega (arith, few) in
    subst (λ r. IsFineAbove s r (taken_rows s r e)) (add-one q) (at.each q (some_element c.levels.items q (omega (arith, count, less))) less).stands.blocks.fine

-- a component of which all rows were made
pub component_fine : (s : Source) (c : ComponentRows) → IsSource s → IsComponentRows s (area_at s s.region.top).y1 c → each (s.region.top + 1) (λ r. resolution_tested s.region.rect s.coding r (source_bodies s r)) ≡ fine
component_fine s c is at = each_only (s.region.top + 1) (λ r. resolution_tested s.region.rect s.coding r (source_bodies s r)) (λ r lt.
    let few : r ≤ s.region.top = omega (arith, lt) in
    let above = subst (IsFineAbove s r) (taken_last s r is few) (fine_at s c (area_at s s.region.top).y1 r at few) in
    resolution_by s.region.rect s.coding r (source_bodies s r) ∙ each_only (precinct_number s.region.rect s.coding r) (λ n. precinct_tested s.region.rect s.coding r n (source_bodies s r n)) (λ n precinct.
    precinct_by s.region.rect s.coding r n (source_bodies s r n) ∙ each_only (length (orientations r)) (λ i. band_tested s.region.rect s.coding r n i (source_bodies s r n)) (λ i band.
    band_by s.region.rect s.coding r n i (source_bodies s r n) ∙ each_only (block_count s r n i) (λ j. tested (block_values s.region.rect s.coding r n i j (source_bodies s r n))) (λ j block.
    fine_all s r n i j is few above precinct band block))))
