-- A tile whose code-blocks are all fine has none with a fault.
use Rattle.std.proofs.Common.{◌≡◌, ◌+◌, ◌-◌, length, Result, Err, sym, ◌∙◌, inl, inr, arith}
use Rattle.jk_math.specs.declared.fault.Fault.{Fault}
use Rattle.jk_geom.specs.Precincts.{precinct_number}
use Rattle.jk_geom.specs.Rectangles.{tile_area}
use Rattle.jk_geom.specs.TileShapes.{coding_of}
use Rattle.jk_params.specs.Headers.{tile_in}
use Rattle.jk_walk.specs.TilePackets.{orientations}
use Rattle.jk_tile.specs.decoding.TileReading.{tested, block_values, band_tested, precinct_tested, resolution_tested, component_tested, bodies_of, tile_planes_at}
use Rattle.jk_tile.specs.decoding.TileSources.{TileSource}
use Rattle.jk_tile.specs.decoding.Source.{source_bodies, block_count}
use Rattle.jk_tile.proofs.Laws.{fine, each_found, tile_tested, tested_then, band_by, precinct_by, resolution_by, component_by}
use Rattle.jk_rows.specs.Tiles.{component_in, HasFaultBelow, HasFaultIn}

differ : (r : Result (Unit {0}) Fault) (e : Fault) → r ≡ fine → r ≡ Err e → ⊥
differ r e here there = let f : fine ≡ Err e = sym here ∙ there in cc

no_fault_below : (t : TileSource) (e : Fault) → tested (tile_planes_at t.bytes t.headers t.number t.reduce t.packets) ≡ fine → HasFaultBelow t e → ⊥
no_fault_below t e all has =
    let h = t.headers in
    let a = tile_area h.siz t.number in
    let c = has.component in
    let k = coding_of (tile_in h.tiles t.number).codings c in
    let s = component_in t c in
    let f = has.fault in
    let r = f.resolution in let n = f.precinct in let i = f.band in let j = f.block in
    let asked = f.asked in
    let planes = tested_then (tile_planes_at t.bytes h t.number t.reduce t.packets) tt all in
    let tile = (tile_tested t.bytes h t.number t.reduce t.packets planes.0 planes.1).0 in
    let component = each_found h.siz.components (λ c. component_tested a (coding_of (tile_in h.tiles t.number).codings c) t.reduce (bodies_of t.bytes t.packets c)) tt tile c has.few in
    let resolution = each_found (k.levels - t.reduce + 1) (λ r. resolution_tested a k r (bodies_of t.bytes t.packets c r)) tt (sym (component_by a k t.reduce (bodies_of t.bytes t.packets c)) ∙ component) r (omega (arith, asked)) in
    let precinct = each_found (precinct_number a k r) (λ n. precinct_tested a k r n (source_bodies s r n)) tt (sym (resolution_by a k r (source_bodies s r)) ∙ resolution) n f.is_precinct in
    let band = each_found (length (orientations r)) (λ i. band_tested a k r n i (source_bodies s r n)) tt (sym (precinct_by a k r n (source_bodies s r n)) ∙ precinct) i f.is_band in
    let block = each_found (block_count s r n i) (λ j. tested (block_values a k r n i j (source_bodies s r n))) tt (sym (band_by a k r n i (source_bodies s r n)) ∙ band) j f.is_block in
    differ (tested (block_values a k r n i j (source_bodies s r n))) e block f.refuses

pub no_fault_in : (t : TileSource) (e : Fault) → tested (tile_planes_at t.bytes t.headers t.number t.reduce t.packets) ≡ fine → HasFaultIn t e → ⊥
no_fault_in t e all (inl below) = no_fault_below t e all below
no_fault_in t e all (inr first) = differ (tested (tile_planes_at t.bytes t.headers t.number t.reduce t.packets)) e all first
