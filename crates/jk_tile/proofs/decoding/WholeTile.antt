-- All of a tile as a part of it.
use Rattle.std.proofs.Common.{◌≡◌, ℕ, zero, suc, ◌+◌, ◌-◌, ◌<◌, ◌≤◌, Bool, true, if◌then◌else◌, List, length, Result, Ok, refl, sym, ap, ◌∙◌, arith}
use Rattle.std.specs.List.{AllByRecursion}
use Rattle.jk_math.specs.Answer.{◌>>=◌}
use Rattle.jk_math.specs.declared.fault.Fault.{Fault}
use Rattle.jk_math.specs.declared.rect.Rect.{Rect}
use Rattle.jk_marks.specs.declared.coding.Coding.{Coding}
use Rattle.jk_geom.specs.Rectangles.{tile_area, resolution_area, band_area, IsWithin}
use Rattle.jk_geom.specs.Precincts.{precinct_number}
use Rattle.jk_geom.specs.Partitions.{block_number}
use Rattle.jk_geom.specs.TileShapes.{coding_of}
use Rattle.jk_params.specs.Headers.{Headers, tile_in}
use Rattle.jk_walk.specs.declared.places.PacketPlace.{PacketPlace}
use Rattle.jk_walk.specs.TilePackets.{Body, orientations, band_number}
use Rattle.jk_wave.specs.Regions.{part_area}
use Rattle.jk_wave.proofs.Laws.{whole_region, part_whole}
use Rattle.jk_tile.specs.Filling.{touches}
use Rattle.jk_tile.specs.TileBlocks.{orientation_at, grid_at, block_at_place}
use Rattle.jk_tile.specs.TileMeaning.{shown_area}
use Rattle.jk_tile.specs.decoding.TileReading.{each, tested, bodies_of, block_values, region_of, is_met, component_samples, band_tested, met_tested, precinct_tested, precinct_part_tested, resolution_tested, resolution_part_tested, component_tested, component_part_tested, tile_planes_at, part_planes_at}
use Rattle.jk_tile.proofs.Steps.{Step, each_none, each_suc, band_by, met_by, precinct_by, precinct_part_by, resolution_by, resolution_part_by, component_by, component_part_by}
use Rattle.jk_tile.proofs.Places.{block_place}
use Rattle.jk_tile.proofs.Fillings.{touches_at}
use Rattle.jk_tile.proofs.Showing.{number_under, numbered_band}
use Rattle.jk_tile.proofs.Components.{shown_is, levels_read}
use Rattle.jk_tile.proofs.Colours.{rasters, planes_by, part_by}

-- steps that are the same
each_same : (n : ℕ) (f g : Step) → ((i : ℕ) → i < n → f i ≡ g i) → each n f ≡ each n g
each_same zero f g same = each_none f ∙ sym (each_none g)
each_same (suc n) f g same =
    each_suc n f ∙ ap (λ (r : Result (Unit {0}) Fault). r >>= λ _. f n) (each_same n f g (λ i lt. same i (omega (arith, lt))))
    ∙ ap (λ (r : Result (Unit {0}) Fault). each n g >>= λ _. r) (same n (omega arith)) ∙ sym (each_suc n g)

-- every code-block of a resolution is met by all of it
block_met : (a : Rect) (k : Coding) (top r n i j : ℕ) → top ≤ k.levels → r ≤ top → i < length (orientations r) → j < block_number (grid_at a k r n i) → is_met (whole_region a k.levels top) k r n i j ≡ true
block_met a k top r n i j few le lt less =
    let b : Rect = block_at_place a k r n i j in
    let band : Rect = band_area a k.levels r (orientation_at r i) in
    let part : part_area (whole_region a k.levels top) (band_number r i) ≡ band = part_whole a k.levels top (band_number r i) few (number_under r i top le lt) ∙ numbered_band a k.levels r i lt in
    let p = block_place a k r n i j less in
    let wide = p.wide in let high = p.high in let left = p.left in let right = p.right in let upper = p.upper in let lower = p.lower in
    let here : IsWithin b b.x0 b.y0 = record { left = omega arith; right = omega arith; upper = omega arith; lower = omega arith } in
    let there : IsWithin band b.x0 b.y0 = record { left = omega arith; right = omega arith; upper = omega arith; lower = omega arith } in
    ap (touches b) part ∙ touches_at b band b.x0 b.y0 here there

band_same : (a : Rect) (k : Coding) (top r n i : ℕ) (bodies : List Body) → top ≤ k.levels → r ≤ top → i < length (orientations r) → met_tested (whole_region a k.levels top) k r n i bodies ≡ band_tested a k r n i bodies
band_same a k top r n i bodies few le lt =
    met_by (whole_region a k.levels top) k r n i bodies
    ∙ each_same (block_number (grid_at a k r n i)) _ (λ j. tested (block_values a k r n i j bodies))
    (λ j less. ap (λ (b : Bool). if b then tested (block_values a k r n i j bodies) else Ok tt) (block_met a k top r n i j few le lt less))
    ∙ sym (band_by a k r n i bodies)

precinct_same : (a : Rect) (k : Coding) (top r n : ℕ) (bodies : List Body) → top ≤ k.levels → r ≤ top → precinct_part_tested (whole_region a k.levels top) k r n bodies ≡ precinct_tested a k r n bodies
precinct_same a k top r n bodies few le =
    precinct_part_by (whole_region a k.levels top) k r n bodies
    ∙ each_same (length (orientations r)) (λ i. met_tested (whole_region a k.levels top) k r n i bodies) (λ i. band_tested a k r n i bodies) (λ i lt. band_same a k top r n i bodies few le lt)
    ∙ sym (precinct_by a k r n bodies)

resolution_same : (a : Rect) (k : Coding) (top r : ℕ) (bodies : ℕ → List Body) → top ≤ k.levels → r ≤ top → resolution_part_tested (whole_region a k.levels top) k r bodies ≡ resolution_tested a k r bodies
resolution_same a k top r bodies few le =
    resolution_part_by (whole_region a k.levels top) k r bodies
    ∙ each_same (precinct_number a k r) (λ n. precinct_part_tested (whole_region a k.levels top) k r n (bodies n)) (λ n. precinct_tested a k r n (bodies n)) (λ n lt. precinct_same a k top r n (bodies n) few le)
    ∙ sym (resolution_by a k r bodies)

component_same : (a : Rect) (k : Coding) (d : ℕ) (bodies : ℕ → ℕ → List Body) → d ≤ k.levels → component_part_tested a k d (resolution_area a d 0) bodies ≡ component_tested a k d bodies
component_same a k d bodies le =
    let top : ℕ = k.levels - d in
    component_part_by a k d (resolution_area a d 0) bodies
    ∙ ap (λ (u : Rect). each (top + 1) (λ r. resolution_part_tested (region_of a k d u) k r (bodies r))) (sym (shown_is a k.levels d le))
    ∙ each_same (top + 1) (λ r. resolution_part_tested (whole_region a k.levels top) k r (bodies r)) (λ r. resolution_tested a k r (bodies r)) (λ r lt. resolution_same a k top r (bodies r) (omega arith) (omega (arith, lt)))
    ∙ sym (component_by a k d bodies)

-- the samples of a tile are those of all of it
pub whole_planes : (bytes : List ℕ) (h : Headers) (t d : ℕ) (places : List PacketPlace) → h.siz.components ≤ length (tile_in h.tiles t).codings → AllByRecursion (λ k. d ≤ k.levels) (tile_in h.tiles t).codings
    → part_planes_at bytes h t d (shown_area h.siz t d) places ≡ tile_planes_at bytes h t d places
whole_planes bytes h t d places few all =
    let a = tile_area h.siz t in
    let codings = (tile_in h.tiles t).codings in
    part_by bytes h t d (shown_area h.siz t d) places
    ∙ ap (λ (r : Result (Unit {0}) Fault). r >>= λ _. Ok (rasters (shown_area h.siz t d) (component_samples bytes h t d places) h.siz.components))
    (each_same h.siz.components (λ c. component_part_tested a (coding_of codings c) d (shown_area h.siz t d) (bodies_of bytes places c)) (λ c. component_tested a (coding_of codings c) d (bodies_of bytes places c))
    (λ c lt. component_same a (coding_of codings c) d (bodies_of bytes places c) (levels_read codings c d (coding_of codings c) all (omega (arith, lt, few)) refl)))
    ∙ sym (planes_by bytes h t d places)
