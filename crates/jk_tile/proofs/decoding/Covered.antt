-- Parts of a tile that together have all its samples: where each is decoded, the tile is.
use Rattle.std.proofs.Common.{◌≡◌, ℕ, ◌+◌, ◌-◌, ◌*◌, ◌<◌, ◌≤◌, not, Bool, true, false, if◌then◌else◌, List, length, Result, Ok, sym, ap, subst, ◌∙◌, arith}
use Rattle.jk_math.specs.Steps.{bind_then}
use Rattle.jk_math.specs.declared.fault.Fault.{Fault}
use Rattle.jk_math.specs.declared.rect.Rect.{Rect}
use Rattle.jk_marks.specs.declared.coding.Coding.{Coding}
use Rattle.jk_geom.specs.Rectangles.{IsWithin, meet, tile_area, resolution_area, band_area}
use Rattle.jk_geom.specs.Precincts.{precinct_number}
use Rattle.jk_geom.specs.Partitions.{block_number}
use Rattle.jk_geom.specs.TileShapes.{coding_of}
use Rattle.jk_geom.proofs.Laws.{sides_some}
use Rattle.jk_params.specs.Headers.{Headers, tile_in}
use Rattle.jk_walk.specs.declared.places.PacketPlace.{PacketPlace}
use Rattle.jk_walk.specs.TilePackets.{Body, orientations, band_number}
use Rattle.jk_wave.specs.Bands.{numbered_area}
use Rattle.jk_wave.specs.Regions.{part_area}
use Rattle.jk_wave.proofs.Laws.{column_above, row_above, sample_above, part_has}
use Rattle.jk_tile.specs.Filling.{touches}
use Rattle.jk_tile.specs.TileBlocks.{orientation_at, grid_at, block_at_place}
use Rattle.jk_tile.specs.TileMeaning.{shown_area}
use Rattle.jk_tile.specs.decoding.TileReading.{bodies_of, each, tested, block_values, component_tested, region_of, is_met, component_part_tested, tile_planes_at, part_planes_at}
use Rattle.jk_tile.proofs.Steps.{fine, each_found, each_only, bind_ok, tested_then, tested_ok, band_by, precinct_by, resolution_by, component_by, met_by, precinct_part_by, resolution_part_by, component_part_by}
use Rattle.jk_tile.proofs.Places.{block_place}
use Rattle.jk_tile.proofs.Showing.{number_under, numbered_band}
use Rattle.jk_tile.proofs.Components.{shown_is}

-- ---- a code-block

-- what both rectangles have
both_touch : (a b : Rect) (x y : ℕ) → IsWithin a x y → IsWithin b x y → touches a b ≡ true
both_touch a b x y h g =
    let hl = h.left in let hr = h.right in let hu = h.upper in let hd = h.lower in
    let gl = g.left in let gr = g.right in let gu = g.upper in let gd = g.lower in
    ap not (sides_some (meet a b) (omega arith) (omega arith))

asked : (b : Bool) (r : Result (Unit {0}) Fault) → b ≡ true → (if b then r else Ok tt) ≡ fine → r ≡ fine
asked true r e f = f
asked false r e f = absurd cc

-- The code-blocks of a part u of a tile-component are fine.
abbrev pub IsPartFine : (a : Rect) (k : Coding) (d : ℕ) (bodies : ℕ → ℕ → List Body) (u : Rect) → Type 0
IsPartFine a k d bodies u = component_part_tested a k d u bodies ≡ fine

-- Each sample of a tile-component is one of a part whose code-blocks are fine.
abbrev pub AreCovered : (a : Rect) (k : Coding) (d : ℕ) (bodies : ℕ → ℕ → List Body) → Type 0
AreCovered a k d bodies = (x y : ℕ) → IsWithin (resolution_area a k.levels (k.levels - d)) x y → (u : Rect) × IsWithin u x y × IsPartFine a k d bodies u

-- a code-block that is met by a part that is fine
met_fine : (a : Rect) (k : Coding) (d : ℕ) (bodies : ℕ → ℕ → List Body) (u : Rect) (r n i j : ℕ) → r < k.levels - d + 1 → n < precinct_number a k r → i < length (orientations r) → j < block_number (grid_at a k r n i)
    → IsPartFine a k d bodies u → is_met (region_of a k d u) k r n i j ≡ true → tested (block_values a k r n i j (bodies r n)) ≡ fine
met_fine a k d bodies u r n i j level precinct band block part met =
    let s = region_of a k d u in
    let resolution = each_found (k.levels - d + 1) _ tt (sym (component_part_by a k d u bodies) ∙ part) r level in
    let whole = each_found (precinct_number a k r) _ tt (sym (resolution_part_by s k r (bodies r)) ∙ resolution) n precinct in
    let bands = each_found (length (orientations r)) _ tt (sym (precinct_part_by s k r n (bodies r n)) ∙ whole) i band in
    let blocks = each_found (block_number (grid_at a k r n i)) _ tt (sym (met_by s k r n i (bodies r n)) ∙ bands) j block in
    asked (is_met s k r n i j) (tested (block_values a k r n i j (bodies r n))) met blocks

block_fine : (a : Rect) (k : Coding) (d : ℕ) (bodies : ℕ → ℕ → List Body) (r n i j : ℕ) → d ≤ k.levels → AreCovered a k d bodies → r < k.levels - d + 1 → n < precinct_number a k r → i < length (orientations r) → j < block_number (grid_at a k r n i)
    → tested (block_values a k r n i j (bodies r n)) ≡ fine
block_fine a k d bodies r n i j le covered level precinct band block =
    let b = band_number r i in
    let place = block_place a k r n i j block in
    let at = block_at_place a k r n i j in
    let wide = place.wide in let high = place.high in let left = place.left in let right = place.right in let upper = place.upper in let lower = place.lower in
    let here : IsWithin at at.x0 at.y0 = record { left = omega arith; right = omega arith; upper = omega arith; lower = omega arith } in
    let inside : IsWithin (band_area a k.levels r (orientation_at r i)) at.x0 at.y0 = record { left = omega arith; right = omega arith; upper = omega arith; lower = omega arith } in
    let numbered : IsWithin (numbered_area a k.levels b) at.x0 at.y0 = subst (λ (q : Rect). IsWithin q at.x0 at.y0) (sym (numbered_band a k.levels r i band)) inside in
    let under : b ≤ 3 * (k.levels - d) = number_under r i (k.levels - d) (omega (arith, level)) band in
    let top : k.levels - d ≤ k.levels = omega arith in
    let found = covered (column_above (k.levels - d) b at.x0) (row_above (k.levels - d) b at.y0) (sample_above a k.levels (k.levels - d) b at.x0 at.y0 top under numbered) in
    let u = found.0 in
    let has = part_has (region_of a k d u) b at.x0 at.y0 top under numbered found.1 in
    met_fine a k d bodies u r n i j level precinct band block found.2 (both_touch at (part_area (region_of a k d u) b) at.x0 at.y0 here has)

-- ---- a tile-component, and a tile

component_fine : (a : Rect) (k : Coding) (d : ℕ) (bodies : ℕ → ℕ → List Body) → d ≤ k.levels → AreCovered a k d bodies → component_tested a k d bodies ≡ fine
component_fine a k d bodies le covered =
    component_by a k d bodies
    ∙ each_only (k.levels - d + 1) _ (λ r level. resolution_by a k r (bodies r)
    ∙ each_only (precinct_number a k r) _ (λ n precinct. precinct_by a k r n (bodies r n)
    ∙ each_only (length (orientations r)) _ (λ i band. band_by a k r n i (bodies r n)
    ∙ each_only (block_number (grid_at a k r n i)) _ (λ j block. block_fine a k d bodies r n i j le covered level precinct band block))))

-- what a part that is decoded says of a component
part_of_tile : (bytes : List ℕ) (h : Headers) (t d : ℕ) (u : Rect) (places : List PacketPlace) → tested (part_planes_at bytes h t d u places) ≡ fine → (c : ℕ) → c < h.siz.components
    → IsPartFine (tile_area h.siz t) (coding_of (tile_in h.tiles t).codings c) d (bodies_of bytes places c) u
unfolding part_planes_at
part_of_tile bytes h t d u places e c lt =
    let n = h.siz.components in
    let part = tested_then (part_planes_at bytes h t d u places) tt e in
    bind_then (each n (λ c. component_part_tested (tile_area h.siz t) (coding_of (tile_in h.tiles t).codings c) d u (bodies_of bytes places c))) _ part.0 part.1
    (λ done all _. each_found n (λ c. component_part_tested (tile_area h.siz t) (coding_of (tile_in h.tiles t).codings c) d u (bodies_of bytes places c)) done all c lt)

-- A tile is decoded where each of its samples is one of a part that is.
pub tile_covered : (bytes : List ℕ) (h : Headers) (t d : ℕ) (places : List PacketPlace)
    → ((c : ℕ) → c < h.siz.components → d ≤ (coding_of (tile_in h.tiles t).codings c).levels)
    → ((x y : ℕ) → IsWithin (shown_area h.siz t d) x y → (u : Rect) × IsWithin u x y × (tested (part_planes_at bytes h t d u places) ≡ fine))
    → tested (tile_planes_at bytes h t d places) ≡ fine
unfolding tile_planes_at
tile_covered bytes h t d places levels covered =
    let n = h.siz.components in
    let a = tile_area h.siz t in
    let k : ℕ → Coding = λ c. coding_of (tile_in h.tiles t).codings c in
    let all = each_only n (λ c. component_tested a (k c) d (bodies_of bytes places c)) (λ c lt.
    component_fine a (k c) d (bodies_of bytes places c) (levels c lt) (λ x y within.
    let found = covered x y (subst (λ (q : Rect). IsWithin q x y) (shown_is a (k c).levels d (levels c lt)) within) in
    (found.0, found.1, part_of_tile bytes h t d found.0 places found.2 c lt))) in
    tested_ok (tile_planes_at bytes h t d places) _ (bind_ok (each n (λ c. component_tested a (k c) d (bodies_of bytes places c))) _ tt all)
