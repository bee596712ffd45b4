-- The components of a tile that are judged one after another.
use Rattle.std.proofs.Common.{◌≡◌, ℕ, ◌+◌, List, Result, Err, sym, ap, ◌∙◌, arith}
use Rattle.jk_math.specs.declared.fault.Fault.{Fault}
use Rattle.jk_math.specs.declared.rect.Rect.{Rect}
use Rattle.jk_marks.specs.declared.coding.Coding.{Coding}
use Rattle.jk_geom.specs.Rectangles.{IsArea, tile_area}
use Rattle.jk_geom.specs.TileShapes.{coding_of}
use Rattle.jk_params.specs.Headers.{Headers, tile_in}
use Rattle.jk_walk.specs.declared.places.PacketPlace.{PacketPlace}
use Rattle.jk_tile.specs.Filling.{IsPartOf}
use Rattle.jk_tile.specs.decoding.TileReading.{each, tested, bodies_of, resolution_tested, component_tested, tile_planes_at}
use Rattle.jk_tile.specs.decoding.Source.{Source, source_bodies}
use Rattle.jk_tile.proofs.Steps.{component_by, bind_ok, bind_err, fine}
use Rattle.jk_tile.proofs.Components.{source_of, source_here}
use Rattle.jk_tile.proofs.Colours.{planes_by}

-- the first n components
abbrev pub components_tested : List ℕ → Headers → (t d : ℕ) → List PacketPlace → ℕ → Result (Unit {0}) Fault
components_tested bytes h t d places n = each n (λ c. component_tested (tile_area h.siz t) (coding_of (tile_in h.tiles t).codings c) d (bodies_of bytes places c))

-- the test of a component that was read
pub component_is : (bytes : List ℕ) (h : Headers) (t d c : ℕ) (rect u : Rect) (coding : Coding) (places : List PacketPlace) (s : Source) → s ≡ source_of bytes rect coding d u places c
    → rect ≡ tile_area h.siz t → coding ≡ coding_of (tile_in h.tiles t).codings c
    → each (s.region.top + 1) (λ r. resolution_tested s.region.rect s.coding r (source_bodies s r)) ≡ component_tested (tile_area h.siz t) (coding_of (tile_in h.tiles t).codings c) d (bodies_of bytes places c)
component_is bytes h t d c rect u coding places s es er ec =
    ap (λ (s : Source). each (s.region.top + 1) (λ r. resolution_tested s.region.rect s.coding r (source_bodies s r))) (es ∙ source_here bytes h t d c rect u coding places er ec)
    ∙ sym (component_by (tile_area h.siz t) (coding_of (tile_in h.tiles t).codings c) d (bodies_of bytes places c))

pub tile_fine : (bytes : List ℕ) (h : Headers) (t d : ℕ) (places : List PacketPlace) → components_tested bytes h t d places h.siz.components ≡ fine → tested (tile_planes_at bytes h t d places) ≡ fine
tile_fine bytes h t d places e = ap tested (planes_by bytes h t d places ∙ bind_ok _ _ tt e)

pub tile_err : (bytes : List ℕ) (h : Headers) (t d : ℕ) (places : List PacketPlace) (e : Fault) → components_tested bytes h t d places h.siz.components ≡ Err e → tested (tile_planes_at bytes h t d places) ≡ Err e
tile_err bytes h t d places e is = ap tested (planes_by bytes h t d places ∙ bind_err _ _ e is)

-- a rectangle is a part of itself
pub whole_of : (a : Rect) → IsArea a → IsPartOf a a
whole_of a is = record { left = omega arith; across = is.left; right = omega arith; upper = omega arith; down = is.upper; lower = omega arith }
