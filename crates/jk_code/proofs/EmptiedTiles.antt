-- A tile of a codestream of which each precinct keeps its first layers: its packets, and how it is
-- decoded.
use Rattle.std.proofs.Common.{◌≡◌, ℕ, ◌<◌, Bool, cond, List, [], map, take, Option, Some, None, ℤ, refl, sym, ap, subst}
use Rattle.std.specs.List.{flat_map}
use Rattle.jk_math.specs.declared.rect.Rect.{Rect}
use Rattle.jk_marks.specs.declared.siz.Siz.{Siz}
use Rattle.jk_marks.specs.declared.segments.Cod.{Cod}
use Rattle.jk_marks.specs.declared.coding.Coding.{Coding}
use Rattle.jk_marks.specs.Siz.{tile_count}
use Rattle.jk_params.specs.Headers.{Headers, TileFields, tile_in}
use Rattle.jk_walk.specs.TilePackets.{slice_of, shape_in, Body, Packet, of_precinct, IsTile}
use Rattle.jk_tile.specs.TileMeaning.{below, DecodesTile}
use Rattle.jk_window.specs.Emptied.{kept_packet, emptied_run, of_fronts}
use Rattle.jk_window.specs.Indexing.{joined_runs, HasRuns}
use Rattle.jk_window.specs.Views.{layers_in}
use Rattle.jk_window.specs.Cutting.{needed_by}
use Rattle.jk_window.specs.Again.{front_runs, AreAlike}
use Rattle.jk_window.proofs.Laws.{runs_kept}

-- what a tile's decoding depends on of its headers
abbrev pub Said : Type 0
Said = Siz × Cod × List Coding

abbrev pub said_of : Headers → ℕ → Said
said_of h t = (h.siz, (tile_in h.tiles t).cod, (tile_in h.tiles t).codings)

pub said_alike : (g h : Headers) (t : ℕ) → AreAlike g h → t < tile_count h.siz → said_of g t ≡ said_of h t
said_alike g h t alike lt = λ i. (alike.siz i, alike.cod t lt i, alike.codings t lt i)

-- the packets that are left of a tile
abbrev pub left_of : Headers → (fronts : ℕ → ℕ → ℕ → ℕ → ℕ) → (ℕ → List (List Packet)) → ℕ → List Packet
left_of h fronts runs t = let f = tile_in h.tiles t in emptied_run (of_fronts (fronts t)) f.cod.sop f.cod.eph (joined_runs (runs t))

-- what h says of a tile, and where g has its data
abbrev pub fields_at : (g h : Headers) → ℕ → TileFields
fields_at g h t = record (tile_in h.tiles t) { data_places = (tile_in g.tiles t).data_places }

-- They are its packets by what h says.
pub left_tile : (new : List ℕ) (g h : Headers) (t : ℕ) (fronts : ℕ → ℕ → ℕ → ℕ → ℕ) (runs : ℕ → List (List Packet)) → AreAlike g h → t < tile_count h.siz → HasRuns new g t (front_runs h fronts runs t)
    → let f = fields_at g h t in IsTile (shape_in h.siz f t) f.cod.sop f.cod.eph (left_of h fronts runs t) (map (slice_of new) f.data_places)
left_tile new g h t fronts runs alike lt again =
    let f = tile_in h.tiles t in
    let places = (tile_in g.tiles t).data_places in
    subst (λ (ps : List Packet). IsTile (shape_in h.siz f t) f.cod.sop f.cod.eph ps (map (slice_of new) places)) (runs_kept (kept_packet (of_fronts (fronts t)) f.cod.sop f.cod.eph) (runs t))
    (subst (λ (s : Said). IsTile (shape_in s.0 (record f { cod = s.1; codings = s.2 }) t) s.1.sop s.1.eph (joined_runs (front_runs h fronts runs t)) (map (slice_of new) places)) (said_alike g h t alike lt) again.packets)

-- What is decoded by what h says is decoded by what g says.
pub decodes_alike : (new : List ℕ) (g h : Headers) (t d : ℕ) (samples : ℕ → ℕ → ℕ → ℤ) → AreAlike g h → t < tile_count h.siz → DecodesTile new (record g { siz = h.siz }) (fields_at g h t) t d samples → DecodesTile new g (tile_in g.tiles t) t d samples
decodes_alike new g h t d samples alike lt is =
    subst (λ (s : Said). DecodesTile new (record g { siz = s.0 }) (record (tile_in g.tiles t) { cod = s.1; codings = s.2 }) t d samples) (sym (said_alike g h t alike lt)) is

-- ---- the layers that a window keeps of the precincts that it needs

abbrev pub seen_fronts : Headers → (w : Rect) → (d : ℕ) → Option ℕ → (t c r k : ℕ) → ℕ
seen_fronts h w d layers t c r k = cond (needed_by h w d t c r k) (layers_in layers (tile_in h.tiles t).cod.layers) 0

-- what the first layers of packets have of a precinct
abbrev pub bodies_below : Option ℕ → List Packet → (c r n : ℕ) → List Body
bodies_below layers packets c r n = flat_map (λ (p : Packet). p.bodies) (below layers (of_precinct c r n packets))

-- A precinct that keeps its first layers, where those of all layers are all its packets, has their bodies.
pub first_kept : (keep : Bool) (layers : Option ℕ) (all : ℕ) (own : List Packet) → take all own ≡ own
    → cond keep (flat_map (λ (p : Packet). p.bodies) (take (layers_in layers all) own)) [] ≡ cond keep (flat_map (λ (p : Packet). p.bodies) (below layers own)) []
first_kept keep None all own whole = ap (λ (ps : List Packet). cond keep (flat_map (λ (p : Packet). p.bodies) ps) []) whole
first_kept keep (Some l) all own whole = refl
