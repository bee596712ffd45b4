-- The file of a window: the stored one, in which the packets that the window doesn't need are
-- empty.
use Rattle.std.specs.Prelude.{ℕ, ◌<◌, Bool, not, if◌then◌else◌, nat_lt, List, [], ◌∷◌, length, drop, map}
use Rattle.std.specs.Prelude.{slice_index_or, Result, Ok, ◌&&◌}
use Rattle.std.proofs.Common.{inl, inr}
use Rattle.std.specs.List.{flat_map}
use Rattle.jk_math.specs.Answer.{◌>>=◌}
use Rattle.jk_math.specs.declared.fault.Fault.{Fault}
use Rattle.jk_math.specs.declared.rect.Rect.{Rect}
use Rattle.jk_marks.specs.Siz.{tile_count}
use Rattle.jk_marks.specs.Codestream.{CodestreamPart, Tree, part_text, codestream_text}
use Rattle.jk_boxes.specs.declared.place.Boxed.{Boxed}
use Rattle.jk_boxes.specs.Boxes.{HoldsAt}
use Rattle.jk_boxes.specs.Written.{recoded}
use Rattle.jk_geom.specs.declared.shape.PacketName.{PacketName}
use Rattle.jk_geom.specs.declared.shape.TileShape.{TileShape}
use Rattle.jk_geom.specs.Rectangles.{is_empty, tile_area}
use Rattle.jk_geom.specs.TileShapes.{coding_of}
use Rattle.jk_params.specs.Headers.{Headers, tile_in}
use Rattle.jk_walk.specs.TilePackets.{Packet}
use Rattle.jk_walk.specs.declared.entries.PacketEntry.{PacketEntry}
use Rattle.jk_window.specs.declared.view.View.{View}
use Rattle.jk_window.specs.Views.{window_at, layers_in}
use Rattle.jk_window.specs.Needs.{needs, is_needed}
use Rattle.jk_window.specs.Emptied.{emptied_run, run_text, of_fronts, emptied_part, emptied_tree}
use Rattle.jk_window.specs.Indexing.{IndexFields, HasRuns, IsIndexOf}

-- The data of part n of tile t, of which these are the runs, where each precinct keeps the packets
-- of its first layers, and all others are empty. How many layers these are the fronts say, by tile,
-- component, resolution and number.
abbrev pub front_content : Headers → (fronts : ℕ → ℕ → ℕ → ℕ → ℕ) → (ℕ → List (List Packet)) → (t n : ℕ) → List ℕ
front_content h fronts runs t n =
    let f = tile_in h.tiles t in
    run_text (emptied_run (of_fronts (fronts t)) f.cod.sop f.cod.eph (slice_index_or (runs t) n []))

-- the precincts that a window w at reduction d needs, by tile, component, resolution and number
abbrev pub needed_by : Headers → (w : Rect) → (d : ℕ) → (t c r k : ℕ) → Bool
needed_by h w d t c r k = is_needed (tile_area h.siz t) (tile_in h.tiles t).codings w d c r k

-- How many layers the window w of a view keeps of each precinct: of those that it needs as many as
-- the view asks for, and none of the others.
abbrev pub fronts_of : Headers → (w : Rect) → View → (t c r k : ℕ) → ℕ
fronts_of h w v t c r k =
    if needed_by h w v.reduce t c r k then layers_in v.layers (tile_in h.tiles t).cod.layers else 0

-- whether it keeps a packet of tile t
abbrev pub keeps : Headers → (w : Rect) → View → (t : ℕ) → PacketName → Bool
keeps h w v t n = of_fronts (fronts_of h w v t) n

-- what the codestream of a window spells
abbrev pub cut_tree : {bytes : List ℕ} {i : IndexFields} → IsIndexOf bytes i → (w : Rect) → View → Tree
cut_tree {i = i} is w v = emptied_tree (front_content i.headers (fronts_of i.headers w v) is.runs) is.says.tree

-- the file with another codestream in the place of its own
abbrev pub with_codestream : {bytes codestream : List ℕ} {place : Boxed} → HoldsAt bytes codestream place → List ℕ
    → Result (List ℕ) Fault
with_codestream (inl bare) new = Ok new
with_codestream (inr jp2) new = recoded jp2.0 new

-- The file of the window of a view.
abbrev pub cut_file : {bytes : List ℕ} {i : IndexFields} → IsIndexOf bytes i → View → Result (List ℕ) Fault
cut_file {i = i} is v = window_at i.headers v
    >>= λ w. with_codestream is.holds (codestream_text (cut_tree is w v))

-- the same by the tile, by its part of the window, and by the number of layers that are kept of a
-- precinct that is needed
abbrev pub layers_kept : TileShape → (top : Rect) → (d l : ℕ) → (c r k : ℕ) → ℕ
layers_kept s top d l c r k =
    if not (is_empty top) && needs s.rect (coding_of s.codings c) top d r k then l else 0

abbrev pub wanted : TileShape → (top : Rect) → (d l : ℕ) → PacketName → Bool
wanted s top d l n = of_fronts (layers_kept s top d l) n

-- a packet's name with its entry
abbrev pub Entered : Type 0
Entered = PacketName × PacketEntry

-- Of packets that stand one after another from a place on, those up to another place; and so for
-- each part.
unfoldable pub run_at : List Entered → (at stop : ℕ) → List Entered
run_at [] at stop = []
run_at (v ∷ packets) at stop = if nat_lt at stop then v ∷ run_at packets v.1.end stop else []

unfoldable pub runs_at : List Entered → List (ℕ × ℕ) → List (List Entered)
runs_at packets [] = []
runs_at packets (p ∷ parts) = run_at packets p.0 p.1 ∷ runs_at (drop (length (run_at packets p.0 p.1)) packets) parts

-- the runs of all tiles
abbrev pub HaveRuns : List ℕ → Headers → (ℕ → List (List Packet)) → Type 0
HaveRuns bytes h runs = (t : ℕ) → t < tile_count h.siz → HasRuns bytes h t (runs t)

-- the text of parts with other data
abbrev pub parts_text : (ℕ → ℕ → List ℕ) → List CodestreamPart → List ℕ
parts_text content parts = flat_map part_text (map (emptied_part content) parts)
