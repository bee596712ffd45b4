-- A codestream in which packets are empty is a codestream again: what it says, and what its packets
-- are.
use Rattle.std.specs.Prelude.{◌≡◌, ℕ, ◌<◌, List, map}
use Rattle.jk_math.specs.declared.rect.Rect.{Rect}
use Rattle.jk_marks.specs.Siz.{tile_count}
use Rattle.jk_marks.specs.Codestream.{codestream_text}
use Rattle.jk_params.specs.Headers.{Headers, tile_in, IsHeaders}
use Rattle.jk_walk.specs.TilePackets.{Packet}
use Rattle.jk_window.specs.declared.view.View.{View}
use Rattle.jk_window.specs.Emptied.{emptied_run, of_fronts, emptied_tree}
use Rattle.jk_window.specs.Indexing.{IndexFields, IsIndexOf}
use Rattle.jk_window.specs.Cutting.{HaveRuns, front_content, fronts_of, cut_tree}

-- The runs of tile t, in which each precinct keeps the packets of its first layers, and all others
-- are empty. How many layers these are the fronts say, by tile, component, resolution and number.
abbrev pub front_runs : Headers → (fronts : ℕ → ℕ → ℕ → ℕ → ℕ) → (ℕ → List (List Packet)) → ℕ → List (List Packet)
front_runs h fronts runs t = let f =
    tile_in h.tiles t in map (emptied_run (of_fronts (fronts t)) f.cod.sop f.cod.eph) (runs t)

-- Headers say the same of an image and its tiles, but for the places of the data.
pub record AreAlike (g h : Headers) : Type 0 where
  pub siz : g.siz ≡ h.siz
  pub cod : (t : ℕ) → t < tile_count h.siz → (tile_in g.tiles t).cod ≡ (tile_in h.tiles t).cod
  pub codings : (t : ℕ) → t < tile_count h.siz → (tile_in g.tiles t).codings ≡ (tile_in h.tiles t).codings

-- The bytes are a codestream whose headers say what h says, and whose tiles have these runs of
-- packets.
pub record IsAgain (new : List ℕ) (h : Headers) (runs : ℕ → List (List Packet)) : Type 0 where
  pub headers : Headers
  pub says : IsHeaders new headers
  pub alike : AreAlike headers h
  pub tiles : HaveRuns new headers runs

-- A codestream in which each precinct keeps its first layers, and all other packets are empty.
abbrev pub IsCodestreamAgain : Type 0
IsCodestreamAgain = (bytes : List ℕ) (h : Headers) (is : IsHeaders bytes h) (runs : ℕ → List (List Packet))
    → HaveRuns bytes h runs → (fronts : ℕ → ℕ → ℕ → ℕ → ℕ)
    → IsAgain (codestream_text (emptied_tree (front_content h fronts runs) is.tree)) h (front_runs h fronts runs)

-- That of a window.
abbrev pub IsCutAgain : Type 0
IsCutAgain = (bytes : List ℕ) (i : IndexFields) (is : IsIndexOf bytes i) (w : Rect) (v : View)
    → IsAgain (codestream_text (cut_tree is w v)) i.headers (front_runs i.headers (fronts_of i.headers w v) is.runs)
