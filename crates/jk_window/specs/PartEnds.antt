-- Which packets of a tile stand in which of its parts, told by their numbers.
use Rattle.std.specs.Prelude.{◌≡◌, ◌-◌, ◌<◌, ◌≤◌, ℕ, zero, suc, false, List, [], ◌∷◌, length, take, drop, slice_index_or, None}
use Rattle.std.specs.List.{AllByRecursion, zip}
use Rattle.jk_marks.specs.Siz.{tile_count}
use Rattle.jk_geom.specs.declared.shape.PacketName.{PacketName}
use Rattle.jk_params.specs.Headers.{Headers, TileFields, tile_in}
use Rattle.jk_walk.specs.declared.entries.PacketEntry.{PacketEntry}
use Rattle.jk_window.specs.declared.parts.PartEnds.{PartEnds}
use Rattle.jk_window.specs.Indexing.{entries_of}
use Rattle.jk_window.specs.Cutting.{Entered, runs_at}

-- packets with numbers from one up to another
abbrev pub numbered : List Entered → (first behind : ℕ) → List Entered
numbered packets first behind = take (behind - first) (drop first packets)

-- packets that are cut into pieces, from a number on, which end there
unfoldable pub cut_at : List Entered → (first : ℕ) → (ends : List ℕ) → List (List Entered)
cut_at packets first [] = []
cut_at packets first (e ∷ ends) = numbered packets first e ∷ cut_at packets e ends

-- numbers that don't descend, from one up to another
unfoldable pub AreEnds : (first most : ℕ) → (ends : List ℕ) → Type 0
AreEnds first most [] = first ≤ most
AreEnds first most (e ∷ ends) = (first ≤ e) × AreEnds e most ends

-- how many numbers there are up to the n-th of them from the one before
unfoldable pub count_at : (first : ℕ) → (ends : List ℕ) → ℕ → ℕ
count_at first [] n = 0
count_at first (e ∷ ends) zero = e - first
count_at first (e ∷ ends) (suc n) = count_at e ends n

-- Each part of a tile has the packets from the end of the part before up to its own; their names
-- decide nothing of it.
pub record ArePartEnds (entries : List PacketEntry) (places : List (ℕ × ℕ)) (ends : List ℕ) : Type 0 where
  pub ascend : AreEnds 0 (length entries) ends
  pub cut : (names : List PacketName) → length names ≡ length entries
      → runs_at (zip names entries) places ≡ cut_at (zip names entries) 0 ends

-- no packet has an SOP
abbrev pub HaveNoCounters : List PacketEntry → Type 0
HaveNoCounters entries = AllByRecursion (λ (e : PacketEntry). e.counter ≡ None) entries

-- What is kept of the parts of a tile that has these entries and these fields.
pub record IsPartEnds (entries : List PacketEntry) (f : TileFields) (p : PartEnds) : Type 0 where
  pub ends : ArePartEnds entries f.data_places p.ends.items
  pub eph : p.eph ≡ f.cod.eph
  pub counters : p.counted ≡ false → HaveNoCounters entries

-- and of those of all tiles
pub record HavePartEnds (h : Headers) (packets : List (List PacketEntry)) (parts : List PartEnds) : Type 0 where
  pub count : length parts ≡ tile_count h.siz
  pub each : (t : ℕ) (none : PartEnds) → t < tile_count h.siz
      → IsPartEnds (entries_of packets t) (tile_in h.tiles t) (slice_index_or parts t none)
