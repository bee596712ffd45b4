-- A tile whose packets are read, which is decoded at a reduction.
use Rattle.std.specs.Prelude.{ℕ, ◌<◌, ◌≤◌, List, length}
use Rattle.std.specs.List.{AllByRecursion}
use Rattle.jk_marks.specs.Siz.{tile_count}
use Rattle.jk_params.specs.Headers.{Headers, AreHeaders, tile_in}
use Rattle.jk_walk.specs.declared.places.PacketPlace.{PacketPlace}
use Rattle.jk_walk.specs.WalkReading.{place_end}

-- the codestream's headers, its bytes, the number of the tile, its packets, and the reduction
pub record TileSource : Type 0 where
  pub headers : Headers
  pub bytes : List ℕ
  pub number : ℕ
  pub packets : List PacketPlace
  pub reduce : ℕ

-- what holds of it
pub record IsTileSource (s : TileSource) : Type 0 where
  pub sound : AreHeaders (length s.bytes) s.headers
  pub is_tile : s.number < tile_count s.headers.siz
  pub ends : AllByRecursion (λ w. place_end w ≤ length s.bytes) s.packets
  pub levels : AllByRecursion (λ k. s.reduce ≤ k.levels) (tile_in s.headers.tiles s.number).codings
