-- What a tile shows of the picture of all tiles.
use Rattle.std.proofs.Common.{◌≡◌, ℕ, zero, suc, ◌-◌, ◌*◌, ◌^◌, ◌<◌, ◌≤◌, List, [], ◌∷◌, length, Result, Ok, sym, ap, ◌∙◌, arith}
use Rattle.std.specs.List.{AllByRecursion}
use Rattle.jk_math.specs.declared.fault.Fault.{Fault}
use Rattle.jk_math.specs.Picture.{Picture, sample_at}
use Rattle.jk_marks.specs.declared.siz.Siz.{Siz}
use Rattle.jk_marks.specs.declared.coding.Coding.{Coding}
use Rattle.jk_marks.specs.Siz.{IsSiz, tile_count}
use Rattle.jk_geom.specs.Rectangles.{IsWithin, tile_area}
use Rattle.jk_geom.specs.Partitions.{image_area, tile_of, TileHolds}
use Rattle.jk_geom.proofs.Laws.{tile_found as tile_of_found, tile_inside, tile_one, reduced_to, reduced_from}
use Rattle.jk_params.specs.Headers.{Headers, TileFields, tile_in, AreHeaders}
use Rattle.jk_walk.specs.declared.places.PacketPlace.{PacketPlace}
use Rattle.jk_walk.specs.WalkReading.{packets_at}
use Rattle.jk_tile.specs.TileMeaning.{shown_area}
use Rattle.jk_tile.specs.decoding.TileReading.{tested, tile_planes_at, component_samples}
use Rattle.jk_tile.proofs.Laws.{fine, tile_found, tile_only, tested_then, tested_ok}
use Rattle.jk_code.specs.Meaning.{ShowsTile}
use Rattle.jk_code.specs.MeaningReading.{places_or, places_at, sample_of_tiles}
use Rattle.jk_code.proofs.FrameLaws.{tiles_picture, tiles_sample}

-- a tile that has a place is the one that is counted
pub tile_number : (s : Siz) (d t x y : ℕ) → IsSiz s → TileHolds s d t x y → tile_of s (x * 2 ^ d) (y * 2 ^ d) ≡ t
tile_number s d t x y is h =
    let found = tile_of_found s (x * 2 ^ d) (y * 2 ^ d) is (reduced_to (image_area s) d x y (tile_inside s d t x y is h)) in
    tile_one s d (tile_of s (x * 2 ^ d) (y * 2 ^ d)) t x y is (record { tile = found.0; place = reduced_from (tile_area s (tile_of s (x * 2 ^ d) (y * 2 ^ d))) d x y found.1 }) h

-- the sample of a place is that of its tile
pub tile_value : (bytes : List ℕ) (h : Headers) (d t c x y : ℕ) → IsSiz h.siz → TileHolds h.siz d t x y → sample_of_tiles bytes h d c x y ≡ component_samples bytes h t d (places_at bytes h t) c x y
tile_value bytes h d t c x y is holds = ap (λ n. component_samples bytes h n d (places_at bytes h n) c x y) (tile_number h.siz d t x y is holds)

-- what a test that is fine says
places_read : (bytes : List ℕ) (h : Headers) (t : ℕ) → tested (packets_at bytes h t) ≡ fine → packets_at bytes h t ≡ Ok (places_at bytes h t)
places_read bytes h t e = let read = tested_then (packets_at bytes h t) tt e in read.1 ∙ ap (λ (r : Result (List PacketPlace) Fault). Ok (places_or r)) (sym read.1)

-- A tile whose packets and code-blocks are read shows its part of the picture.
pub tile_shows : (bytes : List ℕ) (h : Headers) (d t : ℕ) → AreHeaders (length bytes) h → t < tile_count h.siz → tested (packets_at bytes h t) ≡ fine → tested (tile_planes_at bytes h t d (places_at bytes h t)) ≡ fine
    → ShowsTile bytes h d (tiles_picture bytes h d) t
tile_shows bytes h d t are lt packets planes =
    let places = places_at bytes h t in
    let decoded = tested_then (tile_planes_at bytes h t d places) tt planes in
    record {
      samples = component_samples bytes h t d places;
      decoded = (tile_found bytes h t d places decoded.0 are lt (places_read bytes h t packets) decoded.1).0;
      placed = λ c x y some within.
          let holds : TileHolds h.siz d t x y = record { tile = lt; place = within } in
          tiles_sample bytes h d c x y some (tile_inside h.siz d t x y are.siz holds) ∙ tile_value bytes h d t c x y are.siz holds;
    }

-- What a tile of a picture is, it is read as.
pub record TileRead (bytes : List ℕ) (h : Headers) (d : ℕ) (p : Picture) (t : ℕ) : Type 0 where
  pub packets : tested (packets_at bytes h t) ≡ fine
  pub planes : tested (tile_planes_at bytes h t d (places_at bytes h t)) ≡ fine
  pub samples : (c x y : ℕ) → c < h.siz.components → IsWithin (shown_area h.siz t d) x y → sample_at p c (x - p.x0) (y - p.y0) ≡ component_samples bytes h t d (places_at bytes h t) c x y

pub tile_read : (bytes : List ℕ) (h : Headers) (d : ℕ) (p : Picture) (t : ℕ) → AreHeaders (length bytes) h → t < tile_count h.siz → AllByRecursion (λ (k : Coding). d ≤ k.levels) (tile_in h.tiles t).codings → ShowsTile bytes h d p t → TileRead bytes h d p t
tile_read bytes h d p t are lt levels show =
    let is = tile_only bytes h t d show.samples are lt levels show.decoded in
    let places : is.places ≡ places_at bytes h t = sym (ap places_or is.packets) in
    record {
      packets = tested_ok (packets_at bytes h t) is.places is.packets;
      planes = ap (λ (ws : List PacketPlace). tested (tile_planes_at bytes h t d ws)) (sym places) ∙ tested_ok (tile_planes_at bytes h t d is.places) _ is.planes;
      samples = λ c x y some within. show.placed c x y some within ∙ is.same c x y some within ∙ ap (λ (ws : List PacketPlace). component_samples bytes h t d ws c x y) places;
    }

-- the levels of one tile
pub tile_levels : (d : ℕ) (tiles : List TileFields) (t : ℕ) → AllByRecursion (λ (f : TileFields). AllByRecursion (λ (k : Coding). d ≤ k.levels) f.codings) tiles → t < length tiles → AllByRecursion (λ (k : Coding). d ≤ k.levels) (tile_in tiles t).codings
tile_levels d [] t h lt = absurd (omega (arith, lt))
tile_levels d (f ∷ tiles) zero h lt = h.0
tile_levels d (f ∷ tiles) (suc t) h lt = tile_levels d tiles t h.1 (omega (arith, lt))
