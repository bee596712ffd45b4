-- Tiles that are put into the planes of an image one after another.
use Rattle.std.specs.Prelude.{◌≡◌, ℕ, ◌<◌, true, List, [], length, map, Option, Some, None, Ok, ℤ, slice_index_or}
use Rattle.std.specs.Prelude.{if◌then◌else◌}
use Rattle.std.specs.List.{range_with_len}
use Rattle.std.specs.Global.{Vec}
use Rattle.jk_math.specs.Lists.{lists_of}
use Rattle.jk_math.specs.declared.rect.Rect.{Rect}
use Rattle.jk_math.specs.Raster.{raster, plane_at, places_of}
use Rattle.jk_geom.specs.Rectangles.{IsWithin}
use Rattle.jk_params.specs.Headers.{Headers}
use Rattle.jk_walk.specs.declared.places.PacketPlace.{PacketPlace}
use Rattle.jk_walk.specs.WalkReading.{packets_at}
use Rattle.jk_tile.specs.Filling.{IsPartOf}
use Rattle.jk_tile.specs.TileMeaning.{shown_area}
use Rattle.jk_tile.specs.decoding.TileReading.{component_samples}
use Rattle.jk_code.specs.MeaningReading.{places_at, sample_of_tiles}
use Rattle.jk_code.specs.ViewReading.{is_seen}

-- the packets of so many tiles are read
pub record AreRead (bytes : List ℕ) (h : Headers) (n : ℕ) (all : List (List PacketPlace)) : Type 0 where
  pub count : length all ≡ n
  pub each : (t : ℕ) → t < n → packets_at bytes h t ≡ Ok (slice_index_or all t [])

-- plane c
abbrev pub plane_in : List (Vec ℤ) → ℕ → List ℤ
plane_in planes c = slice_index_or (lists_of planes) c []

-- a list for each component, as long as a rectangle has places
pub record ArePlanes (h : Headers) (a : Rect) (planes : List (Vec ℤ)) : Type 0 where
  pub count : length planes ≡ h.siz.components
  pub each : (c : ℕ) → c < h.siz.components → length (plane_in planes c) ≡ places_of a

-- A list over a rectangle has the sample of component c at a place.
abbrev pub ShowsSample : List ℕ → Headers → (d : ℕ) → Rect → (c : ℕ) → List ℤ → (x y : ℕ) → Type 0
ShowsSample bytes h d a c plane x y = plane_at a plane x y ≡ sample_of_tiles bytes h d c x y

-- What was shown is shown.
abbrev pub KeepsSamples : List ℕ → Headers → (d : ℕ) → Rect → (old new : List (Vec ℤ)) → Type 0
KeepsSamples bytes h d a old new = (c x y : ℕ) → c < h.siz.components → IsWithin a x y
    → ShowsSample bytes h d a c (plane_in old c) x y → ShowsSample bytes h d a c (plane_in new c) x y

-- what the rectangle has of tile t is shown, of the first n components
abbrev pub ShowsTileAt : List ℕ → Headers → (d : ℕ) → Rect → (t n : ℕ) → List (Vec ℤ) → Type 0
ShowsTileAt bytes h d a t n planes = (c x y : ℕ) → c < n → IsWithin (shown_area h.siz t d) x y → IsWithin a x y
    → ShowsSample bytes h d a c (plane_in planes c) x y

-- a part of a tile with all that a rectangle has of it
pub record IsPartSeen (h : Headers) (d t : ℕ) (a part : Rect) : Type 0 where
  pub inside : IsPartOf part a
  pub tile : IsPartOf part (shown_area h.siz t d)
  pub all : (x y : ℕ) → IsWithin (shown_area h.siz t d) x y → IsWithin a x y → IsWithin part x y

-- the samples of a part of tile t, component by component
abbrev pub part_lists : List ℕ → Headers → (t d : ℕ) → Rect → List PacketPlace → List (List ℤ)
part_lists bytes h t d part places =
    map (λ c. raster part (component_samples bytes h t d places c)) (range_with_len 0 h.siz.components)

-- the packets of the tiles below n of which a window has samples, and none of the others
pub record AreSeen (bytes : List ℕ) (h : Headers) (d : ℕ) (w : Rect) (n : ℕ)
    (all : List (Option (List PacketPlace))) : Type 0 where
  pub count : length all ≡ n
  pub each : (t : ℕ) → t < n
      → slice_index_or all t None ≡ (if is_seen h d w t then Some (places_at bytes h t) else None)
  pub read : (t : ℕ) → t < n → is_seen h d w t ≡ true → packets_at bytes h t ≡ Ok (places_at bytes h t)
