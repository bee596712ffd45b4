-- The outline of a codestream: its main header, and each tile-part up to a place behind its head, as
-- if it ended there.
use Rattle.std.specs.Prelude.{◌≡◌, ℕ, ◌+◌, ◌<◌, ◌≤◌, ◌^◌, List, [], ◌∷◌, ◌++◌, length, take, drop}
use Rattle.std.specs.List.{flat_map}
use Rattle.byteorder.specs.Endian.{big_bytes}
use Rattle.jk_marks.specs.Markers.{eoc, marker_text}
use Rattle.jk_stored.specs.declared.outline.PartSize.{PartSize}

-- The front of a tile-part: its first bytes, and how many bytes the part has.
pub record Front : Type 0 where
  pub bytes : List ℕ
  pub size : ℕ

-- the tile-part of these bytes alone: Psot says so (A.4.2)
abbrev pub shortened : Front → List ℕ
shortened f = take 6 f.bytes ++ (big_bytes 4 (length f.bytes) ++ drop 10 f.bytes)

-- A tile-part that is told by its Psot begins at a place of the codestream, and this is its front.
pub record IsFront (c : List ℕ) (at : ℕ) (f : Front) : Type 0 where
  pub head : 14 ≤ length f.bytes
  pub part : length f.bytes ≤ f.size
  pub narrow : f.size < 2 ^ 32
  pub told : take 4 (drop 6 f.bytes) ≡ big_bytes 4 f.size
  pub stands : f.bytes ≡ take (length f.bytes) (drop at c)
  pub within : at + f.size ≤ length c

-- Tile-parts stand one after another from one place to another, and these are their fronts.
abbrev pub AreFronts : List ℕ → (at : ℕ) → List Front → (stop : ℕ) → Type 0
AreFronts c at [] stop = at ≡ stop
AreFronts c at (f ∷ fronts) stop = IsFront c at f × AreFronts c (at + f.size) fronts stop

-- the outline of a codestream with this main header
abbrev pub outline : List ℕ → List Front → List ℕ
outline main fronts = main ++ (flat_map shortened fronts ++ marker_text eoc)

-- The codestream has this outline.
pub record HasOutline (c main : List ℕ) (fronts : List Front) : Type 0 where
  pub begins : main ≡ take (length main) c
  pub stop : ℕ
  pub parts : AreFronts c (length main) fronts stop
  pub ends : drop stop c ≡ marker_text eoc

-- how many bytes a tile-part has in the outline, and how many in the codestream
abbrev pub size_of : Front → PartSize
size_of f = record { held = length f.bytes; size = f.size }
