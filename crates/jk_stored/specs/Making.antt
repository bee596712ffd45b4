-- The codestream of a window, made tile-part by tile-part from the outline and the stored codestream.
use Rattle.std.specs.Prelude.{◌≡◌, ℕ, ◌+◌, ◌-◌, false, List, [], ◌∷◌, ◌++◌, length, drop, slice_index_or, Some}
use Rattle.jk_math.specs.declared.rect.Rect.{Rect}
use Rattle.jk_marks.specs.declared.part_head.PartHead.{PartHead}
use Rattle.jk_marks.specs.PartHeads.{part_head_at, part_head}
use Rattle.jk_marks.specs.Copying.{part_kept_at}
use Rattle.jk_params.specs.Headers.{Headers, tile_in}
use Rattle.jk_stored.specs.declared.outline.PartSize.{PartSize}
use Rattle.jk_stored.specs.Contents.{IsContent}

-- stands where a tile-part isn't
abbrev pub no_size : PartSize
no_size = record { held = 0; size = 0 }

-- A tile-part that is made: its head, its segments without PLT, its data, and how many bytes the
-- tile-part has in the outline and in the codestream.
pub record Made : Type 0 where
  pub head : PartHead
  pub kept : List ℕ
  pub content : List ℕ
  pub size : PartSize

abbrev pub made_text : Made → List ℕ
made_text m = part_head m.head m.kept (length m.content) ++ m.content

-- It is the only one of a tile, whose head stands at a place of the outline.
pub record IsMade (outline : List ℕ) (h : Headers) (t at : ℕ) (m : Made) : Type 0 where
  pub head : part_head_at (drop at outline) ≡ Some m.head
  pub kept : m.kept ≡ part_kept_at (drop at outline)
  pub tile : m.head.tile ≡ t
  pub number : m.head.number ≡ 0
  pub closed : m.head.is_open ≡ false
  pub one : length (tile_in h.tiles t).data_places ≡ 1

-- where its data stand in the codestream, where it begins at a place of it
abbrev pub data_in : Headers → (t at place size : ℕ) → ℕ × ℕ
data_in h t at place size = (place + ((slice_index_or (tile_in h.tiles t).data_places 0 (0, 0)).0 - at), place + size)

-- Its data are those of the codestream, as the window w at reduction d keeps them.
abbrev pub Shows : (c : List ℕ) → Headers → (w : Rect) → (d t at place : ℕ) → Made → Type 0
Shows c h w d t at place m = IsContent c h w d t (data_in h t at place m.size.size) m.content

-- Tile-parts are made one after another, from a tile on, and from places on in the outline and in
-- the codestream.
abbrev pub AreMade : ((t at place : ℕ) → Made → Type 0) → (t at place : ℕ) → List Made → Type 0
AreMade P t at place [] = Unit {0}
AreMade P t at place (m ∷ made) = P t at place m × AreMade P (t + 1) (at + m.size.held) (place + m.size.size) made
