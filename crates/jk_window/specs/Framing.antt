-- What an index keeps around the packets of a file: its main header, the heads of its tile-parts
-- and their segments, how the length of its codestream box is told, and its own length.
use Rattle.std.specs.Prelude.{◌≡◌, ℕ, zero, suc, List, [], ◌∷◌, ◌++◌, length, drop, map, slice_index_or, Option, Some}
use Rattle.std.specs.Prelude.{None}
use Rattle.std.specs.List.{flat_map}
use Rattle.jk_marks.specs.declared.part_head.PartHead.{PartHead}
use Rattle.jk_marks.specs.Markers.{tlm}
use Rattle.jk_marks.specs.Codestream.{Tree, main_text}
use Rattle.jk_marks.specs.Copying.{kept_segments, main_kept_at, main_size_at, part_kept_at}
use Rattle.jk_marks.specs.PartHeads.{kept_text, head_of, part_head_at}
use Rattle.jk_boxes.specs.declared.boxes.Form.{Form}
use Rattle.jk_boxes.specs.declared.place.Boxed.{Boxed}
use Rattle.jk_boxes.specs.Boxes.{HoldsAt, form_of}
use Rattle.jk_params.specs.Headers.{Headers, tile_in}

-- the main header without TLM; the heads of the tile-parts in file order; their segments without
-- PLT, one after another; how the length of the codestream box is told; and how many bytes the file
-- has
pub record Frame : Type 0 where
  pub main : List ℕ
  pub heads : List PartHead
  pub segments : List ℕ
  pub form : Form
  pub size : ℕ

-- It is that of these bytes, of which the codestream spells this.
pub record IsFrameOf {bytes codestream : List ℕ} {place : Boxed} (holds : HoldsAt bytes codestream place) (tree : Tree)
    (f : Frame) : Type 0 where
  pub main : f.main ≡ main_text tree.siz (kept_segments tlm tree.segments)
  pub heads : f.heads ≡ map head_of tree.parts
  pub segments : f.segments ≡ flat_map kept_text tree.parts
  pub form : f.form ≡ form_of holds
  pub size : f.size ≡ length bytes

-- ---- how it is found in the bytes

-- where a part ends by the headers
abbrev pub end_of : Headers → PartHead → ℕ
end_of h p = (slice_index_or (tile_in h.tiles p.tile).data_places p.number (0, 0)).1

abbrev pub where_some : {X : Type 0} → Option PartHead → (PartHead → List X) → List X
where_some None f = []
where_some (Some head) f = f head

-- what is taken of each tile-part from a place on, at most n of them, one after another
unfoldable pub walked : {X : Type 0} → (PartHead → List ℕ → List X) → ℕ → List ℕ → Headers → ℕ → List X
walked taken zero bytes h at = []
walked taken (suc n) bytes h at =
    where_some (part_head_at (drop at bytes))
    (λ head. taken head (drop at bytes) ++ walked taken n bytes h (end_of h head))

abbrev pub head_alone : PartHead → List ℕ → List PartHead
head_alone head bytes = head ∷ []

abbrev pub segments_alone : PartHead → List ℕ → List ℕ
segments_alone head bytes = part_kept_at bytes

-- the frame of a file of so many bytes, with this codestream and these headers
abbrev pub frame_at : List ℕ → Headers → Form → ℕ → Frame
frame_at codestream h form size = record {
  main = main_kept_at codestream;
  heads = walked head_alone (length codestream) codestream h (main_size_at codestream);
  segments = walked segments_alone (length codestream) codestream h (main_size_at codestream);
  form = form;
  size = size;
}
