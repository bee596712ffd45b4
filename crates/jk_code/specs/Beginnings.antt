-- What stands in a file before a tile-part, and what encoding into a writer has written when it
-- ends.
use Rattle.std.specs.Prelude.{◌≡◌, ℕ, zero, suc, ◌<◌, ◌≤◌, ◌⊎◌, true, false, List, [], ◌∷◌, ◌++◌, length, map, Result}
use Rattle.std.specs.Prelude.{Ok, Err, ⊤}
use Rattle.std.specs.List.{flat_map, range_with_len}
use Rattle.jk_math.specs.Front.{IsFront}
use Rattle.jk_math.specs.Memory.{IsMemory}
use Rattle.jk_math.specs.Picture.{Picture}
use Rattle.jk_math.specs.declared.fault.Fault.{Fault}
use Rattle.jk_math.specs.declared.fault.Fault.TheVariants.{BadParameters, Limit, Shelf}
use Rattle.jk_marks.specs.Siz.{tile_count}
use Rattle.jk_marks.specs.Codestream.{main_text, part_text, codestream_text, segments_of}
use Rattle.jk_boxes.specs.Boxes.{boxes_text, signature}
use Rattle.jk_boxes.specs.Written.{file_type_box, header_box, code_head}
use Rattle.jk_params.specs.declared.parameters.Parameters.{Parameters}
use Rattle.jk_params.specs.declared.parameters.Container.{Container}
use Rattle.jk_params.specs.declared.parameters.Container.TheVariants.{Raw, Jp2}
use Rattle.jk_params.specs.Profile.{siz_of, is_profile}
use Rattle.jk_window.specs.Views.{holds_below}
use Rattle.jk_code.specs.Written.{main_for, part_for, part_fits, tree_for, written}

-- what stands before a codestream of this size in its container: nothing, or the boxes before it
-- and the head of its own (I.4)
abbrev pub front_of : Container → Picture → (size : ℕ) → List ℕ
front_of Raw p size = []
front_of Jp2 p size =
    (signature ++ boxes_text (file_type_box ∷ header_box p.width p.height (length p.planes) p.depth ∷ []))
    ++ code_head size

-- the tile-parts of the first n tiles
abbrev pub parts_upto : Picture → Parameters → ℕ → List ℕ
parts_upto p q n = flat_map part_text (map (part_for p q) (range_with_len 0 n))

-- the file up to the end of the tile-parts of the first n tiles: its front, the main header, and
-- these tile-parts
unfoldable pub text_upto : Picture → Parameters → ℕ → List ℕ
text_upto p q n =
    front_of q.container p (length (codestream_text (tree_for p q)))
    ++ (main_text (siz_of p q) (segments_of (main_for p q)) ++ parts_upto p q n)

-- The tile-part of tile n is the first that is too long to say its length.
pub record IsFirstTooLong (p : Picture) (q : Parameters) (n : ℕ) : Type 0 where
  pub tile : n < tile_count (siz_of p q)
  pub before : holds_below (part_fits p q) n ≡ true
  pub long : part_fits p q n ≡ false

-- What is written before that is known. Of a JP2 file it is nothing, since its front says how long
-- the codestream is; of a bare codestream all that stands before the tile-part, but nothing before
-- the first tile is coded.
abbrev pub text_before : Container → Picture → Parameters → ℕ → List ℕ
text_before Jp2 p q n = []
text_before Raw p q zero = []
text_before Raw p q (suc n) = text_upto p q (suc n)

-- The beginning of a file: of what stands before a tile-part, where no tile-part before it is too
-- long, or of the whole file.
abbrev pub IsBegun : Picture → Parameters → List ℕ → Type 0
IsBegun p q text =
    ((n : ℕ) × (n ≤ tile_count (siz_of p q)) × (holds_below (part_fits p q) n ≡ true) × IsFront text (text_upto p q n))
    ⊎ ((file : List ℕ) × (written p q ≡ Ok file) × IsFront text file)

-- What was written where encoding was refused, into what may tell such a fault: outside the profile
-- nothing; where a tile-part is too long, what stands before it or nothing; where memory or a write
-- was refused, a beginning.
abbrev pub IsLeftBy : (tells : Fault → Type 0) → Picture → Parameters → List ℕ → Fault → Type 0
IsLeftBy tells p q text e =
    ((e ≡ BadParameters) × (is_profile q p ≡ false) × (text ≡ []))
    ⊎ ((e ≡ Limit) × (written p q ≡ Err Limit) × (n : ℕ) × IsFirstTooLong p q n
    × (text ≡ text_before q.container p q n))
    ⊎ ((IsMemory e ⊎ tells e) × IsBegun p q text)

-- What was written where encoding has ended so: the whole file where it wasn't refused.
abbrev pub LeftBy : (tells : Fault → Type 0) → Picture → Parameters → List ℕ → Result ⊤ Fault → Type 0
LeftBy tells p q text (Ok done) = written p q ≡ Ok text
LeftBy tells p q text (Err e) = IsLeftBy tells p q text e

-- the same of a writer, which tells Shelf
abbrev pub IsShelf : Fault → Type 0
IsShelf e = e ≡ Shelf

abbrev pub IsLeft : Picture → Parameters → List ℕ → Fault → Type 0
IsLeft p q text e = IsLeftBy IsShelf p q text e

abbrev pub Left : Picture → Parameters → List ℕ → Result ⊤ Fault → Type 0
Left p q text r = LeftBy IsShelf p q text r
