-- The boxes of a file, one behind the other (T.800 I.4): of each its kind and its length.
use Rattle.std.specs.Prelude.{ℕ, zero, suc, List, [], ◌∷◌, ◌++◌, map, drop, true, Option, Some, None, Result, Ok, Err}
use Rattle.std.proofs.Common.{inl, inr}
use Rattle.jk_math.specs.declared.fault.Fault.{Fault}
use Rattle.jk_boxes.specs.declared.boxes.BoxHead.{BoxHead}
use Rattle.jk_boxes.specs.declared.boxes.Form.TheVariants.{Short}
use Rattle.jk_boxes.specs.declared.place.Boxed.{Boxed}
use Rattle.jk_boxes.specs.Boxes.{Box, IsJp2, HoldsAt, box_size}
use Rattle.jk_boxes.specs.Reading.{box_at}

-- ---- among the boxes

-- the signature box (I.5.1)
abbrev pub signature_box : Box
signature_box = record { form = Short; kind = 0x6A502020; contents = 0x0D ∷ 0x0A ∷ 0x87 ∷ 0x0A ∷ [] }

-- all boxes of a JP2 file, in order
abbrev pub all_boxes : {bytes codestream : List ℕ} → IsJp2 bytes codestream → List Box
all_boxes j = signature_box ∷ j.file_type ∷ (j.early ++ (j.header ∷ (j.middle ++ (j.code ∷ j.after))))

abbrev pub kind_and_length : Box → ℕ × ℕ
kind_and_length b = (b.kind, box_size b)

-- the boxes of a file; a bare codestream has none
abbrev pub listed : {bytes codestream : List ℕ} {place : Boxed} → HoldsAt bytes codestream place → List (ℕ × ℕ)
listed (inl bare) = []
listed (inr jp2) = map kind_and_length (all_boxes jp2.0)

-- ---- by their places

-- the kind and the length of a box that was read
abbrev pub named : Result BoxHead Fault → Option (ℕ × ℕ)
named (Ok head) = Some (head.kind, head.size)
named (Err e) = None

-- the same of the box that begins bytes which go on to the end of the file, if one does
abbrev pub box_named : List ℕ → Option (ℕ × ℕ)
box_named rest = named (box_at true rest)

-- what follows a box
abbrev pub behind_box : Option (ℕ × ℕ) → (ℕ → List (ℕ × ℕ)) → List (ℕ × ℕ)
behind_box None others = []
behind_box (Some b) others = b ∷ others b.1

-- the boxes at the front, at most n of them
unfoldable pub boxes_from : ℕ → List ℕ → List (ℕ × ℕ)
boxes_from zero rest = []
boxes_from (suc n) rest = behind_box (box_named rest) (λ size. boxes_from n (drop size rest))
