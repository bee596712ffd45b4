-- There is a file of the first layers: it is no longer than the stored one.
use Rattle.std.proofs.Common.{◌≡◌, ℕ, ◌≤◌, List, [], ◌∷◌, length, length-append, Ok, refl, inl, inr, arith}
use Rattle.std.specs.List.{flat_map, AllByRecursion}
use Rattle.jk_marks.specs.Codestream.{CodestreamPart, part_text}
use Rattle.jk_boxes.specs.declared.place.Boxed.{Boxed}
use Rattle.jk_boxes.specs.Boxes.{HoldsAt}
use Rattle.jk_params.proofs.Laws.{part_text_length}
use Rattle.jk_window.specs.Emptied.{emptied_part}
use Rattle.jk_window.specs.Indexing.{IndexFields, IsIndexOf}
use Rattle.jk_window.specs.Cutting.{front_content, with_codestream, parts_text}
use Rattle.jk_window.specs.Fronts.{front_file}
use Rattle.jk_window.proofs.BoxLaws.{recoded_fits}
use Rattle.jk_window.proofs.Lengths.{part_shorter}
use Rattle.jk_window.proofs.FileLaws.{text_shorter}
use Rattle.jk_window.proofs.PartsAgain.{IsShort, parts_short}
use Rattle.jk_window.proofs.CutAgain.{front_short}

pub short_parts : (content : ℕ → ℕ → List ℕ) (parts : List CodestreamPart) → AllByRecursion (IsShort content) parts → length (parts_text content parts) ≤ length (flat_map part_text parts)
short_parts content [] all = omega arith
short_parts content (p ∷ parts) all =
    let more = short_parts content parts all.1 in
    let new = emptied_part content p in
    let here = part_shorter p (content p.tile p.number) all.0 in
    omega (arith, more, here, part_text_length p, part_text_length new, length-append (part_text p) (flat_map part_text parts), length-append (part_text new) (parts_text content parts))

fits_again : {bytes codestream : List ℕ} {place : Boxed} (holds : HoldsAt bytes codestream place) (new : List ℕ) → length new ≤ length codestream → (out : List ℕ) × (with_codestream holds new ≡ Ok out)
fits_again (inl bare) new short = (new, refl)
fits_again {bytes} {codestream} (inr jp2) new short = recoded_fits bytes codestream new jp2.0 short

pub front_fits : (bytes : List ℕ) (i : IndexFields) (is : IsIndexOf bytes i) (k : ℕ) → (out : List ℕ) × (front_file is k ≡ Ok out)
front_fits bytes i is k =
    let fronts : ℕ → ℕ → ℕ → ℕ → ℕ = λ _ _ _ _. k in
    let content = front_content i.headers fronts is.runs in
    let short = parts_short is.codestream i.headers is.says is.runs content is.tiles (front_short is.codestream i.headers is.runs fronts is.tiles) in
    fits_again is.holds _ (text_shorter is.codestream i.headers is.says content (short_parts content is.says.tree.parts short))
