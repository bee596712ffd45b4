-- A file with another codestream is told as before.
use Rattle.std.proofs.Common.{◌≡◌, ℕ, List, [], ◌∷◌, ◌++◌, true, refl, sym, ◌∙◌, Ok}
use Rattle.jk_math.specs.Steps.{guard_ended}
use Rattle.jk_math.specs.declared.fault.Fault.TheVariants.{Limit}
use Rattle.jk_boxes.specs.Boxes.{Box, IsBox, AreBoxes, IsJp2, box_size, is_open}
use Rattle.jk_boxes.specs.Written.{fits_form, recoded}
use Rattle.jk_extras.specs.Reading.{extras_at}
use Rattle.jk_extras.proofs.Holding.{front_kept, some_end, fits_from, last_boxes}
use Rattle.jk_extras.proofs.Dressings.{boxes_behind}
use Rattle.jk_extras.proofs.HeaderTold.{extras_by}

pub cut_told : (file old : List ℕ) (j : IsJp2 file old) (codestream text : List ℕ) → recoded j codestream ≡ Ok text → extras_at text ≡ extras_at file
unfolding recoded
cut_told file old j codestream text due =
    let code : Box = record j.code { contents = codestream } in
    let g = guard_ended (fits_form code.form (box_size code)) Limit _ text due in
    let last = code ∷ j.after in
    let here = last_boxes file old j in
    let is : IsBox code = record { kind = here.0.kind; size = fits_from code.form (box_size code) g.0 } in
    let end : AreBoxes last = (is, here.1, here.2) in
    let behind = boxes_behind (j.file_type ∷ j.early) (j.header ∷ (j.middle ++ (j.code ∷ j.after))) j.boxes in
    let middle : AreBoxes (j.middle ++ last) = front_kept j.middle j.code j.after last behind.2 end in
    let no_end : is_open j.header.form ≡ true → j.middle ++ last ≡ [] = λ o. absurd (some_end j.middle j.code j.after (behind.1 o)) in
    let all : AreBoxes (j.file_type ∷ (j.early ++ (j.header ∷ (j.middle ++ last)))) =
    front_kept (j.file_type ∷ j.early) j.header (j.middle ++ (j.code ∷ j.after)) (j.header ∷ (j.middle ++ last)) j.boxes (behind.0, no_end, middle) in
    let k : IsJp2 text codestream = record {
      file_type = j.file_type;
      early = j.early;
      header = j.header;
      middle = j.middle;
      code = code;
      after = j.after;
      text = sym g.1;
      boxes = all;
      file_type_first = j.file_type_first;
      before_header = j.before_header;
      header_next = j.header_next;
      before_code = j.before_code;
      code_next = (j.code_next.0, refl);
    } in
    extras_by text codestream k ∙ sym (extras_by file old j)
