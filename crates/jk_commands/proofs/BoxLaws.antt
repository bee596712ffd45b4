-- The boxes that are met in a file are those of which it is made.
use Rattle.std.proofs.Common.{lit<, ◌≡◌, ℕ, zero, suc, ◌+◌, ◌<◌, ◌≤◌, true, List, [], ◌∷◌, ◌++◌, length, map, Some, None, Ok, refl, ap, ◌∙◌, length-append, arith}
use Rattle.jk_boxes.specs.declared.boxes.Form.{Form}
use Rattle.jk_boxes.specs.declared.boxes.Form.TheVariants.{Short, Long, Open}
use Rattle.jk_boxes.specs.Boxes.{Box, IsBox, AreBoxes, IsJp2, signature, head_size, box_text, boxes_text}
use Rattle.jk_boxes.specs.Reading.{box_at}
use Rattle.jk_boxes.proofs.Laws.{head_of, box_again, box_length, after_box}
use Rattle.jk_commands.specs.BoxList.{signature_box, all_boxes, kind_and_length, named, box_named, boxes_from}
use Rattle.jk_commands.proofs.WalkLoops.{boxes_next, boxes_stop}

no_box : box_named [] ≡ None
unfolding box_at
no_box = refl

boxes_met : (n : ℕ) (bs : List Box) → AreBoxes bs → length bs < n → boxes_from n (boxes_text bs) ≡ map kind_and_length bs
boxes_met zero bs are fuel = absurd (omega (arith, fuel))
boxes_met (suc n) [] are fuel = boxes_stop (suc n) [] no_box
boxes_met (suc n) (b ∷ bs) are fuel =
    let rest = boxes_text bs in
    let read : box_at true (box_text b ++ rest) ≡ Ok (head_of b) = box_again true b rest are.0 (λ o. (refl, ap boxes_text (are.1 o))) in
    let is : box_named (box_text b ++ rest) ≡ Some (kind_and_length b) = ap named read in
    boxes_next n (kind_and_length b) (box_text b ++ rest) is
    ∙ ap (λ (x : List ℕ). kind_and_length b ∷ boxes_from n x) (after_box b rest)
    ∙ ap (λ (xs : List (ℕ × ℕ)). kind_and_length b ∷ xs) (boxes_met n bs are.2 (omega (arith, fuel)))

two_before : (f : Form) → 2 ≤ head_size f
two_before Short = omega arith
two_before Long = omega arith
two_before Open = omega arith

many_boxes : (bs : List Box) → length bs + length bs ≤ length (boxes_text bs)
many_boxes [] = omega arith
many_boxes (b ∷ bs) = omega (arith, many_boxes bs, length-append (box_text b) (boxes_text bs), box_length b, two_before b.form)

is_signature : signature ≡ box_text signature_box
unfolding box_text
is_signature = refl

signature_is : IsBox signature_box
signature_is = record { kind = lit< tt; size = lit< tt }

pub all_met : (bytes codestream : List ℕ) → (j : IsJp2 bytes codestream) → boxes_from (length bytes) bytes ≡ map kind_and_length (all_boxes j)
all_met bytes codestream j =
    let others = j.file_type ∷ (j.early ++ (j.header ∷ (j.middle ++ (j.code ∷ j.after)))) in
    let all = signature_box ∷ others in
    let text : bytes ≡ boxes_text all = j.text ∙ ap (λ (x : List ℕ). x ++ boxes_text others) is_signature in
    let are : AreBoxes all = (signature_is, λ o. absurd cc, j.boxes) in
    let fuel : length all < length (boxes_text all) = omega (arith, many_boxes all) in
    ap (λ (x : List ℕ). boxes_from (length x) x) text ∙ boxes_met (length (boxes_text all)) all are fuel
