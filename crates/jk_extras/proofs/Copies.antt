-- All boxes of XML and under UUIDs of a file are copied.
use Rattle.std.proofs.Common.{◌≡◌, ℕ, zero, suc, ◌+◌, ◌-◌, ◌<◌, ◌≤◌, Bool, true, false, cond, List, [], ◌∷◌, ◌++◌, length, take, drop, Some, None, Ok, refl, sym, ap, subst, ◌∙◌, append_assoc, arith, inl, inr}
use Rattle.std.specs.List.{AllByRecursion, filter}
use Rattle.std.proofs.lemmas.List.{take_at, drop_at, drop-drop, length-drop, append-nil}
use Rattle.jk_math.specs.Steps.{bind_then, chosen, ok_is}
use Rattle.jk_boxes.specs.Boxes.{Box, AreBoxes, IsJp2, box_text, boxes_text, box_size, signature}
use Rattle.jk_boxes.proofs.Heads.{box_again, box_length, after_box, box_some}
use Rattle.jk_extras.specs.declared.finding.Wanted.TheVariants.{Others}
use Rattle.jk_extras.specs.declared.told.Told.{Told}
use Rattle.jk_extras.specs.declared.finding.ToldOther.{ToldOther}
use Rattle.jk_extras.specs.Header.{met_passed, nothing_met}
use Rattle.jk_extras.specs.Finding.{is_wanted, found_by, found_at, other_told, placed_box}
use Rattle.jk_extras.specs.Passing.{passed_by}
use Rattle.jk_extras.specs.Reading.{extras_at, told_of}
use Rattle.jk_extras.specs.Texts.{HasTold, all_boxes, colour_text, resolution_text, others_from, extras_text}
use Rattle.jk_extras.proofs.Passing.{some_left}
use Rattle.jk_extras.proofs.Looking.{one_step, no_step}
use Rattle.jk_extras.proofs.Copying.{copy_step, copy_nothing}
use Rattle.jk_extras.proofs.Sizes.{text_size}
use Rattle.jk_extras.proofs.HeaderTold.{at, boxes, extras_by}

abbrev pub is_other : Box → Bool
is_other b = is_wanted Others b.kind

-- it was told, wherever it stands
abbrev pub WasTold : Box → Type 0
WasTold b = (at : ℕ) × ((t : ToldOther) × (other_told (placed_box at b) ≡ Ok t))

-- All of these boxes stand behind what is known, and were told.
record Copied (known text : List ℕ) (bs : List Box) : Type 0 where
  text_is : text ≡ known ++ boxes_text (filter is_other bs)
  told : AllByRecursion WasTold (filter is_other bs)

bool_same : (b : Bool) → cond b true false ≡ b
bool_same true = refl
bool_same false = refl

found_step : (n at : ℕ) (b : Box) (bs : List Box) → AreBoxes (b ∷ bs)
    → found_by Others (suc n) at (boxes_text (b ∷ bs)) ≡ cond (is_other b) (Ok (Some (placed_box at b))) (found_by Others n (at + box_size b) (boxes_text bs))
found_step n at b bs are =
    let after = boxes_text bs in
    let rest = box_text b ++ after in
    let read = box_again true b after are.0 (λ o. (refl, ap boxes_text (are.1 o))) in
    let next = after_box b after in
    one_step Others n at rest (omega (arith, text_size b bs, box_some b)) ∙ rw (read, next) refl

-- boxes are looked through alike, however many there may be
found_alike : (bs : List Box) (n m at : ℕ) → AreBoxes bs → length (boxes_text bs) ≤ n → length (boxes_text bs) ≤ m → found_by Others n at (boxes_text bs) ≡ found_by Others m at (boxes_text bs)
found_alike [] n m at are low_n low_m = no_step Others n at [] refl ∙ sym (no_step Others m at [] refl)
found_alike (b ∷ bs) n m at are low_n low_m =
    let rest = boxes_text (b ∷ bs) in
    let size = text_size b bs in
    let some : 0 < length rest = omega (arith, size, box_some b) in
    let x = some_left n (length rest) some low_n in
    let y = some_left m (length rest) some low_m in
    let more = found_alike bs x.0 y.0 (at + box_size b) are.2 (omega (arith, size, box_some b, x.1, low_n)) (omega (arith, size, box_some b, y.1, low_m)) in
    ap (λ k. found_by Others k at rest) x.1 ∙ found_step x.0 at b bs are ∙ ap (cond (is_other b) (Ok (Some (placed_box at b)))) more
    ∙ sym (ap (λ k. found_by Others k at rest) y.1 ∙ found_step y.0 at b bs are)

found_from : (file : List ℕ) (at : ℕ) (bs : List Box) → drop at file ≡ boxes_text bs → found_at Others at file ≡ found_by Others (length file) at (boxes_text bs)
found_from file at bs there = ap (found_by Others (length file) at) there

within : (file : List ℕ) (at : ℕ) (bs : List Box) → drop at file ≡ boxes_text bs → length (boxes_text bs) ≡ length file - at
within file at bs there = omega (arith, ap (λ (x : List ℕ). length x) there, length-drop at file)

rest_there : (file : List ℕ) (at : ℕ) (b : Box) (bs : List Box) → drop at file ≡ boxes_text (b ∷ bs) → drop (at + box_size b) file ≡ boxes_text bs
rest_there file at b bs there = sym (drop-drop (box_size b) at file) ∙ ap (drop (box_size b)) there ∙ after_box b (boxes_text bs)

found_here : (file : List ℕ) (at : ℕ) (b : Box) (bs : List Box) → AreBoxes (b ∷ bs) → drop at file ≡ boxes_text (b ∷ bs)
    → found_at Others at file ≡ cond (is_other b) (Ok (Some (placed_box at b))) (found_at Others (at + box_size b) file)
found_here file at b bs are there =
    let rest = boxes_text (b ∷ bs) in
    let size = text_size b bs in
    let long = within file at (b ∷ bs) there in
    let x = some_left (length file) (length rest) (omega (arith, size, box_some b)) (omega (arith, long)) in
    let alike = found_alike bs x.0 (length file) (at + box_size b) are.2 (omega (arith, size, box_some b, x.1, long)) (omega (arith, size, long)) in
    found_from file at (b ∷ bs) there ∙ ap (λ k. found_by Others k at rest) x.1 ∙ found_step x.0 at b bs are
    ∙ ap (cond (is_other b) (Ok (Some (placed_box at b)))) (alike ∙ sym (found_from file (at + box_size b) bs (rest_there file at b bs there)))

copy_skip : (file known : List ℕ) (n x y : ℕ) → found_at Others x file ≡ found_at Others y file → others_from n known x file ≡ others_from n known y file
unfolding others_from
copy_skip file known zero x y same = refl
copy_skip file known (suc n) x y same = rw same refl

copy_none : (file known : List ℕ) (n at : ℕ) → drop at file ≡ [] → others_from n known at file ≡ Ok known
copy_none file known zero at there = copy_nothing file known at
copy_none file known (suc n) at there = copy_step file known n at None (found_from file at [] there ∙ no_step Others (length file) at [] refl)

copied : (file : List ℕ) (bs : List Box) (n : ℕ) (known : List ℕ) (at : ℕ) (text : List ℕ) → AreBoxes bs → drop at file ≡ boxes_text bs → length file - at ≤ n
    → others_from n known at file ≡ Ok text → Copied known text bs
copied file [] n known at text are there enough e =
    record { text_is = sym (ok_is known text (sym (copy_none file known n at there) ∙ e)) ∙ sym (append-nil known); told = tt }
copied file (b ∷ bs) n known at text are there enough e =
    let size = text_size b bs in
    let long = within file at (b ∷ bs) there in
    let here = found_here file at b bs are there in
    let next = rest_there file at b bs there in
    elim (chosen (is_other b) true false (is_other b) (bool_same (is_other b))) [
      | inl w ↦
          let is : is_other b ≡ true = w.0 in
          let m = some_left n (length file - at) (omega (arith, size, box_some b, long)) enough in
          let found : found_at Others at file ≡ Ok (Some (placed_box at b)) = here ∙ ap (λ (x : Bool). cond x (Ok (Some (placed_box at b))) (found_at Others (at + box_size b) file)) is in
          let slice : take ((at + box_size b) - at) (drop at file) ≡ box_text b =
          ap (λ k. take k (drop at file)) (sub_same at (box_size b)) ∙ ap (take (box_size b)) there ∙ take_at (box_text b) (boxes_text bs) (box_size b) (box_length b) in
          let step = sym (ap (λ k. others_from k known at file) m.1 ∙ copy_step file known m.0 at (Some (placed_box at b)) found) ∙ e in
          bind_then (other_told (placed_box at b)) _ text step (λ t s f.
          let more = copied file bs m.0 (known ++ take ((at + box_size b) - at) (drop at file)) (at + box_size b) text are.2 next (omega (arith, size, box_some b, m.1, enough)) f in
          let this : Copied known text (b ∷ bs) = record {
            text_is = more.text_is ∙ ap (λ (x : List ℕ). (known ++ x) ++ boxes_text (filter is_other bs)) slice ∙ append_assoc known (box_text b) (boxes_text (filter is_other bs))
                ∙ ap (λ (x : Bool). known ++ boxes_text (cond x (b ∷ filter is_other bs) (filter is_other bs))) (sym is);
            told = subst (λ (x : Bool). AllByRecursion WasTold (cond x (b ∷ filter is_other bs) (filter is_other bs))) (sym is) ((at, (t, s)), more.told);
          } in
          this)
      | inr w ↦
          let is : is_other b ≡ false = w.0 in
          let found : found_at Others at file ≡ found_at Others (at + box_size b) file = here ∙ ap (λ (x : Bool). cond x (Ok (Some (placed_box at b))) (found_at Others (at + box_size b) file)) is in
          let more = copied file bs n known (at + box_size b) text are.2 next (omega arith) (sym (copy_skip file known n at (at + box_size b) found) ∙ e) in
          record {
            text_is = more.text_is ∙ ap (λ (x : Bool). known ++ boxes_text (cond x (b ∷ filter is_other bs) (filter is_other bs))) (sym is);
            told = subst (λ (x : Bool). AllByRecursion WasTold (cond x (b ∷ filter is_other bs) (filter is_other bs))) (sym is) more.told;
          }
    ]
  where
    sub_same : (a n : ℕ) → (a + n) - a ≡ n
    sub_same a n = omega arith

-- boxes begin behind the signature
told_others : (file codestream : List ℕ) (j : IsJp2 file codestream) (t : Told) → extras_at file ≡ Ok t → t.others ≡ 12
told_others file codestream j t e =
    let old = boxes file codestream j in
    bind_then (passed_by met_passed false (length (boxes_text old)) nothing_met (at file codestream j) (boxes_text old)) _ t (sym (extras_by file codestream j) ∙ e)
    (λ met s f. ap (λ (x : Told). x.others) (sym (ok_is (told_of met) t f)))

-- the text of what a file keeps, and that each of its boxes was told
pub told_text : (file codestream : List ℕ) (j : IsJp2 file codestream) (text : List ℕ) → extras_text file ≡ Ok text
    → HasTold j text × AllByRecursion WasTold (filter is_other (all_boxes j))
unfolding extras_text
told_text file codestream j text e =
    bind_then (extras_at file) _ text e (λ t read f.
    bind_then (colour_text file t.colour) _ text f (λ c colour g.
    let r = resolution_text t.capture t.display in
    let from = told_others file codestream j t read in
    let there : drop t.others file ≡ boxes_text (all_boxes j) = ap (λ k. drop k file) from ∙ ap (drop 12) j.text ∙ drop_at signature (boxes_text (all_boxes j)) 12 refl in
    let all = copied file (all_boxes j) (length file) (c ++ r) t.others text j.boxes there (omega arith) g in
    let here : HasTold j text = record {
      told = t;
      is = read;
      colour = c;
      colour_is = colour;
      written_is = all.text_is ∙ append_assoc c r (boxes_text (filter is_other (all_boxes j)));
    } in
    (here, all.told)))

pub has_told : (file codestream : List ℕ) (j : IsJp2 file codestream) (text : List ℕ) → extras_text file ≡ Ok text → HasTold j text
has_told file codestream j text e = (told_text file codestream j text e).0
