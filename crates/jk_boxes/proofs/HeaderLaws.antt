-- The JP2 header box: what is read is spelled so, and what is spelled so is read.
use Rattle.std.proofs.Common.{lit<, ◌≡◌, ℕ, zero, suc, ◌+◌, ◌-◌, ◌<◌, ◌≤◌, Bool, true, false, ◌&&◌, eqb, not, List, [], ◌∷◌, ◌++◌, length, get_or, drop, Ok, refl, sym, ap, ◌∙◌, arith, inl, inr}
use Rattle.std.specs.List.{AllByRecursion}
use Rattle.std.proofs.lemmas.Bool.{eqb-true, eqb-false, eq-eqb, ne_eqb, not-false, and_parts}
use Rattle.std.proofs.lemmas.List.{length-append, length-drop, nil_from_length, get_or-take, get_or-drop}
use Rattle.jk_math.specs.Steps.{bind_then, refuse_then, chosen}
use Rattle.jk_math.specs.declared.fault.Fault.TheVariants.{BadBox, Unsupported}
use Rattle.jk_boxes.specs.declared.boxes.Form.{Form}
use Rattle.jk_boxes.specs.declared.boxes.Form.TheVariants.{Short, Long, Open}
use Rattle.jk_boxes.specs.Boxes.{Box, head_size, box_size, box_text, boxes_text, is_open, IsBox, IsInner, IsHeaderBox, image_header_kind, palette_kind}
use Rattle.jk_boxes.specs.Reading.{box_at, box_of_kind_at, contents_of, is_short, no_palette_at, header_at}
use Rattle.jk_math.proofs.Laws.{AreBytes, are_bytes_after}
use Rattle.jk_boxes.proofs.Loops.{palette_step, palette_stops, some_left}
use Rattle.jk_boxes.proofs.Heads.{box_from, box_takes, box_again, after_box, box_length, box_some, kind_takes, kind_again, contents_again}

pub bool_false : (b : Bool) → (b ≡ true → ⊥) → b ≡ false
bool_false true h = absurd (h refl)
bool_false false h = refl

-- boxes without a palette
record TakesInner (rest : List ℕ) : Type 0 where
  others : List Box
  text : rest ≡ boxes_text others
  plain : AllByRecursion (IsInner palette_kind) others

inner_takes : (n : ℕ) (rest : List ℕ) → length rest ≤ n → AreBytes rest → no_palette_at n false rest ≡ Ok tt → TakesInner rest
unfolding no_palette_at
inner_takes zero rest enough fits e = record { others = []; text = nil_from_length rest (omega arith); plain = tt }
inner_takes (suc n) rest enough fits e =
    elim (chosen (eqb (length rest) 0) _ _ (Ok tt) e) [
      | inl w ↦ record { others = []; text = nil_from_length rest (eqb-true _ _ w.0); plain = tt }
      | inr w ↦
          bind_then (box_at false rest) _ tt w.1 (λ head s e.
          refuse_then (eqb head.kind palette_kind) Unsupported _ tt e (λ other e.
          let t = box_takes false rest head fits s in
          let b = box_from head rest in
          let more = inner_takes n (drop head.size rest) (omega (arith, length-drop head.size rest, t.low, enough)) (are_bytes_after head.size rest fits) e in
          let closed : is_open head.form ≡ false = bool_false (is_open head.form) (λ o. let p = (t.last o).0 in absurd cc) in
          let here : IsInner palette_kind b = record { box = t.is; closed = closed; other = eqb-false head.kind palette_kind other } in
          let r : TakesInner rest = record { others = b ∷ more.others; text = t.text ∙ ap (λ (x : List ℕ). box_text b ++ x) more.text; plain = (here, more.plain) } in
          r
          ))
    ]

inner_again : (others : List Box) (n : ℕ) (ends : Bool) → AllByRecursion (IsInner palette_kind) others → length (boxes_text others) ≤ n → no_palette_at n ends (boxes_text others) ≡ Ok tt
inner_again [] n ends plain enough = palette_stops n ends [] refl
inner_again (b ∷ bs) n ends plain enough =
    let after = boxes_text bs in
    let rest = box_text b ++ after in
    let inner = plain.0 in
    let len : length rest ≡ box_size b + length after = length-append (box_text b) after ∙ ap (λ k. k + length after) (box_length b) in
    let some : 0 < length rest = omega (arith, len, box_some b) in
    let m = some_left n (length rest) some enough in
    let last : is_open b.form ≡ true → (ends ≡ true) × (after ≡ []) = λ o. let c = inner.closed in absurd cc in
    let read = box_again ends b after inner.box last in
    let other : eqb b.kind palette_kind ≡ false = ne_eqb b.kind palette_kind inner.other in
    let next = after_box b after in
    let more = inner_again bs m.0 ends plain.1 (omega (arith, len, box_some b, m.1, enough)) in
    ap (λ k. no_palette_at k ends rest) m.1 ∙ palette_step m.0 ends rest some ∙ rw (read, other, next) more

short_is : (f : Form) → is_short f ≡ true → f ≡ Short
short_is Short e = refl
short_is Long e = absurd cc
short_is Open e = absurd cc

pub header_takes : (contents : List ℕ) → AreBytes contents → header_at false contents ≡ Ok tt → IsHeaderBox contents
unfolding header_at
header_takes contents fits e =
    bind_then (box_of_kind_at image_header_kind false contents) _ tt e (λ first s e.
    refuse_then (not (is_short first.form && eqb first.size 22)) BadBox _ tt e (λ shape e.
    refuse_then (not (eqb (get_or contents 19 0) 7)) Unsupported _ tt e (λ seven e.
    let t = kind_takes image_header_kind false contents first fits s in
    let parts = and_parts (is_short first.form) (eqb first.size 22) (not-false _ shape) in
    let form = short_is first.form parts.0 in
    let size : first.size ≡ 22 = eqb-true _ _ parts.1 in
    let before : head_size first.form ≡ 8 = ap head_size form in
    let image = contents_of first contents in
    let b = box_from first contents in
    let whole : head_size first.form + length image ≡ first.size = t.0.size in
    let compression : get_or image 11 0 ≡ 7 =
    get_or-take (first.size - head_size first.form) (drop (head_size first.form) contents) 11 0 (omega (arith, size, before))
    ∙ get_or-drop (head_size first.form) contents 11 0 ∙ ap (λ k. get_or contents (k + 11) 0) before ∙ eqb-true _ _ (not-false _ seven) in
    let more = inner_takes (length (drop 22 contents)) (drop 22 contents) (omega arith) (are_bytes_after 22 contents fits) e in
    let box-is : b ≡ record { form = Short; kind = image_header_kind; contents = image } =
    ap (λ (f : Form). let x : Box = record { form = f; kind = first.kind; contents = image } in x) form ∙ ap (λ k. let x : Box = record { form = Short; kind = k; contents = image } in x) t.1 in
    let text : contents ≡ box_text b ++ boxes_text more.others = t.0.text ∙ ap (λ (x : List ℕ). box_text b ++ x) (ap (λ k. drop k contents) size ∙ more.text) in
    let r : IsHeaderBox contents = record {
      image = image;
      others = more.others;
      text = text ∙ ap (λ (x : Box). box_text x ++ boxes_text more.others) box-is;
      size = omega (arith, whole, size, before);
      compression = compression;
      plain = more.plain;
    } in
    r
    )))

pub header_again : (contents : List ℕ) (ends : Bool) → IsHeaderBox contents → header_at ends contents ≡ Ok tt
unfolding header_at
header_again contents ends is =
    let first : Box = record { form = Short; kind = image_header_kind; contents = is.image } in
    let after = boxes_text is.others in
    let whole = box_text first ++ after in
    let size : box_size first ≡ 22 = omega (arith, is.size) in
    let box : IsBox first = record { kind = lit< tt; size = omega (arith, is.size) } in
    let last : is_open first.form ≡ true → (ends ≡ true) × (after ≡ []) = λ o. absurd cc in
    let read = kind_again ends first after box last in
    let is_22 : eqb (box_size first) 22 ≡ true = eq-eqb _ _ size in
    let behind : drop 22 whole ≡ after = ap (λ k. drop k whole) (sym size) ∙ after_box first after in
    let image = ap (λ (x : List ℕ). get_or x 11 0) (contents_again first after) in
    let seven : get_or whole 19 0 ≡ 7 =
    sym (get_or-take (box_size first - 8) (drop 8 whole) 11 0 (omega (arith, size)) ∙ get_or-drop 8 whole 11 0) ∙ image ∙ is.compression in
    let is_7 : eqb (get_or whole 19 0) 7 ≡ true = eq-eqb _ _ seven in
    let more = inner_again is.others (length after) ends is.plain (omega arith) in
    ap (header_at ends) is.text ∙ rw (read, is_22, is_7, behind) more
