-- What is written holds its codestream, and a replaced codestream box leaves the rest as it was.
use Rattle.std.proofs.Common.{lit<, ◌≡◌, ℕ, ◌+◌, ◌-◌, ◌<◌, ◌≤◌, ◌^◌, true, false, not, cond, ltb, nat_eq, List, [], ◌∷◌, ◌++◌, length, take, drop, Ok, Err, refl, sym, ap, subst, ◌∙◌, append_assoc, arith, inl, inr}
use Rattle.std.specs.List.{starts_with}
use Rattle.std.proofs.lemmas.Bool.{eqb-false, ltb-true, cases_lt, lt-ltb, le-ltb}
use Rattle.std.proofs.lemmas.List.{take_at, drop_at, length-append, append-nil}
use Rattle.jk_math.specs.Steps.{bind_then, guarded, guard_ended, chosen, ok_is}
use Rattle.jk_math.specs.Picture.{Picture}
use Rattle.jk_math.specs.declared.fault.Fault.TheVariants.{Truncated, Limit, Unsupported}
use Rattle.jk_boxes.specs.declared.boxes.Form.{Form}
use Rattle.jk_boxes.specs.declared.boxes.Form.TheVariants.{Short, Long, Open}
use Rattle.jk_boxes.specs.declared.place.CodePlace.{CodePlace}
use Rattle.jk_boxes.specs.declared.place.Boxed.{Boxed}
use Rattle.jk_boxes.specs.Boxes.{Box, head_size, head_text, box_size, box_text, boxes_text, signature, soc, FitsForm, IsBox, AreBoxes, IsFileType, IsHeaderBox, IsJp2, image_header_kind, colour_kind, palette_kind, code_kind, jp2_brand}
use Rattle.jk_boxes.specs.Reading.{jp2_at, boxes_at}
use Rattle.jk_boxes.specs.Written.{file_type_box, image_header_of, colour_box, header_box, form_for, code_box, code_head, is_wrapped, wrapped, fits_form, recoded}
use Rattle.jk_boxes.specs.Replacing.{replaced_at, replaced}
use Rattle.jk_boxes.proofs.Heads.{box_length}
use Rattle.jk_boxes.proofs.WalkLaws.{text_length}
use Rattle.jk_boxes.proofs.FileLaws.{front, behind, place_of, jp2_again, split_boxes, split_text, front_length, ends_within, other_start, FoundJp2, jp2_takes}
use Rattle.jk_math.proofs.Laws.{AreBytes}

fits_from : (f : Form) (size : ℕ) → fits_form f size ≡ true → FitsForm f size
fits_from Short size e = ltb-true _ _ e
fits_from Long size e = ltb-true _ _ e
fits_from Open size e = tt

-- the boxes at the end may change where they stay boxes
tail_changed : (xs ys zs : List Box) → (AreBoxes ys → AreBoxes zs) → (ys ≡ [] → zs ≡ []) → AreBoxes (xs ++ ys) → AreBoxes (xs ++ zs)
tail_changed [] ys zs f none are = f are
tail_changed (x ∷ []) ys zs f none are = (are.0, λ o. none (are.1 o), f are.2)
tail_changed (x ∷ y ∷ xs) ys zs f none are = (are.0, λ o. absurd (let e = are.1 o in cc), tail_changed (y ∷ xs) ys zs f none are.2)

pub replaced_is : (bytes old new : List ℕ) (j : IsJp2 bytes old) → replaced_at (place_of j) bytes new ≡ recoded j new
unfolding replaced_at recoded box_text
replaced_is bytes old new j =
    let code = j.code in
    let n = head_size code.form in
    let size = n + length new in
    let next : Box = record code { contents = new } in
    let a = boxes_text j.after in
    let k = length (front j) in
    let at : (place_of j).start - n ≡ k = omega (arith, front_length bytes old j) in
    let end : (place_of j).end ≡ k + box_size code = omega (arith, front_length bytes old j) in
    let text = split_text bytes old j in
    let before : take ((place_of j).start - n) bytes ≡ front j =
    ap (λ m. take m bytes) at ∙ ap (take k) text ∙ take_at (front j) (box_text code ++ a) k refl in
    let joined : bytes ≡ (front j ++ box_text code) ++ a = text ∙ sym (append_assoc (front j) (box_text code) a) in
    let wide : length (front j ++ box_text code) ≡ k + box_size code = length-append (front j) (box_text code) ∙ ap (λ m. k + m) (box_length code) in
    let after : drop (place_of j).end bytes ≡ a = ap (λ m. drop m bytes) end ∙ ap (drop (k + box_size code)) joined ∙ drop_at (front j ++ box_text code) a (k + box_size code) wide in
    let head = head_text code.form code.kind size in
    let spelled : take ((place_of j).start - n) bytes ++ (head_text code.form code_kind size ++ (new ++ drop (place_of j).end bytes)) ≡ front j ++ (box_text next ++ a) =
    ap (λ (x : List ℕ). x ++ (head_text code.form code_kind size ++ (new ++ drop (place_of j).end bytes))) before
    ∙ ap (λ (x : List ℕ). front j ++ (head_text code.form code_kind size ++ (new ++ x))) after
    ∙ ap (λ m. front j ++ (head_text code.form m size ++ (new ++ a))) (sym j.code_next.0)
    ∙ ap (λ (x : List ℕ). front j ++ x) (sym (append_assoc head new a)) in
    let whole = spelled ∙ sym (split_boxes j.file_type j.early j.header j.middle next j.after) in
    ap (λ (x : List ℕ). cond (fits_form code.form size) (Ok x) (Err Limit)) whole

pub recoded_holds : (bytes old new text : List ℕ) (j : IsJp2 bytes old) → recoded j new ≡ Ok text → IsJp2 text new
unfolding recoded
recoded_holds bytes old new text j e =
    let code = j.code in
    let next : Box = record code { contents = new } in
    let g = guard_ended (fits_form next.form (box_size next)) Limit _ text e in
    let last = λ (are : AreBoxes (code ∷ j.after)). (let is : IsBox next = record { kind = are.0.kind; size = fits_from next.form (box_size next) g.0 } in let r : AreBoxes (next ∷ j.after) = (is, are.1, are.2) in r) in
    let none : (code ∷ j.after ≡ []) → (next ∷ j.after ≡ []) = λ e. absurd cc in
    let inner : AreBoxes ((j.header ∷ j.middle) ++ (code ∷ j.after)) → AreBoxes ((j.header ∷ j.middle) ++ (next ∷ j.after)) = tail_changed (j.header ∷ j.middle) (code ∷ j.after) (next ∷ j.after) last none in
    let none_inner : (j.header ∷ (j.middle ++ (code ∷ j.after)) ≡ []) → (j.header ∷ (j.middle ++ (next ∷ j.after)) ≡ []) = λ e. absurd cc in
    let all = tail_changed (j.file_type ∷ j.early) (j.header ∷ (j.middle ++ (code ∷ j.after))) (j.header ∷ (j.middle ++ (next ∷ j.after))) inner none_inner j.boxes in
    record {
      file_type = j.file_type;
      early = j.early;
      header = j.header;
      middle = j.middle;
      code = next;
      after = j.after;
      text = sym g.1;
      boxes = all;
      file_type_first = j.file_type_first;
      before_header = j.before_header;
      header_next = j.header_next;
      before_code = j.before_code;
      code_next = (j.code_next.0, refl);
    }

replaced_by : (file new : List ℕ) (p : CodePlace) → starts_with nat_eq file soc ≡ false → jp2_at file ≡ Ok p → replaced file new ≡ replaced_at p file new
unfolding replaced
replaced_by file new p other read = rw (other, read) refl

pub replaced_jp2 : (file old new : List ℕ) (j : IsJp2 file old) → replaced file new ≡ recoded j new
replaced_jp2 file old new j =
    let other : starts_with nat_eq file soc ≡ false = ap (λ (x : List ℕ). starts_with nat_eq x soc) j.text ∙ other_start (boxes_text (j.file_type ∷ behind j)) in
    replaced_by file new (place_of j) other (jp2_again file old j) ∙ replaced_is file old new j

pub replaced_bare : (file new : List ℕ) → starts_with nat_eq file soc ≡ true → replaced file new ≡ Ok new
unfolding replaced
replaced_bare file new e = rw e refl

-- a place within a file
pub record Placed (file : List ℕ) (p : CodePlace) : Type 0 where
  pub before : head_size p.form ≤ p.start
  pub start : p.start ≤ length file
  pub end : p.end ≤ length file

pub placed : (file : List ℕ) (p : CodePlace) → FoundJp2 file p → Placed file p
placed file p f =
    let within = ends_within file f.codestream f.is in
    let here : Placed file (place_of f.is) = record { before = omega arith; start = omega (arith, within); end = within } in
    subst (λ (x : CodePlace). Placed file x) (sym f.place) here

pub is_jp2 : (file : List ℕ) (b : Boxed) → boxes_at file ≡ Ok b → b.jp2 ≡ not (starts_with nat_eq file soc)
unfolding boxes_at
is_jp2 file b e =
    let g = guarded (ltb (length file) 2) Truncated _ b e in
    elim (chosen (starts_with nat_eq file soc) _ _ (Ok b) g.1) [
      | inl w ↦ ap (λ (x : Boxed). x.jp2) (sym (ok_is (record { start = 0; end = length file; jp2 = false }) b w.1)) ∙ ap not (sym w.0)
      | inr w ↦ bind_then (jp2_at file) _ b w.1 (λ p s e. ap (λ (x : Boxed). x.jp2) (sym (ok_is (record { start = p.start; end = p.end; jp2 = true }) b e)) ∙ ap not (sym w.0))
    ]

code_fits : (n : ℕ) → 16 + n < 2 ^ 64 → FitsForm (form_for n) (head_size (form_for n) + n)
code_fits n small = elim (cases_lt (8 + n) (2 ^ 32)) [
  | inl h ↦ let e : ltb (8 + n) (2 ^ 32) ≡ true = lt-ltb _ _ h in rw e h
  | inr h ↦ let e : ltb (8 + n) (2 ^ 32) ≡ false = le-ltb _ _ h in rw e small
]

is_header : (width height components depth : ℕ) → IsHeaderBox (header_box width height components depth).contents
is_header width height components depth =
    let colour : IsBox (colour_box components) = record { kind = lit< tt; size = lit< tt } in
    record {
      image = image_header_of width height components depth;
      others = colour_box components ∷ [];
      text = refl;
      size = refl;
      compression = refl;
      plain = (record { box = colour; closed = refl; other = eqb-false colour_kind palette_kind refl }, tt);
    }

is_file_type : IsFileType file_type_box.contents
is_file_type = record { brand = jp2_brand; version = 0; compatible = jp2_brand ∷ []; text = refl; narrow = (lit< tt, (lit< tt, (lit< tt, tt))); listed = refl }

pub wrapped_holds : (p : Picture) (codestream text : List ℕ) → 16 + length codestream < 2 ^ 64 → wrapped p codestream ≡ Ok text → IsJp2 text codestream
unfolding wrapped
wrapped_holds p codestream text small e =
    let g = guard_ended (is_wrapped p) Unsupported _ text e in
    let header = header_box p.width p.height (length p.planes) p.depth in
    let first : IsBox file_type_box = record { kind = lit< tt; size = lit< tt } in
    let inside : Box = record { form = Short; kind = image_header_kind; contents = image_header_of p.width p.height (length p.planes) p.depth } in
    let colour = colour_box (length p.planes) in
    let size : length header.contents ≡ 37 = text_length inside (boxes_text (colour ∷ [])) ∙ ap (λ k. 22 + k) (text_length colour []) in
    let second : IsBox header = record { kind = lit< tt; size = omega (arith, size) } in
    let third : IsBox (code_box codestream) = record { kind = lit< tt; size = code_fits (length codestream) small } in
    record {
      file_type = file_type_box;
      early = [];
      header = header;
      middle = [];
      code = code_box codestream;
      after = [];
      text = sym g.1;
      boxes = (first, λ o. absurd cc, (second, λ o. absurd cc, (third, λ o. refl, tt)));
      file_type_first = (refl, is_file_type);
      before_header = tt;
      header_next = (refl, is_header p.width p.height (length p.planes) p.depth);
      before_code = tt;
      code_next = (refl, refl);
    }

-- a JP2 file was opened
opened_found : (file : List ℕ) (b : Boxed) → AreBytes file → boxes_at file ≡ Ok b → b.jp2 ≡ true → (p : CodePlace) × FoundJp2 file p
unfolding boxes_at
opened_found file b fits e is =
    let g = guarded (ltb (length file) 2) Truncated _ b e in
    elim (chosen (starts_with nat_eq file soc) _ _ (Ok b) g.1) [
      | inl w ↦ absurd (let d : false ≡ true = ap (λ (x : Boxed). x.jp2) (ok_is (record { start = 0; end = length file; jp2 = false }) b w.1) ∙ is in cc)
      | inr w ↦ bind_then (jp2_at file) _ b w.1 (λ p s e. (p, jp2_takes file p fits s))
    ]

pub replaced_holds : (file new text : List ℕ) (b : Boxed) → AreBytes file → boxes_at file ≡ Ok b → b.jp2 ≡ true → replaced file new ≡ Ok text → IsJp2 text new
replaced_holds file new text b fits e is due =
    let f = (opened_found file b fits e is).1 in
    recoded_holds file f.codestream new text f.is (sym (replaced_jp2 file f.codestream new f.is) ∙ due)

-- what stands before the codestream, and the codestream behind it
pub front_joined : (h codestream : List ℕ) (size : ℕ) → length codestream ≡ size
    → ((signature ++ (box_text file_type_box ++ h)) ++ code_head size) ++ codestream ≡ signature ++ (box_text file_type_box ++ (h ++ (box_text (code_box codestream) ++ [])))
unfolding box_text
front_joined h codestream size long =
    let before = signature ++ (box_text file_type_box ++ h) in
    append_assoc before (code_head size) codestream
    ∙ ap (λ n. before ++ (code_head n ++ codestream)) (sym long)
    ∙ ap (λ (x : List ℕ). signature ++ (box_text file_type_box ++ (h ++ x))) (sym (append-nil (box_text (code_box codestream))))
