-- A whole file: what is opened holds its codestream there, and what holds a codestream is opened there.
use Rattle.std.proofs.Common.{◌≡◌, ℕ, ◌+◌, ◌-◌, ◌≤◌, true, false, ◌&&◌, ltb, nat_eq, List, [], ◌∷◌, ◌++◌, length, take, drop, slice_range, Ok, refl, sym, ap, subst, ◌∙◌, append_assoc, arith, inl, inr}
use Rattle.std.specs.List.{starts_with}
use Rattle.std.proofs.lemmas.Grind.{flat_map-append}
use Rattle.std.proofs.lemmas.Slice.Eq.{starts_is}
use Rattle.std.proofs.lemmas.Bool.{le-ltb}
use Rattle.std.proofs.lemmas.Bool.Decides.{Decides-eqb}
use Rattle.std.proofs.lemmas.List.{take_at, drop_at, take_all, length-append, length-drop, drop-drop}
use Rattle.jk_math.specs.Steps.{bind_then, guarded, chosen, ok_is}
use Rattle.jk_math.specs.declared.fault.Fault.TheVariants.{Truncated}
use Rattle.jk_boxes.specs.declared.place.CodePlace.{CodePlace}
use Rattle.jk_boxes.specs.declared.place.Boxed.{Boxed}
use Rattle.jk_boxes.specs.Boxes.{Box, head_size, head_text, box_size, box_text, boxes_text, is_open, signature, soc, IsJp2, IsBare, HoldsCodestream, HoldsAt, bare_place, jp2_place, text_before}
use Rattle.jk_boxes.specs.Reading.{signature_at, file_type_at, jp2_at, boxes_at}
use Rattle.jk_math.proofs.Laws.{AreBytes, are_bytes_after}
use Rattle.jk_boxes.proofs.Heads.{head_length, box_length}
use Rattle.jk_boxes.proofs.FileTypeLaws.{file_type_takes, file_type_again}
use Rattle.jk_boxes.proofs.WalkLaws.{place_at, text_length, no_boxes, start_takes, start_again}

-- the boxes behind the file type box
abbrev pub behind : {bytes codestream : List ℕ} → IsJp2 bytes codestream → List Box
behind j = j.early ++ (j.header ∷ (j.middle ++ (j.code ∷ j.after)))

-- what stands before the codestream box
abbrev pub front : {bytes codestream : List ℕ} → IsJp2 bytes codestream → List ℕ
front j = signature ++ (box_text j.file_type ++ (boxes_text j.early ++ (box_text j.header ++ boxes_text j.middle)))

-- the place of the codestream
abbrev pub place_of : {bytes codestream : List ℕ} → IsJp2 bytes codestream → CodePlace
place_of j = place_at (((12 + box_size j.file_type) + length (boxes_text j.early)) + (box_size j.header + length (boxes_text j.middle))) j.code

begins : (text bytes : List ℕ) → starts_with nat_eq bytes text ≡ true → bytes ≡ text ++ drop (length text) bytes
begins text bytes e = (starts_is Decides-eqb bytes text (starts_with nat_eq bytes text) refl).0 e

begins_again : (text rest : List ℕ) → starts_with nat_eq (text ++ rest) text ≡ true
begins_again text rest = (starts_is Decides-eqb (text ++ rest) text (starts_with nat_eq (text ++ rest) text) refl).1 rest refl

signature_takes : (bytes : List ℕ) → signature_at bytes ≡ Ok tt → bytes ≡ signature ++ drop 12 bytes
unfolding signature_at
signature_takes bytes e =
    elim (chosen (starts_with nat_eq bytes signature) _ _ (Ok tt) e) [
      | inl w ↦ begins signature bytes w.0
      | inr w ↦ elim (chosen (ltb (length bytes) 12 && starts_with nat_eq signature bytes) _ _ (Ok tt) w.1) [
        | inl v ↦ absurd (let d = v.1 in cc)
        | inr v ↦ absurd (let d = v.1 in cc)
      ]
    ]

signature_met : (bytes : List ℕ) → starts_with nat_eq bytes signature ≡ true → signature_at bytes ≡ Ok tt
unfolding signature_at
signature_met bytes e = rw e refl

signature_again : (rest : List ℕ) → signature_at (signature ++ rest) ≡ Ok tt
signature_again rest = signature_met (signature ++ rest) (begins_again signature rest)

pub record FoundJp2 (bytes : List ℕ) (p : CodePlace) : Type 0 where
  pub codestream : List ℕ
  pub is : IsJp2 bytes codestream
  pub place : p ≡ place_of is

pub jp2_takes : (bytes : List ℕ) (p : CodePlace) → AreBytes bytes → jp2_at bytes ≡ Ok p → FoundJp2 bytes p
unfolding jp2_at
jp2_takes bytes p fits e =
    bind_then (signature_at bytes) _ p e (λ u s e.
    bind_then (file_type_at (drop 12 bytes)) _ p e (λ size f e.
    let sign = signature_takes bytes s in
    let t = file_type_takes (drop 12 bytes) size (are_bytes_after 12 bytes fits) f in
    let rest = drop (12 + size) bytes in
    let w = start_takes (length bytes) p (12 + size) rest (omega (arith, length-drop (12 + size) bytes)) (are_bytes_after (12 + size) bytes fits) e in
    let next : drop size (drop 12 bytes) ≡ rest = drop-drop size 12 bytes in
    let tail = w.early ++ (w.header ∷ (w.middle ++ (w.code ∷ w.after))) in
    let text : drop 12 bytes ≡ box_text t.box ++ boxes_text tail = t.text ∙ ap (λ (x : List ℕ). box_text t.box ++ x) (next ∙ w.text) in
    let last : is_open t.box.form ≡ true → tail ≡ [] = λ o. no_boxes tail (sym w.text ∙ sym next ∙ t.last o) in
    let j : IsJp2 bytes w.code.contents = record {
      file_type = t.box;
      early = w.early;
      header = w.header;
      middle = w.middle;
      code = w.code;
      after = w.after;
      text = sign ∙ ap (λ (x : List ℕ). signature ++ x) text;
      boxes = (t.is, last, w.boxes);
      file_type_first = (t.kind, t.file_type);
      before_header = w.before_header;
      header_next = w.header_next;
      before_code = w.before_code;
      code_next = (w.kind, refl);
    } in
    let k = box_size w.header + length (boxes_text w.middle) in
    let place-is : p ≡ place_of j = w.place ∙ ap (λ n. place_at (((12 + n) + length (boxes_text w.early)) + k) w.code) (sym t.size_is) in
    let r : FoundJp2 bytes p = record { codestream = w.code.contents; is = j; place = place-is } in
    r
    ))

pub jp2_again : (bytes codestream : List ℕ) (j : IsJp2 bytes codestream) → jp2_at bytes ≡ Ok (place_of j)
unfolding jp2_at
jp2_again bytes codestream j =
    let tail = behind j in
    let after = boxes_text tail in
    let file = signature ++ (box_text j.file_type ++ after) in
    let size = box_size j.file_type in
    let sign = signature_again (box_text j.file_type ++ after) in
    let are = j.boxes in
    let read = file_type_again j.file_type after are.0 (λ o. ap boxes_text (are.1 o)) j.file_type_first.0 j.file_type_first.1 in
    let rest : drop (12 + size) file ≡ after = sym (drop-drop size 12 file) ∙ drop_at (box_text j.file_type) after size (box_length j.file_type) in
    let enough : length after ≤ length file = omega (arith, text_length j.file_type after) in
    let walk = start_again j.early j.header j.middle j.code j.after (length file) (12 + size) are.2 enough j.before_header j.header_next.0 j.header_next.1 j.before_code j.code_next.0 in
    ap jp2_at j.text ∙ rw (sign, read, rest) walk

-- a file in three parts
pub split_boxes : (file_type : Box) (early : List Box) (header : Box) (middle : List Box) (code : Box) (after : List Box)
    → signature ++ boxes_text (file_type ∷ (early ++ (header ∷ (middle ++ (code ∷ after)))))
    ≡ (signature ++ (box_text file_type ++ (boxes_text early ++ (box_text header ++ boxes_text middle)))) ++ (box_text code ++ boxes_text after)
split_boxes file_type early header middle code after =
    let last = box_text code ++ boxes_text after in
    let m = boxes_text middle in
    let h = box_text header in
    let e = boxes_text early in
    let t = box_text file_type in
    let inner : boxes_text (middle ++ (code ∷ after)) ≡ m ++ last = flat_map-append box_text middle (code ∷ after) in
    let all : boxes_text (early ++ (header ∷ (middle ++ (code ∷ after)))) ≡ e ++ (h ++ (m ++ last)) =
    flat_map-append box_text early (header ∷ (middle ++ (code ∷ after))) ∙ ap (λ (x : List ℕ). e ++ (h ++ x)) inner in
    let joined : t ++ (e ++ (h ++ (m ++ last))) ≡ (t ++ (e ++ (h ++ m))) ++ last = simp append_assoc in
    ap (λ (x : List ℕ). signature ++ (t ++ x)) all ∙ ap (λ (x : List ℕ). signature ++ x) joined

pub split_text : (bytes codestream : List ℕ) (j : IsJp2 bytes codestream) → bytes ≡ front j ++ (box_text j.code ++ boxes_text j.after)
split_text bytes codestream j = j.text ∙ split_boxes j.file_type j.early j.header j.middle j.code j.after

pub front_length : (bytes codestream : List ℕ) (j : IsJp2 bytes codestream) → length (front j) ≡ ((12 + box_size j.file_type) + length (boxes_text j.early)) + (box_size j.header + length (boxes_text j.middle))
front_length bytes codestream j =
    let m = boxes_text j.middle in
    let e = boxes_text j.early in
    omega (arith, text_length j.file_type (e ++ (box_text j.header ++ m)), length-append e (box_text j.header ++ m), text_length j.header m)

-- the bytes from the place of the codestream to its end
pub codestream_is : (bytes codestream : List ℕ) (j : IsJp2 bytes codestream) → slice_range bytes (place_of j).start (place_of j).end ≡ codestream
unfolding box_text
codestream_is bytes codestream j =
    let k = length (front j) in
    let code = j.code in
    let n = head_size code.form in
    let head = head_text code.form code.kind (box_size code) in
    let a = boxes_text j.after in
    let len = front_length bytes codestream j in
    let start : (place_of j).start ≡ k + n = omega (arith, len) in
    let wide : (place_of j).end - (place_of j).start ≡ length code.contents = omega arith in
    let spelled : bytes ≡ (front j ++ head) ++ (code.contents ++ a) =
    split_text bytes codestream j ∙ ap (λ (x : List ℕ). front j ++ x) (append_assoc head code.contents a) ∙ sym (append_assoc (front j) head (code.contents ++ a)) in
    let before : length (front j ++ head) ≡ k + n = length-append (front j) head ∙ ap (λ m. k + m) (head_length code.form code.kind (box_size code)) in
    let rest : drop (place_of j).start bytes ≡ code.contents ++ a = ap (λ m. drop m bytes) start ∙ ap (drop (k + n)) spelled ∙ drop_at (front j ++ head) (code.contents ++ a) (k + n) before in
    ap (take ((place_of j).end - (place_of j).start)) rest ∙ ap (λ m. take m (code.contents ++ a)) wide ∙ take_at code.contents a (length code.contents) refl ∙ j.code_next.1

pub ends_within : (bytes codestream : List ℕ) (j : IsJp2 bytes codestream) → (place_of j).end ≤ length bytes
ends_within bytes codestream j =
    let a = boxes_text j.after in
    omega (arith, front_length bytes codestream j, ap (λ (x : List ℕ). length x) (split_text bytes codestream j), length-append (front j) (box_text j.code ++ a), text_length j.code a)

abbrev pub boxed_of : CodePlace → Boxed
boxed_of p = record { start = p.start; end = p.end; jp2 = true }

-- the place by what stands before the codestream box is the place by the walk
before_is : (bytes codestream : List ℕ) (j : IsJp2 bytes codestream) → text_before j ≡ front j
before_is bytes codestream j = ap (λ (x : List ℕ). signature ++ (box_text j.file_type ++ x)) (flat_map-append box_text j.early (j.header ∷ j.middle))

walked_place : (bytes codestream : List ℕ) (j : IsJp2 bytes codestream) → boxed_of (place_of j) ≡ jp2_place j
walked_place bytes codestream j =
    let n = ap (λ (x : List ℕ). length x) (before_is bytes codestream j) ∙ front_length bytes codestream j in
    ap (λ k. record { start = k + head_size j.code.form; end = k + box_size j.code; jp2 = true }) (sym n)

-- what is opened
pub record Opened (bytes : List ℕ) (b : Boxed) : Type 0 where
  pub holds : HoldsCodestream bytes (slice_range bytes b.start b.end)
  pub at : HoldsAt bytes (slice_range bytes b.start b.end) b
  pub order : b.start ≤ b.end
  pub within : b.end ≤ length bytes

opened_jp2 : (bytes : List ℕ) (p : CodePlace) → FoundJp2 bytes p → Opened bytes (boxed_of p)
opened_jp2 bytes p f =
    let q = place_of f.is in
    let j = subst (λ (c : List ℕ). IsJp2 bytes c) (sym (codestream_is bytes f.codestream f.is)) f.is in
    let at : HoldsAt bytes f.codestream (boxed_of q) = inr (f.is, walked_place bytes f.codestream f.is) in
    let here : Opened bytes (boxed_of q) = record {
      holds = inr j;
      at = subst (λ (c : List ℕ). HoldsAt bytes c (boxed_of q)) (sym (codestream_is bytes f.codestream f.is)) at;
      order = omega arith;
      within = ends_within bytes f.codestream f.is;
    } in
    subst (λ (x : CodePlace). Opened bytes (boxed_of x)) (sym f.place) here

opened_bare : (bytes : List ℕ) → starts_with nat_eq bytes soc ≡ true → Opened bytes (bare_place bytes)
opened_bare bytes e =
    let whole : take (length bytes - 0) bytes ≡ bytes = take_all (length bytes - 0) bytes (omega arith) in
    let bare : IsBare bytes (take (length bytes - 0) bytes) = record { others = drop 2 bytes; text = begins soc bytes e; whole = whole } in
    record { holds = inl bare; at = inl (bare, refl); order = omega arith; within = omega arith }

pub boxes_take : (bytes : List ℕ) (b : Boxed) → AreBytes bytes → boxes_at bytes ≡ Ok b → Opened bytes b
unfolding boxes_at
boxes_take bytes b fits e =
    let g = guarded (ltb (length bytes) 2) Truncated _ b e in
    elim (chosen (starts_with nat_eq bytes soc) _ _ (Ok b) g.1) [
      | inl w ↦
          subst (λ (x : Boxed). Opened bytes x) (ok_is (bare_place bytes) b w.1) (opened_bare bytes w.0)
      | inr w ↦
          bind_then (jp2_at bytes) _ b w.1 (λ p s e.
          subst (λ (x : Boxed). Opened bytes x) (ok_is (boxed_of p) b e) (opened_jp2 bytes p (jp2_takes bytes p fits s)))
    ]

-- a place of the codestream
pub record OpensAt (bytes codestream : List ℕ) : Type 0 where
  pub boxed : Boxed
  pub due : boxes_at bytes ≡ Ok boxed
  pub here : codestream ≡ slice_range bytes boxed.start boxed.end

bare_boxes : (bytes codestream : List ℕ) → IsBare bytes codestream → boxes_at bytes ≡ Ok (bare_place bytes)
unfolding boxes_at
bare_boxes bytes codestream is =
    let long : ltb (length bytes) 2 ≡ false = le-ltb _ _ (omega (arith, ap (λ (x : List ℕ). length x) is.text)) in
    let first : starts_with nat_eq bytes soc ≡ true = ap (λ (x : List ℕ). starts_with nat_eq x soc) is.text ∙ begins_again soc is.others in
    rw (long, first) refl

bare_whole : (bytes codestream : List ℕ) → IsBare bytes codestream → codestream ≡ slice_range bytes 0 (length bytes)
bare_whole bytes codestream is = is.whole ∙ sym (take_all (length bytes - 0) bytes (omega arith))

pub other_start : (rest : List ℕ) → starts_with nat_eq (signature ++ rest) soc ≡ false
other_start rest = refl

pub jp2_boxes : (bytes codestream : List ℕ) (j : IsJp2 bytes codestream) → boxes_at bytes ≡ Ok (boxed_of (place_of j))
unfolding boxes_at
jp2_boxes bytes codestream j =
    let rest = boxes_text (j.file_type ∷ behind j) in
    let long : ltb (length bytes) 2 ≡ false = le-ltb _ _ (omega (arith, ap (λ (x : List ℕ). length x) j.text)) in
    let first : starts_with nat_eq bytes soc ≡ false = ap (λ (x : List ℕ). starts_with nat_eq x soc) j.text ∙ other_start rest in
    rw (long, first, jp2_again bytes codestream j) refl

pub boxes_again : (bytes codestream : List ℕ) → HoldsCodestream bytes codestream → OpensAt bytes codestream
boxes_again bytes codestream h = elim h [
  | inl bare ↦ record { boxed = bare_place bytes; due = bare_boxes bytes codestream bare; here = bare_whole bytes codestream bare }
  | inr j ↦ record { boxed = boxed_of (place_of j); due = jp2_boxes bytes codestream j; here = sym (codestream_is bytes codestream j) }
]

-- what is held at a place is opened there
pub place_again : (bytes codestream : List ℕ) (b : Boxed) → HoldsAt bytes codestream b → (boxes_at bytes ≡ Ok b) × (codestream ≡ slice_range bytes b.start b.end)
place_again bytes codestream b (inl h) =
    subst (λ (x : Boxed). (boxes_at bytes ≡ Ok x) × (codestream ≡ slice_range bytes x.start x.end)) (sym h.1) (bare_boxes bytes codestream h.0, bare_whole bytes codestream h.0)
place_again bytes codestream b (inr h) =
    let j = h.0 in
    subst (λ (x : Boxed). (boxes_at bytes ≡ Ok x) × (codestream ≡ slice_range bytes x.start x.end)) (walked_place bytes codestream j ∙ sym h.1)
    (jp2_boxes bytes codestream j, sym (codestream_is bytes codestream j))
