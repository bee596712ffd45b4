-- A JP2 file with extras is a JP2 file, with the same codestream elsewhere.
use Rattle.std.proofs.Common.{lit<, ◌≡◌, ℕ, ◌+◌, ◌^◌, ◌<◌, ◌≤◌, ◌≢◌, Bool, true, false, not, cond, List, [], ◌∷◌, ◌++◌, length, map, Result, Ok, Err, refl, sym, ap, subst, ◌∙◌, append_assoc, arith}
use Rattle.std.specs.List.{AllByRecursion, filter}
use Rattle.std.proofs.lemmas.Bool.{eqb-false, ltb-true}
use Rattle.std.proofs.lemmas.List.{length-append}
use Rattle.std.proofs.lemmas.List.Concat.{flat_map-append}
use Rattle.jk_math.specs.Steps.{guard_ended}
use Rattle.jk_math.specs.declared.fault.Fault.{Fault}
use Rattle.jk_math.specs.declared.fault.Fault.TheVariants.{BadParameters, Limit}
use Rattle.jk_boxes.specs.declared.boxes.Form.{Form}
use Rattle.jk_boxes.specs.declared.boxes.Form.TheVariants.{Short, Long, Open}
use Rattle.jk_boxes.specs.Boxes.{Box, FitsForm, IsBox, AreBoxes, IsInner, IsHeaderBox, IsJp2, box_text, boxes_text, box_size, is_open, signature, text_before, code_kind, palette_kind, colour_kind}
use Rattle.jk_boxes.specs.Written.{fits_form, colour_box}
use Rattle.jk_extras.specs.declared.values.Colour.{Colour}
use Rattle.jk_extras.specs.declared.values.Colour.TheVariants.{AsItIs, Enumerated, Profile}
use Rattle.jk_extras.specs.declared.values.Other.{Other}
use Rattle.jk_extras.specs.declared.values.Other.TheVariants.{Xml, Uuid}
use Rattle.jk_extras.specs.declared.values.Extras.{Extras}
use Rattle.jk_extras.specs.Finding.{xml_kind, uuid_kind}
use Rattle.jk_extras.specs.Header.{resolution_kind}
use Rattle.jk_extras.specs.Extras.{is_extras, goes, has_grids, short_box, profile_box, colour_boxes, resolution_box, resolution_boxes, others_boxes, other_box}
use Rattle.jk_extras.specs.Dressed.{components_of, header_boxes, dressed_header, dressed, IsDressed}
use Rattle.jk_extras.proofs.Sizes.{text_size, others_size, extras_low}
use Rattle.jk_extras.proofs.Dressings.{boxes_behind}

-- what holds of all of two lists
pub all_append : (P : Box → Type 0) (xs ys : List Box) → AllByRecursion P xs → AllByRecursion P ys → AllByRecursion P (xs ++ ys)
all_append P [] ys a b = b
all_append P (x ∷ xs) ys a b = (a.0, all_append P xs ys a.1 b)

pub all_filter : (P : Box → Type 0) (p : Box → Bool) (xs : List Box) → AllByRecursion P xs → AllByRecursion P (filter p xs)
all_filter P p [] a = tt
all_filter P p (x ∷ xs) a = all_cons P (p x) x (filter p xs) a.0 (all_filter P p xs a.1)
  where
    all_cons : (P : Box → Type 0) (b : Bool) (x : Box) (xs : List Box) → P x → AllByRecursion P xs → AllByRecursion P (cond b (x ∷ xs) xs)
    all_cons P true x xs h a = (h, a)
    all_cons P false x xs h a = a

inner : (kind : ℕ) (contents : List ℕ) → kind < 2 ^ 32 → kind ≢ palette_kind → length (boxes_text (short_box kind contents ∷ [])) ≤ 2 ^ 24 → IsInner palette_kind (short_box kind contents)
inner kind contents low other size =
    record { box = record { kind = low; size = omega (arith, text_size (short_box kind contents) []) }; closed = refl; other = other }

colour_inner : (n : ℕ) (c : Colour) → length (boxes_text (colour_boxes n c)) ≤ 2 ^ 24 → AllByRecursion (IsInner palette_kind) (colour_boxes n c)
colour_inner n AsItIs size = tt
colour_inner n Enumerated size = (inner colour_kind (colour_box n).contents (lit< tt) (eqb-false colour_kind palette_kind refl) size, tt)
colour_inner n (Profile p) size = (inner colour_kind (profile_box p.items).contents (lit< tt) (eqb-false colour_kind palette_kind refl) size, tt)

resolution_inner : (e : Extras) (b : Bool) → length (boxes_text (cond b (resolution_box e ∷ []) [])) ≤ 2 ^ 24 → AllByRecursion (IsInner palette_kind) (cond b (resolution_box e ∷ []) [])
resolution_inner e true size = (inner resolution_kind (resolution_box e).contents (lit< tt) (eqb-false resolution_kind palette_kind refl) size, tt)
resolution_inner e false size = tt

-- boxes that end by their own length, and aren't the codestream's
pub record IsGiven (b : Box) : Type 0 where
  pub box : IsBox b
  pub closed : is_open b.form ≡ false
  pub other : b.kind ≢ code_kind

given : (kind : ℕ) (contents : List ℕ) → kind < 2 ^ 32 → kind ≢ code_kind → box_size (short_box kind contents) < 2 ^ 32 → IsGiven (short_box kind contents)
given kind contents low other size = record { box = record { kind = low; size = size }; closed = refl; other = other }

other_given : (o : Other) → box_size (other_box o) < 2 ^ 32 → IsGiven (other_box o)
other_given (Xml x) size = given xml_kind x.items (lit< tt) (eqb-false xml_kind code_kind refl) size
other_given (Uuid id x) size = given uuid_kind (id ++ x.items) (lit< tt) (eqb-false uuid_kind code_kind refl) size

pub others_given : (os : List Other) → others_size os < 2 ^ 32 → AllByRecursion IsGiven (map other_box os)
others_given [] size = tt
others_given (o ∷ os) size =
    let t = text_size (other_box o) (map other_box os) in
    (other_given o (omega arith), others_given os (omega arith))

no_code : (bs : List Box) → AllByRecursion IsGiven bs → AllByRecursion (λ (b : Box). b.kind ≢ code_kind) bs
no_code [] a = tt
no_code (b ∷ bs) a = (a.0.other, no_code bs a.1)

-- boxes before others
pub given_before : (xs ys : List Box) → AllByRecursion IsGiven xs → AreBoxes ys → AreBoxes (xs ++ ys)
given_before [] ys a are = are
given_before (x ∷ xs) ys a are = let c = a.0.closed in (a.0.box, λ o. absurd cc, given_before xs ys a.1 are)

pub some_end : (xs : List Box) (y : Box) (ys : List Box) → xs ++ (y ∷ ys) ≡ [] → ⊥
some_end [] y ys e = absurd cc
some_end (x ∷ xs) y ys e = absurd cc

pub front_kept : (xs : List Box) (y : Box) (ys zs : List Box) → AreBoxes (xs ++ (y ∷ ys)) → AreBoxes zs → AreBoxes (xs ++ zs)
front_kept [] y ys zs are new = new
front_kept (x ∷ xs) y ys zs are new = (are.0, λ o. absurd (some_end xs y ys (are.1 o)), front_kept xs y ys zs are.2 new)

pub fits_from : (f : Form) (size : ℕ) → fits_form f size ≡ true → FitsForm f size
fits_from Short size e = ltb-true _ _ e
fits_from Long size e = ltb-true _ _ e
fits_from Open size e = tt

pub guard_ended_in : {A : Type 0} (b : Bool) (d : Fault) (r : Result A Fault) (y : A) → cond b r (Err d) ≡ Ok y → (b ≡ true) × (r ≡ Ok y)
guard_ended_in true d r y e = (refl, e)
guard_ended_in false d r y e = absurd cc

-- how long a file is
file_size : (bytes codestream : List ℕ) (j : IsJp2 bytes codestream) → length bytes ≡ length (text_before j) + length (boxes_text (j.code ∷ j.after))
file_size bytes codestream j =
    let last = j.code ∷ j.after in
    let before = j.file_type ∷ (j.early ++ (j.header ∷ j.middle)) in
    let joined : j.file_type ∷ (j.early ++ (j.header ∷ (j.middle ++ last))) ≡ before ++ last = ap (λ (x : List Box). j.file_type ∷ x) (sym (append_assoc j.early (j.header ∷ j.middle) last)) in
    let text : bytes ≡ signature ++ (boxes_text before ++ boxes_text last) =
    j.text ∙ ap (λ (x : List Box). signature ++ boxes_text x) joined ∙ ap (λ (x : List ℕ). signature ++ x) (flat_map-append box_text before last) in
    let whole : bytes ≡ (signature ++ boxes_text before) ++ boxes_text last = text ∙ sym (append_assoc signature (boxes_text before) (boxes_text last)) in
    ap (λ (x : List ℕ). length x) whole ∙ length-append (signature ++ boxes_text before) (boxes_text last)

-- the boxes from the codestream box on
pub last_boxes : (file codestream : List ℕ) (j : IsJp2 file codestream) → AreBoxes (j.code ∷ j.after)
last_boxes file codestream j =
    let last = j.code ∷ j.after in
    boxes_behind j.middle last (boxes_behind (j.file_type ∷ j.early) (j.header ∷ (j.middle ++ last)) j.boxes).2

-- what is written, where it is
pub written_text : (file codestream : List ℕ) (j : IsJp2 file codestream) (e : Extras) (text : List ℕ) → dressed j e ≡ Ok text
    → (is_extras (components_of j.header_next.1.image) e ≡ true) × (text ≡ signature ++ boxes_text (j.file_type ∷ (j.early ++ (dressed_header j e ∷ (j.middle ++ (others_boxes e ++ (j.code ∷ j.after)))))))
unfolding dressed
written_text file codestream j e text due =
    let a = guard_ended_in (is_extras (components_of j.header_next.1.image) e) BadParameters _ text due in
    let b = guard_ended (fits_form (dressed_header j e).form (box_size (dressed_header j e))) Limit _ text a.1 in
    (a.0, sym b.1)

module _ (file codestream : List ℕ) (j : IsJp2 file codestream) (e : Extras) where
  is_header : is_extras (components_of j.header_next.1.image) e ≡ true → IsHeaderBox (dressed_header j e).contents
  is_header is =
      let h = j.header_next.1 in
      let n = components_of h.image in
      let low = extras_low n e is in
      let kept = filter (λ (b : Box). not (goes e b.kind)) h.others in
      record {
        image = h.image;
        others = header_boxes n e h.others;
        text = refl;
        size = h.size;
        compression = h.compression;
        plain = all_append (IsInner palette_kind) (colour_boxes n e.colour) (kept ++ resolution_boxes e) (colour_inner n e.colour low.colour)
            (all_append (IsInner palette_kind) kept (resolution_boxes e) (all_filter (IsInner palette_kind) (λ (b : Box). not (goes e b.kind)) h.others h.plain) (resolution_inner e (has_grids e) low.resolution));
      }

  abbrev new_boxes : List Box
  new_boxes = j.file_type ∷ (j.early ++ (dressed_header j e ∷ ((j.middle ++ others_boxes e) ++ (j.code ∷ j.after))))

  are_new : is_extras (components_of j.header_next.1.image) e ≡ true → fits_form (dressed_header j e).form (box_size (dressed_header j e)) ≡ true → AreBoxes new_boxes
  are_new is fits =
      let low = extras_low (components_of j.header_next.1.image) e is in
      let last = j.code ∷ j.after in
      let here = boxes_behind (j.file_type ∷ j.early) (j.header ∷ (j.middle ++ last)) j.boxes in
      let end = boxes_behind j.middle last here.2 in
      let others = given_before (others_boxes e) last (others_given e.others.items (omega (arith, low.others))) end in
      let behind : AreBoxes ((j.middle ++ others_boxes e) ++ last) = subst AreBoxes (sym (append_assoc j.middle (others_boxes e) last)) (front_kept j.middle j.code j.after (others_boxes e ++ last) here.2 others) in
      let header : IsBox (dressed_header j e) = record { kind = here.0.kind; size = fits_from j.header.form (box_size (dressed_header j e)) fits } in
      let no_end : is_open j.header.form ≡ true → (j.middle ++ others_boxes e) ++ last ≡ [] = λ o. absurd (some_end j.middle j.code j.after (here.1 o)) in
      front_kept (j.file_type ∷ j.early) j.header (j.middle ++ last) (dressed_header j e ∷ ((j.middle ++ others_boxes e) ++ last)) j.boxes (header, no_end, behind)

  pub dressed_is : (text : List ℕ) → dressed j e ≡ Ok text → IsDressed j e text
  unfolding dressed is_header
  dressed_is text due =
      let h = dressed_header j e in
      let a = guard_ended_in (is_extras (components_of j.header_next.1.image) e) BadParameters _ text due in
      let b = guard_ended (fits_form h.form (box_size h)) Limit _ text a.1 in
      let last = j.code ∷ j.after in
      let spelled : text ≡ signature ++ boxes_text new_boxes =
      sym b.1 ∙ ap (λ (x : List Box). signature ++ boxes_text (j.file_type ∷ (j.early ++ (h ∷ x)))) (sym (append_assoc j.middle (others_boxes e) last)) in
      let low = extras_low (components_of j.header_next.1.image) e a.0 in
      let k : IsJp2 text codestream = record {
        file_type = j.file_type;
        early = j.early;
        header = h;
        middle = j.middle ++ others_boxes e;
        code = j.code;
        after = j.after;
        text = spelled;
        boxes = are_new a.0 b.0;
        file_type_first = j.file_type_first;
        before_header = j.before_header;
        header_next = (j.header_next.0, is_header a.0);
        before_code = all_append (λ (b : Box). b.kind ≢ code_kind) j.middle (others_boxes e) j.before_code (no_code (others_boxes e) (others_given e.others.items (omega (arith, low.others))));
        code_next = j.code_next;
      } in
      let old = file_size file codestream j in
      let new = file_size text codestream k in
      record {
        is = k;
        file_type = refl;
        early = refl;
        header = refl;
        header_boxes_are = refl;
        middle = refl;
        code = refl;
        after = refl;
        start = omega (arith, old, new);
        end = omega (arith, old, new);
      }
