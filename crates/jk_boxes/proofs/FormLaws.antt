-- The codestream box of a file that holds a codestream: its form, where it lies, and the file with other contents in it.
use Rattle.std.proofs.Common.{◌≡◌, ℕ, ◌+◌, ◌-◌, ◌≤◌, true, false, cond, inl, inr, List, ◌++◌, length, take, drop, Ok, Err, refl, sym, ap, ◌∙◌, subst, arith}
use Rattle.std.specs.Prelude.{nat_eq}
use Rattle.std.specs.List.{starts_with}
use Rattle.std.proofs.lemmas.Bool.{not-false, not-true, true≢false}
use Rattle.jk_math.specs.Steps.{ok_is}
use Rattle.jk_math.specs.declared.fault.Fault.TheVariants.{Limit}
use Rattle.jk_boxes.specs.declared.boxes.Form.{Form}
use Rattle.jk_boxes.specs.declared.boxes.Form.TheVariants.{Open}
use Rattle.jk_boxes.specs.declared.place.Boxed.{Boxed}
use Rattle.jk_boxes.specs.declared.place.CodePlace.{CodePlace}
use Rattle.jk_boxes.specs.Boxes.{HoldsAt, IsJp2, soc, jp2_place, head_size, head_text, code_kind, form_of}
use Rattle.jk_boxes.specs.Reading.{jp2_at, form_at}
use Rattle.jk_boxes.specs.Written.{fits_form, recoded}
use Rattle.jk_boxes.specs.Replacing.{replaced_at}
use Rattle.jk_boxes.proofs.FileLaws.{place_of, boxed_of, jp2_again, jp2_boxes, ends_within, place_again}
use Rattle.jk_boxes.proofs.WrittenLaws.{is_jp2, replaced_is}

form_bare : (bytes : List ℕ) → starts_with nat_eq bytes soc ≡ true → form_at bytes ≡ Ok Open
unfolding form_at
form_bare bytes e = rw e refl

form_jp2 : (bytes : List ℕ) (p : CodePlace) → starts_with nat_eq bytes soc ≡ false → jp2_at bytes ≡ Ok p → form_at bytes ≡ Ok p.form
unfolding form_at
form_jp2 bytes p e read = rw (e, read) refl

-- The form of the box that holds the codestream.
pub form_found : {bytes codestream : List ℕ} {place : Boxed} (holds : HoldsAt bytes codestream place) → form_at bytes ≡ Ok (form_of holds)
form_found {bytes} {codestream} {place} (inl bare) =
    let flag = is_jp2 bytes place (place_again bytes codestream place (inl bare)).0 in
    form_bare bytes (not-false _ (sym flag ∙ ap (λ (b : Boxed). b.jp2) bare.1))
form_found {bytes} {codestream} {place} (inr jp2) =
    let flag = is_jp2 bytes place (place_again bytes codestream place (inr jp2)).0 in
    form_jp2 bytes (place_of jp2.0) (not-true _ (sym flag ∙ ap (λ (b : Boxed). b.jp2) jp2.1)) (jp2_again bytes codestream jp2.0)

-- a place in a file of so many bytes, behind the head of its box
pub record InFile (size : ℕ) (place : Boxed) (form : Form) : Type 0 where
  pub order : place.start ≤ place.end
  pub within : place.end ≤ size
  pub box : place.jp2 ≡ true → head_size form ≤ place.start

-- where the place of a JP2 file is
there : (bytes codestream : List ℕ) (place : Boxed) (j : IsJp2 bytes codestream) → place ≡ jp2_place j → boxed_of (place_of j) ≡ place
there bytes codestream place j e = ok_is (boxed_of (place_of j)) place (sym (jp2_boxes bytes codestream j) ∙ (place_again bytes codestream place (inr (j, e))).0)

pub in_file : {bytes codestream : List ℕ} {place : Boxed} (holds : HoldsAt bytes codestream place) → InFile (length bytes) place (form_of holds)
in_file {bytes} {codestream} {place} (inl bare) =
    subst (λ (b : Boxed). InFile (length bytes) b (form_of (inl bare))) (sym bare.1) (record { order = omega arith; within = omega arith; box = λ e. absurd (true≢false (sym e)) })
in_file {bytes} {codestream} {place} (inr jp2) =
    let j = jp2.0 in
    let within = ends_within bytes codestream j in
    subst (λ (b : Boxed). InFile (length bytes) b j.code.form) (there bytes codestream place j jp2.1) (record { order = omega arith; within = within; box = λ e. omega arith })

replaced_by : (p : CodePlace) (bytes new : List ℕ)
    → replaced_at p bytes new
    ≡ cond (fits_form p.form (head_size p.form + length new)) (Ok (take (p.start - head_size p.form) bytes ++ (head_text p.form code_kind (head_size p.form + length new) ++ (new ++ drop p.end bytes)))) (Err Limit)
unfolding replaced_at
replaced_by p bytes new = refl

-- A file with other contents of its codestream box, by the place of the box and its form.
pub recoded_there : {bytes codestream : List ℕ} {place : Boxed} (j : IsJp2 bytes codestream) (new : List ℕ) → place ≡ jp2_place j
    → recoded j new
    ≡ cond (fits_form j.code.form (head_size j.code.form + length new))
    (Ok (take (place.start - head_size j.code.form) bytes ++ (head_text j.code.form code_kind (head_size j.code.form + length new) ++ (new ++ drop place.end bytes)))) (Err Limit)
recoded_there {bytes} {codestream} {place} j new e =
    let f = j.code.form in
    let n = head_size f + length new in
    let at : boxed_of (place_of j) ≡ place = there bytes codestream place j e in
    sym (replaced_is bytes codestream new j) ∙ replaced_by (place_of j) bytes new
    ∙ ap (λ (b : Boxed). cond (fits_form f n) (Ok (take (b.start - head_size f) bytes ++ (head_text f code_kind n ++ (new ++ drop b.end bytes)))) (Err Limit)) at
