-- A JP2 file holds the codestream that stands in its last box.
use Rattle.std.proofs.Common.{◌≡◌, ℕ, ◌+◌, ◌-◌, ◌≤◌, Bool, true, false, cond, List, [], ◌++◌, length, take, drop, Ok, Err, inl, inr, refl, sym, ap, ◌∙◌, subst, arith, append-nil}
use Rattle.std.proofs.lemmas.List.{take-append-drop, drop-drop, drop_all, length-drop, length-take-le, take-take}
use Rattle.std.specs.Prelude.{slice_range, not}
use Rattle.std.proofs.lemmas.Bool.{true≢false}
use Rattle.jk_math.specs.Steps.{done, ok_is}
use Rattle.jk_stored.proofs.Held.{front_part}
use Rattle.jk_math.specs.declared.fault.Fault.TheVariants.{Limit}
use Rattle.jk_boxes.specs.declared.boxes.Form.{Form}
use Rattle.jk_boxes.specs.declared.place.Boxed.{Boxed}
use Rattle.jk_boxes.specs.Boxes.{soc, IsBare, IsJp2, HoldsAt, form_of, jp2_place, head_size, head_text, code_kind}
use Rattle.jk_boxes.specs.Written.{fits_form}
use Rattle.jk_boxes.proofs.Laws.{recoded_there, recoded_holds}
use Rattle.jk_walk.specs.TilePackets.{slice_of}

-- a file is what it begins with, and the rest
cut_two : (f : List ℕ) (a b : ℕ) → a ≤ b → take a f ++ (slice_of f (a, b) ++ drop b f) ≡ f
cut_two f a b le =
    ap (λ (xs : List ℕ). take a f ++ (slice_of f (a, b) ++ xs)) (ap (λ k. drop k f) (let e : b ≡ a + (b - a) = omega (arith, le) in e) ∙ sym (drop-drop (b - a) a f))
    ∙ ap (λ (xs : List ℕ). take a f ++ xs) (take-append-drop (b - a) (drop a f))
    ∙ take-append-drop a f

recoded_by : (form : Form) (before kept : List ℕ) (n : ℕ) (c last : List ℕ) (fits : Bool) → fits ≡ true → last ≡ [] → cond fits (Ok (before ++ (head_text form code_kind n ++ (c ++ last)))) (Err Limit) ≡ Ok (before ++ (head_text form code_kind n ++ c))
recoded_by form before kept n c last fits is none =
    ap (λ (b : Bool). cond b (Ok (before ++ (head_text form code_kind n ++ (c ++ last)))) (Err Limit)) is
    ∙ ap (λ (xs : List ℕ). Ok (before ++ (head_text form code_kind n ++ xs))) (ap (λ (xs : List ℕ). c ++ xs) none ∙ append-nil c)

pub jp2_holds : (f small old : List ℕ) (place : Boxed) (j : IsJp2 small old) (form : Form) (at size : ℕ) → place ≡ jp2_place j → j.code.form ≡ form → place.start ≡ at + head_size form → place.end ≡ length small → take at small ≡ take at f
    → slice_of f (at, at + head_size form) ≡ head_text form code_kind (size - at) → fits_form form (size - at) ≡ true → at + head_size form ≤ size → length f ≡ size → IsJp2 f (drop (at + head_size form) f)
jp2_holds f small old place j form at size own same start end front head fits within long =
    let n = head_size form in
    let c = drop (at + n) f in
    let left = length-drop (at + n) f in
    let whole : n + length c ≡ size - at = omega (arith, left, long, within) in
    let none : drop place.end small ≡ [] = drop_all place.end small (omega (arith, end)) in
    let before : place.start - n ≡ at = omega (arith, start) in
    recoded_holds small old c f j
    (recoded_there j c own
    ∙ (λ i. cond (fits_form (same i) (head_size (same i) + length c)) (Ok (take (place.start - head_size (same i)) small ++ (head_text (same i) code_kind (head_size (same i) + length c) ++ (c ++ drop place.end small)))) (Err Limit))
    ∙ recoded_by form (take (place.start - n) small) small (n + length c) c (drop place.end small) (fits_form form (n + length c)) (ap (fits_form form) whole ∙ fits) none
    ∙ (λ i. Ok (take (before i) small ++ (head_text form code_kind (whole i) ++ c)))
    ∙ (λ i. Ok (front i ++ (sym head i ++ c)))
    ∙ ap (λ (xs : List ℕ). Ok xs) (cut_two f at (at + n) (omega arith)))

-- what a file begins with
pub front_same : (f front : List ℕ) (k : ℕ) → front ≡ take (length front) f → k ≤ length front → take k front ≡ take k f
front_same f front k is le = ap (take k) is ∙ take-take k (length front) f le

-- a bare codestream
pub bare_holds : (f front : List ℕ) → front ≡ take (length front) f → (rest : List ℕ) → front ≡ soc ++ rest → IsBare f f
bare_holds f front is rest begins = record {
  others = rest ++ drop (length front) f;
  text = sym (take-append-drop (length front) f) ∙ ap (λ (xs : List ℕ). xs ++ drop (length front) f) (sym is ∙ begins);
  whole = refl;
}

-- The same by what is read of a small file with the same boxes before.
pub jp2_found : (f front small : List ℕ) (b : Boxed) (form told : Form) (at start size : ℕ) → HoldsAt small (slice_range small b.start b.end) b → b.jp2 ≡ true → ((codestream : List ℕ) (place : Boxed) (holds : HoldsAt small codestream place) → done told ≡ done (form_of holds)) → told ≡ form
    → b.start ≡ start → start ≡ at + head_size form → b.end ≡ length small → take (length (take at front)) small ≡ take at front → front ≡ take (length front) f → start ≤ length front
    → take (start - at) (drop at front) ≡ head_text form code_kind (size - at) → fits_form form (size - at) ≡ true → length front ≤ size → length f ≡ size → IsJp2 f (drop start f)
jp2_found f front small b form told at start size (inl bare) jp2 forms same begins is ends before front-is within head fits few long = absurd (let e : b.jp2 ≡ false = ap (λ (x : Boxed). x.jp2) bare.1 in true≢false (sym jp2 ∙ e))
jp2_found f front small b form told at start size (inr j) jp2 forms same begins is ends before front-is within head fits few long =
    let holds : HoldsAt small (slice_range small b.start b.end) b = inr j in
    let own : j.0.code.form ≡ form = sym (ok_is told j.0.code.form (forms (slice_range small b.start b.end) b holds)) ∙ same in
    let n = head_size form in
    let count : length (take at front) ≡ at = length-take-le at front (omega (arith, is, within)) in
    let early : take at small ≡ take at f = ap (λ k. take k small) (sym count) ∙ before ∙ front_same f front at front-is (omega (arith, is, within)) in
    let text : slice_of f (at, at + n) ≡ head_text form code_kind (size - at) =
    ap (λ k. take (k - at) (drop at f)) (sym is)
    ∙ sym (front_part f (length front) at (start - at) (omega (arith, is, within)))
    ∙ ap (λ (xs : List ℕ). take (start - at) (drop at xs)) (sym front-is)
    ∙ head in
    subst (λ k. IsJp2 f (drop k f)) (sym is)
    (jp2_holds f small (slice_range small b.start b.end) b j.0 form at size j.1 own (begins ∙ is) ends early text fits (omega (arith, is, within, few)) long)

pub not_false : (b : Bool) → not b ≡ false → b ≡ true
not_false true e = refl
not_false false e = absurd cc
