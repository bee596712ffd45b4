-- The file with another codestream, which is no longer than its own.
use Rattle.std.proofs.Common.{◌≡◌, ℕ, ◌≤◌, ◌^◌, true, false, cond, List, [], ◌∷◌, ◌++◌, length, Result, Ok, Err, refl, sym, ap, ◌∙◌, arith}
use Rattle.std.specs.Prelude.{MatchResult, Bool, not}
use mathlib.Core.Bool.{beq}
use Rattle.std.specs.Global.{Vec}
use Rattle.jk_math.specs.Steps.{ok_is}
use Rattle.jk_math.specs.declared.rect.Rect.{Rect}
use Rattle.jk_marks.specs.Codestream.{codestream_text}
use Rattle.jk_boxes.specs.Reading.{boxes_at}
use Rattle.jk_params.specs.Headers.{Headers}
use Rattle.jk_window.specs.declared.view.View.{View}
use Rattle.jk_window.specs.Views.{window_at}
use Rattle.std.proofs.lemmas.Bool.{lt-ltb, true≢false}
use Rattle.jk_math.specs.Answer.{◌>>=◌, Refuses, Answers}
use Rattle.jk_math.specs.Memory.{IsMemory}
use Rattle.jk_math.specs.declared.fault.Fault.{Fault}
use Rattle.jk_math.specs.declared.fault.Fault.TheVariants.{Memory, Limit}
use Rattle.jk_boxes.specs.declared.boxes.Form.{Form}
use Rattle.jk_boxes.specs.declared.boxes.Form.TheVariants.{Short, Long, Open}
use Rattle.jk_boxes.specs.declared.place.Boxed.{Boxed}
use Rattle.jk_boxes.specs.Boxes.{Box, box_size, boxes_text, signature, FitsForm, AreBoxes, IsJp2}
use Rattle.jk_boxes.specs.Written.{fits_form, recoded}
use Rattle.jk_boxes.proofs.Laws.{place_again}
use Rattle.jk_window.specs.Indexing.{IndexFields, IsIndexOf}
use Rattle.jk_window.specs.Cutting.{with_codestream, cut_tree, cut_file}

boxes_behind : (xs ys : List Box) → AreBoxes (xs ++ ys) → AreBoxes ys
boxes_behind [] ys are = are
boxes_behind (x ∷ xs) ys are = boxes_behind xs ys are.2

form_fits : (f : Form) (m n : ℕ) → FitsForm f n → m ≤ n → fits_form f m ≡ true
form_fits Short m n fits le = lt-ltb m (2 ^ 32) (omega (arith, fits, le))
form_fits Long m n fits le = lt-ltb m (2 ^ 64) (omega (arith, fits, le))
form_fits Open m n fits le = refl

-- a shorter codestream fits its box
pub recoded_fits : (bytes old new : List ℕ) (j : IsJp2 bytes old) → length new ≤ length old → (out : List ℕ) × (recoded j new ≡ Ok out)
unfolding recoded
recoded_fits bytes old new j short =
    let code : Box = record j.code { contents = new } in
    let are = boxes_behind j.middle (j.code ∷ j.after) (boxes_behind j.early (j.header ∷ (j.middle ++ (j.code ∷ j.after))) j.boxes.2).2 in
    let own = ap (λ (xs : List ℕ). length xs) j.code_next.1 in
    let fits : fits_form code.form (box_size code) ≡ true = form_fits j.code.form (box_size code) (box_size j.code) are.0.size (omega (arith, short, own)) in
    let out = signature ++ boxes_text (j.file_type ∷ (j.early ++ (j.header ∷ (j.middle ++ (code ∷ j.after))))) in
    (out, ap (λ b. cond b (Ok out) (Err Limit)) fits)

-- ---- answers of the cut

-- an index of the bytes is where they are opened
pub opened_there : (bytes : List ℕ) (i : IndexFields) (place : Boxed) → IsIndexOf bytes i → Ok place ≡ boxes_at bytes → place ≡ i.place
opened_there bytes i place is e = ok_is place i.place (e ∙ (place_again bytes is.codestream i.place is.holds).0)

pub not_refused : (bytes : List ℕ) (i : IndexFields) (e : Fault) → IsIndexOf bytes i → Err e ≡ boxes_at bytes → ⊥
not_refused bytes i e is refused = let clash : Err e ≡ Ok i.place = refused ∙ (place_again bytes is.codestream i.place is.holds).0 in cc

-- the file of a window, once the window is known
pub due_is : (bytes : List ℕ) (i : IndexFields) (view : View) (h : Headers) (w : Rect) → (is : IsIndexOf bytes i) → h ≡ i.headers → Ok w ≡ window_at h view
    → cut_file is view ≡ with_codestream is.holds (codestream_text (cut_tree is w view))
due_is bytes i view h w is same found =
    let due : window_at i.headers view ≡ Ok w = sym (ap (λ (x : Headers). window_at x view) same) ∙ sym found in
    ap (λ (r : Result Rect Fault). r >>= λ v. with_codestream is.holds (codestream_text (cut_tree is v view))) due

pub match_answers : (r : Result (Vec ℕ) Fault) (due again : Result (List ℕ) Fault) → again ≡ due → MatchResult r (λ v. due ≡ Ok v.items) (λ e. IsMemory e) → Answers (λ v. v.items) r again
match_answers (Ok v) due again same h = same ∙ h
match_answers (Err e) due again same h = memory_refuses e again h
  where
    memory_refuses : (e : Fault) (d : Result (List ℕ) Fault) → IsMemory e → Refuses e d
    memory_refuses (Memory r) d h = tt
    memory_refuses e d h = absurd h

pub same_flag : (a b : Bool) → a ≡ b → not (beq a b) ≡ true → ⊥
same_flag true true e h = true≢false (sym h)
same_flag false false e h = true≢false (sym h)
same_flag true false e h = true≢false e
same_flag false true e h = true≢false (sym e)
