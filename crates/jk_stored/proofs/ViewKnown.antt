-- The window of a file by that of what was made of its codestream.
use Rattle.std.proofs.Common.{◌≡◌, ℕ, ◌-◌, ◌≤◌, List, length, take, drop, Ok, refl, sym, ap, ◌∙◌, arith}
use Rattle.std.specs.Prelude.{slice_range}
use Rattle.std.proofs.lemmas.List.{length-take-le, length-drop}
use Rattle.jk_math.specs.Picture.{Picture}
use Rattle.jk_math.specs.Steps.{done}
use Rattle.jk_boxes.specs.declared.place.Boxed.{Boxed}
use Rattle.jk_boxes.specs.Boxes.{HoldsCodestream}
use Rattle.jk_boxes.specs.Reading.{boxes_at}
use Rattle.jk_boxes.proofs.Laws.{boxes_again}
use Rattle.jk_window.specs.declared.view.View.{View}
use Rattle.jk_code.specs.ViewReading.{image_view_at, meaning_view_at}
use Rattle.jk_code.specs.Windows.{in_all_layers}
use Rattle.jk_code.proofs.ViewAgain.{all_shown}
use Rattle.jk_stored.proofs.Held.{front_part}

pub behind_front : (f front : List ℕ) (start : ℕ) → front ≡ take (length front) f → start ≤ length front → take (length front - start) (drop start front) ≡ take (length (take (length front - start) (drop start front))) (drop start f)
behind_front f front start is within =
    let m = length front - start in
    let long : length (take m (drop start front)) ≡ m = length-take-le m (drop start front) (let e = length-drop start front in omega (arith, e)) in
    ap (λ (xs : List ℕ). take m (drop start xs)) is
    ∙ front_part f (length front) start m (omega (arith, within))
    ∙ ap (λ k. take k (drop start f)) (sym long)

meaning_is : (bytes : List ℕ) (b : Boxed) (v : View) → boxes_at bytes ≡ Ok b → meaning_view_at bytes v ≡ image_view_at (slice_range bytes b.start b.end) v
unfolding meaning_view_at
meaning_is bytes b v read = rw read refl

pub view_known : (f c made : List ℕ) (v : View) (p : Picture) → HoldsCodestream f c → meaning_view_at made (in_all_layers v) ≡ image_view_at c (in_all_layers v) → meaning_view_at made (in_all_layers v) ≡ done p → meaning_view_at f v ≡ done p
view_known f c made v p holds same read =
    let o = boxes_again f c holds in
    sym (all_shown f v)
    ∙ meaning_is f o.boxed (in_all_layers v) o.due
    ∙ ap (λ (xs : List ℕ). image_view_at xs (in_all_layers v)) (sym o.here)
    ∙ sym same
    ∙ read
