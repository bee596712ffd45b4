-- The first box of XML or under a UUID from a place on, by the boxes that stand there.
use Rattle.std.proofs.Common.{◌≡◌, ℕ, ◌+◌, ◌≤◌, true, false, List, [], ◌∷◌, ◌++◌, length, drop, Some, None, Ok, refl, ap, subst, ◌∙◌, arith}
use Rattle.std.specs.List.{AllByRecursion}
use Rattle.std.proofs.lemmas.List.{length-drop, append-nil}
use Rattle.jk_math.specs.Answer.{◌>>=◌}
use Rattle.jk_boxes.specs.Boxes.{Box, AreBoxes, box_text, boxes_text, box_size}
use Rattle.jk_boxes.proofs.Heads.{box_again, after_box, box_some}
use Rattle.jk_extras.specs.declared.finding.Wanted.{Wanted}
use Rattle.jk_extras.specs.declared.finding.Wanted.TheVariants.{Others}
use Rattle.jk_extras.specs.Finding.{is_wanted, found_by, found_at, other_told, other_at, placed_box, ArePassed}
use Rattle.jk_extras.proofs.Passing.{some_left}
use Rattle.jk_extras.proofs.Looking.{one_step, no_step}
use Rattle.jk_extras.proofs.Sizes.{text_size}
use Rattle.jk_extras.proofs.Dressings.{found_again}

-- none of them is looked for
none_again : (wanted : Wanted) (bs : List Box) (n at : ℕ) → AllByRecursion (λ (b : Box). is_wanted wanted b.kind ≡ false) bs → AreBoxes bs → length (boxes_text bs) ≤ n
    → found_by wanted n at (boxes_text bs) ≡ Ok None
none_again wanted [] n at skip are enough = no_step wanted n at [] refl
none_again wanted (x ∷ xs) n at skip are enough =
    let after = boxes_text xs in
    let rest = box_text x ++ after in
    let size = text_size x xs in
    let m = some_left n (length rest) (omega (arith, size, box_some x)) enough in
    let read = box_again true x after are.0 (λ o. (refl, ap boxes_text (are.1 o))) in
    let other = skip.0 in
    let next = after_box x after in
    let more = none_again wanted xs m.0 (at + box_size x) skip.1 are.2 (omega (arith, size, box_some x, m.1, enough)) in
    ap (λ k. found_by wanted k at rest) m.1 ∙ one_step wanted m.0 at rest (omega (arith, size, box_some x)) ∙ rw (read, other, next) more

pub tells_next : (from : ℕ) (file : List ℕ) (passed : List Box) (b : Box) (behind : List Box) → ArePassed from file passed (b ∷ behind) → is_wanted Others b.kind ≡ true
    → other_at from file ≡ (other_told (placed_box (from + length (boxes_text passed)) b) >>= λ t. Ok (Some t))
unfolding other_at
tells_next from file passed b behind stand wanted =
    let all = boxes_text (passed ++ (b ∷ behind)) in
    let enough : length all ≤ length file = omega (arith, ap (λ (x : List ℕ). length x) stand.text, length-drop from file) in
    let found = found_again Others passed b behind (length file) from stand.others wanted stand.boxes enough in
    let seen : found_at Others from file ≡ Ok (Some (placed_box (from + length (boxes_text passed)) b)) = ap (found_by Others (length file) from) stand.text ∙ found in
    rw seen refl

pub tells_none : (from : ℕ) (file : List ℕ) (passed : List Box) → ArePassed from file passed [] → other_at from file ≡ Ok None
unfolding other_at
tells_none from file passed stand =
    let whole = append-nil passed in
    let text : drop from file ≡ boxes_text passed = stand.text ∙ ap boxes_text whole in
    let enough : length (boxes_text passed) ≤ length file = omega (arith, ap (λ (x : List ℕ). length x) text, length-drop from file) in
    let found = none_again Others passed (length file) from stand.others (subst AreBoxes whole stand.boxes) enough in
    let seen : found_at Others from file ≡ Ok None = ap (found_by Others (length file) from) text ∙ found in
    rw seen refl
