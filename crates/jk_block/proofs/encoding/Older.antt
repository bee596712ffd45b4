-- A word listed column by column in the magnitude refinement pass.
use Rattle.std.proofs.Common.{◌≡◌, ℕ, zero, suc, ◌≤◌, ◌+◌, ◌*◌, ◌%◌, ◌<◌, Bool, true, false, cond, List, [], ◌∷◌, ◌++◌, map, refl, sym, ap, ◌∙◌, arith}
use Rattle.std.specs.Prelude.{◌&&◌, nat_le}
use Rattle.std.proofs.lemmas.Bool.Decides.{nat_tests}
use Rattle.std.proofs.lemmas.List.{map-append}
use Rattle.jk_scan.specs.Bits.{on}
use Rattle.jk_scan.specs.Contexts.{refine_context_of}
use Rattle.jk_scan.specs.Neighbours.{Field, touched_in}
use Rattle.jk_scan.specs.Moments.{stripes}
use Rattle.jk_scan.specs.Passes.{Decided, joined, place_decisions, refining_decision}
use Rattle.jk_scan.specs.Words.{of_rows, ShowsAt, near, bordered}
use Rattle.jk_scan.specs.WordNumbers.{byte_at}
use Rattle.jk_scan.specs.WordPlaces.{column, row}
use Rattle.jk_mqenc.specs.Encoded.{decision_of}
use Rattle.jk_columns.specs.Columns.{chained}
use Rattle.jk_columns.specs.Pairs.{member_bytes}
use Rattle.jk_block.specs.Steps.{IsBitPlace}
use Rattle.jk_block.specs.declared.encoding.plane.BlockPlane.{BlockPlane}
use Rattle.jk_block.specs.declared.word_place.WordPlace.{WordPlace}
use Rattle.jk_block.specs.encoding.Viewed.{seen, significant_at, seen_at, moment_at, ShowsOnes, column_if}
use Rattle.jk_block.proofs.Seeing.{is_due}
use Rattle.jk_block.proofs.encoding.Columned.{rows_column, row_bit, column_at, row_at, by_case, place_at}
use Rattle.jk_block.proofs.encoding.Coming.{mag, same_significant}
use Rattle.jk_block.proofs.encoding.Listed.{place_none, next_is}
use Rattle.jk_block.proofs.encoding.Refined.{ShowsOlder, older_is, touched_first, still_significant, next_place, no_run}
use Rattle.jk_block.proofs.encoding.Slicing.{one_at}
use Rattle.jk_block.proofs.encoding.Spelled.{spelled}
use Rattle.jk_block.proofs.encoding.Timing.{codes}

-- What is known of a word as the pass comes to it.
pub record KnownOlder (v : BlockPlane) (at : WordPlace) (bits : List ℕ) (members : ℕ) : Type 0 where
  pub members_are : (m : ℕ) → m < 64 → on members m ≡ codes v.shape (mag v) 1 at.word at.stripe m
  pub bits_are : (m : ℕ) → IsBitPlace v.shape at m → decision_of (byte_at bits m) ≡ refining_decision v.shape (seen v) (moment_at v.shape 1 at.word at.stripe m) (column at.word m) (row at.stripe m)

pub known_older : (v : BlockPlane) (at : WordPlace) (bits : List ℕ) (members touched refined ones : ℕ) → 8 * at.word < v.shape.width → at.stripe < stripes v.shape
    → ShowsAt of_rows (near (bordered (seen_at v (moment_at v.shape 1 at.word at.stripe 0) at.stripe))) (at.word + 1) (at.stripe + 1) touched
    → ShowsOlder v at.word at.stripe (moment_at v.shape 1 at.word at.stripe 0) members
    → ((m : ℕ) → m < 64 → on refined m ≡ (of_rows (m % 8) && nat_le 4 (mag v (column at.word m) (row at.stripe m)))) → ShowsOnes v at.word at.stripe ones
    → ((k : ℕ) → k < 64 → of_rows (k % 8) ≡ true → byte_at bits k ≡ 2 * refine_context_of (on refined k) (on touched k) + cond (on ones k) 1 0)
    → KnownOlder v at bits members
known_older v at bits members touched refined ones narrow stripe shown older refined_are shows bytes = record {
  members_are = older_is v at.word at.stripe members narrow stripe older;
  bits_are = λ m place.
      let t = moment_at v.shape 1 at.word at.stripe m in
      let x = column at.word m in
      let y = row at.stripe m in
      let near_is : on touched m ≡ touched_in v.shape (significant_at v t) x y =
      touched_first v at touched shown m place.within place.on_row
      ∙ sym (ap (λ (f : Field Bool). touched_in v.shape f x y) (same_significant v (moment_at v.shape 1 at.word at.stripe 0) t (still_significant v at.word at.stripe 0 m stripe (omega arith)))) in
      spelled (byte_at bits m) (refine_context_of (on refined m) (on touched m)) (on ones m) (bytes m place.within place.on_row)
      ∙ next_is v.shape (seen v) t x y (refine_context_of (on refined m) (on touched m)) (on refined m) (on touched m) (on ones m)
      (refined_are m place.within ∙ ap (λ b. b && nat_le 4 (mag v x y)) place.on_row) near_is refl (one_at v at m ones place shows);
}

-- one row
older_row : (v : BlockPlane) (at : WordPlace) (bits : List ℕ) (members c r : ℕ) → KnownOlder v at bits members → c < 8 → r < 4
    → map decision_of (cond (on members (8 * c + (r + 1))) (byte_at bits (8 * c + (r + 1)) ∷ []) []) ≡ place_decisions v.shape (seen v) 1 (8 * at.word + c) (4 * at.stripe + r)
unfolding is_due
older_row v at bits members c r known h l = by_case (on members m) set clear
  where
    m : ℕ
    m = 8 * c + (r + 1)

    within : m < 64
    within = omega arith

    there : place_decisions v.shape (seen v) 1 (column at.word m) (row at.stripe m) ≡ place_decisions v.shape (seen v) 1 (8 * at.word + c) (4 * at.stripe + r)
    there = ap (λ x. place_decisions v.shape (seen v) 1 x (row at.stripe m)) (column_at at.word c r l) ∙ ap (λ y. place_decisions v.shape (seen v) 1 (8 * at.word + c) y) (row_at at.stripe c r l)

    second : (a b : Bool) → (a && b) ≡ false → a ≡ true → b ≡ false
    second a b e g = grind (arith, nat_tests)

    clear : on members m ≡ false → map decision_of (cond (on members m) (byte_at bits m ∷ []) []) ≡ place_decisions v.shape (seen v) 1 (8 * at.word + c) (4 * at.stripe + r)
    clear off =
        ap (λ b. map decision_of (cond b (byte_at bits m ∷ []) [])) off
        ∙ sym (place_none v.shape (seen v) 1 (column at.word m) (row at.stripe m) (second (of_rows (m % 8)) (is_due v.shape (mag v) 1 (column at.word m) (row at.stripe m)) (sym (known.members_are m within) ∙ off) (row_bit c r h l))) ∙ there

    set : on members m ≡ true → map decision_of (cond (on members m) (byte_at bits m ∷ []) []) ≡ place_decisions v.shape (seen v) 1 (8 * at.word + c) (4 * at.stripe + r)
    set on_members =
        let due = sym (known.members_are m within) ∙ on_members in
        ap (λ b. map decision_of (cond b (byte_at bits m ∷ []) [])) on_members
        ∙ next_place v at.word at.stripe m [] (decision_of (byte_at bits m) ∷ []) due (ap (λ (d : ℕ × Bool). d ∷ []) (known.bits_are m (place_at v 1 at m within due)))
        ∙ there

older_rows : (v : BlockPlane) (at : WordPlace) (bits : List ℕ) (members c : ℕ) → KnownOlder v at bits members → c < 8 → (n : ℕ) → n ≤ 4
    → map decision_of (chained n (λ r. cond (on members (8 * c + (r + 1))) (byte_at bits (8 * c + (r + 1)) ∷ []) [])) ≡ joined n (λ r. place_decisions v.shape (seen v) 1 (8 * at.word + c) (4 * at.stripe + (0 + r)))
unfolding chained joined
older_rows v at bits members c known h zero l = refl
older_rows v at bits members c known h (suc n) l =
    map-append decision_of (chained n (λ r. cond (on members (8 * c + (r + 1))) (byte_at bits (8 * c + (r + 1)) ∷ []) [])) (cond (on members (8 * c + (n + 1))) (byte_at bits (8 * c + (n + 1)) ∷ []) [])
    ∙ ap (λ (ds : Decided). ds ++ map decision_of (cond (on members (8 * c + (n + 1))) (byte_at bits (8 * c + (n + 1)) ∷ []) [])) (older_rows v at bits members c known h n (omega arith))
    ∙ ap (λ (ds : Decided). joined n (λ r. place_decisions v.shape (seen v) 1 (8 * at.word + c) (4 * at.stripe + (0 + r))) ++ ds)
    (older_row v at bits members c n known h (omega arith) ∙ ap (λ r. place_decisions v.shape (seen v) 1 (8 * at.word + c) (4 * at.stripe + r)) (let e : n ≡ 0 + n = omega arith in e))

-- what a column decides
pub older_told : (v : BlockPlane) (at : WordPlace) (bits : List ℕ) (members : ℕ) → KnownOlder v at bits members → (c : ℕ) → c < 8 → map decision_of (member_bytes bits members c) ≡ column_if v.shape (seen v) 1 at.word at.stripe c
unfolding member_bytes
older_told v at bits members known c h =
    older_rows v at bits members c known h 4 (omega arith) ∙ rows_column v 1 at c (no_run v.shape (mag v) at.word at.stripe c)
