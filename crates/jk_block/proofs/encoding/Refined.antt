-- A word listed in the magnitude refinement pass.
use Rattle.std.proofs.Common.{◌≡◌, ℕ, ◌+◌, ◌*◌, ◌/◌, ◌%◌, ◌<◌, ◌≤◌, Bool, true, false, not, [], ◌∷◌, ◌++◌, refl, sym, ap, ◌∙◌, arith}
use Rattle.std.specs.Prelude.{◌&&◌, nat_eq, nat_le, nat_lt}
use Rattle.std.proofs.lemmas.Bool.{and_parts}
use Rattle.std.proofs.lemmas.Bool.Decides.{nat_tests}
use Rattle.jk_scan.specs.declared.shape.BlockShape.{BlockShape}
use Rattle.jk_scan.specs.Bits.{on}
use Rattle.jk_scan.specs.Neighbours.{Field, is_inside, touched_in}
use Rattle.jk_scan.specs.Moments.{stripes, pass_of}
use Rattle.jk_scan.specs.Passes.{Decided, refining_decision, place_decisions}
use Rattle.jk_scan.specs.Words.{of_rows, ShowsAt, near, bordered}
use Rattle.jk_scan.specs.WordPlaces.{column, row}
use Rattle.jk_scan.proofs.Laws.{near_is, on_zero, inside_parts, cases_of, row_stripe, touched_seen}
use Rattle.jk_block.specs.declared.encoding.flags.Flags.{Flags}
use Rattle.jk_block.specs.declared.encoding.plane.BlockPlane.{BlockPlane}
use Rattle.jk_block.specs.declared.word_place.WordPlace.{WordPlace}
use Rattle.jk_block.specs.encoding.Viewed.{seen, significant_at, spread_at, IsFlagged, moment_at, seen_at}
use Rattle.jk_block.proofs.encoding.Coming.{mag, mag_outside, Idle, Same, same_flags, idle_to, Told, told_none, told_skip}
use Rattle.jk_block.proofs.encoding.Listed.{place_next}
use Rattle.jk_block.proofs.encoding.Remaining.{is_run}
use Rattle.jk_block.proofs.Seeing.{is_due}
use Rattle.jk_block.proofs.encoding.Testing.{older_codes, due_inside}
use Rattle.jk_block.proofs.encoding.Timing.{codes, moment_place, moment_range}
use Rattle.jk_block.proofs.WordBits.{place_shifted}

-- The word shows the places that were significant before this plane and are not coded in it yet.
abbrev pub ShowsOlder : BlockPlane → (j i t : ℕ) → (word : ℕ) → Type 0
ShowsOlder v j i t word = (m : ℕ) → m < 64 → on word m ≡ (of_rows (m % 8) && (significant_at v t (column j m) (row i m) && not (spread_at v t (column j m) (row i m))))

-- these are coded in this pass
pub older_is : (v : BlockPlane) (j i word : ℕ) → 8 * j < v.shape.width → i < stripes v.shape → ShowsOlder v j i (moment_at v.shape 1 j i 0) word → (m : ℕ) → m < 64 → on word m ≡ codes v.shape (mag v) 1 j i m
older_is v j i word narrow stripe older m l =
    let b = moment_range v.shape 1 j i narrow stripe in
    older m l ∙ older_codes v.shape (mag v) (moment_at v.shape 1 j i 0) j i m (mag_outside v) (let b0 = b.0 in omega (arith, b0)) (let b1 = b.1 in omega (arith, b1))

-- The word shows which places are touched as the pass comes to it.
pub touched_first : (v : BlockPlane) (at : WordPlace) (w : ℕ) → ShowsAt of_rows (near (bordered (seen_at v (moment_at v.shape 1 at.word at.stripe 0) at.stripe))) (at.word + 1) (at.stripe + 1) w
    → (m : ℕ) → m < 64 → of_rows (m % 8) ≡ true → on w m ≡ touched_in v.shape (significant_at v (moment_at v.shape 1 at.word at.stripe 0)) (column at.word m) (row at.stripe m)
touched_first v at w shown m l e =
    let f = seen_at v (moment_at v.shape 1 at.word at.stripe 0) at.stripe in
    let shifted = place_shifted at.word at.stripe m e in
    ap (on w) (let g : m ≡ 8 * (m / 8) + m % 8 = omega arith in g) ∙ shown (m / 8) (m % 8) (omega arith) (omega arith) e
    ∙ ap (λ c. near (bordered f) c (row (at.stripe + 1) m)) shifted.0 ∙ ap (λ r. near (bordered f) (column at.word m + 8) r) shifted.1
    ∙ near_is f (column at.word m) (row at.stripe m)
    ∙ touched_seen v.shape at.stripe (significant_at v (moment_at v.shape 1 at.word at.stripe 0)) (column at.word m) (row at.stripe m) (row_stripe at.stripe m e)

-- In this pass nothing becomes significant.
idle : (v : BlockPlane) (j i m : ℕ) → Idle v 1 j i m
idle v j i m = record {
  known_significant = gate (codes v.shape (mag v) 1 j i m) (nat_eq (mag v (column j m) (row i m)) 1) (λ e. old_place e);
  coded = none (codes v.shape (mag v) 1 j i m);
}
  where
    gate : (c o : Bool) → (c ≡ true → o ≡ false) → (c && o) ≡ false
    gate true o h = h refl
    gate false o h = refl

    none : (c : Bool) → (c && false) ≡ false
    none true = refl
    none false = refl

    large : (m : ℕ) → nat_le 2 m ≡ true → nat_eq m 1 ≡ false
    large m h = grind (arith, nat_tests)

    old_place : codes v.shape (mag v) 1 j i m ≡ true → nat_eq (mag v (column j m) (row i m)) 1 ≡ false
    old_place e =
        let x = column j m in
        let y = row i m in
        let d = due_inside v.shape (mag v) 1 x y (and_parts (of_rows (m % 8)) (is_due v.shape (mag v) 1 x y) e).1 in
        let p = d.1 in
        cases_of v.shape (mag v) x y (λ w. large (mag v x y) w.old_is) (λ w. absurd (let q = w.pass_is in omega (arith, p, q))) (λ w. absurd (let q = w.pass_is in omega (arith, p, q)))

pub still_significant : (v : BlockPlane) (j i n m : ℕ) → i < stripes v.shape → n ≤ m → Same v (moment_at v.shape 1 j i n) (moment_at v.shape 1 j i m)
still_significant v j i n m stripe le = idle_to v 1 j i n m stripe le (λ l a b. idle v j i l)

pub still_flagged : (v : BlockPlane) (at : WordPlace) (flags : Flags) → at.stripe < stripes v.shape → IsFlagged v (moment_at v.shape 1 at.word at.stripe 0) flags → IsFlagged v (moment_at v.shape 1 at.word at.stripe 64) flags
still_flagged v at flags stripe h = same_flags v (moment_at v.shape 1 at.word at.stripe 0) (moment_at v.shape 1 at.word at.stripe 64) flags (still_significant v at.word at.stripe 0 64 stripe (omega arith)) h

pub no_run : (s : BlockShape) (a : Field ℕ) (j i c : ℕ) → is_run s a 1 j i c ≡ false
no_run s a j i c = none (nat_lt (8 * j + c) s.width)
  where
    none : (b : Bool) → (b && false) ≡ false
    none true = refl
    none false = refl

-- a word with no such place
pub refined_empty : (v : BlockPlane) (at : WordPlace) (list : Decided) (candidates : ℕ) → 8 * at.word < v.shape.width → at.stripe < stripes v.shape → ShowsOlder v at.word at.stripe (moment_at v.shape 1 at.word at.stripe 0) candidates
    → candidates ≡ 0 → Told v 1 at 64 list list
refined_empty v at list candidates narrow stripe older empty =
    told_skip v 1 at 0 64 list list (told_none v 1 at list stripe) (omega arith) (omega arith) (λ m a b. record {
      plain = λ _. no_run v.shape (mag v) at.word at.stripe (m / 8);
      idle = sym (older_is v at.word at.stripe candidates narrow stripe older m b) ∙ ap (λ w. on w m) empty ∙ on_zero m;
    })

pub next_place : (v : BlockPlane) (j i z : ℕ) (list list' : Decided) → codes v.shape (mag v) 1 j i z ≡ true → list' ≡ list ++ refining_decision v.shape (seen v) (moment_at v.shape 1 j i z) (column j z) (row i z) ∷ []
    → list' ≡ list ++ place_decisions v.shape (seen v) 1 (column j z) (row i z)
unfolding is_due
next_place v j i z list list' due h =
    let parts = and_parts (of_rows (z % 8)) (is_inside v.shape (column j z) (row i z) && nat_eq (pass_of v.shape (mag v) (column j z) (row i z)) 1) due in
    let inside = (and_parts (is_inside v.shape (column j z) (row i z)) (nat_eq (pass_of v.shape (mag v) (column j z) (row i z)) 1) parts.1).0 in
    h ∙ ap (λ (ds : Decided). list ++ ds) (sym (place_next v.shape (seen v) 1 (column j z) (row i z) (moment_at v.shape 1 j i z) parts.1 (moment_place v.shape 1 j i z parts.0 (inside_parts v.shape (column j z) (row i z) inside).0) refl))
