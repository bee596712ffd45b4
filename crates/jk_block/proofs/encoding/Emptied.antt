-- A word of which nothing is left to the cleanup pass.
use Rattle.std.proofs.Common.{◌≡◌, ℕ, ◌+◌, ◌*◌, ◌/◌, ◌%◌, ◌<◌, Bool, true, false, not, refl, sym, ap, ◌∙◌, arith}
use Rattle.std.specs.Prelude.{◌&&◌, nat_eq, nat_le, nat_lt}
use Rattle.std.proofs.lemmas.Bool.{and_parts}
use Rattle.std.proofs.lemmas.Bool.Decides.{nat_tests}
use Rattle.jk_scan.specs.Bits.{on}
use Rattle.jk_scan.specs.Neighbours.{is_inside, touched_in}
use Rattle.jk_scan.specs.Moments.{stripes, pass_of, significant}
use Rattle.jk_scan.specs.Passes.{Decided, in_run_mode}
use Rattle.jk_scan.specs.Words.{of_rows}
use Rattle.jk_scan.specs.WordPlaces.{column, row}
use Rattle.jk_scan.proofs.Laws.{on_zero}
use Rattle.jk_block.specs.declared.encoding.flags.Flags.{Flags}
use Rattle.jk_block.specs.declared.encoding.plane.BlockPlane.{BlockPlane}
use Rattle.jk_block.specs.declared.word_place.WordPlace.{WordPlace}
use Rattle.jk_block.specs.encoding.Viewed.{significant_at, spread_at, IsFlagged, moment_at}
use Rattle.jk_block.proofs.Columns.{rows_left, row_left, runs_is}
use Rattle.jk_block.proofs.encoding.Coming.{mag, same_flags, idle_to, idle_none, Told, told_none, told_skip}
use Rattle.jk_block.proofs.encoding.Remaining.{is_run}
use Rattle.jk_block.proofs.Rows.{start}
use Rattle.jk_block.proofs.Seeing.{is_due}
use Rattle.jk_block.proofs.encoding.Testing.{left_codes}
use Rattle.jk_block.proofs.encoding.Timing.{codes}

-- The first row of a column in run mode is coded.
run_codes : (v : BlockPlane) (j i c : ℕ) → is_run v.shape (mag v) 2 j i c ≡ true → codes v.shape (mag v) 2 j i (8 * c + 1) ≡ true
unfolding is_due rows_left row_left
run_codes v j i c e =
    let s = v.shape in
    let x = 8 * j + c in
    let t = start s 2 x i in
    let narrow = and_parts (nat_lt x s.width) (nat_eq 2 2 && in_run_mode s (mag v) x i) e in
    let run : rows_left s (mag v) t x i ≡ true = sym (runs_is s (mag v) x i) ∙ narrow.1 in
    let high = and_parts (nat_le (4 * i + 4) s.height) ((l t 0 && l t 1) && (l t 2 && l t 3)) run in
    let both = and_parts (l t 0 && l t 1) (l t 2 && l t 3) high.1 in
    let first = and_parts (l t 0) (l t 1) both.0 in
    let pass = and_parts (nat_eq (pass_of s (mag v) x (4 * i + 0)) 2) (not (touched_in s (significant s (mag v) t) x (4 * i + 0))) first.0 in
    at (8 * c + 1) (column j (8 * c + 1)) x (row i (8 * c + 1)) (4 * i + 0) (grind (arith, nat_tests)) (omega arith) (omega arith) narrow.0 (lower s.height high.0) pass.0
  where
    l : ℕ → ℕ → Bool
    l t k = nat_eq (pass_of v.shape (mag v) (8 * j + c) (4 * i + k)) 2 && not (touched_in v.shape (significant v.shape (mag v) t) (8 * j + c) (4 * i + k))

    lower : (h : ℕ) → nat_le (4 * i + 4) h ≡ true → nat_lt (4 * i + 0) h ≡ true
    lower h e = grind (arith, nat_tests)

    at : (k x x' y y' : ℕ) → of_rows (k % 8) ≡ true → x ≡ x' → y ≡ y' → nat_lt x' v.shape.width ≡ true → nat_lt y' v.shape.height ≡ true → nat_eq (pass_of v.shape (mag v) x' y') 2 ≡ true
        → (of_rows (k % 8) && ((nat_lt x v.shape.width && nat_lt y v.shape.height) && nat_eq (pass_of v.shape (mag v) x y) 2)) ≡ true
    at k x x' y y' r ex ey w h p = cc

pub no_run : (v : BlockPlane) (j i c : ℕ) → codes v.shape (mag v) 2 j i (8 * c + 1) ≡ false → is_run v.shape (mag v) 2 j i c ≡ false
no_run v j i c off = by (is_run v.shape (mag v) 2 j i c) refl
  where
    by : (b : Bool) → is_run v.shape (mag v) 2 j i c ≡ b → b ≡ false
    by true e = let g : true ≡ false = sym (run_codes v j i c e) ∙ off in absurd cc
    by false e = refl

pub emptied : (v : BlockPlane) (at : WordPlace) (flags : Flags) (list : Decided) (left : ℕ) → at.stripe < stripes v.shape → IsFlagged v (moment_at v.shape 2 at.word at.stripe 0) flags
    → ((m : ℕ) → m < 64 → on left m ≡ (of_rows (m % 8) && (is_inside v.shape (column at.word m) (row at.stripe m) && (not (significant_at v (moment_at v.shape 2 at.word at.stripe 0) (column at.word m) (row at.stripe m)) && not (spread_at v (moment_at v.shape 2 at.word at.stripe 0) (column at.word m) (row at.stripe m))))))
    → left ≡ 0 → Told v 2 at 64 list list × IsFlagged v (moment_at v.shape 2 at.word at.stripe 64) flags
emptied v at flags list left stripe flagged left_is empty = (
  told_skip v 2 at 0 64 list list (told_none v 2 at list stripe) (omega arith) (omega arith) (λ m a b. record { plain = plain m b; idle = idle m b }),
  same_flags v (moment_at v.shape 2 at.word at.stripe 0) (moment_at v.shape 2 at.word at.stripe 64) flags (idle_to v 2 at.word at.stripe 0 64 stripe (omega arith) (λ m a b. idle_none v 2 at.word at.stripe m (idle m b))) flagged,
)
  where
    idle : (m : ℕ) → m < 64 → codes v.shape (mag v) 2 at.word at.stripe m ≡ false
    idle m l = sym (left_codes v.shape (mag v) at.word at.stripe m l) ∙ sym (left_is m l) ∙ ap (λ w. on w m) empty ∙ on_zero m

    plain : (m : ℕ) → m < 64 → m % 8 ≡ 0 → is_run v.shape (mag v) 2 at.word at.stripe (m / 8) ≡ false
    plain m l e = no_run v at.word at.stripe (m / 8) (idle (8 * (m / 8) + 1) (omega (arith, l, e)))
