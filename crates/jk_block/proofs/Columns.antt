-- A column of a stripe in a pass.
use Rattle.std.proofs.Common.{◌≡◌, ℕ, zero, suc, ◌+◌, ◌*◌, ◌<◌, ◌≤◌, Bool, true, false, not, cond, List, refl, sym, ap, ◌∙◌, subst, arith}
use Rattle.std.specs.Prelude.{◌&&◌, ◌||◌, nat_eq, nat_lt, nat_le}
use Rattle.std.proofs.lemmas.Bool.{and_parts}
use Rattle.std.proofs.lemmas.Bool.Decides.{nat_tests}
use Rattle.jk_model.specs.Decisions.{state_after, SpellsFrom}
use Rattle.jk_scan.specs.declared.shape.BlockShape.{BlockShape}
use Rattle.jk_scan.specs.Neighbours.{Field, is_inside, touched_in}
use Rattle.jk_scan.specs.Moments.{number, stripes, visits, old, spread, pass_of, moment, is_coded, significant}
use Rattle.jk_scan.specs.Passes.{BlockAtPlane, Decided, rows_decisions, in_run_mode, first_one, run_decisions, column_decisions}
use Rattle.jk_scan.proofs.Laws.{number_row, number_room, touched_same, touched_more, so_far, spread_is, significant_early, significant_later, significant_is, cases_of, agree_pass, agree_significant, number_below}
use Rattle.jk_block.specs.Reading.{Progress, known_significant, rows_at, is_quiet, read_run, column_at}
use Rattle.jk_block.proofs.Spelling.{Told}
use Rattle.jk_block.proofs.Stages.{mags, Cut, Like, Stage, stage_at}
use Rattle.jk_block.proofs.Seeing.{significant_then}
use Rattle.jk_block.proofs.Rows.{start, stage_rows, Still}
use Rattle.jk_block.proofs.Runs.{run_onward, run_back, run_only}

pub neither : (p q : Bool) → (p && false) ≡ (q && false)
neither true true = refl
neither true false = refl
neither false true = refl
neither false false = refl

pub spread_touches : (s : BlockShape) (a : Field ℕ) (t x y : ℕ) → number s.width x y ≤ visits s → number s.width x y ≤ t → spread s a x y ≡ true → touched_in s (significant s a t) x y ≡ false → ⊥
spread_touches s a t x y room early e quiet =
    let n = number s.width x y in
    let u : touched_in s (so_far s a n) x y ≡ true = second (old a x y) (touched_in s (so_far s a n) x y) (sym (spread_is s a x y) ∙ e) in
    let g = touched_more s (so_far s a n) (significant s a t) x y (λ x' y' f. significant_later s a n t x' y' early (significant_early s a n x' y' room ∙ f)) u in
    let c : true ≡ false = sym g ∙ quiet in absurd cc
  where
    second : (o u : Bool) → (not o && u) ≡ true → u ≡ true
    second o u e = grind (arith, nat_tests)

-- a row of a quiet column is left to the cleanup pass, and the other way round
pub row_test : (s : BlockShape) (b x i k : ℕ) (z : Progress) → x < s.width → k < 4 → 4 * i + 4 ≤ s.height → Cut s b (start s 2 x i) z
    → (not (known_significant s z x (4 * i + k)) && not (touched_in s (known_significant s z) x (4 * i + k))) ≡ (nat_eq (pass_of s (mags s b z) x (4 * i + k)) 2 && not (touched_in s (significant s (mags s b z) (start s 2 x i)) x (4 * i + k)))
unfolding start
row_test s b x i k z narrow l high cut =
    let a = mags s b z in
    let y = 4 * i + k in
    let t = start s 2 x i in
    let same : touched_in s (known_significant s z) x y ≡ touched_in s (significant s a t) x y = touched_same s (known_significant s z) (significant s a t) x y (significant_then s b t z cut) in
    let inside : is_inside s x y ≡ true = both (nat_lt x s.width) (nat_lt y s.height) (grind (arith, nat_tests)) (grind (arith, nat_tests)) in
    let n = number_row s.width x i k l in
    let below = number_below s x y inside in
    let early : number s.width x y ≤ 2 * visits s + 4 * (s.width * i + x) = omega arith in
    let late : 2 * visits s + 4 * (s.width * i + x) ≤ 2 * visits s + number s.width x y = omega (arith, n) in
    let room : number s.width x y ≤ visits s = omega arith in
    ap (λ u. not (known_significant s z x y) && not u) same
    ∙ gate (touched_in s (significant s a t) x y) (known_significant s z x y) (pass_of s a x y) (λ quiet.
    cases_of s a x y
    (λ w. let q = w.pass_is in at (known_significant s z x y) true (pass_of s a x y) 1 (significant_then s b t z cut x y ∙ significant_is s a t x y ∙ ap (λ o. o || (nat_eq (a x y) 1 && is_coded s a t x y)) w.old_is) q refl)
    (λ w. absurd (spread_touches s a t x y room early w.spread_is quiet))
    (λ w. at (known_significant s z x y) false (pass_of s a x y) 2 (significant_then s b t z cut x y ∙ significant_is s a t x y ∙ not_yet (a x y) (moment s a x y) (2 * visits s + number s.width x y) w.old_is w.moment_is late) w.pass_is refl))
  where
    both : (p q : Bool) → p ≡ true → q ≡ true → (p && q) ≡ true
    both p q e g = cc

    at : (l o : Bool) (n m : ℕ) → l ≡ o → n ≡ m → not o ≡ nat_eq m 2 → not l ≡ nat_eq n 2
    at l o n m e g h = ap not e ∙ h ∙ ap (λ n. nat_eq n 2) (sym g)

    gate : (u l : Bool) (n : ℕ) → (u ≡ false → not l ≡ nat_eq n 2) → (not l && not u) ≡ (nat_eq n 2 && not u)
    gate true l n h = neither (not l) (nat_eq n 2)
    gate false l n h = ap (λ p. p && true) (h refl)

    not_yet : (m q r : ℕ) → nat_le 2 m ≡ false → q ≡ r → start s 2 x i ≤ r → (nat_le 2 m || (nat_eq m 1 && nat_lt q (start s 2 x i))) ≡ false
    not_yet m q r o e h = grind (arith, nat_tests)

-- the test of a row in run mode
unfoldable pub row_left : BlockShape → Field ℕ → (t x y : ℕ) → Bool
row_left s a t x y = nat_eq (pass_of s a x y) 2 && not (touched_in s (significant s a t) x y)

pub start_number : (s : BlockShape) (x i : ℕ) → 2 * visits s + number s.width x (4 * i) ≡ start s 2 x i
unfolding start
start_number s x i =
    let e = number_row s.width x i 0 (omega arith) in
    let f : number s.width x (4 * i) ≡ number s.width x (4 * i + 0) = ap (number s.width x) (omega arith) in
    omega (arith, e, f)

unfoldable pub rows_left : BlockShape → Field ℕ → (t x i : ℕ) → Bool
rows_left s a t x i = nat_le (4 * i + 4) s.height && ((row_left s a t x (4 * i + 0) && row_left s a t x (4 * i + 1)) && (row_left s a t x (4 * i + 2) && row_left s a t x (4 * i + 3)))

pub runs_is : (s : BlockShape) (a : Field ℕ) (x i : ℕ) → in_run_mode s a x i ≡ rows_left s a (start s 2 x i) x i
unfolding in_run_mode rows_left row_left
runs_is s a x i = ap (λ t. rows_left s a t x i) (start_number s x i)

pub four : (h a b c d a' b' c' d' : Bool) → (h ≡ true → a ≡ a') → (h ≡ true → b ≡ b') → (h ≡ true → c ≡ c') → (h ≡ true → d ≡ d') → (h && ((a && b) && (c && d))) ≡ (h && ((a' && b') && (c' && d')))
four true a b c d a' b' c' d' e f g k = let e0 = e refl in let f0 = f refl in let g0 = g refl in let k0 = k refl in cc
four false a b c d a' b' c' d' e f g k = refl

pub quiet_is : (s : BlockShape) (b x i : ℕ) (z : Progress) → x < s.width → Cut s b (start s 2 x i) z → is_quiet s (known_significant s z) x i ≡ rows_left s (mags s b z) (start s 2 x i) x i
unfolding is_quiet rows_left row_left
quiet_is s b x i z narrow cut =
    four (nat_le (4 * i + 4) s.height) (q 0) (q 1) (q 2) (q 3) (row_left s (mags s b z) (start s 2 x i) x (4 * i + 0)) (row_left s (mags s b z) (start s 2 x i) x (4 * i + 1)) (row_left s (mags s b z) (start s 2 x i) x (4 * i + 2)) (row_left s (mags s b z) (start s 2 x i) x (4 * i + 3))
    (λ h. row_test s b x i 0 z narrow (omega arith) (high h) cut) (λ h. row_test s b x i 1 z narrow (omega arith) (high h) cut) (λ h. row_test s b x i 2 z narrow (omega arith) (high h) cut) (λ h. row_test s b x i 3 z narrow (omega arith) (high h) cut)
  where
    q : ℕ → Bool
    q j = not (known_significant s z x (4 * i + j)) && not (touched_in s (known_significant s z) x (4 * i + j))

    high : nat_le (4 * i + 4) s.height ≡ true → 4 * i + 4 ≤ s.height
    high h = grind (arith, nat_tests)

pub number_early : (s : BlockShape) (x i j : ℕ) → x < s.width → i < stripes s → j < 4 → number s.width x (4 * i + j) ≤ start s 2 x i
unfolding start
number_early s x i j narrow stripe h =
    let e = number_row s.width x i j h in
    let m = number_room s x i j narrow stripe h in
    omega (arith, e, m)

pub runs_like : (s : BlockShape) (b x i : ℕ) (z : Progress) (p : BlockAtPlane) → x < s.width → i < stripes s → Like s b (start s 2 x i) z p → rows_left s (mags s b z) (start s 2 x i) x i ≡ rows_left s p.magnitude (start s 2 x i) x i
unfolding rows_left row_left
runs_like s b x i z p narrow stripe like =
    four (nat_le (4 * i + 4) s.height) (l (mags s b z) 0) (l (mags s b z) 1) (l (mags s b z) 2) (l (mags s b z) 3) (l p.magnitude 0) (l p.magnitude 1) (l p.magnitude 2) (l p.magnitude 3)
    (λ _. row 0 (omega arith)) (λ _. row 1 (omega arith)) (λ _. row 2 (omega arith)) (λ _. row 3 (omega arith))
  where
    l : Field ℕ → ℕ → Bool
    l a j = row_left s a (start s 2 x i) x (4 * i + j)

    row : (j : ℕ) → j < 4 → row_left s (mags s b z) (start s 2 x i) x (4 * i + j) ≡ row_left s p.magnitude (start s 2 x i) x (4 * i + j)
    row j h =
        let y = 4 * i + j in
        let early = number_early s x i j narrow stripe h in
        ap (λ n. nat_eq n 2 && not (touched_in s (significant s (mags s b z) (start s 2 x i)) x y)) (agree_pass s (mags s b z) p.magnitude (start s 2 x i) x y like.agree early)
        ∙ ap (λ u. nat_eq (pass_of s p.magnitude x y) 2 && not u) (touched_same s (significant s (mags s b z) (start s 2 x i)) (significant s p.magnitude (start s 2 x i)) x y (λ u v. agree_significant s (mags s b z) p.magnitude (start s 2 x i) u v like.agree))

pub still_from : (s : BlockShape) (b x i : ℕ) (z : Progress) → x < s.width → i < stripes s → Cut s b (start s 2 x i) z → is_quiet s (known_significant s z) x i ≡ true → Still s b x i z
unfolding is_quiet rows_left row_left
still_from s b x i z narrow stripe cut quiet =
    let h = and_parts (nat_le (4 * i + 4) s.height) ((q 0 && q 1) && (q 2 && q 3)) quiet in
    let low = and_parts (q 0 && q 1) (q 2 && q 3) h.1 in
    let q01 = and_parts (q 0) (q 1) low.0 in
    let q23 = and_parts (q 2) (q 3) low.1 in
    let g = and_parts (nat_le (4 * i + 4) s.height) ((l 0 && l 1) && (l 2 && l 3)) (sym (quiet_is s b x i z narrow cut) ∙ quiet) in
    let high = and_parts (l 0 && l 1) (l 2 && l 3) g.1 in
    let l01 = and_parts (l 0) (l 1) high.0 in
    let l23 = and_parts (l 2) (l 3) high.1 in
    let height : 4 * i + 4 ≤ s.height = let h0 = h.0 in grind (arith, nat_tests) in
    record {
      narrow = narrow;
      stripe = stripe;
      inside = within height;
      left = λ k c. pass_at k (of_four l k c l01.0 l01.1 l23.0 l23.1);
      empty = λ k c. dark (is_inside s x (4 * i + k)) (z.magnitude x (4 * i + k)) (touched_in s (known_significant s z) x (4 * i + k)) (within height k c) (of_four q k c q01.0 q01.1 q23.0 q23.1);
    }
  where
    q : ℕ → Bool
    q j = not (known_significant s z x (4 * i + j)) && not (touched_in s (known_significant s z) x (4 * i + j))

    l : ℕ → Bool
    l j = row_left s (mags s b z) (start s 2 x i) x (4 * i + j)

    of_four : (f : ℕ → Bool) (k : ℕ) → k < 4 → f 0 ≡ true → f 1 ≡ true → f 2 ≡ true → f 3 ≡ true → f k ≡ true
    of_four f zero c e0 e1 e2 e3 = e0
    of_four f (suc zero) c e0 e1 e2 e3 = e1
    of_four f (suc (suc zero)) c e0 e1 e2 e3 = e2
    of_four f (suc (suc (suc zero))) c e0 e1 e2 e3 = e3
    of_four f (suc (suc (suc (suc k)))) c e0 e1 e2 e3 = absurd (omega arith)

    both : (p q : Bool) → p ≡ true → q ≡ true → (p && q) ≡ true
    both p q e g = cc

    within : 4 * i + 4 ≤ s.height → (k : ℕ) → k < 4 → is_inside s x (4 * i + k) ≡ true
    within height k c = both (nat_lt x s.width) (nat_lt (4 * i + k) s.height) (grind (arith, nat_tests)) (grind (arith, nat_tests))

    two : (n : ℕ) (u : Bool) → (nat_eq n 2 && u) ≡ true → n ≡ 2
    two n u e = grind (arith, nat_tests)

    pass_at : (k : ℕ) → row_left s (mags s b z) (start s 2 x i) x (4 * i + k) ≡ true → pass_of s (mags s b z) x (4 * i + k) ≡ 2
    pass_at k e = two (pass_of s (mags s b z) x (4 * i + k)) (not (touched_in s (significant s (mags s b z) (start s 2 x i)) x (4 * i + k))) e

    dark : (i : Bool) (m : ℕ) (u : Bool) → i ≡ true → (not (i && nat_lt 0 m) && not u) ≡ true → m ≡ 0
    dark i m u e g = grind (arith, nat_tests)

pub first_columns : (bytes : List ℕ) (s : BlockShape) (b pass x i : ℕ) → nat_eq pass 2 ≡ false → Stage bytes s b (start s pass x i) (start s pass x i + 4) (rows_at bytes s b pass x i 0 4) (λ p. rows_decisions s p pass x i 0 4)
    → Stage bytes s b (start s pass x i) (start s pass x i + 4) (column_at bytes s b pass x i) (λ p. column_decisions s p pass x i)
unfolding column_at column_decisions
first_columns bytes s b pass x i other stage = record {
  onward = λ z z' c e. stage.onward z z' c (sym (rows z) ∙ e);
  back = λ z z' c e p l. let r = stage.back z z' c (sym (rows z) ∙ e) p l in (r.0, subst (λ (ds : Decided). Told bytes z.coder ds z'.coder) (sym (list p)) r.1);
  only = λ z p c l h.
      let g = stage.only z p c l (subst (λ (ds : Decided). SpellsFrom bytes z.coder ds) (list p) h) in
      record { next = g.next; is = rows z ∙ g.is; like = g.like; coder_is = g.coder_is ∙ ap (λ (ds : Decided). state_after bytes z.coder ds) (sym (list p)) };
}
  where
    rows : (z : Progress) → column_at bytes s b pass x i z ≡ rows_at bytes s b pass x i 0 4 z
    rows z = ap (λ q. cond (q && is_quiet s (known_significant s z) x i) (read_run bytes s b x i z) (rows_at bytes s b pass x i 0 4 z)) other

    list : (p : BlockAtPlane) → column_decisions s p pass x i ≡ rows_decisions s p pass x i 0 4
    list p = ap (λ q. cond (q && in_run_mode s p.magnitude x i) (run_decisions s p x i (first_one p.magnitude x i)) (rows_decisions s p pass x i 0 4)) other

pub last_columns : (bytes : List ℕ) (s : BlockShape) (b x i : ℕ) → x < s.width → i < stripes s → Stage bytes s b (start s 2 x i) (start s 2 x i + 4) (rows_at bytes s b 2 x i 0 4) (λ p. rows_decisions s p 2 x i 0 4)
    → Stage bytes s b (start s 2 x i) (start s 2 x i + 4) (column_at bytes s b 2 x i) (λ p. column_decisions s p 2 x i)
unfolding column_at column_decisions
last_columns bytes s b x i narrow stripe stage = record {
  onward = λ z z' c e. by_quiet (is_quiet s (known_significant s z) x i)
      (λ q. run_onward bytes s b x i z z' (still_from s b x i z narrow stripe c q) c (sym (run z q) ∙ e))
      (λ q. stage.onward z z' c (sym (rows z q) ∙ e));
  back = λ z z' c e p l. by_quiet (is_quiet s (known_significant s z) x i)
      (λ q.
      let r = run_back bytes s b x i z z' p (still_from s b x i z narrow stripe c q) c (sym (run z q) ∙ e) l in
      (r.like, subst (λ (ds : Decided). Told bytes z.coder ds z'.coder) (sym (run_list p (same z p c r.like ∙ q))) r.told))
      (λ q.
      let r = stage.back z z' c (sym (rows z q) ∙ e) p l in
      (r.0, subst (λ (ds : Decided). Told bytes z.coder ds z'.coder) (sym (rows_list p (same z p c r.0 ∙ q))) r.1));
  only = λ z p c l h. by_quiet (is_quiet s (known_significant s z) x i)
      (λ q.
      let ds = run_list p (same z p c l ∙ q) in
      let g = run_only bytes s b x i z p (still_from s b x i z narrow stripe c q) c l (subst (λ (ds : Decided). SpellsFrom bytes z.coder ds) ds h) in
      record { next = g.next; is = run z q ∙ g.is; like = g.like; coder_is = g.coder_is ∙ ap (λ (ds : Decided). state_after bytes z.coder ds) (sym ds) })
      (λ q.
      let ds = rows_list p (same z p c l ∙ q) in
      let g = stage.only z p c l (subst (λ (ds : Decided). SpellsFrom bytes z.coder ds) ds h) in
      record { next = g.next; is = rows z q ∙ g.is; like = g.like; coder_is = g.coder_is ∙ ap (λ (ds : Decided). state_after bytes z.coder ds) (sym ds) });
}
  where
    by_quiet : {R : Type 0} (q : Bool) → (q ≡ true → R) → (q ≡ false → R) → R
    by_quiet true f g = f refl
    by_quiet false f g = g refl

    run : (z : Progress) → is_quiet s (known_significant s z) x i ≡ true → column_at bytes s b 2 x i z ≡ read_run bytes s b x i z
    run z q = ap (λ q. cond q (read_run bytes s b x i z) (rows_at bytes s b 2 x i 0 4 z)) q

    rows : (z : Progress) → is_quiet s (known_significant s z) x i ≡ false → column_at bytes s b 2 x i z ≡ rows_at bytes s b 2 x i 0 4 z
    rows z q = ap (λ q. cond q (read_run bytes s b x i z) (rows_at bytes s b 2 x i 0 4 z)) q

    run_list : (p : BlockAtPlane) → in_run_mode s p.magnitude x i ≡ true → column_decisions s p 2 x i ≡ run_decisions s p x i (first_one p.magnitude x i)
    run_list p q = ap (λ q. cond q (run_decisions s p x i (first_one p.magnitude x i)) (rows_decisions s p 2 x i 0 4)) q

    rows_list : (p : BlockAtPlane) → in_run_mode s p.magnitude x i ≡ false → column_decisions s p 2 x i ≡ rows_decisions s p 2 x i 0 4
    rows_list p q = ap (λ q. cond q (run_decisions s p x i (first_one p.magnitude x i)) (rows_decisions s p 2 x i 0 4)) q

    same : (z : Progress) (p : BlockAtPlane) → Cut s b (start s 2 x i) z → Like s b (start s 2 x i) z p → in_run_mode s p.magnitude x i ≡ is_quiet s (known_significant s z) x i
    same z p c l = runs_is s p.magnitude x i ∙ sym (runs_like s b x i z p narrow stripe l) ∙ sym (quiet_is s b x i z narrow c)

-- a column in a pass
pub stage_column : (bytes : List ℕ) (s : BlockShape) (b pass x i : ℕ) → x < s.width → i < stripes s → pass < 3
    → Stage bytes s b (start s pass x i) (start s pass x i + 4) (column_at bytes s b pass x i) (λ p. column_decisions s p pass x i)
stage_column bytes s b pass x i narrow stripe few = by_pass pass few
  where
    by_rows : (pass : ℕ) → pass < 3 → Stage bytes s b (start s pass x i) (start s pass x i + 4) (rows_at bytes s b pass x i 0 4) (λ p. rows_decisions s p pass x i 0 4)
    by_rows pass few =
        stage_at bytes s b (start s pass x i + 0) (start s pass x i + (0 + 4)) (start s pass x i) (start s pass x i + 4) (rows_at bytes s b pass x i 0 4) (λ p. rows_decisions s p pass x i 0 4) (omega arith) refl
        (stage_rows bytes s b pass x i 0 4 narrow stripe few (omega arith))

    by_pass : (pass : ℕ) → pass < 3 → Stage bytes s b (start s pass x i) (start s pass x i + 4) (column_at bytes s b pass x i) (λ p. column_decisions s p pass x i)
    by_pass zero l = first_columns bytes s b 0 x i refl (by_rows 0 l)
    by_pass (suc zero) l = first_columns bytes s b 1 x i refl (by_rows 1 l)
    by_pass (suc (suc zero)) l = last_columns bytes s b x i narrow stripe (by_rows 2 l)
    by_pass (suc (suc (suc n))) l = absurd (omega arith)
