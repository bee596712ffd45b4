-- A column in run mode.
use Rattle.std.proofs.Common.{◌≡◌, ℕ, zero, suc, ◌+◌, ◌-◌, ◌*◌, ◌<◌, Bool, true, false, cond, List, [], ◌∷◌, ◌++◌, Result, Ok, refl, sym, ap, ◌∙◌, subst, inl, inr, arith}
use Rattle.std.specs.Prelude.{nat_eq, nat_lt, nat_le}
use Rattle.std.proofs.lemmas.Bool.{cases_lt}
use Rattle.std.proofs.lemmas.Bool.Decides.{nat_tests}
use Rattle.jk_math.specs.declared.fault.Fault.{Fault}
use Rattle.jk_math.specs.Answer.{◌>>=◌}
use Rattle.jk_math.specs.Steps.{bind_then, done, ok_is}
use Rattle.jk_model.specs.Decisions.{State, after, state_after, SpellsFrom}
use Rattle.jk_scan.specs.declared.shape.BlockShape.{BlockShape}
use Rattle.jk_scan.specs.Contexts.{run_length, uniform}
use Rattle.jk_scan.specs.Neighbours.{sign_in}
use Rattle.jk_scan.specs.Moments.{number, stripes, visits}
use Rattle.jk_scan.specs.Passes.{BlockAtPlane, Decided, is_one, flipped, sign_decision, rows_decisions, first_one, run_decisions}
use Rattle.jk_block.specs.Reading.{Progress, known_significant, decide, with_coder, coded_as, read_sign, rows_at, row_named, read_from, read_run}
use Rattle.jk_block.proofs.Spelling.{Told, told_join, decide_told, told_decide, spells_parts, state_join}
use Rattle.jk_block.proofs.Stages.{Cut, Like, Goes, Stage, stage_at}
use Rattle.jk_block.proofs.Changes.{Change, like_before, change_cut, change_back, change_only, change_bit, change_sign}
use Rattle.jk_block.proofs.Seeing.{sign_like}
use Rattle.jk_block.proofs.Coding.{put_here, SignRead, sign_read, sign_told, sign_goes, put_change, above_dark, with_visited}
use Rattle.jk_block.proofs.Places.{kept_visits}
use Rattle.jk_block.proofs.Rows.{start, stage_rows, Still, due_row, zeros_cut, zeros_only, rows_zero, first_is, First, first_has}

pub cut_coder : (s : BlockShape) (b t : ℕ) (z : Progress) (c : State) → Cut s b t z → Cut s b t (with_coder z c)
cut_coder s b t z c h = record { whole = h.whole; even = h.even; visited = h.visited }

pub like_coder : (s : BlockShape) (b t : ℕ) (z : Progress) (c : State) (p : BlockAtPlane) → Like s b t z p → Like s b t (with_coder z c) p
like_coder s b t z c p h = record { agree = h.agree; outside = h.outside; signs = h.signs }

pub like_uncoder : (s : BlockShape) (b t : ℕ) (z : Progress) (c : State) (p : BlockAtPlane) → Like s b t (with_coder z c) p → Like s b t z p
like_uncoder s b t z c p h = record { agree = h.agree; outside = h.outside; signs = h.signs }

pub still_coder : (s : BlockShape) (b x i : ℕ) (z : Progress) (c : State) → Still s b x i z → Still s b x i (with_coder z c)
still_coder s b x i z c h = record { narrow = h.narrow; stripe = h.stripe; inside = h.inside; left = h.left; empty = h.empty }

pub dark_zero : (m : ℕ) → m ≡ 0 → nat_lt 0 m ≡ false
dark_zero m e = ap (nat_lt 0) e

-- the first significant row of a run and what follows
pub from_decisions : BlockShape → BlockAtPlane → (x i f : ℕ) → Decided
from_decisions s p x i f = (sign_decision s p (2 * visits s + number s.width x (4 * i + f)) x (4 * i + f) ∷ []) ++ rows_decisions s p 2 x i (f + 1) (3 - f)

pub record FromRead (bytes : List ℕ) (s : BlockShape) (b x i f : ℕ) (z z' : Progress) : Type 0 where
  pub middle : Progress
  pub sign : SignRead bytes s b x (4 * i + f) z middle
  pub change : Change s b 2 x (4 * i + f) z middle true
  pub rest : rows_at bytes s b 2 x i (f + 1) (3 - f) middle ≡ Ok z'

pub from_read : (bytes : List ℕ) (s : BlockShape) (b x i f : ℕ) (z z' : Progress) → Still s b x i z → f < 4 → read_from bytes s b x i f z ≡ Ok z' → FromRead bytes s b x i f z z'
unfolding with_visited
from_read bytes s b x i f z z' still l e =
    bind_then (read_sign bytes s b x (4 * i + f) z) (rows_at bytes s b 2 x i (f + 1) (3 - f)) z' e
    (λ m h r.
    let sr = sign_read bytes s b x (4 * i + f) z m h in
    let negative = flipped (sign_in s (known_significant s z) z.negative x (4 * i + f)).flip sr.bit in
    record {
      middle = m;
      sign = sr;
      change = subst (λ (w : Progress). Change s b 2 x (4 * i + f) z w true) sr.then_is
          (put_change s b 2 x (4 * i + f) true negative z z.visited sr.coder (kept_visits x (4 * i + f) 1 z.visited) (λ known_significant. absurd (not_empty (z.magnitude x (4 * i + f)) (still.empty f l) known_significant)) (above_dark b (z.magnitude x (4 * i + f)) (dark_zero (z.magnitude x (4 * i + f)) (still.empty f l))));
      rest = r;
    })
  where
    not_empty : (m : ℕ) → m ≡ 0 → nat_lt 0 m ≡ true → ⊥
    not_empty m e h = grind (arith, nat_tests)

pub rows_behind : (bytes : List ℕ) (s : BlockShape) (b x i f : ℕ) → x < s.width → i < stripes s → f < 4
    → Stage bytes s b (start s 2 x i + f + 1) (start s 2 x i + 4) (rows_at bytes s b 2 x i (f + 1) (3 - f)) (λ p. rows_decisions s p 2 x i (f + 1) (3 - f))
rows_behind bytes s b x i f narrow stripe l =
    stage_at bytes s b (start s 2 x i + (f + 1)) (start s 2 x i + ((f + 1) + (3 - f))) (start s 2 x i + f + 1) (start s 2 x i + 4) (rows_at bytes s b 2 x i (f + 1) (3 - f)) (λ p. rows_decisions s p 2 x i (f + 1) (3 - f)) (omega arith) (ap (λ k. start s 2 x i + k) (let e : (f + 1) + (3 - f) ≡ 4 = omega arith in e))
    (stage_rows bytes s b 2 x i (f + 1) (3 - f) narrow stripe (omega arith) (omega arith))

pub from_onward : (bytes : List ℕ) (s : BlockShape) (b x i f : ℕ) (z z' : Progress) → Still s b x i z → f < 4 → Cut s b (start s 2 x i) z → read_from bytes s b x i f z ≡ Ok z' → Cut s b (start s 2 x i + 4) z'
from_onward bytes s b x i f z z' still l cut e =
    let r = from_read bytes s b x i f z z' still l e in
    (rows_behind bytes s b x i f still.narrow still.stripe l).onward r.middle z'
    (change_cut s b (start s 2 x i + f) 2 x (4 * i + f) z r.middle true (zeros_cut s b x i f z still (omega arith) cut) (due_row s b x i f z still l) r.change) r.rest

pub record FromBack (bytes : List ℕ) (s : BlockShape) (b x i f : ℕ) (z z' : Progress) (p : BlockAtPlane) : Type 0 where
  pub like : Like s b (start s 2 x i) z p
  pub first : first_one p.magnitude x i ≡ f
  pub told : Told bytes z.coder (from_decisions s p x i f) z'.coder

pub from_back : (bytes : List ℕ) (s : BlockShape) (b x i f : ℕ) (z z' : Progress) (p : BlockAtPlane) → Still s b x i z → f < 4 → Cut s b (start s 2 x i) z → read_from bytes s b x i f z ≡ Ok z' → Like s b (start s 2 x i + 4) z' p → FromBack bytes s b x i f z z' p
unfolding from_decisions
from_back bytes s b x i f z z' p still l cut e like =
    let r = from_read bytes s b x i f z z' still l e in
    let t = start s 2 x i + f in
    let y = 4 * i + f in
    let cut_f = zeros_cut s b x i f z still (omega arith) cut in
    let due = due_row s b x i f z still l in
    let cut_m = change_cut s b t 2 x y z r.middle true cut_f due r.change in
    let behind = (rows_behind bytes s b x i f still.narrow still.stripe l).back r.middle z' cut_m r.rest p like in
    let like_f = change_back s b t 2 x y z r.middle true p cut_f due r.change behind.0 in
    let one = change_bit s b t 2 x y z r.middle true p cut_f due r.change behind.0 in
    let sign = sign_told bytes s b t x y z r.middle p r.sign (sign_like s b t z p cut_f like_f x y) (change_sign s b t 2 x y z r.middle p cut_f due r.change behind.0) in
    record {
      like = like_before s b (start s 2 x i) t z p (omega arith) like_f;
      first = first_is p.magnitude x i f (omega arith) (λ k h. even (p.magnitude x (4 * i + k)) (rows_zero s b x i k f z p still (omega arith) h like_f)) (λ _. one);
      told = told_join bytes z.coder r.middle.coder z'.coder (sign_decision s p (2 * visits s + number s.width x y) x y ∷ []) (rows_decisions s p 2 x i (f + 1) (3 - f))
          (subst (λ (u : ℕ). Told bytes z.coder (sign_decision s p u x y ∷ []) r.middle.coder) due.now sign) behind.1;
    }
  where
    even : (m : ℕ) → m ≡ 0 → is_one m ≡ false
    even m e = grind (arith, nat_tests)

pub from_only : (bytes : List ℕ) (s : BlockShape) (b x i f : ℕ) (z : Progress) (p : BlockAtPlane) → Still s b x i z → f < 4 → Cut s b (start s 2 x i) z → First p.magnitude x i f → Like s b (start s 2 x i) z p
    → SpellsFrom bytes z.coder (from_decisions s p x i f) → Goes s b (start s 2 x i + 4) (read_from bytes s b x i f z) p (state_after bytes z.coder (from_decisions s p x i f))
unfolding from_decisions with_visited
from_only bytes s b x i f z p still l cut first like spelled =
    let t = start s 2 x i + f in
    let y = 4 * i + f in
    let cut_f = zeros_cut s b x i f z still (omega arith) cut in
    let due = due_row s b x i f z still l in
    let like_f = zeros_only s b x i f z p still (omega arith) cut first.below like in
    let signs = sign_decision s p (2 * visits s + number s.width x y) x y ∷ [] in
    let rows = rows_decisions s p 2 x i (f + 1) (3 - f) in
    let parts = spells_parts bytes z.coder signs rows spelled in
    let middle = with_coder (coded_as b x y true (p.negative x y) z) (state_after bytes z.coder signs) in
    let is : read_sign bytes s b x y z ≡ Ok middle =
    subst (λ (u : ℕ). read_sign bytes s b x y z ≡ done (with_coder (coded_as b x y true (p.negative x y) z) (state_after bytes z.coder (sign_decision s p u x y ∷ [])))) due.now
    (sign_goes bytes s b t x y z p (sign_like s b t z p cut_f like_f x y) (subst (λ (u : ℕ). SpellsFrom bytes z.coder (sign_decision s p u x y ∷ [])) (sym due.now) parts.0)) in
    let change : Change s b 2 x y z middle true =
    put_change s b 2 x y true (p.negative x y) z z.visited (state_after bytes z.coder signs) (kept_visits x y 1 z.visited) (λ known_significant. absurd (not_empty (z.magnitude x y) (still.empty f l) known_significant)) (above_dark b (z.magnitude x y) (dark_zero (z.magnitude x y) (still.empty f l))) in
    let like_m = change_only s b t 2 x y z middle true p cut_f due change like_f (sym (first.here l)) (λ _. put_here z.negative x y (p.negative x y)) in
    let behind = (rows_behind bytes s b x i f still.narrow still.stripe l).only middle p (change_cut s b t 2 x y z middle true cut_f due change) like_m parts.1 in
    record {
      next = behind.next;
      is = ap (λ (r : Result Progress Fault). r >>= rows_at bytes s b 2 x i (f + 1) (3 - f)) is ∙ behind.is;
      like = behind.like;
      coder_is = behind.coder_is ∙ sym (state_join bytes z.coder signs rows);
    }
  where
    not_empty : (m : ℕ) → m ≡ 0 → nat_lt 0 m ≡ true → ⊥
    not_empty m e h = grind (arith, nat_tests)

-- the decisions of a run, by its first row
pub run_none : (s : BlockShape) (p : BlockAtPlane) (x i f : ℕ) → f ≡ 4 → run_decisions s p x i f ≡ ((run_length, false) ∷ [])
unfolding run_decisions
run_none s p x i f e = ap (λ f. cond (nat_eq f 4) ((run_length, false) ∷ []) (((run_length, true) ∷ (uniform, nat_le 2 f) ∷ (uniform, is_one f) ∷ sign_decision s p (2 * visits s + number s.width x (4 * i + f)) x (4 * i + f) ∷ []) ++ rows_decisions s p 2 x i (f + 1) (3 - f))) e

pub run_some : (s : BlockShape) (p : BlockAtPlane) (x i f : ℕ) → f < 4 → run_decisions s p x i f ≡ ((run_length, true) ∷ (uniform, nat_le 2 f) ∷ (uniform, is_one f) ∷ from_decisions s p x i f)
unfolding run_decisions from_decisions
run_some s p x i f l = ap (λ q. cond q ((run_length, false) ∷ []) (((run_length, true) ∷ (uniform, nat_le 2 f) ∷ (uniform, is_one f) ∷ sign_decision s p (2 * visits s + number s.width x (4 * i + f)) x (4 * i + f) ∷ []) ++ rows_decisions s p 2 x i (f + 1) (3 - f))) (let e : nat_eq f 4 ≡ false = grind (arith, nat_tests) in e)

pub named_less : (h l : Bool) → row_named h l < 4
named_less true true = omega arith
named_less true false = omega arith
named_less false true = omega arith
named_less false false = omega arith

pub named_high : (h l : Bool) → nat_le 2 (row_named h l) ≡ h
named_high true true = refl
named_high true false = refl
named_high false true = refl
named_high false false = refl

pub named_low : (h l : Bool) → is_one (row_named h l) ≡ l
named_low true true = refl
named_low true false = refl
named_low false true = refl
named_low false false = refl

pub named_is : (f : ℕ) → f < 4 → row_named (nat_le 2 f) (is_one f) ≡ f
named_is zero l = refl
named_is (suc zero) l = refl
named_is (suc (suc zero)) l = refl
named_is (suc (suc (suc zero))) l = refl
named_is (suc (suc (suc (suc f)))) l = absurd (omega arith)

-- how a run was read
pub run_rest : List ℕ → BlockShape → (b x i : ℕ) → Progress → Bool × State → Result Progress Fault
run_rest bytes s b x i z d =
    cond d.0 (decide bytes uniform d.1 >>= λ high. decide bytes uniform high.1 >>= λ low. read_from bytes s b x i (row_named high.0 low.0) (with_coder z low.1)) (done (with_coder z d.1))

pub record RunBack (bytes : List ℕ) (s : BlockShape) (b x i : ℕ) (z z' : Progress) (p : BlockAtPlane) : Type 0 where
  pub like : Like s b (start s 2 x i) z p
  pub told : Told bytes z.coder (run_decisions s p x i (first_one p.magnitude x i)) z'.coder

pub run_cases : {R : Type 0} (bytes : List ℕ) (s : BlockShape) (b x i : ℕ) (z z' : Progress) → read_run bytes s b x i z ≡ Ok z'
    → ((c : State) → decide bytes run_length z.coder ≡ Ok (false, c) → with_coder z c ≡ z' → R)
    → ((c h l : State) (high low : Bool) → decide bytes run_length z.coder ≡ Ok (true, c) → decide bytes uniform c ≡ Ok (high, h) → decide bytes uniform h ≡ Ok (low, l) → read_from bytes s b x i (row_named high low) (with_coder z l) ≡ Ok z' → R) → R
unfolding read_run run_rest
run_cases {R} bytes s b x i z z' e none some = bind_then (decide bytes run_length z.coder) (run_rest bytes s b x i z) z' e (λ d is r. by_bit d.0 d.1 is r)
  where
    by_bit : (bit : Bool) (c : State) → decide bytes run_length z.coder ≡ Ok (bit, c) → run_rest bytes s b x i z (bit, c) ≡ Ok z' → R
    by_bit false c is r = none c is (ok_is (with_coder z c) z' r)
    by_bit true c is r =
        bind_then (decide bytes uniform c) (λ high. decide bytes uniform high.1 >>= λ low. read_from bytes s b x i (row_named high.0 low.0) (with_coder z low.1)) z' r
        (λ h is_h r_h. bind_then (decide bytes uniform h.1) (λ low. read_from bytes s b x i (row_named h.0 low.0) (with_coder z low.1)) z' r_h
        (λ l is_l r_l. some c h.1 l.1 h.0 l.0 is is_h is_l r_l))

pub run_onward : (bytes : List ℕ) (s : BlockShape) (b x i : ℕ) (z z' : Progress) → Still s b x i z → Cut s b (start s 2 x i) z → read_run bytes s b x i z ≡ Ok z' → Cut s b (start s 2 x i + 4) z'
run_onward bytes s b x i z z' still cut e =
    run_cases bytes s b x i z z' e
    (λ c is same. subst (λ (w : Progress). Cut s b (start s 2 x i + 4) w) same (cut_coder s b (start s 2 x i + 4) z c (zeros_cut s b x i 4 z still (omega arith) cut)))
    (λ c h l high low is is_h is_l r. from_onward bytes s b x i (row_named high low) (with_coder z l) z' (still_coder s b x i z l still) (named_less high low) (cut_coder s b (start s 2 x i) z l cut) r)

pub run_back : (bytes : List ℕ) (s : BlockShape) (b x i : ℕ) (z z' : Progress) (p : BlockAtPlane) → Still s b x i z → Cut s b (start s 2 x i) z → read_run bytes s b x i z ≡ Ok z' → Like s b (start s 2 x i + 4) z' p → RunBack bytes s b x i z z' p
run_back bytes s b x i z z' p still cut e like =
    run_cases bytes s b x i z z' e
    (λ c is same.
    let like_z = like_uncoder s b (start s 2 x i + 4) z c p (subst (λ (w : Progress). Like s b (start s 2 x i + 4) w p) (sym same) like) in
    let four = first_is p.magnitude x i 4 (omega arith) (λ k h. even (p.magnitude x (4 * i + k)) (rows_zero s b x i k 4 z p still h h like_z)) (λ h. absurd (omega arith)) in
    record {
      like = like_before s b (start s 2 x i) (start s 2 x i + 4) z p (omega arith) like_z;
      told = subst (λ (w : Progress). Told bytes z.coder (run_decisions s p x i (first_one p.magnitude x i)) w.coder) same
          (subst (λ (ds : Decided). Told bytes z.coder ds c) (sym (run_none s p x i (first_one p.magnitude x i) four)) (decide_told bytes run_length z.coder c false is));
    })
    (λ c h l high low is is_h is_l r.
    let f = row_named high low in
    let back = from_back bytes s b x i f (with_coder z l) z' p (still_coder s b x i z l still) (named_less high low) (cut_coder s b (start s 2 x i) z l cut) r like in
    let ds : run_decisions s p x i f ≡ ((run_length, true) ∷ (uniform, high) ∷ (uniform, low) ∷ from_decisions s p x i f) =
    run_some s p x i f (named_less high low) ∙ ap (λ (b : Bool). (run_length, true) ∷ (uniform, b) ∷ (uniform, is_one f) ∷ from_decisions s p x i f) (named_high high low)
    ∙ ap (λ (b : Bool). (run_length, true) ∷ (uniform, high) ∷ (uniform, b) ∷ from_decisions s p x i f) (named_low high low) in
    record {
      like = like_uncoder s b (start s 2 x i) z l p back.like;
      told = subst (λ (ds : Decided). Told bytes z.coder ds z'.coder) (sym (ap (run_decisions s p x i) back.first ∙ ds))
          (told_join bytes z.coder c z'.coder ((run_length, true) ∷ []) ((uniform, high) ∷ (uniform, low) ∷ from_decisions s p x i f) (decide_told bytes run_length z.coder c true is)
          (told_join bytes c h z'.coder ((uniform, high) ∷ []) ((uniform, low) ∷ from_decisions s p x i f) (decide_told bytes uniform c h high is_h)
          (told_join bytes h l z'.coder ((uniform, low) ∷ []) (from_decisions s p x i f) (decide_told bytes uniform h l low is_l) back.told)));
    })
  where
    even : (m : ℕ) → m ≡ 0 → is_one m ≡ false
    even m e = grind (arith, nat_tests)

pub run_goes : (bytes : List ℕ) (s : BlockShape) (b x i f : ℕ) (z : Progress) (p : BlockAtPlane) → Still s b x i z → Cut s b (start s 2 x i) z → f < 4 → First p.magnitude x i f → Like s b (start s 2 x i) z p
    → SpellsFrom bytes z.coder ((run_length, true) ∷ (uniform, nat_le 2 f) ∷ (uniform, is_one f) ∷ from_decisions s p x i f)
    → Goes s b (start s 2 x i + 4) (read_run bytes s b x i z) p (state_after bytes z.coder ((run_length, true) ∷ (uniform, nat_le 2 f) ∷ (uniform, is_one f) ∷ from_decisions s p x i f))
unfolding read_run
run_goes bytes s b x i f z p still cut l first like h =
    let c = after bytes z.coder run_length in
    let d = after bytes c uniform in
    let e = after bytes d uniform in
    let g = from_only bytes s b x i f (with_coder z e) p (still_coder s b x i z e still) l (cut_coder s b (start s 2 x i) z e cut) first (like_coder s b (start s 2 x i) z e p like) (h.3.3.3) in
    let low_step : Bool → Bool × State → Result Progress Fault = λ high low. read_from bytes s b x i (row_named high low.0) (with_coder z low.1) in
    let high_step : Bool × State → Result Progress Fault = λ high. decide bytes uniform high.1 >>= low_step high.0 in
    let one : decide bytes run_length z.coder ≡ done (true, c) = told_decide bytes run_length z.coder true (h.0, h.1, h.2, tt) in
    let two : decide bytes uniform c ≡ done (nat_le 2 f, d) = told_decide bytes uniform c (nat_le 2 f) (h.3.0, h.3.1, h.3.2, tt) in
    let three : decide bytes uniform d ≡ done (is_one f, e) = told_decide bytes uniform d (is_one f) (h.3.3.0, h.3.3.1, h.3.3.2, tt) in
    record {
      next = g.next;
      is = ap (λ (r : Result (Bool × State) Fault). r >>= λ d. cond d.0 (decide bytes uniform d.1 >>= high_step) (done (with_coder z d.1))) one
          ∙ ap (λ (r : Result (Bool × State) Fault). r >>= high_step) two
          ∙ ap (λ (r : Result (Bool × State) Fault). r >>= low_step (nat_le 2 f)) three
          ∙ ap (λ f. read_from bytes s b x i f (with_coder z e)) (named_is f l) ∙ g.is;
      like = g.like;
      coder_is = g.coder_is;
    }

pub run_only : (bytes : List ℕ) (s : BlockShape) (b x i : ℕ) (z : Progress) (p : BlockAtPlane) → Still s b x i z → Cut s b (start s 2 x i) z → Like s b (start s 2 x i) z p
    → SpellsFrom bytes z.coder (run_decisions s p x i (first_one p.magnitude x i)) → Goes s b (start s 2 x i + 4) (read_run bytes s b x i z) p (state_after bytes z.coder (run_decisions s p x i (first_one p.magnitude x i)))
unfolding read_run
run_only bytes s b x i z p still cut like spelled =
    let f = first_one p.magnitude x i in
    let first = first_has p.magnitude x i in
    elim (cases_lt f 4) [
      | inl l ↦
          let ds = run_some s p x i f l in
          subst (λ (ds : Decided). Goes s b (start s 2 x i + 4) (read_run bytes s b x i z) p (state_after bytes z.coder ds)) (sym ds)
          (run_goes bytes s b x i f z p still cut l first like (subst (λ (ds : Decided). SpellsFrom bytes z.coder ds) ds spelled))
      | inr most ↦
          let four : f ≡ 4 = let m = first.most in omega arith in
          let ds = run_none s p x i f four in
          let c = after bytes z.coder run_length in
          let is : decide bytes run_length z.coder ≡ done (false, c) = told_decide bytes run_length z.coder false (subst (λ (ds : Decided). SpellsFrom bytes z.coder ds) ds spelled) in
          let like_4 = zeros_only s b x i 4 z p still (omega arith) cut (λ k h. first.below k (omega arith)) like in
          record {
            next = with_coder z c;
            is = ap (λ (r : Result (Bool × State) Fault). r >>= λ d. cond d.0 (decide bytes uniform d.1 >>= λ high. decide bytes uniform high.1 >>= λ low. read_from bytes s b x i (row_named high.0 low.0) (with_coder z low.1)) (done (with_coder z d.1))) is;
            like = like_coder s b (start s 2 x i + 4) z c p like_4;
            coder_is = ap (λ (ds : Decided). state_after bytes z.coder ds) (sym ds);
          }
    ]
