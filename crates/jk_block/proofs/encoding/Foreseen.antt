-- A word listed in the significance propagation pass, where the places that it codes are known
-- before.
use Rattle.std.proofs.Common.{◌≡◌, ℕ, ◌+◌, ◌-◌, ◌*◌, ◌/◌, ◌%◌, ◌^◌, ◌<◌, ◌≤◌, Bool, true, false, not, List, ◌++◌, refl, sym, ap, ◌∙◌, subst, inl, inr, arith}
use Rattle.std.specs.Prelude.{◌&&◌, ◌||◌, nat_eq, nat_le}
use Rattle.std.specs.Int.{trailing_zeros, bit_not, w64}
use Rattle.std.specs.Int.RustNames.{bit_or, bit_and}
use Rattle.std.proofs.lemmas.Bool.{cases_lt, and_parts}
use Rattle.std.proofs.lemmas.Bool.Decides.{nat_tests}
use Rattle.std.proofs.lemmas.Nat.{or_lt, and_le_l, and_le_r, pow_pos}
use Rattle.std.proofs.Math.Nat.{mod-lt}
use Rattle.jk_scan.specs.declared.around.Around.{Around}
use Rattle.jk_scan.specs.Bits.{on}
use Rattle.jk_scan.specs.Neighbours.{Field, is_inside, seen_from}
use Rattle.jk_scan.specs.Moments.{stripes}
use Rattle.jk_scan.specs.Passes.{Decided, is_one, new_decisions}
use Rattle.jk_scan.specs.Words.{Truths, of_rows, Shows, bordered, is_member}
use Rattle.jk_scan.specs.WordPlaces.{column, row, also}
use Rattle.jk_scan.specs.Surroundings.{IsAround, Turns}
use Rattle.jk_scan.specs.WordNumbers.{byte_at}
use Rattle.jk_scan.proofs.Laws.{lowest, rest_at, taken, on_or, on_and, on_not, on_set, on_zero, on_shl_any, step_is}
use Rattle.jk_block.specs.encoding.Reached.{is_reached}
use Rattle.jk_block.specs.Steps.{IsBitPlace}
use Rattle.jk_block.specs.declared.encoding.plane.BlockPlane.{BlockPlane}
use Rattle.jk_block.specs.declared.word_place.WordPlace.{WordPlace}
use Rattle.jk_block.specs.encoding.Viewed.{seen, significant_at, moment_at, SpellsBit, SpellsSign, seen_at}
use Rattle.jk_block.proofs.encoding.Coming.{mag, Told, told_none}
use Rattle.jk_block.proofs.encoding.Propagated.{Awaits, awaits_all, awaits_rest, awaits_more, Propagated, propagated_to, NextSpread, propagated_next, propagated_place, significant_place, one_is}
use Rattle.jk_block.proofs.encoding.Timing.{codes}
use Rattle.jk_block.proofs.encoding.Reaching.{reach_same, reach_none, reach_both}
use Rattle.jk_block.proofs.WordBits.{true_le, is_spread, around_also, none_before}

is_le : (n m : ℕ) → n ≤ m → nat_le n m ≡ true
is_le n m h = grind (arith, nat_tests)

not_le : (n m : ℕ) → m < n → nat_le n m ≡ false
not_le n m h = grind (arith, nat_tests)

-- of truth values
no_first : (a c x : Bool) → a ≡ (c || x) → a ≡ false → c ≡ false
no_first a c x e g = grind (arith, nat_tests)

no_both : (w a o : Bool) → a ≡ false → (w || (a && o)) ≡ w
no_both w a o e = grind (arith, nat_tests)

other : (a b e : Bool) → a ≡ b → e ≡ false → (a || e) ≡ b
other a b e g h = grind (arith, nat_tests)

hit : (x w a o e : Bool) → a ≡ true → o ≡ true → e ≡ true → (w || (a && o)) ≡ (x || e)
hit x w a o e g h k = grind (arith, nat_tests)

and_same : {a b a' b' : Bool} → a ≡ a' → b ≡ b' → (a && b) ≡ (a' && b')
and_same e g = cc

and_true : (a b : Bool) → a ≡ true → (a && b) ≡ b
and_true a b e = grind (arith, nat_tests)

taken_more : (c c' f r s i w t : Bool) → c' ≡ c → f ≡ (i && not w) → t ≡ ((s && i) && not w) → (c || (f && (r || (true && s)))) ≡ ((c' || t) || (f && r))
taken_more c c' f r s i w t e g h = grind (arith, nat_tests)

source_below : (n k z : ℕ) (a o : Bool) → k < n → k < z → (nat_le n k && a) ≡ ((nat_le (z + 1) k && a) || (nat_eq k z && o))
source_below n k z a o p q = grind (arith, nat_tests)

source_between : (n k z : ℕ) (a b o : Bool) → a ≡ false → k < z → (nat_le n k && (a && b)) ≡ ((nat_le (z + 1) k && (a && b)) || (nat_eq k z && o))
source_between n k z a b o e q = grind (arith, nat_tests)

source_beyond : (n k z : ℕ) (a o : Bool) → n ≤ z → z < k → (nat_le n k && a) ≡ ((nat_le (z + 1) k && a) || (nat_eq k z && o))
source_beyond n k z a o p q = grind (arith, nat_tests)

source_here : (n k z : ℕ) (a b o : Bool) → n ≤ z → k ≡ z → a ≡ true → b ≡ o → (nat_le n k && (a && b)) ≡ ((nat_le (z + 1) k && (a && b)) || (nat_eq k z && o))
source_here n k z a b o p e g h = grind (arith, nat_tests)

steps_from : (z : ℕ) (o : Bool) (m : ℕ) → z < m
    → ((((nat_le 1 m && (nat_eq (m - 1) z && o)) || (nat_le 7 m && (nat_eq (m - 7) z && o))) || (nat_le 8 m && (nat_eq (m - 8) z && o))) || (nat_le 9 m && (nat_eq (m - 9) z && o)))
    ≡ (o && (nat_eq (m - z) 1 || (nat_eq (m - z) 7 || (nat_eq (m - z) 8 || nat_eq (m - z) 9))))
steps_from z o m less = grind (arith, nat_tests)

no_second : (w a o : Bool) → o ≡ false → (w || (a && o)) ≡ w
no_second w a o e = grind (arith, nat_tests)

taken_none : (c c' f r : Bool) → c' ≡ c → (c || (f && (r || false))) ≡ (c' || (f && r))
taken_none c c' f r e = grind (arith, nat_tests)

apart : (m z : ℕ) → z + 1 ≤ m → nat_eq m z ≡ false
apart m z h = grind (arith, nat_tests)

apart_below : (m z : ℕ) → m < z → nat_eq m z ≡ false
apart_below m z h = grind (arith, nat_tests)

together : (m z : ℕ) → m ≡ z → nat_eq m z ≡ true
together m z h = grind (arith, nat_tests)

-- what is around a word with other places of its centre
abbrev pub with_centre : ℕ → Around → Around
with_centre centre around = record { centre = centre; west = around.west; east = around.east }

-- The pass has come to bit n of a word. So far the places in `centre` are significant, and the
-- candidates are the members of the pass from there on. All members to come are the candidates, and
-- what will be reached from members to come with the bit 1.
pub record Foreseen (v : BlockPlane) (at : WordPlace) (old list : Decided) (around : Around) (inside ones all rest : ℕ) : Type 0 where
  pub n : ℕ
  pub centre : ℕ
  pub candidates : ℕ
  pub centre_fits : centre < 2 ^ 64
  pub fits : candidates < 2 ^ 64
  pub coming : Told v 0 at n old list
  pub shown : IsAround (bordered (seen_at v (moment_at v.shape 0 at.word at.stripe n) at.stripe)) at.word at.stripe (with_centre centre around)
  pub awaits : Awaits v.shape (significant_at v (moment_at v.shape 0 at.word at.stripe n)) at.word at.stripe n candidates
  pub known : (m : ℕ) → m < n → on all m ≡ codes v.shape (mag v) 0 at.word at.stripe m
  pub turns : Turns centre (bit_or around.centre (bit_and all ones)) around.centre n
  pub rest_is : (m : ℕ) → m < 64 → on rest m ≡ (nat_le n m && on all m)
  pub ahead : (m : ℕ) → n ≤ m → m < 64 → on all m ≡ (on candidates m || (on (bit_and inside (bit_not w64 around.centre)) m && is_reached (λ k. nat_le n k && (on all k && on ones k)) m))

abbrev propagated_of : (v : BlockPlane) (at : WordPlace) (old list : Decided) (around : Around) (inside ones all rest : ℕ) (h : Foreseen v at old list around inside ones all rest) → Propagated v at old list (with_centre h.centre around) h.candidates
propagated_of v at old list around inside ones all rest h = record { n = h.n; coming = h.coming; shown = h.shown; awaits = h.awaits }

pub foreseen_none : (v : BlockPlane) (at : WordPlace) (list : Decided) (around : Around) (inside ones all candidates : ℕ) → at.stripe < stripes v.shape → around.centre < 2 ^ 64 → candidates < 2 ^ 64
    → IsAround (bordered (seen_at v (moment_at v.shape 0 at.word at.stripe 0) at.stripe)) at.word at.stripe around
    → Shows of_rows (is_member (bordered (is_inside v.shape)) (bordered (seen_at v (moment_at v.shape 0 at.word at.stripe 0) at.stripe))) (at.word + 1) (at.stripe + 1) candidates
    → ((m : ℕ) → m < 64 → on all m ≡ (on candidates m || (on (bit_and inside (bit_not w64 around.centre)) m && is_reached (λ k. on all k && on ones k) m)))
    → Foreseen v at list list around inside ones all all
foreseen_none v at list around inside ones all candidates stripe centre_fits fits shown members all_is = record {
  n = 0;
  centre = around.centre;
  candidates = candidates;
  centre_fits = centre_fits;
  fits = fits;
  coming = told_none v 0 at list stripe;
  known = λ m l. absurd (omega (arith, l));
  shown = record { centre = shown.centre; west = shown.west; east = shown.east };
  awaits = awaits_all v.shape (significant_at v (moment_at v.shape 0 at.word at.stripe 0)) at.word at.stripe candidates members;
  turns = record { before = λ m l. absurd (omega (arith, l)); behind = λ m l h. refl };
  rest_is = λ m l. ap (λ b. b && on all m) (let e : true ≡ nat_le 0 m = grind (arith, nat_tests) in e);
  ahead = λ m l h.
      all_is m h
      ∙ ap (λ b. on candidates m || (on (bit_and inside (bit_not w64 around.centre)) m && b))
      (reach_same (λ k. on all k && on ones k) (λ k. nat_le 0 k && (on all k && on ones k)) m (λ k. ap (λ b. b && (on all k && on ones k)) (let e : true ≡ nat_le 0 k = grind (arith, nat_tests) in e)));
}

-- the bit of a place in a word that shows a field on its rows
shown_rows : (f : Truths) (j i w m : ℕ) → Shows of_rows f j i w → m < 64 → on w m ≡ (of_rows (m % 8) && f (8 * j + m / 8) (4 * i + m % 8 - 1))
shown_rows f j i w m shown l = ap (on w) (let e : m ≡ 8 * (m / 8) + m % 8 = omega arith in e) ∙ shown (m / 8) (m % 8) (omega (arith, l)) (omega arith)

-- All that are reached stand on rows, and so do some of them.
pub all_rows : (f g : Truths) (j i inside free candidates all : ℕ) (r : ℕ → Bool) → Shows of_rows f j i candidates → Shows of_rows g j i inside
    → ((m : ℕ) → m < 64 → on all m ≡ (on candidates m || (on (bit_and inside free) m && r m))) → (m : ℕ) → m < 64 → on all m ≡ true → of_rows (m % 8) ≡ true
all_rows f g j i inside free candidates all r members limits all_is m l set =
    by (on all m) (on candidates m) (on inside m) (on free m) (r m) (of_rows (m % 8)) (f (8 * j + m / 8) (4 * i + m % 8 - 1)) (g (8 * j + m / 8) (4 * i + m % 8 - 1))
    (all_is m l ∙ ap (λ b. on candidates m || (b && r m)) (on_and inside free m)) (shown_rows f j i candidates m members l) (shown_rows g j i inside m limits l) set
  where
    by : (a c n e t o p q : Bool) → a ≡ (c || ((n && e) && t)) → c ≡ (o && p) → n ≡ (o && q) → a ≡ true → o ≡ true
    by a c n e t true p q h g k x = refl
    by a c n e t false p q h g k x = grind (arith, nat_tests)

pub some_rows : (all ones : ℕ) → ((m : ℕ) → m < 64 → on all m ≡ true → of_rows (m % 8) ≡ true) → (m : ℕ) → m < 64 → on (bit_and all ones) m ≡ true → of_rows (m % 8) ≡ true
some_rows all ones rows m l set = rows m l (and_parts (on all m) (on ones m) (sym (on_and all ones m) ∙ set)).0

-- the lowest bit is the only one with none below it
lowest_is : (w z : ℕ) → w < 2 ^ 64 → z < 64 → on w z ≡ true → ((m : ℕ) → m < z → on w m ≡ false) → (0 < w) × (trailing_zeros w64 w ≡ z)
lowest_is w z fits within set clear = (some, same)
  where
    differ : (a : Bool) → a ≡ true → a ≡ false → ⊥
    differ a e g = let c : true ≡ false = sym e ∙ g in absurd cc

    some : 0 < w
    some = elim (cases_lt 0 w) [
      | inl pos ↦ pos
      | inr none ↦ absurd (differ (on w z) set (ap (λ w. on w z) (let e : w ≡ 0 = omega (arith, none) in e) ∙ on_zero z))
    ]

    same : trailing_zeros w64 w ≡ z
    same =
        let l = lowest w some fits in
        elim (cases_lt (trailing_zeros w64 w) z) [
          | inl less ↦ absurd (differ (on w (trailing_zeros w64 w)) l.1 (clear (trailing_zeros w64 w) less))
          | inr more ↦ elim (cases_lt z (trailing_zeros w64 w)) [
            | inl above ↦ absurd (differ (on w z) set (l.2 z above))
            | inr not_above ↦ omega (arith, more, not_above)
          ]
        ]

-- the next place that is coded
pub record NextForeseen (v : BlockPlane) (at : WordPlace) (around : Around) (ones all rest n candidates : ℕ) : Type 0 where
  pub some : 0 < candidates
  pub is : trailing_zeros w64 candidates ≡ trailing_zeros w64 rest
  pub onward : n ≤ trailing_zeros w64 rest
  pub within : trailing_zeros w64 rest < 64
  pub quiet : (m : ℕ) → n ≤ m → m < trailing_zeros w64 rest → on all m ≡ false
  pub member : on all (trailing_zeros w64 rest) ≡ true

pub foreseen_lowest : (v : BlockPlane) (at : WordPlace) (old list : Decided) (around : Around) (inside ones all rest : ℕ) (h : Foreseen v at old list around inside ones all rest) → 0 < rest → rest < 2 ^ 64
    → NextForeseen v at around ones all rest h.n h.candidates
foreseen_lowest v at old list around inside ones all rest h p q =
    let l = lowest rest p q in
    let z = trailing_zeros w64 rest in
    let within = l.0 in
    let both = and_parts (nat_le h.n z) (on all z) (sym (h.rest_is z l.0) ∙ l.1) in
    let onward : h.n ≤ z = true_le h.n z both.0 in
    let quiet : (m : ℕ) → h.n ≤ m → m < z → on all m ≡ false = λ m a b. none_before (on rest m) (nat_le h.n m) (on all m) (l.2 m b) (h.rest_is m (omega (arith, b, within))) (is_le h.n m a) in
    let unreached : is_reached (λ k. nat_le h.n k && (on all k && on ones k)) z ≡ false = reach_none (λ k. nat_le h.n k && (on all k && on ones k)) z (λ k less. off h.n k (on all k) (on ones k) (λ le. quiet k le less)) in
    let set : on h.candidates z ≡ true = only (on all z) (on h.candidates z) (on (bit_and inside (bit_not w64 around.centre)) z) (is_reached (λ k. nat_le h.n k && (on all k && on ones k)) z) (h.ahead z onward l.0) both.1 unreached in
    let clear : (m : ℕ) → m < z → on h.candidates m ≡ false = λ m less. elim (cases_lt m h.n) [
      | inl before ↦ early (on h.candidates m) (nat_le h.n m) (is_spread v.shape (significant_at v (moment_at v.shape 0 at.word at.stripe h.n)) at.word at.stripe m) (h.awaits m (omega (arith, less, within))) (not_le h.n m before)
      | inr from ↦ no_first (on all m) (on h.candidates m) (on (bit_and inside (bit_not w64 around.centre)) m && is_reached (λ k. nat_le h.n k && (on all k && on ones k)) m) (h.ahead m from (omega (arith, less, within))) (quiet m from less)
    ] in
    let low = lowest_is h.candidates z h.fits l.0 set clear in
    record { some = low.0; is = low.1; onward = onward; within = l.0; quiet = quiet; member = both.1 }
  where
    off : (n k : ℕ) (a o : Bool) → (n ≤ k → a ≡ false) → (nat_le n k && (a && o)) ≡ false
    off n k a o h = elim (cases_lt k n) [
      | inl less ↦ (let g : nat_le n k ≡ false = grind (arith, nat_tests) in ap (λ b. b && (a && o)) g)
      | inr more ↦ (let g = h more in grind (arith, nat_tests))
    ]

    only : (a c f r : Bool) → a ≡ (c || (f && r)) → a ≡ true → r ≡ false → c ≡ true
    only a c f r e g h = grind (arith, nat_tests)

    early : (c l d : Bool) → c ≡ (l && d) → l ≡ false → c ≡ false
    early c l d e g = grind (arith, nat_tests)

-- the next place, as it is coded
pub foreseen_next : (v : BlockPlane) (at : WordPlace) (old list : Decided) (around : Around) (inside ones all rest : ℕ) (h : Foreseen v at old list around inside ones all rest) → 0 < rest → rest < 2 ^ 64
    → NextSpread v at old list (with_centre h.centre around) h.n (trailing_zeros w64 rest)
foreseen_next v at old list around inside ones all rest h p q =
    let low = foreseen_lowest v at old list around inside ones all rest h p q in
    subst (λ z. NextSpread v at old list (with_centre h.centre around) h.n z) low.is
    (propagated_next v at old list (with_centre h.centre around) h.candidates (propagated_of v at old list around inside ones all rest h) low.some h.fits)

pub foreseen_turns : (v : BlockPlane) (at : WordPlace) (old list : Decided) (around : Around) (inside ones all rest : ℕ) (h : Foreseen v at old list around inside ones all rest) → 0 < rest → rest < 2 ^ 64
    → Turns h.centre (bit_or around.centre (bit_and all ones)) around.centre (trailing_zeros w64 rest)
foreseen_turns v at old list around inside ones all rest h p q =
    let low = foreseen_lowest v at old list around inside ones all rest h p q in
    let onward = low.onward in
    let within = low.within in
    record {
      before = λ m less. elim (cases_lt m h.n) [
        | inl before ↦ h.turns.before m before
        | inr from ↦ h.turns.behind m from (omega (arith, less, within)) ∙ sym (on_or around.centre (bit_and all ones) m ∙ ap (λ b. on around.centre m || b) (on_and all ones m) ∙ no_both (on around.centre m) (on all m) (on ones m) (low.quiet m from less))
      ];
      behind = λ m le l. h.turns.behind m (omega (arith, le, onward)) l;
    }

step_on : (z m : ℕ) (rest n due : Bool) (k : ℕ) → k ≤ z → rest ≡ (nat_le (z + 1) m && n) → n ≡ (nat_le k m && due) → rest ≡ (nat_le (z + 1) m && due)
step_on z m rest n due k h a b = grind (arith, nat_tests)

-- a place was listed
pub foreseen_place : (v : BlockPlane) (at : WordPlace) (old list list' : Decided) (around : Around) (inside ones all rest : ℕ) (h : Foreseen v at old list around inside ones all rest) → 0 < rest → rest < 2 ^ 64
    → inside < 2 ^ 64 → around.centre < 2 ^ 64 → Shows of_rows (bordered (is_inside v.shape)) (at.word + 1) (at.stripe + 1) inside
    → on ones (trailing_zeros w64 rest) ≡ is_one (mag v (column at.word (trailing_zeros w64 rest)) (row at.stripe (trailing_zeros w64 rest)))
    → ((t : ℕ) → IsAround (bordered (seen_at v t at.stripe)) at.word at.stripe (with_centre h.centre around) → list' ≡ list ++ new_decisions v.shape (seen v) t (column at.word (trailing_zeros w64 rest)) (row at.stripe (trailing_zeros w64 rest)))
    → Foreseen v at old list' around inside ones all (bit_and rest (rest - 1))
foreseen_place v at old list list' around inside ones all rest h p q inside_fits centre_fits limits one listed =
    by (on ones z) refl
  where
    j : ℕ
    j = at.word

    i : ℕ
    i = at.stripe

    low : NextForeseen v at around ones all rest h.n h.candidates
    low = foreseen_lowest v at old list around inside ones all rest h p q

    z : ℕ
    z = trailing_zeros w64 h.candidates

    same : z ≡ trailing_zeros w64 rest
    same = low.is

    onward : h.n ≤ z
    onward = let o = low.onward in let s = same in omega (arith, o, s)

    within : z < 64
    within = let w = low.within in let s = same in omega (arith, w, s)

    quiet : (m : ℕ) → h.n ≤ m → m < z → on all m ≡ false
    quiet m a b = low.quiet m a (let s = same in omega (arith, b, s))

    member : on all z ≡ true
    member = ap (on all) same ∙ low.member

    centre' : ℕ
    centre' = bit_or h.centre (1 * 2 ^ z % 2 ^ 64)

    w : ℕ
    w = h.candidates

    t : ℕ
    t = moment_at v.shape 0 j i z

    u : ℕ
    u = moment_at v.shape 0 j i (z + 1)

    next : NextSpread v at old list (with_centre h.centre around) h.n z
    next = propagated_next v at old list (with_centre h.centre around) w (propagated_of v at old list around inside ones all rest h) low.some h.fits

    one' : on ones z ≡ is_one (mag v (column j z) (row i z))
    one' = subst (λ z. on ones z ≡ is_one (mag v (column j z) (row i z))) (sym same) one

    coming' : Told v 0 at (z + 1) old list'
    coming' =
        propagated_place v at old list list' (with_centre h.centre around) h.n z next
        (subst (λ z. (t : ℕ) → IsAround (bordered (seen_at v t at.stripe)) at.word at.stripe (with_centre h.centre around) → list' ≡ list ++ new_decisions v.shape (seen v) t (column j z) (row i z)) (sym same) listed)

    known' : (m : ℕ) → m < z + 1 → on all m ≡ codes v.shape (mag v) 0 j i m
    known' m less = elim (cases_lt m h.n) [
      | inl before ↦ h.known m before
      | inr from ↦ elim (cases_lt m z) [
        | inl under ↦ quiet m from under ∙ sym (next.idle m from under)
        | inr last ↦ (let e : m ≡ z = omega (arith, less, last) in ap (on all) e ∙ member ∙ sym next.due ∙ sym (ap (codes v.shape (mag v) 0 j i) e))
      ]
    ]

    rest' : (m : ℕ) → m < 64 → on (bit_and rest (rest - 1)) m ≡ (nat_le (z + 1) m && on all m)
    rest' m l =
        step_on z m (on (bit_and rest (rest - 1)) m) (on rest m) (on all m) h.n onward (rest_at rest p q m ∙ ap (λ z. nat_le (z + 1) m && on rest m) (sym same)) (h.rest_is m l)

    free : (m : ℕ) → m < 64 → on (bit_and inside (bit_not w64 around.centre)) m ≡ (on inside m && not (on around.centre m))
    free m l = on_and inside (bit_not w64 around.centre) m ∙ ap (λ b. on inside m && b) (on_not w64 around.centre m centre_fits l)

    new_at : (m : ℕ) → on (bit_or around.centre (bit_and all ones)) m ≡ (on around.centre m || (on all m && on ones m))
    new_at m = on_or around.centre (bit_and all ones) m ∙ ap (λ b. on around.centre m || b) (on_and all ones m)

    source : (k : ℕ) → (nat_le h.n k && (on all k && on ones k)) ≡ ((nat_le (z + 1) k && (on all k && on ones k)) || (nat_eq k z && on ones z))
    source k = elim (cases_lt k z) [
      | inl less ↦ elim (cases_lt k h.n) [
        | inl early ↦ source_below h.n k z (on all k && on ones k) (on ones z) early less
        | inr from ↦ (let g = quiet k from less in source_between h.n k z (on all k) (on ones k) (on ones z) g less)
      ]
      | inr from ↦ elim (cases_lt z k) [
        | inl above ↦ source_beyond h.n k z (on all k && on ones k) (on ones z) onward above
        | inr not_above ↦ (let e : k ≡ z = omega (arith, from, not_above) in source_here h.n k z (on all k) (on ones k) (on ones z) onward e (ap (on all) e ∙ member) (ap (on ones) e))
      ]
    ]

    split : (m : ℕ) → is_reached (λ k. nat_le h.n k && (on all k && on ones k)) m ≡ (is_reached (λ k. nat_le (z + 1) k && (on all k && on ones k)) m || is_reached (λ k. nat_eq k z && on ones z) m)
    split m =
        reach_same (λ k. nat_le h.n k && (on all k && on ones k)) (λ k. (nat_le (z + 1) k && (on all k && on ones k)) || (nat_eq k z && on ones z)) m source
        ∙ reach_both (λ k. nat_le (z + 1) k && (on all k && on ones k)) (λ k. nat_eq k z && on ones z) m

    from_here : (o : Bool) (m : ℕ) → z < m → is_reached (λ k. nat_eq k z && o) m ≡ (o && (nat_eq (m - z) 1 || (nat_eq (m - z) 7 || (nat_eq (m - z) 8 || nat_eq (m - z) 9))))
    from_here o m less = steps_from z o m less

    kept : (m : ℕ) → z + 1 ≤ m → on (bit_and w (w - 1)) m ≡ on w m
    kept m le = rest_at w low.some h.fits m ∙ ap (λ b. b && on w m) (is_le (z + 1) m le)

    quiet_before : (m : ℕ) → m < z → on h.centre m ≡ on (bit_or around.centre (bit_and all ones)) m
    quiet_before m less = elim (cases_lt m h.n) [
      | inl before ↦ h.turns.before m before
      | inr from ↦ h.turns.behind m from (let w = within in omega (arith, less, w)) ∙ sym (new_at m ∙ no_both (on around.centre m) (on all m) (on ones m) (quiet m from less))
    ]

    by : (b : Bool) → on ones z ≡ b → Foreseen v at old list' around inside ones all (bit_and rest (rest - 1))
    by false bit = record {
      n = z + 1;
      centre = h.centre;
      candidates = bit_and w (w - 1);
      centre_fits = h.centre_fits;
      fits = (let e = and_le_l w (w - 1) in let f = h.fits in omega (arith, e, f));
      coming = coming';
      known = known';
      shown = subst (λ (f : Field Bool). IsAround (bordered (seen_from v.shape i f)) j i (with_centre h.centre around)) (sym unlit) h.shown;
      awaits = awaits_rest v.shape (significant_at v (moment_at v.shape 0 j i h.n)) (significant_at v u) j i h.n w low.some h.fits onward unlit h.awaits;
      turns = record {
        before = λ m less. elim (cases_lt m z) [
          | inl before ↦ quiet_before m before
          | inr from ↦ (let e : m ≡ z = omega (arith, less, from) in
              h.turns.behind m (let o = onward in omega (arith, o, from)) (let w = within in omega (arith, less, w)) ∙ sym (new_at m ∙ no_second (on around.centre m) (on all m) (on ones m) (ap (on ones) e ∙ bit)))
        ];
        behind = λ m le l. h.turns.behind m (let o = onward in omega (arith, o, le)) l;
      };
      rest_is = rest';
      ahead = λ m le l.
          h.ahead m (let o = onward in omega (arith, o, le)) l
          ∙ ap (λ r. on w m || (on (bit_and inside (bit_not w64 around.centre)) m && r)) (split m ∙ ap (λ b. is_reached (λ k. nat_le (z + 1) k && (on all k && on ones k)) m || b) (from_here (on ones z) m (omega (arith, le)) ∙ ap (λ o. o && (nat_eq (m - z) 1 || (nat_eq (m - z) 7 || (nat_eq (m - z) 8 || nat_eq (m - z) 9)))) bit))
          ∙ taken_none (on w m) (on (bit_and w (w - 1)) m) (on (bit_and inside (bit_not w64 around.centre)) m) (is_reached (λ k. nat_le (z + 1) k && (on all k && on ones k)) m) (kept m le);
    }
      where
        unlit : significant_at v u ≡ significant_at v (moment_at v.shape 0 j i h.n)
        unlit = (significant_place v 0 j i z (on ones z) next.coming.stripe next.due (one' ∙ one_is v 0 j i z next.due refl)).0 bit ∙ next.known_significant
    by true bit = record {
      n = z + 1;
      centre = centre';
      candidates = bit_or (bit_and w (w - 1)) (taken inside centre' z);
      centre_fits = centre'_fits;
      fits =
          or_lt 64 (bit_and w (w - 1)) (taken inside centre' z) (let e = and_le_l w (w - 1) in let f = h.fits in omega (arith, e, f))
          (let e = and_le_l (bit_and (0x382 * 2 ^ z % 2 ^ 64) inside) (bit_not w64 centre') in let g = and_le_r (0x382 * 2 ^ z % 2 ^ 64) inside in omega (arith, e, g, inside_fits));
      coming = coming';
      known = known';
      shown = around_also v.shape (significant_at v t) (significant_at v u) j i z (with_centre h.centre around) within next.place.on_row known_significant next.shown;
      awaits = awaits_more v.shape (significant_at v (moment_at v.shape 0 j i h.n)) (significant_at v u) j i h.n w inside h.centre low.some h.fits h.centre_fits within next.place.on_row onward significant_n limits h.shown.centre h.awaits;
      turns = record {
        before = λ m less. on_set h.centre z 64 m (let w = within in omega (arith, less, w)) ∙ elim (cases_lt m z) [
          | inl before ↦ other (on h.centre m) (on (bit_or around.centre (bit_and all ones)) m) (nat_eq m z) (quiet_before m before) (apart_below m z before)
          | inr from ↦ (let e : m ≡ z = omega (arith, less, from) in sym (new_at m ∙ hit (on h.centre m) (on around.centre m) (on all m) (on ones m) (nat_eq m z) (ap (on all) e ∙ member) (ap (on ones) e ∙ bit) (together m z e)))
        ];
        behind = λ m le l. late m le l;
      };
      rest_is = rest';
      ahead = λ m le l.
          h.ahead m (let o = onward in omega (arith, o, le)) l
          ∙ ap (λ r. on w m || (on (bit_and inside (bit_not w64 around.centre)) m && r)) (split m ∙ ap (λ b. is_reached (λ k. nat_le (z + 1) k && (on all k && on ones k)) m || b) (from_here (on ones z) m (omega (arith, le)) ∙ ap (λ o. o && (nat_eq (m - z) 1 || (nat_eq (m - z) 7 || (nat_eq (m - z) 8 || nat_eq (m - z) 9)))) bit))
          ∙ taken_more (on w m) (on (bit_and w (w - 1)) m) (on (bit_and inside (bit_not w64 around.centre)) m) (is_reached (λ k. nat_le (z + 1) k && (on all k && on ones k)) m) (nat_eq (m - z) 1 || (nat_eq (m - z) 7 || (nat_eq (m - z) 8 || nat_eq (m - z) 9)))
          (on inside m) (on around.centre m) (on (taken inside centre' z) m) (kept m le) (free m l) (taken_at m le l)
          ∙ sym (ap (λ b. b || (on (bit_and inside (bit_not w64 around.centre)) m && is_reached (λ k. nat_le (z + 1) k && (on all k && on ones k)) m)) (on_or (bit_and w (w - 1)) (taken inside centre' z) m));
    }
      where
        centre'_fits : centre' < 2 ^ 64
        centre'_fits = or_lt 64 h.centre (1 * 2 ^ z % 2 ^ 64) h.centre_fits (mod-lt (1 * 2 ^ z) (pow_pos 64))

        known_significant : (x y : ℕ) → significant_at v u x y ≡ also (significant_at v t) (column j z) (row i z) x y
        known_significant = (significant_place v 0 j i z (on ones z) next.coming.stripe next.due (one' ∙ one_is v 0 j i z next.due refl)).1 bit

        significant_n : (x y : ℕ) → significant_at v u x y ≡ also (significant_at v (moment_at v.shape 0 j i h.n)) (column j z) (row i z) x y
        significant_n x y = known_significant x y ∙ ap (λ (f : Field Bool). also f (column j z) (row i z) x y) next.known_significant

        late : (m : ℕ) → z + 1 ≤ m → m < 64 → on centre' m ≡ on around.centre m
        late m le l = on_set h.centre z 64 m l ∙ other (on h.centre m) (on around.centre m) (nat_eq m z) (h.turns.behind m (let o = onward in omega (arith, o, le)) l) (apart m z le)

        taken_at : (m : ℕ) → z + 1 ≤ m → m < 64 → on (taken inside centre' z) m ≡ (((nat_eq (m - z) 1 || (nat_eq (m - z) 7 || (nat_eq (m - z) 8 || nat_eq (m - z) 9))) && on inside m) && not (on around.centre m))
        taken_at m le l =
            on_and (bit_and (0x382 * 2 ^ z % 2 ^ 64) inside) (bit_not w64 centre') m
            ∙ and_same (on_and (0x382 * 2 ^ z % 2 ^ 64) inside m ∙ ap (λ b. b && on inside m) (on_shl_any 0x382 z 64 m l ∙ and_true (nat_le z m) (on 0x382 (m - z)) (is_le z m (omega (arith, le))) ∙ step_is (m - z) (omega (arith, l))))
            (on_not w64 centre' m centre'_fits l ∙ ap not (late m le l))

pub foreseen_all : (v : BlockPlane) (at : WordPlace) (old list : Decided) (around : Around) (inside ones all rest : ℕ) → Foreseen v at old list around inside ones all rest → rest ≡ 0
    → Told v 0 at 64 old list × ((m : ℕ) → m < 64 → on all m ≡ codes v.shape (mag v) 0 at.word at.stripe m)
foreseen_all v at old list around inside ones all rest h empty =
    let end = propagated_to v at old list (with_centre h.centre around) h.candidates (propagated_of v at old list around inside ones all rest h) 64 h.coming.most (omega arith) clear in (
      end.0,
      λ m l. elim (cases_lt m h.n) [ inl before ↦ h.known m before | inr from ↦ none m from l ∙ sym (end.2 m from l) ],
    )
  where
    none : (m : ℕ) → h.n ≤ m → m < 64 → on all m ≡ false
    none m le l = none_before (on rest m) (nat_le h.n m) (on all m) (ap (λ w. on w m) empty ∙ on_zero m) (h.rest_is m l) (is_le h.n m le)

    early : (c l d : Bool) → c ≡ (l && d) → l ≡ false → c ≡ false
    early c l d e g = grind (arith, nat_tests)

    clear : (m : ℕ) → m < 64 → on h.candidates m ≡ false
    clear m l = elim (cases_lt m h.n) [
      | inl before ↦ early (on h.candidates m) (nat_le h.n m) (is_spread v.shape (significant_at v (moment_at v.shape 0 at.word at.stripe h.n)) at.word at.stripe m) (h.awaits m l) (not_le h.n m before)
      | inr from ↦ no_first (on all m) (on h.candidates m) (on (bit_and inside (bit_not w64 around.centre)) m && is_reached (λ k. nat_le h.n k && (on all k && on ones k)) m) (h.ahead m from l) (none m from l)
    ]

-- The bytes of the decisions of each place, as a word's places are listed: of their bits, and of
-- their signs.
abbrev pub HasBits : BlockPlane → WordPlace → Around → (new : ℕ) → List ℕ → Type 0
HasBits v at around new bits =
    (t centre k : ℕ) → IsBitPlace v.shape at k → centre < 2 ^ 64 → Turns centre new around.centre k → IsAround (bordered (seen_at v t at.stripe)) at.word at.stripe (with_centre centre around)
    → SpellsBit v t (column at.word k) (row at.stripe k) (byte_at bits k)

abbrev pub HasSigns : BlockPlane → WordPlace → Around → (new : ℕ) → List ℕ → Type 0
HasSigns v at around new signs =
    (t centre k : ℕ) → IsBitPlace v.shape at k → centre < 2 ^ 64 → Turns centre new around.centre k → IsAround (bordered (seen_at v t at.stripe)) at.word at.stripe (with_centre centre around)
    → SpellsSign v t (column at.word k) (row at.stripe k) (byte_at signs k)

pub record Listing (v : BlockPlane) (at : WordPlace) (old list : Decided) (inside ones all : ℕ) (bits signs : List ℕ) (rest : ℕ) : Type 0 where
  pub around : Around
  pub fits : around.centre < 2 ^ 64
  pub foreseen : Foreseen v at old list around inside ones all rest
  pub bits_are : HasBits v at around (bit_or around.centre (bit_and all ones)) bits
  pub signs_are : HasSigns v at around (bit_or around.centre (bit_and all ones)) signs

pub listing_next : (v : BlockPlane) (at : WordPlace) (old list : Decided) (inside ones all : ℕ) (bits signs : List ℕ) (rest : ℕ) → Listing v at old list inside ones all bits signs rest → 0 < rest → rest < 2 ^ 64
    → IsBitPlace v.shape at (trailing_zeros w64 rest)
listing_next v at old list inside ones all bits signs rest h p q = (foreseen_next v at old list h.around inside ones all rest h.foreseen p q).place

pub listing_place : (v : BlockPlane) (at : WordPlace) (old list list' : Decided) (inside ones all : ℕ) (bits signs : List ℕ) (rest : ℕ) → Listing v at old list inside ones all bits signs rest → 0 < rest → rest < 2 ^ 64
    → inside < 2 ^ 64 → Shows of_rows (bordered (is_inside v.shape)) (at.word + 1) (at.stripe + 1) inside
    → on ones (trailing_zeros w64 rest) ≡ is_one (mag v (column at.word (trailing_zeros w64 rest)) (row at.stripe (trailing_zeros w64 rest)))
    → ((t : ℕ) → SpellsBit v t (column at.word (trailing_zeros w64 rest)) (row at.stripe (trailing_zeros w64 rest)) (byte_at bits (trailing_zeros w64 rest))
    → SpellsSign v t (column at.word (trailing_zeros w64 rest)) (row at.stripe (trailing_zeros w64 rest)) (byte_at signs (trailing_zeros w64 rest))
    → list' ≡ list ++ new_decisions v.shape (seen v) t (column at.word (trailing_zeros w64 rest)) (row at.stripe (trailing_zeros w64 rest)))
    → Listing v at old list' inside ones all bits signs (bit_and rest (rest - 1))
listing_place v at old list list' inside ones all bits signs rest h p q inside_fits limits one listed =
    let z = trailing_zeros w64 rest in
    let f = h.foreseen in
    let place = listing_next v at old list inside ones all bits signs rest h p q in
    let turns = foreseen_turns v at old list h.around inside ones all rest f p q in
    record {
      around = h.around;
      fits = h.fits;
      foreseen = foreseen_place v at old list list' h.around inside ones all rest f p q inside_fits h.fits limits one
          (λ t shown. listed t (h.bits_are t f.centre z place f.centre_fits turns shown) (h.signs_are t f.centre z place f.centre_fits turns shown));
      bits_are = h.bits_are;
      signs_are = h.signs_are;
    }

pub listing_all : (v : BlockPlane) (at : WordPlace) (old list : Decided) (inside ones all : ℕ) (bits signs : List ℕ) (rest : ℕ) → Listing v at old list inside ones all bits signs rest → rest ≡ 0
    → Told v 0 at 64 old list × ((m : ℕ) → m < 64 → on all m ≡ codes v.shape (mag v) 0 at.word at.stripe m)
listing_all v at old list inside ones all bits signs rest h empty = foreseen_all v at old list h.around inside ones all rest h.foreseen empty
