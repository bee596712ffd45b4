-- Magnitude refinement over a word.
use Rattle.std.proofs.Common.{◌≡◌, ℕ, ◌+◌, ◌-◌, ◌*◌, ◌/◌, ◌%◌, ◌^◌, ◌<◌, ◌≤◌, Bool, true, false, not, cond, List, Ok, get_or, refl, sym, ap, ◌∙◌, inl, inr, arith}
use Rattle.std.specs.Prelude.{◌&&◌, ◌||◌, nat_eq, nat_le, nat_lt}
use Rattle.std.specs.Int.{bit_not, trailing_zeros, w64}
use Rattle.std.specs.Int.RustNames.{bit_or, bit_and}
use Rattle.std.proofs.lemmas.Bool.{and_parts, cases_lt}
use Rattle.std.proofs.lemmas.Bool.Decides.{nat_tests}
use Rattle.std.proofs.lemmas.Grind.{pow_more}
use Rattle.std.proofs.lemmas.Nat.{pow_pos, div-mul-add, or_lt}
use Rattle.std.proofs.Math.Nat.{mul_assoc, mod-lt}
use Rattle.jk_mqdec.specs.Standing.{DecoderView}
use Rattle.jk_scan.specs.declared.shape.BlockShape.{BlockShape}
use Rattle.jk_scan.specs.Bits.{on}
use Rattle.jk_scan.specs.Neighbours.{Field, is_inside, touched_in}
use Rattle.jk_scan.specs.Moments.{stripes}
use Rattle.jk_scan.specs.Words.{of_rows, ShowsAt, near, bordered}
use Rattle.jk_scan.specs.WordPlaces.{column, row}
use Rattle.jk_scan.specs.Flags.{IsDrawn, across, word_at, flag_at}
use Rattle.jk_scan.proofs.Laws.{same_field, near_is, lowest, rest_at, on_or, on_and, on_not, on_zero, on_one, on_above, on_shl_any, row_stripe, touched_seen}
use Rattle.jk_block.specs.declared.word_place.WordPlace.{WordPlace}
use Rattle.jk_block.specs.Fields.{significant_of, flagged, is_in_word, own_bit}
use Rattle.jk_block.specs.Meaning.{above}
use Rattle.jk_block.specs.Reading.{place_at}
use Rattle.jk_block.specs.decoding.BlockStates.{Draft, significant_in, coded_in, IsFresh, TakesStep}
use Rattle.jk_block.specs.decoding.Sights.{refined_in, IsRefined, seen_in}
use Rattle.jk_block.specs.Steps.{IsBitPlace}
use Rattle.jk_block.proofs.Drawing.{draft_same, stays_large, stays_significant, put_or, put_self}
use Rattle.jk_block.proofs.WordDrawing.{bit_place, bit_within, place_bit, same_place}
use Rattle.jk_block.proofs.decoding.Aging.{bit_stays, put_stays}
use Rattle.jk_block.proofs.decoding.ReadSoFar.{ReadSoFar, going_none, going_skip, going_place}
use Rattle.jk_block.proofs.WordBits.{place_shifted, drawn_bit, flag_bit, le_true, true_le, on_rows, none_before}

-- the place at a bit is a member of the pass
abbrev pub is_older : (k : Draft) (j i m : ℕ) → Bool
is_older k j i m = of_rows (m % 8) && (significant_in k (column j m) (row i m) && not (k.visited (column j m) (row i m)))

pub older_at : (s : BlockShape) (ms : Field ℕ) (sig vis : List ℕ) (j i m p : ℕ) → IsDrawn s (significant_of s ms) sig → j < across s → i < stripes s → p ≡ word_at s (j + 1) (i + 1) → get_or vis p 0 < 2 ^ 64 → m < 64
    → on (bit_and (get_or sig p 0) (bit_not w64 (get_or vis p 0))) m ≡ (of_rows (m % 8) && (significant_of s ms (column j m) (row i m) && not (flagged s vis (column j m) (row i m))))
older_at s ms sig vis j i m p drawn hj hi place lim l =
    on_and (get_or sig p 0) (bit_not w64 (get_or vis p 0)) m ∙ ap (λ b. on (get_or sig p 0) m && b) (on_not w64 (get_or vis p 0) m lim l)
    ∙ ap (λ p. on (get_or sig p 0) m && not (on (get_or vis p 0) m)) place
    ∙ ap (λ b. b && not (on (get_or vis (word_at s (j + 1) (i + 1)) 0) m)) (drawn_bit s (significant_of s ms) sig j i m drawn hj hi l)
    ∙ gate (of_rows (m % 8)) (is_inside s (column j m) (row i m)) (nat_lt 0 (ms (column j m) (row i m))) (on (get_or vis (word_at s (j + 1) (i + 1)) 0) m) (flag_at s vis (column j m) (row i m)) (λ e. flag_bit s vis j i m l e)
  where
    gate : (r ins n v f : Bool) → (r ≡ true → v ≡ f) → ((r && (ins && n)) && not v) ≡ (r && ((ins && n) && not (ins && f)))
    gate true true n v f e = let e0 = e refl in ap (λ v. n && not v) e0
    gate true false n v f e = refl
    gate false ins n v f e = refl

-- A word has the bits of the places that were coded, and not of those that wait.
pub record Bits (at : WordPlace) (k d : Draft) (places candidates ones : ℕ) : Type 0 where
  pub only : (m : ℕ) → on ones m ≡ true → on places m ≡ true
  pub clear : (m : ℕ) → on candidates m ≡ true → on ones m ≡ false
  pub magnitude : (x y : ℕ) → d.magnitude x y
      ≡ cond (is_in_word at.word at.stripe x y && (on places (own_bit x y) && not (on candidates (own_bit x y))))
      (above (at.plane + 1) (k.magnitude x y) + cond (on ones (own_bit x y)) (2 ^ at.plane) 0) (k.magnitude x y)
  pub negative : d.negative ≡ k.negative
  pub visited : d.visited ≡ k.visited

pub record Refining (at : WordPlace) (refined : List ℕ) (k : Draft) (v0 v : DecoderView) (seen places candidates ones : ℕ) : Type 0 where
  pub n : ℕ
  pub draft : Draft
  pub going : ReadSoFar 1 at n k draft v0 v
  pub fresh : IsFresh at.plane refined draft
  pub near : (m : ℕ) → m < 64 → of_rows (m % 8) ≡ true → on seen m ≡ touched_in draft.shape (significant_in draft) (column at.word m) (row at.stripe m)
  pub older : (m : ℕ) → m < 64 → on places m ≡ is_older draft at.word at.stripe m
  pub awaits : (m : ℕ) → m < 64 → on candidates m ≡ (nat_le n m && on places m)
  pub bits : Bits at k draft places candidates ones

pub refining_none : (at : WordPlace) (refined : List ℕ) (k : Draft) (v : DecoderView) (seen places : ℕ) → IsFresh at.plane refined k
    → ShowsAt of_rows (near (bordered (seen_in k at.stripe))) (at.word + 1) (at.stripe + 1) seen → ((m : ℕ) → m < 64 → on places m ≡ is_older k at.word at.stripe m) → Refining at refined k v v seen places places 0
refining_none at refined k v seen places fresh shown older = record {
  n = 0;
  draft = k;
  going = going_none 1 at k k v refl (λ coder. refl);
  fresh = fresh;
  near = λ m l e.
      let shifted = place_shifted at.word at.stripe m e in
      ap (on seen) (let g : m ≡ 8 * (m / 8) + m % 8 = omega arith in g) ∙ shown (m / 8) (m % 8) (omega arith) (omega arith) e
      ∙ ap (λ c. near (bordered (seen_in k at.stripe)) c (row (at.stripe + 1) m)) shifted.0 ∙ ap (λ r. near (bordered (seen_in k at.stripe)) (column at.word m + 8) r) shifted.1
      ∙ near_is (seen_in k at.stripe) (column at.word m) (row at.stripe m) ∙ touched_seen k.shape at.stripe (significant_in k) (column at.word m) (row at.stripe m) (row_stripe at.stripe m e);
  older = older;
  awaits = λ m l. ap (λ b. b && on places m) (let e : true ≡ nat_le 0 m = grind (arith, nat_tests) in e);
  bits = record {
    only = λ m e. absurd (let f = on_zero m in let c : true ≡ false = sym e ∙ f in cc);
    clear = λ m e. on_zero m;
    magnitude = λ x y. kept (is_in_word at.word at.stripe x y) (on places (own_bit x y)) (k.magnitude x y) (above (at.plane + 1) (k.magnitude x y) + cond (on 0 (own_bit x y)) (2 ^ at.plane) 0);
    negative = refl;
    visited = refl;
  };
}
  where
    kept : (w p : Bool) (m n : ℕ) → m ≡ cond (w && (p && not p)) n m
    kept true true m n = refl
    kept true false m n = refl
    kept false p m n = refl

none : (b : Bool) → (b && false) ≡ false
none true = refl
none false = refl

second : (r d : Bool) → (r && d) ≡ false → r ≡ true → d ≡ false
second true d e h = e
second false d e h = absurd cc

turned : (b : Bool) → not b ≡ true → b ≡ false
turned true e = absurd cc
turned false e = refl

-- no place is older
pub refining_idle : (at : WordPlace) (k : Draft) (v : DecoderView) (places : ℕ) → ((m : ℕ) → m < 64 → on places m ≡ is_older k at.word at.stripe m) → places ≡ 0 → ReadSoFar 1 at 64 k k v v
refining_idle at k v places older empty =
    going_skip 1 at 0 64 k k v v (going_none 1 at k k v refl (λ coder. refl)) (omega arith) (omega arith) (λ coder m a b. record { plain = λ _. none (nat_lt (8 * at.word + m / 8) k.shape.width); idle = λ c d. idle m a b c d })
  where
    idle : (m : ℕ) → 0 ≤ m → m < 64 → 1 ≤ m % 8 → m % 8 < 5 → (significant_in k (8 * at.word + m / 8) (4 * at.stripe + m % 8 - 1) && not (k.visited (8 * at.word + m / 8) (4 * at.stripe + m % 8 - 1))) ≡ false
    idle m a b c d =
        second (of_rows (m % 8)) (significant_in k (column at.word m) (row at.stripe m) && not (k.visited (column at.word m) (row at.stripe m)))
        (sym (older m b) ∙ ap (λ w. on w m) empty ∙ on_zero m) (on_rows (m % 8) c d)

pub record NextOlder (at : WordPlace) (k d : Draft) (v0 v : DecoderView) (z : ℕ) : Type 0 where
  pub place : IsBitPlace d.shape at z
  pub known_significant : significant_in d (column at.word z) (row at.stripe z) ≡ true
  pub uncoded : d.visited (column at.word z) (row at.stripe z) ≡ false
  pub going : ReadSoFar 1 at z k d v0 v

waits : (at : WordPlace) (refined : List ℕ) (k : Draft) (v0 v : DecoderView) (seen places n ones : ℕ) (st : Refining at refined k v0 v seen places n ones) (m : ℕ) → m < 64 → on n m ≡ (nat_le st.n m && is_older st.draft at.word at.stripe m)
waits at refined k v0 v seen places n ones st m l = st.awaits m l ∙ ap (λ b. nat_le st.n m && b) (st.older m l)

pub refining_next : (at : WordPlace) (refined : List ℕ) (k : Draft) (v0 v : DecoderView) (seen places n ones : ℕ) (st : Refining at refined k v0 v seen places n ones) → 0 < n → n < 2 ^ 64 → NextOlder at k st.draft v0 v (trailing_zeros w64 n)
refining_next at refined k v0 v seen places n ones st p q =
    let d = st.draft in
    let z = trailing_zeros w64 n in
    let x = column at.word z in
    let y = row at.stripe z in
    let l = lowest n p q in
    let both = and_parts (nat_le st.n z) (is_older d at.word at.stripe z) (sym (waits at refined k v0 v seen places n ones st z l.0) ∙ l.1) in
    let onward : st.n ≤ z = true_le st.n z both.0 in
    let parts = and_parts (of_rows (z % 8)) (significant_in d x y && not (d.visited x y)) both.1 in
    let due = and_parts (significant_in d x y) (not (d.visited x y)) parts.1 in
    let within = l.0 in
    record {
      place = record { within = l.0; on_row = parts.0; inside = (and_parts (is_inside d.shape x y) (nat_lt 0 (d.magnitude x y)) due.0).0 };
      known_significant = due.0;
      uncoded = turned (d.visited x y) due.1;
      going = going_skip 1 at st.n z k d v0 v st.going onward (omega (arith, within)) (λ coder m a b. record { plain = λ _. none (nat_lt (8 * at.word + m / 8) d.shape.width); idle = λ c d. idle m a b c d });
    }
  where
    older : (m : ℕ) → st.n ≤ m → m < trailing_zeros w64 n → is_older st.draft at.word at.stripe m ≡ false
    older m a b =
        let l = lowest n p q in
        let w = l.0 in
        none_before (on n m) (nat_le st.n m) (is_older st.draft at.word at.stripe m) (l.2 m b) (waits at refined k v0 v seen places n ones st m (omega (arith, w, b))) (le_true st.n m a)

    idle : (m : ℕ) → st.n ≤ m → m < trailing_zeros w64 n → 1 ≤ m % 8 → m % 8 < 5 → (significant_in st.draft (8 * at.word + m / 8) (4 * at.stripe + m % 8 - 1) && not (st.draft.visited (8 * at.word + m / 8) (4 * at.stripe + m % 8 - 1))) ≡ false
    idle m a b c d = second (of_rows (m % 8)) (significant_in st.draft (column at.word m) (row at.stripe m) && not (st.draft.visited (column at.word m) (row at.stripe m))) (older m a b) (on_rows (m % 8) c d)

step_on : (z m : ℕ) (rest n from due : Bool) (k : ℕ) → k ≤ z → rest ≡ (nat_le (z + 1) m && n) → n ≡ (nat_le k m && due) → rest ≡ (nat_le (z + 1) m && due)
step_on z m rest n from due k h a b = grind (arith, nat_tests)

-- a place that was significant before takes its bit of a plane
abbrev pub refined_once : (at : WordPlace) (z : ℕ) → Bool → Draft → Draft
refined_once at z bit d = coded_in at.plane (column at.word z) (row at.stripe z) bit (d.negative (column at.word z) (row at.stripe z)) d

large_pos : (b : ℕ) (m : ℕ) → 2 ^ (b + 1) ≤ m → 0 < m
large_pos b m h = let p = pow_pos (b + 1) in omega (arith, p, h)

-- what is significant stays so
pub significant_once : (at : WordPlace) (d : Draft) (z : ℕ) (bit : Bool) → significant_in d (column at.word z) (row at.stripe z) ≡ true → 2 ^ (at.plane + 1) ≤ d.magnitude (column at.word z) (row at.stripe z) → (x y : ℕ) → significant_in (refined_once at z bit d) x y ≡ significant_in d x y
significant_once at d z bit known_significant large x y =
    let X = column at.word z in
    let Y = row at.stripe z in
    stays_significant d.shape d.magnitude X Y (above (at.plane + 1) (d.magnitude X Y) + cond bit (2 ^ at.plane) 0) (large_pos at.plane (above (at.plane + 1) (d.magnitude X Y) + cond bit (2 ^ at.plane) 0) (stays_large (d.magnitude X Y) at.plane bit large)) known_significant x y

pub fresh_once : (at : WordPlace) (refined : List ℕ) (d : Draft) (z : ℕ) (bit : Bool) → IsFresh at.plane refined d → significant_in d (column at.word z) (row at.stripe z) ≡ true → 2 ^ (at.plane + 1) ≤ d.magnitude (column at.word z) (row at.stripe z) → IsFresh at.plane refined (refined_once at z bit d)
fresh_once at refined d z bit fresh known_significant large =
    let X = column at.word z in
    let Y = row at.stripe z in
    let m = above (at.plane + 1) (d.magnitude X Y) + cond bit (2 ^ at.plane) 0 in
    record {
      higher = λ x y l unseen. put_or (λ n. 2 ^ (at.plane + 1) ≤ n) d.magnitude X Y m x y (λ _ _. stays_large (d.magnitude X Y) at.plane bit large) (λ _. fresh.higher x y (sym (significant_once at d z bit known_significant large x y) ∙ l) unseen);
      whole = λ x y i. put_or (λ n. above at.plane n ≡ n) d.magnitude X Y m x y (λ _ _. whole_once at.plane (d.magnitude X Y) bit) (λ _. fresh.whole x y i);
      older = λ x y i. fresh.older x y i ∙ sym (put_stays d.magnitude X Y m (2 ^ (at.plane + 2)) x y (bit_stays (d.magnitude X Y) at.plane bit));
    }
  where
    whole_of : (p q n : ℕ) → 0 < p → n ≡ q * p → n / p * p ≡ n
    whole_of p q n h e =
        ap (λ n. n / p * p) (e ∙ (let g : q * p ≡ q * p + 0 = omega arith in g)) ∙ ap (λ a. a * p) (div-mul-add q p 0 h) ∙ sym e

    twice : (b q : ℕ) → q * 2 ^ (b + 1) ≡ 2 * q * 2 ^ b
    twice b q =
        ap (λ p. q * p) (let e = pow_more 2 b in let h : 2 ^ (b + 1) ≡ 2 * 2 ^ b = omega (arith, e) in h) ∙ sym (mul_assoc q 2 (2 ^ b)) ∙ ap (λ n. n * 2 ^ b) (let e : q * 2 ≡ 2 * q = omega arith in e)

    plus_one : (q p : ℕ) → q * p + p ≡ (q + 1) * p
    plus_one q p = omega arith

    whole_once : (b m : ℕ) (bit : Bool) → above b (above (b + 1) m + cond bit (2 ^ b) 0) ≡ above (b + 1) m + cond bit (2 ^ b) 0
    whole_once b m true = whole_of (2 ^ b) (2 * (m / 2 ^ (b + 1)) + 1) (above (b + 1) m + 2 ^ b) (pow_pos b) (ap (λ n. n + 2 ^ b) (twice b (m / 2 ^ (b + 1))) ∙ plus_one (2 * (m / 2 ^ (b + 1))) (2 ^ b))
    whole_once b m false = whole_of (2 ^ b) (2 * (m / 2 ^ (b + 1))) (above (b + 1) m + 0) (pow_pos b) ((let e : above (b + 1) m + 0 ≡ above (b + 1) m = omega arith in e) ∙ twice b (m / 2 ^ (b + 1)))

abbrev pub with_one : (ones z : ℕ) → Bool → ℕ
with_one ones z bit = bit_or ones (cond bit 1 0 * 2 ^ z % 2 ^ 64)

pub one_bit : (ones z m : ℕ) (bit : Bool) → z < 64 → m < 64 → on ones z ≡ false → on (with_one ones z bit) m ≡ cond (nat_eq m z) bit (on ones m)
one_bit ones z m bit lz lm off =
    on_or ones (cond bit 1 0 * 2 ^ z % 2 ^ 64) m ∙ ap (λ b. on ones m || b) (on_shl_any (cond bit 1 0) z 64 m lm ∙ ap (λ b. nat_le z m && b) (on_digit bit (m - z)))
    ∙ by (nat_eq m z) refl
  where
    on_digit : (bit : Bool) (i : ℕ) → on (cond bit 1 0) i ≡ (bit && nat_eq i 0)
    on_digit true i = on_one i
    on_digit false i = on_zero i

    or_false : (b : Bool) → (b || false) ≡ b
    or_false true = refl
    or_false false = refl

    here : (z m : ℕ) (bit : Bool) → nat_eq m z ≡ true → (nat_le z m && (bit && nat_eq (m - z) 0)) ≡ bit
    here z m bit e = grind (arith, nat_tests)

    away : (z m : ℕ) (bit : Bool) → nat_eq m z ≡ false → (nat_le z m && (bit && nat_eq (m - z) 0)) ≡ false
    away z m bit e = grind (arith, nat_tests)

    equal : (a b : ℕ) → nat_eq a b ≡ true → a ≡ b
    equal a b e = grind (arith, nat_tests)

    by : (b : Bool) → nat_eq m z ≡ b → (on ones m || (nat_le z m && (bit && nat_eq (m - z) 0))) ≡ cond (nat_eq m z) bit (on ones m)
    by true e = ap (λ b. on ones m || b) (here z m bit e) ∙ ap (λ b. b || bit) (ap (on ones) (equal m z e) ∙ off) ∙ sym (ap (λ b. cond b bit (on ones m)) e)
    by false e = ap (λ b. on ones m || b) (away z m bit e) ∙ or_false (on ones m) ∙ sym (ap (λ b. cond b bit (on ones m)) e)

-- one place more has its bit
bits_more : (at : WordPlace) (k d : Draft) (places n ones : ℕ) (bit : Bool) → 0 < n → n < 2 ^ 64 → Bits at k d places n ones → on places (trailing_zeros w64 n) ≡ true → IsBitPlace d.shape at (trailing_zeros w64 n)
    → places < 2 ^ 64 → ones < 2 ^ 64 → Bits at k (refined_once at (trailing_zeros w64 n) bit d) places (bit_and n (n - 1)) (with_one ones (trailing_zeros w64 n) bit)
bits_more at k d places n ones bit p q b set place lim limo =
    let z = trailing_zeros w64 n in
    let l = lowest n p q in
    record {
      only = λ m e. elim (cases_lt m 64) [
        | inl less ↦ only m (nat_eq m z) refl (sym (one_bit ones z m bit l.0 less (b.clear z l.1)) ∙ e)
        | inr past ↦ absurd (let f = on_above (with_one ones z bit) 64 m (or_lt 64 ones (cond bit 1 0 * 2 ^ z % 2 ^ 64) limo (mod-lt (cond bit 1 0 * 2 ^ z) (pow_pos 64))) past in let c : true ≡ false = sym e ∙ f in cc)
      ];
      clear = λ m e.
          let r = rest_parts (nat_le (z + 1) m) (on n m) (sym (rest_at n p q m) ∙ e) in
          elim (cases_lt m 64) [
            | inl less ↦ one_bit ones z m bit l.0 less (b.clear z l.1) ∙ ap (λ t. cond t bit (on ones m)) (behind z m r.0) ∙ b.clear m r.1
            | inr past ↦ absurd (let f = on_above n 64 m q past in let c : true ≡ false = sym r.1 ∙ f in cc)
          ];
      magnitude = λ x y. magnitude x y;
      negative = sym (put_self d.negative (column at.word z) (row at.stripe z)) ∙ b.negative;
      visited = b.visited;
    }
  where
    rest_parts : (a c : Bool) → (a && c) ≡ true → (a ≡ true) × (c ≡ true)
    rest_parts true true e = (refl, refl)
    rest_parts true false e = absurd cc
    rest_parts false c e = absurd cc

    behind : (z m : ℕ) → nat_le (z + 1) m ≡ true → nat_eq m z ≡ false
    behind z m e = grind (arith, nat_tests)

    equal : (a c : ℕ) → nat_eq a c ≡ true → a ≡ c
    equal a c e = grind (arith, nat_tests)

    only : (m : ℕ) (t : Bool) → nat_eq m (trailing_zeros w64 n) ≡ t → cond (nat_eq m (trailing_zeros w64 n)) bit (on ones m) ≡ true → on places m ≡ true
    only m true e h = ap (on places) (equal m (trailing_zeros w64 n) e) ∙ set
    only m false e h = b.only m (sym (ap (λ t. cond t bit (on ones m)) e) ∙ h)

    -- the place itself waits, and any other one as before
    magnitude : (x y : ℕ) → (refined_once at (trailing_zeros w64 n) bit d).magnitude x y
        ≡ cond (is_in_word at.word at.stripe x y && (on places (own_bit x y) && not (on (bit_and n (n - 1)) (own_bit x y))))
        (above (at.plane + 1) (k.magnitude x y) + cond (on (with_one ones (trailing_zeros w64 n) bit) (own_bit x y)) (2 ^ at.plane) 0) (k.magnitude x y)
    magnitude x y =
        let z = trailing_zeros w64 n in
        let l = lowest n p q in
        let X = column at.word z in
        let Y = row at.stripe z in
        put_or (λ v. v ≡ cond (is_in_word at.word at.stripe x y && (on places (own_bit x y) && not (on (bit_and n (n - 1)) (own_bit x y)))) (above (at.plane + 1) (k.magnitude x y) + cond (on (with_one ones z bit) (own_bit x y)) (2 ^ at.plane) 0) (k.magnitude x y))
        d.magnitude X Y (above (at.plane + 1) (d.magnitude X Y) + cond bit (2 ^ at.plane) 0) x y
        (λ ex ey. here x y ex ey) (λ e. other x y e)
      where
        last : (z : ℕ) → nat_le (z + 1) z ≡ false
        last z = grind (arith, nat_tests)

        self : (z : ℕ) → nat_eq z z ≡ true
        self z = grind (arith, nat_tests)

        waiting : (w g : Bool) (m n : ℕ) → cond (w && (g && not true)) m n ≡ n
        waiting true true m n = refl
        waiting true false m n = refl
        waiting false g m n = refl

        here : (x y : ℕ) → x ≡ column at.word (trailing_zeros w64 n) → y ≡ row at.stripe (trailing_zeros w64 n)
            → above (at.plane + 1) (d.magnitude (column at.word (trailing_zeros w64 n)) (row at.stripe (trailing_zeros w64 n))) + cond bit (2 ^ at.plane) 0
            ≡ cond (is_in_word at.word at.stripe x y && (on places (own_bit x y) && not (on (bit_and n (n - 1)) (own_bit x y)))) (above (at.plane + 1) (k.magnitude x y) + cond (on (with_one ones (trailing_zeros w64 n) bit) (own_bit x y)) (2 ^ at.plane) 0) (k.magnitude x y)
        here x y ex ey =
            let z = trailing_zeros w64 n in
            let l = lowest n p q in
            let X = column at.word z in
            let Y = row at.stripe z in
            let own = place_bit at.word at.stripe z place.within place.on_row in
            let before : d.magnitude X Y ≡ k.magnitude X Y =
            b.magnitude X Y ∙ ap (λ m. cond (is_in_word at.word at.stripe X Y && (on places m && not (on n m))) (above (at.plane + 1) (k.magnitude X Y) + cond (on ones m) (2 ^ at.plane) 0) (k.magnitude X Y)) own.1
            ∙ ap (λ t. cond (is_in_word at.word at.stripe X Y && (on places z && not t)) (above (at.plane + 1) (k.magnitude X Y) + cond (on ones z) (2 ^ at.plane) 0) (k.magnitude X Y)) l.1
            ∙ waiting (is_in_word at.word at.stripe X Y) (on places z) (above (at.plane + 1) (k.magnitude X Y) + cond (on ones z) (2 ^ at.plane) 0) (k.magnitude X Y) in
            ap (λ m. above (at.plane + 1) m + cond bit (2 ^ at.plane) 0) before
            ∙ sym (ap (λ u. cond (is_in_word at.word at.stripe u y && (on places (own_bit u y) && not (on (bit_and n (n - 1)) (own_bit u y)))) (above (at.plane + 1) (k.magnitude u y) + cond (on (with_one ones z bit) (own_bit u y)) (2 ^ at.plane) 0) (k.magnitude u y)) ex
            ∙ ap (λ v. cond (is_in_word at.word at.stripe X v && (on places (own_bit X v) && not (on (bit_and n (n - 1)) (own_bit X v)))) (above (at.plane + 1) (k.magnitude X v) + cond (on (with_one ones z bit) (own_bit X v)) (2 ^ at.plane) 0) (k.magnitude X v)) ey
            ∙ ap (λ m. cond (is_in_word at.word at.stripe X Y && (on places m && not (on (bit_and n (n - 1)) m))) (above (at.plane + 1) (k.magnitude X Y) + cond (on (with_one ones z bit) m) (2 ^ at.plane) 0) (k.magnitude X Y)) own.1
            ∙ ap (λ t. cond (t && (on places z && not (on (bit_and n (n - 1)) z))) (above (at.plane + 1) (k.magnitude X Y) + cond (on (with_one ones z bit) z) (2 ^ at.plane) 0) (k.magnitude X Y)) own.0
            ∙ ap (λ t. cond (t && not (on (bit_and n (n - 1)) z)) (above (at.plane + 1) (k.magnitude X Y) + cond (on (with_one ones z bit) z) (2 ^ at.plane) 0) (k.magnitude X Y)) set
            ∙ ap (λ t. cond (not t) (above (at.plane + 1) (k.magnitude X Y) + cond (on (with_one ones z bit) z) (2 ^ at.plane) 0) (k.magnitude X Y)) (rest_at n p q z ∙ ap (λ t. t && on n z) (last z))
            ∙ ap (λ t. above (at.plane + 1) (k.magnitude X Y) + cond t (2 ^ at.plane) 0) (one_bit ones z z bit l.0 l.0 (b.clear z l.1) ∙ ap (λ t. cond t bit (on ones z)) (self z)))

        differ : (x y : ℕ) → (nat_eq x (column at.word (trailing_zeros w64 n)) && nat_eq y (row at.stripe (trailing_zeros w64 n))) ≡ false → is_in_word at.word at.stripe x y ≡ true → nat_eq (own_bit x y) (trailing_zeros w64 n) ≡ false
        differ x y e w = by (nat_eq (own_bit x y) (trailing_zeros w64 n)) refl
          where
            both : (a b c d : ℕ) → a ≡ b → c ≡ d → (nat_eq a b && nat_eq c d) ≡ true
            both a b c d e g = grind (arith, nat_tests)

            by : (t : Bool) → nat_eq (own_bit x y) (trailing_zeros w64 n) ≡ t → nat_eq (own_bit x y) (trailing_zeros w64 n) ≡ false
            by false g = g
            by true g =
                let z = trailing_zeros w64 n in
                let s = same_place at.word at.stripe x y z w (equal (own_bit x y) z g) in
                absurd (let t = both x (column at.word z) y (row at.stripe z) s.0 s.1 in let c : true ≡ false = sym t ∙ e in cc)

        -- what waits at another bit
        rest_same : (z m : ℕ) (a : Bool) → nat_eq m z ≡ false → (m < z → a ≡ false) → (nat_le (z + 1) m && a) ≡ a
        rest_same z m true e h = elim (cases_lt m z) [ inl less ↦ absurd (let f = h less in cc) | inr more ↦ (let t : nat_le (z + 1) m ≡ true = grind (arith, nat_tests) in ap (λ t. t && true) t) ]
        rest_same z m false e h = none (nat_le (z + 1) m)

        other : (x y : ℕ) → (nat_eq x (column at.word (trailing_zeros w64 n)) && nat_eq y (row at.stripe (trailing_zeros w64 n))) ≡ false
            → d.magnitude x y ≡ cond (is_in_word at.word at.stripe x y && (on places (own_bit x y) && not (on (bit_and n (n - 1)) (own_bit x y)))) (above (at.plane + 1) (k.magnitude x y) + cond (on (with_one ones (trailing_zeros w64 n) bit) (own_bit x y)) (2 ^ at.plane) 0) (k.magnitude x y)
        other x y e = b.magnitude x y ∙ by (is_in_word at.word at.stripe x y) refl
          where
            by : (t : Bool) → is_in_word at.word at.stripe x y ≡ t
                → cond (is_in_word at.word at.stripe x y && (on places (own_bit x y) && not (on n (own_bit x y)))) (above (at.plane + 1) (k.magnitude x y) + cond (on ones (own_bit x y)) (2 ^ at.plane) 0) (k.magnitude x y)
                ≡ cond (is_in_word at.word at.stripe x y && (on places (own_bit x y) && not (on (bit_and n (n - 1)) (own_bit x y)))) (above (at.plane + 1) (k.magnitude x y) + cond (on (with_one ones (trailing_zeros w64 n) bit) (own_bit x y)) (2 ^ at.plane) 0) (k.magnitude x y)
            by false w =
                ap (λ t. cond (t && (on places (own_bit x y) && not (on n (own_bit x y)))) (above (at.plane + 1) (k.magnitude x y) + cond (on ones (own_bit x y)) (2 ^ at.plane) 0) (k.magnitude x y)) w
                ∙ sym (ap (λ t. cond (t && (on places (own_bit x y) && not (on (bit_and n (n - 1)) (own_bit x y)))) (above (at.plane + 1) (k.magnitude x y) + cond (on (with_one ones (trailing_zeros w64 n) bit) (own_bit x y)) (2 ^ at.plane) 0) (k.magnitude x y)) w)
            by true w =
                let z = trailing_zeros w64 n in
                let l = lowest n p q in
                let m = own_bit x y in
                let apart = differ x y e w in
                let waits_same : on (bit_and n (n - 1)) m ≡ on n m = rest_at n p q m ∙ rest_same z m (on n m) apart (l.2 m) in
                let ones_same : on (with_one ones z bit) m ≡ on ones m = one_bit ones z m bit l.0 (bit_within x y) (b.clear z l.1) ∙ ap (λ t. cond t bit (on ones m)) apart in
                sym (ap (λ t. cond (is_in_word at.word at.stripe x y && (on places m && not t)) (above (at.plane + 1) (k.magnitude x y) + cond (on (with_one ones z bit) m) (2 ^ at.plane) 0) (k.magnitude x y)) waits_same
                ∙ ap (λ t. cond (is_in_word at.word at.stripe x y && (on places m && not (on n m))) (above (at.plane + 1) (k.magnitude x y) + cond t (2 ^ at.plane) 0) (k.magnitude x y)) ones_same)

pub refining_one : {A : Type 0} (at : WordPlace) (refined : List ℕ) (k : Draft) (v0 v v' : DecoderView) (seen places n ones : ℕ) (bit : Bool) (u : A) (st : Refining at refined k v0 v seen places n ones) → 0 < n → n < 2 ^ 64 → places < 2 ^ 64 → ones < 2 ^ 64
    → TakesStep (place_at v.bytes st.draft.shape at.plane 1 (column at.word (trailing_zeros w64 n)) (row at.stripe (trailing_zeros w64 n))) st.draft (refined_once at (trailing_zeros w64 n) bit st.draft) v v' (Ok u) → v'.bytes ≡ v.bytes
    → Refining at refined k v0 v' seen places (bit_and n (n - 1)) (with_one ones (trailing_zeros w64 n) bit)
refining_one at refined k v0 v v' seen places n ones bit u st p q lim limo takes bytes =
    let d = st.draft in
    let z = trailing_zeros w64 n in
    let d' = refined_once at z bit d in
    let next = refining_next at refined k v0 v seen places n ones st p q in
    let l = lowest n p q in
    let both = and_parts (nat_le st.n z) (on places z) (sym (st.awaits z l.0) ∙ l.1) in
    let onward : st.n ≤ z = true_le st.n z both.0 in
    let large = st.fresh.higher (column at.word z) (row at.stripe z) next.known_significant next.uncoded in
    let known_significant = significant_once at d z bit next.known_significant large in
    record {
      n = z + 1;
      draft = d';
      going = going_place 1 at z k d d' v0 v v' u next.going next.place takes refl bytes;
      fresh = fresh_once at refined d z bit st.fresh next.known_significant large;
      near = λ m l e. st.near m l e ∙ ap (λ (f : Field Bool). touched_in d.shape f (column at.word m) (row at.stripe m)) (sym (same_field (significant_in d') (significant_in d) known_significant));
      older = λ m h. st.older m h ∙ ap (λ b. of_rows (m % 8) && (b && not (d.visited (column at.word m) (row at.stripe m)))) (sym (known_significant (column at.word m) (row at.stripe m)));
      awaits = λ m h. step_on z m (on (bit_and n (n - 1)) m) (on n m) true (on places m) st.n onward (rest_at n p q m) (st.awaits m h);
      bits = bits_more at k d places n ones bit p q st.bits both.1 next.place lim limo;
    }

pub refining_all : (at : WordPlace) (refined : List ℕ) (k : Draft) (v0 v : DecoderView) (seen places n ones : ℕ) (st : Refining at refined k v0 v seen places n ones) → n ≡ 0 → ReadSoFar 1 at 64 k st.draft v0 v
refining_all at refined k v0 v seen places n ones st empty =
    going_skip 1 at st.n 64 k st.draft v0 v st.going st.going.most (omega arith) (λ coder m a b. record { plain = λ _. none (nat_lt (8 * at.word + m / 8) st.draft.shape.width); idle = λ c d. idle m a b c d })
  where
    idle : (m : ℕ) → st.n ≤ m → m < 64 → 1 ≤ m % 8 → m % 8 < 5 → (significant_in st.draft (8 * at.word + m / 8) (4 * at.stripe + m % 8 - 1) && not (st.draft.visited (8 * at.word + m / 8) (4 * at.stripe + m % 8 - 1))) ≡ false
    idle m a b c d =
        second (of_rows (m % 8)) (significant_in st.draft (column at.word m) (row at.stripe m) && not (st.draft.visited (column at.word m) (row at.stripe m)))
        (none_before (on n m) (nat_le st.n m) (is_older st.draft at.word at.stripe m) (ap (λ w. on w m) empty ∙ on_zero m) (waits at refined k v0 v seen places n ones st m b) (le_true st.n m a))
        (on_rows (m % 8) c d)

-- behind the word the draft has the bits of all its places
pub refined_all : (at : WordPlace) (refined : List ℕ) (k : Draft) (v0 v : DecoderView) (seen places n ones : ℕ) (st : Refining at refined k v0 v seen places n ones) → n ≡ 0 → st.draft ≡ refined_in at places ones k
refined_all at refined k v0 v seen places n ones st empty =
    draft_same st.draft.shape k.shape st.draft.magnitude (refined_in at places ones k).magnitude st.draft.negative k.negative st.draft.visited k.visited st.going.shape
    (same_field st.draft.magnitude (refined_in at places ones k).magnitude (λ x y. st.bits.magnitude x y
    ∙ ap (λ t. cond (is_in_word at.word at.stripe x y && (on places (own_bit x y) && not t)) (above (at.plane + 1) (k.magnitude x y) + cond (on ones (own_bit x y)) (2 ^ at.plane) 0) (k.magnitude x y)) (ap (λ w. on w (own_bit x y)) empty ∙ on_zero (own_bit x y))
    ∙ ap (λ t. cond (is_in_word at.word at.stripe x y && t) (above (at.plane + 1) (k.magnitude x y) + cond (on ones (own_bit x y)) (2 ^ at.plane) 0) (k.magnitude x y)) (plain (on places (own_bit x y)))))
    st.bits.negative st.bits.visited
  where
    plain : (b : Bool) → (b && not false) ≡ b
    plain true = refl
    plain false = refl

-- what is written behind the word
pub may_refine : (at : WordPlace) (refined : List ℕ) (k : Draft) (places ones : ℕ) → IsFresh at.plane refined k → ((m : ℕ) → m < 64 → on places m ≡ is_older k at.word at.stripe m) → ((m : ℕ) → on ones m ≡ true → on places m ≡ true) → IsRefined at places ones k
may_refine at refined k places ones fresh older only = record {
  whole = fresh.whole;
  only = λ m l e. only m e;
  large = λ x y w e.
      let b = bit_place at.word at.stripe x y w in
      let o : is_older k at.word at.stripe (own_bit x y) ≡ true = sym (older (own_bit x y) (bit_within x y)) ∙ e in
      let both = and_parts (of_rows (own_bit x y % 8)) (significant_in k (column at.word (own_bit x y)) (row at.stripe (own_bit x y)) && not (k.visited (column at.word (own_bit x y)) (row at.stripe (own_bit x y)))) o in
      let due = and_parts (significant_in k (column at.word (own_bit x y)) (row at.stripe (own_bit x y))) (not (k.visited (column at.word (own_bit x y)) (row at.stripe (own_bit x y)))) both.1 in
      let known_significant : significant_in k x y ≡ true = ap (λ u. significant_in k u y) (sym b.0) ∙ ap (λ v. significant_in k (column at.word (own_bit x y)) v) (sym b.1) ∙ due.0 in
      let unseen : k.visited x y ≡ false = ap (λ u. k.visited u y) (sym b.0) ∙ ap (λ v. k.visited (column at.word (own_bit x y)) v) (sym b.1) ∙ turned (k.visited (column at.word (own_bit x y)) (row at.stripe (own_bit x y))) due.1 in
      ((and_parts (is_inside k.shape x y) (nat_lt 0 (k.magnitude x y)) known_significant).0, fresh.higher x y known_significant unseen);
}
