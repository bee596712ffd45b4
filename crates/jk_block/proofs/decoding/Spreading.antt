-- Significance propagation over a word.
use Rattle.std.proofs.Common.{◌≡◌, ℕ, ◌+◌, ◌-◌, ◌*◌, ◌/◌, ◌%◌, ◌^◌, ◌<◌, ◌≤◌, Bool, true, false, not, cond, Ok, Err, refl, sym, ap, ◌∙◌, subst, inl, inr, arith}
use Rattle.std.specs.Prelude.{◌&&◌, ◌||◌, nat_eq, nat_le, nat_lt}
use Rattle.std.specs.Int.{bit_not, trailing_zeros, w64}
use Rattle.std.specs.Int.RustNames.{bit_or, bit_and}
use Rattle.std.specs.Int.Bits.{or_zero_r}
use Rattle.std.proofs.lemmas.Bool.{cases_lt, and_parts}
use Rattle.std.proofs.lemmas.Bool.Decides.{nat_tests}
use Rattle.std.proofs.lemmas.Nat.{pow_pos}
use Rattle.jk_math.specs.declared.fault.Fault.{Fault}
use Rattle.jk_model.specs.Decisions.{State}
use Rattle.jk_mqdec.specs.Standing.{DecoderView, Stands}
use Rattle.jk_scan.specs.declared.shape.BlockShape.{BlockShape}
use Rattle.jk_scan.specs.declared.around.Around.{Around}
use Rattle.jk_scan.specs.Bits.{on}
use Rattle.jk_scan.specs.Neighbours.{Field, is_inside, touched_in}
use Rattle.jk_scan.specs.Words.{Truths, of_rows, of_gathered, Shows, bordered, is_member}
use Rattle.jk_scan.specs.WordPlaces.{column, row, also}
use Rattle.jk_scan.specs.Surroundings.{IsAround}
use Rattle.jk_scan.proofs.Laws.{same_field, seen_also, added_at, lowest, rest_at, taken, taken_low, on_or, on_and, on_zero}
use Rattle.jk_block.specs.declared.word_place.WordPlace.{WordPlace}
use Rattle.jk_block.specs.declared.decoding.sight.Sight.{Sight}
use Rattle.jk_block.specs.Fields.{is_in_word, own_bit, with_word}
use Rattle.jk_block.specs.Meaning.{above}
use Rattle.jk_block.specs.Reading.{put, place_at, read_new}
use Rattle.jk_block.specs.decoding.BlockStates.{Draft, progress, significant_in, coded_in, visited_in, Advanced, TakesStep}
use Rattle.jk_block.specs.decoding.Sights.{seen_in, Sees, Held, significant_at, sign_seen}
use Rattle.jk_block.specs.Steps.{IsBitPlace}
use Rattle.jk_block.proofs.Drawing.{significant_put}
use Rattle.jk_block.proofs.WordDrawing.{bit_within, place_bit, same_place}
use Rattle.jk_block.proofs.decoding.Holding.{held_none, held_visited, held_significant}
use Rattle.jk_block.proofs.decoding.WordSteps.{member_due}
use Rattle.jk_block.proofs.decoding.ReadSoFar.{ReadSoFar, going_none, going_skip, going_place}
use Rattle.jk_block.proofs.WordBits.{bordered_also, is_spread, spread_is_member, limit_bit, le_true, true_le, on_rows, none_before}

-- Words show the pass at bit n: what is around, and the members from there on.
pub record Spreads (at : WordPlace) (n : ℕ) (d : Draft) (seen : Around) (inside candidates : ℕ) : Type 0 where
  pub around : IsAround (bordered (seen_in d at.stripe)) at.word at.stripe seen
  pub limits : Shows of_rows (bordered (is_inside d.shape)) (at.word + 1) (at.stripe + 1) inside
  pub awaits : (m : ℕ) → m < 64 → on candidates m ≡ (nat_le n m && is_spread d.shape (significant_in d) at.word at.stripe m)

-- A word has the places that were coded before bit n, and the candidates.
pub record Marks (at : WordPlace) (n : ℕ) (k d : Draft) (candidates visited : ℕ) : Type 0 where
  pub ahead : (m : ℕ) → m < 64 → n ≤ m → on visited m ≡ on candidates m
  pub inside : (m : ℕ) → m < 64 → on visited m ≡ true → (of_rows (m % 8) && is_inside d.shape (column at.word m) (row at.stripe m)) ≡ true
  pub marked : (x y : ℕ) → d.visited x y ≡ (k.visited x y || (is_in_word at.word at.stripe x y && (nat_lt (own_bit x y) n && on visited (own_bit x y))))

pub record Spreading (at : WordPlace) (k : Draft) (v0 v : DecoderView) (sight : Sight) (inside candidates visited : ℕ) : Type 0 where
  pub n : ℕ
  pub draft : Draft
  pub going : ReadSoFar 0 at n k draft v0 v
  pub spreads : Spreads at n draft sight.significant inside candidates
  pub held : Held at k sight draft
  pub marks : Marks at n k draft candidates visited

second : (r d : Bool) → (r && d) ≡ false → r ≡ true → d ≡ false
second true d e h = e
second false d e h = absurd cc

nothing_more : (a b c : Bool) → a ≡ (a || (b && (false && c)))
nothing_more true b c = refl
nothing_more false true c = refl
nothing_more false false c = refl

lt_true : (a b : ℕ) → a < b → nat_lt a b ≡ true
lt_true a b h = grind (arith, nat_tests)

lt_false : (a b : ℕ) → b ≤ a → nat_lt a b ≡ false
lt_false a b h = grind (arith, nat_tests)

equal_both : (a b c d : ℕ) → a ≡ b → c ≡ d → (nat_eq a b && nat_eq c d) ≡ true
equal_both a b c d e g = grind (arith, nat_tests)

both_equal : (a b c d : ℕ) → (nat_eq a b && nat_eq c d) ≡ true → (a ≡ b) × (c ≡ d)
both_equal a b c d e = (grind (arith, nat_tests), grind (arith, nat_tests))

behind : (z m : ℕ) (b : Bool) → z < m → (nat_le (z + 1) m && b) ≡ b
behind z m b h = let e : nat_le (z + 1) m ≡ true = grind (arith, nat_tests) in ap (λ l. l && b) e

grown_on : (z i : ℕ) (from rest n t due due' : Bool) → rest ≡ (nat_le (z + 1) i && n) → n ≡ (from && due) → (z < i → from ≡ true) → (i ≤ z → t ≡ false) → (z < i → (due || t) ≡ due') → (rest || t) ≡ (nat_le (z + 1) i && due')
grown_on z i from rest n t due due' a b d e g = elim (cases_lt z i) [
  | inl less ↦ let d1 = d less in let g1 = g less in grind (arith, nat_tests)
  | inr not_less ↦ let e1 = e not_less in grind (arith, nat_tests)
]

le_zero : (m : ℕ) → true ≡ nat_le 0 m
le_zero m = grind (arith, nat_tests)

lt_zero : (m : ℕ) → nat_lt m 0 ≡ false
lt_zero m = grind (arith, nat_tests)

members_are : (at : WordPlace) (k : Draft) (candidates : ℕ) → Shows of_rows (is_member (bordered (is_inside k.shape)) (bordered (seen_in k at.stripe))) (at.word + 1) (at.stripe + 1) candidates
    → (m : ℕ) → m < 64 → on candidates m ≡ is_spread k.shape (significant_in k) at.word at.stripe m
members_are at k candidates members m l =
    ap (on candidates) (let e : m ≡ 8 * (m / 8) + m % 8 = omega arith in e) ∙ members (m / 8) (m % 8) (omega arith) (omega arith)
    ∙ spread_is_member k.shape (significant_in k) at.word at.stripe m

spread_inside : (s : BlockShape) (f : Field Bool) (j i m : ℕ) → is_spread s f j i m ≡ true → (of_rows (m % 8) && is_inside s (column j m) (row i m)) ≡ true
spread_inside s f j i m e = by (of_rows (m % 8)) (is_inside s (column j m) (row i m)) (not (f (column j m) (row i m)) && touched_in s f (column j m) (row i m)) e
  where
    by : (a b c : Bool) → (a && (b && c)) ≡ true → (a && b) ≡ true
    by true true c e = refl
    by true false c e = e
    by false b c e = e

pub spreading_none : (at : WordPlace) (k : Draft) (v : DecoderView) (sight : Sight) (inside candidates : ℕ) → Sees at k sight → Shows of_rows (bordered (is_inside k.shape)) (at.word + 1) (at.stripe + 1) inside
    → Shows of_rows (is_member (bordered (is_inside k.shape)) (bordered (seen_in k at.stripe))) (at.word + 1) (at.stripe + 1) candidates → Spreading at k v v sight inside candidates candidates
spreading_none at k v sight inside candidates sees limits members = record {
  n = 0;
  draft = k;
  going = going_none 0 at k k v refl (λ coder. refl);
  spreads = record {
    around = sees.significant;
    limits = limits;
    awaits = λ m l. members_are at k candidates members m l ∙ ap (λ b. b && is_spread k.shape (significant_in k) at.word at.stripe m) (le_zero m);
  };
  held = held_none at k sight sees;
  marks = record {
    ahead = λ m l h. refl;
    inside = λ m l e. spread_inside k.shape (significant_in k) at.word at.stripe m (sym (members_are at k candidates members m l) ∙ e);
    marked = λ x y. nothing_more (k.visited x y) (is_in_word at.word at.stripe x y) (on candidates (own_bit x y))
        ∙ ap (λ b. k.visited x y || (is_in_word at.word at.stripe x y && (b && on candidates (own_bit x y)))) (sym (lt_zero (own_bit x y)));
  };
}

-- no place is a member
pub spreading_idle : (at : WordPlace) (k : Draft) (v : DecoderView) (candidates : ℕ) → Shows of_rows (is_member (bordered (is_inside k.shape)) (bordered (seen_in k at.stripe))) (at.word + 1) (at.stripe + 1) candidates
    → candidates ≡ 0 → ReadSoFar 0 at 64 k k v v
spreading_idle at k v candidates members empty =
    going_skip 0 at 0 64 k k v v (going_none 0 at k k v refl (λ coder. refl)) (omega arith) (omega arith) (λ coder m a b. record { plain = λ _. none (nat_lt (8 * at.word + m / 8) k.shape.width); idle = λ c d. idle m a b c d })
  where
    none : (b : Bool) → (b && false) ≡ false
    none true = refl
    none false = refl

    idle : (m : ℕ) → 0 ≤ m → m < 64 → 1 ≤ m % 8 → m % 8 < 5
        → (is_inside k.shape (8 * at.word + m / 8) (4 * at.stripe + m % 8 - 1) && (not (significant_in k (8 * at.word + m / 8) (4 * at.stripe + m % 8 - 1)) && touched_in k.shape (significant_in k) (8 * at.word + m / 8) (4 * at.stripe + m % 8 - 1))) ≡ false
    idle m a b c d =
        second (of_rows (m % 8)) (is_inside k.shape (column at.word m) (row at.stripe m) && (not (significant_in k (column at.word m) (row at.stripe m)) && touched_in k.shape (significant_in k) (column at.word m) (row at.stripe m)))
        (sym (members_are at k candidates members m b) ∙ ap (λ w. on w m) empty ∙ on_zero m) (on_rows (m % 8) c d)

-- the next place that is coded
pub record NextMember (at : WordPlace) (k d : Draft) (v0 v : DecoderView) (z : ℕ) : Type 0 where
  pub place : IsBitPlace d.shape at z
  pub due : (not (significant_in d (column at.word z) (row at.stripe z)) && touched_in d.shape (significant_in d) (column at.word z) (row at.stripe z)) ≡ true
  pub going : ReadSoFar 0 at z k d v0 v

not_significant : (a b : Bool) → (not a && b) ≡ true → a ≡ false
not_significant true b e = absurd cc
not_significant false b e = refl

reached : (at : WordPlace) (k : Draft) (v0 v : DecoderView) (sight : Sight) (inside n visited : ℕ) (st : Spreading at k v0 v sight inside n visited) → 0 < n → n < 2 ^ 64 → st.n ≤ trailing_zeros w64 n
reached at k v0 v sight inside n visited st p q =
    let z = trailing_zeros w64 n in
    let l = lowest n p q in
    let both = and_parts (nat_le st.n z) (is_spread st.draft.shape (significant_in st.draft) at.word at.stripe z) (sym (st.spreads.awaits z l.0) ∙ l.1) in
    true_le st.n z both.0

pub spreading_next : (at : WordPlace) (k : Draft) (v0 v : DecoderView) (sight : Sight) (inside n visited : ℕ) (st : Spreading at k v0 v sight inside n visited) → 0 < n → n < 2 ^ 64 → NextMember at k st.draft v0 v (trailing_zeros w64 n)
spreading_next at k v0 v sight inside n visited st p q =
    let d = st.draft in
    let z = trailing_zeros w64 n in
    let l = lowest n p q in
    let both = and_parts (nat_le st.n z) (is_spread d.shape (significant_in d) at.word at.stripe z) (sym (st.spreads.awaits z l.0) ∙ l.1) in
    let onward = reached at k v0 v sight inside n visited st p q in
    let parts = and_parts (of_rows (z % 8)) (is_inside d.shape (column at.word z) (row at.stripe z) && (not (significant_in d (column at.word z) (row at.stripe z)) && touched_in d.shape (significant_in d) (column at.word z) (row at.stripe z))) both.1 in
    let due = and_parts (is_inside d.shape (column at.word z) (row at.stripe z)) (not (significant_in d (column at.word z) (row at.stripe z)) && touched_in d.shape (significant_in d) (column at.word z) (row at.stripe z)) parts.1 in
    let within = l.0 in
    record {
      place = record { within = l.0; on_row = parts.0; inside = due.0 };
      due = due.1;
      going = going_skip 0 at st.n z k d v0 v st.going onward (omega (arith, within)) (λ coder m a b. record { plain = λ _. none (nat_lt (8 * at.word + m / 8) d.shape.width); idle = λ c d. idle m a b c d });
    }
  where
    none : (b : Bool) → (b && false) ≡ false
    none true = refl
    none false = refl

    spreads : (m : ℕ) → st.n ≤ m → m < trailing_zeros w64 n → is_spread st.draft.shape (significant_in st.draft) at.word at.stripe m ≡ false
    spreads m a b =
        let l = lowest n p q in
        let w = l.0 in
        none_before (on n m) (nat_le st.n m) (is_spread st.draft.shape (significant_in st.draft) at.word at.stripe m) (l.2 m b) (st.spreads.awaits m (omega (arith, w, b))) (le_true st.n m a)

    idle : (m : ℕ) → st.n ≤ m → m < trailing_zeros w64 n → 1 ≤ m % 8 → m % 8 < 5
        → (is_inside st.draft.shape (8 * at.word + m / 8) (4 * at.stripe + m % 8 - 1) && (not (significant_in st.draft (8 * at.word + m / 8) (4 * at.stripe + m % 8 - 1)) && touched_in st.draft.shape (significant_in st.draft) (8 * at.word + m / 8) (4 * at.stripe + m % 8 - 1))) ≡ false
    idle m a b c d = second (of_rows (m % 8)) (is_inside st.draft.shape (column at.word m) (row at.stripe m) && (not (significant_in st.draft (column at.word m) (row at.stripe m)) && touched_in st.draft.shape (significant_in st.draft) (column at.word m) (row at.stripe m))) (spreads m a b) (on_rows (m % 8) c d)

-- a place is coded: what the call that reads it takes
pub member_takes : {A : Type 0} (at : WordPlace) (d d' : Draft) (v v' : DecoderView) (z : ℕ) (u : A) → IsBitPlace d.shape at z → (not (significant_in d (column at.word z) (row at.stripe z)) && touched_in d.shape (significant_in d) (column at.word z) (row at.stripe z)) ≡ true
    → ((coder : State) → Stands v coder → Advanced (read_new v.bytes d.shape at.plane (column at.word z) (row at.stripe z)) (visited_in (column at.word z) (row at.stripe z) d) d' v' coder)
    → TakesStep (place_at v.bytes d.shape at.plane 0 (column at.word z) (row at.stripe z)) d d' v v' (Ok u)
member_takes at d d' v v' z u place due takes = λ coder st.
    let a = takes coder st in
    record { next = a.next; stands = a.stands; is = member_due v.bytes d.shape at.plane (column at.word z) (row at.stripe z) (progress d coder) place.inside due ∙ a.is }

same_spread : (s s' : BlockShape) (f g : Field Bool) (j i m : ℕ) → s' ≡ s → ((x y : ℕ) → g x y ≡ f x y) → is_spread s' g j i m ≡ is_spread s f j i m
same_spread s s' f g j i m e h = ap (λ (s : BlockShape). is_spread s g j i m) e ∙ ap (λ (f : Field Bool). is_spread s f j i m) (same_field g f h)

step_on : (z m : ℕ) (rest n from due due' : Bool) (k : ℕ) → k ≤ z → rest ≡ (nat_le (z + 1) m && n) → n ≡ (nat_le k m && due) → due' ≡ due → rest ≡ (nat_le (z + 1) m && due')
step_on z m rest n from due due' k h a b d = grind (arith, nat_tests)

-- one place more is marked: the next member
marks_next : (at : WordPlace) (k : Draft) (v0 v : DecoderView) (sight : Sight) (inside n visited rest more : ℕ) (st : Spreading at k v0 v sight inside n visited) → 0 < n → n < 2 ^ 64
    → ((m : ℕ) → m < 64 → trailing_zeros w64 n < m → on rest m ≡ (on n m || on more m)) → ((m : ℕ) → m ≤ trailing_zeros w64 n → m < 64 → on more m ≡ false)
    → ((m : ℕ) → m < 64 → on more m ≡ true → (of_rows (m % 8) && is_inside st.draft.shape (column at.word m) (row at.stripe m)) ≡ true)
    → (d' : Draft) → d'.shape ≡ st.draft.shape → d'.visited ≡ put st.draft.visited (column at.word (trailing_zeros w64 n)) (row at.stripe (trailing_zeros w64 n)) true
    → Marks at (trailing_zeros w64 n + 1) k d' rest (bit_or visited more)
marks_next at k v0 v sight inside n visited rest more st p q rest_is low within d' shape put_is =
    let z = trailing_zeros w64 n in
    let l = lowest n p q in
    let next = spreading_next at k v0 v sight inside n visited st p q in
    let onward = reached at k v0 v sight inside n visited st p q in
    record {
      ahead = λ m h a. on_or visited more m ∙ ap (λ b. b || on more m) (st.marks.ahead m h (omega (arith, a, onward))) ∙ sym (rest_is m h (omega (arith, a)));
      inside = λ m h e. ap (λ (s : BlockShape). of_rows (m % 8) && is_inside s (column at.word m) (row at.stripe m)) shape
          ∙ either (on visited m) (on more m) (sym (on_or visited more m) ∙ e) (λ e. st.marks.inside m h e) (λ e. within m h e);
      marked = λ x y. ap (λ (f : Field Bool). f x y) put_is ∙ marked x y;
    }
  where
    either : (a b : Bool) {r : Bool} → (a || b) ≡ true → (a ≡ true → r ≡ true) → (b ≡ true → r ≡ true) → r ≡ true
    either true b e f g = f refl
    either false b e f g = g e

    marked : (x y : ℕ) → put st.draft.visited (column at.word (trailing_zeros w64 n)) (row at.stripe (trailing_zeros w64 n)) true x y
        ≡ (k.visited x y || (is_in_word at.word at.stripe x y && (nat_lt (own_bit x y) (trailing_zeros w64 n + 1) && on (bit_or visited more) (own_bit x y))))
    marked x y =
        let z = trailing_zeros w64 n in
        let l = lowest n p q in
        let next = spreading_next at k v0 v sight inside n visited st p q in
        let onward = reached at k v0 v sight inside n visited st p q in
        let w = bit_within x y in
        ap (λ b. cond (nat_eq x (column at.word z) && nat_eq y (row at.stripe z)) true b) (st.marks.marked x y)
        ∙ gate (own_bit x y) z st.n (k.visited x y) (is_in_word at.word at.stripe x y) (nat_eq x (column at.word z) && nat_eq y (row at.stripe z)) (on visited (own_bit x y)) (on (bit_or visited more) (own_bit x y)) onward
        (λ e g. here x y e g) (λ e. there x y e)
        (λ e. on_or visited more (own_bit x y) ∙ ap (λ b. b || on more (own_bit x y)) (ap (on visited) e ∙ st.marks.ahead z l.0 onward ∙ l.1))
        (λ a. on_or visited more (own_bit x y) ∙ ap (λ b. on visited (own_bit x y) || b) (low (own_bit x y) a w) ∙ plain (on visited (own_bit x y)))
        (λ a b. st.marks.ahead (own_bit x y) w a ∙ l.2 (own_bit x y) b)
      where
        plain : (b : Bool) → (b || false) ≡ b
        plain true = refl
        plain false = refl

        here : (x y : ℕ) → is_in_word at.word at.stripe x y ≡ true → own_bit x y ≡ trailing_zeros w64 n → (nat_eq x (column at.word (trailing_zeros w64 n)) && nat_eq y (row at.stripe (trailing_zeros w64 n))) ≡ true
        here x y e g = let s = same_place at.word at.stripe x y (trailing_zeros w64 n) e g in equal_both x (column at.word (trailing_zeros w64 n)) y (row at.stripe (trailing_zeros w64 n)) s.0 s.1

        there : (x y : ℕ) → (nat_eq x (column at.word (trailing_zeros w64 n)) && nat_eq y (row at.stripe (trailing_zeros w64 n))) ≡ true → (is_in_word at.word at.stripe x y ≡ true) × (own_bit x y ≡ trailing_zeros w64 n)
        there x y e =
            let z = trailing_zeros w64 n in
            let next = spreading_next at k v0 v sight inside n visited st p q in
            let s = both_equal x (column at.word z) y (row at.stripe z) e in
            let b = place_bit at.word at.stripe z next.place.within next.place.on_row in
            (ap (λ x. is_in_word at.word at.stripe x y) s.0 ∙ ap (is_in_word at.word at.stripe (column at.word z)) s.1 ∙ b.0, ap (λ x. own_bit x y) s.0 ∙ ap (own_bit (column at.word z)) s.1 ∙ b.1)

        gate : (m z from : ℕ) (old w here vis vis' : Bool) → from ≤ z → (w ≡ true → m ≡ z → here ≡ true) → (here ≡ true → (w ≡ true) × (m ≡ z)) → (m ≡ z → vis' ≡ (true || on more m)) → (m ≤ z → vis' ≡ vis) → (from ≤ m → m < z → vis ≡ false)
            → cond here true (old || (w && (nat_lt m from && vis))) ≡ (old || (w && (nat_lt m (z + 1) && vis')))
        gate m z from old w true vis vis' h a b d e g =
            let t = b refl in
            let t0 = t.0 in
            let t1 = t.1 in
            let v = d t1 in
            let lt = lt_true m (z + 1) (omega (arith, t1)) in
            sym (ap (λ w. old || (w && (nat_lt m (z + 1) && vis'))) t0 ∙ ap (λ l. old || (l && vis')) lt ∙ ap (λ v. old || v) v ∙ or_true old)
          where
            or_true : (b : Bool) → (b || true) ≡ true
            or_true true = refl
            or_true false = refl
        gate m z from old false false vis vis' h a b d e g = refl
        gate m z from old true false vis vis' h a b d e g = elim (cases_lt m from) [
          | inl less ↦
              let e0 = e (omega (arith, less, h)) in
              let l0 = lt_true m from less in
              let l1 = lt_true m (z + 1) (omega (arith, less, h)) in
              ap (λ l. old || (l && vis)) l0 ∙ sym (ap (λ l. old || (l && vis')) l1 ∙ ap (λ v. old || v) e0)
          | inr more ↦ elim (cases_lt m z) [
            | inl less ↦
                let e0 = e (omega (arith, less)) in
                let g0 = g more less in
                ap (λ v. old || (nat_lt m from && v)) g0 ∙ ap (λ b. old || b) (none (nat_lt m from)) ∙ sym (ap (λ v. old || (nat_lt m (z + 1) && v)) (e0 ∙ g0) ∙ ap (λ b. old || b) (none (nat_lt m (z + 1))))
            | inr up ↦ elim (cases_lt z m) [
              | inl above ↦
                  let l0 = lt_false m from (omega (arith, above, h)) in
                  let l1 = lt_false m (z + 1) (omega (arith, above)) in
                  ap (λ l. old || (l && vis)) l0 ∙ sym (ap (λ l. old || (l && vis')) l1)
              | inr same ↦ absurd (let t = a refl (omega (arith, up, same)) in cc)
            ]
          ]
        ]
          where
            none : (b : Bool) → (b && false) ≡ false
            none true = refl
            none false = refl

pub spreading_zero : {A : Type 0} (at : WordPlace) (k : Draft) (v0 v v' : DecoderView) (sight sight' : Sight) (inside n visited : ℕ) (u : A) (st : Spreading at k v0 v sight inside n visited) → 0 < n → n < 2 ^ 64
    → ((coder : State) → Stands v coder → Advanced (read_new v.bytes st.draft.shape at.plane (column at.word (trailing_zeros w64 n)) (row at.stripe (trailing_zeros w64 n)))
    (visited_in (column at.word (trailing_zeros w64 n)) (row at.stripe (trailing_zeros w64 n)) st.draft) (visited_in (column at.word (trailing_zeros w64 n)) (row at.stripe (trailing_zeros w64 n)) st.draft) v' coder)
    → v'.bytes ≡ v.bytes → Sees at (visited_in (column at.word (trailing_zeros w64 n)) (row at.stripe (trailing_zeros w64 n)) st.draft) sight' → Spreading at k v0 v' sight' inside (bit_and n (n - 1)) visited
spreading_zero at k v0 v v' sight sight' inside n visited u st p q takes bytes sees =
    let d = st.draft in
    let z = trailing_zeros w64 n in
    let d' = visited_in (column at.word z) (row at.stripe z) d in
    let next = spreading_next at k v0 v sight inside n visited st p q in
    let l = lowest n p q in
    let onward = reached at k v0 v sight inside n visited st p q in
    record {
      n = z + 1;
      draft = d';
      going = going_place 0 at z k d d' v0 v v' u next.going next.place (member_takes at d d' v v' z u next.place next.due takes) refl bytes;
      spreads = record {
        around = sees.significant;
        limits = st.spreads.limits;
        awaits = λ m h. step_on z m (on (bit_and n (n - 1)) m) (on n m) true (is_spread d.shape (significant_in d) at.word at.stripe m) (is_spread d'.shape (significant_in d') at.word at.stripe m) st.n onward
            (rest_at n p q m) (st.spreads.awaits m h) refl;
      };
      held = held_visited at k d sight sight' (column at.word z) (row at.stripe z) st.held sees;
      marks = subst (λ w. Marks at (z + 1) k d' (bit_and n (n - 1)) w) (or_zero_r visited)
          (marks_next at k v0 v sight inside n visited (bit_and n (n - 1)) 0 st p q
          (λ m h a. rest_at n p q m ∙ behind z m (on n m) a ∙ sym (ap (λ b. on n m || b) (on_zero m) ∙ plain (on n m)))
          (λ m a h. on_zero m) (λ m h e. absurd (let f = on_zero m in let c : true ≡ false = sym e ∙ f in cc)) d' refl refl);
    }
  where
    plain : (b : Bool) → (b || false) ≡ b
    plain true = refl
    plain false = refl

significant_off : (at : WordPlace) (k d : Draft) (v0 v : DecoderView) (z : ℕ) → NextMember at k d v0 v z → significant_in d (column at.word z) (row at.stripe z) ≡ false
significant_off at k d v0 v z next = not_significant (significant_in d (column at.word z) (row at.stripe z)) (touched_in d.shape (significant_in d) (column at.word z) (row at.stripe z)) next.due

-- what a place that became significant takes in lies inside
taken_inside : (s : BlockShape) (j i inside x z m : ℕ) → Shows of_rows (bordered (is_inside s)) (j + 1) (i + 1) inside → m < 64 → on (taken inside x z) m ≡ true → (of_rows (m % 8) && is_inside s (column j m) (row i m)) ≡ true
taken_inside s j i inside x z m shows l e =
    sym (limit_bit s j i m inside shows l)
    ∙ first (on inside m) (on (0x382 * 2 ^ z % 2 ^ 64) m) (on (bit_not w64 x) m)
    (sym (on_and (bit_and (0x382 * 2 ^ z % 2 ^ 64) inside) (bit_not w64 x) m ∙ ap (λ b. b && on (bit_not w64 x) m) (on_and (0x382 * 2 ^ z % 2 ^ 64) inside m)) ∙ e)
  where
    first : (a b c : Bool) → ((b && a) && c) ≡ true → a ≡ true
    first true b c e = refl
    first false true c e = e
    first false false c e = e

pub spreading_one : {A : Type 0} (at : WordPlace) (k : Draft) (v0 v v' : DecoderView) (sight sight' : Sight) (inside n visited : ℕ) (u : A) (st : Spreading at k v0 v sight inside n visited) → 0 < n → n < 2 ^ 64 → sight'.significant.centre < 2 ^ 64
    → ((coder : State) → Stands v coder → Advanced (read_new v.bytes st.draft.shape at.plane (column at.word (trailing_zeros w64 n)) (row at.stripe (trailing_zeros w64 n)))
    (visited_in (column at.word (trailing_zeros w64 n)) (row at.stripe (trailing_zeros w64 n)) st.draft) (significant_at at (trailing_zeros w64 n) sight' (visited_in (column at.word (trailing_zeros w64 n)) (row at.stripe (trailing_zeros w64 n)) st.draft)) v' coder)
    → v'.bytes ≡ v.bytes → Sees at (significant_at at (trailing_zeros w64 n) sight' (visited_in (column at.word (trailing_zeros w64 n)) (row at.stripe (trailing_zeros w64 n)) st.draft)) sight'
    → Spreading at k v0 v' sight' inside (bit_or (bit_and n (n - 1)) (taken inside sight'.significant.centre (trailing_zeros w64 n))) (bit_or visited (taken inside sight'.significant.centre (trailing_zeros w64 n)))
spreading_one at k v0 v v' sight sight' inside n visited u st p q xb takes bytes sees =
    let d = st.draft in
    let z = trailing_zeros w64 n in
    let j = at.word in
    let i = at.stripe in
    let x = column j z in
    let y = row i z in
    let dv = visited_in x y d in
    let d' = significant_at at z sight' dv in
    let next = spreading_next at k v0 v sight inside n visited st p q in
    let l = lowest n p q in
    let onward = reached at k v0 v sight inside n visited st p q in
    let centre = sight'.significant.centre in
    let ins = bordered (is_inside d.shape) in
    let old = bordered (seen_in d at.stripe) in
    let known_significant = grown at d z (sign_seen sight' z) next.place in
    let own = subst (λ (f : Truths). Shows of_gathered f (j + 1) (i + 1) centre) (ap (λ (g : Truths). bordered g) (same_field (seen_in d' i) (also (seen_in d i) x y) (seen_also d.shape (significant_in d) (significant_in d') j i z next.place.on_row known_significant)) ∙ bordered_also (seen_in d i) j i z next.place.on_row) sees.significant.centre in
    record {
      n = z + 1;
      draft = d';
      going = going_place 0 at z k d d' v0 v v' u next.going next.place (member_takes at d d' v v' z u next.place next.due takes) refl bytes;
      spreads = record {
        around = sees.significant;
        limits = st.spreads.limits;
        awaits = λ m h.
            on_or (bit_and n (n - 1)) (taken inside centre z) m
            ∙ grown_on z m (nat_le st.n m) (on (bit_and n (n - 1)) m) (on n m) (on (taken inside centre z) m) (is_spread d.shape (significant_in d) j i m) (is_spread d'.shape (significant_in d') j i m)
            (rest_at n p q m) (st.spreads.awaits m h) (λ le. le_true st.n m (omega (arith, onward, le))) (λ le. taken_low inside centre z m h le)
            (λ le. ap (λ b. b || on (taken inside centre z) m) (sym (spread_is_member d.shape (significant_in d) j i m))
            ∙ added_at old ins j i centre inside z m xb le h next.place.on_row own st.spreads.limits
            ∙ later m);
      };
      held = held_significant at k dv sight sight' z (sign_seen sight' z) (held_visited at k d sight sight x y st.held record { significant = st.held.sees.significant; negative = st.held.sees.negative }) record { within = next.place.within; on_row = next.place.on_row; inside = next.place.inside } (significant_off at k d v0 v z next) sees;
      marks = marks_next at k v0 v sight inside n visited (bit_or (bit_and n (n - 1)) (taken inside centre z)) (taken inside centre z) st p q
          (λ m h a. on_or (bit_and n (n - 1)) (taken inside centre z) m ∙ ap (λ b. b || on (taken inside centre z) m) (rest_at n p q m ∙ behind z m (on n m) a))
          (λ m a h. taken_low inside centre z m h a) (λ m h e. taken_inside d.shape j i inside centre z m st.spreads.limits h e) d' refl refl;
    }
  where
    grown : (at : WordPlace) (d : Draft) (z : ℕ) (negative : Bool) → IsBitPlace d.shape at z → (u v : ℕ) → significant_in (coded_in at.plane (column at.word z) (row at.stripe z) true negative d) u v ≡ also (significant_in d) (column at.word z) (row at.stripe z) u v
    grown at d z negative place u v = significant_put d.shape d.magnitude (column at.word z) (row at.stripe z) (above (at.plane + 1) (d.magnitude (column at.word z) (row at.stripe z)) + 2 ^ at.plane) place.inside (let p = pow_pos at.plane in omega (arith, p)) u v

    later : (m : ℕ) → (of_rows (m % 8) && is_member (bordered (is_inside st.draft.shape)) (also (bordered (seen_in st.draft at.stripe)) (column (at.word + 1) (trailing_zeros w64 n)) (row (at.stripe + 1) (trailing_zeros w64 n))) (column (at.word + 1) m) (row (at.stripe + 1) m))
        ≡ is_spread st.draft.shape (significant_in (significant_at at (trailing_zeros w64 n) sight' (visited_in (column at.word (trailing_zeros w64 n)) (row at.stripe (trailing_zeros w64 n)) st.draft))) at.word at.stripe m
    later m =
        let d = st.draft in
        let z = trailing_zeros w64 n in
        let next = spreading_next at k v0 v sight inside n visited st p q in
        let d' = significant_at at z sight' (visited_in (column at.word z) (row at.stripe z) d) in
        ap (λ (g : Truths). of_rows (m % 8) && is_member (bordered (is_inside d.shape)) g (column (at.word + 1) m) (row (at.stripe + 1) m))
        (sym (bordered_also (seen_in d at.stripe) at.word at.stripe z next.place.on_row)
        ∙ sym (ap (λ (g : Truths). bordered g) (same_field (seen_in d' at.stripe) (also (seen_in d at.stripe) (column at.word z) (row at.stripe z)) (seen_also d.shape (significant_in d) (significant_in d') at.word at.stripe z next.place.on_row (grown at d z (sign_seen sight' z) next.place)))))
        ∙ spread_is_member d.shape (significant_in d') at.word at.stripe m

pub spreading_all : (at : WordPlace) (k : Draft) (v0 v : DecoderView) (sight : Sight) (inside n visited : ℕ) (st : Spreading at k v0 v sight inside n visited) → n ≡ 0 → ReadSoFar 0 at 64 k st.draft v0 v
spreading_all at k v0 v sight inside n visited st empty =
    going_skip 0 at st.n 64 k st.draft v0 v st.going st.going.most (omega arith) (λ coder m a b. record { plain = λ _. none (nat_lt (8 * at.word + m / 8) st.draft.shape.width); idle = λ c d. idle m a b c d })
  where
    none : (b : Bool) → (b && false) ≡ false
    none true = refl
    none false = refl

    idle : (m : ℕ) → st.n ≤ m → m < 64 → 1 ≤ m % 8 → m % 8 < 5
        → (is_inside st.draft.shape (8 * at.word + m / 8) (4 * at.stripe + m % 8 - 1) && (not (significant_in st.draft (8 * at.word + m / 8) (4 * at.stripe + m % 8 - 1)) && touched_in st.draft.shape (significant_in st.draft) (8 * at.word + m / 8) (4 * at.stripe + m % 8 - 1))) ≡ false
    idle m a b c d =
        second (of_rows (m % 8)) (is_inside st.draft.shape (column at.word m) (row at.stripe m) && (not (significant_in st.draft (column at.word m) (row at.stripe m)) && touched_in st.draft.shape (significant_in st.draft) (column at.word m) (row at.stripe m)))
        (none_before (on n m) (nat_le st.n m) (is_spread st.draft.shape (significant_in st.draft) at.word at.stripe m) (ap (λ w. on w m) empty ∙ on_zero m) (st.spreads.awaits m b) (le_true st.n m a))
        (on_rows (m % 8) c d)

-- behind the word all its candidates are marked
pub marked_all : (at : WordPlace) (k : Draft) (v0 v : DecoderView) (sight : Sight) (inside n visited : ℕ) (st : Spreading at k v0 v sight inside n visited) → n ≡ 0 → st.draft.visited ≡ with_word k.visited at.word at.stripe visited
marked_all at k v0 v sight inside n visited st empty = same_field st.draft.visited (with_word k.visited at.word at.stripe visited) (λ x y.
    st.marks.marked x y ∙ ap (λ b. k.visited x y || (is_in_word at.word at.stripe x y && b)) (late (own_bit x y) (bit_within x y)))
  where
    early : (m : ℕ) (b : Bool) → m < st.n → (nat_lt m st.n && b) ≡ b
    early m b h = ap (λ l. l && b) (lt_true m st.n h)

    off : (m : ℕ) (b : Bool) → b ≡ false → (nat_lt m st.n && b) ≡ b
    off m b e = ap (λ b. nat_lt m st.n && b) e ∙ none (nat_lt m st.n) ∙ sym e
      where
        none : (b : Bool) → (b && false) ≡ false
        none true = refl
        none false = refl

    late : (m : ℕ) → m < 64 → (nat_lt m st.n && on visited m) ≡ on visited m
    late m l = elim (cases_lt m st.n) [
      | inl less ↦ early m (on visited m) less
      | inr more ↦ off m (on visited m) (st.marks.ahead m l more ∙ ap (λ w. on w m) empty ∙ on_zero m)
    ]

pub member_fault : (at : WordPlace) (d : Draft) (v : DecoderView) (z : ℕ) (e : Fault) → IsBitPlace d.shape at z → (not (significant_in d (column at.word z) (row at.stripe z)) && touched_in d.shape (significant_in d) (column at.word z) (row at.stripe z)) ≡ true
    → ((coder : State) → Stands v coder → read_new v.bytes d.shape at.plane (column at.word z) (row at.stripe z) (progress (visited_in (column at.word z) (row at.stripe z) d) coder) ≡ Err e)
    → (coder : State) → Stands v coder → place_at v.bytes d.shape at.plane 0 (column at.word z) (row at.stripe z) (progress d coder) ≡ Err e
member_fault at d v z e place due takes coder st = member_due v.bytes d.shape at.plane (column at.word z) (row at.stripe z) (progress d coder) place.inside due ∙ takes coder st

-- behind the word, with its coded places marked
pub held_behind : (at : WordPlace) (k d : Draft) (sight : Sight) (visited : Field Bool) → Held at k sight d → Held at (record k { visited = visited }) sight d
held_behind at k d sight visited h = record {
  shape = h.shape;
  sees = h.sees;
  changed = λ x y. elim (h.changed x y) [ inl e ↦ inl record { magnitude = e.magnitude; negative = e.negative } | inr e ↦ inr record { word = e.word; inside = e.inside; before = e.before; now = e.now } ];
}

-- the draft behind the word
pub draft_behind : (at : WordPlace) (k : Draft) (v0 v : DecoderView) (sight : Sight) (inside n visited : ℕ) (st : Spreading at k v0 v sight inside n visited) → n ≡ 0 → (marked known_significant : Draft) → marked ≡ record k { visited = with_word k.visited at.word at.stripe visited }
    → known_significant ≡ record st.draft { visited = marked.visited } → known_significant ≡ st.draft
draft_behind at k v0 v sight inside n visited st empty marked known_significant e g =
    g ∙ ap (λ (f : Field Bool). with_visited st.draft f) (ap (λ (d : Draft). d.visited) e ∙ sym (marked_all at k v0 v sight inside n visited st empty))
  where
    with_visited : Draft → Field Bool → Draft
    with_visited d f = record d { visited = f }
