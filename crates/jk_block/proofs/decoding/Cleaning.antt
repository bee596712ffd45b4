-- Cleanup over a word.
use Rattle.std.proofs.Common.{◌≡◌, ℕ, zero, suc, ◌+◌, ◌-◌, ◌*◌, ◌/◌, ◌%◌, ◌^◌, ◌<◌, ◌≤◌, Bool, true, false, not, Ok, Err, refl, sym, ap, ◌∙◌, subst, inl, inr, arith}
use Rattle.std.specs.Prelude.{◌&&◌, ◌||◌, nat_eq, nat_le, nat_lt}
use Rattle.std.specs.Int.{trailing_zeros, w64}
use Rattle.std.specs.Int.RustNames.{bit_or, bit_and}
use Rattle.std.proofs.lemmas.Bool.{cases_lt, and_parts}
use Rattle.std.proofs.lemmas.Bool.Decides.{nat_tests}
use Rattle.std.proofs.lemmas.Nat.{pow_pos, or_lt, and_le_l}
use Rattle.jk_math.specs.declared.fault.Fault.{Fault}
use Rattle.jk_model.specs.Decisions.{State}
use Rattle.jk_mqdec.specs.Standing.{DecoderView, Stands}
use Rattle.jk_scan.specs.declared.shape.BlockShape.{BlockShape}
use Rattle.jk_scan.specs.declared.around.Around.{Around}
use Rattle.jk_scan.specs.Bits.{on}
use Rattle.jk_scan.specs.Neighbours.{Field, is_inside, touched_in}
use Rattle.jk_scan.specs.Words.{of_rows, bordered}
use Rattle.jk_scan.specs.WordPlaces.{column, row, also}
use Rattle.jk_scan.specs.Surroundings.{IsAround}
use Rattle.jk_scan.proofs.Laws.{rows_between, lowest, on_or, on_zero, later_lowest}
use Rattle.jk_block.specs.declared.word_place.WordPlace.{WordPlace}
use Rattle.jk_block.specs.Reading.{is_quiet, place_at, rows_at, read_new, read_run}
use Rattle.jk_block.specs.decoding.BlockStates.{Draft, progress, significant_in, coded_in, Advanced, TakesStep, Onward}
use Rattle.jk_block.specs.decoding.Sights.{Sees, Held, significant_at, sign_seen, seen_in}
use Rattle.jk_block.specs.declared.decoding.sight.Sight.{Sight}
use Rattle.jk_block.specs.Meaning.{above}
use Rattle.jk_block.proofs.Drawing.{significant_put}
use Rattle.jk_block.proofs.decoding.Holding.{held_none, held_same, held_significant}
use Rattle.jk_block.proofs.decoding.WordSteps.{left_due}
use Rattle.jk_block.specs.Steps.{IsBitPlace, word_pass}
use Rattle.jk_block.proofs.decoding.ReadSoFar.{ReadSoFar, going_none, going_skip, going_place, going_run, going_run_fault}
use Rattle.jk_block.proofs.decoding.Leaving.{is_left, left_after, left_kept}
use Rattle.jk_block.proofs.StillBits.{Behind, by_columns, bits_from, bits_kept, bits_behind, rest_bits, run_bits, above_bits}
use Rattle.jk_block.proofs.Stills.{is_still}
use Rattle.jk_block.proofs.WordBits.{le_true, true_le, on_rows, is_one_number, none_before}

-- Words show the pass at bit n: what is around, the places that are left, and the still columns
-- that have not begun.
pub record Cleans (at : WordPlace) (n : ℕ) (k : Draft) (seen : Around) (left still : ℕ) : Type 0 where
  pub around : IsAround (bordered (seen_in k at.stripe)) at.word at.stripe seen
  pub left_is : (m : ℕ) → m < 64 → on left m ≡ (nat_le n m && is_left k at.word at.stripe m)
  pub still_is : (m : ℕ) → m < 64 → on still m ≡ (nat_eq (m % 8) 1 && (nat_le n (m - 1) && is_still k.shape (significant_in k) at.word at.stripe (m / 8)))

pub record CleaningAt (at : WordPlace) (k0 k : Draft) (v0 v : DecoderView) (seen : Around) (left still : ℕ) : Type 0 where
  pub n : ℕ
  pub going : ReadSoFar 2 at n k0 k v0 v
  pub cleans : Cleans at n k seen left still

at_none : (at : WordPlace) (k : Draft) (v : DecoderView) (seen : Around) (left still : ℕ) → IsAround (bordered (seen_in k at.stripe)) at.word at.stripe seen
    → ((m : ℕ) → m < 64 → on left m ≡ is_left k at.word at.stripe m) → ((m : ℕ) → m < 64 → on still m ≡ (nat_eq (m % 8) 1 && is_still k.shape (significant_in k) at.word at.stripe (m / 8)))
    → CleaningAt at k k v v seen left still
at_none at k v seen left still around left_is still_is = record {
  n = 0;
  going = going_none 2 at k k v refl (λ coder. refl);
  cleans = record {
    around = around;
    left_is = λ m l. left_is m l ∙ ap (λ b. b && is_left k at.word at.stripe m) (let e : true ≡ nat_le 0 m = grind (arith, nat_tests) in e);
    still_is = λ m l. still_is m l ∙ ap (λ b. nat_eq (m % 8) 1 && (b && is_still k.shape (significant_in k) at.word at.stripe (m / 8))) (let e : true ≡ nat_le 0 (m - 1) = grind (arith, nat_tests) in e);
  };
}

pub second : (r d : Bool) → (r && d) ≡ false → r ≡ true → d ≡ false
second true d e h = e
second false d e h = absurd cc

neither : (a b : Bool) → (a || b) ≡ false → (a ≡ false) × (b ≡ false)
neither true b e = absurd cc
neither false b e = (refl, e)

one_of : (a b : Bool) → (a || b) ≡ true → b ≡ false → a ≡ true
one_of true b e h = refl
one_of false b e h = let c : true ≡ false = sym e ∙ h in absurd cc

-- nothing happens from n to z, where no bit is set before z, and no still column begins at z
idle_until : (at : WordPlace) (k0 k : Draft) (v0 v : DecoderView) (seen : Around) (left still : ℕ) (st : CleaningAt at k0 k v0 v seen left still) (z : ℕ) → z ≤ 64 → ((m : ℕ) → m < z → (on left m ≡ false) × (on still m ≡ false))
    → (d : ℕ) → st.n ≤ d → d ≤ z → (d ≡ z → z < 64 → on still z ≡ false) → ReadSoFar 2 at d k0 k v0 v
idle_until at k0 k v0 v seen left still st z most clear d from to end =
    going_skip 2 at st.n d k0 k v0 v st.going from (omega arith) (λ coder m a b. record { plain = λ e. plain m a b e; idle = λ g h. idle m a b g h })
  where
    off : (m : ℕ) → m < 64 → st.n ≤ m - 1 → m % 8 ≡ 1 → on still m ≡ false → is_still k.shape (significant_in k) at.word at.stripe (m / 8) ≡ false
    off m l a e h =
        none_before (on still m) (nat_le st.n (m - 1)) (is_still k.shape (significant_in k) at.word at.stripe (m / 8)) h
        (st.cleans.still_is m l ∙ ap (λ b. b && (nat_le st.n (m - 1) && is_still k.shape (significant_in k) at.word at.stripe (m / 8))) (let g : nat_eq (m % 8) 1 ≡ true = grind (arith, nat_tests) in g)) (le_true st.n (m - 1) a)

    plain : (m : ℕ) → st.n ≤ m → m < d → m % 8 ≡ 0 → (nat_lt (8 * at.word + m / 8) k.shape.width && is_quiet k.shape (significant_in k) (8 * at.word + m / 8) at.stripe) ≡ false
    plain m a b e =
        ap (λ c. is_still k.shape (significant_in k) at.word at.stripe c) (let g : m / 8 ≡ (m + 1) / 8 = omega arith in g)
        ∙ off (m + 1) (omega arith) (omega arith) (omega arith)
        (elim (cases_lt (m + 1) z) [ inl less ↦ (clear (m + 1) less).1 | inr not_less ↦ let g : m + 1 ≡ z = omega arith in ap (on still) g ∙ end (omega arith) (omega arith) ])

    idle : (m : ℕ) → st.n ≤ m → m < d → 1 ≤ m % 8 → m % 8 < 5
        → (is_inside k.shape (8 * at.word + m / 8) (4 * at.stripe + m % 8 - 1) && (not (significant_in k (8 * at.word + m / 8) (4 * at.stripe + m % 8 - 1)) && not (k.visited (8 * at.word + m / 8) (4 * at.stripe + m % 8 - 1)))) ≡ false
    idle m a b g h =
        second (of_rows (m % 8)) (is_inside k.shape (column at.word m) (row at.stripe m) && (not (significant_in k (column at.word m) (row at.stripe m)) && not (k.visited (column at.word m) (row at.stripe m))))
        (none_before (on left m) (nat_le st.n m) (is_left k at.word at.stripe m) (clear m (omega arith)).0 (st.cleans.left_is m (omega arith)) (le_true st.n m a))
        (on_rows (m % 8) g h)

-- the next place that is coded by itself
pub record NextLeft (at : WordPlace) (k0 k : Draft) (v0 v : DecoderView) (left z : ℕ) : Type 0 where
  pub place : IsBitPlace k.shape at z
  pub due : (not (significant_in k (column at.word z) (row at.stripe z)) && not (k.visited (column at.word z) (row at.stripe z))) ≡ true
  pub going : ReadSoFar 2 at z k0 k v0 v
  pub set : on left z ≡ true

clear_below : (left still : ℕ) → 0 < bit_or left still → bit_or left still < 2 ^ 64 → (m : ℕ) → m < trailing_zeros w64 (bit_or left still) → (on left m ≡ false) × (on still m ≡ false)
clear_below left still p q m h = let l = lowest (bit_or left still) p q in neither (on left m) (on still m) (sym (on_or left still m) ∙ l.2 m h)

left_at_next : (at : WordPlace) (k0 k : Draft) (v0 v : DecoderView) (seen : Around) (left still : ℕ) (st : CleaningAt at k0 k v0 v seen left still) → 0 < bit_or left still → bit_or left still < 2 ^ 64
    → on still (trailing_zeros w64 (bit_or left still)) ≡ false → NextLeft at k0 k v0 v left (trailing_zeros w64 (bit_or left still))
left_at_next at k0 k v0 v seen left still st p q off =
    let z = trailing_zeros w64 (bit_or left still) in
    let x = column at.word z in
    let y = row at.stripe z in
    let l = lowest (bit_or left still) p q in
    let set = one_of (on left z) (on still z) (sym (on_or left still z) ∙ l.1) off in
    let both = and_parts (nat_le st.n z) (is_left k at.word at.stripe z) (sym (st.cleans.left_is z l.0) ∙ set) in
    let parts = and_parts (of_rows (z % 8)) (is_inside k.shape x y && (not (significant_in k x y) && not (k.visited x y))) both.1 in
    let due = and_parts (is_inside k.shape x y) (not (significant_in k x y) && not (k.visited x y)) parts.1 in
    let within = l.0 in
    record {
      place = record { within = l.0; on_row = parts.0; inside = due.0 };
      due = due.1;
      going = idle_until at k0 k v0 v seen left still st z (omega (arith, within)) (clear_below left still p q) z (true_le st.n z both.0) (omega arith) (λ _ _. off);
      set = set;
    }

-- the next column in run mode
pub record NextRun (at : WordPlace) (k0 k : Draft) (v0 v : DecoderView) (z : ℕ) : Type 0 where
  pub place : IsBitPlace k.shape at z
  pub first : z % 8 ≡ 1
  pub rows : 4 * at.stripe + 4 ≤ k.shape.height
  pub run : is_still k.shape (significant_in k) at.word at.stripe (z / 8) ≡ true
  pub going : ReadSoFar 2 at (z - 1) k0 k v0 v

high_enough : (s : BlockShape) (f : Field Bool) (x i : ℕ) → is_quiet s f x i ≡ true → 4 * i + 4 ≤ s.height
unfolding is_quiet
high_enough s f x i h =
    let q : ℕ → Bool = λ j. not (f x (4 * i + j)) && not (touched_in s f x (4 * i + j)) in
    true_le (4 * i + 4) s.height (and_parts (nat_le (4 * i + 4) s.height) ((q 0 && q 1) && (q 2 && q 3)) h).0

both_true : (a b : Bool) → a ≡ true → b ≡ true → (a && b) ≡ true
both_true a b e g = cc

lt_true : (a b : ℕ) → a < b → nat_lt a b ≡ true
lt_true a b h = grind (arith, nat_tests)

run_at_next : (at : WordPlace) (k0 k : Draft) (v0 v : DecoderView) (seen : Around) (left still : ℕ) (st : CleaningAt at k0 k v0 v seen left still) → 0 < bit_or left still → bit_or left still < 2 ^ 64
    → on still (trailing_zeros w64 (bit_or left still)) ≡ true → NextRun at k0 k v0 v (trailing_zeros w64 (bit_or left still))
run_at_next at k0 k v0 v seen left still st p q set =
    let z = trailing_zeros w64 (bit_or left still) in
    let l = lowest (bit_or left still) p q in
    let all = and_parts (nat_eq (z % 8) 1) (nat_le st.n (z - 1) && is_still k.shape (significant_in k) at.word at.stripe (z / 8)) (sym (st.cleans.still_is z l.0) ∙ set) in
    let both = and_parts (nat_le st.n (z - 1)) (is_still k.shape (significant_in k) at.word at.stripe (z / 8)) all.1 in
    let parts = and_parts (nat_lt (8 * at.word + z / 8) k.shape.width) (is_quiet k.shape (significant_in k) (8 * at.word + z / 8) at.stripe) both.1 in
    let first = is_one_number (z % 8) all.0 in
    let high = high_enough k.shape (significant_in k) (8 * at.word + z / 8) at.stripe parts.1 in
    let within = l.0 in
    record {
      place = record {
        within = l.0;
        on_row = on_rows (z % 8) (omega (arith, first)) (omega (arith, first));
        inside = both_true (nat_lt (column at.word z) k.shape.width) (nat_lt (row at.stripe z) k.shape.height) parts.0 (lt_true (row at.stripe z) k.shape.height (omega (arith, first, high)));
      };
      first = first;
      rows = high;
      run = both.1;
      going = idle_until at k0 k v0 v seen left still st z (omega (arith, within)) (clear_below left still p q) (z - 1) (true_le st.n (z - 1) both.0) (omega arith) (λ e. absurd (omega (arith, e, first)));
    }

-- no still column up to that of z, where z is not one
none_until : (at : WordPlace) (k0 k : Draft) (v0 v : DecoderView) (seen : Around) (left still : ℕ) (st : CleaningAt at k0 k v0 v seen left still) (z : ℕ) → z < 64 → 1 ≤ z % 8 → ((m : ℕ) → m < z → on still m ≡ false) → on still z ≡ false → (m : ℕ) → m ≤ 8 * (z / 8) + 1 → on still m ≡ false
none_until at k0 k v0 v seen left still st z within row clear off m h = elim (cases_lt m z) [ inl less ↦ clear m less | inr not_less ↦ let e : m ≡ z = omega (arith, row) in ap (on still) e ∙ off ]

-- a place was coded, and its bit is 0
at_zero : {A : Type 0} (at : WordPlace) (k0 k k' : Draft) (v0 v v' : DecoderView) (seen seen' : Around) (left still : ℕ) (u : A) (st : CleaningAt at k0 k v0 v seen left still) → 0 < bit_or left still → bit_or left still < 2 ^ 64
    → on still (trailing_zeros w64 (bit_or left still)) ≡ false
    → TakesStep (place_at v.bytes k.shape at.plane 2 (column at.word (trailing_zeros w64 (bit_or left still))) (row at.stripe (trailing_zeros w64 (bit_or left still)))) k k' v v' (Ok u) → k'.shape ≡ k.shape → v'.bytes ≡ v.bytes
    → k'.visited ≡ k.visited → ((x y : ℕ) → significant_in k' x y ≡ significant_in k x y) → IsAround (bordered (seen_in k' at.stripe)) at.word at.stripe seen' → CleaningAt at k0 k' v0 v' seen' (bit_and left (left - 1)) still
at_zero at k0 k k' v0 v v' seen seen' left still u st p q off takes shape bytes visited known_significant around =
    let z = trailing_zeros w64 (bit_or left still) in
    let next = left_at_next at k0 k v0 v seen left still st p q off in
    let row_z = rows_between (z % 8) next.place.on_row in
    let clear = clear_below left still p q in
    let bits = bits_from k.shape (significant_in k) at.word at.stripe still z st.n (st_le at k0 k v0 v seen left still st p q off) st.cleans.still_is (none_until at k0 k v0 v seen left still st z next.place.within row_z.0 (λ m h. (clear m h).1) off) in
    let after = bits_kept k.shape k'.shape (significant_in k) (significant_in k') at.word at.stripe still z shape known_significant bits in
    record {
      n = z + 1;
      going = going_place 2 at z k0 k k' v0 v v' u next.going next.place takes shape bytes;
      cleans = record {
        around = around;
        left_is = left_kept k k' at.word at.stripe z st.n left (bit_and left (left - 1)) shape visited (st_le at k0 k v0 v seen left still st p q off) known_significant st.cleans.left_is (λ m l. rest_bits left z m next.set (λ m h. (clear m h).0));
        still_is = by_columns still z z (is_still k'.shape (significant_in k') at.word at.stripe) (omega arith) (let r = row_z.1 in omega (arith, r)) after.other after.early after.late;
      };
    }
  where
    st_le : (at : WordPlace) (k0 k : Draft) (v0 v : DecoderView) (seen : Around) (left still : ℕ) (st : CleaningAt at k0 k v0 v seen left still) (p : 0 < bit_or left still) (q : bit_or left still < 2 ^ 64) → on still (trailing_zeros w64 (bit_or left still)) ≡ false → st.n ≤ trailing_zeros w64 (bit_or left still)
    st_le at k0 k v0 v seen left still st p q off =
        let z = trailing_zeros w64 (bit_or left still) in
        let l = lowest (bit_or left still) p q in
        let next = left_at_next at k0 k v0 v seen left still st p q off in
        true_le st.n z (and_parts (nat_le st.n z) (is_left k at.word at.stripe z) (sym (st.cleans.left_is z l.0) ∙ next.set)).0

-- a place was coded, and its bit is 1
at_one : {A : Type 0} (at : WordPlace) (k0 k k' : Draft) (v0 v v' : DecoderView) (seen seen' : Around) (left still still' : ℕ) (u : A) (st : CleaningAt at k0 k v0 v seen left still) → 0 < bit_or left still → bit_or left still < 2 ^ 64
    → on still (trailing_zeros w64 (bit_or left still)) ≡ false
    → TakesStep (place_at v.bytes k.shape at.plane 2 (column at.word (trailing_zeros w64 (bit_or left still))) (row at.stripe (trailing_zeros w64 (bit_or left still)))) k k' v v' (Ok u) → k'.shape ≡ k.shape → v'.bytes ≡ v.bytes
    → k'.visited ≡ k.visited → ((x y : ℕ) → significant_in k' x y ≡ also (significant_in k) (column at.word (trailing_zeros w64 (bit_or left still))) (row at.stripe (trailing_zeros w64 (bit_or left still))) x y)
    → Behind still still' (trailing_zeros w64 (bit_or left still)) → ((m : ℕ) → on still m ≡ false → on still' m ≡ false)
    → IsAround (bordered (seen_in k' at.stripe)) at.word at.stripe seen' → CleaningAt at k0 k' v0 v' seen' (bit_and left (left - 1)) still'
at_one at k0 k k' v0 v v' seen seen' left still still' u st p q off takes shape bytes visited known_significant behind fewer around =
    let z = trailing_zeros w64 (bit_or left still) in
    let l = lowest (bit_or left still) p q in
    let next = left_at_next at k0 k v0 v seen left still st p q off in
    let row_z = rows_between (z % 8) next.place.on_row in
    let clear = clear_below left still p q in
    let le = true_le st.n z (and_parts (nat_le st.n z) (is_left k at.word at.stripe z) (sym (st.cleans.left_is z l.0) ∙ next.set)).0 in
    let bits = bits_from k.shape (significant_in k) at.word at.stripe still z st.n le st.cleans.still_is (none_until at k0 k v0 v seen left still st z next.place.within row_z.0 (λ m h. (clear m h).1) off) in
    let after = bits_behind k.shape k'.shape (significant_in k) (significant_in k') at.word at.stripe still still' z z shape next.place.on_row refl known_significant behind fewer bits in
    record {
      n = z + 1;
      going = going_place 2 at z k0 k k' v0 v v' u next.going next.place takes shape bytes;
      cleans = record {
        around = around;
        left_is = left_after k k' at.word at.stripe z z st.n left (bit_and left (left - 1)) shape visited next.place.on_row le (omega arith) known_significant st.cleans.left_is (λ m l. rest_bits left z m next.set (λ m h. (clear m h).0));
        still_is = by_columns still' z z (is_still k'.shape (significant_in k') at.word at.stripe) (omega arith) (let r = row_z.1 in omega (arith, r)) after.other after.early after.late;
      };
    }

-- the call of a column in run mode, by the bit of its first row
abbrev pub RunTaken : (at : WordPlace) (k k' : Draft) (v v' : DecoderView) (z f : ℕ) → Type 0
RunTaken at k k' v v' z f = (coder : State) → Stands v coder → Onward (read_run v.bytes k.shape at.plane (column at.word z) at.stripe) (rows_at v.bytes k.shape at.plane 2 (column at.word z) at.stripe (f + 1) (3 - f)) k k' v' coder

going_on : (at : WordPlace) (z f : ℕ) (k0 k k' : Draft) (v0 v v' : DecoderView) → ReadSoFar 2 at (z - 1) k0 k v0 v → z < 64 → z % 8 ≡ 1 → f ≤ 4 → is_still k.shape (significant_in k) at.word at.stripe (z / 8) ≡ true → RunTaken at k k' v v' z f
    → k'.shape ≡ k.shape → v'.bytes ≡ v.bytes → ReadSoFar 2 at (z + f + 1) k0 k' v0 v'
going_on at z f k0 k k' v0 v v' going within first few run takes shape bytes =
    let same : z / 8 ≡ (z - 1) / 8 = omega (arith, first) in
    subst (λ n. ReadSoFar 2 at n k0 k' v0 v') (let e : z - 1 + f + 2 ≡ z + f + 1 = omega (arith, first) in e)
    (going_run at (z - 1) f k0 k k' v0 v v' going (omega arith) (omega (arith, first)) few (sym (ap (is_still k.shape (significant_in k) at.word at.stripe) same) ∙ run)
    (λ coder st. subst (λ c. Onward (read_run v.bytes k.shape at.plane (8 * at.word + c) at.stripe) (rows_at v.bytes k.shape at.plane 2 (8 * at.word + c) at.stripe (f + 1) (3 - f)) k k' v' coder) same (takes coder st)) shape bytes)

from_run : (at : WordPlace) (k0 k : Draft) (v0 v : DecoderView) (seen : Around) (left still : ℕ) (st : CleaningAt at k0 k v0 v seen left still) → 0 < bit_or left still → bit_or left still < 2 ^ 64 → on still (trailing_zeros w64 (bit_or left still)) ≡ true
    → st.n ≤ trailing_zeros w64 (bit_or left still)
from_run at k0 k v0 v seen left still st p q set =
    let z = trailing_zeros w64 (bit_or left still) in
    let l = lowest (bit_or left still) p q in
    let all = and_parts (nat_eq (z % 8) 1) (nat_le st.n (z - 1) && is_still k.shape (significant_in k) at.word at.stripe (z / 8)) (sym (st.cleans.still_is z l.0) ∙ set) in
    let le = true_le st.n (z - 1) (and_parts (nat_le st.n (z - 1)) (is_still k.shape (significant_in k) at.word at.stripe (z / 8)) all.1).0 in
    omega (arith, le)

-- a column in run mode has no 1
at_run : (at : WordPlace) (k0 k k' : Draft) (v0 v v' : DecoderView) (seen seen' : Around) (left still f : ℕ) (st : CleaningAt at k0 k v0 v seen left still) → 0 < bit_or left still → bit_or left still < 2 ^ 64
    → on still (trailing_zeros w64 (bit_or left still)) ≡ true → f ≤ 4 → RunTaken at k k' v v' (trailing_zeros w64 (bit_or left still)) f → k'.shape ≡ k.shape → v'.bytes ≡ v.bytes → k'.visited ≡ k.visited → ((x y : ℕ) → significant_in k' x y ≡ significant_in k x y)
    → IsAround (bordered (seen_in k' at.stripe)) at.word at.stripe seen' → CleaningAt at k0 k' v0 v' seen' (bit_and left (0xFFFF_FFFF_FFFF_FFFE * 2 ^ (trailing_zeros w64 (bit_or left still) + f) % 2 ^ 64)) (bit_and still (still - 1))
at_run at k0 k k' v0 v v' seen seen' left still f st p q set few takes shape bytes visited known_significant around =
    let z = trailing_zeros w64 (bit_or left still) in
    let l = lowest (bit_or left still) p q in
    let next = run_at_next at k0 k v0 v seen left still st p q set in
    let first = next.first in
    let clear = clear_below left still p q in
    let le = from_run at k0 k v0 v seen left still st p q set in
    let bits = run_bits k.shape (significant_in k) at.word at.stripe still z st.n l.0 first le set (λ m h. (clear m h).1) st.cleans.still_is in
    let after = bits_kept k.shape k'.shape (significant_in k) (significant_in k') at.word at.stripe (bit_and still (still - 1)) z shape known_significant bits in
    record {
      n = z + f + 1;
      going = going_on at z f k0 k k' v0 v v' next.going l.0 first few next.run takes shape bytes;
      cleans = record {
        around = around;
        left_is = left_kept k k' at.word at.stripe (z + f) st.n left (bit_and left (0xFFFF_FFFF_FFFF_FFFE * 2 ^ (z + f) % 2 ^ 64)) shape visited (omega (arith, le)) known_significant st.cleans.left_is (λ m l. above_bits left (z + f) m l);
        still_is = by_columns (bit_and still (still - 1)) z (z + f) (is_still k'.shape (significant_in k') at.word at.stripe) (omega arith) (omega (arith, first)) after.other after.early after.late;
      };
    }

-- a column in run mode has a 1 in the row f
at_run_one : (at : WordPlace) (k0 k k' : Draft) (v0 v v' : DecoderView) (seen seen' : Around) (left still still' f : ℕ) (st : CleaningAt at k0 k v0 v seen left still) → 0 < bit_or left still → bit_or left still < 2 ^ 64
    → on still (trailing_zeros w64 (bit_or left still)) ≡ true → f < 4 → RunTaken at k k' v v' (trailing_zeros w64 (bit_or left still)) f → k'.shape ≡ k.shape → v'.bytes ≡ v.bytes → k'.visited ≡ k.visited
    → ((x y : ℕ) → significant_in k' x y ≡ also (significant_in k) (column at.word (trailing_zeros w64 (bit_or left still) + f)) (row at.stripe (trailing_zeros w64 (bit_or left still) + f)) x y)
    → Behind (bit_and still (still - 1)) still' (trailing_zeros w64 (bit_or left still) + f) → ((m : ℕ) → on (bit_and still (still - 1)) m ≡ false → on still' m ≡ false)
    → IsAround (bordered (seen_in k' at.stripe)) at.word at.stripe seen' → CleaningAt at k0 k' v0 v' seen'
    (bit_and left (0xFFFF_FFFF_FFFF_FFFE * 2 ^ (trailing_zeros w64 (bit_or left still) + f) % 2 ^ 64)) still'
at_run_one at k0 k k' v0 v v' seen seen' left still still' f st p q set few takes shape bytes visited known_significant behind fewer around =
    let z = trailing_zeros w64 (bit_or left still) in
    let l = lowest (bit_or left still) p q in
    let next = run_at_next at k0 k v0 v seen left still st p q set in
    let first = next.first in
    let within = l.0 in
    let clear = clear_below left still p q in
    let le = from_run at k0 k v0 v seen left still st p q set in
    let on_row = on_rows ((z + f) % 8) (omega (arith, first)) (omega (arith, first)) in
    let bits = run_bits k.shape (significant_in k) at.word at.stripe still z st.n l.0 first le set (λ m h. (clear m h).1) st.cleans.still_is in
    let after = bits_behind k.shape k'.shape (significant_in k) (significant_in k') at.word at.stripe (bit_and still (still - 1)) still' z (z + f) shape on_row (omega (arith, first)) known_significant behind fewer bits in
    record {
      n = z + f + 1;
      going = going_on at z f k0 k k' v0 v v' next.going l.0 first (omega arith) next.run takes shape bytes;
      cleans = record {
        around = around;
        left_is = left_after k k' at.word at.stripe (z + f) (z + f) st.n left (bit_and left (0xFFFF_FFFF_FFFF_FFFE * 2 ^ (z + f) % 2 ^ 64)) shape visited on_row (omega (arith, le)) (omega arith) known_significant st.cleans.left_is (λ m l. above_bits left (z + f) m l);
        still_is = by_columns still' z (z + f) (is_still k'.shape (significant_in k') at.word at.stripe) (omega arith) (omega (arith, first)) after.other after.early after.late;
      };
    }

at_run_fault : (at : WordPlace) (k0 k : Draft) (v0 v : DecoderView) (seen : Around) (left still : ℕ) (e : Fault) (st : CleaningAt at k0 k v0 v seen left still) → 0 < bit_or left still → bit_or left still < 2 ^ 64 → on still (trailing_zeros w64 (bit_or left still)) ≡ true
    → ((coder : State) → Stands v coder → read_run v.bytes k.shape at.plane (column at.word (trailing_zeros w64 (bit_or left still))) at.stripe (progress k coder) ≡ Err e) → (coder : State) → Stands v0 coder → word_pass v0.bytes k0.shape at.plane 2 at.word at.stripe (progress k0 coder) ≡ Err e
at_run_fault at k0 k v0 v seen left still e st p q set takes =
    let z = trailing_zeros w64 (bit_or left still) in
    let l = lowest (bit_or left still) p q in
    let next = run_at_next at k0 k v0 v seen left still st p q set in
    let first = next.first in
    let within = l.0 in
    let same : z / 8 ≡ (z - 1) / 8 = omega (arith, first) in
    going_run_fault at (z - 1) k0 k v0 v e next.going (omega (arith, within)) (omega (arith, first)) (sym (ap (is_still k.shape (significant_in k) at.word at.stripe) same) ∙ next.run)
    (λ coder s. failed (λ c. read_run v.bytes k.shape at.plane (8 * at.word + c) at.stripe (progress k coder)) (z / 8) ((z - 1) / 8) same (takes coder s))
  where
    failed : {X : Type 0} (f : ℕ → X) (a b : ℕ) {y : X} → a ≡ b → f a ≡ y → f b ≡ y
    failed f a b e h = sym (ap f e) ∙ h

at_all : (at : WordPlace) (k0 k : Draft) (v0 v : DecoderView) (seen : Around) (left still : ℕ) → CleaningAt at k0 k v0 v seen left still → bit_or left still ≡ 0 → ReadSoFar 2 at 64 k0 k v0 v
at_all at k0 k v0 v seen left still st empty =
    idle_until at k0 k v0 v seen left still st 64 (omega arith) (λ m h. neither (on left m) (on still m) (sym (on_or left still m) ∙ ap (λ w. on w m) empty ∙ on_zero m)) 64 st.going.most (omega arith) (λ _ l. absurd (omega arith))

both_clear : (a b : Bool) → a ≡ false → b ≡ false → (a || b) ≡ false
both_clear a b e g = cc

not_lt : (a b : ℕ) → b ≤ a → nat_lt a b ≡ false
not_lt a b h = grind (arith, nat_tests)

-- the loop comes to an end: the lowest bit goes up
sooner_place : (left still still' : ℕ) → 0 < bit_or left still → bit_or left still < 2 ^ 64 → left < 2 ^ 64 → still' < 2 ^ 64
    → on left (trailing_zeros w64 (bit_or left still)) ≡ true → on still (trailing_zeros w64 (bit_or left still)) ≡ false → ((m : ℕ) → on still m ≡ false → on still' m ≡ false)
    → 64 - trailing_zeros w64 (bit_or (bit_and left (left - 1)) still') < 64 - trailing_zeros w64 (bit_or left still)
sooner_place left still still' p q lim lim' set off fewer =
    let z = trailing_zeros w64 (bit_or left still) in
    let clear = clear_below left still p q in
    later_lowest (bit_or left still) (bit_or (bit_and left (left - 1)) still') p q
    (or_lt 64 (bit_and left (left - 1)) still' (let e = and_le_l left (left - 1) in omega (arith, e)) lim')
    (λ m l le. on_or (bit_and left (left - 1)) still' m
    ∙ both_clear (on (bit_and left (left - 1)) m) (on still' m)
    (rest_bits left z m set (λ m h. (clear m h).0) ∙ ap (λ b. b && on left m) (not_lt z m le))
    (fewer m (elim (cases_lt m z) [ inl less ↦ (clear m less).1 | inr not_less ↦ let e : m ≡ z = omega arith in ap (on still) e ∙ off ])))

left_sooner : (at : WordPlace) (k0 k : Draft) (v0 v : DecoderView) (seen : Around) (left still still' : ℕ) (st : CleaningAt at k0 k v0 v seen left still) → 0 < bit_or left still → bit_or left still < 2 ^ 64 → left < 2 ^ 64 → still' < 2 ^ 64
    → on still (trailing_zeros w64 (bit_or left still)) ≡ false → ((m : ℕ) → on still m ≡ false → on still' m ≡ false)
    → 64 - trailing_zeros w64 (bit_or (bit_and left (left - 1)) still') < 64 - trailing_zeros w64 (bit_or left still)
left_sooner at k0 k v0 v seen left still still' st p q lim lim' off fewer = sooner_place left still still' p q lim lim' (left_at_next at k0 k v0 v seen left still st p q off).set off fewer

pub sooner_run : (left still still' f : ℕ) → 0 < bit_or left still → bit_or left still < 2 ^ 64 → left < 2 ^ 64 → still' < 2 ^ 64 → on still (trailing_zeros w64 (bit_or left still)) ≡ true
    → ((m : ℕ) → on (bit_and still (still - 1)) m ≡ false → on still' m ≡ false)
    → 64 - trailing_zeros w64 (bit_or (bit_and left (0xFFFF_FFFF_FFFF_FFFE * 2 ^ (trailing_zeros w64 (bit_or left still) + f) % 2 ^ 64)) still') < 64 - trailing_zeros w64 (bit_or left still)
sooner_run left still still' f p q lim lim' set fewer =
    let z = trailing_zeros w64 (bit_or left still) in
    let clear = clear_below left still p q in
    let rest = bit_and left (0xFFFF_FFFF_FFFF_FFFE * 2 ^ (z + f) % 2 ^ 64) in
    later_lowest (bit_or left still) (bit_or rest still') p q
    (or_lt 64 rest still' (let e = and_le_l left (0xFFFF_FFFF_FFFF_FFFE * 2 ^ (z + f) % 2 ^ 64) in omega (arith, e)) lim')
    (λ m l le. on_or rest still' m
    ∙ both_clear (on rest m) (on still' m)
    (above_bits left (z + f) m l ∙ ap (λ b. b && on left m) (not_lt (z + f) m (omega arith)))
    (fewer m (rest_bits still z m set (λ m h. (clear m h).1) ∙ ap (λ b. b && on still m) (not_lt z m le))))

-- ---- the loop over a word, whatever its draft has become

pub record Cleaning (at : WordPlace) (k : Draft) (v0 v : DecoderView) (sight : Sight) (left still : ℕ) : Type 0 where
  pub draft : Draft
  pub cleaning : CleaningAt at k draft v0 v sight.significant left still
  pub held : Held at k sight draft
  pub visited : draft.visited ≡ k.visited

pub cleaning_none : (at : WordPlace) (k : Draft) (v : DecoderView) (sight : Sight) (left still : ℕ) → Sees at k sight
    → ((m : ℕ) → m < 64 → on left m ≡ is_left k at.word at.stripe m) → ((m : ℕ) → m < 64 → on still m ≡ (nat_eq (m % 8) 1 && is_still k.shape (significant_in k) at.word at.stripe (m / 8)))
    → Cleaning at k v v sight left still
cleaning_none at k v sight left still sees left_is still_is = record {
  draft = k;
  cleaning = at_none at k v sight.significant left still sees.significant left_is still_is;
  held = held_none at k sight sees;
  visited = refl;
}

-- nothing is left
pub cleaning_idle : (at : WordPlace) (k : Draft) (v : DecoderView) (seen : Around) (left still : ℕ) → IsAround (bordered (seen_in k at.stripe)) at.word at.stripe seen
    → ((m : ℕ) → m < 64 → on left m ≡ is_left k at.word at.stripe m) → ((m : ℕ) → m < 64 → on still m ≡ (nat_eq (m % 8) 1 && is_still k.shape (significant_in k) at.word at.stripe (m / 8)))
    → bit_or left still ≡ 0 → ReadSoFar 2 at 64 k k v v
cleaning_idle at k v seen left still around left_is still_is empty = at_all at k k v v seen left still (at_none at k v seen left still around left_is still_is) empty

pub next_left : (at : WordPlace) (k : Draft) (v0 v : DecoderView) (sight : Sight) (left still : ℕ) (st : Cleaning at k v0 v sight left still) → 0 < bit_or left still → bit_or left still < 2 ^ 64
    → on still (trailing_zeros w64 (bit_or left still)) ≡ false → NextLeft at k st.draft v0 v left (trailing_zeros w64 (bit_or left still))
next_left at k v0 v sight left still st p q off = left_at_next at k st.draft v0 v sight.significant left still st.cleaning p q off

pub next_run : (at : WordPlace) (k : Draft) (v0 v : DecoderView) (sight : Sight) (left still : ℕ) (st : Cleaning at k v0 v sight left still) → 0 < bit_or left still → bit_or left still < 2 ^ 64
    → on still (trailing_zeros w64 (bit_or left still)) ≡ true → NextRun at k st.draft v0 v (trailing_zeros w64 (bit_or left still))
next_run at k v0 v sight left still st p q set = run_at_next at k st.draft v0 v sight.significant left still st.cleaning p q set

pub sooner_left : (at : WordPlace) (k : Draft) (v0 v : DecoderView) (sight : Sight) (left still still' : ℕ) (st : Cleaning at k v0 v sight left still) → 0 < bit_or left still → bit_or left still < 2 ^ 64 → left < 2 ^ 64 → still' < 2 ^ 64
    → on still (trailing_zeros w64 (bit_or left still)) ≡ false → ((m : ℕ) → on still m ≡ false → on still' m ≡ false)
    → 64 - trailing_zeros w64 (bit_or (bit_and left (left - 1)) still') < 64 - trailing_zeros w64 (bit_or left still)
sooner_left at k v0 v sight left still still' st p q lim lim' off fewer = left_sooner at k st.draft v0 v sight.significant left still still' st.cleaning p q lim lim' off fewer

-- what the call that reads a place takes
left_takes : {A : Type 0} (at : WordPlace) (d d' : Draft) (v v' : DecoderView) (z : ℕ) (u : A) → IsBitPlace d.shape at z → (not (significant_in d (column at.word z) (row at.stripe z)) && not (d.visited (column at.word z) (row at.stripe z))) ≡ true
    → ((coder : State) → Stands v coder → Advanced (read_new v.bytes d.shape at.plane (column at.word z) (row at.stripe z)) d d' v' coder)
    → TakesStep (place_at v.bytes d.shape at.plane 2 (column at.word z) (row at.stripe z)) d d' v v' (Ok u)
left_takes at d d' v v' z u place due takes = λ coder st.
    let a = takes coder st in
    record { next = a.next; stands = a.stands; is = left_due v.bytes d.shape at.plane (column at.word z) (row at.stripe z) (progress d coder) place.inside due ∙ a.is }

pub left_fault : (at : WordPlace) (d : Draft) (v : DecoderView) (z : ℕ) (e : Fault) → IsBitPlace d.shape at z → (not (significant_in d (column at.word z) (row at.stripe z)) && not (d.visited (column at.word z) (row at.stripe z))) ≡ true
    → ((coder : State) → Stands v coder → read_new v.bytes d.shape at.plane (column at.word z) (row at.stripe z) (progress d coder) ≡ Err e)
    → (coder : State) → Stands v coder → place_at v.bytes d.shape at.plane 2 (column at.word z) (row at.stripe z) (progress d coder) ≡ Err e
left_fault at d v z e place due takes coder st = left_due v.bytes d.shape at.plane (column at.word z) (row at.stripe z) (progress d coder) place.inside due ∙ takes coder st

grown : (at : WordPlace) (d : Draft) (z : ℕ) (negative : Bool) → IsBitPlace d.shape at z → (u v : ℕ) → significant_in (coded_in at.plane (column at.word z) (row at.stripe z) true negative d) u v ≡ also (significant_in d) (column at.word z) (row at.stripe z) u v
grown at d z negative place u v = significant_put d.shape d.magnitude (column at.word z) (row at.stripe z) (above (at.plane + 1) (d.magnitude (column at.word z) (row at.stripe z)) + 2 ^ at.plane) place.inside (let p = pow_pos at.plane in omega (arith, p)) u v

off_left : (a b : Bool) → (not a && b) ≡ true → a ≡ false
off_left true b e = absurd cc
off_left false b e = refl

pub cleaning_zero : {A : Type 0} (at : WordPlace) (k : Draft) (v0 v v' : DecoderView) (sight sight' : Sight) (left still : ℕ) (u : A) (st : Cleaning at k v0 v sight left still) → 0 < bit_or left still → bit_or left still < 2 ^ 64
    → on still (trailing_zeros w64 (bit_or left still)) ≡ false
    → ((coder : State) → Stands v coder → Advanced (read_new v.bytes st.draft.shape at.plane (column at.word (trailing_zeros w64 (bit_or left still))) (row at.stripe (trailing_zeros w64 (bit_or left still)))) st.draft st.draft v' coder)
    → v'.bytes ≡ v.bytes → Sees at st.draft sight' → Cleaning at k v0 v' sight' (bit_and left (left - 1)) still
cleaning_zero at k v0 v v' sight sight' left still u st p q off takes bytes sees =
    let d = st.draft in
    let z = trailing_zeros w64 (bit_or left still) in
    let next = next_left at k v0 v sight left still st p q off in
    record {
      draft = d;
      cleaning = at_zero at k d d v0 v v' sight.significant sight'.significant left still u st.cleaning p q off (left_takes at d d v v' z u next.place next.due takes) refl bytes refl (λ x y. refl) sees.significant;
      held = held_same at k d sight sight' st.held sees;
      visited = st.visited;
    }

pub cleaning_one : {A : Type 0} (at : WordPlace) (k : Draft) (v0 v v' : DecoderView) (sight sight' : Sight) (left still still' : ℕ) (u : A) (st : Cleaning at k v0 v sight left still) → 0 < bit_or left still → bit_or left still < 2 ^ 64
    → on still (trailing_zeros w64 (bit_or left still)) ≡ false
    → ((coder : State) → Stands v coder → Advanced (read_new v.bytes st.draft.shape at.plane (column at.word (trailing_zeros w64 (bit_or left still))) (row at.stripe (trailing_zeros w64 (bit_or left still)))) st.draft (significant_at at (trailing_zeros w64 (bit_or left still)) sight' st.draft) v' coder)
    → v'.bytes ≡ v.bytes → Sees at (significant_at at (trailing_zeros w64 (bit_or left still)) sight' st.draft) sight'
    → Behind still still' (trailing_zeros w64 (bit_or left still)) → ((m : ℕ) → on still m ≡ false → on still' m ≡ false)
    → Cleaning at k v0 v' sight' (bit_and left (left - 1)) still'
cleaning_one at k v0 v v' sight sight' left still still' u st p q off takes bytes sees behind fewer =
    let d = st.draft in
    let z = trailing_zeros w64 (bit_or left still) in
    let next = next_left at k v0 v sight left still st p q off in
    let d' = significant_at at z sight' d in
    record {
      draft = d';
      cleaning = at_one at k d d' v0 v v' sight.significant sight'.significant left still still' u st.cleaning p q off (left_takes at d d' v v' z u next.place next.due takes) refl bytes refl (grown at d z (sign_seen sight' z) next.place) behind fewer sees.significant;
      held = held_significant at k d sight sight' z (sign_seen sight' z) st.held next.place (off_left (significant_in d (column at.word z) (row at.stripe z)) (not (d.visited (column at.word z) (row at.stripe z))) next.due) sees;
      visited = st.visited;
    }

pub cleaning_run : (at : WordPlace) (k : Draft) (v0 v v' : DecoderView) (sight sight' : Sight) (left still f : ℕ) (st : Cleaning at k v0 v sight left still) → 0 < bit_or left still → bit_or left still < 2 ^ 64
    → on still (trailing_zeros w64 (bit_or left still)) ≡ true → f ≤ 4 → RunTaken at st.draft st.draft v v' (trailing_zeros w64 (bit_or left still)) f → v'.bytes ≡ v.bytes → Sees at st.draft sight'
    → Cleaning at k v0 v' sight' (bit_and left (0xFFFF_FFFF_FFFF_FFFE * 2 ^ (trailing_zeros w64 (bit_or left still) + f) % 2 ^ 64)) (bit_and still (still - 1))
cleaning_run at k v0 v v' sight sight' left still f st p q set few takes bytes sees =
    let d = st.draft in
    record {
      draft = d;
      cleaning = at_run at k d d v0 v v' sight.significant sight'.significant left still f st.cleaning p q set few takes refl bytes refl (λ x y. refl) sees.significant;
      held = held_same at k d sight sight' st.held sees;
      visited = st.visited;
    }

-- a still column has nothing significant
still_dark : (s : BlockShape) (f : Field Bool) (j i z r : ℕ) → r < 4 → z < 64 → z % 8 ≡ 1 → is_still s f j i (z / 8) ≡ true → f (column j (z + r)) (row i (z + r)) ≡ false
unfolding is_quiet
still_dark s f j i z r few within first e =
    ap (λ x. f x (row i (z + r))) (let g : column j (z + r) ≡ 8 * j + z / 8 = omega (arith, first) in g)
    ∙ ap (λ y. f (8 * j + z / 8) y) (let g : row i (z + r) ≡ 4 * i + r = omega (arith, first) in g)
    ∙ row_of r few
  where
    x : ℕ
    x = 8 * j + z / 8

    quiet : ℕ → Bool
    quiet r = not (f (8 * j + z / 8) (4 * i + r)) && not (touched_in s f (8 * j + z / 8) (4 * i + r))

    all : ((quiet 0 && quiet 1) && (quiet 2 && quiet 3)) ≡ true
    all = (and_parts (nat_le (4 * i + 4) s.height) ((quiet 0 && quiet 1) && (quiet 2 && quiet 3)) (and_parts (nat_lt (8 * j + z / 8) s.width) (nat_le (4 * i + 4) s.height && ((quiet 0 && quiet 1) && (quiet 2 && quiet 3))) e).1).1

    dark : (a b : Bool) → (not a && b) ≡ true → a ≡ false
    dark true b e = absurd cc
    dark false b e = refl

    row_of : (r : ℕ) → r < 4 → f (8 * j + z / 8) (4 * i + r) ≡ false
    row_of zero h = dark (f (8 * j + z / 8) (4 * i + 0)) (not (touched_in s f (8 * j + z / 8) (4 * i + 0))) (and_parts (quiet 0) (quiet 1) (and_parts (quiet 0 && quiet 1) (quiet 2 && quiet 3) all).0).0
    row_of (suc zero) h = dark (f (8 * j + z / 8) (4 * i + 1)) (not (touched_in s f (8 * j + z / 8) (4 * i + 1))) (and_parts (quiet 0) (quiet 1) (and_parts (quiet 0 && quiet 1) (quiet 2 && quiet 3) all).0).1
    row_of (suc (suc zero)) h = dark (f (8 * j + z / 8) (4 * i + 2)) (not (touched_in s f (8 * j + z / 8) (4 * i + 2))) (and_parts (quiet 2) (quiet 3) (and_parts (quiet 0 && quiet 1) (quiet 2 && quiet 3) all).1).0
    row_of (suc (suc (suc zero))) h = dark (f (8 * j + z / 8) (4 * i + 3)) (not (touched_in s f (8 * j + z / 8) (4 * i + 3))) (and_parts (quiet 2) (quiet 3) (and_parts (quiet 0 && quiet 1) (quiet 2 && quiet 3) all).1).1
    row_of (suc (suc (suc (suc n)))) h = absurd (omega arith)

-- a row of a column in run mode is a place
pub run_place : (s : BlockShape) (at : WordPlace) (z r : ℕ) → IsBitPlace s at z → z % 8 ≡ 1 → r < 4 → 4 * at.stripe + 4 ≤ s.height → IsBitPlace s at (z + r)
run_place s at z r place first few high =
    let within = place.within in
    let parts = and_parts (nat_lt (column at.word z) s.width) (nat_lt (row at.stripe z) s.height) place.inside in
    record {
      within = omega (arith, within, first);
      on_row = on_rows ((z + r) % 8) (omega (arith, first)) (omega (arith, first));
      inside = both_true (nat_lt (column at.word (z + r)) s.width) (nat_lt (row at.stripe (z + r)) s.height)
          (ap (λ c. nat_lt c s.width) (let g : column at.word (z + r) ≡ column at.word z = omega (arith, first) in g) ∙ parts.0) (lt_true (row at.stripe (z + r)) s.height (omega (arith, first, high)));
    }

pub cleaning_run_one : (at : WordPlace) (k : Draft) (v0 v v' : DecoderView) (sight sight' : Sight) (left still still' f : ℕ) (st : Cleaning at k v0 v sight left still) → 0 < bit_or left still → bit_or left still < 2 ^ 64
    → on still (trailing_zeros w64 (bit_or left still)) ≡ true → f < 4 → RunTaken at st.draft (significant_at at (trailing_zeros w64 (bit_or left still) + f) sight' st.draft) v v' (trailing_zeros w64 (bit_or left still)) f → v'.bytes ≡ v.bytes
    → Sees at (significant_at at (trailing_zeros w64 (bit_or left still) + f) sight' st.draft) sight'
    → Behind (bit_and still (still - 1)) still' (trailing_zeros w64 (bit_or left still) + f) → ((m : ℕ) → on (bit_and still (still - 1)) m ≡ false → on still' m ≡ false)
    → Cleaning at k v0 v' sight' (bit_and left (0xFFFF_FFFF_FFFF_FFFE * 2 ^ (trailing_zeros w64 (bit_or left still) + f) % 2 ^ 64)) still'
cleaning_run_one at k v0 v v' sight sight' left still still' f st p q set few takes bytes sees behind fewer =
    let d = st.draft in
    let z = trailing_zeros w64 (bit_or left still) in
    let next = next_run at k v0 v sight left still st p q set in
    let place = run_place d.shape at z f next.place next.first few next.rows in
    let d' = significant_at at (z + f) sight' d in
    record {
      draft = d';
      cleaning = at_run_one at k d d' v0 v v' sight.significant sight'.significant left still still' f st.cleaning p q set few takes refl bytes refl (grown at d (z + f) (sign_seen sight' (z + f)) place) behind fewer sees.significant;
      held = held_significant at k d sight sight' (z + f) (sign_seen sight' (z + f)) st.held place (still_dark d.shape (significant_in d) at.word at.stripe z f few next.place.within next.first next.run) sees;
      visited = st.visited;
    }

pub cleaning_run_fault : (at : WordPlace) (k : Draft) (v0 v : DecoderView) (sight : Sight) (left still : ℕ) (e : Fault) (st : Cleaning at k v0 v sight left still) → 0 < bit_or left still → bit_or left still < 2 ^ 64 → on still (trailing_zeros w64 (bit_or left still)) ≡ true
    → ((coder : State) → Stands v coder → read_run v.bytes st.draft.shape at.plane (column at.word (trailing_zeros w64 (bit_or left still))) at.stripe (progress st.draft coder) ≡ Err e) → (coder : State) → Stands v0 coder → word_pass v0.bytes k.shape at.plane 2 at.word at.stripe (progress k coder) ≡ Err e
cleaning_run_fault at k v0 v sight left still e st p q set takes = at_run_fault at k st.draft v0 v sight.significant left still e st.cleaning p q set takes

pub cleaning_all : (at : WordPlace) (k : Draft) (v0 v : DecoderView) (sight : Sight) (left still : ℕ) (st : Cleaning at k v0 v sight left still) → bit_or left still ≡ 0 → ReadSoFar 2 at 64 k st.draft v0 v
cleaning_all at k v0 v sight left still st empty = at_all at k st.draft v0 v sight.significant left still st.cleaning empty
