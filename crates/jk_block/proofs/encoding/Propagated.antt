-- A word listed in the significance propagation pass.
use Rattle.std.proofs.Common.{◌≡◌, ℕ, zero, suc, ◌+◌, ◌-◌, ◌*◌, ◌/◌, ◌%◌, ◌^◌, ◌<◌, ◌≤◌, Bool, true, false, ◌++◌, refl, sym, ap, ◌∙◌, subst, inl, inr, arith}
use Rattle.std.specs.Prelude.{◌&&◌, ◌||◌, nat_eq, nat_le, nat_lt}
use Rattle.std.specs.Int.{trailing_zeros, w64}
use Rattle.std.specs.Int.RustNames.{bit_or, bit_and}
use Rattle.std.proofs.lemmas.Bool.{cases_lt, and_parts}
use Rattle.std.proofs.lemmas.Bool.Decides.{nat_tests}
use Rattle.jk_scan.specs.declared.shape.BlockShape.{BlockShape}
use Rattle.jk_scan.specs.declared.around.Around.{Around}
use Rattle.jk_scan.specs.Bits.{on}
use Rattle.jk_scan.specs.Neighbours.{Field, is_inside, seen_from}
use Rattle.jk_scan.specs.Moments.{stripes, pass_of}
use Rattle.jk_scan.specs.Passes.{Decided, is_one, new_decisions, place_decisions}
use Rattle.jk_scan.specs.Words.{Truths, of_rows, of_gathered, Shows, bordered, is_member}
use Rattle.jk_scan.specs.WordPlaces.{column, row, also}
use Rattle.jk_scan.specs.Surroundings.{IsAround}
use Rattle.jk_scan.proofs.Laws.{same_field, set_shows, added_at, lowest, rest_at, taken, taken_low, set_below, on_or, on_zero, inside_parts, cases_of, seen_also}
use Rattle.jk_block.specs.Steps.{IsBitPlace}
use Rattle.jk_block.specs.declared.encoding.flags.Flags.{Flags}
use Rattle.jk_block.specs.declared.encoding.plane.BlockPlane.{BlockPlane}
use Rattle.jk_block.specs.declared.word_place.WordPlace.{WordPlace}
use Rattle.jk_block.specs.encoding.Viewed.{seen, significant_at, IsFlagged, moment_at, seen_at}
use Rattle.jk_block.proofs.encoding.Coming.{mag, mag_outside, Same, same_flags, same_significant, idle_none, idle_until, idle_to, Told, told_none, told_skip, told_place}
use Rattle.jk_block.proofs.encoding.Listed.{place_new}
use Rattle.jk_block.proofs.encoding.Remaining.{is_run}
use Rattle.jk_block.proofs.Seeing.{is_due}
use Rattle.jk_block.proofs.encoding.Testing.{spread_codes, due_inside}
use Rattle.jk_block.proofs.encoding.Timing.{here, codes, significant_bit, moment_place}
use Rattle.jk_block.proofs.WordBits.{is_spread, spread_is_member, bordered_also, none_before}

-- Bits of a word are the members of a pass from bit n on.
abbrev pub Awaits : BlockShape → Field Bool → (j i n candidates : ℕ) → Type 0
Awaits s f j i n candidates = (m : ℕ) → m < 64 → on candidates m ≡ (nat_le n m && is_spread s f j i m)

step_on : (z m : ℕ) (rest n due due' : Bool) (k : ℕ) → k ≤ z → rest ≡ (nat_le (z + 1) m && n) → n ≡ (nat_le k m && due) → due' ≡ due → rest ≡ (nat_le (z + 1) m && due')
step_on z m rest n due due' k h a b d = grind (arith, nat_tests)

-- the lowest is taken off
pub awaits_rest : (s : BlockShape) (f g : Field Bool) (j i n w : ℕ) → 0 < w → w < 2 ^ 64 → n ≤ trailing_zeros w64 w → g ≡ f → Awaits s f j i n w → Awaits s g j i (trailing_zeros w64 w + 1) (bit_and w (w - 1))
awaits_rest s f g j i n w p q le e h m l =
    step_on (trailing_zeros w64 w) m (on (bit_and w (w - 1)) m) (on w m) (is_spread s f j i m) (is_spread s g j i m) n le (rest_at w p q m) (h m l) (ap (λ (f : Field Bool). is_spread s f j i m) e)

-- and the later ones that it touches are taken in
pub awaits_more : (s : BlockShape) (f g : Field Bool) (j i n w inside own : ℕ) → 0 < w → w < 2 ^ 64 → own < 2 ^ 64 → trailing_zeros w64 w < 64 → of_rows (trailing_zeros w64 w % 8) ≡ true → n ≤ trailing_zeros w64 w
    → ((x y : ℕ) → g x y ≡ also f (column j (trailing_zeros w64 w)) (row i (trailing_zeros w64 w)) x y) → Shows of_rows (bordered (is_inside s)) (j + 1) (i + 1) inside → Shows of_gathered (bordered (seen_from s i f)) (j + 1) (i + 1) own → Awaits s f j i n w
    → Awaits s g j i (trailing_zeros w64 w + 1) (bit_or (bit_and w (w - 1)) (taken inside (bit_or own (1 * 2 ^ trailing_zeros w64 w % 2 ^ 64)) (trailing_zeros w64 w)))
awaits_more s f g j i n w inside own p q xb within on_row le known_significant limits shown h m l =
    let z = trailing_zeros w64 w in
    let x' = bit_or own (1 * 2 ^ z % 2 ^ 64) in
    on_or (bit_and w (w - 1)) (taken inside x' z) m
    ∙ gate z m (nat_le n m) (on (bit_and w (w - 1)) m) (on w m) (on (taken inside x' z) m) (is_spread s f j i m) (is_spread s g j i m)
    (rest_at w p q m) (h m l) (λ later. from n z m le later) (λ low. taken_low inside x' z m l low)
    (λ later. ap (λ b. b || on (taken inside x' z) m) (sym (spread_is_member s f j i m))
    ∙ added_at (bordered (seen_from s i f)) (bordered (is_inside s)) j i x' inside z m (set_below own z xb) later l on_row (set_shows (bordered (seen_from s i f)) j i own z within on_row shown) limits
    ∙ ap (λ (g : Truths). of_rows (m % 8) && is_member (bordered (is_inside s)) g (column (j + 1) m) (row (i + 1) m))
    (sym (bordered_also (seen_from s i f) j i z on_row) ∙ sym (ap (λ (g : Truths). bordered g) (same_field (seen_from s i g) (also (seen_from s i f) (column j z) (row i z)) (seen_also s f g j i z on_row known_significant))))
    ∙ spread_is_member s g j i m)
  where
    from : (n z m : ℕ) → n ≤ z → z < m → nat_le n m ≡ true
    from n z m h l = grind (arith, nat_tests)

    gate : (z i : ℕ) (from rest n t due due' : Bool) → rest ≡ (nat_le (z + 1) i && n) → n ≡ (from && due) → (z < i → from ≡ true) → (i ≤ z → t ≡ false) → (z < i → (due || t) ≡ due') → (rest || t) ≡ (nat_le (z + 1) i && due')
    gate z i from rest n t due due' a b d e g = elim (cases_lt z i) [
      | inl less ↦ let d1 = d less in let g1 = g less in grind (arith, nat_tests)
      | inr not_less ↦ let e1 = e not_less in grind (arith, nat_tests)
    ]

-- at the beginning
pub awaits_all : (s : BlockShape) (f : Field Bool) (j i w : ℕ) → Shows of_rows (is_member (bordered (is_inside s)) (bordered (seen_from s i f))) (j + 1) (i + 1) w → Awaits s f j i 0 w
awaits_all s f j i w members m l =
    ap (on w) (let e : m ≡ 8 * (m / 8) + m % 8 = omega arith in e) ∙ members (m / 8) (m % 8) (omega arith) (omega arith)
    ∙ spread_is_member s f j i m ∙ ap (λ b. b && is_spread s f j i m) (let e : true ≡ nat_le 0 m = grind (arith, nat_tests) in e)

pub record Propagated (v : BlockPlane) (at : WordPlace) (old list : Decided) (around : Around) (candidates : ℕ) : Type 0 where
  pub n : ℕ
  pub coming : Told v 0 at n old list
  pub shown : IsAround (bordered (seen_at v (moment_at v.shape 0 at.word at.stripe n) at.stripe)) at.word at.stripe around
  pub awaits : Awaits v.shape (significant_at v (moment_at v.shape 0 at.word at.stripe n)) at.word at.stripe n candidates

-- nothing is coded where there is no member
quiet_until : (v : BlockPlane) (j i n z : ℕ) → i < stripes v.shape → ((m : ℕ) → n ≤ m → m < z → is_spread v.shape (significant_at v (moment_at v.shape 0 j i n)) j i m ≡ false) → (d : ℕ) → n + d ≤ z
    → Same v (moment_at v.shape 0 j i n) (moment_at v.shape 0 j i (n + d)) × ((m : ℕ) → n ≤ m → m < n + d → codes v.shape (mag v) 0 j i m ≡ false)
quiet_until v j i n z stripe off zero h = (
  idle_until v 0 j i n 0 stripe (λ m a b. absurd (omega (arith, a, b))),
  λ m a b. absurd (omega (arith, a, b)),
)
quiet_until v j i n z stripe off (suc d) h =
    let before = quiet_until v j i n z stripe off d (omega (arith, h)) in
    let clear : (m : ℕ) → n ≤ m → m < n + suc d → codes v.shape (mag v) 0 j i m ≡ false = λ m a b. elim (cases_lt m (n + d)) [
      | inl less ↦ before.1 m a less
      | inr last ↦
          let e : n + d ≡ m = omega (arith, b, last) in
          subst (λ m. codes v.shape (mag v) 0 j i m ≡ false) e
          (sym (spread_codes v.shape (mag v) j i (n + d)) ∙ ap (λ (f : Field Bool). is_spread v.shape f j i (n + d)) (same_significant v (moment_at v.shape 0 j i n) (moment_at v.shape 0 j i (n + d)) before.0) ∙ off (n + d) (omega arith) (omega (arith, h)))
    ] in (
      idle_until v 0 j i n (suc d) stripe (λ m a b. idle_none v 0 j i m (clear m a b)),
      clear,
    )

pub no_run : (s : BlockShape) (a : Field ℕ) (j i c : ℕ) → is_run s a 0 j i c ≡ false
no_run s a j i c = none (nat_lt (8 * j + c) s.width)
  where
    none : (b : Bool) → (b && false) ≡ false
    none true = refl
    none false = refl

-- up to a bit before which there is no candidate
pub propagated_to : (v : BlockPlane) (at : WordPlace) (old list : Decided) (around : Around) (w : ℕ) (st : Propagated v at old list around w) (z : ℕ) → st.n ≤ z → z ≤ 64 → ((m : ℕ) → m < z → on w m ≡ false)
    → Told v 0 at z old list × (significant_at v (moment_at v.shape 0 at.word at.stripe z) ≡ significant_at v (moment_at v.shape 0 at.word at.stripe st.n))
    × ((m : ℕ) → st.n ≤ m → m < z → codes v.shape (mag v) 0 at.word at.stripe m ≡ false)
propagated_to v at old list around w st z le most clear =
    let j = at.word in
    let i = at.stripe in
    let f = significant_at v (moment_at v.shape 0 j i st.n) in
    let u = quiet_until v j i st.n z st.coming.stripe
    (λ m a b. none_before (on w m) (nat_le st.n m) (is_spread v.shape f j i m) (clear m b) (st.awaits m (omega (arith, b, most))) (let g : nat_le st.n m ≡ true = grind (arith, nat_tests) in g)) (z - st.n) (omega (arith, le)) in
    let e : st.n + (z - st.n) ≡ z = omega (arith, le) in (
      told_skip v 0 at st.n z old list st.coming le most (λ l a b. record { plain = λ _. no_run v.shape (mag v) j i (l / 8); idle = u.1 l a (omega (arith, b, e)) }),
      subst (λ k. significant_at v (moment_at v.shape 0 j i k) ≡ f) e (same_significant v (moment_at v.shape 0 j i st.n) (moment_at v.shape 0 j i (st.n + (z - st.n))) u.0),
      λ m a b. u.1 m a (omega (arith, b, e)),
    )

-- the next place that is coded
pub record NextSpread (v : BlockPlane) (at : WordPlace) (old list : Decided) (around : Around) (n z : ℕ) : Type 0 where
  pub onward : n ≤ z
  pub place : IsBitPlace v.shape at z
  pub due : codes v.shape (mag v) 0 at.word at.stripe z ≡ true
  pub coming : Told v 0 at z old list
  pub idle : (m : ℕ) → n ≤ m → m < z → codes v.shape (mag v) 0 at.word at.stripe m ≡ false
  pub known_significant : significant_at v (moment_at v.shape 0 at.word at.stripe z) ≡ significant_at v (moment_at v.shape 0 at.word at.stripe n)
  pub shown : IsAround (bordered (seen_at v (moment_at v.shape 0 at.word at.stripe z) at.stripe)) at.word at.stripe around

pub propagated_next : (v : BlockPlane) (at : WordPlace) (old list : Decided) (around : Around) (w : ℕ) (st : Propagated v at old list around w) → 0 < w → w < 2 ^ 64
    → NextSpread v at old list around st.n (trailing_zeros w64 w)
propagated_next v at old list around w st p q =
    let z = trailing_zeros w64 w in
    let j = at.word in
    let i = at.stripe in
    let l = lowest w p q in
    let within = l.0 in
    let f = significant_at v (moment_at v.shape 0 j i st.n) in
    let both = and_parts (nat_le st.n z) (is_spread v.shape f j i z) (sym (st.awaits z l.0) ∙ l.1) in
    let onward : st.n ≤ z = let b = both.0 in grind (arith, nat_tests) in
    let on = propagated_to v at old list around w st z onward (omega (arith, within)) l.2 in
    let due : codes v.shape (mag v) 0 j i z ≡ true = sym (spread_codes v.shape (mag v) j i z) ∙ ap (λ (f : Field Bool). is_spread v.shape f j i z) on.1 ∙ both.1 in
    let parts = and_parts (of_rows (z % 8)) (is_due v.shape (mag v) 0 (column j z) (row i z)) due in
    record {
      onward = onward;
      place = record { within = l.0; on_row = parts.0; inside = (due_inside v.shape (mag v) 0 (column j z) (row i z) parts.1).0 };
      due = due;
      coming = on.0;
      idle = on.2;
      known_significant = on.1;
      shown = subst (λ (f : Field Bool). IsAround (bordered (seen_from v.shape i f)) j i around) (sym on.1) st.shown;
    }

-- a word in which the pass has no member as it comes to it
pub propagated_empty : (v : BlockPlane) (at : WordPlace) (list : Decided) (around : Around) (w : ℕ) → at.stripe < stripes v.shape → IsAround (bordered (seen_at v (moment_at v.shape 0 at.word at.stripe 0) at.stripe)) at.word at.stripe around
    → Shows of_rows (is_member (bordered (is_inside v.shape)) (bordered (seen_at v (moment_at v.shape 0 at.word at.stripe 0) at.stripe))) (at.word + 1) (at.stripe + 1) w → w ≡ 0
    → Told v 0 at 64 list list × ((flags : Flags) → IsFlagged v (moment_at v.shape 0 at.word at.stripe 0) flags → IsFlagged v (moment_at v.shape 0 at.word at.stripe 64) flags)
propagated_empty v at list around w stripe shown members empty =
    let st : Propagated v at list list around w = record { n = 0; coming = told_none v 0 at list stripe; shown = shown; awaits = awaits_all v.shape (significant_at v (moment_at v.shape 0 at.word at.stripe 0)) at.word at.stripe w members } in
    let end = propagated_to v at list list around w st 64 (omega arith) (omega arith) (λ m l. ap (λ w. on w m) empty ∙ on_zero m) in (
      end.0,
      λ flags h. same_flags v (moment_at v.shape 0 at.word at.stripe 0) (moment_at v.shape 0 at.word at.stripe 64) flags
          (idle_to v 0 at.word at.stripe 0 64 stripe (omega arith) (λ m a b. idle_none v 0 at.word at.stripe m (end.2 m a b))) h,
    )

-- what becomes significant at a place that is coded
pub significant_place : (v : BlockPlane) (pass j i z : ℕ) (bit : Bool) → i < stripes v.shape → codes v.shape (mag v) pass j i z ≡ true → bit ≡ nat_eq (mag v (column j z) (row i z)) 1
    → (bit ≡ false → significant_at v (moment_at v.shape pass j i (z + 1)) ≡ significant_at v (moment_at v.shape pass j i z))
    × (bit ≡ true → (x y : ℕ) → significant_at v (moment_at v.shape pass j i (z + 1)) x y ≡ also (significant_at v (moment_at v.shape pass j i z)) (column j z) (row i z) x y)
unfolding here
significant_place v pass j i z bit stripe due e = (
  λ b. same_field (significant_at v (moment_at v.shape pass j i (z + 1))) (significant_at v (moment_at v.shape pass j i z))
      (λ x y. next x y ∙ off (significant_at v (moment_at v.shape pass j i z) x y) (codes v.shape (mag v) pass j i z) (nat_eq (mag v (column j z) (row i z)) 1) (nat_eq x (column j z) && nat_eq y (row i z)) (sym e ∙ b)),
  λ b x y. next x y ∙ lights (significant_at v (moment_at v.shape pass j i z) x y) (codes v.shape (mag v) pass j i z) (nat_eq (mag v (column j z) (row i z)) 1) (nat_eq x (column j z) && nat_eq y (row i z)) due (sym e ∙ b),
)
  where
    next : (x y : ℕ) → significant_at v (moment_at v.shape pass j i (z + 1)) x y ≡ (significant_at v (moment_at v.shape pass j i z) x y || ((codes v.shape (mag v) pass j i z && nat_eq (mag v (column j z) (row i z)) 1) && (nat_eq x (column j z) && nat_eq y (row i z))))
    next x y = significant_bit v.shape (mag v) pass j i z (mag_outside v) stripe x y

    off : (f c o h : Bool) → o ≡ false → (f || ((c && o) && h)) ≡ f
    off f c o h e = grind (arith, nat_tests)

    lights : (f c o h : Bool) → c ≡ true → o ≡ true → (f || ((c && o) && h)) ≡ (f || h)
    lights f c o h e g = grind (arith, nat_tests)

-- A place that isn't coded in refinement has the bit 1 where it becomes significant.
pub one_is : (v : BlockPlane) (pass j i z : ℕ) → codes v.shape (mag v) pass j i z ≡ true → nat_eq pass 1 ≡ false → is_one (mag v (column j z) (row i z)) ≡ nat_eq (mag v (column j z) (row i z)) 1
one_is v pass j i z due other =
    let x = column j z in
    let y = row i z in
    let d = due_inside v.shape (mag v) pass x y (and_parts (of_rows (z % 8)) (is_due v.shape (mag v) pass x y) due).1 in
    let p = d.1 in
    cases_of v.shape (mag v) x y (λ w. absurd (let q = w.pass_is in let e : pass ≡ 1 = sym p ∙ q in let c : nat_eq pass 1 ≡ true = grind (arith, nat_tests) in let c' : true ≡ false = sym c ∙ other in cc)) (λ w. small (mag v x y) w.old_is) (λ w. small (mag v x y) w.old_is)
  where
    small : (m : ℕ) → nat_le 2 m ≡ false → nat_eq (m % 2) 1 ≡ nat_eq m 1
    small m h = grind (arith, nat_tests)

-- what a place that is coded in a pass decides
pub new_place : (v : BlockPlane) (pass j i z : ℕ) (list list' : Decided) → codes v.shape (mag v) pass j i z ≡ true → (pass ≡ 1 → ⊥) → list' ≡ list ++ new_decisions v.shape (seen v) (moment_at v.shape pass j i z) (column j z) (row i z)
    → list' ≡ list ++ place_decisions v.shape (seen v) pass (column j z) (row i z)
unfolding is_due
new_place v pass j i z list list' due other h =
    let parts = and_parts (of_rows (z % 8)) (is_inside v.shape (column j z) (row i z) && nat_eq (pass_of v.shape (mag v) (column j z) (row i z)) pass) due in
    let inside = (and_parts (is_inside v.shape (column j z) (row i z)) (nat_eq (pass_of v.shape (mag v) (column j z) (row i z)) pass) parts.1).0 in
    h ∙ ap (λ (ds : Decided). list ++ ds) (sym (place_new v.shape (seen v) pass (column j z) (row i z) (moment_at v.shape pass j i z) parts.1 (moment_place v.shape pass j i z parts.0 (inside_parts v.shape (column j z) (row i z) inside).0) other))

-- a place was listed
pub propagated_place : (v : BlockPlane) (at : WordPlace) (old list list' : Decided) (around : Around) (n z : ℕ) → NextSpread v at old list around n z
    → ((t : ℕ) → IsAround (bordered (seen_at v t at.stripe)) at.word at.stripe around → list' ≡ list ++ new_decisions v.shape (seen v) t (column at.word z) (row at.stripe z)) → Told v 0 at (z + 1) old list'
propagated_place v at old list list' around n z next listed =
    told_place v 0 at z old list list' next.coming next.place
    (new_place v 0 at.word at.stripe z list list' next.due (λ e. absurd (omega (arith, e))) (listed (moment_at v.shape 0 at.word at.stripe z) next.shown))
