-- What was significant before a plane and before the plane above, by the magnitudes as they are
-- later.
use Rattle.std.proofs.Common.{◌≡◌, ℕ, suc, ◌+◌, ◌-◌, ◌*◌, ◌/◌, ◌%◌, ◌^◌, ◌<◌, ◌≤◌, Bool, true, false, cond, List, Ok, replicate, inl, inr, refl, sym, ap, ◌∙◌, subst, arith}
use Rattle.std.specs.Prelude.{◌&&◌, nat_eq, nat_le, nat_lt}
use Rattle.std.proofs.lemmas.Bool.{cases_lt, and_parts}
use Rattle.std.proofs.lemmas.Bool.Decides.{nat_tests}
use Rattle.std.proofs.lemmas.Grind.{pow_more}
use Rattle.std.proofs.lemmas.Nat.{pow_pos}
use Rattle.std.proofs.Math.Nat.{mul-le-mul_right, lt-div-mul-add, div-mul-le_self}
use Rattle.jk_scan.specs.declared.shape.BlockShape.{BlockShape}
use Rattle.jk_scan.specs.Bits.{on}
use Rattle.jk_scan.specs.Contexts.{refine_context_of}
use Rattle.jk_scan.specs.Neighbours.{Field, is_inside, touched_in}
use Rattle.jk_scan.specs.Moments.{visits, moment}
use Rattle.jk_scan.specs.Flags.{IsDrawn, across, flag_at}
use Rattle.jk_scan.specs.WordPlaces.{column, row}
use Rattle.jk_scan.proofs.Laws.{inside_parts, flag_none}
use Rattle.jk_model.specs.Decisions.{State}
use Rattle.jk_block.specs.Meaning.{plane_of, kind_of, above}
use Rattle.jk_block.specs.Reading.{Progress, put, times, blank, begun, with_contexts, pass_at}
use Rattle.jk_block.specs.Fields.{AreSameWords}
use Rattle.jk_block.specs.decoding.BlockStates.{Draft, progress, significant_in, IsFresh}
use Rattle.jk_block.specs.declared.word_place.WordPlace.{WordPlace}
use Rattle.jk_block.specs.Steps.{IsBitPlace}
use Rattle.jk_block.proofs.Changes.{mags_inside, mags_outside}
use Rattle.jk_block.proofs.Stages.{mags, Cut, Like}
use Rattle.jk_block.proofs.Whole.{ready, contexts_done, passes_onward, stage_pass}
use Rattle.jk_block.proofs.WordBits.{drawn_bit, on_rows}
use Rattle.jk_block.proofs.WordDrawing.{drawn_alike}

-- ---- sizes by quotients

-- as many units or more
units : (p m c : ℕ) → 0 < p → nat_le (c * p) m ≡ nat_le c (m / p)
units p m c pos =
    let l = lt-div-mul-add {a = m} {b = p} pos in
    let g : m / p * p ≤ m = div-mul-le_self m p in
    elim (cases_lt (m / p) c) [
      | inl less ↦
          let t : suc (m / p) * p ≤ c * p = mul-le-mul_right p (let e : suc (m / p) ≤ c = omega (arith, less) in e) in
          let s : suc (m / p) * p ≡ m / p * p + p = omega arith in
          no (c * p) m c (m / p) (omega (arith, l, t, s)) less
      | inr more ↦
          let t : c * p ≤ m / p * p = mul-le-mul_right p more in
          both (c * p) m c (m / p) (omega (arith, t, g)) more
    ]
  where
    no : (a m c d : ℕ) → m < a → d < c → nat_le a m ≡ nat_le c d
    no a m c d h l = grind (arith, nat_tests)

    both : (a m c d : ℕ) → a ≤ m → c ≤ d → nat_le a m ≡ nat_le c d
    both a m c d h l = grind (arith, nat_tests)

two_units : (b : ℕ) → 2 ^ (b + 1) ≡ 2 * 2 ^ b
two_units b = let e = pow_more 2 b in omega (arith, e)

four_units : (b : ℕ) → 2 ^ (b + 2) ≡ 4 * 2 ^ b
four_units b =
    let e = pow_more 2 b in
    let f = pow_more 2 (b + 1) in
    let g = ap (λ k. 2 ^ k) (let e : b + 2 ≡ b + 1 + 1 = omega arith in e) in
    omega (arith, e, f, g)

pub by_two : (b m : ℕ) → nat_le (2 ^ (b + 1)) m ≡ nat_le 2 (m / 2 ^ b)
by_two b m = ap (λ p. nat_le p m) (two_units b) ∙ units (2 ^ b) m 2 (pow_pos b)

pub by_four : (b m : ℕ) → nat_le (2 ^ (b + 2)) m ≡ nat_le 4 (m / 2 ^ b)
by_four b m = ap (λ p. nat_le p m) (four_units b) ∙ units (2 ^ b) m 4 (pow_pos b)

-- the tests see halves alone
two_same : (m n : ℕ) → m / 2 ≡ n / 2 → nat_le 2 m ≡ nat_le 2 n
two_same m n e = grind (arith, nat_tests)

four_same : (m n : ℕ) → m / 2 ≡ n / 2 → nat_le 4 m ≡ nat_le 4 n
four_same m n e = grind (arith, nat_tests)

pub same_two : (b m n : ℕ) → m / 2 ^ b / 2 ≡ n / 2 ^ b / 2 → nat_le (2 ^ (b + 1)) m ≡ nat_le (2 ^ (b + 1)) n
same_two b m n e = by_two b m ∙ two_same (m / 2 ^ b) (n / 2 ^ b) e ∙ sym (by_two b n)

pub same_four : (b m n : ℕ) → m / 2 ^ b / 2 ≡ n / 2 ^ b / 2 → nat_le (2 ^ (b + 2)) m ≡ nat_le (2 ^ (b + 2)) n
same_four b m n e = by_four b m ∙ four_same (m / 2 ^ b) (n / 2 ^ b) e ∙ sym (by_four b n)

-- ---- a bit more

-- A bit of plane b doesn't change what is two planes above it.
pub bit_stays : (m b : ℕ) (bit : Bool) → nat_le (2 ^ (b + 2)) (above (b + 1) m + cond bit (2 ^ b) 0) ≡ nat_le (2 ^ (b + 2)) m
bit_stays m b bit =
    let e = pow_more 2 b in
    let f = pow_more 2 (b + 1) in
    let g = ap (λ k. 2 ^ k) (let e : b + 2 ≡ b + 1 + 1 = omega arith in e) in
    let pos = pow_pos b in
    by (2 ^ (b + 1)) (2 ^ (b + 2)) (cond bit (2 ^ b) 0) (omega (arith, e, pos)) (omega (arith, f, g)) (let s = small bit in omega (arith, s, e, pos))
  where
    small : (bit : Bool) → cond bit (2 ^ b) 0 ≤ 2 ^ b
    small true = omega arith
    small false = omega arith

    by : (p q r : ℕ) → 0 < p → q ≡ 2 * p → r < p → nat_le q (m / p * p + r) ≡ nat_le q m
    by p q r pos e l =
        let h = lt-div-mul-add {a = m} {b = p} pos in
        let g : m / p * p ≤ m = div-mul-le_self m p in
        elim (cases_lt (m / p) 2) [
          | inl less ↦
              let t : m / p * p ≤ 1 * p = mul-le-mul_right p (let e : m / p ≤ 1 = omega (arith, less) in e) in
              no q (m / p * p + r) m (omega (arith, t, e, l)) (omega (arith, t, e, h))
          | inr more ↦
              let t : 2 * p ≤ m / p * p = mul-le-mul_right p more in
              both q (m / p * p + r) m (omega (arith, t, e)) (omega (arith, t, e, g))
        ]
      where
        no : (q a m : ℕ) → a < q → m < q → nat_le q a ≡ nat_le q m
        no q a m h l = grind (arith, nat_tests)

        both : (q a m : ℕ) → q ≤ a → q ≤ m → nat_le q a ≡ nat_le q m
        both q a m h l = grind (arith, nat_tests)

pub put_stays : (f : Field ℕ) (x y m least x' y' : ℕ) → nat_le least m ≡ nat_le least (f x y) → nat_le least (put f x y m x' y') ≡ nat_le least (f x' y')
put_stays f x y m least x' y' h = by (nat_eq x' x && nat_eq y' y) refl
  where
    by : (b : Bool) → (nat_eq x' x && nat_eq y' y) ≡ b → nat_le least (cond (nat_eq x' x && nat_eq y' y) m (f x' y')) ≡ nat_le least (f x' y')
    by true e =
        let p = and_parts (nat_eq x' x) (nat_eq y' y) e in
        let p0 = p.0 in let p1 = p.1 in
        let ex : x' ≡ x = grind (arith, nat_tests) in
        let ey : y' ≡ y = grind (arith, nat_tests) in
        ap (λ b. nat_le least (cond b m (f x' y'))) e ∙ h ∙ ap (λ u. nat_le least (f u y)) (sym ex) ∙ ap (λ u. nat_le least (f x' u)) (sym ey)
    by false e = ap (λ b. nat_le least (cond b m (f x' y'))) e

-- ---- words as truth values of places

pub drawn_flag : (s : BlockShape) (f : Field Bool) (words : List ℕ) (x y : ℕ) → IsDrawn s f words → is_inside s x y ≡ true → flag_at s words x y ≡ f x y
drawn_flag s f words x y drawn i =
    let p = inside_parts s x y i in
    let p0 = p.0 in
    let p1 = p.1 in
    let m = 8 * (x % 8) + (y % 4 + 1) in
    let across_x : x / 8 < across s = omega arith in
    drawn_bit s f words (x / 8) (y / 4) m drawn across_x (omega arith) (omega arith)
    ∙ ap (λ b. b && f (column (x / 8) m) (row (y / 4) m)) (on_rows (m % 8) (omega arith) (omega arith))
    ∙ ap (λ c. f c (row (y / 4) m)) (let e : column (x / 8) m ≡ x = omega arith in e)
    ∙ ap (λ r. f x r) (let e : row (y / 4) m ≡ y = omega arith in e)

-- ---- the passes

-- where a plane begins, all that is significant is so by the planes above
pub started : (bytes : List ℕ) (s : BlockShape) (planes n : ℕ) (z : Progress) → n < 3 * planes - 2 → kind_of n ≡ 0 → times n (pass_at bytes s planes) blank ≡ Ok z
    → (x y : ℕ) → is_inside s x y ≡ true → nat_lt 0 (z.magnitude x y) ≡ nat_le (2 ^ (plane_of planes n + 1)) (z.magnitude x y)
started bytes s planes n z h kind is x y i =
    let b = plane_of planes n in
    let cut : Cut s b (0 * visits s) (begun 0 z) = subst (λ k. Cut s b (k * visits s) (begun k z)) kind (ready s planes n z h (passes_onward bytes s planes n z (omega arith) is)) in
    let even = cut.even x y i (first (moment s (mags s b (begun 0 z)) x y)) in
    let whole = cut.whole x y i in
    by (z.magnitude x y) (mags s b (begun 0 z) x y) (2 ^ b) (pow_pos b) whole even ∙ ap (λ p. nat_le p (z.magnitude x y)) (sym (two_units b))
  where
    first : (m : ℕ) → nat_lt m (0 * visits s) ≡ false
    first m = grind (arith, nat_tests)

    by : (m a p : ℕ) → 0 < p → m ≡ a * p → a % 2 ≡ 0 → nat_lt 0 m ≡ nat_le (2 * p) m
    by m a p pos e even = elim (cases_lt a 2) [
      | inl less ↦
          let g : a * p ≡ 0 * p = ap (λ a. a * p) (let z : a ≡ 0 = omega (arith, less, even) in z) in
          none m (2 * p) (omega (arith, e, g)) (omega (arith, pos))
      | inr more ↦
          let t : 2 * p ≤ a * p = mul-le-mul_right p more in
          some m (2 * p) (omega (arith, t, e, pos)) (omega (arith, t, e))
    ]
      where
        none : (m q : ℕ) → m ≡ 0 → 0 < q → nat_lt 0 m ≡ nat_le q m
        none m q e h = grind (arith, nat_tests)

        some : (m q : ℕ) → 0 < m → q ≤ m → nat_lt 0 m ≡ nat_le q m
        some m q e h = grind (arith, nat_tests)

-- a pass keeps what is above its plane
pub kept : (bytes : List ℕ) (s : BlockShape) (planes n : ℕ) (z z' : Progress) → n < 3 * planes - 2 → times n (pass_at bytes s planes) blank ≡ Ok z → pass_at bytes s planes n z ≡ Ok z'
    → (x y : ℕ) → is_inside s x y ≡ true → z'.magnitude x y / 2 ^ plane_of planes n / 2 ≡ z.magnitude x y / 2 ^ plane_of planes n / 2
unfolding pass_at
kept bytes s planes n z z' h is more x y i =
    let b = plane_of planes n in
    let k = kind_of n in
    let few : k < 3 = omega arith in
    let stage = stage_pass bytes s b k few in
    let w = with_contexts s z in
    let cut = ready s planes n w h (contexts_done s planes n z (passes_onward bytes s planes n z (omega arith) is)) in
    let like : Like s b (k * visits s + visits s) z' (record { magnitude = mags s b z'; negative = z'.negative }) = record {
      agree = record { halves = λ u v. refl; coded = λ u v e. refl };
      outside = λ u v o. mags_outside s b z' u v o;
      signs = λ u v e. refl;
    } in
    let back = (stage.back (begun k w) z' cut more (record { magnitude = mags s b z'; negative = z'.negative }) like).0 in
    let halves = back.agree.halves x y in
    ap (λ m. m / 2) (sym (mags_inside s b z' x y i)) ∙ sym halves ∙ ap (λ m. m / 2) (mags_inside s b (begun k w) x y i)

-- ---- words that were noted

-- the plane of the pass before
abbrev pub plane_before : (planes n : ℕ) → ℕ
plane_before planes n = planes - 1 - (n + 1) / 3

-- The words show what was significant before the plane of the pass before, and before the plane
-- above that.
pub record Aged (s : BlockShape) (magnitude : Field ℕ) (b : ℕ) (refined older : List ℕ) : Type 0 where
  pub refined_is : (x y : ℕ) → is_inside s x y ≡ true → flag_at s refined x y ≡ nat_le (2 ^ (b + 2)) (magnitude x y)
  pub older_is : (x y : ℕ) → is_inside s x y ≡ true → flag_at s older x y ≡ nat_le (2 ^ (b + 1)) (magnitude x y)

pub aged_none : (s : BlockShape) (magnitude : Field ℕ) (b n m : ℕ) (refined older : List ℕ) → refined ≡ replicate n 0 → older ≡ replicate m 0 → ((x y : ℕ) → magnitude x y ≡ 0) → Aged s magnitude b refined older
aged_none s magnitude b n m refined older r o z = record {
  refined_is = λ x y i. ap (λ (ws : List ℕ). flag_at s ws x y) r ∙ flag_none s n x y ∙ sym (none (2 ^ (b + 2)) (magnitude x y) (pow_pos (b + 2)) (z x y));
  older_is = λ x y i. ap (λ (ws : List ℕ). flag_at s ws x y) o ∙ flag_none s m x y ∙ sym (none (2 ^ (b + 1)) (magnitude x y) (pow_pos (b + 1)) (z x y));
}
  where
    none : (p m : ℕ) → 0 < p → m ≡ 0 → nat_le p m ≡ false
    none p m h e = grind (arith, nat_tests)

-- as a pass begins
pub aged_noted : (bytes : List ℕ) (k : Draft) (planes n : ℕ) (coder : State) (significant refined older refined' older' : List ℕ) → n < 3 * planes - 2 → times n (pass_at bytes k.shape planes) blank ≡ Ok (progress k coder)
    → IsDrawn k.shape (significant_in k) significant → Aged k.shape k.magnitude (plane_before planes n) refined older → (kind_of n ≡ 0 → refined' ≡ older) → (kind_of n ≡ 0 → AreSameWords k.shape significant older')
    → ((kind_of n ≡ 0 → ⊥) → refined' ≡ refined) → ((kind_of n ≡ 0 → ⊥) → older' ≡ older) → Aged k.shape k.magnitude (plane_of planes n) refined' older'
aged_noted bytes k planes n coder significant refined older refined' older' h is drawn aged r o r0 o0 = elim (cases_lt 0 (kind_of n)) [
  | inl later ↦
      let other : kind_of n ≡ 0 → ⊥ = λ e. omega (arith, e, later) in
      let same : plane_before planes n ≡ plane_of planes n = ap (λ d. planes - 1 - d) (let e : (n + 1) / 3 ≡ (n + 2) / 3 = omega (arith, later) in e) in
      subst (λ (ws : List ℕ). Aged k.shape k.magnitude (plane_of planes n) ws older') (sym (r0 other))
      (subst (λ (ws : List ℕ). Aged k.shape k.magnitude (plane_of planes n) refined ws) (sym (o0 other))
      (subst (λ b. Aged k.shape k.magnitude b refined older) same aged))
  | inr first ↦
      let kind : kind_of n ≡ 0 = omega (arith, first) in
      let b = plane_of planes n in
      let up : plane_before planes n + 1 ≡ b + 2 = omega (arith, kind, h) in
      record {
        refined_is = λ x y i. ap (λ (ws : List ℕ). flag_at k.shape ws x y) (r kind) ∙ aged.older_is x y i ∙ ap (λ p. nat_le (2 ^ p) (k.magnitude x y)) up;
        older_is = λ x y i. drawn_flag k.shape (significant_in k) older' x y (drawn_alike k.shape (significant_in k) significant older' (o kind) drawn) i ∙ ap (λ t. t && nat_lt 0 (k.magnitude x y)) i
            ∙ started bytes k.shape planes n (progress k coder) h kind is x y i;
      }
]

-- behind it
pub aged_passed : (bytes : List ℕ) (k k' : Draft) (planes n : ℕ) (coder coder' : State) (refined older : List ℕ) → n < 3 * planes - 2 → times n (pass_at bytes k.shape planes) blank ≡ Ok (progress k coder)
    → pass_at bytes k.shape planes n (progress k coder) ≡ Ok (progress k' coder') → k'.shape ≡ k.shape → Aged k.shape k.magnitude (plane_of planes n) refined older → Aged k'.shape k'.magnitude (plane_before planes (n + 1)) refined older
aged_passed bytes k k' planes n coder coder' refined older h is more shape aged =
    let b = plane_of planes n in
    let same : b ≡ plane_before planes (n + 1) = ap (λ d. planes - 1 - d) (let e : (n + 2) / 3 ≡ (n + 1 + 1) / 3 = omega arith in e) in
    let stays = kept bytes k.shape planes n (progress k coder) (progress k' coder') h is more in
    let there : (x y : ℕ) → is_inside k'.shape x y ≡ true → is_inside k.shape x y ≡ true = λ x y i. ap (λ (s : BlockShape). is_inside s x y) (sym shape) ∙ i in
    subst (λ b. Aged k'.shape k'.magnitude b refined older) same (record {
      refined_is = λ x y i. ap (λ (s : BlockShape). flag_at s refined x y) shape ∙ aged.refined_is x y (there x y i)
          ∙ same_four b (k.magnitude x y) (k'.magnitude x y) (sym (stays x y (there x y i)));
      older_is = λ x y i. ap (λ (s : BlockShape). flag_at s older x y) shape ∙ aged.older_is x y (there x y i)
          ∙ same_two b (k.magnitude x y) (k'.magnitude x y) (sym (stays x y (there x y i)));
    })

-- the context of a place of the pass
pub next_context : (at : WordPlace) (refined : List ℕ) (k : Draft) (again seen z context : ℕ) (a b : Bool) → IsFresh at.plane refined k → IsBitPlace k.shape at z → on again z ≡ flag_at k.shape refined (column at.word z) (row at.stripe z) → on seen z ≡ touched_in k.shape (significant_in k) (column at.word z) (row at.stripe z)
    → a ≡ on again z → b ≡ on seen z → context ≡ refine_context_of a b
    → context ≡ refine_context_of (nat_le 4 (k.magnitude (column at.word z) (row at.stripe z) / 2 ^ at.plane)) (touched_in k.shape (significant_in k) (column at.word z) (row at.stripe z))
next_context at refined k again seen z context a b fresh place shown near a_is b_is is =
    let x = column at.word z in
    let y = row at.stripe z in
    is ∙ ap (λ t. refine_context_of t b) (a_is ∙ shown ∙ fresh.older x y place.inside ∙ by_four at.plane (k.magnitude x y))
    ∙ ap (λ t. refine_context_of (nat_le 4 (k.magnitude x y / 2 ^ at.plane)) t) (b_is ∙ near)
