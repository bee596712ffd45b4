-- The words of a block from one plane to the next.
use Rattle.std.proofs.Common.{◌≡◌, ℕ, zero, suc, ◌+◌, ◌-◌, ◌*◌, ◌/◌, ◌^◌, ◌<◌, ◌≤◌, Bool, true, false, not, ℤ, List, [], ◌∷◌, length, unsigned_abs, replicate, refl, sym, ap, ◌∙◌, subst, arith}
use Rattle.std.specs.Prelude.{◌&&◌, ◌||◌, nat_eq, nat_lt, nat_le}
use Rattle.std.proofs.lemmas.Bool.Decides.{nat_tests}
use Rattle.std.proofs.lemmas.Nat.{div-mul-add, pow-add, pow_pos}
use Rattle.std.proofs.Math.Nat.{mul-le-mul_right}
use Rattle.std.proofs.lemmas.Grind.{pow_more}
use Rattle.jk_scan.specs.declared.shape.BlockShape.{BlockShape}
use Rattle.jk_scan.specs.Neighbours.{Field, is_inside, touched_in}
use Rattle.jk_scan.specs.Moments.{number, visits, old, found, spread, moment, is_coded}
use Rattle.jk_scan.specs.Flags.{IsDrawn}
use Rattle.jk_scan.proofs.Laws.{number_below, significant_is, spread_is, so_far, cases_of, drawn_same, drawn_none, touched_nothing}
use Rattle.jk_math.specs.BitLength.{bit_length}
use Rattle.jk_math.proofs.Laws.{bit_length_none}
use Rattle.jk_block.specs.BlockWritten.{greatest}
use Rattle.jk_block.specs.Meaning.{plane_at, value_in}
use Rattle.jk_block.specs.declared.encoding.flags.Flags.{Flags}
use Rattle.jk_block.specs.declared.encoding.plane.BlockPlane.{BlockPlane}
use Rattle.jk_block.specs.encoding.Viewed.{significant_at, spread_at, IsFlagged, IsSignificantUpto, HasFlagRoom}
use Rattle.jk_block.proofs.encoding.Coming.{mag, mag_outside}
use Rattle.jk_block.proofs.encoding.Timing.{by_test}
use Rattle.jk_block.proofs.Whole.{plane_inside, plane_outside, lower_plane}

-- the coefficients of a block
abbrev pub value_of : BlockPlane → Field ℤ
value_of v = value_in v.shape v.values.now

-- What was significant before a plane has a bit above it.
old_plane : (s : BlockShape) (b : ℕ) (q : Field ℤ) (x y : ℕ) → old (plane_at s b q).magnitude x y ≡ nat_lt 0 ((plane_at s (b + 1) q).magnitude x y)
old_plane s b q x y = by_half ((plane_at s b q).magnitude x y) ((plane_at s (b + 1) q).magnitude x y) (lower_plane s b q x y)
  where
    by_half : (m n : ℕ) → n ≡ m / 2 → nat_le 2 m ≡ nat_lt 0 n
    by_half m n e = grind (arith, nat_tests)

old_above : (v : BlockPlane) (x y : ℕ) → old (mag v) x y ≡ nat_lt 0 ((plane_at v.shape (v.plane + 1) (value_of v)).magnitude x y)
old_above v x y = old_plane v.shape v.plane (value_of v) x y

-- What was refined before a plane has a bit more than one plane above it.
refined_plane : (s : BlockShape) (b : ℕ) (q : Field ℤ) (x y : ℕ) → nat_le 4 ((plane_at s b q).magnitude x y) ≡ nat_lt 0 ((plane_at s (b + 2) q).magnitude x y)
refined_plane s b q x y = by_quarter ((plane_at s b q).magnitude x y) ((plane_at s (b + 1) q).magnitude x y) ((plane_at s (b + 2) q).magnitude x y) (lower_plane s b q x y)
    (subst (λ c. (plane_at s c q).magnitude x y ≡ (plane_at s (b + 1) q).magnitude x y / 2) (let e : b + 1 + 1 ≡ b + 2 = omega arith in e) (lower_plane s (b + 1) q x y))
  where
    by_quarter : (m n o : ℕ) → n ≡ m / 2 → o ≡ n / 2 → nat_le 4 m ≡ nat_lt 0 o
    by_quarter m n o e g = grind (arith, nat_tests)

pub refined_drawn : (s : BlockShape) (b c : ℕ) (q : Field ℤ) (words : List ℕ) → c ≡ b + 2 → IsDrawn s (λ x y. nat_lt 0 ((plane_at s c q).magnitude x y)) words → IsDrawn s (λ x y. nat_le 4 ((plane_at s b q).magnitude x y)) words
refined_drawn s b c q words e h =
    drawn_same s (λ x y. nat_lt 0 ((plane_at s c q).magnitude x y)) (λ x y. nat_le 4 ((plane_at s b q).magnitude x y)) words
    (λ x y. ap (λ c. nat_lt 0 ((plane_at s c q).magnitude x y)) e ∙ sym (refined_plane s b q x y)) h

-- Nothing is found where nothing was significant.
unfound : (s : BlockShape) (a : Field ℕ) (k : ℕ) → ((x y : ℕ) → old a x y ≡ false) → (x y : ℕ) → found s a k x y ≡ false
unfolding found
unfound s a zero h x y = refl
unfound s a (suc k) h x y =
    gate (found s a k x y) (nat_eq (number s.width x y) k) (nat_eq (a x y) 1) (touched_in s (so_far s a k) x y) (unfound s a k h x y)
    (touched_nothing s (so_far s a k) x y (λ u v. neither (old a u v) (found s a k u v) (h u v) (unfound s a k h u v)))
  where
    neither : (a b : Bool) → a ≡ false → b ≡ false → (a || b) ≡ false
    neither a b e g = cc

    gate : (f n m t : Bool) → f ≡ false → t ≡ false → (f || (n && (m && t))) ≡ false
    gate f n m t e g = grind (arith, nat_tests)

unspread : (s : BlockShape) (a : Field ℕ) → ((x y : ℕ) → old a x y ≡ false) → (x y : ℕ) → spread s a x y ≡ false
unspread s a h x y =
    spread_is s a x y ∙ ap (λ t. not (old a x y) && t) (touched_nothing s (so_far s a (number s.width x y)) x y (λ u v. neither (old a u v) (found s a (number s.width x y) u v) (h u v) (unfound s a (number s.width x y) h u v)))
    ∙ none (not (old a x y))
  where
    neither : (a b : Bool) → a ≡ false → b ≡ false → (a || b) ≡ false
    neither a b e g = cc

    none : (b : Bool) → (b && false) ≡ false
    none true = refl
    none false = refl

-- the words show a field that is nowhere true
abbrev IsDark : BlockShape → List ℕ → Type 0
IsDark s words = (f : Field Bool) → ((x y : ℕ) → f x y ≡ false) → IsDrawn s f words

-- a plane begins, where what is significant is what was before, and nothing is coded
begun_at : (v : BlockPlane) (t : ℕ) (flags flags' : Flags) → IsSignificantUpto v.shape (v.plane + 1) (value_of v) flags → flags'.significant.now ≡ flags.significant.now → HasFlagRoom v.shape flags' → IsDark v.shape flags'.visited.now
    → ((x y : ℕ) → significant_at v t x y ≡ old (mag v) x y) → ((x y : ℕ) → spread_at v t x y ≡ false) → IsFlagged v t flags'
begun_at v t flags flags' h e room k known_significant none = record {
  known_significant = subst (λ ws. IsDrawn v.shape (significant_at v t) ws) (sym e)
      (drawn_same v.shape (λ x y. nat_lt 0 ((plane_at v.shape (v.plane + 1) (value_of v)).magnitude x y)) (significant_at v t) flags.significant.now (λ x y. sym (known_significant x y ∙ old_above v x y)) h.known_significant);
  coded = k (spread_at v t) none;
  room = room;
}

and_none : (a b : Bool) → (a && (b && false)) ≡ false
and_none true true = refl
and_none true false = refl
and_none false b = refl

pub begun_plane : (v : BlockPlane) (flags flags' : Flags) → IsSignificantUpto v.shape (v.plane + 1) (value_of v) flags → flags'.significant.now ≡ flags.significant.now → HasFlagRoom v.shape flags' → IsDark v.shape flags'.visited.now → IsFlagged v (0 * visits v.shape) flags'
begun_plane v flags flags' h e room k =
    begun_at v (0 * visits v.shape) flags flags' h e room k
    (λ x y. significant_is v.shape (mag v) (0 * visits v.shape) x y ∙ early (old (mag v) x y) (nat_eq (mag v x y) 1) (moment v.shape (mag v) x y) (0 * visits v.shape) (omega arith))
    (λ x y. ap (λ b. is_inside v.shape x y && (spread v.shape (mag v) x y && b)) (let z : nat_lt (number v.shape.width x y) (0 * visits v.shape) ≡ false = never (number v.shape.width x y) (0 * visits v.shape) (omega arith) in z) ∙ and_none (is_inside v.shape x y) (spread v.shape (mag v) x y))
  where
    never : (n t : ℕ) → t ≡ 0 → nat_lt n t ≡ false
    never n t e = grind (arith, nat_tests)

    early : (o e : Bool) (m t : ℕ) → t ≡ 0 → (o || (e && nat_lt m t)) ≡ o
    early o e m t z = grind (arith, nat_tests)

-- the highest plane has a cleanup pass alone
pub begun_top : (v : BlockPlane) (flags flags' : Flags) → IsSignificantUpto v.shape (v.plane + 1) (value_of v) flags → flags'.significant.now ≡ flags.significant.now → HasFlagRoom v.shape flags' → IsDark v.shape flags'.visited.now
    → ((x y : ℕ) → old (mag v) x y ≡ false) → IsFlagged v (2 * visits v.shape) flags'
begun_top v flags flags' h e room k top =
    begun_at v (2 * visits v.shape) flags flags' h e room k
    (λ x y. significant_is v.shape (mag v) (2 * visits v.shape) x y
    ∙ cases_of v.shape (mag v) x y
    (λ w. absurd (let o = w.old_is in let c : true ≡ false = sym o ∙ top x y in cc))
    (λ w. absurd (let o = w.spread_is in let c : true ≡ false = sym o ∙ unspread v.shape (mag v) top x y in cc))
    (λ w. late (old (mag v) x y) (nat_eq (mag v x y) 1) (moment v.shape (mag v) x y) (2 * visits v.shape) (let m = w.moment_is in omega (arith, m))))
    (λ x y. ap (λ b. is_inside v.shape x y && (b && nat_lt (number v.shape.width x y) (2 * visits v.shape))) (unspread v.shape (mag v) top x y) ∙ none (is_inside v.shape x y))
  where
    none : (b : Bool) → (b && false) ≡ false
    none true = refl
    none false = refl

    late : (o e : Bool) (m t : ℕ) → t ≤ m → (o || (e && nat_lt m t)) ≡ o
    late o e m t h = grind (arith, nat_tests)

-- a plane ends
pub ended_plane : (v : BlockPlane) (flags : Flags) → IsFlagged v (3 * visits v.shape) flags → IsSignificantUpto v.shape v.plane (value_of v) flags
ended_plane v flags h = record {
  known_significant = drawn_same v.shape (significant_at v (3 * visits v.shape)) (λ x y. nat_lt 0 (mag v x y)) flags.significant.now all h.known_significant;
  room = h.room;
}
  where
    at_coded : (m q t : ℕ) → q < t → (nat_le 2 m || (nat_eq m 1 && nat_lt q t)) ≡ nat_lt 0 m
    at_coded m q t h = grind (arith, nat_tests)

    at_none : (m : ℕ) (c : Bool) → m ≡ 0 → (nat_le 2 m || (nat_eq m 1 && c)) ≡ nat_lt 0 m
    at_none m c e = grind (arith, nat_tests)

    all : (x y : ℕ) → significant_at v (3 * visits v.shape) x y ≡ nat_lt 0 (mag v x y)
    all x y = significant_is v.shape (mag v) (3 * visits v.shape) x y ∙ by_test (is_inside v.shape x y)
        (λ i. let b = number_below v.shape x y i in
        at_coded (mag v x y) (moment v.shape (mag v) x y) (3 * visits v.shape)
        (cases_of v.shape (mag v) x y (λ w. let m = w.moment_is in omega (arith, m, b)) (λ w. let m = w.moment_is in omega (arith, m, b)) (λ w. let m = w.moment_is in omega (arith, m, b))))
        (λ i. at_none (mag v x y) (is_coded v.shape (mag v) (3 * visits v.shape) x y) (mag_outside v x y i))

no_bits : (n b : ℕ) → n < 2 ^ b → n / 2 ^ b ≡ 0
no_bits n b h = ap (λ m. m / 2 ^ b) (let e : n ≡ 0 * 2 ^ b + n = omega arith in e) ∙ div-mul-add 0 (2 ^ b) n h

pub short_of : (m planes : ℕ) → m < 2 ^ planes → planes ≤ 23 → m < 2 ^ 31
short_of m planes h few =
    let whole : 2 ^ 31 ≡ 2 ^ (31 - planes) * 2 ^ planes = ap (λ k. 2 ^ k) (let e : 31 ≡ 31 - planes + planes = omega (arith, few) in e) ∙ pow-add 2 (31 - planes) planes in
    let some = pow_pos (31 - planes) in
    subst (λ n. m < n) (sym whole) (more m (2 ^ planes) (2 ^ (31 - planes)) h some)
  where
    more : (m a b : ℕ) → m < a → 0 < b → m < b * a
    more m a b h l = let e = mul-le-mul_right a l in omega (arith, e, h)

-- no place has a bit above the planes
pub none_refined : (s : BlockShape) (planes : ℕ) (q : Field ℤ) (size : ℕ) (words : List ℕ) → ((x y : ℕ) → is_inside s x y ≡ true → unsigned_abs (q x y) < 2 ^ planes) → words ≡ replicate size 0
    → IsDrawn s (λ x y. nat_lt 0 ((plane_at s (planes + 1) q).magnitude x y)) words
none_refined s planes q size words h e =
    subst (λ ws. IsDrawn s (λ x y. nat_lt 0 ((plane_at s (planes + 1) q).magnitude x y)) ws) (sym e) (drawn_none s (λ x y. nat_lt 0 ((plane_at s (planes + 1) q).magnitude x y)) size dark)
  where
    zero_not : (m : ℕ) → m ≡ 0 → nat_lt 0 m ≡ false
    zero_not m e = grind (arith, nat_tests)

    more : (x y : ℕ) → is_inside s x y ≡ true → unsigned_abs (q x y) < 2 ^ (planes + 1)
    more x y i = let l = h x y i in let e = pow_more 2 planes in omega (arith, l, e)

    dark : (x y : ℕ) → nat_lt 0 ((plane_at s (planes + 1) q).magnitude x y) ≡ false
    dark x y = by_test (is_inside s x y)
        (λ i. zero_not ((plane_at s (planes + 1) q).magnitude x y) (plane_inside s (planes + 1) q x y i ∙ no_bits (unsigned_abs (q x y)) (planes + 1) (more x y i)))
        (λ i. zero_not ((plane_at s (planes + 1) q).magnitude x y) (plane_outside s (planes + 1) q x y i))

-- nothing is significant at first
pub significant_none : (s : BlockShape) (planes : ℕ) (q : Field ℤ) (size : ℕ) (flags : Flags) → ((x y : ℕ) → is_inside s x y ≡ true → unsigned_abs (q x y) < 2 ^ planes) → flags.significant.now ≡ replicate size 0 → HasFlagRoom s flags → IsSignificantUpto s planes q flags
significant_none s planes q size flags h e room = record {
  known_significant = subst (λ ws. IsDrawn s (λ x y. nat_lt 0 ((plane_at s planes q).magnitude x y)) ws) (sym e) (drawn_none s (λ x y. nat_lt 0 ((plane_at s planes q).magnitude x y)) size dark);
  room = room;
}
  where
    zero_not : (m : ℕ) → m ≡ 0 → nat_lt 0 m ≡ false
    zero_not m e = grind (arith, nat_tests)

    dark : (x y : ℕ) → nat_lt 0 ((plane_at s planes q).magnitude x y) ≡ false
    dark x y = by_test (is_inside s x y)
        (λ i. zero_not ((plane_at s planes q).magnitude x y) (plane_inside s planes q x y i ∙ no_bits (unsigned_abs (q x y)) planes (h x y i)))
        (λ i. zero_not ((plane_at s planes q).magnitude x y) (plane_outside s planes q x y i))

-- nor before the highest plane
pub top_plane : (s : BlockShape) (b planes : ℕ) (q : Field ℤ) → b + 1 ≡ planes → ((x y : ℕ) → is_inside s x y ≡ true → unsigned_abs (q x y) < 2 ^ planes) → (x y : ℕ) → old (plane_at s b q).magnitude x y ≡ false
top_plane s b planes q e h x y = old_plane s b q x y ∙ by_test (is_inside s x y)
    (λ i. zero_not ((plane_at s (b + 1) q).magnitude x y) (plane_inside s (b + 1) q x y i ∙ no_bits (unsigned_abs (q x y)) (b + 1) (subst (λ b. unsigned_abs (q x y) < 2 ^ b) (sym e) (h x y i))))
    (λ i. zero_not ((plane_at s (b + 1) q).magnitude x y) (plane_outside s (b + 1) q x y i))
  where
    zero_not : (m : ℕ) → m ≡ 0 → nat_lt 0 m ≡ false
    zero_not m e = grind (arith, nat_tests)

-- a block with a magnitude has a place
pub some_value : (values : List ℤ) → (bit_length (greatest values) ≡ 0 → ⊥) → 1 ≤ length values
some_value [] h = absurd (h bit_length_none)
some_value (v ∷ vs) h = omega arith

pub some_sides : (w h : ℕ) → 1 ≤ w * h → (1 ≤ w) × (1 ≤ h)
some_sides zero h e = absurd (let z : zero * h ≡ 0 = omega arith in omega (arith, e, z))
some_sides (suc w) zero e = absurd (let z : suc w * zero ≡ 0 = omega arith in omega (arith, e, z))
some_sides (suc w) (suc h) e = (omega arith, omega arith)
