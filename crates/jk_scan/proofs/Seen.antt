-- The contexts of what is seen around a place.
use Rattle.std.proofs.Common.{◌≡◌, ℕ, ◌+◌, ◌-◌, ◌*◌, ◌/◌, ◌%◌, ◌<◌, Bool, true, not, refl, sym, ap, ◌∙◌, arith}
use Rattle.std.specs.Prelude.{◌&&◌, nat_le}
use Rattle.std.proofs.lemmas.Bool.Decides.{nat_tests}
use Rattle.jk_math.specs.declared.orientation.Orientation.{Orientation}
use Rattle.jk_scan.specs.Bits.{on}
use Rattle.jk_scan.specs.Contexts.{zero_context_of, contribution_of, sign_context_of}
use Rattle.jk_scan.specs.Neighbours.{west, east, north, south, count, zero_at, sign_at}
use Rattle.jk_scan.specs.Tables.{zero_context_by, sign_context_by}
use Rattle.jk_scan.specs.Words.{Truths, bordered, IsNeighbourhood}
use Rattle.jk_scan.proofs.BitLaws.{on_mod, on_shr_at}

-- what a neighbourhood shows of the neighbours of the place (x, y)
pub record AreSeen (f : Truths) (x y neighbourhood : ℕ) : Type 0 where
  pub left : on neighbourhood 1 ≡ west f x y
  pub right : on neighbourhood 17 ≡ east f x y
  pub above : on neighbourhood 8 ≡ north f x y
  pub below : on neighbourhood 10 ≡ south f x y
  pub left_above : on neighbourhood 0 ≡ west (north f) x y
  pub right_above : on neighbourhood 16 ≡ east (north f) x y
  pub left_below : on neighbourhood 2 ≡ west (south f) x y
  pub right_below : on neighbourhood 18 ≡ east (south f) x y

pub seen : (f : Truths) (x y X Y neighbourhood : ℕ) → X ≡ x + 8 → Y ≡ y + 4 → IsNeighbourhood (bordered f) X Y neighbourhood → AreSeen f x y neighbourhood
seen f x y X Y neighbourhood ex ey h = record {
  left = h 0 1 (omega arith) (omega arith) ∙ place c1 r0 d1 e0;
  right = h 2 1 (omega arith) (omega arith) ∙ place c2 r0 d2 e0;
  above = h 1 0 (omega arith) (omega arith) ∙ place c0 r1 d0 e1;
  below = h 1 2 (omega arith) (omega arith) ∙ place c0 r2 d0 e2;
  left_above = h 0 0 (omega arith) (omega arith) ∙ place c1 r1 d1 e1;
  right_above = h 2 0 (omega arith) (omega arith) ∙ place c2 r1 d2 e1;
  left_below = h 0 2 (omega arith) (omega arith) ∙ place c1 r2 d1 e2;
  right_below = h 2 2 (omega arith) (omega arith) ∙ place c2 r2 d2 e2;
}
  where
    place : {a a' b b' : Bool} {x x' y y' : ℕ} → a ≡ a' → b ≡ b' → x ≡ x' → y ≡ y' → (a && (b && f x y)) ≡ (a' && (b' && f x' y'))
    place p q e g = cc

    c0 : nat_le 8 (X + 1 - 1) ≡ true
    c0 = grind (arith, nat_tests)

    c1 : nat_le 8 (X + 0 - 1) ≡ nat_le 1 x
    c1 = grind (arith, nat_tests)

    c2 : nat_le 8 (X + 2 - 1) ≡ true
    c2 = grind (arith, nat_tests)

    r0 : nat_le 4 (Y + 1 - 1) ≡ true
    r0 = grind (arith, nat_tests)

    r1 : nat_le 4 (Y + 0 - 1) ≡ nat_le 1 y
    r1 = grind (arith, nat_tests)

    r2 : nat_le 4 (Y + 2 - 1) ≡ true
    r2 = grind (arith, nat_tests)

    d0 : X + 1 - 1 - 8 ≡ x
    d0 = omega arith

    d1 : X + 0 - 1 - 8 ≡ x - 1
    d1 = omega arith

    d2 : X + 2 - 1 - 8 ≡ x + 1
    d2 = omega arith

    e0 : Y + 1 - 1 - 4 ≡ y
    e0 = omega arith

    e1 : Y + 0 - 1 - 4 ≡ y - 1
    e1 = omega arith

    e2 : Y + 2 - 1 - 4 ≡ y + 1
    e2 = omega arith

pub zero_seen : (orientation : Orientation) (f : Truths) (x y neighbourhood nine : ℕ) → AreSeen f x y neighbourhood → ((a t : ℕ) → a < 3 → t < 3 → on nine (3 * a + t) ≡ on neighbourhood (8 * a + t)) → zero_context_by orientation nine ≡ zero_at orientation f x y
unfolding zero_context_by zero_at
zero_seen orientation f x y neighbourhood nine w h =
    same (h 0 1 (omega arith) (omega arith) ∙ w.left) (h 2 1 (omega arith) (omega arith) ∙ w.right) (h 1 0 (omega arith) (omega arith) ∙ w.above) (h 1 2 (omega arith) (omega arith) ∙ w.below)
    (h 0 0 (omega arith) (omega arith) ∙ w.left_above) (h 2 0 (omega arith) (omega arith) ∙ w.right_above) (h 0 2 (omega arith) (omega arith) ∙ w.left_below) (h 2 2 (omega arith) (omega arith) ∙ w.right_below)
  where
    same : {a b d e g i j k a' b' d' e' g' i' j' k' : Bool} → a ≡ a' → b ≡ b' → d ≡ d' → e ≡ e' → g ≡ g' → i ≡ i' → j ≡ j' → k ≡ k'
        → zero_context_of orientation (count a b) (count d e) (count g i + count j k) ≡ zero_context_of orientation (count a' b') (count d' e') (count g' i' + count j' k')
    same p q r s t u v z = cc

-- two such fours in one number
low_part : (a b k : ℕ) → a < 16 → k < 4 → on (a + 16 * b) k ≡ on a k
low_part a b k h l =
    sym (on_mod (a + 16 * b) 4 k l) ∙ ap (λ n. on n k) (let e : (a + 16 * b) % 16 ≡ a = omega (arith, h) in e)

high_part : (a b k j : ℕ) → a < 16 → j ≡ 4 + k → on (a + 16 * b) j ≡ on b k
high_part a b k j h e = sym (on_shr_at (a + 16 * b) 4 j k e) ∙ ap (λ n. on n k) (let e : (a + 16 * b) / 16 ≡ b = omega (arith, h) in e)

pub record AreFour (f : Truths) (x y four : ℕ) : Type 0 where
  pub small : four < 16
  pub left : on four 0 ≡ west f x y
  pub above : on four 1 ≡ north f x y
  pub below : on four 2 ≡ south f x y
  pub right : on four 3 ≡ east f x y

pub sign_seen : (f n : Truths) (x y a b : ℕ) → AreFour f x y a → AreFour n x y b → sign_context_by (a + 16 * b) ≡ sign_at f n x y
unfolding sign_context_by sign_at
sign_seen f n x y a b p m =
    same (plus (nat_le 1 x) (f (x - 1) y) (n (x - 1) y) (low 0 (omega arith) ∙ p.left) (high 0 4 refl ∙ m.left))
    (plus true (f (x + 1) y) (n (x + 1) y) (low 3 (omega arith) ∙ p.right) (high 3 7 refl ∙ m.right))
    (minus (nat_le 1 x) (f (x - 1) y) (n (x - 1) y) (low 0 (omega arith) ∙ p.left) (high 0 4 refl ∙ m.left))
    (minus true (f (x + 1) y) (n (x + 1) y) (low 3 (omega arith) ∙ p.right) (high 3 7 refl ∙ m.right))
    (plus (nat_le 1 y) (f x (y - 1)) (n x (y - 1)) (low 1 (omega arith) ∙ p.above) (high 1 5 refl ∙ m.above))
    (plus true (f x (y + 1)) (n x (y + 1)) (low 2 (omega arith) ∙ p.below) (high 2 6 refl ∙ m.below))
    (minus (nat_le 1 y) (f x (y - 1)) (n x (y - 1)) (low 1 (omega arith) ∙ p.above) (high 1 5 refl ∙ m.above))
    (minus true (f x (y + 1)) (n x (y + 1)) (low 2 (omega arith) ∙ p.below) (high 2 6 refl ∙ m.below))
  where
    low : (k : ℕ) → k < 4 → on (a + 16 * b) k ≡ on a k
    low k l = low_part a b k p.small l

    high : (k j : ℕ) → j ≡ 4 + k → on (a + 16 * b) j ≡ on b k
    high k j e = high_part a b k j p.small e

    plus : {s t : Bool} (g u v : Bool) → s ≡ (g && u) → t ≡ (g && v) → (s && not t) ≡ (g && (u && not v))
    plus g u v e h = grind (arith, nat_tests)

    minus : {s t : Bool} (g u v : Bool) → s ≡ (g && u) → t ≡ (g && v) → (s && t) ≡ (g && (u && v))
    minus g u v e h = grind (arith, nat_tests)

    same : {a b d e g i j k a' b' d' e' g' i' j' k' : Bool} → a ≡ a' → b ≡ b' → d ≡ d' → e ≡ e' → g ≡ g' → i ≡ i' → j ≡ j' → k ≡ k'
        → sign_context_of (contribution_of (count a b) (count d e)) (contribution_of (count g i) (count j k))
        ≡ sign_context_of (contribution_of (count a' b') (count d' e')) (contribution_of (count g' i') (count j' k'))
    same p q r s t u v z = cc
