-- Contexts of equal fields are equal.
use Rattle.std.proofs.Common.{◌≡◌, ℕ, ◌+◌, ◌-◌, Bool, true, false, not, refl, ap, ◌∙◌}
use Rattle.std.specs.Prelude.{◌&&◌, ◌||◌, nat_le}
use Rattle.jk_scan.specs.declared.contexts.SignContext.{SignContext}
use Rattle.jk_scan.specs.Contexts.{contribution_of, sign_context_of}
use Rattle.jk_scan.specs.Neighbours.{Field, west, east, north, south, horizontal, vertical, touched, sign_at}
use Rattle.jk_scan.proofs.Moments.{same_field}

by_fields : (plus minus : Field Bool) → ℕ → ℕ → SignContext
by_fields plus minus x y = sign_context_of (contribution_of (horizontal plus x y) (horizontal minus x y)) (contribution_of (vertical plus x y) (vertical minus x y))

plus_same : (f g n m : Bool) → f ≡ g → (f ≡ true → n ≡ m) → (f && not n) ≡ (g && not m)
plus_same true g n m e h = let k = h refl in cc
plus_same false g n m e h = ap (λ f. f && not m) e

minus_same : (f g n m : Bool) → f ≡ g → (f ≡ true → n ≡ m) → (f && n) ≡ (g && m)
minus_same true g n m e h = let k = h refl in cc
minus_same false g n m e h = ap (λ f. f && m) e

pub sign_same : (f g n m : Field Bool) (x y : ℕ) → ((x y : ℕ) → f x y ≡ g x y) → ((x y : ℕ) → f x y ≡ true → n x y ≡ m x y) → sign_at f n x y ≡ sign_at g m x y
unfolding sign_at by_fields
sign_same f g n m x y e h =
    ap (λ (p : Field Bool). by_fields p (λ u v. f u v && n u v) x y) (same_field (λ u v. f u v && not (n u v)) (λ u v. g u v && not (m u v)) (λ u v. plus_same (f u v) (g u v) (n u v) (m u v) (e u v) (h u v)))
    ∙ ap (λ (q : Field Bool). by_fields (λ u v. g u v && not (m u v)) q x y) (same_field (λ u v. f u v && n u v) (λ u v. g u v && m u v) (λ u v. minus_same (f u v) (g u v) (n u v) (m u v) (e u v) (h u v)))

or_grows : (a b a' b' : Bool) → (a ≡ true → a' ≡ true) → (b ≡ true → b' ≡ true) → (a || b) ≡ true → (a' || b') ≡ true
or_grows true b a' b' f g h = let e = f refl in ap (λ a. a || b') e
or_grows false b a' b' f g h = let e = g h in ap (λ b. a' || b) e ∙ or_true a'
  where
    or_true : (a : Bool) → (a || true) ≡ true
    or_true true = refl
    or_true false = refl

and_grows : (g a a' : Bool) → (a ≡ true → a' ≡ true) → (g && a) ≡ true → (g && a') ≡ true
and_grows true a a' f h = f h
and_grows false a a' f h = h

-- more places touch more
pub touched_grows : (f g : Field Bool) (x y : ℕ) → ((x y : ℕ) → f x y ≡ true → g x y ≡ true) → touched f x y ≡ true → touched g x y ≡ true
unfolding touched
touched_grows f g x y h =
    or_grows ((west f x y || east f x y) || (north f x y || south f x y)) ((west (north f) x y || east (north f) x y) || (west (south f) x y || east (south f) x y))
    ((west g x y || east g x y) || (north g x y || south g x y)) ((west (north g) x y || east (north g) x y) || (west (south g) x y || east (south g) x y))
    (or_grows (west f x y || east f x y) (north f x y || south f x y) (west g x y || east g x y) (north g x y || south g x y)
    (or_grows (west f x y) (east f x y) (west g x y) (east g x y) (and_grows (nat_le 1 x) (f (x - 1) y) (g (x - 1) y) (h (x - 1) y)) (h (x + 1) y))
    (or_grows (north f x y) (south f x y) (north g x y) (south g x y) (and_grows (nat_le 1 y) (f x (y - 1)) (g x (y - 1)) (h x (y - 1))) (h x (y + 1))))
    (or_grows (west (north f) x y || east (north f) x y) (west (south f) x y || east (south f) x y) (west (north g) x y || east (north g) x y) (west (south g) x y || east (south g) x y)
    (or_grows (west (north f) x y) (east (north f) x y) (west (north g) x y) (east (north g) x y)
    (and_grows (nat_le 1 x) (north f (x - 1) y) (north g (x - 1) y) (and_grows (nat_le 1 y) (f (x - 1) (y - 1)) (g (x - 1) (y - 1)) (h (x - 1) (y - 1))))
    (and_grows (nat_le 1 y) (f (x + 1) (y - 1)) (g (x + 1) (y - 1)) (h (x + 1) (y - 1))))
    (or_grows (west (south f) x y) (east (south f) x y) (west (south g) x y) (east (south g) x y)
    (and_grows (nat_le 1 x) (f (x - 1) (y + 1)) (g (x - 1) (y + 1)) (h (x - 1) (y + 1)))
    (h (x + 1) (y + 1))))

never : (x y : ℕ) → touched (λ _ _. false) x y ≡ true → ⊥
unfolding touched
never x y e = by (nat_le 1 x) (nat_le 1 y) e
  where
    by : (p q : Bool) → ((((p && false) || false) || ((q && false) || false)) || (((p && (q && false)) || (q && false)) || ((p && false) || false))) ≡ true → ⊥
    by true true e = absurd cc
    by true false e = absurd cc
    by false true e = absurd cc
    by false false e = absurd cc

-- no place touches nothing
pub touched_none : (f : Field Bool) (x y : ℕ) → ((x y : ℕ) → f x y ≡ false) → touched f x y ≡ false
touched_none f x y h = ap (λ f. touched f x y) (same_field f (λ _ _. false) h) ∙ none (touched (λ _ _. false) x y) refl
  where
    none : (b : Bool) → touched (λ _ _. false) x y ≡ b → b ≡ false
    none true e = absurd (never x y e)
    none false e = refl
