-- The bytes that were placed.
use Rattle.std.proofs.Common.{◌≡◌, ◌∙◌, ap, ℕ, inl, inr, cond, List, [], ◌∷◌, eqb, refl}
use Rattle.std.proofs.lemmas.Bool.{cases_eq, eq-eqb, ne_eqb}
use Rattle.jk_model.specs.Placed.{gap, top}

pub gap-nil : gap [] ≡ 8
unfolding gap
gap-nil = refl

pub top-nil : top [] ≡ 255
unfolding top
top-nil = refl

gap-is : (x : ℕ) (xs : List ℕ) → gap (x ∷ xs) ≡ cond (eqb x 255) 7 8
unfolding gap
gap-is x xs = refl

top-is : (x : ℕ) (xs : List ℕ) → top (x ∷ xs) ≡ cond (eqb x 255) 143 255
unfolding top
top-is x xs = refl

pub gap-ff : (x : ℕ) (xs : List ℕ) → x ≡ 255 → gap (x ∷ xs) ≡ 7
gap-ff x xs h = gap-is x xs ∙ ap (λ t. cond t 7 8) (eq-eqb x 255 h)

pub gap-other : (x : ℕ) (xs : List ℕ) → (x ≡ 255 → ⊥) → gap (x ∷ xs) ≡ 8
gap-other x xs h = gap-is x xs ∙ ap (λ t. cond t 7 8) (ne_eqb x 255 h)

pub top-ff : (x : ℕ) (xs : List ℕ) → x ≡ 255 → top (x ∷ xs) ≡ 143
top-ff x xs h = top-is x xs ∙ ap (λ t. cond t 143 255) (eq-eqb x 255 h)

pub top-other : (x : ℕ) (xs : List ℕ) → (x ≡ 255 → ⊥) → top (x ∷ xs) ≡ 255
top-other x xs h = top-is x xs ∙ ap (λ t. cond t 143 255) (ne_eqb x 255 h)

-- what may follow
pub data HasGap (bs : List ℕ) : Type 0 where
  after_ff : gap bs ≡ 7 → top bs ≡ 143 → HasGap bs
  plain : gap bs ≡ 8 → top bs ≡ 255 → HasGap bs

pub follows : (bs : List ℕ) → HasGap bs
follows [] = plain gap-nil top-nil
follows (x ∷ xs) =
    elim (cases_eq x 255) [
      | inl e ↦ after_ff (gap-ff x xs e) (top-ff x xs e)
      | inr n ↦ plain (gap-other x xs n) (top-other x xs n)
    ]
