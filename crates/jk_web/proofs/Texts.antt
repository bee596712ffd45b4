-- Tests of texts.
use Rattle.std.proofs.Common.{◌≡◌, ℕ, true, false, cond, Bool, ◌||◌, List, [], ◌∷◌, Some, None, refl, sym, ap, ◌∙◌}
use Rattle.std.specs.Prelude.{find, All}
use Rattle.std.specs.List.{list_any}
use Rattle.std.specs.Str.{bytes_eq}
use Rattle.std.proofs.lemmas.Bool.{false_from_ne_true}
use Rattle.std.proofs.lemmas.List.Elements.{All-head, All-tail}
use Rattle.std.proofs.lemmas.Slice.Eq.{bytes_eq-Decides}

pub bytes_differ : (a b : List ℕ) → (a ≡ b → ⊥) → bytes_eq a b ≡ false
bytes_differ a b ne = false_from_ne_true (bytes_eq a b) (λ t. ne ((bytes_eq-Decides a b).0 t))

-- Two tests that agree find the same.
pub find_same : (P : List ℕ → Type 0) (f g : List ℕ → Bool) (names : List (List ℕ)) → All P names → ((n : List ℕ) → P n → f n ≡ g n)
    → find f names ≡ find g names
find_same P f g [] each same = refl
find_same P f g (n ∷ names) each same =
    let here = same n (All-head P n names each) in
    let there = find_same P f g names (All-tail P n names each) same in
    λ i. cond (here i) (Some n) (there i)

-- A test that nothing passes finds nothing.
pub find_none : (P : List ℕ → Type 0) (f : List ℕ → Bool) (names : List (List ℕ)) → All P names → ((n : List ℕ) → P n → f n ≡ false)
    → find f names ≡ None
find_none P f names each none = find_same P f (λ _. false) names each none ∙ nothing names
  where
    nothing : (ns : List (List ℕ)) → find (λ _. false) ns ≡ None
    nothing [] = refl
    nothing (n ∷ ns) = nothing ns

at_first : (x n : List ℕ) (names : List (List ℕ)) (b : Bool) → bytes_eq x n ≡ b → find (bytes_eq x) names ≡ cond (list_any (bytes_eq x) names) (Some x) None
    → cond b (Some n) (find (bytes_eq x) names) ≡ cond (b || list_any (bytes_eq x) names) (Some x) None
at_first x n names true e rest = ap (λ (t : List ℕ). Some t) (sym ((bytes_eq-Decides x n).0 e))
at_first x n names false e rest = rest

-- What is found by its text is that text.
pub find_text : (x : List ℕ) (names : List (List ℕ)) → find (bytes_eq x) names ≡ cond (list_any (bytes_eq x) names) (Some x) None
find_text x [] = refl
find_text x (n ∷ names) = at_first x n names (bytes_eq x n) refl (find_text x names)
