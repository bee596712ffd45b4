-- Pieces of a list, by numbers.
use Rattle.std.proofs.Common.{◌≡◌, ℕ, zero, suc, ◌+◌, ◌-◌, ◌*◌, ◌<◌, ◌≤◌, List, [], ◌∷◌, ◌++◌, length, take, drop, get_or, refl, sym, ap, ◌∙◌, subst, arith}
use Rattle.std.specs.Prelude.{sum_by}
use Rattle.std.specs.List.{AllByRecursion, flat_map}
use Rattle.std.proofs.Math.Seq.{take-add}
use Rattle.std.proofs.lemmas.List.{drop-drop, drop_more, length-take, length-drop}
use Rattle.std.proofs.lemmas.List.Sums.{sum_by-cons}

-- the elements of a list with numbers from one up to another
abbrev pub piece : {X : Type 0} → List X → (first behind : ℕ) → List X
piece xs first behind = take (behind - first) (drop first xs)

pub piece_none : {X : Type 0} (xs : List X) (first behind : ℕ) → behind ≤ first → piece xs first behind ≡ []
piece_none xs first behind le = let none : behind - first ≡ 0 = omega arith in ap (λ n. take n (drop first xs)) none

pub piece_join : {X : Type 0} (xs : List X) (a b c : ℕ) → a ≤ b → b ≤ c → piece xs a c ≡ piece xs a b ++ piece xs b c
piece_join xs a b c lo hi =
    let sum : c - a ≡ (b - a) + (c - b) = omega arith in
    let back : a + (b - a) ≡ b = omega arith in
    ap (λ n. take n (drop a xs)) sum
    ∙ take-add (b - a) (c - b) (drop a xs)
    ∙ ap (λ ys. take (b - a) (drop a xs) ++ take (c - b) ys) (drop-drop (b - a) a xs ∙ ap (λ n. drop n xs) back)

pub piece_one : {X : Type 0} (xs : List X) (i : ℕ) (d : X) → i < length xs → piece xs i (i + 1) ≡ get_or xs i d ∷ []
piece_one xs i d lt =
    let one : i + 1 - i ≡ 1 = omega arith in
    ap (λ n. take n (drop i xs)) one ∙ ap (take 1) (drop_more xs i d lt)

pub piece_length : {X : Type 0} (xs : List X) (a b : ℕ) → a ≤ b → b ≤ length xs → length (piece xs a b) ≡ b - a
piece_length xs a b order within =
    let t = length-take (b - a) (drop a xs) in
    let d = length-drop a xs in
    omega (arith, t, d)

-- what holds of each number holds of each element
pub piece_all : {X : Type 0} (P : X → Type 0) (xs : List X) (d : X) (n first : ℕ) → first + n ≤ length xs
    → ((i : ℕ) → first ≤ i → i < first + n → P (get_or xs i d)) → AllByRecursion P (take n (drop first xs))
piece_all P xs d zero first few all = tt
piece_all P xs d (suc n) first few all =
    let here : drop first xs ≡ get_or xs first d ∷ drop (first + 1) xs = drop_more xs first d (omega arith) in
    let more = piece_all P xs d n (first + 1) (omega arith) (λ i lo hi. all i (omega arith) (omega arith)) in
    subst (λ ys. AllByRecursion P (take (suc n) ys)) (sym here) (all first (omega arith) (omega arith), more)

-- ---- equal texts

pub flat_same : {X : Type 0} (f g : X → List ℕ) (xs : List X) → AllByRecursion (λ x. f x ≡ g x) xs → flat_map f xs ≡ flat_map g xs
flat_same f g [] all = refl
flat_same f g (x ∷ xs) all = (λ j. all.0 j ++ flat_same f g xs all.1 j)

pub sum_same : {X : Type 0} (f : X → ℕ) (n : ℕ) (xs : List X) → AllByRecursion (λ x. f x ≡ n) xs → sum_by f xs ≡ length xs * n
sum_same f n [] all = omega arith
sum_same f n (x ∷ xs) all =
    let more = sum_same f n xs all.1 in
    let here = all.0 in
    let step = sum_by-cons f x xs in
    omega (arith, more, here, step)
