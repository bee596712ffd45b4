-- What holds of each element of a list, with one more behind them.
use Rattle.std.proofs.Common.{◌≡◌, ℕ, ◌+◌, ◌-◌, ◌<◌, ◌≤◌, ◌++◌, inl, inr, List, [], ◌∷◌, get_or, set, length, sym, ◌∙◌, ap, subst, arith}
use Rattle.std.proofs.lemmas.Bool.{cases_lt, cases_eq}
use Rattle.std.proofs.lemmas.List.{length-append, get_or_append_left, get_or-append_right, get_or-set_same, get_or-set_other, length-set}

pub count_pushed : {X : Type 0} (n : ℕ) (old new : List X) (x : X) → length old ≡ n → new ≡ old ++ x ∷ [] → length new ≡ n + 1
count_pushed {X} n old new x long is = ap (λ (xs : List X). length xs) is ∙ length-append old (x ∷ []) ∙ (let e : length old + 1 ≡ n + 1 = omega (arith, long) in e)

pub each_pushed : {X : Type 0} (P : ℕ → X → Type 0) (n : ℕ) (old new : List X) (x : X) → length old ≡ n → new ≡ old ++ x ∷ [] → ((k : ℕ) (other : X) → k < n → P k (get_or old k other)) → P n x
    → (k : ℕ) (other : X) → k < n + 1 → P k (get_or new k other)
each_pushed {X} P n old new x long is each here k other lt = subst (λ (all : List X). P k (get_or all k other)) (sym is) (elim (cases_lt k n) [
  | inl less ↦ subst (P k) (sym (get_or_append_left old (x ∷ []) other k (omega (arith, long, less)))) (each k other less)
  | inr more ↦
      let last : n ≡ k = omega (arith, lt, more) in
      let none : k - n ≡ 0 = omega (arith, last) in
      subst (λ m. P m (get_or (old ++ x ∷ []) k other)) last (subst (P n) (sym (get_or-append_right old (x ∷ []) n k other long more ∙ ap (λ m. get_or (x ∷ []) m other) none)) here)
])

-- an element of a list that isn't empty
pub some_element : {X : Type 0} (xs : List X) (k : ℕ) → k < length xs → X
some_element [] k lt = absurd (omega (arith, lt))
some_element (x ∷ xs) k lt = x

-- one that is put in its place: those up to it, and those behind it
pub each_set : {X : Type 0} (P : ℕ → X → Type 0) (i : ℕ) (old : List X) (x : X) → i < length old → ((k : ℕ) (other : X) → k < i → P k (get_or old k other)) → P i x → (k : ℕ) (other : X) → k < i + 1 → P k (get_or (set old i x) k other)
each_set {X} P i old x inside each here k other lt = elim (cases_eq k i) [
  | inl same ↦ subst (λ m. P m (get_or (set old i x) m other)) (sym same) (subst (P i) (sym (get_or-set_same old i x other inside)) here)
  | inr apart ↦ subst (P k) (sym (get_or-set_other old i k x other apart)) (each k other (omega (arith, lt, apart)))
]

pub left_set : {X : Type 0} (P : ℕ → X → Type 0) (i n : ℕ) (old : List X) (x : X) → ((k : ℕ) (other : X) → i ≤ k → k < n → P k (get_or old k other)) → (k : ℕ) (other : X) → i + 1 ≤ k → k < n → P k (get_or (set old i x) k other)
left_set {X} P i n old x left k other from lt = subst (P k) (sym (get_or-set_other old i k x other (λ e. omega (arith, e, from)))) (left k other (omega (arith, from)) lt)

pub count_set : {X : Type 0} (i n : ℕ) (old : List X) (x : X) → length old ≡ n → length (set old i x) ≡ n
count_set i n old x long = length-set old i x ∙ long
