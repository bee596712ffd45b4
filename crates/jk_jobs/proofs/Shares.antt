-- What jobs give, put together.
use Rattle.std.proofs.Common.{◌≡◌, ℕ, zero, suc, ◌+◌, ◌<◌, List, [], ◌∷◌, ◌++◌, length, map, drop, get_or, set, All, Option, None, Some, Result, Ok, IfOk, refl, sym, ap, subst, ◌∙◌, inl, inr, arith}
use Rattle.std.proofs.Math.ListN.{get_or-append}
use Rattle.std.proofs.Math.Seq.{get_or-append_seam}
use Rattle.std.proofs.lemmas.Bool.{cases_eq}
use Rattle.std.proofs.lemmas.List.Elements.{All-head, All-tail, All-same}
use Rattle.std.proofs.lemmas.Option.{none-some, same_Some}
use Rattle.std.proofs.lemmas.List.{get_or-map, get_or-set_same, get_or-set_other, length-map}
use Rattle.jk_math.specs.declared.fault.Fault.{Fault}
use Rattle.jk_jobs.specs.Dealing.{GivesDone, AreFilled, AreGiven}

module _ {X : Type 0} where
  -- one more empty slot
  pub empty_more : (slots more : List (Option X)) → ((i : ℕ) → get_or slots i None ≡ None) → more ≡ slots ++ None ∷ [] → (i : ℕ) → get_or more i None ≡ None
  empty_more slots more h e i = ap (λ (xs : List (Option X)). get_or xs i None) e ∙ empty_push slots h i where
    empty_push : (xs : List (Option X)) → ((k : ℕ) → get_or xs k None ≡ None) → (k : ℕ) → get_or (xs ++ None ∷ []) k None ≡ None
    empty_push [] all zero = refl
    empty_push [] all (suc k) = refl
    empty_push (x ∷ xs) all zero = all 0
    empty_push (x ∷ xs) all (suc k) = empty_push xs (λ n. all (suc n)) k

module _ {J D : Type 0} (gives : J → Result D Fault → Type 0) (jobs : List J) where
  pub filled_none : (slots : List (Option (Result D Fault))) → ((i : ℕ) → get_or slots i None ≡ None) → AreFilled gives jobs slots
  filled_none slots h i r e = absurd (none-some r (sym (h i) ∙ e))

  -- one slot more is filled
  pub filled_more : (slots more : List (Option (Result D Fault))) (job : ℕ) (r : Result D Fault) → AreFilled gives jobs slots → job < length slots → GivesDone gives jobs job r
      → more ≡ set slots job (Some r) → AreFilled gives jobs more
  filled_more slots more job r old lt given e i q is = elim (cases_eq i job) [
    | inl same ↦ λ j.
        let here : Some r ≡ Some q = sym (ap (λ (xs : List (Option (Result D Fault))). get_or xs i None) e ∙ ap (λ n. get_or (set slots job (Some r)) n None) same ∙ get_or-set_same slots job (Some r) None lt) ∙ is in
        subst (λ n. gives (get_or jobs n j) q) (sym same) (subst (λ x. gives (get_or jobs job j) x) (same_Some r q here) (given j))
    | inr other ↦ old i q (sym (ap (λ (xs : List (Option (Result D Fault))). get_or xs i None) e ∙ get_or-set_other slots job i (Some r) None other) ∙ is)
  ]

  -- what is put together
  pub given_none : (items : List D) → items ≡ [] → AreGiven gives jobs (length items) items
  given_none items e = record { long = refl; each = λ i d lt. absurd (let none = ap (λ (xs : List D). length xs) e in omega (arith, lt, none)) }

  pub given_more : (job : ℕ) (items more : List D) (x : D) → AreGiven gives jobs job items → ((j : J) → gives (get_or jobs job j) (Ok x)) → more ≡ items ++ x ∷ [] → length more ≡ length items + 1
      → AreGiven gives jobs (length more) more
  given_more job items more x old given e long = record {
    long = refl;
    each = λ i d lt. elim (cases_eq i job) [
      | inl here ↦ λ j.
          let at : i ≡ length items = (let same = old.long in omega (arith, here, same)) in
          let value : x ≡ get_or more i d = sym (ap (λ (xs : List D). get_or xs i d) e ∙ ap (λ n. get_or (items ++ x ∷ []) n d) at ∙ get_or-append_seam items x [] d) in
          subst (λ v. gives (get_or jobs i j) (Ok v)) value (subst (λ n. gives (get_or jobs n j) (Ok x)) (sym here) (given j))
      | inr other ↦ λ j.
          let less : i < length items = (let same = old.long in omega (arith, lt, other, long, same)) in
          let value : get_or items i d ≡ get_or more i d = sym (ap (λ (xs : List D). get_or xs i d) e ∙ get_or-append items (x ∷ []) d i less) in
          subst (λ v. gives (get_or jobs i j) (Ok v)) value (old.each i d (let same = old.long in omega (arith, lt, other, long, same)) j)
    ];
  }

-- ---- the shares of all workers

pub shares_long : {X E : Type 0} (items : List X) (shares : List (Result X E)) → map Ok items ≡ shares → length items ≡ length shares
shares_long items shares e = sym (length-map items Ok) ∙ ap (λ (xs : List _). length xs) e

-- each of the shares, all of which were given
pub all_ok : {X E : Type 0} (P : X → Type 0) (items : List X) (shares : List (Result X E)) → map Ok items ≡ shares → All (λ (r : Result X E). IfOk r P) shares → All P items
all_ok {X} {E} P items shares e each k d lt =
    let here : get_or shares k (Ok d) ≡ Ok (get_or items k d) = ap (λ (xs : List (Result X E)). get_or xs k (Ok d)) (sym e) ∙ get_or-map Ok items k d (Ok d) lt in
    subst (λ (r : Result X E). IfOk r P) here (each k (Ok d) (omega (arith, lt, shares_long items shares e)))

-- the front of what is left of a list, which isn't all of it
pub front_of : {X : Type 0} (xs rest : List X) (n : ℕ) (x d : X) → x ∷ rest ≡ drop n xs → (n < length xs) × (get_or xs n d ≡ x) × (rest ≡ drop (n + 1) xs)
front_of {X} [] rest zero x d e = absurd (let long = ap (λ (l : List X). length l) e in omega (arith, long))
front_of {X} [] rest (suc n) x d e = absurd (let long = ap (λ (l : List X). length l) e in omega (arith, long))
front_of {X} (y ∷ xs) rest zero x d e = (omega arith, sym (ap (λ (l : List X). get_or l 0 d) e), ap (λ (l : List X). drop 1 l) e)
front_of {X} (y ∷ xs) rest (suc n) x d e =
    let more = front_of xs rest n x d e in
    let behind : suc (n + 1) ≡ suc n + 1 = omega arith in
    (let less = more.0 in omega (arith, less), more.1, more.2 ∙ ap (λ m. drop m (y ∷ xs)) behind)

-- all but the front of what is left
pub rest_all : {X : Type 0} (P : X → Type 0) (xs rest : List X) (x : X) → xs ≡ x ∷ rest → All P xs → P x × All P rest
rest_all P xs rest x e h = let all = All-same P (x ∷ rest) xs (sym e) h in (All-head P x rest all, All-tail P x rest all)
