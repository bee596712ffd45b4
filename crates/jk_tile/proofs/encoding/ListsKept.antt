-- Lists of which one is changed, or that grow or are taken one by one.
use Rattle.std.proofs.Common.{◌≡◌, ◌≢◌, ℕ, zero, suc, ◌+◌, ◌-◌, ◌<◌, ◌≤◌, List, [], ◌∷◌, ◌++◌, append_assoc, length, map, drop, get_or, set, replicate, length-drop, inl, inr, sym, ap, subst, ◌∙◌, arith}
use Rattle.std.specs.Global.{Vec}
use Rattle.std.proofs.lemmas.Bool.{cases_lt, cases_eq}
use Rattle.std.proofs.lemmas.List.{map-set, map-append, length-map, get_or-map, get_or-set_same, get_or-set_other, get_or_append_left, get_or-append_right, replicate_more}
use Rattle.jk_math.specs.Lists.{lists_of, list_at}

abbrev items : {X : Type 0} → Vec X → List X
items v = v.items

-- the one that is changed, the others, and what it was
pub list_changed : {X : Type 0} (lists : List (Vec X)) (i : ℕ) (v : Vec X) → i < length lists → list_at (set lists i v) i ≡ v.items
list_changed {X} lists i v lt =
    ap (λ (ls : List (List X)). get_or ls i []) (map-set items lists i v) ∙ get_or-set_same (map items lists) i v.items [] (let long = length-map lists items in omega (arith, lt, long))

pub list_kept : {X : Type 0} (lists : List (Vec X)) (i n : ℕ) (v : Vec X) → n ≢ i → list_at (set lists i v) n ≡ list_at lists n
list_kept {X} lists i n v ne = ap (λ (ls : List (List X)). get_or ls n []) (map-set items lists i v) ∙ get_or-set_other (map items lists) i n v.items [] ne

pub list_was : {X : Type 0} (lists : List (Vec X)) (i : ℕ) (v : Vec X) → i < length lists → v ≡ get_or lists i v → v.items ≡ list_at lists i
list_was {X} lists i v lt is = ap (λ (w : Vec X). w.items) is ∙ sym (get_or-map items lists i v [] lt)

-- an empty list more
pub none_more : {X : Type 0} (n : ℕ) (front : List (List X)) (old new : List (Vec X)) (v : Vec X) → lists_of old ≡ front ++ replicate n [] → new ≡ old ++ v ∷ [] → v.items ≡ [] → lists_of new ≡ front ++ replicate (n + 1) []
none_more {X} n front old new v eo e ev =
    ap lists_of e ∙ map-append items old (v ∷ []) ∙ ap (λ (ls : List (List X)). ls ++ v.items ∷ []) eo ∙ ap (λ (l : List X). (front ++ replicate n []) ++ l ∷ []) ev
    ∙ append_assoc front (replicate n []) ([] ∷ []) ∙ ap (λ (ls : List (List X)). front ++ ls) (replicate_more n [])

-- ---- what holds of each entry

-- the next one stands behind those before it
pub pushed : {X : Type 0} (P : ℕ → X → Type 0) (old new : List X) (b : ℕ) (x : X) → length old ≡ b → new ≡ old ++ x ∷ [] → ((k : ℕ) (other : X) → k < b → P k (get_or old k other)) → P b x → (k : ℕ) (other : X) → k < b + 1 → P k (get_or new k other)
pushed {X} P old new b x long e before last k other lt =
    subst (λ (l : List X). P k (get_or l k other)) (sym e) (elim (cases_lt k b) [
      | inl less ↦ subst (P k) (sym (get_or_append_left old (x ∷ []) other k (omega (arith, less, long)))) (before k other less)
      | inr past ↦
          (let here : k ≡ b = omega (arith, lt, past) in
          let at : k - b ≡ 0 = omega (arith, here) in
          subst (λ j. P j (get_or (old ++ x ∷ []) k other)) (sym here) (subst (P b) (sym (get_or-append_right old (x ∷ []) b k other long past ∙ ap (λ n. get_or (x ∷ []) n other) at)) last))
    ])

-- the next one is changed where it stands
pub replaced : {X : Type 0} (P : ℕ → X → Type 0) (all : List X) (b : ℕ) (x : X) → b < length all → ((k : ℕ) (other : X) → k < b → P k (get_or all k other)) → P b x → (k : ℕ) (other : X) → k < b + 1 → P k (get_or (set all b x) k other)
replaced {X} P all b x here before last k other lt = elim (cases_eq k b) [
  | inl e ↦ subst (λ j. P j (get_or (set all b x) k other)) (sym e) (subst (λ j. P b (get_or (set all b x) j other)) (sym e) (subst (P b) (sym (get_or-set_same all b x other here)) last))
  | inr ne ↦ subst (P k) (sym (get_or-set_other all b k x other ne)) (before k other (omega (arith, lt, ne)))
]

-- The first of what is left of a list stands where so many were taken; one less is left then.
pub record IsTaken {X : Type 0} (all : List X) (n : ℕ) (x : X) (less : List X) : Type 0 where
  pub inside : n < length all
  pub here : (other : X) → get_or all n other ≡ x
  pub left : less ≡ drop (n + 1) all

pub taken : {X : Type 0} (all : List X) (n : ℕ) (x : X) (rest less : List X) → rest ≡ drop n all → rest ≡ x ∷ less → IsTaken all n x less
taken {X} all n x rest less left step = from all n (sym left ∙ step)
  where
    from : (all : List X) (n : ℕ) → drop n all ≡ x ∷ less → IsTaken all n x less
    from [] zero e = cc
    from [] (suc n) e = cc
    from (y ∷ all) zero e = record { inside = omega arith; here = λ other. (let first : y ≡ x = cc in first); left = (let back : all ≡ less = cc in sym back) }
    from (y ∷ all) (suc n) e =
        let is = from all n e in
        let inside = is.inside in
        let one : n + 1 ≡ suc n = omega arith in
        record { inside = omega (arith, inside); here = is.here; left = is.left ∙ ap (λ k. drop k all) one ∙ (let more : drop (suc n) all ≡ drop (suc n + 1) (y ∷ all) = (let two : suc n + 1 ≡ suc (suc n) = omega arith in ap (λ k. drop k (y ∷ all)) (sym two)) in more) }

-- behind the last one all were taken
pub taken_all : {X : Type 0} (all : List X) (n : ℕ) (rest : List X) → rest ≡ drop n all → length rest ≡ 0 → length all ≤ n
taken_all {X} all n rest left none = let e = ap (λ (l : List X). length l) left ∙ length-drop n all in omega (arith, e, none)
