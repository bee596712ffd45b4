-- Cuts that are kept under keys.
use Rattle.std.proofs.Common.{◌≡◌, ℕ, Bool, true, false, List, [], ◌∷◌, Contains, Option, Some, None, ◌⊎◌, inl, inr, ⊎_elim, refl, sym, ◌∙◌, ap, subst, rules, arith, Result, Ok, Err, OnOk, OnErr}
use Rattle.std.specs.Global.{Vec}
use Rattle.std.specs.Map.{lookup}
use Rattle.std.specs.Str.{bytes_eq}
use Rattle.std.proofs.lemmas.Slice.Eq.{bytes_eq-Decides}
use Rattle.std.proofs.lemmas.Bool.Decides.{nat_tests}
use Rattle.lru.specs.LruCache.{LruCache, lru_cache, promoted, put_entries}
use Rattle.lru.proofs.Splits.{Contains-head, Contains-tail, Contains-cons, Contains-nil}
use Rattle.lru.proofs.CallerLemmas.{Contains-lookup, Contains-promoted, Contains-put_entries}
use Rattle.jk_window.specs.declared.view.View.{View}
use Rattle.jk_web.specs.declared.cache.CutKey.{CutKey}
use Rattle.jk_web.specs.contracts.cache.CutKeyPartialEq.TheImpl.{eq-value}
use Rattle.jk_web.specs.Images.{Image, IsCutOf}
use Rattle.jk_web.specs.Cuts.{KeptCut, kept_cut, Has, Within}
use Rattle.jk_web.specs.Keys.{asked_of, kept_of, kept_in}

abbrev pub same_key : CutKey → CutKey → Bool
same_key = (eq-value).it

-- what a key stands for
same_name : (a b : CutKey) → same_key a b ≡ true → a.name.items ≡ b.name.items
same_name a b e = search (rules, bytes_eq-Decides)

same_asked : (a b : CutKey) → same_key a b ≡ true → asked_of a ≡ asked_of b
same_asked a b e =
    let r : a.reduce ≡ b.reduce = grind (arith, nat_tests) in
    let x : a.x ≡ b.x = grind (arith, nat_tests) in
    let y : a.y ≡ b.y = grind (arith, nat_tests) in
    let w : a.width ≡ b.width = grind (arith, nat_tests) in
    let h : a.height ≡ b.height = grind (arith, nat_tests) in
    let l : a.layers ≡ b.layers = search (rules, nat_tests) in
    rw (r, x, y, w, h, l) refl

same_cut : (a b : CutKey) (v : List ℕ) → same_key a b ≡ true → kept_cut b.name.items (asked_of b) v ≡ kept_cut a.name.items (asked_of a) v
same_cut a b v e = ap (λ (n : List ℕ). kept_cut n (asked_of b) v) (sym (same_name a b e)) ∙ ap (λ (q : View). kept_cut a.name.items q v) (sym (same_asked a b e))

-- what pairs keep
into : (pairs : List (CutKey × Vec ℕ)) (p : CutKey × Vec ℕ) → Contains pairs p → Contains (kept_in pairs) (kept_of p)
into [] p h = absurd (Contains-nil p h)
into (q ∷ pairs) p h = elim (Contains-cons q pairs p h) [
  | inl e ↦ subst (λ (o : CutKey × Vec ℕ). Contains (kept_in (q ∷ pairs)) (kept_of o)) e (Contains-head (kept_of q) (kept_in pairs))
  | inr t ↦ Contains-tail (kept_of q) (kept_in pairs) (kept_of p) (into pairs p t)
]

out_of : (pairs : List (CutKey × Vec ℕ)) (k : KeptCut) → Contains (kept_in pairs) k → (p : CutKey × Vec ℕ) × Contains pairs p × (kept_of p ≡ k)
out_of [] k h = absurd (Contains-nil k h)
out_of (q ∷ pairs) k h = elim (Contains-cons (kept_of q) (kept_in pairs) k h) [
  | inl e ↦ (q, Contains-head q pairs, e)
  | inr t ↦ let more = out_of pairs k t in (more.0, Contains-tail q pairs more.0 more.1, more.2)
]

again : (pairs : List (CutKey × Vec ℕ)) (p : CutKey × Vec ℕ) (k : KeptCut) → Contains pairs p → kept_of p ≡ k → Contains (kept_in pairs) k
again pairs p k h e = subst (Contains (kept_in pairs)) e (into pairs p h)

pub kept_promoted : (test : CutKey → Bool) (pairs : List (CutKey × Vec ℕ)) → Within (Has (kept_in (promoted test pairs))) (Has (kept_in pairs))
kept_promoted test pairs n a b h =
    let p = out_of (promoted test pairs) (kept_cut n a b) h in
    again pairs p.0 (kept_cut n a b) (Contains-promoted test pairs p.0 p.1) p.2

pub found_cut : (key : CutKey) (pairs : List (CutKey × Vec ℕ)) (v : Vec ℕ) → lookup (same_key key) pairs ≡ Some v → Has (kept_in pairs) key.name.items (asked_of key) v.items
found_cut key pairs v e =
    let l = Contains-lookup (same_key key) pairs v e in
    again pairs (l.0, v) (kept_cut key.name.items (asked_of key) v.items) l.1 (same_cut key l.0 v.items l.2)

missing : (test : CutKey → Bool) (pairs : List (CutKey × Vec ℕ)) (p : CutKey × Vec ℕ) → lookup test pairs ≡ None → Contains pairs p → test p.0 ≡ true → ⊥
missing test [] p none h passes = Contains-nil p h
missing test (q ∷ pairs) p none h passes = elim (Contains-cons q pairs p h) [
  | inl same ↦ let first : test q.0 ≡ true = ap (λ (o : CutKey × Vec ℕ). test o.0) same ∙ passes in let clash = rw first at none in cc
  | inr more ↦ (elim (test q.0) as (λ t. test q.0 ≡ t → ⊥) [
    | true ↦ λ is. let clash = rw is at none in cc
    | false ↦ λ is. missing test pairs p (rw is at none) more passes
  ]) refl
]

same_of : (a b : CutKey) → b.name.items ≡ a.name.items → asked_of b ≡ asked_of a → same_key a b ≡ true
same_of a b name asked =
    let r : b.reduce ≡ a.reduce = ap (λ (q : View). q.reduce) asked in
    let x : b.x ≡ a.x = ap (λ (q : View). q.x) asked in
    let y : b.y ≡ a.y = ap (λ (q : View). q.y) asked in
    let w : b.width ≡ a.width = ap (λ (q : View). q.width) asked in
    let h : b.height ≡ a.height = ap (λ (q : View). q.height) asked in
    let l : b.layers ≡ a.layers = ap (λ (q : View). q.layers) asked in
    search (rules, bytes_eq-Decides)

pub never_kept : (key : CutKey) (pairs : List (CutKey × Vec ℕ)) → lookup (same_key key) pairs ≡ None → (b : List ℕ) → Has (kept_in pairs) key.name.items (asked_of key) b → ⊥
never_kept key pairs none b h =
    let p = out_of pairs (kept_cut key.name.items (asked_of key) b) h in
    missing (same_key key) pairs p.0 none p.1 (same_of key p.0.0 (ap (λ (k : KeptCut). k.name) p.2) (ap (λ (k : KeptCut). k.asked) p.2))

kept_put : (c : LruCache CutKey (Vec ℕ)) (key : CutKey) (v : Vec ℕ) (n : List ℕ) (a : View) (b : List ℕ)
    → Has (kept_in (put_entries same_key c key v)) n a b → Has (kept_in c.entries) n a b ⊎ (kept_cut n a b ≡ kept_cut key.name.items (asked_of key) v.items)
kept_put c key v n a b h =
    let p = out_of (put_entries same_key c key v) (kept_cut n a b) h in
    ⊎_elim
    (λ old. inl (again c.entries p.0 (kept_cut n a b) old p.2))
    (λ put. inr (
    sym p.2
    ∙ ap (λ (w : Vec ℕ). kept_cut p.0.0.name.items (asked_of p.0.0) w.items) put.0
    ∙ ⊎_elim (λ same. ap (λ (k : CutKey). kept_cut k.name.items (asked_of k) v.items) same) (λ old. same_cut key p.0.0 v.items old.2) put.1
    ))
    (Contains-put_entries same_key c key v p.0 p.1)

-- what is kept where a pair was put, or was refused
pub put_or_not : {A E : Type 0} (r : Result A E) (old new : LruCache CutKey (Vec ℕ)) (key : CutKey) (v : Vec ℕ)
    → OnOk r (new ≡ lru_cache (put_entries same_key old key v) old.cap) → OnErr r (new ≡ old)
    → (n : List ℕ) (a : View) (b : List ℕ) → Has (kept_in new.entries) n a b
    → Has (kept_in old.entries) n a b ⊎ (kept_cut n a b ≡ kept_cut key.name.items (asked_of key) v.items)
put_or_not (Ok o) old new key v put left n a b h = kept_put old key v n a b (subst (λ (c : LruCache CutKey (Vec ℕ)). Has (kept_in c.entries) n a b) put h)
put_or_not (Err e) old new key v put left n a b h = inl (subst (λ (c : LruCache CutKey (Vec ℕ)). Has (kept_in c.entries) n a b) left h)

-- what is had of one is had of the same
pub same_has : (pairs kept : List KeptCut) (m n : List ℕ) (p q : View) (b : List ℕ) → pairs ≡ kept → m ≡ n → p ≡ q → Has pairs m p b → Has kept n q b
same_has pairs kept m n p q b same name asked h =
    subst (λ (l : List KeptCut). Has l n q b) same (subst (λ (v : List ℕ). Has pairs v q b) name (subst (λ (a : View). Has pairs m a b) asked h))

-- A cut that was made is the image's, or isn't.
pub cut_or_made : (o : Option Image) (Made : Type 0) (asked : View) (cut : List ℕ) → Made → IsCutOf o asked cut ⊎ (Made × (IsCutOf o asked cut → ⊥))
cut_or_made None Made asked cut made = inr (made, λ none. none)
cut_or_made (Some i) Made asked cut made = of_cut (i.cut asked)
  where
    of_bytes : (b : List ℕ) (t : Bool) → bytes_eq b cut ≡ t → (Some b ≡ Some cut) ⊎ (Made × (Some b ≡ Some cut → ⊥))
    of_bytes b true e = inl (ap Some ((bytes_eq-Decides b cut).0 e))
    of_bytes b false e = inr (made, λ same. let bytes : b ≡ cut = cc in let is = (bytes_eq-Decides b cut).1 bytes in cc)

    of_cut : (c : Option (List ℕ)) → (c ≡ Some cut) ⊎ (Made × (c ≡ Some cut → ⊥))
    of_cut None = inr (made, λ same. cc)
    of_cut (Some b) = of_bytes b (bytes_eq b cut) refl
