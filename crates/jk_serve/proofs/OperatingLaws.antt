-- What grows at its end.
use Rattle.std.proofs.Common.{◌≡◌, ◌⊎◌, inl, inr, ℕ, List, [], ◌∷◌, ◌++◌, Result, Ok, Err, OnOk, OnErr, refl, ap, sym, ◌∙◌, subst}
use Rattle.std.specs.String.{string_bytes}
use mathlib.Core.List.{IsPrefix}
use Rattle.jk_store.specs.declared.archive.Archive.{Archive}
use Rattle.jk_store.specs.declared.entry.Entry.{Entry}
use Rattle.jk_hall.specs.declared.writer.Writer.{Writer}
use Rattle.jk_hall.specs.Writing.{list, waits, hall_of}
use Rattle.jk_serve.specs.Operating.{entries_of, IsAdded, IsRefused, Grows}

prefix_self : {A : Type 0} (xs : List A) → IsPrefix xs xs
prefix_self [] = ([], refl)
prefix_self (x ∷ xs) = (let r = prefix_self xs in r.0, ap (λ ys. x ∷ ys) (prefix_self xs).1)

prefix_same : {A : Type 0} (xs ys : List A) → ys ≡ xs → IsPrefix xs ys
prefix_same xs ys e = subst (λ zs. IsPrefix xs zs) (sym e) (prefix_self xs)

prefix_more : {A : Type 0} (xs ys more : List A) → ys ≡ xs ++ more → IsPrefix xs ys
prefix_more xs ys more e = (more, sym e)

still : {S : Type 0} (a b : Archive S) (u v : Writer) (e : Entry) → entries_of b ≡ entries_of a ++ e ∷ [] → (waits v ≡ waits u) ⊎ (waits v ≡ waits u ++ e ∷ [])
    → (waits v ≡ waits u) ⊎ ((entry : Entry) × (waits v ≡ waits u ++ entry ∷ []) × (entries_of b ≡ entries_of a ++ entry ∷ []))
still a b u v e more (inl same) = inl same
still a b u v e more (inr behind) = inr (e, behind, more)

-- What adding an entry comes to, by what its publishing answers.
module _ {S A E : Type 0} (a b : Archive S) (u v : Writer) (e : Entry) where
  pub added : (name : List ℕ) (r : Result A E) → string_bytes e.name ≡ name → entries_of b ≡ entries_of a ++ e ∷ []
      → OnOk r (list v ≡ list u ++ (waits u ++ e ∷ [])) → OnOk r (waits v ≡ []) → OnOk r (IsAdded name a b u v)
  added name (Ok x) named more shown none = record { entry = e; named = named; added = more; published = shown; none_waits = none }
  added name (Err x) named more shown none = tt

  pub refused : (r : Result A E) → entries_of b ≡ entries_of a ++ e ∷ [] → OnErr r (list v ≡ list u)
      → OnErr r ((waits v ≡ waits u) ⊎ (waits v ≡ waits u ++ e ∷ [])) → OnErr r (IsRefused a b u v)
  refused (Ok x) more shown waiting = tt
  refused (Err x) more shown waiting = record { published = shown; added = inr (e, more); waiting = still a b u v e more waiting }

  pub grown : (r : Result A E) → entries_of b ≡ entries_of a ++ e ∷ [] → OnOk r (list v ≡ list u ++ (waits u ++ e ∷ []))
      → OnErr r (list v ≡ list u) → hall_of v ≡ hall_of u → Grows a b u v
  grown (Ok x) more shown none hall = record {
    listed = prefix_more (entries_of a) (entries_of b) (e ∷ []) more;
    published = prefix_more (list u) (list v) (waits u ++ e ∷ []) shown;
    same_hall = hall;
  }
  grown (Err x) more none shown hall = record {
    listed = prefix_more (entries_of a) (entries_of b) (e ∷ []) more;
    published = prefix_same (list u) (list v) shown;
    same_hall = hall;
  }

-- what was put behind entries stands behind those that they were before
pub behind : {S : Type 0} (a m b : Archive S) (e : Entry) → entries_of m ≡ entries_of a → entries_of b ≡ entries_of m ++ e ∷ [] → entries_of b ≡ entries_of a ++ e ∷ []
behind a m b e same more = more ∙ ap (λ l. l ++ e ∷ []) same

pub grows_still : {S : Type 0} (a b : Archive S) (w : Writer) → entries_of b ≡ entries_of a → Grows a b w w
grows_still a b w same = record {
  listed = prefix_same (entries_of a) (entries_of b) same;
  published = prefix_self (list w);
  same_hall = refl;
}

-- Behind a look that left the entries the same: what was listed and what waits.
module _ {S : Type 0} (a m b : Archive S) (w v : Writer) (same : entries_of m ≡ entries_of a) where
  more_behind : (entries_of b ≡ entries_of m) ⊎ ((entry : Entry) × (entries_of b ≡ entries_of m ++ entry ∷ []))
      → (entries_of b ≡ entries_of a) ⊎ ((entry : Entry) × (entries_of b ≡ entries_of a ++ entry ∷ []))
  more_behind (inl none) = inl (none ∙ same)
  more_behind (inr one) = inr (one.0, behind a m b one.0 same one.1)

  wait_behind : (waits v ≡ waits w) ⊎ ((entry : Entry) × (waits v ≡ waits w ++ entry ∷ []) × (entries_of b ≡ entries_of m ++ entry ∷ []))
      → (waits v ≡ waits w) ⊎ ((entry : Entry) × (waits v ≡ waits w ++ entry ∷ []) × (entries_of b ≡ entries_of a ++ entry ∷ []))
  wait_behind (inl none) = inl none
  wait_behind (inr one) = inr (one.0, one.1, behind a m b one.0 same one.2)

-- What comes to an archive and to what is published behind such a look.
module _ {S A E : Type 0} (a m b : Archive S) (u w v : Writer) (same : entries_of m ≡ entries_of a) (there : w ≡ u) where
  pub added_behind : (name : List ℕ) (r : Result A E) → OnOk r (IsAdded name m b w v) → OnOk r (IsAdded name a b u v)
  added_behind name (Ok x) is = subst (λ t. IsAdded name a b t v) there
      (record { entry = is.entry; named = is.named; added = behind a m b is.entry same is.added; published = is.published; none_waits = is.none_waits })
  added_behind name (Err x) is = tt

  pub refused_behind : (r : Result A E) → OnErr r (IsRefused m b w v) → OnErr r (IsRefused a b u v)
  refused_behind (Ok x) is = tt
  refused_behind (Err x) is = subst (λ t. IsRefused a b t v) there
      (record { published = is.published; added = more_behind a m b w v same is.added; waiting = wait_behind a m b w v same is.waiting })

-- the same writer, by another name
pub grows_there : {S : Type 0} (a b : Archive S) (u w : Writer) → entries_of b ≡ entries_of a → w ≡ u → Grows a b u w
grows_there a b u w same there = subst (λ t. Grows a b u t) (sym there) (grows_still a b u same)
