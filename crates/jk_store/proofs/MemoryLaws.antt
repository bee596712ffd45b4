-- Shelves in memory: what is held after a file was put or taken.
use Rattle.std.proofs.Common.{◌≡◌, ℕ, List, [], ◌∷◌, map, Bool, true, false, ◌||◌, cond, Option, Some, None, inl, inr, refl, sym, ap, ◌∙◌}
use Rattle.std.specs.Option.{option_map, is_some}
use Rattle.std.specs.Ordering.{nat_cmp}
use Rattle.std.specs.Cmp.Lexicographic.{slice_cmp}
use Rattle.std.specs.Str.{bytes_eq}
use Rattle.std.specs.String.{string_bytes, string_cmp}
use Rattle.std.specs.declared.string.String.{String}
use Rattle.std.specs.BTreeMap.{BTreeMap, UpdatesBy, get_by_text}
use Rattle.std.specs.Map.{keys_of, lookup}
use Rattle.std.specs.BTreeMap.{is_at}
use Rattle.std.proofs.lemmas.Map.Text.{btree_map_updates_text, is_eq-slice_cmp}
use Rattle.std.proofs.lemmas.Bool.{cases_Bool}
use Rattle.std.proofs.lemmas.Slice.Eq.{bytes_eq-Decides}
use Rattle.jk_store.specs.Files.{Files, with_file, is_among}

option_under : {A B : Type 0} (f : A → B) (b : Bool) (v w : Option A) → option_map f (cond b v w) ≡ cond b (option_map f v) (option_map f w)
option_under f true v w = refl
option_under f false v w = refl

-- after a map has w at k, what is seen of it by f
pub seen_instead : {Y X : Type 0} (f : X → List ℕ) (n k : List ℕ) (old new : BTreeMap (String Y) X) (w : Option X) → k ≡ n
    → UpdatesBy string_cmp (λ q. slice_cmp nat_cmp k (string_bytes q)) old new w
    → (m : List ℕ) → option_map f (get_by_text new m) ≡ cond (bytes_eq n m) (option_map f w) (option_map f (get_by_text old m))
seen_instead f n k old new w same updates m =
    ap (option_map f) (btree_map_updates_text k old new w updates m)
    ∙ option_under f (bytes_eq k m) w (get_by_text old m)
    ∙ ap (λ q. cond (bytes_eq q m) (option_map f w) (option_map f (get_by_text old m))) same

some_or : {X : Type 0} (b : Bool) (x : X) (o : Option X) → is_some (cond b (Some x) o) ≡ (b || is_some o)
some_or true x o = refl
some_or false x o = refl

some_under : {A B : Type 0} (f : A → B) (o : Option A) → is_some (option_map f o) ≡ is_some o
some_under f (Some x) = refl
some_under f None = refl

found_key : {Y X : Type 0} (n : List ℕ) (es : List (String Y × X)) → is_among n (map string_bytes (keys_of es)) ≡ is_some (lookup (is_at (λ k. slice_cmp nat_cmp n (string_bytes k))) es)
found_key n [] = refl
found_key n (e ∷ es) = rw (found_key n es, ← is_eq-slice_cmp n (string_bytes e.0), some_or (is_at (λ k. slice_cmp nat_cmp n (string_bytes k)) e.0) e.1) refl

-- the names of a map are those that have something, whatever is seen of it by f
pub listed_has : {Y X : Type 0} (f : X → List ℕ) (n : List ℕ) (m : BTreeMap (String Y) X) → is_among n (map string_bytes (keys_of m.entries)) ≡ is_some (option_map f (get_by_text m n))
listed_has f n m = found_key n m.entries ∙ sym (some_under f (get_by_text m n))

some_of : {X : Type 0} (o : Option X) → is_some o ≡ true → (x : X) × (o ≡ Some x)
some_of (Some x) h = (x, refl)
some_of None h = absurd (let clash : false ≡ true = h in cc)

kept_with : (hold files : Files) (n x : List ℕ) → hold n ≡ Some x → ((m b : List ℕ) → files m ≡ Some b → hold m ≡ Some b)
    → (m b : List ℕ) → with_file n x files m ≡ Some b → hold m ≡ Some b
kept_with hold files n x here kept m b is = elim (cases_Bool (bytes_eq n m)) [
  | inl same ↦ ap hold (sym ((bytes_eq-Decides n m).0 same)) ∙ (here ∙ rw same at is)
  | inr other ↦ kept m b (rw other at is)
]

-- where these are the names of a map, each file that is kept has one of them
pub kept_listed : {Y X : Type 0} (f : X → List ℕ) (m : BTreeMap (String Y) X) (names : List (List ℕ)) (n b : List ℕ) → names ≡ map string_bytes (keys_of m.entries)
    → option_map f (get_by_text m n) ≡ Some b → is_among n names ≡ true
kept_listed f m names n b all is = ap (is_among n) all ∙ (listed_has f n m ∙ ap is_some is)

-- and each of them has a file
pub listed_kept : {Y X : Type 0} (f : X → List ℕ) (m : BTreeMap (String Y) X) (names : List (List ℕ)) (n : List ℕ) (files : Files) → names ≡ map string_bytes (keys_of m.entries)
    → ((k b : List ℕ) → files k ≡ Some b → option_map f (get_by_text m k) ≡ Some b) → is_among n names ≡ true
    → (x : List ℕ) × ((k b : List ℕ) → with_file n x files k ≡ Some b → option_map f (get_by_text m k) ≡ Some b)
listed_kept f m names n files all kept among =
    let there = some_of (option_map f (get_by_text m n)) (sym (listed_has f n m) ∙ (ap (is_among n) (sym all) ∙ among)) in
    (there.0, kept_with (λ k. option_map f (get_by_text m k)) files n there.0 there.1 kept)
