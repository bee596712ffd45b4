-- Lists of digests, line by line, and what differs between two, name by name.
use Rattle.std.proofs.Common.{◌≡◌, ◌≢◌, ℕ, ◌+◌, ◌<◌, Bool, true, false, ◌||◌, cond, List, [], ◌∷◌, ◌++◌, map, length, get_or, All, Bor, Option, Some, None, Result, Ok, Err, IfOk, inl, inr, refl, sym, ap, subst, ◌∙◌, drop, drop-cons, add-one, suc}
use Rattle.std.specs.Option.{is_some, option_map, option_copied}
use Rattle.std.specs.Result.{result_ok}
use Rattle.std.specs.Global.{Vec}
use Rattle.jk_math.specs.declared.fault.Fault.{Fault}
use Rattle.std.specs.List.{AllByRecursion, filter_map, cons_option, list_any}
use Rattle.std.proofs.lemmas.List.Elements.{filter_map-append}
use Rattle.std.proofs.lemmas.List.{get_or_default}
use Rattle.std.specs.Str.{bytes_eq}
use Rattle.std.specs.String.{string_bytes, string_cmp}
use Rattle.std.specs.declared.string.String.{String}
use Rattle.std.specs.declared.cmp.Ordering.TheVariants.{Less}
use Rattle.std.specs.BTreeSet.{BTreeSet, keys, contains_text}
use Rattle.std.specs.BTreeMap.{is_at}
use Rattle.std.specs.List.Sorted.{IsStrictlySortedBy}
use Rattle.std.specs.Ordering.{nat_cmp}
use Rattle.std.specs.Cmp.Lexicographic.{slice_cmp}
use Rattle.std.proofs.lemmas.Bool.{cases_Bool}
use Rattle.std.proofs.lemmas.Slice.Eq.{bytes_eq-Decides}
use Rattle.std.proofs.lemmas.Map.Text.{is_eq-slice_cmp}
use Rattle.jk_commands.specs.declared.sums.Sum.{Sum}
use Rattle.jk_commands.specs.declared.comparing.Change.{Change}
use Rattle.jk_commands.specs.declared.comparing.Difference.{Difference}
use Rattle.jk_commands.specs.Sums.{or_else, digest_of, told, told_of, pair_of, change_of, AreDifferences}

-- a text without a line's end is one line
pub one_line : (xs : List ℕ) → ((i : ℕ) → i < length xs → get_or xs i 0 ≢ 10) → All (λ b. b ≢ 10) xs
one_line xs h k d small e = h k small (get_or_default xs k 0 d small ∙ e)

-- an answer that is kept was a value
pub ok_some : {A E : Type 0} (r : Result A E) (x : A) → result_ok r ≡ Some x → r ≡ Ok x
ok_some (Ok y) x h = ap Ok (let same : y ≡ x = cc in same)
ok_some (Err e) x h = absurd (let clash = h in cc)

-- what is said later counts
pub later : {A : Type 0} (o : Option A) (b : Bool) (d : A) (m : Option A) → or_else (or_else o (cond b (Some d) None)) m ≡ or_else o (cond b (Some d) m)
later (Some x) b d m = refl
later None true d m = refl
later None false d m = refl

pub or_none : {A : Type 0} (o : Option A) → or_else o None ≡ o
or_none (Some x) = refl
or_none None = refl

pub some_later : {A : Type 0} (o : Option A) (b : Bool) (d : A) (m : Bool) → (is_some (or_else o (cond b (Some d) None)) || m) ≡ (is_some o || cond b true m)
some_later (Some x) b d m = refl
some_later None true d m = refl
some_later None false d m = refl

-- the list from a place on, with what stands there
pub from_place : {A : Type 0} (xs : List A) (i : ℕ) (x : A) → i < length xs → x ≡ get_or xs i x → drop i xs ≡ x ∷ drop (i + 1) xs
from_place xs i x lt is = rw (add-one i) (drop-cons xs i x lt ∙ ap (λ y. y ∷ drop (suc i) xs) (sym is))

pub digest_more : (sums : List Sum) (i : ℕ) (s : Sum) (n : List ℕ) (old new due : Option (List ℕ)) → i < length sums → s ≡ get_or sums i s
    → new ≡ cond (bytes_eq (string_bytes s.name) n) (Some s.digest) old → or_else (digest_of (drop i sums) n) old ≡ due
    → or_else (digest_of (drop (i + 1) sums) n) new ≡ due
digest_more sums i s n old new due lt is step before =
    ap (or_else (digest_of (drop (i + 1) sums) n)) step
    ∙ (sym (later (digest_of (drop (i + 1) sums) n) (bytes_eq (string_bytes s.name) n) s.digest old)
    ∙ (sym (ap (λ l. or_else (digest_of l n) old) (from_place sums i s lt is)) ∙ before))

pub name_more : (sums : List Sum) (i : ℕ) (s : Sum) (n : List ℕ) (old new due : Bool) → i < length sums → s ≡ get_or sums i s
    → new ≡ cond (bytes_eq (string_bytes s.name) n) true old → (is_some (digest_of (drop i sums) n) || old) ≡ due
    → (is_some (digest_of (drop (i + 1) sums) n) || new) ≡ due
name_more sums i s n old new due lt is step before =
    ap (λ b. is_some (digest_of (drop (i + 1) sums) n) || b) step
    ∙ (sym (some_later (digest_of (drop (i + 1) sums) n) (bytes_eq (string_bytes s.name) n) s.digest old)
    ∙ (sym (ap (λ l. is_some (digest_of l n) || old) (from_place sums i s lt is)) ∙ before))

-- ---- a list of pairs, by name

told_in : List (List ℕ × Change) → List ℕ → Option Change
told_in [] n = None
told_in (p ∷ pairs) n = cond (bytes_eq p.0 n) (Some p.1) (told_in pairs n)

told_pairs : (differences : List Difference) (n : List ℕ) → told differences n ≡ told_in (map pair_of differences) n
unfolding told_in
told_pairs [] n = refl
told_pairs (d ∷ differences) n = ap (cond (bytes_eq (string_bytes d.name) n) (Some d.change)) (told_pairs differences n)

none_of : (pairs : List (List ℕ × Change)) (f : List ℕ → Option Change) (m n : List ℕ) (b : Bool) → bytes_eq m n ≡ b → (o : Option Change) → f m ≡ o
    → told_in (cons_option (option_map (λ c. (m, c)) o) pairs) n ≡ cond b (or_else o (told_in pairs n)) (told_in pairs n)
unfolding told_in
none_of pairs f m n b is None due = none b where
  none : (b : Bool) → told_in pairs n ≡ cond b (told_in pairs n) (told_in pairs n)
  none true = refl
  none false = refl
none_of pairs f m n b is (Some c) due = ap (λ q. cond q (Some c) (told_in pairs n)) is

not_back : (m n : List ℕ) → bytes_eq m n ≡ false → bytes_eq n m ≡ false
not_back m n other = elim (cases_Bool (bytes_eq n m)) [
  | inl same ↦ absurd (let clash : bytes_eq m n ≡ true = (bytes_eq-Decides m n).1 (sym ((bytes_eq-Decides n m).0 same)) in cc)
  | inr apart ↦ apart
]

-- of the names that are gone through each is told what is to be told of it
told_all : (f : List ℕ → Option Change) (names : List (List ℕ)) (n : List ℕ) → told_in (filter_map (told_of f) names) n ≡ cond (list_any (bytes_eq n) names) (f n) None
unfolding told_in
told_all f [] n = refl
told_all f (m ∷ names) n = elim (cases_Bool (bytes_eq m n)) [
  | inl same ↦
      (let is : m ≡ n = (bytes_eq-Decides m n).0 same in
      let here : bytes_eq n m ≡ true = (bytes_eq-Decides n m).1 (sym is) in
      let rest = told_all f names n in
      none_of (filter_map (told_of f) names) f m n true same (f m) refl
      ∙ (ap (λ o. or_else (f m) o) rest ∙ (ap (λ x. or_else (f x) (cond (list_any (bytes_eq n) names) (f n) None)) is
      ∙ (twice (f n) (list_any (bytes_eq n) names) ∙ sym (ap (λ b. cond (b || list_any (bytes_eq n) names) (f n) None) here)))))
  | inr other ↦
      (let apart : bytes_eq n m ≡ false = not_back m n other in
      none_of (filter_map (told_of f) names) f m n false other (f m) refl
      ∙ (told_all f names n ∙ sym (ap (λ b. cond (b || list_any (bytes_eq n) names) (f n) None) apart)))
] where
  twice : (o : Option Change) (b : Bool) → or_else o (cond b o None) ≡ o
  twice (Some c) b = refl
  twice None true = refl
  twice None false = refl

-- where no list has a name nothing is told of it
nothing : (b : Bool) (x y : Option (List ℕ)) → b ≡ (is_some y || (is_some x || false)) → cond b (change_of x y) None ≡ change_of x y
nothing true x y h = refl
nothing false None None h = refl
nothing false (Some x) None h = absurd (let clash = h in cc)
nothing false None (Some y) h = absurd (let clash = h in cc)
nothing false (Some x) (Some y) h = absurd (let clash = h in cc)

-- ---- the order of names

all_bytes : {Y : Type 0} (P : List ℕ → Type 0) (ks : List (String Y)) → AllByRecursion (λ k. P (string_bytes k)) ks → AllByRecursion P (map string_bytes ks)
all_bytes P [] h = tt
all_bytes P (k ∷ ks) h = (h.0, all_bytes P ks h.1)

pub sorted_bytes : {Y : Type 0} (ks : List (String Y)) → IsStrictlySortedBy string_cmp ks → IsStrictlySortedBy (slice_cmp nat_cmp) (map string_bytes ks)
unfolding IsStrictlySortedBy
sorted_bytes [] h = tt
sorted_bytes (k ∷ ks) h = (all_bytes (λ y. slice_cmp nat_cmp (string_bytes k) y ≡ Less) ks h.0, sorted_bytes ks h.1)

any_key : {Y : Type 0} (n : List ℕ) (ks : List (String Y)) → list_any (bytes_eq n) (map string_bytes ks) ≡ list_any (is_at (λ k. slice_cmp nat_cmp n (string_bytes k))) ks
any_key n [] = refl
any_key n (k ∷ ks) = rw (← is_eq-slice_cmp n (string_bytes k), any_key n ks) refl

names_in : List (List ℕ × Change) → List (List ℕ)
names_in pairs = map (λ (p : List ℕ × Change). p.0) pairs

all_on : (P : List ℕ → Type 0) (n : List ℕ) (pairs : List (List ℕ × Change)) (o : Option Change) → P n → AllByRecursion P (names_in pairs)
    → AllByRecursion P (names_in (cons_option (option_map (λ c. (n, c)) o) pairs))
unfolding names_in
all_on P n pairs None p h = h
all_on P n pairs (Some c) p h = (p, h)

all_told : (P : List ℕ → Type 0) (f : List ℕ → Option Change) (names : List (List ℕ)) → AllByRecursion P names → AllByRecursion P (names_in (filter_map (told_of f) names))
unfolding names_in
all_told P f [] h = tt
all_told P f (n ∷ names) h = all_on P n (filter_map (told_of f) names) (f n) h.0 (all_told P f names h.1)

sorted_on : (n : List ℕ) (pairs : List (List ℕ × Change)) (o : Option Change) → AllByRecursion (λ y. slice_cmp nat_cmp n y ≡ Less) (names_in pairs)
    → IsStrictlySortedBy (slice_cmp nat_cmp) (names_in pairs) → IsStrictlySortedBy (slice_cmp nat_cmp) (names_in (cons_option (option_map (λ c. (n, c)) o) pairs))
unfolding IsStrictlySortedBy names_in
sorted_on n pairs None first h = h
sorted_on n pairs (Some c) first h = (first, h)

told_sorted : (f : List ℕ → Option Change) (names : List (List ℕ)) → IsStrictlySortedBy (slice_cmp nat_cmp) names → IsStrictlySortedBy (slice_cmp nat_cmp) (names_in (filter_map (told_of f) names))
unfolding IsStrictlySortedBy names_in
told_sorted f [] h = tt
told_sorted f (n ∷ names) h = sorted_on n (filter_map (told_of f) names) (f n) (all_told (λ y. slice_cmp nat_cmp n y ≡ Less) f names h.0) (told_sorted f names h.1)

-- ---- what differs between two lists

same_names : (differences : List Difference) → map (λ (d : Difference). string_bytes d.name) differences ≡ names_in (map pair_of differences)
unfolding names_in
same_names [] = refl
same_names (d ∷ differences) = ap (λ l. string_bytes d.name ∷ l) (same_names differences)

pub are_differences : {Y : Type 0} (before now : List Sum) (names : BTreeSet (String Y)) (earlier present : List ℕ → Option (List ℕ)) (differences : List Difference)
    → ((n : List ℕ) → earlier n ≡ digest_of before n) → ((n : List ℕ) → present n ≡ digest_of now n)
    → ((n : List ℕ) → contains_text names n ≡ (is_some (digest_of now n) || (is_some (digest_of before n) || false)))
    → IsStrictlySortedBy (slice_cmp nat_cmp) (map string_bytes (keys names))
    → map pair_of differences ≡ filter_map (told_of (λ n. change_of (earlier n) (present n))) (map string_bytes (keys names))
    → AreDifferences before now differences
are_differences before now names earlier present differences first second all ordered is =
    let f : List ℕ → Option Change = λ n. change_of (earlier n) (present n) in
    record {
      each = λ n.
          let among : list_any (bytes_eq n) (map string_bytes (keys names)) ≡ contains_text names n = any_key n names.keys in
          told_pairs differences n
          ∙ (ap (λ l. told_in l n) is ∙ (told_all f (map string_bytes (keys names)) n
          ∙ (nothing (list_any (bytes_eq n) (map string_bytes (keys names))) (earlier n) (present n)
          (among ∙ (all n ∙ (ap (λ o. is_some o || (is_some (digest_of before n) || false)) (sym (second n)) ∙ ap (λ o. is_some (present n) || (is_some o || false)) (sym (first n)))))
          ∙ (ap (λ o. change_of o (present n)) (first n) ∙ ap (change_of (digest_of before n)) (second n)))));
      ordered = subst (IsStrictlySortedBy (slice_cmp nat_cmp)) (sym (same_names differences ∙ ap names_in is)) (told_sorted f (map string_bytes (keys names)) ordered);
    }

-- what is told of a file, by what two lists have of it
pub changes : (earlier present : Option (Bor (List ℕ))) (old new : Option (List ℕ)) → option_copied earlier ≡ old → option_copied present ≡ new
    → change_of (option_map (λ (b : Bor (List ℕ)). b.now) earlier) (option_map (λ (b : Bor (List ℕ)). b.now) present) ≡ change_of old new
changes earlier present old new first second = rw (← first, ← second) (both earlier present) where
  both : (a b : Option (Bor (List ℕ))) → change_of (option_map (λ (x : Bor (List ℕ)). x.now) a) (option_map (λ (x : Bor (List ℕ)). x.now) b) ≡ change_of (option_copied a) (option_copied b)
  both None None = refl
  both None (Some b) = refl
  both (Some a) None = refl
  both (Some a) (Some b) = refl

-- one name more
pub told_more : (f : List ℕ → Option Change) (front : List (List ℕ)) (n : List ℕ)
    → filter_map (told_of f) (front ++ n ∷ []) ≡ filter_map (told_of f) front ++ cons_option (told_of f n) []
told_more f front n = filter_map-append (told_of f) front (n ∷ [])

pub differences_are : {Y : Type 0} (before now : List Sum) (names : BTreeSet (String Y)) (earlier present : List ℕ → Option (List ℕ)) (r : Result (Vec Difference) Fault)
    → ((n : List ℕ) → earlier n ≡ digest_of before n) → ((n : List ℕ) → present n ≡ digest_of now n)
    → ((n : List ℕ) → contains_text names n ≡ (is_some (digest_of now n) || (is_some (digest_of before n) || false)))
    → IsStrictlySortedBy (slice_cmp nat_cmp) (map string_bytes (keys names))
    → IfOk r (λ v. map pair_of v.items ≡ filter_map (told_of (λ n. change_of (earlier n) (present n))) (map string_bytes (keys names)))
    → IfOk r (λ v. AreDifferences before now v.items)
differences_are before now names earlier present (Ok v) first second all ordered is = are_differences before now names earlier present v.items first second all ordered is
differences_are before now names earlier present (Err e) first second all ordered is = tt

-- a set without names has none
pub no_name : {Y : Type 0} (names : BTreeSet (String Y)) (n : List ℕ) → names.keys ≡ [] → contains_text names n ≡ false
no_name names n none = ap (λ ks. list_any (is_at (λ k. slice_cmp nat_cmp n (string_bytes k))) ks) none
