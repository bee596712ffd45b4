-- What is made of the files of a shelf: one more of them, the names of the entries, and that what the shelf keeps is found.
use Rattle.std.proofs.Common.{◌≡◌, ℕ, ◌+◌, ◌≤◌, Bool, true, false, ◌&&◌, ◌||◌, List, [], ◌∷◌, ◌++◌, map, length, Some, Result, Ok, Err, IfErr, inl, inr, refl, sym, ap, ◌∙◌, subst, arith, length-append, append_assoc}
use Rattle.std.specs.Str.{bytes_eq}
use Rattle.std.specs.Result.{IsErrAnd}
use Rattle.std.specs.String.{string_bytes, string_cmp}
use Rattle.std.specs.BTreeSet.{BTreeSet, keys, contains_text}
use Rattle.std.specs.BTreeMap.{is_at}
use Rattle.std.specs.declared.string.String.{String}
use Rattle.std.specs.declared.cmp.Ordering.TheVariants.{Less}
use Rattle.std.specs.List.{list_any, AllByRecursion}
use Rattle.std.specs.List.Sorted.{IsStrictlySortedBy}
use Rattle.std.specs.Ordering.{nat_cmp, is_eq}
use Rattle.std.specs.Cmp.Lexicographic.{slice_cmp}
use Rattle.std.proofs.lemmas.Bool.{cases_Bool}
use Rattle.std.proofs.lemmas.Slice.Eq.{bytes_eq-Decides}
use Rattle.std.proofs.lemmas.Map.Keys.{sorted_head, sorted_tail}
use Rattle.std.proofs.lemmas.Map.Text.{is_eq-slice_cmp}
use Rattle.jk_math.specs.declared.fault.Fault.{Fault}
use Rattle.jk_window.specs.Indexing.{IndexFields}
use Rattle.jk_store.specs.declared.entry.Entry.{Entry}
use Rattle.jk_store.specs.declared.skipped.Skipped.{Skipped}
use Rattle.jk_store.specs.Files.{Files, with_file, AreIn, is_among}
use Rattle.jk_store.specs.Names.{is_good_name, is_file_of, is_image, file_name}
use Rattle.jk_store.specs.Catalogue.{StandsFor, StandIn, stored, image_at, is_listed, are_named, entry_of, most_entries}
use Rattle.jk_store.specs.Opening.{IsSkippedOf, GivesFile, Opened, Enters, ReadsPast, ReadsUpTo, AreNamesIn}
use Rattle.jk_store.proofs.AddLaws.{at_front, neither, differs}

-- what a read gives, by the name
pub gives : {S : Type 0} (keeps : S → Files → Type 0) (gave : S → List ℕ → List ℕ → S → Type 0) (old new : S) (m n bytes : List ℕ) → m ≡ n → gave old m bytes new
    → ((files : Files) (b : List ℕ) → keeps old files → files m ≡ Some b → bytes ≡ b) → ((files : Files) → keeps old files → keeps new files)
    → ((files : Files) → keeps old files → keeps new (with_file m bytes files)) → GivesFile keeps gave old n bytes new
gives keeps gave old new m n bytes is given same kept held = subst (λ x. GivesFile keeps gave old x bytes new) is (record { given = given; same = same; kept = kept; held = held })

-- ---- one file more

module _ {S : Type 0} (gave : S → List ℕ → List ℕ → S → Type 0) (n bytes : List ℕ) (mid new : S) (given : gave mid (file_name n) bytes new) where
  pub listed_more : (e : Entry) → StandsFor e (stored n bytes) → (names : List (List ℕ)) (first : S) (entries : List Entry) (skipped : List Skipped)
      → Opened gave names first entries skipped mid → Opened gave (names ++ n ∷ []) first (entries ++ e ∷ []) skipped new
  listed_more e is [] first entries skipped h =
      (bytes, new, subst (λ s. gave s (file_name n) bytes new) h.2 given, inl (e, [], is, ap (λ l. l ++ e ∷ []) h.0, (refl, h.1, refl)))
  listed_more e is (m ∷ names) first entries skipped h = (
    h.0,
    h.1,
    h.2,
    elim h.3 [
      | inl l ↦ inl (l.0, l.1 ++ e ∷ [], l.2, ap (λ q. q ++ e ∷ []) l.3, listed_more e is names h.1 l.1 skipped l.4)
      | inr l ↦ inr (l.0, l.1, l.2, l.3, listed_more e is names h.1 entries l.1 l.4)
    ],
  )

  pub skipped_more : (k : Skipped) → IsSkippedOf n bytes k → (names : List (List ℕ)) (first : S) (entries : List Entry) (skipped : List Skipped)
      → Opened gave names first entries skipped mid → Opened gave (names ++ n ∷ []) first entries (skipped ++ k ∷ []) new
  skipped_more k is [] first entries skipped h =
      (bytes, new, subst (λ s. gave s (file_name n) bytes new) h.2 given, inr (k, [], is, ap (λ l. l ++ k ∷ []) h.1, (h.0, refl, refl)))
  skipped_more k is (m ∷ names) first entries skipped h = (
    h.0,
    h.1,
    h.2,
    elim h.3 [
      | inl l ↦ inl (l.0, l.1, l.2, l.3, skipped_more k is names h.1 l.1 skipped l.4)
      | inr l ↦ inr (l.0, l.1 ++ k ∷ [], l.2, ap (λ q. q ++ k ∷ []) l.3, skipped_more k is names h.1 entries l.1 l.4)
    ],
  )

  pub opened_more : (names : List (List ℕ)) (first : S) (entries longer : List Entry) (skipped passed : List Skipped)
      → Opened gave names first entries skipped mid → Enters n bytes entries longer skipped passed → Opened gave (names ++ n ∷ []) first longer passed new
  opened_more names first entries longer skipped passed h enters = elim enters [
    | inl l ↦ subst (λ es. Opened gave (names ++ n ∷ []) first es passed new) (sym l.2)
        (subst (λ ks. Opened gave (names ++ n ∷ []) first (entries ++ l.0 ∷ []) ks new) (sym l.3) (listed_more l.0 l.1 names first entries skipped h))
    | inr l ↦ subst (λ es. Opened gave (names ++ n ∷ []) first es passed new) (sym l.3)
        (subst (λ ks. Opened gave (names ++ n ∷ []) first entries ks new) (sym l.2) (skipped_more l.0 l.1 names first entries skipped h))
  ]

  -- the files so far have as many images as there may be, and here is another
  pub past : (all front rest : List (List ℕ)) (first : S) (entries : List Entry) (skipped : List Skipped) (e : Entry)
      → all ≡ front ++ n ∷ rest → Opened gave front first entries skipped mid → most_entries ≤ length entries → StandsFor e (stored n bytes) → ReadsPast gave all first
  past all front rest first entries skipped e split h many is =
      let long : length (entries ++ e ∷ []) ≡ length entries + 1 = length-append entries (e ∷ []) in
      (front ++ n ∷ [], rest, entries ++ e ∷ [], skipped, new, split ∙ sym (append_assoc front (n ∷ []) rest), listed_more e is front first entries skipped h, omega (arith, long, many))

-- what holds of each read
pub opened_as : {S : Type 0} (gave seen : S → List ℕ → List ℕ → S → Type 0) → ((s : S) (n b : List ℕ) (t : S) → gave s n b t → seen s n b t)
    → (names : List (List ℕ)) (old : S) (entries : List Entry) (skipped : List Skipped) (new : S) → Opened gave names old entries skipped new → Opened seen names old entries skipped new
opened_as gave seen f [] old entries skipped new h = h
opened_as gave seen f (n ∷ names) old entries skipped new h = (
  h.0,
  h.1,
  f old (file_name n) h.0 h.1 h.2,
  elim h.3 [
    | inl l ↦ inl (l.0, l.1, l.2, l.3, opened_as gave seen f names h.1 l.1 skipped new l.4)
    | inr l ↦ inr (l.0, l.1, l.2, l.3, opened_as gave seen f names h.1 entries l.1 new l.4)
  ],
)

-- ---- names of the entries

-- a name that no file has no entry has
pub unlisted : {S : Type 0} (gave : S → List ℕ → List ℕ → S → Type 0) (m : List ℕ) (names : List (List ℕ)) (old : S) (entries : List Entry) (skipped : List Skipped) (new : S)
    → Opened gave names old entries skipped new → is_among m names ≡ false → is_listed entries m ≡ false
unlisted gave m [] old entries skipped new h none = ap (λ es. is_listed es m) h.0
unlisted gave m (n ∷ names) old entries skipped new h none =
    let parts = neither (bytes_eq m n) (is_among m names) none in
    elim h.3 [
      | inl l ↦
          (let other : bytes_eq (string_bytes l.0.name) m ≡ false = subst (λ x. bytes_eq x m ≡ false) (sym l.2.name) (differs m n parts.0) in
          ap (λ es. is_listed es m) l.3 ∙ rw (other, unlisted gave m names h.1 l.1 skipped new l.4 parts.1) refl)
      | inr l ↦ unlisted gave m names h.1 entries l.1 new l.4 parts.1
    ]

-- a name before others isn't among them
before_all : (n : List ℕ) (names : List (List ℕ)) → AllByRecursion (λ y. slice_cmp nat_cmp n y ≡ Less) names → is_among n names ≡ false
before_all n [] h = refl
before_all n (y ∷ names) h =
    let other : bytes_eq n y ≡ false = sym (is_eq-slice_cmp n y) ∙ ap is_eq h.0 in
    rw (other, before_all n names h.1) refl

or_right : (a b : Bool) → b ≡ true → (a || b) ≡ true
or_right true b h = refl
or_right false b h = h

-- entries of files with good names, in order, have good names, and none twice
pub named : {S : Type 0} (gave : S → List ℕ → List ℕ → S → Type 0) (names : List (List ℕ)) (old : S) (entries : List Entry) (skipped : List Skipped) (new : S)
    → Opened gave names old entries skipped new → IsStrictlySortedBy (slice_cmp nat_cmp) names → ((m : List ℕ) → is_among m names ≡ true → is_good_name m ≡ true) → are_named entries ≡ true
named gave [] old entries skipped new h ordered good = ap are_named h.0
named gave (n ∷ names) old entries skipped new h ordered good =
    let later = sorted_tail (slice_cmp nat_cmp) n names ordered in
    let good_later : (m : List ℕ) → is_among m names ≡ true → is_good_name m ≡ true = λ m among. good m (or_right (bytes_eq m n) (is_among m names) among) in
    elim h.3 [
      | inl l ↦
          (let here : bytes_eq n n ≡ true = (bytes_eq-Decides n n).1 refl in
          let first : is_good_name (string_bytes l.0.name) ≡ true = subst (λ x. is_good_name x ≡ true) (sym l.2.name) (good n (rw here refl)) in
          let fresh : is_listed l.1 (string_bytes l.0.name) ≡ false = subst (λ x. is_listed l.1 x ≡ false) (sym l.2.name)
          (unlisted gave n names h.1 l.1 skipped new l.4 (before_all n names (sorted_head (slice_cmp nat_cmp) n names ordered))) in
          ap are_named l.3 ∙ rw (first, fresh, named gave names h.1 l.1 skipped new l.4 later good_later) refl)
      | inr l ↦ named gave names h.1 entries l.1 new l.4 later good_later
    ]

-- ---- what is found

and_left : (a b : Bool) → (a && b) ≡ true → a ≡ true
and_left true b h = refl
and_left false b h = absurd (let clash : false ≡ true = h in cc)

-- an image has a good name
pub good_image : (n : List ℕ) (files : List (List ℕ)) → is_image n files ≡ true → is_good_name n ≡ true
good_image n [] h = absurd (let clash : false ≡ true = h in cc)
good_image n (f ∷ files) h = elim (cases_Bool (is_file_of n f)) [
  | inl here ↦ and_left (is_good_name n) (bytes_eq (file_name n) f) here
  | inr other ↦ good_image n files (rw other at h)
]

-- a good name with a file is an image
pub image_listed : (n : List ℕ) (files : List (List ℕ)) → is_good_name n ≡ true → is_image n files ≡ is_among (file_name n) files
image_listed n [] good = refl
image_listed n (f ∷ files) good = rw (good, image_listed n files good) refl

module _ {S : Type 0} (keeps : S → Files → Type 0) (gave : S → List ℕ → List ℕ → S → Type 0) (files : Files) (n b : List ℕ) (i : IndexFields) (there : files (file_name n) ≡ Some b) (image : image_at b ≡ Ok i) where
  pub found : (names : List (List ℕ)) (old : S) (entries : List Entry) (skipped : List Skipped) (new : S)
      → Opened (GivesFile keeps gave) names old entries skipped new → keeps old files → is_among n names ≡ true → (e : Entry) × (entry_of entries n ≡ Some e) × StandsFor e (stored n b)
  found [] old entries skipped new h kept among = absurd (let clash : false ≡ true = among in cc)
  found (m ∷ names) old entries skipped new h kept among = elim (cases_Bool (bytes_eq n m)) [
    | inl here ↦
        (let is : n ≡ m = (bytes_eq-Decides n m).0 here in
        let same : h.0 ≡ b = h.2.same files b kept (ap (λ x. files (file_name x)) (sym is) ∙ there) in
        elim h.3 [
          | inl l ↦
              (let name : string_bytes l.0.name ≡ n = l.2.name ∙ sym is in
              let first : bytes_eq (string_bytes l.0.name) n ≡ true = (bytes_eq-Decides (string_bytes l.0.name) n).1 name in
              let made : StandsFor l.0 (stored n b) = subst (λ x. StandsFor l.0 (stored x b)) (sym is) (subst (λ x. StandsFor l.0 (stored m x)) same l.2) in
              (l.0, ap (λ es. entry_of es n) l.3 ∙ rw first refl, made))
          | inr l ↦ absurd (let clash = sym image ∙ (ap image_at (sym same) ∙ l.2.fault) in cc)
        ])
    | inr other ↦
        (let later : is_among n names ≡ true = rw other at among in
        elim h.3 [
          | inl l ↦
              (let next = found names h.1 l.1 skipped new l.4 (h.2.kept files kept) later in
              let apart : bytes_eq (string_bytes l.0.name) n ≡ false = subst (λ x. bytes_eq x n ≡ false) (sym l.2.name) (differs n m other) in
              (next.0, ap (λ es. entry_of es n) l.3 ∙ (rw apart refl ∙ next.1), next.2))
          | inr l ↦ found names h.1 entries l.1 new l.4 (h.2.kept files kept) later
        ])
  ]

-- with a file that a name has, if any
with_more : (files : Files) (n b : List ℕ) → ((c : List ℕ) → files n ≡ Some c → b ≡ c) → AreIn files (with_file n b files)
with_more files n b same m c is = elim (cases_Bool (bytes_eq n m)) [
  | inl here ↦ rw here (ap Some (same c (ap files ((bytes_eq-Decides n m).0 here) ∙ is)))
  | inr other ↦ rw other is
]

-- the shelf keeps a file for each entry
pub opened_stands : {S : Type 0} (keeps : S → Files → Type 0) (gave : S → List ℕ → List ℕ → S → Type 0) (names : List (List ℕ)) (files : Files) (old : S) (entries : List Entry) (skipped : List Skipped) (new : S)
    → Opened (GivesFile keeps gave) names old entries skipped new → keeps old files → (all : Files) × keeps new all × AreIn files all × StandIn all entries
opened_stands keeps gave [] files old entries skipped new h kept = (files, subst (λ s. keeps s files) (sym h.2) kept, λ n b is. is, subst (λ es. StandIn files es) (sym h.0) tt)
opened_stands keeps gave (n ∷ names) files old entries skipped new h kept =
    let more = with_file (file_name n) h.0 files in
    let there = h.2.held files kept in
    let within = with_more files (file_name n) h.0 (λ c is. h.2.same files c kept is) in
    elim h.3 [
      | inl l ↦
          (let next = opened_stands keeps gave names more h.1 l.1 skipped new l.4 there in
          let here : next.0 (file_name n) ≡ Some h.0 = next.2 (file_name n) h.0 (at_front (file_name n) h.0 files) in
          let first : (file : List ℕ) × (next.0 (file_name (string_bytes l.0.name)) ≡ Some file) × StandsFor l.0 (stored (string_bytes l.0.name) file) =
          (h.0, ap (λ x. next.0 (file_name x)) l.2.name ∙ here, subst (λ x. StandsFor l.0 (stored x h.0)) (sym l.2.name) l.2) in
          (next.0, next.1, λ m c is. next.2 m c (within m c is), subst (λ es. StandIn next.0 es) (sym l.3) (first, next.3)))
      | inr l ↦
          (let next = opened_stands keeps gave names more h.1 entries l.1 new l.4 there in
          (next.0, next.1, λ m c is. next.2 m c (within m c is), next.3))
    ]

-- each entry stands for a file that was read
pub opened_each : {S : Type 0} (gave : S → List ℕ → List ℕ → S → Type 0) (names : List (List ℕ)) (old : S) (entries : List Entry) (skipped : List Skipped) (new : S)
    → Opened gave names old entries skipped new → AllByRecursion (λ e. (file : List ℕ) × StandsFor e (stored (string_bytes e.name) file)) entries
opened_each gave [] old entries skipped new h = subst (AllByRecursion (λ e. (file : List ℕ) × StandsFor e (stored (string_bytes e.name) file))) (sym h.0) tt
opened_each gave (n ∷ names) old entries skipped new h = elim h.3 [
  | inl l ↦ subst (AllByRecursion (λ e. (file : List ℕ) × StandsFor e (stored (string_bytes e.name) file))) (sym l.3)
      ((h.0, subst (λ x. StandsFor l.0 (stored x h.0)) (sym l.2.name) l.2), opened_each gave names h.1 l.1 skipped new l.4)
  | inr l ↦ opened_each gave names h.1 entries l.1 new l.4
]

-- ---- the names of a set

all_bytes : {Y : Type 0} (P : List ℕ → Type 0) (ks : List (String Y)) → AllByRecursion (λ k. P (string_bytes k)) ks → AllByRecursion P (map string_bytes ks)
all_bytes P [] h = tt
all_bytes P (k ∷ ks) h = (h.0, all_bytes P ks h.1)

pub sorted_bytes : {Y : Type 0} (ks : List (String Y)) → IsStrictlySortedBy string_cmp ks → IsStrictlySortedBy (slice_cmp nat_cmp) (map string_bytes ks)
unfolding IsStrictlySortedBy
sorted_bytes [] h = tt
sorted_bytes (k ∷ ks) h = (all_bytes (λ y. slice_cmp nat_cmp (string_bytes k) y ≡ Less) ks h.0, sorted_bytes ks h.1)

any_key : {Y : Type 0} (n : List ℕ) (ks : List (String Y)) → is_among n (map string_bytes ks) ≡ list_any (is_at (λ k. slice_cmp nat_cmp n (string_bytes k))) ks
any_key n [] = refl
any_key n (k ∷ ks) = rw (← is_eq-slice_cmp n (string_bytes k), any_key n ks) refl

pub among_keys : {Y : Type 0} (n : List ℕ) (names : BTreeSet (String Y)) → is_among n (map string_bytes (keys names)) ≡ contains_text names n
among_keys n names = any_key n names.keys

pub names_are : {Y : Type 0} (files : List (String Y)) (names : BTreeSet (String Y)) → IsStrictlySortedBy (slice_cmp nat_cmp) (map string_bytes (keys names))
    → ((n : List ℕ) → contains_text names n ≡ is_image n (map string_bytes files)) → AreNamesIn (map string_bytes files) (map string_bytes (keys names))
names_are files names ordered all = record { ordered = ordered; all = λ n. among_keys n names ∙ all n }

-- ---- refusals

pub refused : {A : Type 0} (r : Result A Fault) (x y : Fault) → IsErrAnd r (λ e. e ≡ x) → r ≡ Err y → x ≡ y
refused (Err e) x y h is = let same : e ≡ y = cc in sym h ∙ same
refused (Ok a) x y h is = absurd h

pub past_as : {S : Type 0} (gave seen : S → List ℕ → List ℕ → S → Type 0) → ((s : S) (n b : List ℕ) (t : S) → gave s n b t → seen s n b t)
    → (names : List (List ℕ)) (old : S) → ReadsPast gave names old → ReadsPast seen names old
past_as gave seen f names old h = (h.0, h.1, h.2, h.3, h.4, h.5, opened_as gave seen f h.0 old h.2 h.3 h.4 h.6, h.7)

pub fault_is : {A : Type 0} (r : Result A Fault) (x : Fault) → IsErrAnd r (λ e. e ≡ x) → (P : Fault → Type 0) → P x → IfErr r P
fault_is (Err e) x h P p = subst P (sym h) p
fault_is (Ok a) x h P p = absurd h

pub up_to_as : {S : Type 0} (gave seen : S → List ℕ → List ℕ → S → Type 0) (unread : S → List ℕ → S → Type 0) → ((s : S) (n b : List ℕ) (t : S) → gave s n b t → seen s n b t)
    → (names : List (List ℕ)) (old : S) → ReadsUpTo gave unread names old → ReadsUpTo seen unread names old
up_to_as gave seen unread f names old h = (h.0, h.1, h.2, h.3, h.4, h.5, h.6, h.7, opened_as gave seen f h.0 old h.3 h.4 h.5 h.8, h.9)
