-- What a shelf keeps after a file was written and renamed, and what an archive's entries are after one more.
use Rattle.std.proofs.Common.{◌≡◌, ℕ, ◌+◌, ◌<◌, ◌≤◌, length, map, arith, length-append, ◌&&◌, ◌||◌, [], ◌∷◌, ◌++◌, ◌⊎◌, inl, inr, sym, ◌∙◌, Bool, true, false, not, cond, List, drop, codes, Some, None, Result, Ok, Err, IfErr, OnOk, refl, ap, subst}
use Rattle.std.specs.Str.{bytes_eq}
use Rattle.std.proofs.lemmas.Slice.Eq.{bytes_eq-Decides}
use Rattle.std.proofs.lemmas.List.{append_cancel_right}
use Rattle.jk_math.specs.declared.fault.Fault.{Fault}
use Rattle.jk_math.specs.declared.fault.Fault.TheVariants.{Shelf}
use Rattle.std.specs.String.{string_bytes}
use Rattle.std.proofs.lemmas.Bool.{cases_Bool}
use Rattle.jk_store.specs.declared.entry.Entry.{Entry}
use Rattle.jk_store.specs.Names.{is_good_name, file_name, temporary_name}
use Rattle.jk_store.specs.Adding.{IsLeftByAdd}
use Rattle.jk_store.specs.Catalogue.{is_listed, are_named, most_entries}
use Rattle.jk_store.specs.Files.{Files, with_file, without}

-- two ends of one length
last_four : (m n s t : List ℕ) → length s ≡ 4 → length t ≡ 4 → m ++ s ≡ n ++ t → s ≡ t
last_four [] [] s t a b same = same
last_four [] (x ∷ n) s t a b same = absurd (omega (arith, a, b, ap length same, length-append n t))
last_four (x ∷ m) [] s t a b same = absurd (omega (arith, a, b, ap length same, length-append m s))
last_four (x ∷ m) (y ∷ n) s t a b same = last_four m n s t a b (ap (λ l. drop 1 l) same)

twice : {A : Type 0} (b : Bool) (u v w : A) → cond b u (cond b v w) ≡ cond b u w
twice true u v w = refl
twice false u v w = refl

-- without the name that was just given a file
without_front : (t b : List ℕ) (files : Files) → without t (with_file t b files) ≡ without t files
without_front t b files = λ i m. twice (bytes_eq t m) None (Some b) (files m) i

pub at_front : (t b : List ℕ) (files : Files) → with_file t b files t ≡ Some b
at_front t b files = ap (λ x. cond x (Some b) (files t)) ((bytes_eq-Decides t t).1 refl)

pub stored : {S : Type 0} (keeps : S → Files → Type 0) (mid new : S) (r : Result (Unit {0}) Fault) (temp1 temp2 file1 bytes1 temp file bytes : List ℕ)
    → temp1 ≡ temp → temp2 ≡ temp → file1 ≡ file → bytes1 ≡ bytes → (files : Files) → keeps mid (with_file temp1 bytes1 files)
    → ((fs : Files) (b : List ℕ) → keeps mid fs → fs temp2 ≡ Some b → OnOk r (keeps new (with_file file1 b (without temp2 fs))))
    → OnOk r (keeps new (with_file file bytes (without temp files)))
stored keeps mid new r temp1 temp2 file1 bytes1 temp file bytes e1 e2 e3 e4 files k ok =
    let kept = subst (λ t. keeps mid (with_file t bytes files)) e1 (subst (λ b. keeps mid (with_file temp1 b files)) e4 k) in
    let renamed = subst (λ t. (fs : Files) (b : List ℕ) → keeps mid fs → fs t ≡ Some b → OnOk r (keeps new (with_file file1 b (without t fs)))) e2 ok in
    let out = renamed (with_file temp bytes files) bytes kept (at_front temp bytes files) in
    let shaped = subst (λ (g : Files). OnOk r (keeps new (with_file file1 bytes g))) (without_front temp bytes files) out in
    subst (λ q. OnOk r (keeps new (with_file q bytes (without temp files)))) e3 shaped

-- ---- what is left after a refusal

-- one name or another
apart : {A : Type 0} (b : Bool) (u v : A) → b ≡ false → cond b u v ≡ v
apart b u v other = ap (λ x. cond x u v) other

pub left_as_before : {S : Type 0} (keeps : S → Files → Type 0) (s : S) (t own : List ℕ) (made : Result (List ℕ) Fault) (e : Fault) (files : Files) → keeps s files
    → (left : Files) × keeps s left × IsLeftByAdd t own made e files left
left_as_before keeps s t own made e files kept = (files, kept, record { others = λ n a b. refl; here = inl refl })

-- where the temporary file couldn't be written
pub left_unwritten : {S : Type 0} (keeps : S → Files → Type 0) (s : S) (t own : List ℕ) (made : Result (List ℕ) Fault) (e : Fault) (files : Files) → bytes_eq t own ≡ false → keeps s (without t files)
    → (left : Files) × keeps s left × IsLeftByAdd t own made e files left
left_unwritten keeps s t own made e files other kept =
    (without t files, kept, record { others = λ n a b. apart (bytes_eq t n) None (files n) a; here = inl (apart (bytes_eq t own) None (files own) other) })

-- where all others stay, whatever is answered
pub left_stayed : {S : Type 0} (keeps : S → Files → Type 0) (s : S) (t own : List ℕ) (made : Result (List ℕ) Fault) (r : Result (Unit {0}) Fault) (files : Files) → bytes_eq t own ≡ false
    → keeps s (without t files) → IfErr r (λ e. (left : Files) × keeps s left × IsLeftByAdd t own made e files left)
left_stayed keeps s t own made (Ok x) files other kept = tt
left_stayed keeps s t own made (Err e) files other kept = left_unwritten keeps s t own made e files other kept

-- where it couldn't get its own name
pub left_unrenamed : {S : Type 0} (keeps : S → Files → Type 0) (s : S) (t own bytes : List ℕ) (e : Fault) (files : Files) → bytes_eq t own ≡ false
    → keeps s (with_file t bytes files) ⊎ ((e ≡ Shelf) × keeps s (with_file own bytes (without t (with_file t bytes files))))
    → (left : Files) × keeps s left × IsLeftByAdd t own (Ok bytes) e files left
left_unrenamed keeps s t own bytes e files other (inl kept) =
    (with_file t bytes files, kept, record { others = λ n a b. apart (bytes_eq t n) (Some bytes) (files n) a; here = inl (apart (bytes_eq t own) (Some bytes) (files own) other) })
left_unrenamed keeps s t own bytes e files other (inr done) =
    let left : Files = with_file own bytes (without t files) in (
      left,
      subst (λ (g : Files). keeps s (with_file own bytes g)) (without_front t bytes files) done.1,
      record {
        others = λ n a b. apart (bytes_eq own n) (Some bytes) (without t files n) b ∙ apart (bytes_eq t n) None (files n) a;
        here = inr (bytes, done.0, refl, at_front own bytes (without t files));
      },
    )

if_err : {A : Type 0} (r : Result A Fault) (P Q : Fault → Type 0) → ((e : Fault) → P e → Q e) → IfErr r P → IfErr r Q
if_err (Ok x) P Q f h = tt
if_err (Err e) P Q f h = f e h

pub stored_left : {S : Type 0} (keeps : S → Files → Type 0) (mid new : S) (r : Result (Unit {0}) Fault) (temp1 temp2 file1 bytes1 temp file bytes : List ℕ)
    → temp1 ≡ temp → temp2 ≡ temp → file1 ≡ file → bytes1 ≡ bytes → bytes_eq temp file ≡ false → (files : Files) → keeps mid (with_file temp1 bytes1 files)
    → ((fs : Files) (b : List ℕ) → keeps mid fs → fs temp2 ≡ Some b → IfErr r (λ e. keeps new fs ⊎ ((e ≡ Shelf) × keeps new (with_file file1 b (without temp2 fs)))))
    → IfErr r (λ e. (left : Files) × keeps new left × IsLeftByAdd temp file (Ok bytes) e files left)
stored_left keeps mid new r temp1 temp2 file1 bytes1 temp file bytes e1 e2 e3 e4 other files k whole =
    let kept = subst (λ t. keeps mid (with_file t bytes files)) e1 (subst (λ b. keeps mid (with_file temp1 b files)) e4 k) in
    let renamed = subst (λ q. (fs : Files) (b : List ℕ) → keeps mid fs → fs temp ≡ Some b → IfErr r (λ e. keeps new fs ⊎ ((e ≡ Shelf) × keeps new (with_file q b (without temp fs))))) e3
    (subst (λ t. (fs : Files) (b : List ℕ) → keeps mid fs → fs t ≡ Some b → IfErr r (λ e. keeps new fs ⊎ ((e ≡ Shelf) × keeps new (with_file file1 b (without t fs))))) e2 whole) in
    if_err r _ (λ e. (left : Files) × keeps new left × IsLeftByAdd temp file (Ok bytes) e files left) (λ e h. left_unrenamed keeps new temp file bytes e files other h)
    (renamed (with_file temp bytes files) bytes kept (at_front temp bytes files))

-- a temporary name is that of no image's file
ends_apart : (m n : List ℕ) → temporary_name m ≡ file_name n → ⊥
ends_apart m n same =
    let ends : codes ".tmp" ≡ codes ".jp2" = last_four m n (codes ".tmp") (codes ".jp2") refl refl same in
    let yes_they_are : bytes_eq (codes ".tmp") (codes ".jp2") ≡ true = (bytes_eq-Decides (codes ".tmp") (codes ".jp2")).1 ends in
    let they_are_not : bytes_eq (codes ".tmp") (codes ".jp2") ≡ false = refl in
    no_clash (sym yes_they_are ∙ they_are_not)
  where
    no_clash : true ≡ false → ⊥
    no_clash h = cc

pub names_apart : (m n : List ℕ) → bytes_eq (temporary_name m) (file_name n) ≡ false
names_apart m n = elim (cases_Bool (bytes_eq (temporary_name m) (file_name n))) [
  | inl same ↦ absurd (ends_apart m n ((bytes_eq-Decides (temporary_name m) (file_name n)).0 same))
  | inr other ↦ other
]

-- files of other names have other names
pub files_apart : (m n : List ℕ) → bytes_eq m n ≡ false → bytes_eq (file_name m) (file_name n) ≡ false
files_apart m n other = elim (cases_Bool (bytes_eq (file_name m) (file_name n))) [
  | inl same ↦ absurd (let clash = sym ((bytes_eq-Decides m n).1 (append_cancel_right m n (codes ".jp2") ((bytes_eq-Decides (file_name m) (file_name n)).0 same))) ∙ other in cc)
  | inr other ↦ other
]

-- ---- one entry more

pub both : (a b : Bool) → (a && b) ≡ true → (a ≡ true) × (b ≡ true)
both true b h = (refl, h)
both false b h = absurd (let clash : false ≡ true = h in cc)

pub neither : (a b : Bool) → (a || b) ≡ false → (a ≡ false) × (b ≡ false)
neither true b h = absurd (let clash : true ≡ false = h in cc)
neither false b h = (refl, h)

pub not_false : (b : Bool) → not b ≡ true → b ≡ false
not_false true h = absurd (let clash : false ≡ true = h in cc)
not_false false h = refl

pub differs : (m n : List ℕ) → bytes_eq m n ≡ false → bytes_eq n m ≡ false
differs m n h = elim (cases_Bool (bytes_eq n m)) [
  | inl same ↦ absurd (let clash : true ≡ false = sym ((bytes_eq-Decides m n).1 (sym ((bytes_eq-Decides n m).0 same))) ∙ h in cc)
  | inr other ↦ other
]

not_more : (entries : List Entry) (e : Entry) (n : List ℕ) → is_listed entries n ≡ false → bytes_eq (string_bytes e.name) n ≡ false → is_listed (entries ++ e ∷ []) n ≡ false
not_more [] e n h other = rw other refl
not_more (x ∷ entries) e n h other =
    let parts = neither (bytes_eq (string_bytes x.name) n) (is_listed entries n) h in
    rw (parts.0, not_more entries e n parts.1 other) refl

pub named_more : (entries : List Entry) (e : Entry) → are_named entries ≡ true → is_good_name (string_bytes e.name) ≡ true → is_listed entries (string_bytes e.name) ≡ false
    → are_named (entries ++ e ∷ []) ≡ true
named_more [] e named good fresh = rw good refl
named_more (x ∷ entries) e named good fresh =
    let first = both _ (are_named entries) named in
    let front = both (is_good_name (string_bytes x.name)) _ first.0 in
    let parts = neither (bytes_eq (string_bytes x.name) (string_bytes e.name)) (is_listed entries (string_bytes e.name)) fresh in
    let unlisted = not_false (is_listed entries (string_bytes x.name)) front.1 in
    let other : bytes_eq (string_bytes e.name) (string_bytes x.name) ≡ false = differs (string_bytes x.name) (string_bytes e.name) parts.0 in
    rw (front.0, not_more entries e (string_bytes x.name) unlisted other, named_more entries e first.1 good parts.1) refl

pub map_more : {X Y : Type 0} (f : X → Y) (xs : List X) (x : X) → map f (xs ++ x ∷ []) ≡ map f xs ++ f x ∷ []
map_more f [] x = refl
map_more f (a ∷ xs) x = ap (λ l. f a ∷ l) (map_more f xs x)

pub archive_named : {X : Type 0} (value : X → Entry) (old mid new : List X) (x : X) (y : Entry) (n : List ℕ) → new ≡ mid ++ x ∷ [] → mid ≡ old → value x ≡ y → string_bytes y.name ≡ n
    → are_named (map value old) ≡ true → is_good_name n ≡ true → is_listed (map value old) n ≡ false → are_named (map value new) ≡ true
archive_named value old mid new x y n pushed same is called named good fresh =
    let name : string_bytes (value x).name ≡ n = ap (λ (e : Entry). string_bytes e.name) is ∙ called in
    let all : map value new ≡ map value old ++ value x ∷ [] = ap (map value) (pushed ∙ ap (λ l. l ++ x ∷ []) same) ∙ map_more value old x in
    subst (λ l. are_named l ≡ true) (sym all)
    (named_more (map value old) (value x) named (subst (λ m. is_good_name m ≡ true) (sym name) good) (subst (λ m. is_listed (map value old) m ≡ false) (sym name) fresh))

pub archive_few : {X : Type 0} (old mid new : List X) (x : X) → new ≡ mid ++ x ∷ [] → mid ≡ old → length old < most_entries → length new ≤ most_entries
archive_few old mid new x pushed same room =
    let long : length new ≡ length old + 1 = ap length (pushed ∙ ap (λ l. l ++ x ∷ []) same) ∙ length-append old (x ∷ []) in
    omega (arith, long, room)
