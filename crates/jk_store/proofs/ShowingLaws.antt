-- The images that entries over a shelf show.
use Rattle.std.proofs.Common.{◌≡◌, ℕ, zero, suc, ◌⊎◌, inl, inr, Bool, true, false, not, ◌&&◌, nat_le, cond, All, length, List, [], ◌∷◌, ◌++◌, Option, Some, None, Result, Ok, Err, IfOk, refl, sym, ap, subst, ◌∙◌, arith}
use Rattle.std.specs.Prelude.{◌+◌, min, is_some, MatchResult}
use Rattle.std.specs.Global.{Vec}
use Rattle.std.specs.Option.{option_map}
use Rattle.std.specs.List.{AllByRecursion, flat_map, list_all}
use Rattle.std.proofs.lemmas.Bool.{cases_eq, ne_eqb, and_parts}
use Rattle.std.proofs.lemmas.List.Sums.{AllPass-from_list_all}
use Rattle.std.specs.Str.{bytes_eq}
use Rattle.std.specs.String.{string_bytes}
use Rattle.std.proofs.lemmas.Slice.Eq.{bytes_eq-Decides}
use Rattle.jk_math.specs.declared.fault.Fault.{Fault}
use Rattle.jk_math.specs.declared.fault.Fault.TheVariants.{Memory, BadWindow, Shelf, Changed}
use Rattle.jk_math.specs.Memory.{IsMemory}
use Rattle.jk_window.specs.Views.{HasWindow}
use Rattle.jk_window.specs.Cutting.{cut_file}
use Rattle.jk_window.specs.Indexing.{IsIndexOf}
use Rattle.jk_window.specs.declared.view.View.{View}
use Rattle.jk_catalogue.specs.Images.{is_segment_byte, IsPathSegment}
use Rattle.jk_catalogue.specs.Images.{Image, names_of, image_of, IsImageFile, IsCutOf, IsForeignFile, IsOtherCut, HasNoCut, MayRefuse}
use Rattle.jk_store.specs.declared.entry.Entry.{Entry}
use Rattle.jk_store.specs.Files.{Files}
use Rattle.jk_store.specs.Names.{file_name, is_name_byte, is_good_name}
use Rattle.jk_store.specs.Counting.{last_count}
use Rattle.jk_store.specs.Catalogue.{StandsFor, StandIn, stored, is_listed, are_named, entry_of, IsWindowGiven, Passes}
use Rattle.jk_store.specs.Showing.{line_of, given_of, ShowsImage, ShowImages, AreKept, StandForImages}
use Rattle.jk_store.proofs.AddLaws.{differs}
use Rattle.jk_store.proofs.EntryLaws.{no_window_cut}

-- ---- lines

pub lines_shown : (entries : List Entry) (images : List Image) → ShowImages entries images → flat_map line_of entries ≡ flat_map (λ i. i.line) images
lines_shown [] [] shows = refl
lines_shown [] (i ∷ images) shows = absurd shows
lines_shown (e ∷ entries) [] shows = absurd shows
lines_shown (e ∷ entries) (i ∷ images) shows =
    ap (λ (line : List ℕ). line ++ flat_map line_of entries) (sym shows.0.line) ∙ ap (λ (rest : List ℕ). i.line ++ rest) (lines_shown entries images shows.1)

-- ---- names

-- The entry of a name, and the image that it shows.
record Found (n : List ℕ) (entries : List Entry) (images : List Image) : Type 0 where
  entry : Entry
  image : Image
  of_entry : entry_of entries n ≡ Some entry
  of_image : image_of n images ≡ Some image
  shows : ShowsImage entry image

abbrev IsAbsent : List ℕ → List Entry → List Image → Type 0
IsAbsent n entries images = (entry_of entries n ≡ None) × (image_of n images ≡ None)

same_test : (n : List ℕ) (e : Entry) (i : Image) (b : Bool) → ShowsImage e i → bytes_eq (string_bytes e.name) n ≡ b → bytes_eq n i.name ≡ b
same_test n e i b shows is = ap (bytes_eq n) shows.name ∙ turned b is
  where
    turned : (b : Bool) → bytes_eq (string_bytes e.name) n ≡ b → bytes_eq n (string_bytes e.name) ≡ b
    turned true is = (bytes_eq-Decides n (string_bytes e.name)).1 (sym ((bytes_eq-Decides (string_bytes e.name) n).0 is))
    turned false is = differs (string_bytes e.name) n is

named : (n : List ℕ) (entries : List Entry) (images : List Image) → ShowImages entries images → IsAbsent n entries images ⊎ Found n entries images
named n [] [] shows = inl (refl, refl)
named n [] (i ∷ images) shows = absurd shows
named n (e ∷ entries) [] shows = absurd shows
named n (e ∷ entries) (i ∷ images) shows = by (bytes_eq (string_bytes e.name) n) refl (named n entries images shows.1)
  where
    entry_by : (b : Bool) → bytes_eq (string_bytes e.name) n ≡ b → entry_of (e ∷ entries) n ≡ cond b (Some e) (entry_of entries n)
    entry_by b is = ap (λ t. cond t (Some e) (entry_of entries n)) is

    image_by : (b : Bool) → bytes_eq (string_bytes e.name) n ≡ b → image_of n (i ∷ images) ≡ cond b (Some i) (image_of n images)
    image_by b is = ap (λ t. cond t (Some i) (image_of n images)) (same_test n e i b shows.0 is)

    by : (b : Bool) → bytes_eq (string_bytes e.name) n ≡ b → IsAbsent n entries images ⊎ Found n entries images → IsAbsent n (e ∷ entries) (i ∷ images) ⊎ Found n (e ∷ entries) (i ∷ images)
    by true is more = inr (record { entry = e; image = i; of_entry = entry_by true is; of_image = image_by true is; shows = shows.0 })
    by false is (inl absent) = inl (entry_by false is ∙ absent.0, image_by false is ∙ absent.1)
    by false is (inr f) = inr (record { entry = f.entry; image = f.image; of_entry = entry_by false is ∙ f.of_entry; of_image = image_by false is ∙ f.of_image; shows = f.shows })

-- ---- what is read

pub mapped_some : {X Y : Type 0} (f : X → Y) (o : Option X) → is_some (option_map f o) ≡ is_some o
mapped_some f (Some x) = refl
mapped_some f None = refl

-- the names are the same
pub known : (n : List ℕ) (entries : List Entry) (images : List Image) → ShowImages entries images → is_some (entry_of entries n) ≡ is_some (image_of n images)
known n entries images shows = by (named n entries images shows)
  where
    by : IsAbsent n entries images ⊎ Found n entries images → is_some (entry_of entries n) ≡ is_some (image_of n images)
    by (inl absent) = ap is_some absent.0 ∙ sym (ap is_some absent.1)
    by (inr f) = ap is_some f.of_entry ∙ sym (ap is_some f.of_image)

-- A name that isn't listed is no image's.
pub absent_image : (n : List ℕ) (entries : List Entry) (images : List Image) → ShowImages entries images → entry_of entries n ≡ None → image_of n images ≡ None
absent_image n entries images shows none = by (named n entries images shows)
  where
    by : IsAbsent n entries images ⊎ Found n entries images → image_of n images ≡ None
    by (inl absent) = absent.1
    by (inr f) = absurd (let clash = sym f.of_entry ∙ none in cc)

some_is : (a b : Entry) → Some a ≡ Some b → a ≡ b
some_is a b h = ap (λ (o : Option Entry). or_else o a) h
  where
    or_else : Option Entry → Entry → Entry
    or_else (Some x) d = x
    or_else None d = d

-- The image of a listed name.
pub record IsShownAt (n : List ℕ) (e : Entry) (images : List Image) : Type 0 where
  pub image : Image
  pub is : image_of n images ≡ Some image
  pub shows : ShowsImage e image

pub shown_at : (n : List ℕ) (entries : List Entry) (e : Entry) (images : List Image) → ShowImages entries images → entry_of entries n ≡ Some e → IsShownAt n e images
shown_at n entries e images shows is = by (named n entries images shows)
  where
    by : IsAbsent n entries images ⊎ Found n entries images → IsShownAt n e images
    by (inl absent) = absurd (let clash = sym absent.0 ∙ is in cc)
    by (inr f) = record { image = f.image; is = f.of_image; shows = subst (λ x. ShowsImage x f.image) (some_is f.entry e (sym f.of_entry ∙ is)) f.shows }

-- What holds of all images holds of that of a name.
of_named : (P : Image → Type 0) (n : List ℕ) (images : List Image) (i : Image) → AllByRecursion P images → image_of n images ≡ Some i → P i
of_named P n [] i all is = absurd (let clash = is in cc)
of_named P n (j ∷ images) i all is = by (bytes_eq n j.name) (of_named P n images i all.1) is
  where
    by : (b : Bool) → (image_of n images ≡ Some i → P i) → cond b (Some j) (image_of n images) ≡ Some i → P i
    by true later is = subst P (let e = is in cc) all.0
    by false later is = later is

-- ---- what is given of an image

same_or : (a b : List ℕ) → (a ≡ b) ⊎ (a ≡ b → ⊥)
same_or a b = by (bytes_eq a b) refl
  where
    by : (t : Bool) → bytes_eq a b ≡ t → (a ≡ b) ⊎ (a ≡ b → ⊥)
    by true is = inl ((bytes_eq-Decides a b).0 is)
    by false is = inr (λ same. let clash = sym is ∙ (bytes_eq-Decides a b).1 same in cc)

pub file_given : (o : Option Image) (i : Image) (reads : List ℕ → Type 0) (file : List ℕ) → o ≡ Some i → reads file → IsImageFile o file ⊎ IsForeignFile o reads file
file_given o i reads file is read = subst (λ x. IsImageFile x file ⊎ IsForeignFile x reads file) (sym is) (by (same_or file i.file))
  where
    by : (file ≡ i.file) ⊎ (file ≡ i.file → ⊥) → IsImageFile (Some i) file ⊎ IsForeignFile (Some i) reads file
    by (inl same) = inl same
    by (inr other) = inr (read, other)

some_or : (o : Option (List ℕ)) (b : List ℕ) → (o ≡ Some b) ⊎ (o ≡ Some b → ⊥)
some_or None b = inr (λ same. cc)
some_or (Some a) b = by (same_or a b)
  where
    by : (a ≡ b) ⊎ (a ≡ b → ⊥) → (Some a ≡ Some b) ⊎ (Some a ≡ Some b → ⊥)
    by (inl same) = inl (ap Some same)
    by (inr other) = inr (λ same. other (cc))

pub cut_given : (o : Option Image) (i : Image) (asked : View) (cuts : List ℕ → Type 0) (cut : List ℕ) → o ≡ Some i → cuts cut → IsCutOf o asked cut ⊎ IsOtherCut o asked cuts cut
cut_given o i asked cuts cut is made = subst (λ x. IsCutOf x asked cut ⊎ IsOtherCut x asked cuts cut) (sym is) (by (some_or (i.cut asked) cut))
  where
    by : (i.cut asked ≡ Some cut) ⊎ (i.cut asked ≡ Some cut → ⊥) → IsCutOf (Some i) asked cut ⊎ IsOtherCut (Some i) asked cuts cut
    by (inl same) = inl same
    by (inr other) = inr (made, other)

-- a window that the view hasn't
pub no_cut : (o : Option Image) (i : Image) (e : Entry) (asked : View) → o ≡ Some i → ShowsImage e i → (HasWindow e.index.headers asked → ⊥) → HasNoCut o asked
no_cut o i e asked is shows none = subst (λ x. HasNoCut x asked) (sym is) (shows.cut asked ∙ ap given_of (no_window_cut shows.index asked none))

-- the files that are kept
pub kept_file : {S : Type 0} (keeps : S → Files → Type 0) (s : S) (n : List ℕ) (images : List Image) (i : Image) (e : Entry) → (kept : AreKept keeps s images) → image_of n images ≡ Some i → ShowsImage e i
    → kept.files (file_name (string_bytes e.name)) ≡ Some i.file
kept_file keeps s n images i e kept is shows =
    ap (λ m. kept.files (file_name m)) (sym shows.name) ∙ of_named (λ (j : Image). kept.files (file_name j.name) ≡ Some j.file) n images i kept.each is

pub keeps_on : {S : Type 0} (keeps : S → Files → Type 0) (s t : S) (images : List Image) → ((files : Files) → keeps s files → keeps t files) → AreKept keeps s images → AreKept keeps t images
keeps_on keeps s t images on kept = record { files = kept.files; keeps_files = on kept.files kept.keeps_files; each = kept.each }

-- ---- why a call refuses

module _ (o : Option Image) (broken Uncut : Type 0) where
  refusal : (x : Fault) → (IsMemory x ⊎ (x ≡ BadWindow) ⊎ (x ≡ Changed)) ⊎ (x ≡ Shelf) → (x ≡ BadWindow → Uncut) → (x ≡ Changed → broken) → (x ≡ Shelf → broken) → MayRefuse o broken Uncut x
  refusal (Memory r) cause w a b = tt
  refusal BadWindow cause w a b = w refl
  refusal Shelf cause w a b = b refl
  refusal Changed cause w a b = a refl
  refusal x (inl (inl memory)) w a b = absurd memory
  refusal x (inl (inr (inl other))) w a b = absurd (let clash = other in cc)
  refusal x (inl (inr (inr other))) w a b = absurd (let clash = other in cc)
  refusal x (inr other) w a b = absurd (let clash = other in cc)

  -- where Shelf is answered a failure was counted
  pub window_refused : (x : Fault) (before after : ℕ) → Passes {A = Vec ℕ} (λ y. IsMemory y ⊎ (y ≡ BadWindow) ⊎ (y ≡ Changed)) (Err x) before after
      → (x ≡ BadWindow → Uncut) → (x ≡ Changed → broken) → (after ≡ min (before + 1) last_count → broken) → MayRefuse o broken Uncut x
  window_refused x before after (inl may) w a b = refusal x (inl may.0) w a (λ s. absurd (other may.0 s))
    where
      other : IsMemory x ⊎ (x ≡ BadWindow) ⊎ (x ≡ Changed) → x ≡ Shelf → ⊥
      other (inl memory) s = subst IsMemory s memory
      other (inr (inl bad)) s = let clash = sym bad ∙ s in cc
      other (inr (inr changed)) s = let clash = sym changed ∙ s in cc
  window_refused x before after (inr counted) w a b = refusal x (inr counted.0) w a (λ s. b counted.1)

pub whole_refused : (o : Option Image) (broken : Type 0) (x : Fault) (before after : ℕ) → Passes {A = Vec ℕ} (λ y. IsMemory y ⊎ (y ≡ Changed)) (Err x) before after
    → (x ≡ Changed → broken) → (after ≡ min (before + 1) last_count → broken) → MayRefuse o broken ⊥ x
whole_refused o broken x before after (inl may) a b = window_refused o broken ⊥ x before after (inl (more may.0, may.1)) (none may.0) a b
  where
    more : IsMemory x ⊎ (x ≡ Changed) → IsMemory x ⊎ (x ≡ BadWindow) ⊎ (x ≡ Changed)
    more (inl memory) = inl memory
    more (inr changed) = inr (inr changed)

    none : IsMemory x ⊎ (x ≡ Changed) → x ≡ BadWindow → ⊥
    none (inl memory) w = subst IsMemory w memory
    none (inr changed) w = let clash = sym changed ∙ w in cc
whole_refused o broken x before after (inr counted) a b = window_refused o broken ⊥ x before after (inr counted) (λ w. let clash = sym counted.0 ∙ w in cc) a b

-- ---- what is given, or why not

pub whole_given : (o : Option Image) (i : Image) (reads : List ℕ → Type 0) (broken : Type 0) (r : Result (Vec ℕ) Fault) (before after : ℕ) → o ≡ Some i
    → IfOk r (λ f. reads f.items) → (r ≡ Err Changed → broken) → Passes (λ y. IsMemory y ⊎ (y ≡ Changed)) r before after → (after ≡ min (before + 1) last_count → broken)
    → MatchResult r (λ v. IsImageFile o v.items ⊎ IsForeignFile o reads v.items) (λ x. MayRefuse o broken ⊥ x)
whole_given o i reads broken (Ok v) before after is read changed counts failed = file_given o i reads v.items is read
whole_given o i reads broken (Err x) before after is read changed counts failed = whole_refused o broken x before after counts (λ c. changed (ap (λ y. Err y) c)) failed

pub window_given : (o : Option Image) (i : Image) (e : Entry) (asked : View) (cuts : List ℕ → Type 0) (broken : Type 0) (r : Result (Vec ℕ) Fault) (before after : ℕ)
    → o ≡ Some i → ShowsImage e i → IfOk r (λ w. cuts w.items)
    → (r ≡ Err BadWindow → HasWindow e.index.headers asked → ⊥) → (r ≡ Err Changed → broken)
    → Passes (λ y. IsMemory y ⊎ (y ≡ BadWindow) ⊎ (y ≡ Changed)) r before after → (after ≡ min (before + 1) last_count → broken)
    → MatchResult r (λ v. IsCutOf o asked v.items ⊎ IsOtherCut o asked cuts v.items) (λ x. MayRefuse o broken (HasNoCut o asked) x)
window_given o i e asked cuts broken (Ok w) before after is shows given bad changed counts failed = cut_given o i asked cuts w.items is given
window_given o i e asked cuts broken (Err x) before after is shows given bad changed counts failed =
    window_refused o broken (HasNoCut o asked) x before after counts (λ w. no_cut o i e asked is shows (bad (ap (λ y. Err y) w))) (λ c. changed (ap (λ y. Err y) c)) failed

-- of a file that is kept
pub whole_kept : (o : Option Image) (i : Image) (r : Result (Vec ℕ) Fault) → o ≡ Some i → IfOk r (λ f. f.items ≡ i.file) → IfOk r (λ v. IsImageFile o v.items)
whole_kept o i (Ok v) is same = subst (λ x. IsImageFile x v.items) (sym is) same
whole_kept o i (Err x) is same = tt

pub window_kept : (o : Option Image) (i : Image) (e : Entry) (asked : View) (r : Result (Vec ℕ) Fault) → o ≡ Some i → (shows : ShowsImage e i)
    → IsWindowGiven (cut_file shows.index asked) r → IfOk r (λ v. IsCutOf o asked v.items)
window_kept o i e asked (Ok v) is shows given = subst (λ x. IsCutOf x asked v.items) (sym is) (shows.cut asked ∙ ap given_of given)
window_kept o i e asked (Err x) is shows given = tt

-- ---- the images of entries

-- a byte of a good name is one of a segment
name_byte : (b : ℕ) → is_name_byte b ≡ true → is_segment_byte b ≡ true
name_byte b good = elim (cases_eq b 47) [
  | inl same ↦ absurd (let slash = ap is_name_byte (sym same) ∙ good in cc)
  | inr other ↦ ap not (ne_eqb b 47 other)
]

segment_bytes : (name : List ℕ) → list_all is_name_byte name ≡ true → list_all is_segment_byte name ≡ true
segment_bytes [] good = refl
segment_bytes (b ∷ name) good =
    let parts = and_parts (is_name_byte b) (list_all is_name_byte name) good in
    ap (λ t. t && list_all is_segment_byte name) (name_byte b parts.0) ∙ segment_bytes name parts.1

-- Images of which the files are those of entries, in their order.
record AreShown (files : Files) (entries : List Entry) (images : List Image) : Type 0 where
  shows : ShowImages entries images
  each : AllByRecursion (λ (i : Image). files (file_name i.name) ≡ Some i.file) images
  segments : AllByRecursion (λ (i : Image). IsPathSegment i.name) images

abbrev pub image_for : (e : Entry) (file : List ℕ) → IsIndexOf file e.index → Image
image_for e file is = record { name = string_bytes e.name; line = line_of e; file = file; cut = λ asked. given_of (cut_file is asked) }

pub shows_itself : (e : Entry) (file : List ℕ) → (is : StandsFor e (stored (string_bytes e.name) file)) → ShowsImage e (image_for e file is.indexes)
shows_itself e file is = record { name = refl; line = refl; digest = is.digest; parts = is.parts; index = is.indexes; cut = λ asked. refl }

good_segment : (name : List ℕ) → is_good_name name ≡ true → IsPathSegment name
good_segment name good =
    let bytes = and_parts (nat_le 1 (length name) && nat_le (length name) 64) (list_all is_name_byte name) good in
    AllPass-from_list_all is_segment_byte name (segment_bytes name bytes.1)

shown_of : (files : Files) (entries : List Entry) → StandIn files entries → are_named entries ≡ true → (images : List Image) × AreShown files entries images
shown_of files [] stand named = ([], record { shows = tt; each = tt; segments = tt })
shown_of files (e ∷ entries) stand named =
    let own = string_bytes e.name in
    let last = and_parts (is_good_name own && not (is_listed entries own)) (are_named entries) named in
    let good = and_parts (is_good_name own) (not (is_listed entries own)) last.0 in
    let bytes = and_parts (nat_le 1 (length own) && nat_le (length own) 64) (list_all is_name_byte own) good.0 in
    let more = shown_of files entries stand.1 last.1 in
    let file = stand.0.0 in
    let is = stand.0.2 in (
      image_for e file is.indexes ∷ more.0,
      record {
        shows = (record { name = refl; line = refl; digest = is.digest; parts = is.parts; index = is.indexes; cut = λ asked. refl }, more.1.shows);
        each = (stand.0.1, more.1.each);
        segments = (AllPass-from_list_all is_segment_byte own (segment_bytes own bytes.1), more.1.segments);
      },
    )

segments_of : (images : List Image) → AllByRecursion (λ (i : Image). IsPathSegment i.name) images → All IsPathSegment (names_of images)
segments_of [] each k d lt = absurd (omega (arith, lt))
segments_of (i ∷ images) each zero d lt = each.0
segments_of (i ∷ images) each (suc k) d lt = segments_of images each.1 k d (omega (arith, lt))

-- What each entry was made of is shown.
pub each_shown : (entries : List Entry) → AllByRecursion (λ e. (file : List ℕ) × StandsFor e (stored (string_bytes e.name) file)) entries → are_named entries ≡ true
    → (images : List Image) × ShowImages entries images × All IsPathSegment (names_of images)
each_shown entries each named = let all = all_shown entries each named in (all.0, all.1, segments_of all.0 all.2)
  where
    all_shown : (entries : List Entry) → AllByRecursion (λ e. (file : List ℕ) × StandsFor e (stored (string_bytes e.name) file)) entries → are_named entries ≡ true
        → (images : List Image) × ShowImages entries images × AllByRecursion (λ (i : Image). IsPathSegment i.name) images
    all_shown [] each named = ([], tt, tt)
    all_shown (e ∷ entries) each named =
        let last = and_parts (is_good_name (string_bytes e.name) && not (is_listed entries (string_bytes e.name))) (are_named entries) named in
        let good = and_parts (is_good_name (string_bytes e.name)) (not (is_listed entries (string_bytes e.name))) last.0 in
        let more = all_shown entries each.1 last.1 in
        let is = each.0.1 in (
          image_for e each.0.0 is.indexes ∷ more.0,
          (shows_itself e each.0.0 is, more.1),
          (good_segment (string_bytes e.name) good.0, more.2),
        )

-- What stands in files is shown.
pub stands_shown : {S : Type 0} (keeps : S → Files → Type 0) (shelf : S) (files : Files) (entries : List Entry) → keeps shelf files → StandIn files entries → are_named entries ≡ true
    → (images : List Image) × StandForImages keeps entries shelf images × All IsPathSegment (names_of images)
stands_shown keeps shelf files entries kept stand named =
    let all = shown_of files entries stand named in (
      all.0,
      record { shows = all.1.shows; kept = record { files = files; keeps_files = kept; each = all.1.each } },
      segments_of all.0 all.1.segments,
    )
