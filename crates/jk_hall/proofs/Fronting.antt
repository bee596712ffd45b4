-- The first images, which the first entries show.
use Rattle.std.proofs.Common.{◌≡◌, ℕ, zero, suc, Bool, true, false, cond, List, [], ◌∷◌, ◌++◌, length, take, Option, Some, None, refl, sym, subst}
use Rattle.std.specs.List.{AllByRecursion, AllZip}
use Rattle.std.specs.Str.{bytes_eq}
use mathlib.Core.List.{IsPrefix}
use Rattle.jk_web.specs.Cuts.{AreOf, Has, KeptCut}
use Rattle.jk_web.specs.Images.{Image, image_of, IsCutOf}
use Rattle.jk_store.specs.Files.{Files}
use Rattle.jk_store.specs.Names.{file_name}
use Rattle.jk_store.specs.Showing.{ShowsImage, ShowImages, AreKept}
use Rattle.jk_store.specs.declared.entry.Entry.{Entry}
use Rattle.jk_store.proofs.Laws.{shown_at}
use Rattle.jk_hall.specs.Kept.{KeepsCuts}

zip_front : {A B : Type 0} (R : A → B → Type 0) (xs ys : List A) (zs : List B) → AllZip R (xs ++ ys) zs → AllZip R xs (take (length xs) zs)
zip_front R [] ys zs a = tt
zip_front R (x ∷ xs) ys [] a = absurd a
zip_front R (x ∷ xs) ys (z ∷ zs) a = (a.0, zip_front R xs ys zs a.1)

pub shown_front : (front last : List Entry) (images : List Image) → IsPrefix front last → ShowImages last images → ShowImages front (take (length front) images)
shown_front front last images p shows = zip_front ShowsImage front p.0 images (subst (λ (v : List Entry). ShowImages v images) (sym p.1) shows)

-- The image of a name among the first is that among all.
image_front : (n : List ℕ) (k : ℕ) (images : List Image) (i : Image) → image_of n (take k images) ≡ Some i → image_of n images ≡ Some i
image_front n zero images i h = absurd cc
image_front n (suc k) [] i h = absurd cc
image_front n (suc k) (j ∷ images) i h = by (bytes_eq n j.name) (image_front n k images i) h
  where
    by : (b : Bool) → (image_of n (take k images) ≡ Some i → image_of n images ≡ Some i)
        → cond b (Some j) (image_of n (take k images)) ≡ Some i → cond b (Some j) (image_of n images) ≡ Some i
    by true later h = h
    by false later h = later h

-- Cuts of the first images are cuts of all.
pub cuts_all : (k : ℕ) (images : List Image) (kept : List KeptCut) → AreOf (Has kept) (take k images) → AreOf (Has kept) images
cuts_all k images kept of n a b has = by (image_of n (take k images)) (image_front n k images) (of n a b has)
  where
    by : (o : Option Image) → ((i : Image) → o ≡ Some i → image_of n images ≡ Some i) → IsCutOf o a b → IsCutOf (image_of n images) a b
    by None up is = absurd is
    by (Some i) up is = subst (λ (o : Option Image). IsCutOf o a b) (sym (up i refl)) is

-- Of cuts that may have been made for the first entries, each that is an image's is one of the first.
pub cuts_front : (front : List Entry) (images : List Image) (kept : List KeptCut) → KeepsCuts front kept → ShowImages front (take (length front) images)
    → AreOf (Has kept) images → AreOf (Has kept) (take (length front) images)
cuts_front front images kept held shows of n a b has =
    let made = held n a b has in
    let at = shown_at n front made.0 (take (length front) images) shows made.2 in
    let all : image_of n images ≡ Some at.image = image_front n (length front) images at.image at.is in
    subst (λ (o : Option Image). IsCutOf o a b) (sym at.is) (subst (λ (o : Option Image). IsCutOf o a b) all (of n a b has))

each_front : {A : Type 0} (P : A → Type 0) (n : ℕ) (xs : List A) → AllByRecursion P xs → AllByRecursion P (take n xs)
each_front P zero xs a = tt
each_front P (suc n) [] a = tt
each_front P (suc n) (x ∷ xs) a = (a.0, each_front P n xs a.1)

module _ {S : Type 0} (keeps : S → Files → Type 0) where
  -- Where the files of images are kept, those of the first are.
  pub kept_front : (s : S) (k : ℕ) (images : List Image) → AreKept keeps s images → AreKept keeps s (take k images)
  kept_front s k images kept = record {
    files = kept.files;
    keeps_files = kept.keeps_files;
    each = each_front (λ (i : Image). kept.files (file_name i.name) ≡ Some i.file) k images kept.each;
  }

  pub kept_on : (s t : S) (images : List Image) → ((files : Files) → keeps s files → keeps t files) → AreKept keeps s images → AreKept keeps t images
  kept_on s t images on kept = record { files = kept.files; keeps_files = on kept.files kept.keeps_files; each = kept.each }
