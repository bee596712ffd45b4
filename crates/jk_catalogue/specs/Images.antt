-- Images by their names, whose files and windows can be had.
use Rattle.std.specs.Prelude.{◌≡◌, ℕ, ◌⊎◌, Bool, not, ◌==◌, List, map, find, Option, Some, None, IsTrue, All}
use Rattle.std.specs.Str.{bytes_eq}
use Rattle.jk_math.specs.declared.fault.Fault.{Fault}
use Rattle.jk_math.specs.declared.fault.Fault.TheVariants.{Memory, NoSuchImage, BadWindow, Shelf, Changed}
use Rattle.jk_window.specs.declared.view.View.{View}

-- An image: its name, its line in the list of images, its file, and the file of a window of it,
-- where it has that window.
pub record Image : Type 0 where
  pub name : List ℕ
  pub line : List ℕ
  pub file : List ℕ
  pub cut : View → Option (List ℕ)

-- the names of images
abbrev pub names_of : List Image → List (List ℕ)
names_of images = map (λ (i : Image). i.name) images

-- the image of a name
abbrev pub image_of : List ℕ → List Image → Option Image
image_of name images = find (λ (i : Image). bytes_eq name i.name) images

-- a byte of a segment of a path: any but the slash (RFC 3986, section 3.3)
abbrev pub is_segment_byte : ℕ → Bool
is_segment_byte b = not (b == 47)

abbrev pub IsPathSegment : List ℕ → Type 0
IsPathSegment name = All (λ b. IsTrue (is_segment_byte b)) name

-- What a call that reads the file of an image gives.
abbrev pub IsImageFile : Option Image → List ℕ → Type 0
IsImageFile None file = ⊥
IsImageFile (Some image) file = file ≡ image.file

-- What a call that cuts a window out of it gives.
abbrev pub IsCutOf : Option Image → View → List ℕ → Type 0
IsCutOf None asked file = ⊥
IsCutOf (Some image) asked file = image.cut asked ≡ Some file

-- that the image has no such window
abbrev pub HasNoCut : Option Image → View → Type 0
HasNoCut None asked = ⊥
HasNoCut (Some image) asked = image.cut asked ≡ None

-- Why such a call may refuse; broke: a file couldn't be read, or other bytes were read in its
-- place.
abbrev pub MayRefuse : Option Image → Type 0 → Type 0 → Fault → Type 0
MayRefuse image broke uncut (Memory r) = Unit {0}
MayRefuse image broke uncut NoSuchImage = image ≡ None
MayRefuse image broke uncut BadWindow = uncut
MayRefuse image broke uncut Shelf = broke
MayRefuse image broke uncut Changed = broke
MayRefuse image broke uncut e = ⊥

-- A file that was read in the place of the image's, and isn't the image's.
abbrev pub IsForeignFile : Option Image → (reads : List ℕ → Type 0) → List ℕ → Type 0
IsForeignFile None reads file = ⊥
IsForeignFile (Some image) reads file = reads file × (file ≡ image.file → ⊥)

-- A window that was cut of what was read in the place of the image's file, and isn't the image's.
abbrev pub IsOtherCut : Option Image → View → (cuts : List ℕ → Type 0) → List ℕ → Type 0
IsOtherCut None asked cuts cut = ⊥
IsOtherCut (Some image) asked cuts cut = cuts cut × (image.cut asked ≡ Some cut → ⊥)

-- Such a window of what was read between two states.
abbrev pub IsOtherRead : {S : Type 0} → (cuts : S → List ℕ → View → S → List ℕ → Type 0) → Option Image → S → List ℕ
    → View → S → List ℕ → Type 0
IsOtherRead cuts image s name asked t cut = IsOtherCut image asked (cuts s name asked t) cut

-- What a call gives, where nothing is known of files: what is due of the image's, or the same of
-- what was read in its place.
abbrev pub IsFileGiven : {S : Type 0} → Option Image → (reads : S → List ℕ → List ℕ → S → Type 0) → S → List ℕ → S
    → List ℕ → Type 0
IsFileGiven image reads s name t file = IsImageFile image file ⊎ IsForeignFile image (λ f. reads s name f t) file

abbrev pub IsCutGiven : {S : Type 0} → Option Image → View → (cuts : S → List ℕ → View → S → List ℕ → Type 0) → S
    → List ℕ → S → List ℕ → Type 0
IsCutGiven image asked cuts s name t cut = IsCutOf image asked cut ⊎ IsOtherRead cuts image s name asked t cut

-- Each cut of the one, of such a view of the image of a name, is one of the other.
abbrev pub Within : (List ℕ → View → List ℕ → Type 0) → (List ℕ → View → List ℕ → Type 0) → Type 0
Within cuts others = (n : List ℕ) (a : View) (b : List ℕ) → cuts n a b → others n a b
