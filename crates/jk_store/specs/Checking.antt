-- What checking an archive finds of the files of a shelf.
use Rattle.std.specs.Prelude.{◌≡◌, ℕ, Bool, true, if◌then◌else◌, ◌⊎◌, List, [], ◌∷◌, ◌++◌, map, All}
use Rattle.std.specs.Prelude.{Option, Some, None, Result, Ok, Err, MatchResult}
use Rattle.std.specs.Global.{Vec}
use Rattle.std.specs.List.{AllZip}
use Rattle.std.specs.Str.{bytes_eq}
use Rattle.std.specs.String.{string_bytes}
use Rattle.jk_math.specs.Answer.{◌>>=◌, Refuses}
use Rattle.jk_math.specs.Memory.{IsMemory}
use Rattle.jk_math.specs.declared.fault.Fault.{Fault}
use Rattle.jk_math.specs.declared.fault.Fault.TheVariants.{Shelf}
use Rattle.jk_math.specs.Picture.{Picture}
use Rattle.sha2.specs.Sha256.{sha256}
use Rattle.jk_window.specs.Indexing.{IndexFields}
use Rattle.jk_code.specs.Meaning.{Means}
use Rattle.jk_code.specs.MeaningReading.{meaning_at}
use Rattle.jk_store.specs.Files.{Files}
use Rattle.jk_store.specs.Names.{file_name}
use Rattle.jk_store.specs.Catalogue.{image_at}
use Rattle.jk_store.specs.Opening.{GivesFile, AreNamesIn}
use Rattle.jk_store.specs.declared.checking.FileRead.{FileRead}
use Rattle.jk_store.specs.declared.checking.Checking.{Checking}
use Rattle.jk_store.specs.declared.checked.Checked.{Checked}
use Rattle.jk_store.specs.declared.checked.Finding.{Finding}
use Rattle.jk_store.specs.declared.checked.Finding.TheVariants.{Whole, Broken, Unread}

-- the first fault of the file of an image: of its boxes, headers and packets, and then, where these
-- are judged, of its code-blocks
unfoldable pub check_at : (blocks : Bool) → List ℕ → Result (Unit {0}) Fault
check_at blocks bytes = do
  _ ← image_at bytes
  if blocks then (meaning_at bytes 0 >>= λ _. Ok tt) else Ok tt

-- A file is that of an image: it has an index, and, where its code-blocks are judged, it means a
-- picture.
pub record IsImage (blocks : Bool) (bytes : List ℕ) : Type 0 where
  pub index : (i : IndexFields) × (image_at bytes ≡ Ok i)
  pub means : blocks ≡ true → (p : Picture) × Means bytes 0 p

-- a file as a shelf gave it: the name of its image, and its bytes, or why there are none
pub record GivenFile : Type 0 where
  pub name : List ℕ
  pub bytes : Result (List ℕ) Fault

-- What is found of a file. It is whole with the digest of its bytes if it is an image; it is broken
-- with that digest and its first fault, or because memory was refused, which alone says this of an
-- image; where there are no bytes it isn't read.
abbrev pub IsFindingOf : (blocks : Bool) → Result (List ℕ) Fault → Finding → Type 0
IsFindingOf blocks (Ok bytes) (Whole digest) = (digest ≡ sha256 bytes) × IsImage blocks bytes
IsFindingOf blocks (Ok bytes) (Broken digest e) = (digest ≡ sha256 bytes) × Refuses e (check_at blocks bytes)
    × (IsImage blocks bytes → IsMemory e)
IsFindingOf blocks (Ok bytes) (Unread e) = ⊥
IsFindingOf blocks (Err e) (Whole digest) = ⊥
IsFindingOf blocks (Err e) (Broken digest f) = ⊥
IsFindingOf blocks (Err e) (Unread f) = f ≡ e

-- what is found of a file, under the name of its image
pub record IsFoundOf (blocks : Bool) (f : GivenFile) (c : Checked) : Type 0 where
  pub name : string_bytes c.name ≡ f.name
  pub finding : IsFindingOf blocks f.bytes c.finding

module _ {S : Type 0} (keeps : S → Files → Type 0) (gave : S → List ℕ → List ℕ → S → Type 0)
    (unread : S → List ℕ → S → Type 0) where
  -- The shelf was asked for the file of an image. It gave these bytes; or it failed, or memory was
  -- refused, and it keeps what it kept.
  abbrev pub WasAsked : S → List ℕ → Result (List ℕ) Fault → S → Type 0
  WasAsked old n (Ok bytes) new = GivesFile keeps gave old (file_name n) bytes new
  WasAsked old n (Err e) new = (IsMemory e ⊎ ((e ≡ Shelf) × unread old (file_name n) new))
      × ((files : Files) → keeps old files → keeps new files)

  -- From one state of the shelf to another it was asked for the files of these images in turn.
  abbrev pub AskedInTurn : List (List ℕ) → S → List GivenFile → S → Type 0
  AskedInTurn [] old given new = (given ≡ []) × (new ≡ old)
  AskedInTurn (n ∷ names) old given new = (bytes : Result (List ℕ) Fault) × (more : List GivenFile) × (mid : S)
      × (given ≡ (record { name = n; bytes = bytes }) ∷ more) × WasAsked old n bytes mid
      × AskedInTurn names mid more new

  -- The shelf listed its files, was asked for those of its images in the order of their names, and
  -- this was found of them.
  abbrev pub ChecksAs : (lists : S → List (List ℕ) → S → Type 0) → (blocks : Bool) → S → List Checked → S → Type 0
  ChecksAs lists blocks old found new = (files : List (List ℕ)) × (names : List (List ℕ)) × (given : List GivenFile)
      × (mid : S) × lists old files mid × AreNamesIn files names × AskedInTurn names mid given new
      × AllZip (IsFoundOf blocks) given found

-- what is found of the image of a name, if anything is
abbrev pub finding_of : List Checked → List ℕ → Option Finding
finding_of [] n = None
finding_of (c ∷ found) n = if bytes_eq (string_bytes c.name) n then Some c.finding else finding_of found n

-- This is found of the image whose file has these bytes, unless they can't be read.
abbrev pub IsFindingFor : (blocks : Bool) → List ℕ → Finding → Type 0
IsFindingFor blocks bytes (Whole digest) = IsFindingOf blocks (Ok bytes) (Whole digest)
IsFindingFor blocks bytes (Broken digest e) = IsFindingOf blocks (Ok bytes) (Broken digest e)
IsFindingFor blocks bytes (Unread e) = IsMemory e ⊎ (e ≡ Shelf)

-- ---- while an archive is checked

abbrev pub given_bytes : Result (Vec ℕ) Fault → Result (List ℕ) Fault
given_bytes (Ok v) = Ok v.items
given_bytes (Err e) = Err e

abbrev pub given_file : FileRead → GivenFile
given_file f = record { name = string_bytes f.name; bytes = given_bytes f.bytes }

-- what the job of a file gives
abbrev pub IsJudged : FileRead → Result Checked Fault → Type 0
IsJudged f r = MatchResult r (IsFoundOf f.blocks (given_file f)) IsMemory

-- Of these files something was found, or they wait to be judged.
abbrev pub AreTaken : Bool → List GivenFile → Checking → Type 0
AreTaken blocks given c = (front : List GivenFile) × (given ≡ front ++ map given_file c.batch.items)
    × AllZip (IsFoundOf blocks) front c.found.items × All (λ f. f.blocks ≡ blocks) c.batch.items
