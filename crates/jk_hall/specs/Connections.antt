-- What is written on a connection that a reader attends to, of images.
use Rattle.std.specs.Prelude.{◌≤◌, ℕ, List, All, length, Result}
use Rattle.jk_math.specs.declared.fault.Fault.{Fault}
use Rattle.jk_web.specs.declared.serving.End.{End}
use Rattle.jk_web.specs.Cuts.{AreOf, Has}
use Rattle.jk_web.specs.Images.{Image, names_of}
use Rattle.jk_web.specs.Resources.{IsPathSegment}
use Rattle.jk_web.specs.Serving.{EndsConnection}
use Rattle.jk_web.specs.Turns.{IsReadIn}
use Rattle.jk_store.specs.Files.{Files}
use Rattle.jk_store.specs.Showing.{ShowImages, AreKept}
use Rattle.jk_hall.specs.declared.reader.Reader.{Reader}
use Rattle.jk_hall.specs.Kept.{KeepsCuts}
use Rattle.jk_hall.specs.Reading.{seen, cuts}
use Rattle.jk_hall.specs.Behind.{GivesFirst, GivesFirstKept, RefusesFor}

-- Of all images that what is seen at last shows: the replies are those to the first of them, more
-- and more, whatever the files hold by now, where each kept cut may have been made; and where the
-- files are kept, and each kept cut is an image's, no other file is sent.
module _ {S : Type 0} (keeps : S → Files → Type 0) (failed : S → ℕ) (gave : S → List ℕ → List ℕ → S → Type 0)
    (gave_at : S → List ℕ → ℕ → ℕ → List ℕ → S → Type 0) where
  pub record Attends (consumed appended : List ℕ → Type 0) (over : Type 0) (turns : ℕ) (s t : Reader × S)
      (result : Result End Fault) : Type 0 where
    pub any : (images : List Image) → ShowImages (seen t.0) images → KeepsCuts (seen s.0) (cuts s.0)
        → All IsPathSegment (names_of images)
        → (stream : List ℕ) × (text : List ℕ) × consumed stream × appended text
        × EndsConnection (GivesFirst failed gave gave_at images) RefusesFor s stream text over (turns ≤ length stream) t result
        × IsReadIn turns stream result
    pub same : (images : List Image) → ShowImages (seen t.0) images → KeepsCuts (seen s.0) (cuts s.0)
        → AreKept keeps s.1 images → AreOf (Has (cuts s.0)) images → All IsPathSegment (names_of images)
        → (stream : List ℕ) × (text : List ℕ) × consumed stream × appended text
        × EndsConnection (GivesFirstKept failed gave gave_at images) RefusesFor s stream text over (turns ≤ length stream) t result
        × IsReadIn turns stream result
