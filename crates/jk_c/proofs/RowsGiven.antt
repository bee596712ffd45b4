-- What is given of an image that was decoded row by row is what is due of its file.
use Rattle.std.proofs.Common.{◌≡◌, ℕ, ℤ, pos, true, false, List, Result, Ok, Err, subst}
use Rattle.std.specs.Prelude.{IfOk}
use Rattle.jk_math.specs.Answer.{Answers}
use Rattle.jk_math.specs.declared.fault.Fault.{Fault}
use Rattle.jk_math.specs.Picture.{Picture, IsPicture}
use Rattle.jk_math.proofs.Laws.{AreBytes}
use Rattle.jk_code.specs.Meaning.{Means}
use Rattle.jk_code.specs.MeaningReading.{meaning_at}
use Rattle.jk_code.proofs.Laws.{meant_picture, only_meaning}
use Rattle.jk_c.specs.Answers.{GivesPixelsOrMemory}
use Rattle.jk_c.specs.Pixels.{ArePixels}
use Rattle.jk_c.specs.Signed.{AreSignedPixels, GivesSignedOrMemory}
use Rattle.jk_c.specs.PixelRows.{GivesRows}
use Rattle.jk_c.proofs.Answering.{pixels_due, pixels_found, signed_due, signed_found}
use Rattle.jk_c.proofs.PixelLaws.{unsigned_given, signed_given}

-- a picture that a file means is one of the profile
answered_picture : (file : List ℕ) (d : ℕ) (r : Result Picture Fault) → AreBytes file → Answers (λ (p : Picture). p) r (meaning_at file d) → IfOk r IsPicture
answered_picture file d (Ok p) fits a = meant_picture file d p fits a
answered_picture file d (Err e) fits a = tt

-- what is answered of a file that means a picture
pub answered_only : (file : List ℕ) (d : ℕ) (r : Result Picture Fault) (p : Picture) → AreBytes file → Answers (λ (p : Picture). p) r (meaning_at file d) → Means file d p → Answers (λ (p : Picture). p) r (Ok p)
answered_only file d r p fits a m = subst (λ (due : Result Picture Fault). Answers (λ (p : Picture). p) r due) (only_meaning file d p fits m) a

module _ (file : List ℕ) (d bits : ℕ) (r : Result Picture Fault) (fits : AreBytes file) (answers : Answers (λ (p : Picture). p) r (meaning_at file d)) where
  pub unsigned_rows_due : (due : Result Picture Fault) (before after : List ℕ) (code : ℕ) → Answers (λ (p : Picture). p) r due → GivesRows (λ (x : ℕ). pos x) bits false r before code after → GivesPixelsOrMemory bits due before code after
  unsigned_rows_due due before after code a h = pixels_due bits r due before after code a (unsigned_given bits r before after code (answered_picture file d r fits answers) h)

  pub unsigned_rows_found : (before after : List ℕ) (code : ℕ) → IfOk r (Means file d) → GivesRows (λ (x : ℕ). pos x) bits false r before code after → code ≡ 0 → (p : Picture) × Means file d p × ArePixels p after
  unsigned_rows_found before after code has h done = pixels_found bits r (Means file d) before after code has (unsigned_given bits r before after code (answered_picture file d r fits answers) h) done

  pub signed_rows_due : (due : Result Picture Fault) (before after : List ℤ) (code : ℕ) → Answers (λ (p : Picture). p) r due → GivesRows (λ (x : ℤ). x) bits true r before code after → GivesSignedOrMemory bits due before code after
  signed_rows_due due before after code a h = signed_due bits r due before after code a (signed_given bits r before after code (answered_picture file d r fits answers) h)

  pub signed_rows_found : (before after : List ℤ) (code : ℕ) → IfOk r (Means file d) → GivesRows (λ (x : ℤ). x) bits true r before code after → code ≡ 0 → (p : Picture) × Means file d p × AreSignedPixels p after
  signed_rows_found before after code has h done = signed_found bits r (Means file d) before after code has (signed_given bits r before after code (answered_picture file d r fits answers) h) done
