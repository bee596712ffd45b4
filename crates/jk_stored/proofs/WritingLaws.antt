-- What was written of a window of a stored file.
use Rattle.std.proofs.Common.{◌≡◌, ℕ, List, [], Option, Some, None, Result, Ok, Err, inl, inr, sym, ◌∙◌, subst}
use Rattle.std.specs.Bool.{⊤}
use Rattle.std.specs.Option.{IfSome}
use Rattle.std.specs.Io.KnownBytes.{Appends}
use Rattle.jk_math.specs.Picture.{Picture}
use Rattle.jk_math.specs.declared.fault.Fault.{Fault}
use Rattle.jk_math.specs.declared.fault.Fault.TheVariants.{Unsupported, Shelf}
use Rattle.jk_math.proofs.Numbers.{AreBytes}
use Rattle.jk_pnm.specs.Written.{written as pnm_of}
use Rattle.jk_pnm.specs.Sending.{IsLeftBySending}
use Rattle.jk_window.specs.declared.view.View.{View}
use Rattle.jk_code.specs.Meaning.{Means}
use Rattle.jk_code.specs.ViewReading.{meaning_view_at}
use Rattle.jk_code.proofs.MeaningLaws.{only_meaning}
use Rattle.jk_code.proofs.ViewLaws.{meaning_shows}
use Rattle.jk_commands.specs.Commands.{window_decoded, window_given}
use Rattle.jk_commands.proofs.LeftLaws.{Wrote, left_as, window_is, given_is}

-- of the window of a file
pub window_written : (a b : Option (List ℕ)) (f : List ℕ) (v : View) (p : Picture) (r : Result ⊤ Fault) → meaning_view_at f v ≡ Ok p → Wrote a b (λ text. IsLeftBySending (pnm_of p) text r) → Wrote a b (λ text. IsLeftBySending (window_decoded f v) text r)
window_written a b f v p r is = left_as a b (pnm_of p) (window_decoded f v) r (sym (window_is f v p is))

-- of that of the picture that the file means
pub given_written : (a b : Option (List ℕ)) (f : List ℕ) (v : View) (p whole : Picture) (r : Result ⊤ Fault) → meaning_view_at f v ≡ Ok p → AreBytes f → Means f v.reduce whole → Wrote a b (λ text. IsLeftBySending (pnm_of p) text r)
    → Wrote a b (λ text. IsLeftBySending (window_given v whole) text r)
given_written a b f v p whole r is fits means =
    left_as a b (pnm_of p) (window_given v whole) r (sym (given_is v whole p (sym (meaning_shows f v whole (only_meaning f v.reduce whole fits means)) ∙ is)))

-- nothing of an image that has no file
pub unsupported_left : (a b : Option (List ℕ)) (due : Result (List ℕ) Fault) → Wrote a b (λ text. IsLeftBySending due text (Err Unsupported)) → Appends a b []
unsupported_left a b due wrote = elim wrote.2 [
  | inl memory ↦ subst (Appends a b) memory.1 wrote.1
  | inr other ↦ elim other [
    | inl refused ↦ subst (Appends a b) refused.1 wrote.1
    | inr sent ↦ elim sent.0 [
      | inl memory ↦ absurd memory
      | inr shelf ↦ absurd (let e : Unsupported ≡ Shelf = shelf in cc)
    ]
  ]
]

-- what is known of an end is known of it where it is told
pub if_told : (P : Result ⊤ Fault → Type 0) (o : Option (Result ⊤ Fault)) (r : Result ⊤ Fault) → IfSome o (λ s. s ≡ r) → P r → IfSome o P
if_told P None r is h = tt
if_told P (Some s) r is h = subst P (sym is) h
