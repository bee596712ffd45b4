-- A file that is read in rows is read as a whole one is.
use Rattle.std.proofs.Common.{◌≡◌, ℕ, Bool, true, false, not, eqb, List, length, Result, Ok, Err, IfOk, IfErr, refl, sym, ap, ◌∙◌}
use Rattle.jk_math.specs.Answer.{◌>>=◌, refuse, AnswersExactly}
use Rattle.jk_math.specs.Steps.{guard_ended}
use Rattle.jk_math.specs.Picture.{Picture, IsPicture}
use Rattle.jk_math.specs.declared.fault.Fault.{Fault}
use Rattle.jk_math.specs.declared.fault.Fault.TheVariants.{BadPnm}
use Rattle.jk_pnm.specs.declared.header.Header.{Header}
use Rattle.jk_pnm.specs.Pnm.{IsPnm}
use Rattle.jk_pnm.specs.Reading.{header_at, raster_size, samples_of, are_below, picture_at, pnm_at}
use Rattle.jk_pnm.specs.RasterRows.{Drawing, IsDrawing, drawing_at, drawn, picture_told}
use Rattle.jk_pnm.proofs.PictureLaws.{picture_below, picture_ok}
use Rattle.jk_pnm.proofs.FileLaws.{pnm_found, pnm_again}

behind_size : (b : Bool) (x : Header × List ℕ) → (refuse b BadPnm >>= (λ t. picture_at x.0 x.1))
    ≡ ((refuse b BadPnm >>= (λ t. let r : Result Drawing Fault = Ok (record { header = x.0; raster = x.1 }) in r)) >>= (λ (d : Drawing). picture_told d))
behind_size true x = refl
behind_size false x = refl

behind_header : (r : Result (Header × List ℕ) Fault) → (r >>= (λ x. refuse (not (eqb (length x.1) (raster_size x.0))) BadPnm >>= (λ t. picture_at x.0 x.1)))
    ≡ ((r >>= (λ x. refuse (not (eqb (length x.1) (raster_size x.0))) BadPnm >>= (λ t. let r : Result Drawing Fault = Ok (record { header = x.0; raster = x.1 }) in r))) >>= (λ (d : Drawing). picture_told d))
behind_header (Ok x) = behind_size (not (eqb (length x.1) (raster_size x.0))) x
behind_header (Err e) = refl

pnm_is : (bytes : List ℕ) → pnm_at bytes ≡ (drawing_at bytes >>= (λ (d : Drawing). picture_told d))
unfolding pnm_at drawing_at
pnm_is bytes = behind_header (header_at bytes)

pnm_judged : (bytes : List ℕ) (d : Drawing) → drawing_at bytes ≡ Ok d → pnm_at bytes ≡ picture_told d
pnm_judged bytes d e = pnm_is bytes ∙ ap (λ (r : Result Drawing Fault). r >>= (λ (d : Drawing). picture_told d)) e

pnm_refused : (bytes : List ℕ) (e : Fault) → drawing_at bytes ≡ Err e → pnm_at bytes ≡ Err e
pnm_refused bytes e h = pnm_is bytes ∙ ap (λ (r : Result Drawing Fault). r >>= (λ (d : Drawing). picture_told d)) h

-- what is drawn is what is read, where no sample is above maxval
pub drawn_judged : (d : Drawing) → IsDrawing d → IsPicture (drawn d) → picture_told d ≡ Ok (drawn d)
drawn_judged d is picture = picture_ok d.header d.raster (picture_below d.header d.raster is.maxval picture)

judged_drawn : (d : Drawing) (p : Picture) → picture_told d ≡ Ok p → drawn d ≡ p
unfolding picture_at
judged_drawn d p e = (guard_ended (are_below d.header.maxval (samples_of d.header d.raster)) BadPnm (drawn d) p e).1

pub rows_judged : {X : Type 0} (view : X → Drawing) (r : Result X Fault) (bytes : List ℕ) → AnswersExactly view r (drawing_at bytes) → IfOk r (λ x. pnm_at bytes ≡ picture_told (view x))
rows_judged view (Ok x) bytes a = pnm_judged bytes (view x) a
rows_judged view (Err e) bytes a = tt

pub rows_unread : {X : Type 0} (view : X → Drawing) (r : Result X Fault) (bytes : List ℕ) → AnswersExactly view r (drawing_at bytes) → IfErr r (λ e. pnm_at bytes ≡ Err e)
rows_unread view (Ok x) bytes a = tt
rows_unread view (Err e) bytes a = pnm_refused bytes e a

pub rows_found : {X : Type 0} (view : X → Drawing) (r : Result X Fault) (bytes : List ℕ) → AnswersExactly view r (drawing_at bytes) → IfOk r (λ x. IsDrawing (view x))
    → IfOk r (λ x. IsPicture (drawn (view x)) → IsPnm bytes (drawn (view x)))
rows_found view (Ok x) bytes a is = λ picture. pnm_found bytes (drawn (view x)) (pnm_judged bytes (view x) a ∙ drawn_judged (view x) is picture)
rows_found view (Err e) bytes a is = tt

abbrev read_as : Picture → Result Picture Fault
read_as p = Ok p

abbrev refused_for : Fault → Result Picture Fault
refused_for e = Err e

pub rows_only : {X : Type 0} (view : X → Drawing) (r : Result X Fault) (bytes : List ℕ) (p : Picture) → AnswersExactly view r (drawing_at bytes) → IsPnm bytes p
    → AnswersExactly (λ x. drawn (view x)) r (Ok p)
rows_only view (Ok x) bytes p a is = sym (ap read_as (judged_drawn (view x) p (sym (pnm_judged bytes (view x) a) ∙ pnm_again bytes p is)))
rows_only view (Err e) bytes p a is = absurd (let both : read_as p ≡ refused_for e = sym (pnm_again bytes p is) ∙ pnm_refused bytes e a in cc)
