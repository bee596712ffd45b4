-- What a window of an entry's file is.
use Rattle.std.proofs.Common.{◌≡◌, ℕ, List, Result, Ok, Err, IfOk, refl, subst}
use Rattle.std.specs.Global.{Vec}
use Rattle.std.specs.Result.{IsErr}
use Rattle.jk_math.specs.Answer.{Answers, Refuses}
use Rattle.jk_math.specs.declared.rect.Rect.{Rect}
use Rattle.jk_math.specs.declared.fault.Fault.{Fault}
use Rattle.jk_math.specs.declared.fault.Fault.TheVariants.{BadWindow}
use Rattle.jk_math.specs.Picture.{Picture}
use Rattle.jk_window.specs.declared.view.View.{View}
use Rattle.jk_params.proofs.Laws.{sound_headers}
use Rattle.jk_window.specs.Views.{HasWindow, window_at}
use Rattle.jk_window.specs.Indexing.{IndexFields, IsIndexOf}
use Rattle.jk_window.specs.Cutting.{cut_file}
use Rattle.jk_window.proofs.Laws.{window_found, window_refused}
use Rattle.jk_code.specs.Meaning.{MeansLayers}
use Rattle.jk_code.specs.Windows.{IsWindowOf}
use Rattle.jk_store.specs.declared.entry.Entry.{Entry}
use Rattle.jk_store.specs.Catalogue.{IsFileOf, IsCutFrom, IsWindowGiven}

module _ {S X : Type 0} (items : X → List ℕ) (gave : S → List ℕ → List ℕ → S → Type 0) (e : Entry) (v : View) (old new : S) (file : List ℕ) (is_file : IsFileOf gave e old file new) where
  pub cut_given : (r : Result X Fault) → ((is : IsIndexOf file e.index) → Answers items r (cut_file is v))
      → (IsIndexOf file e.index → (p : Picture) → MeansLayers file v.reduce v.layers p → IfOk r (λ w. IsWindowOf v p (items w)))
      → IfOk r (λ w. (f : List ℕ) × IsFileOf gave e old f new × IsCutFrom e.index v f (items w))
  cut_given (Ok w) exact means = (file, is_file, record { cut = exact; means = means })
  cut_given (Err x) exact means = tt

-- ---- a file that the shelf keeps

-- where the view has no window, there is none to be cut
pub no_window_cut : {bytes : List ℕ} {i : IndexFields} (is : IsIndexOf bytes i) (v : View) → (HasWindow i.headers v → ⊥) → cut_file is v ≡ Err BadWindow
no_window_cut {bytes} {i} is v none = by (window_at i.headers v) refl
  where
    by : (r : Result Rect Fault) → window_at i.headers v ≡ r → cut_file is v ≡ Err BadWindow
    by (Ok w) e = absurd (none (window_found i.headers v w (sound_headers is.codestream i.headers is.says).tiles e).0)
    by (Err x) e = rw (e, window_refused i.headers v x e) refl

given_exact : (r : Result (Vec ℕ) Fault) (due : Result (List ℕ) Fault) → Answers (λ (w : Vec ℕ). w.items) r due → IsWindowGiven due r
given_exact (Ok w) due exact = exact
given_exact (Err e) due exact = λ bad. refused_with e due exact bad
  where
    refused_with : (x : Fault) (d : Result (List ℕ) Fault) → Refuses x d → x ≡ BadWindow → d ≡ Err BadWindow
    refused_with x d h bad = subst (λ y. Refuses y d) bad h

-- what is answered of other bytes that are the file
pub given_at : {i : IndexFields} (v : View) (bytes file : List ℕ) (r : Result (Vec ℕ) Fault) → bytes ≡ file → ((is : IsIndexOf bytes i) → Answers (λ (w : Vec ℕ). w.items) r (cut_file is v))
    → (is : IsIndexOf file i) → IsWindowGiven (cut_file is v) r
given_at {i} v bytes file r same exact is =
    given_exact r (cut_file is v) (subst (λ (b : List ℕ). (has : IsIndexOf b i) → Answers (λ (w : Vec ℕ). w.items) r (cut_file has v)) same exact is)

-- where the view has no window, BadWindow is due
pub unseen_given : (r : Result (Vec ℕ) Fault) (due : Result (List ℕ) Fault) → IsErr r → due ≡ Err BadWindow → IsWindowGiven due r
unseen_given (Ok w) due err is = absurd (let clash = err in cc)
unseen_given (Err e) due err is = λ bad. is
