-- The window of a view, by the test and by what it says.
use Rattle.std.proofs.Common.{◌≡◌, Bool, true, false, not, length, Result, Ok, Err, refl, sym}
use Rattle.std.proofs.lemmas.Bool.{not-false}
use Rattle.jk_math.specs.Answer.{◌>>=◌, refuse}
use Rattle.jk_math.specs.Steps.{refuse_then, ok_is}
use Rattle.jk_math.specs.declared.fault.Fault.{Fault}
use Rattle.jk_math.specs.declared.fault.Fault.TheVariants.{BadWindow}
use Rattle.jk_math.specs.declared.rect.Rect.{Rect}
use Rattle.jk_marks.specs.Siz.{tile_count}
use Rattle.jk_geom.specs.Rectangles.{is_empty}
use Rattle.jk_params.specs.Headers.{Headers}
use Rattle.jk_window.specs.declared.view.View.{View}
use Rattle.jk_window.specs.Views.{frame_of, window_of, has_layer, HasArea, HasWindow, have_levels, area_at, window_at}
use Rattle.jk_params.proofs.Laws.{levels_found, levels_only}

-- what is found is the rectangle
pub area_found : (h : Headers) (v : View) (w : Rect) → length h.tiles ≡ tile_count h.siz → area_at h v ≡ Ok w → HasArea h v × (w ≡ window_of h v)
unfolding area_at
area_found h v w long e =
    refuse_then (not (have_levels h v.reduce)) BadWindow _ w e (λ levels e.
    refuse_then (is_empty (frame_of h v.reduce)) BadWindow _ w e (λ image e.
    refuse_then (is_empty (window_of h v)) BadWindow _ w e (λ some e.
    (record { levels = levels_found v.reduce (tile_count h.siz) h.tiles long (not-false (have_levels h v.reduce) levels); image = image; window = some }, sym (ok_is (window_of h v) w e)))))

-- and one that there is is found
pub area_only : (h : Headers) (v : View) → length h.tiles ≡ tile_count h.siz → HasArea h v → area_at h v ≡ Ok (window_of h v)
unfolding area_at
area_only h v long has =
    let levels : have_levels h v.reduce ≡ true = levels_only v.reduce (tile_count h.siz) h.tiles long has.levels in
    rw (levels, has.image, has.window) refl

refused : {A : Type 0} (b : Bool) (r : Result A Fault) (e : Fault) → (refuse b BadWindow >>= λ _. r) ≡ Err e → (r ≡ Err e → e ≡ BadWindow) → e ≡ BadWindow
refused true r e is more = cc
refused false r e is more = more is

-- no other fault is
pub area_refused : (h : Headers) (v : View) (e : Fault) → area_at h v ≡ Err e → e ≡ BadWindow
unfolding area_at
area_refused h v e is =
    refused (not (have_levels h v.reduce)) _ e is (λ is.
    refused (is_empty (frame_of h v.reduce)) _ e is (λ is.
    refused (is_empty (window_of h v)) _ e is (λ is. absurd cc)))

-- the same of the window
pub window_found : (h : Headers) (v : View) (w : Rect) → length h.tiles ≡ tile_count h.siz → window_at h v ≡ Ok w → HasWindow h v × (w ≡ window_of h v)
unfolding window_at
window_found h v w long e =
    refuse_then (not (has_layer v.layers)) BadWindow _ w e (λ layers e.
    let found = area_found h v w long e in
    (record { layers = not-false (has_layer v.layers) layers; area = found.0 }, found.1))

pub window_only : (h : Headers) (v : View) → length h.tiles ≡ tile_count h.siz → HasWindow h v → window_at h v ≡ Ok (window_of h v)
unfolding window_at
window_only h v long has = rw has.layers (area_only h v long has.area)

pub window_refused : (h : Headers) (v : View) (e : Fault) → window_at h v ≡ Err e → e ≡ BadWindow
unfolding window_at
window_refused h v e is = refused (not (has_layer v.layers)) _ e is (λ is. area_refused h v e is)

-- A window is the rectangle of its view.
pub window_area_is : (h : Headers) (v : View) (w : Rect) → window_at h v ≡ Ok w → area_at h v ≡ Ok w
unfolding window_at
window_area_is h v w e = refuse_then (not (has_layer v.layers)) BadWindow _ w e (λ layers e. e)
