-- What the file of a window shows on the window.
use Rattle.std.proofs.Common.{◌≡◌, ℕ, ◌+◌, ◌-◌, ◌<◌, List, [], length, map, Result, Ok, ℤ, sym, ap, ◌∙◌, arith}
use Rattle.std.specs.List.{range_with_len}
use Rattle.std.proofs.lemmas.List.{ext_get_or}
use Rattle.std.proofs.lemmas.List.FromFn.{length-map-range_with_len, get_or-map-range_with_len}
use Rattle.jk_math.specs.Answer.{◌>>=◌, refuse}
use Rattle.jk_math.specs.declared.fault.Fault.{Fault}
use Rattle.jk_math.specs.declared.fault.Fault.TheVariants.{BadWindow}
use Rattle.jk_math.specs.declared.rect.Rect.{Rect}
use Rattle.jk_math.specs.Picture.{Picture, sample_at}
use Rattle.jk_math.specs.Raster.{raster}
use Rattle.jk_math.proofs.Laws.{raster_same}
use Rattle.jk_geom.specs.Rectangles.{is_empty}
use Rattle.jk_window.specs.declared.view.View.{View}
use Rattle.jk_window.specs.Views.{window_in}
use Rattle.jk_code.specs.Viewing.{rect_of, picture_on, picture_of_view}
use Rattle.jk_code.specs.Windows.{IsSameOnWindow, IsWindowShown}
use Rattle.jk_code.proofs.WindowLaws.{window_meant}
use Rattle.jk_code.proofs.ViewLaws.{same_rect, of_view}

-- ---- its samples

same_planes : (v : View) (p q : Picture) → IsSameOnWindow v p q → (picture_on (window_in (rect_of p) v) q).planes ≡ (picture_on (window_in (rect_of p) v) p).planes
same_planes v p q same =
    let w = window_in (rect_of p) v in
    let f : ℕ → List ℤ = λ c. raster w (λ x y. sample_at q c (x - q.x0) (y - q.y0)) in
    let g : ℕ → List ℤ = λ c. raster w (λ x y. sample_at p c (x - p.x0) (y - p.y0)) in
    let m = length q.planes in
    let n = length p.planes in
    let count : m ≡ n = same.components in
    let long = length-map-range_with_len f 0 m in
    let longer = length-map-range_with_len g 0 n in
    ext_get_or [] (map f (range_with_len 0 m)) (map g (range_with_len 0 n)) (long ∙ count ∙ sym longer) (λ c lt.
    let less : c < m = omega (arith, lt, long) in
    let within : c < n = omega (arith, less, count) in
    get_or-map-range_with_len f 0 m c c [] less (omega arith)
    ∙ raster_same w (λ x y. sample_at q c (x - q.x0) (y - q.y0)) (λ x y. sample_at p c (x - p.x0) (y - p.y0)) (λ x y is.
    let left = is.left in
    let right = is.right in
    let upper = is.upper in
    let lower = is.lower in
    ap (λ k. sample_at q c (x - k) (y - q.y0)) same.left ∙ ap (λ k. sample_at q c (x - p.x0) (y - k)) same.upper
    ∙ same.samples c (x - p.x0) (y - p.y0) within (omega (arith, left, right)) (omega (arith, upper, lower))
    (omega (arith, left)) (omega (arith, left, right)) (omega (arith, upper)) (omega (arith, upper, lower)))
    ∙ sym (get_or-map-range_with_len g 0 n c c [] within (omega arith)))

-- ---- on the window

same_frame : (v : View) (p q : Picture) → IsSameOnWindow v p q → rect_of q ≡ rect_of p
same_frame v p q same =
    same_rect (rect_of q) (rect_of p) same.left same.upper
    (ap (λ k. k + q.width) same.left ∙ ap (λ k. p.x0 + k) same.width)
    (ap (λ k. k + q.height) same.upper ∙ ap (λ k. p.y0 + k) same.height)

same_on : (v : View) (p q : Picture) → IsSameOnWindow v p q → picture_on (window_in (rect_of p) v) q ≡ picture_on (window_in (rect_of p) v) p
same_on v p q same =
    let w = window_in (rect_of p) v in
    let on = picture_on w p in
    ap (λ k. record on { depth = k; signed = q.signed; planes = (picture_on w q).planes }) same.depth
    ∙ ap (λ k. record on { signed = k; planes = (picture_on w q).planes }) same.signed
    ∙ ap (λ k. record on { planes = k }) (same_planes v p q same)

-- Pictures that agree on the window of a view have the same picture there.
same_view : (v : View) (p q : Picture) → IsSameOnWindow v p q → picture_of_view v q ≡ picture_of_view v p
same_view v p q same =
    let on : Rect → Picture → Result Picture Fault = λ a x. refuse (is_empty (window_in a v)) BadWindow >>= λ _. Ok (picture_on (window_in a v) x) in
    of_view v q
    ∙ ap (λ (a : Rect). on a q) (same_frame v p q same)
    ∙ ap (λ (x : Picture). refuse (is_empty (window_in (rect_of p) v)) BadWindow >>= λ _. Ok x) (same_on v p q same)
    ∙ sym (of_view v p)

pub window_shown_by : IsWindowShown
window_shown_by bytes i is v reply due p m =
    let found = window_meant bytes i is v reply due p m in
    (found.0, found.1, same_view v p found.0 found.2)
