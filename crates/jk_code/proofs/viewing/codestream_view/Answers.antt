use Rattle.std.proofs.Common.{◌≡◌, ℕ, List, Ok, refl, ◌∙◌, ap, sym, subst, length}
use Rattle.jk_math.specs.Picture.{IsPicture}
use Rattle.jk_math.specs.Lists.{lists_of}
use Rattle.jk_math.specs.Steps.{answers_same, answers_due}
use Rattle.jk_marks.specs.declared.siz.Siz.{Siz}
use Rattle.jk_marks.specs.Siz.{tile_count}
use Rattle.jk_params.specs.Headers.{Headers}
use Rattle.jk_params.specs.HeadersReading.{headers_at}
use Rattle.jk_window.specs.Views.{area_at}
use Rattle.jk_window.specs.declared.view.View.{View}
use Rattle.jk_tile.proofs.Laws.{bind_ok}
use Rattle.jk_code.specs.MeaningReading.{picture_with, planes_of_tiles}
use Rattle.jk_code.specs.ViewReading.{seen_packets_tested, seen_parts_tested, view_at, image_view_at}
use Rattle.jk_code.proofs.Planes.{tiles_are_picture}
use Rattle.jk_code.proofs.ViewLaws.{view_by}
use Rattle.jk_code.proofs.ViewSteps.{is_viewed}
use Rattle.jk_code.proofs.viewing.codestream_view.Goals as goal

image_view_by : (bytes : List ℕ) (h : Headers) (v : View) → headers_at bytes ≡ Ok h → view_at h bytes v ≡ image_view_at bytes v
unfolding image_view_at
image_view_by bytes h v is = rw is refl

pub window_planes-requires-clause-levels : goal.window_planes-requires-clause-levels
window_planes-requires-clause-levels c =
    (is_viewed (length c.args.bytes.now) c.in_ok-headers.headers c.args.view c.in_ok-window.window c.in_ok-headers.ensures.sound (sym c.in_ok-window.ensures.exact) c.in_ok-window.ensures.right c.in_ok-window.ensures.lower).levels

pub window_planes-requires-clause-window : goal.window_planes-requires-clause-window
window_planes-requires-clause-window c =
    (is_viewed (length c.args.bytes.now) c.in_ok-headers.headers c.args.view c.in_ok-window.window c.in_ok-headers.ensures.sound (sym c.in_ok-window.ensures.exact) c.in_ok-window.ensures.right c.in_ok-window.ensures.lower).area

pub window_planes-requires-clause-inside : goal.window_planes-requires-clause-inside
window_planes-requires-clause-inside c =
    (is_viewed (length c.args.bytes.now) c.in_ok-headers.headers c.args.view c.in_ok-window.window c.in_ok-headers.ensures.sound (sym c.in_ok-window.ensures.exact) c.in_ok-window.ensures.right c.in_ok-window.ensures.lower).inside

pub overflow_sub-width : goal.overflow_sub-width
overflow_sub-width c =
    let is = is_viewed (length c.args.bytes.now) c.in_ok-headers.headers c.args.view c.in_ok-window.window c.in_ok-headers.ensures.sound (sym c.in_ok-window.ensures.exact) c.in_ok-window.ensures.right c.in_ok-window.ensures.lower in
    is.inside.across

pub overflow_sub-height : goal.overflow_sub-height
overflow_sub-height c =
    let is = is_viewed (length c.args.bytes.now) c.in_ok-headers.headers c.args.view c.in_ok-window.window c.in_ok-headers.ensures.sound (sym c.in_ok-window.ensures.exact) c.in_ok-window.ensures.right c.in_ok-window.ensures.lower in
    is.inside.down

pub returns : goal.returns
returns c =
    let bytes = c.args.bytes.now in
    let h = c.in_ok-headers.headers in
    let v = c.args.view in
    let w = c.in_ok-window.window in
    let viewed = is_viewed (length bytes) h v w c.in_ok-headers.ensures.sound (sym c.in_ok-window.ensures.exact) c.in_ok-window.ensures.right c.in_ok-window.ensures.lower in
    let picture = picture_with h.siz w (planes_of_tiles bytes h v.reduce w) in
    let due : view_at h bytes v ≡ Ok picture =
    view_by bytes h v ∙ bind_ok (area_at h v) _ w (sym c.in_ok-window.ensures.exact) ∙ bind_ok (seen_packets_tested bytes h v.reduce w (tile_count h.siz)) _ tt c.in_ok-packets.ensures.exact
    ∙ bind_ok (seen_parts_tested bytes h v.reduce w (tile_count h.siz)) _ tt c.in_ok-planes.ensures.exact in
    let same = ap (λ (s : Siz). picture_with s w (lists_of c.in_ok-planes.planes.items)) c.siz-siz.ensures ∙ ap (picture_with h.siz w) c.in_ok-planes.ensures.planes in
    let is = subst IsPicture (sym same) (tiles_are_picture bytes h v.reduce w c.in_ok-headers.ensures.sound.siz viewed.frame) in
    answers_same (λ i. i) c.new.result (Ok picture) (image_view_at bytes v) (answers_due (λ i. i) c.new.result picture (c.new.ensures.made is ∙ ap Ok same)) (sym due ∙ image_view_by bytes h v c.in_ok-headers.ensures.exact)
