use Rattle.std.proofs.Common.{◌++◌, List, ℕ, length, length-append, refl, sym, ap, ◌∙◌, subst, arith}
use Rattle.std.specs.List.{flat_map}
use Rattle.jk_marks.specs.Markers.{eoc, marker_text}
use Rattle.jk_marks.specs.HeaderReading.{main_at}
use Rattle.jk_params.specs.Headers.{IsHeaders}
use Rattle.jk_stored.specs.Outlines.{shortened}
use Rattle.jk_stored.proofs.WindowDone.{window_done}
use Rattle.jk_stored.proofs.codestream.window_codestream.Goals as goal

pub make-requires-clause-long : goal.make-requires-clause-long
make-requires-clause-long g c =
    let e = c.in_ok-outline.ensures in
    let long = ap (λ (xs : List ℕ). length xs) e.2 in
    omega (arith, long, length-append e.0 (flat_map shortened e.1 ++ marker_text eoc), length-append (flat_map shortened e.1) (marker_text eoc))

pub returns : goal.returns
returns g c = λ code keeping whole.
    let e = c.in_ok-outline.ensures in
    let m = c.in_ok-made.ensures in
    let o = c.in_ok-outline.outline in
    window_done code o.bytes.items e.0 e.1 c.in_ok-headers.headers (c.in_ok-main.field-0-0, c.in_ok-main.main) o.main _ c.in_ok-window.window c.args.view m.0 c.in_ok-made.made.items e.2
    (subst (λ (xs : List ℕ). IsHeaders xs c.in_ok-headers.headers) c.deref.ensures.value c.in_ok-headers.ensures.found)
    (ap main_at (sym c.deref-2.ensures.value) ∙ sym c.in_ok-main.ensures.exact)
    (omega (arith, c.if-main-outline.false)) e.3 (e.5 code keeping whole) (sym c.in_ok-window.ensures.exact) refl m.1 (m.2 ∙ e.4) m.3 m.4 (m.5 code keeping whole (c.in_ok-hand.ensures.held code))
