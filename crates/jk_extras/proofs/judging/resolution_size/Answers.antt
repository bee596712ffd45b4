use Rattle.std.proofs.Common.{◌≡◌, ◌+◌, ◌++◌, true, List, ℕ, [], length, ap, sym, ◌∙◌, arith}
use Rattle.std.proofs.lemmas.List.{length-append}
use Rattle.std.proofs.lemmas.List.Concat.{flat_map-append}
use Rattle.jk_boxes.specs.Boxes.{box_text, boxes_text}
use Rattle.jk_extras.specs.Grids.{capture_kind, display_kind}
use Rattle.jk_extras.specs.Extras.{resolution_box, has_grids, grid_boxes}
use Rattle.jk_extras.proofs.Sizes.{text_size}
use Rattle.jk_extras.proofs.judging.resolution_size.Goals as goal

pub returns-clause-size : goal.returns-clause-size
returns-clause-size c =
    let e = c.args.extras.now in
    let a = grid_boxes capture_kind e.capture in
    let b = grid_boxes display_kind e.display in
    let given : has_grids e ≡ true = sym c.has_grids.ensures ∙ c.if-not-has_grids.false in
    let inside : length (boxes_text (a ++ b)) ≡ length (boxes_text a) + length (boxes_text b) =
    ap (λ (x : List ℕ). length x) (flat_map-append box_text a b) ∙ length-append (boxes_text a) (boxes_text b) in
    rw given (omega (arith, text_size (resolution_box e) [], inside, c.grid_size.ensures.size capture_kind, c.grid_size-2.ensures.size display_kind))
