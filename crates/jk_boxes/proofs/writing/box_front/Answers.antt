use Rattle.std.proofs.Common.{◌≡◌, ℕ, List, [], ◌∷◌, ◌++◌, length, Ok, Err, sym, ap, ◌∙◌}
use Rattle.std.proofs.lemmas.Bool.{cond-true}
use Rattle.jk_math.specs.declared.fault.Fault.TheVariants.{Unsupported}
use Rattle.jk_boxes.specs.Boxes.{boxes_text, signature}
use Rattle.jk_boxes.specs.Written.{file_type_box, header_box, code_box, is_wrapped, wrapped}
use Rattle.jk_boxes.proofs.writing.box_front.Goals as goal

pub returns : goal.returns
unfolding wrapped
returns c codestream long =
    let p = c.args.image.now in
    let text : (width height components depth : ℕ) → List ℕ = λ w h n d. signature ++ boxes_text (file_type_box ∷ header_box w h n d ∷ code_box codestream ∷ []) in
    let count = c.len-components.ensures ∙ ap (λ planes. length planes) c.planes.ensures in
    let same : text c.width-width.result c.height.result c.len-components.result c.depth.result ≡ text p.width p.height (length p.planes) p.depth =
    λ i. text (c.width-width.ensures.value i) (c.height.ensures i) (count i) (c.depth.ensures i) in
    cond-true (is_wrapped p) (Ok (text p.width p.height (length p.planes) p.depth)) (Err Unsupported) (sym c.is_wrapped.ensures ∙ c.if-not-is_wrapped.false)
    ∙ ap Ok (sym (c.in_ok-front.ensures.ok codestream long ∙ same))
