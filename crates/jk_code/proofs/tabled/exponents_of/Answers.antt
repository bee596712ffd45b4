use Rattle.std.proofs.Common.{get_or, sym, ap, ◌∙◌, arith}
use Rattle.std.specs.Prelude.{slice_index}
use Rattle.jk_params.specs.declared.picture_frame.PictureFrame.{PictureFrame}
use Rattle.jk_tile.specs.encoding.Needs.{exponents_with}
use Rattle.jk_code.specs.ComingRows.{component_of}
use Rattle.jk_tile.proofs.Laws.{exponents_are, room_late}
use Rattle.jk_code.proofs.ComingLaws.{coming_levels}
use Rattle.jk_code.proofs.tabled.exponents_of.Goals as goal

pub returns-clause-value : goal.returns-clause-value
returns-clause-value c p is same coded =
    let s = c.args.coming.now in
    let q = s.parameters.now in
    c.exponents_with.ensures ∙ ap (λ d. exponents_with d q.levels (slice_index c.needs_of-needs.result)) (sym (ap (λ (f : PictureFrame). f.depth) same))
    ∙ exponents_are p q (slice_index c.needs_of-needs.result) (c.needs_of-needs.ensures.needs p same coded)

pub returns-clause-room : goal.returns-clause-room
returns-clause-room c p is same coded t other lt =
    let s = c.args.coming.now in
    room_late p s.parameters.now (component_of s t) (slice_index c.needs_of-needs.result) (get_or c.args.tiles.now t other) (coming_levels s c.requires.coming) (λ b few. (let e = c.needs_of-needs.ensures.needs p same coded b few in omega (arith, e)))
    (c.needs_of-needs.ensures.room t other lt)
