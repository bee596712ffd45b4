use Rattle.std.proofs.Common.{sym, subst, ◌∙◌, arith}
use Rattle.jk_math.specs.Steps.{if_ok_answers, ok_is}
use Rattle.jk_code.specs.declared.frames.ImageFrame.{ImageFrame}
use Rattle.jk_code.specs.Frames.{frame_at, IsFrameOfPicture}
use Rattle.jk_code.proofs.MeaningLaws.{only_meaning}
use Rattle.jk_code.proofs.FrameHeaders.{framed, only_memory}
use Rattle.jk_code.proofs.frames.frame.Goals as goal

pub returns-clause-means : goal.returns-clause-means
returns-clause-means c = λ p m.
    let bytes = c.args.bytes.now in
    let d = c.args.reduce in
    let is = framed bytes d p (only_meaning bytes d p (λ i. omega (arith, c.type_inv.bytes i)) m) in
    if_ok_answers (λ f. f) c.file_frame.result (frame_at bytes d) (λ (f : ImageFrame). IsFrameOfPicture f p) c.file_frame.ensures
    (λ f e. subst (λ (f : ImageFrame). IsFrameOfPicture f p) (ok_is is.frame f (sym is.told ∙ e)) is.same)

pub returns-clause-given : goal.returns-clause-given
returns-clause-given c = λ p m.
    let bytes = c.args.bytes.now in
    let d = c.args.reduce in
    let is = framed bytes d p (only_meaning bytes d p (λ i. omega (arith, c.type_inv.bytes i)) m) in
    only_memory c.file_frame.result (frame_at bytes d) is.frame c.file_frame.ensures is.told
