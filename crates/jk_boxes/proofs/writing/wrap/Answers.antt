use Rattle.std.proofs.Common.{ℕ, inr, arith}
use Rattle.std.specs.Global.{Vec}
use Rattle.jk_math.specs.Steps.{if_ok_answers}
use Rattle.jk_boxes.proofs.WrittenLaws.{wrapped_holds}
use Rattle.jk_boxes.proofs.writing.wrap.Goals as goal

pub returns-clause-holds : goal.returns-clause-holds
returns-clause-holds c =
    if_ok_answers (λ (v : Vec ℕ). v.items) c.wrapping.result _ _ c.wrapping.ensures (λ v e. inr (wrapped_holds c.args.image.now c.args.codestream.now v.items (omega arith) e))
