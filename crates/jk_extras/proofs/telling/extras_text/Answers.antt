use Rattle.std.proofs.Common.{ℕ}
use Rattle.std.specs.Global.{Vec}
use Rattle.jk_math.specs.Steps.{if_ok_answers}
use Rattle.jk_extras.specs.Texts.{HasTold, extras_text}
use Rattle.jk_extras.proofs.Copies.{has_told}
use Rattle.jk_extras.proofs.telling.extras_text.Goals as goal

pub returns-clause-found : goal.returns-clause-found
returns-clause-found c = λ codestream j.
    if_ok_answers (λ (v : Vec ℕ). v.items) c.text.result (extras_text c.args.file.now) (λ (v : Vec ℕ). HasTold j v.items) c.text.ensures
    (λ v due. has_told c.args.file.now codestream j v.items due)
