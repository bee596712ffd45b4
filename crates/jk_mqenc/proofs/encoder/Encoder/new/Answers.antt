use Rattle.std.proofs.Common.{[], refl}
use Rattle.jk_model.specs.Decisions.{initial}
use Rattle.jk_mqenc.specs.Encoded.{started}
use Rattle.jk_mqenc.proofs.Encoding.{begun-from}
use Rattle.jk_mqenc.proofs.encoder.Encoder.new.Goals as goal

pub invariant_of-result : goal.invariant_of-result
invariant_of-result c = λ _. (started, initial, [], begun-from _ c.new.ensures c.first_steps.ensures refl)
