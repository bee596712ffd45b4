use Rattle.std.proofs.Common.{sym, subst, refl, true, is_some}
use Rattle.jk_mqenc.specs.Encoded.{EncoderView, Codes}
use Rattle.jk_mqenc.proofs.Encoding.{restarts-from, pass-restarts}
use Rattle.jk_mqenc.proofs.encoder.Encoder.reset.Goals as goal

pub invariant_of-self : goal.invariant_of-self
invariant_of-self c = λ lasts.
    let s = c.self.inside in
    let old : EncoderView = record { machine = s.coder; contexts = s.contexts; failed = is_some s.refused } in
    restarts-from old _ refl c.first_steps-self-inside.ensures lasts (c.self.invariant lasts)

pub returns-then-is_none-clause-codes : goal.returns-then-is_none-clause-codes
returns-then-is_none-clause-codes c = λ dss codes.
    let s = c.self.inside in
    let old : EncoderView = record { machine = s.coder; contexts = s.contexts; failed = is_some s.refused } in
    pass-restarts old _ dss refl c.first_steps-self-inside.ensures refl (subst (λ (v : EncoderView). Codes v true dss) (sym c.self.view_is) codes)
