use Rattle.std.proofs.Common.{◌∙◌, sym, subst}
use Rattle.jk_mqenc.specs.Encoded.{EncoderView, Codes}
use Rattle.jk_mqenc.proofs.Encoding.{codes-written}
use Rattle.jk_mqenc.proofs.encoder.Encoder.written.Goals as goal

pub returns : goal.returns
returns c = λ r dss codes. c.written.ensures ∙ codes-written _ r dss (subst (λ (v : EncoderView). Codes v r dss) (sym c.self.view_is) codes)
