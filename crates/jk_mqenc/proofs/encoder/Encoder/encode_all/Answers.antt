use Rattle.std.proofs.Common.{◌≡◌, ap, sym, subst, refl, false, ◌∷◌, [], ◌++◌, Option, is_some}
use Rattle.jk_math.specs.declared.fault.Refused.{Refused}
use Rattle.jk_mqenc.specs.Encoded.{EncoderView, Codes, lasting}
use Rattle.jk_mqenc.proofs.Encoding.{pass-more, codes-as}
use Rattle.jk_mqenc.proofs.encoder.Encoder.encode_all.Goals as goal

pub returns-in-Ok-clause-codes : goal.returns-in-Ok-clause-codes
returns-in-Ok-clause-codes c = λ r before ds codes.
    let s = c.self.inside in
    let old : EncoderView = record { machine = s.coder; contexts = s.contexts; failed = is_some s.refused } in
    let new : EncoderView = record { machine = c.encode_list.new.coder; contexts = c.encode_list.new.contexts; failed = is_some s.refused } in
    let lasts : is_some s.refused ≡ false = ap (λ (x : Option Refused). is_some x) c.in_default.is in
    pass-more old new r before ds _ (λ m at xs from.
    codes-as m at (lasting c.encode_list.new.coder c.encode_list.new.contexts) new _ refl refl lasts
    (c.in-Ok.ensures.codes m at xs (codes-as m at old (lasting s.coder s.contexts) xs refl refl refl from)))
    (subst (λ (v : EncoderView). Codes v r (before ++ ds ∷ [])) (sym c.self.view_is) codes)
