use Rattle.std.proofs.Common.{false, ◌∷◌, [], ◌++◌, ◌≡◌, ◌∙◌, ap, sym, subst, refl, arith, is_some, Option}
use Rattle.jk_math.specs.declared.fault.Refused.{Refused}
use Rattle.jk_mqenc.specs.declared.registers.Registers.{Registers}
use Rattle.jk_mqenc.specs.Machine.{Machine}
use Rattle.jk_mqenc.specs.Encoded.{EncoderView, CodesFrom, Codes, with_registers, lasting}
use Rattle.jk_mqenc.proofs.Holdings.{held-bound}
use Rattle.jk_mqenc.proofs.Encoding.{held-of, codes-as, pass-more}
use Rattle.jk_mqenc.proofs.Settling.{IsReady, ready-coded}
use Rattle.jk_mqenc.proofs.encoder.Encoder.encode.Goals as goal

pub new-registers-requires : goal.new-registers-requires
new-registers-requires c =
    let r = subst (λ (m : Machine). IsReady m) (sym c.registers.ensures) (ready-coded _ c.self.invariant (ap (λ (x : Option Refused). is_some x) c.in_default.is)) in
    record { code = r.code; wide = r.wide; fits = r.fits; some = r.some; few = r.few }

pub caught_up-requires : goal.caught_up-requires
caught_up-requires c =
    let s = c.self.inside in
    let done = c.self.invariant (ap (λ (x : Option Refused). is_some x) c.in_default.is) in
    let same : with_registers s.coder c.new-registers.result ≡ s.coder = ap (λ (r : Registers). with_registers s.coder r) c.new-registers.ensures ∙ c.registers.ensures in
    let codes : CodesFrom done.0 done.1 (lasting (with_registers s.coder c.new-registers.result) s.contexts) done.2 = codes-as done.0 done.1 _ _ done.2 same refl refl done.3 in
    let m = with_registers c.encode_one.new.coder c.in-Ok.registers in
    let bound = held-bound m (held-of (lasting m c.encode_one.new.contexts) (λ _. (done.0, done.1, _, c.in-Ok.ensures.codes done.0 done.1 done.2 codes)) refl) in
    omega (arith, bound)

pub returns-in-Ok-clause-codes : goal.returns-in-Ok-clause-codes
returns-in-Ok-clause-codes c = λ r before ds codes.
    let s = c.self.inside in
    let old : EncoderView = record { machine = s.coder; contexts = s.contexts; failed = is_some s.refused } in
    let new : EncoderView = record { machine = c.restore.new.self; contexts = c.encode_one.new.contexts; failed = is_some s.refused } in
    let lasts : is_some s.refused ≡ false = ap (λ (x : Option Refused). is_some x) c.in_default.is in
    let same : with_registers s.coder c.new-registers.result ≡ s.coder = ap (λ (r : Registers). with_registers s.coder r) c.new-registers.ensures ∙ c.registers.ensures in
    let back : c.restore.new.self ≡ with_registers c.encode_one.new.coder c.in-Ok.registers =
    c.restore.ensures ∙ ap (λ (r : Registers). with_registers c.encode_one.new.coder r) c.caught_up.ensures in
    pass-more old new r before ds _ (λ m at xs from.
    codes-as m at (lasting (with_registers c.encode_one.new.coder c.in-Ok.registers) c.encode_one.new.contexts) new _ back refl lasts
    (c.in-Ok.ensures.codes m at xs (codes-as m at old (lasting (with_registers s.coder c.new-registers.result) s.contexts) xs same refl refl from)))
    (subst (λ (v : EncoderView). Codes v r (before ++ ds ∷ [])) (sym c.self.view_is) codes)
