use Rattle.std.proofs.Common.{◌≡◌, ◌∙◌, ap, sym, subst, ℕ, Bool, List, ◌++◌, ◌-◌, take, get_or, length, ◌<◌, Option, is_some}
use Rattle.jk_math.specs.declared.fault.Refused.{Refused}
use Rattle.jk_model.specs.Code.{is_last}
use Rattle.jk_model.specs.Decisions.{Decision}
use Rattle.jk_model.specs.CodingPasses.{SpellsPasses}
use Rattle.jk_mqenc.specs.Encoded.{EncoderView, Codes, finished}
use Rattle.jk_mqenc.proofs.Encoding.{held-of, coded-of, wide-of, count-of, codes-finished, finished-spells}
use Rattle.jk_mqenc.proofs.Finals.{finished-prefix, finished-shorter}
use Rattle.jk_mqenc.proofs.Unmarked.{flushed-unmarked}
use Rattle.jk_mqenc.proofs.encoder.Encoder.finish.Goals as goal

pub finish-requires-clause-count : goal.finish-requires-clause-count
finish-requires-clause-count c = count-of _ c.self.invariant (ap (λ (x : Option Refused). is_some x) c.in_default.is)

pub finish-requires-clause-width : goal.finish-requires-clause-width
finish-requires-clause-width c = wide-of _ c.self.invariant (ap (λ (x : Option Refused). is_some x) c.in_default.is)

pub finish-requires-clause-holds : goal.finish-requires-clause-holds
finish-requires-clause-holds c = held-of _ c.self.invariant (ap (λ (x : Option Refused). is_some x) c.in_default.is)

exact : (c : goal.In-Ok) (r : Bool) (dss : List (List Decision)) → Codes c.args.self r dss → c.in-Ok.bytes.items ≡ finished r dss
exact c r dss codes = codes-finished _ r dss _ c.in-Ok.ensures.bytes (subst (λ (v : EncoderView). Codes v r dss) (sym c.self.view_is) codes)

pub returns-in-Ok-clause-exact : goal.returns-in-Ok-clause-exact
returns-in-Ok-clause-exact c = exact c

pub returns-in-Ok-clause-spells : goal.returns-in-Ok-clause-spells
returns-in-Ok-clause-spells c = λ r dss codes. subst (λ (b : List ℕ). SpellsPasses r b dss) (sym (exact c r dss codes)) (finished-spells r dss)

pub returns-in-Ok-clause-prefix : goal.returns-in-Ok-clause-prefix
returns-in-Ok-clause-prefix c = λ r dss rest z codes long.
    subst (λ (b : List ℕ). SpellsPasses r (take z b) dss) (sym (exact c r (dss ++ rest) codes)) (finished-prefix r dss rest z long)

pub returns-in-Ok-clause-shorter : goal.returns-in-Ok-clause-shorter
returns-in-Ok-clause-shorter c = λ r dss rest z codes long last.
    let same = exact c r (dss ++ rest) codes in
    let mark = sym (ap (λ (b : List ℕ). get_or b (z - 1) 0) same) ∙ last in
    subst (λ (b : List ℕ). SpellsPasses r (take (z - 1) b) dss) (sym same) (finished-shorter r dss rest z long mark)

pub returns-in-Ok-clause-unmarked : goal.returns-in-Ok-clause-unmarked
returns-in-Ok-clause-unmarked c = λ i less.
    let done = coded-of _ c.self.invariant (ap (λ (x : Option Refused). is_some x) c.in_default.is) in
    let same = c.in-Ok.ensures.bytes in
    ap (λ (b : List ℕ). is_last b i) same ∙ flushed-unmarked _ done.0 done.1.holds done.1.between i (subst (λ (b : List ℕ). i < length b) same less)
