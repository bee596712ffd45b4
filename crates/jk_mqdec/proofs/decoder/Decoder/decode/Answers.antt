use Rattle.std.proofs.Common.{◌≡◌, ◌∙◌, ap, subst, ◌-◌, ◌*◌, ◌^◌, ◌<◌, ◌≤◌, Bool, not, cond, get_or, set, length, ltb, Result, Ok, Err, refl, arith}
use Rattle.std.specs.Bool.{beq}
use Rattle.std.proofs.lemmas.List.{get_or_default}
use Rattle.jk_math.specs.declared.fault.Fault.{Fault}
use Rattle.jk_math.specs.declared.fault.Fault.TheVariants.{CodeOutOfInterval}
use Rattle.jk_model.specs.Contexts.{Context, moved, begins}
use Rattle.jk_model.specs.Decisions.{renormalised}
use Rattle.jk_mqdec.specs.declared.wide.WideRegisters.{WideRegisters}
use Rattle.jk_mqdec.specs.Registers.{IsOutside}
use Rattle.jk_mqdec.specs.Wide.{HoldsWide, IsReadyWide}
use Rattle.jk_mqdec.specs.Standing.{DecoderView, HasFailed}
use Rattle.jk_mqdec.proofs.Deciding.{Decides, Settles, decides-failed, decides-settled, divides}
use Rattle.jk_mqdec.proofs.Reaching.{reached-more, only-one}
use Rattle.jk_mqdec.proofs.decoder.Decoder.decode.Goals as goal
use Rattle.jk_mqdec.proofs.decoder.Decoder.decode.Goals.{In-None, After-mps}

-- the code value has left the interval
pub returns-then-now : goal.returns-then-now
returns-then-now c =
    let old = c.args.self.now in
    let code = ap (λ (v : DecoderView). v.registers.code) c.self.view_is in
    let width = ap (λ (v : DecoderView). v.registers.width) c.self.view_is in
    let left : HasFailed old = omega arith in
    let d = decides-failed old c.args.cx left in
    record {
      bytes = refl;
      answer = d.answers;
      next = d.goes_on;
      fault = refl;
      failed = left;
      stays = λ _. (refl, refl);
      reached = tt;
      only = only-one old old c.args.cx _ d;
    }

-- the decision is settled
some : (c : After-mps) → Decides c.args.self.now (record { bytes = c.self.inside.bytes.now; registers = c.in-Some.registers; contexts = set c.self.inside.contexts c.args.cx c.after.result }) c.args.cx
    (Ok (not (beq c.mps.result c.divided-subinterval.result.less)))
some c =
    let old = c.args.self.now in
    let s = c.self.inside in
    let subinterval = c.divided-subinterval.result.registers in
    let less = c.divided-subinterval.result.less in
    let q = c.scaled.result in
    let context = get_or s.contexts c.args.cx c.index-contexts-cx.result in
    let bytes : s.bytes.now ≡ old.bytes = ap (λ (v : DecoderView). v.bytes) c.self.view_is in
    let registers : s.registers ≡ old.registers = ap (λ (v : DecoderView). v.registers) c.self.view_is in
    let here : c.args.cx < length s.contexts = omega arith in
    let contexts : set s.contexts c.args.cx c.after.result ≡ set old.contexts c.args.cx (cond (ltb subinterval.width (2 ^ 63)) (moved context (cond less (not context.mps) context.mps)) context) =
    ap (λ (x : Context). set s.contexts c.args.cx x) (c.after.ensures ∙ ap (λ (t : Bool). cond t (moved context (cond less (not context.mps) context.mps)) context) c.is_narrow.ensures)
    ∙ ap (λ (v : DecoderView). set v.contexts c.args.cx (cond (ltb subinterval.width (2 ^ 63)) (moved context (cond less (not context.mps) context.mps)) context)) c.self.view_is in
    let new : DecoderView = record { bytes = s.bytes.now; registers = c.in-Some.registers; contexts = set s.contexts c.args.cx c.after.result } in
    let result : Result Bool Fault = Ok (not (beq c.mps.result less)) in
    let settles : Settles old new subinterval c.args.cx context less result = record {
      bytes = bytes;
      contexts = contexts;
      bit_is = ap (λ (m : Bool). not (beq m less)) c.mps.ensures;
      fault = tt;
      ready = subst (λ b. IsReadyWide b c.in-Some.registers) bytes c.in-Some.ensures.ready;
      left = tt;
      holds = λ t. subst (λ b. HoldsWide b subinterval t → HoldsWide b c.in-Some.registers (renormalised 15 t)) bytes (c.in-Some.ensures.holds t);
    } in
    let divide = divides old subinterval c.args.cx context q less
    (subst (λ (r : WideRegisters). r.code < r.width) registers c.if-now.false)
    (get_or_default s.contexts c.args.cx c.index-contexts-cx.result (begins 0) here ∙ ap (λ (v : DecoderView). get_or v.contexts c.args.cx (begins 0)) c.self.view_is)
    (c.scaled.ensures ∙ ap (λ k. k * 2 ^ 48) c.size.ensures.value)
    (subst (λ (r : WideRegisters). r.code < q → subinterval ≡ record r { width = q }) registers c.divided-subinterval.ensures.lower)
    (subst (λ (r : WideRegisters). q ≤ r.code → subinterval ≡ record r { code = r.code - q; width = r.width - q }) registers c.divided-subinterval.ensures.upper)
    (subst (λ (r : WideRegisters). less ≡ not (beq (ltb r.code q) (ltb (r.width - q) q))) registers c.divided-subinterval.ensures.less) in
    decides-settled old new subinterval c.args.cx context less result settles divide

-- the code value leaves the interval
none : (c : In-None) → Decides c.args.self.now (record { bytes = c.self.inside.bytes.now; registers = record c.divided-subinterval.result.registers { width = 0 }; contexts = set c.self.inside.contexts c.args.cx c.after.result }) c.args.cx
    (Err CodeOutOfInterval)
none c =
    let old = c.args.self.now in
    let s = c.self.inside in
    let subinterval = c.divided-subinterval.result.registers in
    let less = c.divided-subinterval.result.less in
    let q = c.scaled.result in
    let context = get_or s.contexts c.args.cx c.index-contexts-cx.result in
    let bytes : s.bytes.now ≡ old.bytes = ap (λ (v : DecoderView). v.bytes) c.self.view_is in
    let registers : s.registers ≡ old.registers = ap (λ (v : DecoderView). v.registers) c.self.view_is in
    let here : c.args.cx < length s.contexts = omega arith in
    let contexts : set s.contexts c.args.cx c.after.result ≡ set old.contexts c.args.cx (cond (ltb subinterval.width (2 ^ 63)) (moved context (cond less (not context.mps) context.mps)) context) =
    ap (λ (x : Context). set s.contexts c.args.cx x) (c.after.ensures ∙ ap (λ (t : Bool). cond t (moved context (cond less (not context.mps) context.mps)) context) c.is_narrow.ensures)
    ∙ ap (λ (v : DecoderView). set v.contexts c.args.cx (cond (ltb subinterval.width (2 ^ 63)) (moved context (cond less (not context.mps) context.mps)) context)) c.self.view_is in
    let new : DecoderView = record { bytes = s.bytes.now; registers = record subinterval { width = 0 }; contexts = set s.contexts c.args.cx c.after.result } in
    let result : Result Bool Fault = Err CodeOutOfInterval in
    let settles : Settles old new subinterval c.args.cx context less result = record {
      bytes = bytes;
      contexts = contexts;
      bit_is = tt;
      fault = refl;
      ready = tt;
      left = omega arith;
      holds = λ t. subst (λ b. HoldsWide b subinterval t → IsOutside b (renormalised 15 t)) bytes (c.in-None.ensures.holds t);
    } in
    let divide = divides old subinterval c.args.cx context q less
    (subst (λ (r : WideRegisters). r.code < r.width) registers c.if-now.false)
    (get_or_default s.contexts c.args.cx c.index-contexts-cx.result (begins 0) here ∙ ap (λ (v : DecoderView). get_or v.contexts c.args.cx (begins 0)) c.self.view_is)
    (c.scaled.ensures ∙ ap (λ k. k * 2 ^ 48) c.size.ensures.value)
    (subst (λ (r : WideRegisters). r.code < q → subinterval ≡ record r { width = q }) registers c.divided-subinterval.ensures.lower)
    (subst (λ (r : WideRegisters). q ≤ r.code → subinterval ≡ record r { code = r.code - q; width = r.width - q }) registers c.divided-subinterval.ensures.upper)
    (subst (λ (r : WideRegisters). less ≡ not (beq (ltb r.code q) (ltb (r.width - q) q))) registers c.divided-subinterval.ensures.less) in
    decides-settled old new subinterval c.args.cx context less result settles divide

pub returns-in-Some-clause-answer : goal.returns-in-Some-clause-answer
returns-in-Some-clause-answer c = (some c.before).answers

pub returns-in-Some-clause-next : goal.returns-in-Some-clause-next
returns-in-Some-clause-next c = (some c.before).goes_on

pub returns-in-Some-clause-reached : goal.returns-in-Some-clause-reached
returns-in-Some-clause-reached c = reached-more c.args.self.now _ c.args.cx _ (ap (λ (v : DecoderView). v.bytes) c.self.view_is) (some c.before)

pub returns-in-Some-clause-only : goal.returns-in-Some-clause-only
returns-in-Some-clause-only c = only-one c.args.self.now _ c.args.cx _ (some c.before)

pub returns-in-None-clause-answer : goal.returns-in-None-clause-answer
returns-in-None-clause-answer c = (none c.before).answers

pub returns-in-None-clause-next : goal.returns-in-None-clause-next
returns-in-None-clause-next c = (none c.before).goes_on

pub returns-in-None-clause-only : goal.returns-in-None-clause-only
returns-in-None-clause-only c = only-one c.args.self.now _ c.args.cx _ (none c.before)
