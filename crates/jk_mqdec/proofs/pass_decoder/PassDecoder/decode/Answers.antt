use Rattle.std.proofs.Common.{◌≡◌, ◌∙◌, ap, subst, ◌-◌, ◌*◌, ◌/◌, ◌^◌, ◌<◌, ◌≤◌, Bool, not, cond, get_or, set, length, eqb, ltb, Result, Ok, Err, refl, sym, inl, inr, arith}
use Rattle.std.specs.Bool.{beq}
use Rattle.std.specs.Int.Count.{count_leading_zeros}
use Rattle.std.proofs.Math.Nat.{mul-le-mul_right}
use Rattle.std.proofs.lemmas.Bool.{cases_lt}
use Rattle.std.proofs.lemmas.List.{get_or_default}
use Rattle.jk_math.specs.declared.fault.Fault.{Fault}
use Rattle.jk_math.specs.declared.fault.Fault.TheVariants.{CodeOutOfInterval}
use Rattle.jk_model.specs.Contexts.{Context, row_of, moved, begins}
use Rattle.jk_model.specs.Decisions.{renormalised}
use Rattle.jk_mqdec.specs.declared.wide.WideRegisters.{WideRegisters}
use Rattle.jk_mqdec.specs.Registers.{IsOutside}
use Rattle.jk_mqdec.specs.Wide.{HoldsWide, IsReadyWide}
use Rattle.jk_mqdec.specs.Deferred.{doubled_wide, caught_up}
use Rattle.jk_mqdec.specs.Standing.{DecoderView}
use Rattle.jk_mqdec.proofs.Shifts.{shift_less}
use Rattle.jk_mqdec.proofs.Deciding.{Decides, Settles, decides-settled, divides, is-outside, answer-failed}
use Rattle.jk_mqdec.proofs.Staying.{whole-inside, subinterval-inside}
use Rattle.jk_mqdec.proofs.Deferring.{behind, rises, rests, none-due, wide-settled, as-taken, stays-inside, ready-wide, less-back, lower-doubled, upper-doubled, symbol-doubled, size-doubled, taken-of, taken-fits, taken-wide, digit-small, digit-doubled}
use Rattle.jk_mqdec.proofs.pass_decoder.PassDecoder.decode.Goals as goal

pub highest_bit-top-requires : goal.highest_bit-top-requires
highest_bit-top-requires c =
    let i = behind c.self.inside.bytes.now c.self.inside.registers (omega arith) c.self.invariant.bounds in
    i.some

pub scaled-requires-clause-least : goal.scaled-requires-clause-least
scaled-requires-clause-least c =
    let i = behind c.self.inside.bytes.now c.self.inside.registers (omega arith) c.self.invariant.bounds in
    let small = i.small in
    let place = c.highest_bit-top.ensures in
    omega (arith, small, place)

pub divided-less-requires : goal.divided-less-requires
divided-less-requires c =
    let n = count_leading_zeros 64 c.self.inside.registers.registers.width in
    let i = behind c.self.inside.bytes.now c.self.inside.registers (omega arith) c.self.invariant.bounds in
    let top_is : c.highest_bit-top.result ≡ 63 - n = (let place = c.highest_bit-top.ensures in omega (arith, place)) in
    let from = i.rise.from in
    let below = subst (λ t. c.scaled.result < 2 ^ t) top_is c.scaled.ensures.below in
    omega (arith, from, below)

pub followed-requires-clause-digit : goal.followed-requires-clause-digit
followed-requires-clause-digit c =
    let r = c.self.inside.registers.registers in
    let n = count_leading_zeros 64 r.width in
    let i = behind c.self.inside.bytes.now c.self.inside.registers (omega arith) c.self.invariant.bounds in
    let top_is : c.highest_bit-top.result ≡ 63 - n = (let place = c.highest_bit-top.ensures in omega (arith, place)) in
    let t = taken-of r c.divided-less.result.registers c.scaled.result n i (subst (λ t. c.scaled.result < 2 ^ t) top_is c.scaled.ensures.below) c.divided-less.ensures.lower c.divided-less.ensures.upper in
    subst (λ t. c.divided-less.result.registers.width / 2 ^ t ≤ 1) (sym top_is) (digit-small c.divided-less.result.registers.width r.width n (taken-fits r c.divided-less.result.registers c.scaled.result t.0 t.1) i.rise)

pub caught_up-requires-clause-before : goal.caught_up-requires-clause-before
caught_up-requires-clause-before c =
    let r = c.self.inside.registers.registers in
    let n = count_leading_zeros 64 r.width in
    let i = behind c.self.inside.bytes.now c.self.inside.registers (omega arith) c.self.invariant.bounds in
    let top_is : c.highest_bit-top.result ≡ 63 - n = (let place = c.highest_bit-top.ensures in omega (arith, place)) in
    let t = taken-of r c.divided-less.result.registers c.scaled.result n i (subst (λ t. c.scaled.result < 2 ^ t) top_is c.scaled.ensures.below) c.divided-less.ensures.lower c.divided-less.ensures.upper in
    let few = i.few in
    let count = t.1.count in
    let place = c.highest_bit-top.ensures in
    omega (arith, few, count, place)

pub caught_up-requires-clause-wide : goal.caught_up-requires-clause-wide
caught_up-requires-clause-wide c =
    let r = c.self.inside.registers.registers in
    let n = count_leading_zeros 64 r.width in
    let i = behind c.self.inside.bytes.now c.self.inside.registers (omega arith) c.self.invariant.bounds in
    let top_is : c.highest_bit-top.result ≡ 63 - n = (let place = c.highest_bit-top.ensures in omega (arith, place)) in
    let before_is : 63 - c.highest_bit-top.result ≡ n = (let place = c.highest_bit-top.ensures in omega (arith, place)) in
    let t = taken-of r c.divided-less.result.registers c.scaled.result n i (subst (λ t. c.scaled.result < 2 ^ t) top_is c.scaled.ensures.below) c.divided-less.ensures.lower c.divided-less.ensures.upper in
    let qe = (row_of (get_or c.self.inside.contexts.now c.args.cx c.index-contexts-cx.result).state).qe in
    subst (λ k. 2 ^ 48 ≤ c.divided-less.result.registers.width * 2 ^ k) (sym before_is)
    (taken-wide r c.divided-less.result.registers c.scaled.result qe n (ap (λ k. k * 2 ^ n) (c.scaled.ensures.value ∙ ap (λ t. qe * 2 ^ (t - 15)) top_is) ∙ size-doubled qe n i.small) c.scaled.ensures.smallest (subst (λ t. c.scaled.result < 2 ^ t) top_is c.scaled.ensures.below) i.rise t.1)

pub caught_up-requires-clause-fits : goal.caught_up-requires-clause-fits
caught_up-requires-clause-fits c =
    let r = c.self.inside.registers.registers in
    let n = count_leading_zeros 64 r.width in
    let i = behind c.self.inside.bytes.now c.self.inside.registers (omega arith) c.self.invariant.bounds in
    let top_is : c.highest_bit-top.result ≡ 63 - n = (let place = c.highest_bit-top.ensures in omega (arith, place)) in
    let before_is : 63 - c.highest_bit-top.result ≡ n = (let place = c.highest_bit-top.ensures in omega (arith, place)) in
    let t = taken-of r c.divided-less.result.registers c.scaled.result n i (subst (λ t. c.scaled.result < 2 ^ t) top_is c.scaled.ensures.below) c.divided-less.ensures.lower c.divided-less.ensures.upper in
    let most = i.rise.most in
    let grows = mul-le-mul_right (2 ^ n) (taken-fits r c.divided-less.result.registers c.scaled.result t.0 t.1) in
    subst (λ k. c.divided-less.result.registers.width * 2 ^ k < 2 ^ 64) (sym before_is) (omega (arith, grows, most))

-- no byte is due
pub returns-then-registers-self : goal.returns-then-registers-self
returns-then-registers-self c =
    let d : Decides c.args.self.now (record { bytes = c.self.inside.bytes.now; registers = caught_up (record c.self.inside.registers.registers { code = c.divided-less.result.registers.code; width = c.divided-less.result.registers.width }); contexts = set c.self.inside.contexts.now c.args.cx c.followed.result }) c.args.cx (Ok (not (beq c.mps.result c.divided-less.result.less))) × (c.args.self.now.registers.code < c.args.self.now.registers.width) =
    let old = c.args.self.now in
    let s = c.self.inside in
    let r = s.registers.registers in
    let n = count_leading_zeros 64 r.width in
    let q = c.scaled.result in
    let subinterval = c.divided-less.result.registers in
    let less = c.divided-less.result.less in
    let context = get_or s.contexts.now c.args.cx c.index-contexts-cx.result in
    let i = behind s.bytes.now s.registers (omega arith) c.self.invariant.bounds in
    let bytes : s.bytes.now ≡ old.bytes = ap (λ (v : DecoderView). v.bytes) c.self.view_is in
    let registers : doubled_wide n r ≡ old.registers = ap (λ (v : DecoderView). v.registers) c.self.view_is in
    let here : c.args.cx < length s.contexts.now = omega arith in
    let top_is : c.highest_bit-top.result ≡ 63 - n = (let place = c.highest_bit-top.ensures in omega (arith, place)) in
    let before_is : 63 - c.highest_bit-top.result ≡ n = (let place = c.highest_bit-top.ensures in omega (arith, place)) in
    let moves : eqb (subinterval.width / 2 ^ c.highest_bit-top.result) 0 ≡ ltb (subinterval.width * 2 ^ n) (2 ^ 63) = ap (λ t. eqb (subinterval.width / 2 ^ t) 0) top_is ∙ digit-doubled subinterval.width n i.rise.few in
    let contexts : set s.contexts.now c.args.cx c.followed.result ≡ set old.contexts c.args.cx (cond (ltb (subinterval.width * 2 ^ n) (2 ^ 63)) (moved context (cond less (not context.mps) context.mps)) context) =
    ap (λ (x : Context). set s.contexts.now c.args.cx x) (c.followed.ensures ∙ ap (λ (t : Bool). cond t (moved context (cond less (not context.mps) context.mps)) context) moves)
    ∙ ap (λ (v : DecoderView). set v.contexts c.args.cx (cond (ltb (subinterval.width * 2 ^ n) (2 ^ 63)) (moved context (cond less (not context.mps) context.mps)) context)) c.self.view_is in
    let new : DecoderView = record { bytes = s.bytes.now; registers = caught_up (record c.self.inside.registers.registers { code = c.divided-less.result.registers.code; width = c.divided-less.result.registers.width }); contexts = set s.contexts.now c.args.cx c.followed.result } in
    let result : Result Bool Fault = Ok (not (beq c.mps.result less)) in
    let low = lower-doubled n q r subinterval c.divided-less.ensures.lower in
    let high = upper-doubled n q r subinterval c.divided-less.ensures.upper in
    let t = taken-of r subinterval q n i (subst (λ t. q < 2 ^ t) top_is c.scaled.ensures.below) c.divided-less.ensures.lower c.divided-less.ensures.upper in
    let same : subinterval ≡ record r { code = subinterval.code; width = subinterval.width } = as-taken r subinterval q t.1 in
    let within : subinterval.code < subinterval.width = stays-inside r subinterval q s.registers.least t.0 c.scaled.ensures.smallest c.divided-less.ensures.lower c.divided-less.ensures.upper c.self.invariant.waits c.if-registers-self.true in
    let whole : r.code < r.width = whole-inside r subinterval q (let from = i.rise.from in let below = subst (λ t. q < 2 ^ t) top_is c.scaled.ensures.below in omega (arith, from, below)) c.divided-less.ensures.lower c.divided-less.ensures.upper within in
    let inside : old.registers.code < old.registers.width = subst (λ (x : WideRegisters). x.code < x.width) registers (shift_less r.code r.width n whole) in
    let few = none-due subinterval.width (count_leading_zeros 64 subinterval.width) s.registers.least subinterval.count (rises subinterval.width (omega (arith, within)) (omega arith)) (ap (λ k. s.registers.least * 2 ^ k) t.1.count ∙ c.self.invariant.bounds.least) c.if-registers-self.true in
    let wide = taken-wide r subinterval q (row_of context.state).qe n (ap (λ k. k * 2 ^ n) (c.scaled.ensures.value ∙ ap (λ t. (row_of context.state).qe * 2 ^ (t - 15)) top_is) ∙ size-doubled (row_of context.state).qe n i.small) c.scaled.ensures.smallest (subst (λ t. q < 2 ^ t) top_is c.scaled.ensures.below) i.rise t.1 in
    let most = i.rise.most in
    let grows = mul-le-mul_right (2 ^ n) (taken-fits r subinterval q t.0 t.1) in
    let rest = rests subinterval.width n (count_leading_zeros 64 subinterval.width) (rises subinterval.width (omega (arith, within)) (omega arith)) wide (omega (arith, grows, most)) in
    let settles : Settles old new (doubled_wide n subinterval) c.args.cx context less result = record {
      bytes = bytes;
      contexts = contexts;
      bit_is = ap (λ (m : Bool). not (beq m less)) c.mps.ensures;
      fault = tt;
      ready = subst (λ b. IsReadyWide b (caught_up (record c.self.inside.registers.registers { code = c.divided-less.result.registers.code; width = c.divided-less.result.registers.width }))) bytes (ready-wide s.bytes.now (record { registers = (record c.self.inside.registers.registers { code = c.divided-less.result.registers.code; width = c.divided-less.result.registers.width }); least = s.registers.least }) (omega arith) within (record { least = c.self.invariant.bounds.least; enough = c.if-registers-self.true; count = c.self.invariant.bounds.count; place = c.self.invariant.bounds.place }));
      left = tt;
      holds = λ t. subst (λ b. HoldsWide b (doubled_wide n subinterval) t → HoldsWide b (caught_up (record c.self.inside.registers.registers { code = c.divided-less.result.registers.code; width = c.divided-less.result.registers.width })) (renormalised 15 t)) bytes
          (λ h. subst (λ (x : WideRegisters). HoldsWide s.bytes.now (caught_up x) (renormalised 15 t)) same (wide-settled s.bytes.now subinterval n t rest few h));
    } in
    let divide = divides old (doubled_wide n subinterval) c.args.cx context (q * 2 ^ n) less
    inside
    (get_or_default s.contexts.now c.args.cx c.index-contexts-cx.result (begins 0) here ∙ ap (λ (v : DecoderView). get_or v.contexts c.args.cx (begins 0)) c.self.view_is)
    (ap (λ k. k * 2 ^ n) (c.scaled.ensures.value ∙ ap (λ t. (row_of context.state).qe * 2 ^ (t - 15)) top_is) ∙ size-doubled (row_of context.state).qe n i.small)
    (subst (λ (x : WideRegisters). x.code < q * 2 ^ n → doubled_wide n subinterval ≡ record x { width = q * 2 ^ n }) registers low)
    (subst (λ (x : WideRegisters). q * 2 ^ n ≤ x.code → doubled_wide n subinterval ≡ record x { code = x.code - q * 2 ^ n; width = x.width - q * 2 ^ n }) registers high)
    (subst (λ (x : WideRegisters). less ≡ not (beq (ltb x.code (q * 2 ^ n)) (ltb (x.width - q * 2 ^ n) (q * 2 ^ n)))) registers (symbol-doubled n q r less c.divided-less.ensures.less)) in
    (decides-settled old new (doubled_wide n subinterval) c.args.cx context less result settles divide, inside) in
    let inside = d.1 in
    record {
      bytes = ap (λ (v : DecoderView). v.bytes) c.self.view_is;
      answer = d.0.answers;
      next = d.0.goes_on;
      failed = tt;
      stays = λ left. absurd (omega (arith, inside, left));
    }

-- the decision is settled
pub returns-in-Some : goal.returns-in-Some
returns-in-Some c =
    let d : Decides c.args.self.now (record { bytes = c.self.inside.bytes.now; registers = caught_up c.in-Some.registers.registers; contexts = set c.self.inside.contexts.now c.args.cx c.followed.result }) c.args.cx (Ok (not (beq c.mps.result c.divided-less.result.less))) × (c.args.self.now.registers.code < c.args.self.now.registers.width) =
    let old = c.args.self.now in
    let s = c.self.inside in
    let r = s.registers.registers in
    let n = count_leading_zeros 64 r.width in
    let q = c.scaled.result in
    let subinterval = c.divided-less.result.registers in
    let less = c.divided-less.result.less in
    let context = get_or s.contexts.now c.args.cx c.index-contexts-cx.result in
    let i = behind s.bytes.now s.registers (omega arith) c.self.invariant.bounds in
    let bytes : s.bytes.now ≡ old.bytes = ap (λ (v : DecoderView). v.bytes) c.self.view_is in
    let registers : doubled_wide n r ≡ old.registers = ap (λ (v : DecoderView). v.registers) c.self.view_is in
    let here : c.args.cx < length s.contexts.now = omega arith in
    let top_is : c.highest_bit-top.result ≡ 63 - n = (let place = c.highest_bit-top.ensures in omega (arith, place)) in
    let before_is : 63 - c.highest_bit-top.result ≡ n = (let place = c.highest_bit-top.ensures in omega (arith, place)) in
    let moves : eqb (subinterval.width / 2 ^ c.highest_bit-top.result) 0 ≡ ltb (subinterval.width * 2 ^ n) (2 ^ 63) = ap (λ t. eqb (subinterval.width / 2 ^ t) 0) top_is ∙ digit-doubled subinterval.width n i.rise.few in
    let contexts : set s.contexts.now c.args.cx c.followed.result ≡ set old.contexts c.args.cx (cond (ltb (subinterval.width * 2 ^ n) (2 ^ 63)) (moved context (cond less (not context.mps) context.mps)) context) =
    ap (λ (x : Context). set s.contexts.now c.args.cx x) (c.followed.ensures ∙ ap (λ (t : Bool). cond t (moved context (cond less (not context.mps) context.mps)) context) moves)
    ∙ ap (λ (v : DecoderView). set v.contexts c.args.cx (cond (ltb (subinterval.width * 2 ^ n) (2 ^ 63)) (moved context (cond less (not context.mps) context.mps)) context)) c.self.view_is in
    let new : DecoderView = record { bytes = s.bytes.now; registers = caught_up c.in-Some.registers.registers; contexts = set s.contexts.now c.args.cx c.followed.result } in
    let result : Result Bool Fault = Ok (not (beq c.mps.result less)) in
    let low = lower-doubled n q r subinterval c.divided-less.ensures.lower in
    let high = upper-doubled n q r subinterval c.divided-less.ensures.upper in
    let whole : r.code < r.width = whole-inside r subinterval q (let from = i.rise.from in let below = subst (λ t. q < 2 ^ t) top_is c.scaled.ensures.below in omega (arith, from, below)) c.divided-less.ensures.lower c.divided-less.ensures.upper c.in-Some.ensures.inside in
    let inside : old.registers.code < old.registers.width = subst (λ (x : WideRegisters). x.code < x.width) registers (shift_less r.code r.width n whole) in
    let settles : Settles old new (doubled_wide n subinterval) c.args.cx context less result = record {
      bytes = bytes;
      contexts = contexts;
      bit_is = ap (λ (m : Bool). not (beq m less)) c.mps.ensures;
      fault = tt;
      ready = subst (λ b. IsReadyWide b (caught_up c.in-Some.registers.registers)) bytes (ready-wide s.bytes.now c.in-Some.registers (omega arith) c.in-Some.ensures.code c.in-Some.ensures.ready);
      left = tt;
      holds = λ t. subst (λ b. HoldsWide b (doubled_wide n subinterval) t → HoldsWide b (caught_up c.in-Some.registers.registers) (renormalised 15 t)) bytes (subst (λ k. HoldsWide s.bytes.now (doubled_wide k subinterval) t → HoldsWide s.bytes.now (caught_up c.in-Some.registers.registers) (renormalised 15 t)) before_is (c.in-Some.ensures.holds t c.in-Some.ensures.inside));
    } in
    let divide = divides old (doubled_wide n subinterval) c.args.cx context (q * 2 ^ n) less
    inside
    (get_or_default s.contexts.now c.args.cx c.index-contexts-cx.result (begins 0) here ∙ ap (λ (v : DecoderView). get_or v.contexts c.args.cx (begins 0)) c.self.view_is)
    (ap (λ k. k * 2 ^ n) (c.scaled.ensures.value ∙ ap (λ t. (row_of context.state).qe * 2 ^ (t - 15)) top_is) ∙ size-doubled (row_of context.state).qe n i.small)
    (subst (λ (x : WideRegisters). x.code < q * 2 ^ n → doubled_wide n subinterval ≡ record x { width = q * 2 ^ n }) registers low)
    (subst (λ (x : WideRegisters). q * 2 ^ n ≤ x.code → doubled_wide n subinterval ≡ record x { code = x.code - q * 2 ^ n; width = x.width - q * 2 ^ n }) registers high)
    (subst (λ (x : WideRegisters). less ≡ not (beq (ltb x.code (q * 2 ^ n)) (ltb (x.width - q * 2 ^ n) (q * 2 ^ n)))) registers (symbol-doubled n q r less c.divided-less.ensures.less)) in
    (decides-settled old new (doubled_wide n subinterval) c.args.cx context less result settles divide, inside) in
    let inside = d.1 in
    record {
      bytes = ap (λ (v : DecoderView). v.bytes) c.self.view_is;
      answer = d.0.answers;
      next = d.0.goes_on;
      failed = tt;
      stays = λ left. absurd (omega (arith, inside, left));
    }

-- the code value leaves the interval, or has left it before
pub returns-in-None-clause-answer : goal.returns-in-None-clause-answer
returns-in-None-clause-answer c s st =
    let first = c.args.self.now in
    elim (cases_lt first.registers.code first.registers.width) [
      | inl inside ↦ (none inside).answers s st
      | inr left ↦ sym (answer-failed first.bytes s c.args.cx (is-outside first s left st))
    ]
  where
    none : c.args.self.now.registers.code < c.args.self.now.registers.width → Decides c.args.self.now (record { bytes = c.self.inside.bytes.now; registers = record (doubled_wide 0 c.divided-less.result.registers) { width = 0 }; contexts = set c.self.inside.contexts.now c.args.cx c.followed.result }) c.args.cx
        (Err CodeOutOfInterval)
    none inside =
        let old = c.args.self.now in
        let s = c.self.inside in
        let r = s.registers.registers in
        let n = count_leading_zeros 64 r.width in
        let q = c.scaled.result in
        let subinterval = c.divided-less.result.registers in
        let less = c.divided-less.result.less in
        let context = get_or s.contexts.now c.args.cx c.index-contexts-cx.result in
        let i = behind s.bytes.now s.registers (omega arith) c.self.invariant.bounds in
        let bytes : s.bytes.now ≡ old.bytes = ap (λ (v : DecoderView). v.bytes) c.self.view_is in
        let registers : doubled_wide n r ≡ old.registers = ap (λ (v : DecoderView). v.registers) c.self.view_is in
        let here : c.args.cx < length s.contexts.now = omega arith in
        let top_is : c.highest_bit-top.result ≡ 63 - n = (let place = c.highest_bit-top.ensures in omega (arith, place)) in
        let before_is : 63 - c.highest_bit-top.result ≡ n = (let place = c.highest_bit-top.ensures in omega (arith, place)) in
        let moves : eqb (subinterval.width / 2 ^ c.highest_bit-top.result) 0 ≡ ltb (subinterval.width * 2 ^ n) (2 ^ 63) = ap (λ t. eqb (subinterval.width / 2 ^ t) 0) top_is ∙ digit-doubled subinterval.width n i.rise.few in
        let contexts : set s.contexts.now c.args.cx c.followed.result ≡ set old.contexts c.args.cx (cond (ltb (subinterval.width * 2 ^ n) (2 ^ 63)) (moved context (cond less (not context.mps) context.mps)) context) =
        ap (λ (x : Context). set s.contexts.now c.args.cx x) (c.followed.ensures ∙ ap (λ (t : Bool). cond t (moved context (cond less (not context.mps) context.mps)) context) moves)
        ∙ ap (λ (v : DecoderView). set v.contexts c.args.cx (cond (ltb (subinterval.width * 2 ^ n) (2 ^ 63)) (moved context (cond less (not context.mps) context.mps)) context)) c.self.view_is in
        let new : DecoderView = record { bytes = s.bytes.now; registers = record (doubled_wide 0 subinterval) { width = 0 }; contexts = set s.contexts.now c.args.cx c.followed.result } in
        let result : Result Bool Fault = Err CodeOutOfInterval in
        let low = lower-doubled n q r subinterval c.divided-less.ensures.lower in
        let high = upper-doubled n q r subinterval c.divided-less.ensures.upper in
        let whole : r.code < r.width = less-back r.code r.width n (subst (λ (x : WideRegisters). x.code < x.width) (sym registers) inside) in
        let settles : Settles old new (doubled_wide n subinterval) c.args.cx context less result = record {
          bytes = bytes;
          contexts = contexts;
          bit_is = tt;
          fault = refl;
          ready = tt;
          left = omega arith;
          holds = λ t. subst (λ b. HoldsWide b (doubled_wide n subinterval) t → IsOutside b (renormalised 15 t)) bytes
              (subst (λ k. HoldsWide s.bytes.now (doubled_wide k subinterval) t → IsOutside s.bytes.now (renormalised 15 t)) before_is (c.in-None.ensures.holds t (subinterval-inside r subinterval q c.divided-less.ensures.lower c.divided-less.ensures.upper whole)));
        } in
        let divide = divides old (doubled_wide n subinterval) c.args.cx context (q * 2 ^ n) less
        inside
        (get_or_default s.contexts.now c.args.cx c.index-contexts-cx.result (begins 0) here ∙ ap (λ (v : DecoderView). get_or v.contexts c.args.cx (begins 0)) c.self.view_is)
        (ap (λ k. k * 2 ^ n) (c.scaled.ensures.value ∙ ap (λ t. (row_of context.state).qe * 2 ^ (t - 15)) top_is) ∙ size-doubled (row_of context.state).qe n i.small)
        (subst (λ (x : WideRegisters). x.code < q * 2 ^ n → doubled_wide n subinterval ≡ record x { width = q * 2 ^ n }) registers low)
        (subst (λ (x : WideRegisters). q * 2 ^ n ≤ x.code → doubled_wide n subinterval ≡ record x { code = x.code - q * 2 ^ n; width = x.width - q * 2 ^ n }) registers high)
        (subst (λ (x : WideRegisters). less ≡ not (beq (ltb x.code (q * 2 ^ n)) (ltb (x.width - q * 2 ^ n) (q * 2 ^ n)))) registers (symbol-doubled n q r less c.divided-less.ensures.less)) in
        decides-settled old new (doubled_wide n subinterval) c.args.cx context less result settles divide
