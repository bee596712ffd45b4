use Rattle.std.proofs.Common.{ℕ, Bool, true, cond, List, Result, Err, sym, ap, ◌∙◌, subst}
use Rattle.std.proofs.lemmas.Result.{err_from_is_err_and}
use Rattle.jk_scan.proofs.Laws.{row_stripe, zero_seen_in}
use Rattle.jk_math.specs.declared.fault.Fault.{Fault}
use Rattle.jk_math.specs.declared.orientation.Orientation.{Orientation}
use Rattle.jk_math.specs.Steps.{done}
use Rattle.jk_mqdec.specs.Answers.{next}
use Rattle.jk_scan.specs.WordPlaces.{column, row}
use Rattle.jk_scan.specs.Neighbours.{zero_at}
use Rattle.jk_block.specs.Reading.{Progress, read_sign}
use Rattle.jk_block.specs.decoding.BlockStates.{progress, significant_in, coded_in}
use Rattle.jk_block.specs.decoding.Sights.{Sees, new_in, seen_in}
use Rattle.jk_block.proofs.decoding.Taking.{decide_ok, decide_err, new_takes, new_faults}
use Rattle.jk_block.proofs.decoding.places.read_new.Goals as goal

pub returns-in_err-bit-clause-takes : goal.returns-in_err-bit-clause-takes
returns-in_err-bit-clause-takes c =
    let p = err_from_is_err_and c.from_residual.result c.from_residual.ensures.1 in
    let bytes = c.args.decoder.now.bytes in
    let cx = c.zero_context_at-context.result in
    rw (p.1, p.2) (λ at d orientation place sees coder st.
    new_faults bytes d.shape at.plane (column at.word c.args.k) (row at.stripe c.args.k) (progress d coder) cx c.in_err-bit.field-0.0
    (c.zero_context_at-context.ensures.value (seen_in d at.stripe) at.word at.stripe sees.significant ∙ ap (λ (o : Orientation). zero_at o (seen_in d at.stripe) (column at.word c.args.k) (row at.stripe c.args.k)) (sym orientation)
    ∙ zero_seen_in d.shape at.stripe (significant_in d) (column at.word c.args.k) (row at.stripe c.args.k) (row_stripe at.stripe c.args.k c.requires.on_row))
    (decide_err bytes cx coder c.in_err-bit.field-0.0 (c.in_err-bit.ensures.answer coder st)))

refused : Fault → Result Progress Fault
refused e = Err e

pub returns-in_err-negative-clause-takes : goal.returns-in_err-negative-clause-takes
unfolding refused
returns-in_err-negative-clause-takes c =
    let p = err_from_is_err_and c.from_residual-in_err-negative.result c.from_residual-in_err-negative.ensures.1 in
    let bytes = c.args.decoder.now.bytes in
    let cx = c.zero_context_at-context.result in
    let bit = c.in_ok-bit.bit in
    rw (p.1, p.2) (λ at d orientation place sees coder st.
    let x = column at.word c.args.k in
    let y = row at.stripe c.args.k in
    let n = next bytes coder cx in
    let a = c.in_err-negative.ensures.takes at d sees n (c.in_ok-bit.ensures.next coder st) in
    let read = ap (λ (bs : List ℕ). read_sign bs d.shape at.plane x y (progress d n)) (sym c.in_ok-bit.ensures.bytes) ∙ a in
    new_takes bytes d.shape at.plane x y (progress d coder) cx bit n (refused c.in_err-negative.field-0.0)
    (c.zero_context_at-context.ensures.value (seen_in d at.stripe) at.word at.stripe sees.significant ∙ ap (λ (o : Orientation). zero_at o (seen_in d at.stripe) x y) (sym orientation)
    ∙ zero_seen_in d.shape at.stripe (significant_in d) x y (row_stripe at.stripe c.args.k c.requires.on_row))
    (decide_ok bytes cx coder bit (c.in_ok-bit.ensures.answer coder st))
    (ap (λ (b : Bool). cond b (read_sign bytes d.shape at.plane x y (progress d n)) (done (progress d n))) c.if-bit.true ∙ read))

pub returns-in_ok-negative-clause-takes : goal.returns-in_ok-negative-clause-takes
returns-in_ok-negative-clause-takes c = λ at d orientation place sees coder st.
    let x = column at.word c.args.k in
    let y = row at.stripe c.args.k in
    let bytes = c.args.decoder.now.bytes in
    let cx = c.zero_context_at-context.result in
    let bit = c.in_ok-bit.bit in
    let n = next bytes coder cx in
    let a = c.in_ok-negative.ensures.takes at d sees n (c.in_ok-bit.ensures.next coder st) in
    let read = ap (λ (bs : List ℕ). read_sign bs d.shape at.plane x y (progress d n)) (sym c.in_ok-bit.ensures.bytes) ∙ a.is in
    record {
      next = a.next;
      stands = a.stands;
      is = new_takes bytes d.shape at.plane x y (progress d coder) cx bit n (done (progress (coded_in at.plane x y true c.in_ok-negative.negative d) a.next))
          (c.zero_context_at-context.ensures.value (seen_in d at.stripe) at.word at.stripe sees.significant ∙ ap (λ (o : Orientation). zero_at o (seen_in d at.stripe) x y) (sym orientation)
          ∙ zero_seen_in d.shape at.stripe (significant_in d) x y (row_stripe at.stripe c.args.k c.requires.on_row))
          (decide_ok bytes cx coder bit (c.in_ok-bit.ensures.answer coder st))
          (ap (λ (b : Bool). cond b (read_sign bytes d.shape at.plane x y (progress d n)) (done (progress d n))) c.if-bit.true ∙ read)
          ∙ ap (λ (b : Bool). done (progress (coded_in at.plane x y true b d) a.next)) (sym c.light.ensures.sign)
          ∙ ap (λ (b : Bool). done (progress (new_in at c.args.k b c.light.new.self d) a.next)) (sym c.if-bit.true);
    }

pub returns-else-bit-clause-takes : goal.returns-else-bit-clause-takes
returns-else-bit-clause-takes c = λ at d orientation place sees coder st.
    let x = column at.word c.args.k in
    let y = row at.stripe c.args.k in
    let bytes = c.args.decoder.now.bytes in
    let cx = c.zero_context_at-context.result in
    let bit = c.in_ok-bit.bit in
    let n = next bytes coder cx in
    record {
      next = n;
      stands = c.in_ok-bit.ensures.next coder st;
      is = new_takes bytes d.shape at.plane x y (progress d coder) cx bit n (done (progress d n))
          (c.zero_context_at-context.ensures.value (seen_in d at.stripe) at.word at.stripe sees.significant ∙ ap (λ (o : Orientation). zero_at o (seen_in d at.stripe) x y) (sym orientation)
          ∙ zero_seen_in d.shape at.stripe (significant_in d) x y (row_stripe at.stripe c.args.k c.requires.on_row))
          (decide_ok bytes cx coder bit (c.in_ok-bit.ensures.answer coder st))
          (ap (λ (b : Bool). cond b (read_sign bytes d.shape at.plane x y (progress d n)) (done (progress d n))) c.if-bit.false)
          ∙ ap (λ (b : Bool). done (progress (new_in at c.args.k b c.args.sight.now d) n)) (sym c.if-bit.false);
    }

pub returns-in_ok-negative-clause-sees : goal.returns-in_ok-negative-clause-sees
returns-in_ok-negative-clause-sees c = λ at d place sees.
    let x = column at.word c.args.k in
    let y = row at.stripe c.args.k in
    subst (λ (b : Bool). Sees at (new_in at c.args.k b c.light.new.self d) c.light.new.self) (sym c.if-bit.true)
    (subst (λ (b : Bool). Sees at (coded_in at.plane x y true b d) c.light.new.self) (sym c.light.ensures.sign) (c.light.ensures.sees at d place sees))

pub returns-else-bit-clause-sees : goal.returns-else-bit-clause-sees
returns-else-bit-clause-sees c = λ at d place sees. subst (λ (b : Bool). Sees at (new_in at c.args.k b c.args.sight.now d) c.args.sight.now) (sym c.if-bit.false) sees
