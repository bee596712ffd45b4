use Rattle.std.proofs.Common.{Bool, Result, Ok, Err, sym, ◌∙◌}
use Rattle.std.proofs.lemmas.Result.{err_from_is_err_and}
use Rattle.jk_math.specs.declared.fault.Fault.{Fault}
use Rattle.jk_model.specs.Decisions.{State}
use Rattle.jk_mqdec.specs.Answers.{next}
use Rattle.jk_block.specs.decoding.BlockStates.{progress}
use Rattle.jk_block.proofs.Closing.{on_first, on_second, on_third, on_fourth, ends_right, ends_wrong}
use Rattle.jk_block.proofs.decoding.Taking.{decide_ok, decide_err, decide_ok_at, decide_err_at}
use Rattle.jk_block.proofs.decoding.symbols.read_symbol.Goals as goal

found : Bool → State → Result (Bool × State) Fault
found b s = Ok (b, s)

fault : Fault → Result (Bool × State) Fault
fault e = Err e

pub returns-in_err-first-clause-takes : goal.returns-in_err-first-clause-takes
unfolding found fault
returns-in_err-first-clause-takes c =
    let p = err_from_is_err_and c.from_residual.result c.from_residual.ensures.1 in
    let bytes = c.args.decoder.now.bytes in
    rw (p.1, p.2) (λ d coder st.
    let z = progress d coder in
    on_first bytes z (fault c.in_err-first.field-0.0) (decide_err bytes 18 coder c.in_err-first.field-0.0 (c.in_err-first.ensures.answer coder st)))

pub returns-in_err-second-clause-takes : goal.returns-in_err-second-clause-takes
unfolding found fault
returns-in_err-second-clause-takes c =
    let p = err_from_is_err_and c.from_residual-in_err-second.result c.from_residual-in_err-second.ensures.1 in
    let bytes = c.args.decoder.now.bytes in
    let one = c.decode.new.self.bytes in
    rw (p.1, p.2) (λ d coder st.
    let z = progress d coder in
    let n : State = next bytes coder 18 in
    let st_n = c.in_ok-first.ensures.next coder st in
    on_first bytes z (found c.in_ok-first.first n) (decide_ok bytes 18 coder c.in_ok-first.first (c.in_ok-first.ensures.answer coder st))
    ∙ on_second bytes z c.in_ok-first.first n (fault c.in_err-second.field-0.0) (decide_err_at bytes one 18 n c.in_err-second.field-0.0 c.in_ok-first.ensures.bytes (c.in_err-second.ensures.answer n st_n)))

pub returns-in_err-third-clause-takes : goal.returns-in_err-third-clause-takes
unfolding found fault
returns-in_err-third-clause-takes c =
    let p = err_from_is_err_and c.from_residual-in_err-third.result c.from_residual-in_err-third.ensures.1 in
    let bytes = c.args.decoder.now.bytes in
    let one = c.decode.new.self.bytes in
    let two = c.decode-2.new.self.bytes in
    rw (p.1, p.2) (λ d coder st.
    let z = progress d coder in
    let n : State = next bytes coder 18 in
    let st_n = c.in_ok-first.ensures.next coder st in
    let m : State = next one n 18 in
    let st_m = c.in_ok-second.ensures.next n st_n in
    on_first bytes z (found c.in_ok-first.first n) (decide_ok bytes 18 coder c.in_ok-first.first (c.in_ok-first.ensures.answer coder st))
    ∙ on_second bytes z c.in_ok-first.first n (found c.in_ok-second.second m) (decide_ok_at bytes one 18 n c.in_ok-second.second c.in_ok-first.ensures.bytes (c.in_ok-second.ensures.answer n st_n))
    ∙ on_third bytes z c.in_ok-first.first c.in_ok-second.second m (fault c.in_err-third.field-0.0) (decide_err_at bytes two 18 m c.in_err-third.field-0.0 (c.in_ok-second.ensures.bytes ∙ c.in_ok-first.ensures.bytes) (c.in_err-third.ensures.answer m st_m)))

pub returns-in_err-fourth-clause-takes : goal.returns-in_err-fourth-clause-takes
unfolding found fault
returns-in_err-fourth-clause-takes c =
    let p = err_from_is_err_and c.from_residual-in_err-fourth.result c.from_residual-in_err-fourth.ensures.1 in
    let bytes = c.args.decoder.now.bytes in
    let one = c.decode.new.self.bytes in
    let two = c.decode-2.new.self.bytes in
    let three = c.decode-3.new.self.bytes in
    rw (p.1, p.2) (λ d coder st.
    let z = progress d coder in
    let n : State = next bytes coder 18 in
    let st_n = c.in_ok-first.ensures.next coder st in
    let m : State = next one n 18 in
    let st_m = c.in_ok-second.ensures.next n st_n in
    let o : State = next two m 18 in
    let st_o = c.in_ok-third.ensures.next m st_m in
    on_first bytes z (found c.in_ok-first.first n) (decide_ok bytes 18 coder c.in_ok-first.first (c.in_ok-first.ensures.answer coder st))
    ∙ on_second bytes z c.in_ok-first.first n (found c.in_ok-second.second m) (decide_ok_at bytes one 18 n c.in_ok-second.second c.in_ok-first.ensures.bytes (c.in_ok-second.ensures.answer n st_n))
    ∙ on_third bytes z c.in_ok-first.first c.in_ok-second.second m (found c.in_ok-third.third o) (decide_ok_at bytes two 18 m c.in_ok-third.third (c.in_ok-second.ensures.bytes ∙ c.in_ok-first.ensures.bytes) (c.in_ok-third.ensures.answer m st_m))
    ∙ on_fourth bytes z c.in_ok-first.first c.in_ok-second.second c.in_ok-third.third o (fault c.in_err-fourth.field-0.0) (decide_err_at bytes three 18 o c.in_err-fourth.field-0.0 (c.in_ok-third.ensures.bytes ∙ c.in_ok-second.ensures.bytes ∙ c.in_ok-first.ensures.bytes) (c.in_err-fourth.ensures.answer o st_o)))

pub returns-then-not-is_symbol-clause-takes : goal.returns-then-not-is_symbol-clause-takes
unfolding found
returns-then-not-is_symbol-clause-takes c = λ d coder st.
    let bytes = c.args.decoder.now.bytes in
    let one = c.decode.new.self.bytes in
    let two = c.decode-2.new.self.bytes in
    let three = c.decode-3.new.self.bytes in
    let z = progress d coder in
    let n : State = next bytes coder 18 in
    let st_n = c.in_ok-first.ensures.next coder st in
    let m : State = next one n 18 in
    let st_m = c.in_ok-second.ensures.next n st_n in
    let o : State = next two m 18 in
    let st_o = c.in_ok-third.ensures.next m st_m in
    let t : State = next three o 18 in
    on_first bytes z (found c.in_ok-first.first n) (decide_ok bytes 18 coder c.in_ok-first.first (c.in_ok-first.ensures.answer coder st))
    ∙ on_second bytes z c.in_ok-first.first n (found c.in_ok-second.second m) (decide_ok_at bytes one 18 n c.in_ok-second.second c.in_ok-first.ensures.bytes (c.in_ok-second.ensures.answer n st_n))
    ∙ on_third bytes z c.in_ok-first.first c.in_ok-second.second m (found c.in_ok-third.third o) (decide_ok_at bytes two 18 m c.in_ok-third.third (c.in_ok-second.ensures.bytes ∙ c.in_ok-first.ensures.bytes) (c.in_ok-third.ensures.answer m st_m))
    ∙ on_fourth bytes z c.in_ok-first.first c.in_ok-second.second c.in_ok-third.third o (found c.in_ok-fourth.fourth t) (decide_ok_at bytes three 18 o c.in_ok-fourth.fourth (c.in_ok-third.ensures.bytes ∙ c.in_ok-second.ensures.bytes ∙ c.in_ok-first.ensures.bytes) (c.in_ok-fourth.ensures.answer o st_o))
    ∙ ends_wrong z c.in_ok-first.first c.in_ok-second.second c.in_ok-third.third c.in_ok-fourth.fourth t (sym c.is_symbol.ensures ∙ c.if-not-is_symbol.true)

pub returns-clause-takes : goal.returns-clause-takes
unfolding found
returns-clause-takes c = λ d coder st.
    let bytes = c.args.decoder.now.bytes in
    let one = c.decode.new.self.bytes in
    let two = c.decode-2.new.self.bytes in
    let three = c.decode-3.new.self.bytes in
    let z = progress d coder in
    let n : State = next bytes coder 18 in
    let st_n = c.in_ok-first.ensures.next coder st in
    let m : State = next one n 18 in
    let st_m = c.in_ok-second.ensures.next n st_n in
    let o : State = next two m 18 in
    let st_o = c.in_ok-third.ensures.next m st_m in
    let t : State = next three o 18 in
    record {
      next = t;
      stands = c.in_ok-fourth.ensures.next o st_o;
      is = on_first bytes z (found c.in_ok-first.first n) (decide_ok bytes 18 coder c.in_ok-first.first (c.in_ok-first.ensures.answer coder st))
          ∙ on_second bytes z c.in_ok-first.first n (found c.in_ok-second.second m) (decide_ok_at bytes one 18 n c.in_ok-second.second c.in_ok-first.ensures.bytes (c.in_ok-second.ensures.answer n st_n))
          ∙ on_third bytes z c.in_ok-first.first c.in_ok-second.second m (found c.in_ok-third.third o) (decide_ok_at bytes two 18 m c.in_ok-third.third (c.in_ok-second.ensures.bytes ∙ c.in_ok-first.ensures.bytes) (c.in_ok-third.ensures.answer m st_m))
          ∙ on_fourth bytes z c.in_ok-first.first c.in_ok-second.second c.in_ok-third.third o (found c.in_ok-fourth.fourth t) (decide_ok_at bytes three 18 o c.in_ok-fourth.fourth (c.in_ok-third.ensures.bytes ∙ c.in_ok-second.ensures.bytes ∙ c.in_ok-first.ensures.bytes) (c.in_ok-fourth.ensures.answer o st_o))
          ∙ ends_right z c.in_ok-first.first c.in_ok-second.second c.in_ok-third.third c.in_ok-fourth.fourth t (sym c.is_symbol.ensures ∙ c.if-not-is_symbol.false);
    }
