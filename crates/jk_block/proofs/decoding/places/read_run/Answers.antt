use Rattle.std.proofs.Common.{◌≡◌, ℕ, Bool, true, ◌+◌, ◌-◌, ◌*◌, ◌%◌, ◌<◌, cond, List, Result, Err, sym, ap, ◌∙◌, subst, arith}
use Rattle.std.specs.Prelude.{nat_lt}
use Rattle.std.proofs.lemmas.Bool.Decides.{nat_tests}
use Rattle.std.proofs.lemmas.Result.{err_from_is_err_and}
use Rattle.jk_math.specs.declared.fault.Fault.{Fault}
use Rattle.jk_math.specs.Answer.{◌>>=◌}
use Rattle.jk_math.specs.Steps.{done}
use Rattle.jk_model.specs.Decisions.{State}
use Rattle.jk_mqdec.specs.Answers.{next}
use Rattle.jk_scan.specs.Moments.{cleanup}
use Rattle.jk_scan.specs.WordPlaces.{column, row}
use Rattle.jk_block.specs.Reading.{Progress, read_sign, read_from, rows_at}
use Rattle.jk_block.specs.decoding.BlockStates.{progress, coded_in}
use Rattle.jk_block.specs.decoding.Sights.{Sees, significant_at, run_in}
use Rattle.jk_block.proofs.decoding.Cleaning.{run_place}
use Rattle.jk_block.proofs.decoding.Taking.{decide_ok, decide_err, decide_ok_at, decide_err_at, run_ends, run_faults, run_faults_high, run_faults_low, run_goes, no_rows}
use Rattle.jk_block.proofs.decoding.places.read_run.Goals as goal

is_row : (f : ℕ) → f < 4 → nat_lt f 4 ≡ true
is_row f h = grind (arith, nat_tests)

pub returns-in_err-some-clause-takes : goal.returns-in_err-some-clause-takes
returns-in_err-some-clause-takes c =
    let p = err_from_is_err_and c.from_residual.result c.from_residual.ensures.1 in
    let bytes = c.args.decoder.now.bytes in
    rw (p.1, p.2) (λ at d place rows sees coder st. run_faults bytes d.shape at.plane (column at.word c.args.k) at.stripe (progress d coder) c.in_err-some.field-0.0 (decide_err bytes 17 coder c.in_err-some.field-0.0 (c.in_err-some.ensures.answer coder st)))

pub returns-then-not-some-clause-takes : goal.returns-then-not-some-clause-takes
returns-then-not-some-clause-takes c = λ at d place rows sees coder st.
    let x = column at.word c.args.k in
    let bytes = c.args.decoder.now.bytes in
    let n = next bytes coder 17 in
    record {
      next = n;
      stands = c.in_ok-some.ensures.next coder st;
      is = run_ends bytes d.shape at.plane x at.stripe (progress d coder) c.in_ok-some.some n (decide_ok bytes 17 coder c.in_ok-some.some (c.in_ok-some.ensures.answer coder st)) c.if-not-some.true
          ∙ sym (no_rows bytes d.shape at.plane x at.stripe 5 (progress d n));
    }

pub returns-in_err-high-clause-takes : goal.returns-in_err-high-clause-takes
returns-in_err-high-clause-takes c =
    let p = err_from_is_err_and c.from_residual-in_err-high.result c.from_residual-in_err-high.ensures.1 in
    let bytes = c.args.decoder.now.bytes in
    let one = c.decode.new.self.bytes in
    rw (p.1, p.2) (λ at d place rows sees coder st.
    let n = next bytes coder 17 in
    run_faults_high bytes d.shape at.plane (column at.word c.args.k) at.stripe (progress d coder) c.in_ok-some.some n c.in_err-high.field-0.0 (decide_ok bytes 17 coder c.in_ok-some.some (c.in_ok-some.ensures.answer coder st)) c.if-not-some.false
    (decide_err_at bytes one 18 n c.in_err-high.field-0.0 c.in_ok-some.ensures.bytes (c.in_err-high.ensures.answer n (c.in_ok-some.ensures.next coder st))))

pub returns-in_err-low-clause-takes : goal.returns-in_err-low-clause-takes
returns-in_err-low-clause-takes c =
    let p = err_from_is_err_and c.from_residual-in_err-low.result c.from_residual-in_err-low.ensures.1 in
    let bytes = c.args.decoder.now.bytes in
    let one = c.decode.new.self.bytes in
    let two = c.decode-2.new.self.bytes in
    rw (p.1, p.2) (λ at d place rows sees coder st.
    let n = next bytes coder 17 in
    let m = next one n 18 in
    let st_n = c.in_ok-some.ensures.next coder st in
    let st_m = c.in_ok-high.ensures.next n st_n in
    run_faults_low bytes d.shape at.plane (column at.word c.args.k) at.stripe (progress d coder) c.in_ok-some.some c.in_ok-high.high n m c.in_err-low.field-0.0 (decide_ok bytes 17 coder c.in_ok-some.some (c.in_ok-some.ensures.answer coder st)) c.if-not-some.false
    (decide_ok_at bytes one 18 n c.in_ok-high.high c.in_ok-some.ensures.bytes (c.in_ok-high.ensures.answer n st_n))
    (decide_err_at bytes two 18 m c.in_err-low.field-0.0 (c.in_ok-high.ensures.bytes ∙ c.in_ok-some.ensures.bytes) (c.in_err-low.ensures.answer m st_m)))

same_column : (j k f : ℕ) → k % 8 ≡ 1 → f < 4 → column j k ≡ column j (k + f)
same_column j k f h l = omega arith

same_row : (i k f : ℕ) → k % 8 ≡ 1 → f < 4 → 4 * i + f ≡ row i (k + f)
same_row i k f h l = omega arith

refused : Fault → Result Progress Fault
refused e = Err e

pub returns-clause-takes : goal.returns-clause-takes
returns-clause-takes c = λ at d place rows sees coder st.
    let bytes = c.args.decoder.now.bytes in
    let one = c.decode.new.self.bytes in
    let two = c.decode-2.new.self.bytes in
    let three = c.decode-3.new.self.bytes in
    let b = at.plane in
    let k = c.args.k in
    let x = column at.word k in
    let i = at.stripe in
    let f = c.row_named-row.result in
    let few = c.row_named-row.ensures.few in
    let n : State = next bytes coder 17 in
    let m : State = next one n 18 in
    let o : State = next two m 18 in
    let st_n = c.in_ok-some.ensures.next coder st in
    let st_m = c.in_ok-high.ensures.next n st_n in
    let a = c.in_ok-negative.ensures.takes at d sees o (c.in_ok-low.ensures.next m st_m) in
    let read : read_sign bytes d.shape b x (4 * i + f) (progress d o) ≡ done (progress (run_in at k f c.light.new.self d) a.next) =
    ap (λ (bs : List ℕ). read_sign bs d.shape b x (4 * i + f) (progress d o)) (sym (c.in_ok-low.ensures.bytes ∙ c.in_ok-high.ensures.bytes ∙ c.in_ok-some.ensures.bytes))
    ∙ ap (λ (x : ℕ). read_sign three d.shape b x (4 * i + f) (progress d o)) (same_column at.word k f c.requires.first few)
    ∙ ap (λ (y : ℕ). read_sign three d.shape b (column at.word (k + f)) y (progress d o)) (same_row i k f c.requires.first few)
    ∙ a.is
    ∙ ap (λ (s : Bool). done (progress (coded_in b (column at.word (k + f)) (row i (k + f)) true s d) a.next)) (sym c.light.ensures.sign)
    ∙ ap (λ (t : Bool). done (progress (cond t (significant_at at (k + f) c.light.new.self d) d) a.next)) (sym (is_row f few)) in
    record {
      next = a.next;
      stands = a.stands;
      is = run_goes bytes d.shape b x i (progress d coder) c.in_ok-some.some c.in_ok-high.high c.in_ok-low.low n m o
          (decide_ok bytes 17 coder c.in_ok-some.some (c.in_ok-some.ensures.answer coder st)) c.if-not-some.false
          (decide_ok_at bytes one 18 n c.in_ok-high.high c.in_ok-some.ensures.bytes (c.in_ok-high.ensures.answer n st_n))
          (decide_ok_at bytes two 18 m c.in_ok-low.low (c.in_ok-high.ensures.bytes ∙ c.in_ok-some.ensures.bytes) (c.in_ok-low.ensures.answer m st_m))
          ∙ ap (λ (f : ℕ). read_from bytes d.shape b x i f (progress d o)) (sym c.row_named-row.ensures.row)
          ∙ ap (λ (r : Result Progress Fault). r >>= rows_at bytes d.shape b cleanup x i (f + 1) (3 - f)) read;
    }

pub returns-in_err-negative-clause-takes : goal.returns-in_err-negative-clause-takes
unfolding refused
returns-in_err-negative-clause-takes c =
    let p = err_from_is_err_and c.from_residual-in_err-negative.result c.from_residual-in_err-negative.ensures.1 in
    let bytes = c.args.decoder.now.bytes in
    let one = c.decode.new.self.bytes in
    let two = c.decode-2.new.self.bytes in
    let three = c.decode-3.new.self.bytes in
    let k = c.args.k in
    let f = c.row_named-row.result in
    let few = c.row_named-row.ensures.few in
    rw (p.1, p.2) (λ at d place rows sees coder st.
    let b = at.plane in
    let x = column at.word k in
    let i = at.stripe in
    let n : State = next bytes coder 17 in
    let m : State = next one n 18 in
    let o : State = next two m 18 in
    let st_n = c.in_ok-some.ensures.next coder st in
    let st_m = c.in_ok-high.ensures.next n st_n in
    let a = c.in_err-negative.ensures.takes at d sees o (c.in_ok-low.ensures.next m st_m) in
    let read : read_sign bytes d.shape b x (4 * i + f) (progress d o) ≡ refused c.in_err-negative.field-0.0 =
    ap (λ (bs : List ℕ). read_sign bs d.shape b x (4 * i + f) (progress d o)) (sym (c.in_ok-low.ensures.bytes ∙ c.in_ok-high.ensures.bytes ∙ c.in_ok-some.ensures.bytes))
    ∙ ap (λ (x : ℕ). read_sign three d.shape b x (4 * i + f) (progress d o)) (same_column at.word k f c.requires.first few)
    ∙ ap (λ (y : ℕ). read_sign three d.shape b (column at.word (k + f)) y (progress d o)) (same_row i k f c.requires.first few)
    ∙ a in
    run_goes bytes d.shape b x i (progress d coder) c.in_ok-some.some c.in_ok-high.high c.in_ok-low.low n m o
    (decide_ok bytes 17 coder c.in_ok-some.some (c.in_ok-some.ensures.answer coder st)) c.if-not-some.false
    (decide_ok_at bytes one 18 n c.in_ok-high.high c.in_ok-some.ensures.bytes (c.in_ok-high.ensures.answer n st_n))
    (decide_ok_at bytes two 18 m c.in_ok-low.low (c.in_ok-high.ensures.bytes ∙ c.in_ok-some.ensures.bytes) (c.in_ok-low.ensures.answer m st_m))
    ∙ ap (λ (f : ℕ). read_from bytes d.shape b x i f (progress d o)) (sym c.row_named-row.ensures.row)
    ∙ ap (λ (r : Result Progress Fault). r >>= rows_at bytes d.shape b cleanup x i (f + 1) (3 - f)) read)

pub returns-clause-sees : goal.returns-clause-sees
returns-clause-sees c = λ at d place rows sees.
    let k = c.args.k in
    let f = c.row_named-row.result in
    let few = c.row_named-row.ensures.few in
    subst (λ (t : Bool). Sees at (cond t (significant_at at (k + f) c.light.new.self d) d) c.light.new.self) (sym (is_row f few))
    (subst (λ (b : Bool). Sees at (coded_in at.plane (column at.word (k + f)) (row at.stripe (k + f)) true b d) c.light.new.self) (sym c.light.ensures.sign)
    (c.light.ensures.sees at d (run_place d.shape at k f place c.requires.first few rows) sees))
