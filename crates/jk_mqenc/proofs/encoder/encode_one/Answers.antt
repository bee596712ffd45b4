use Rattle.std.proofs.Common.{◌≡◌, ◌∙◌, ap, subst, ◌-◌, ◌^◌, List, ◌∷◌, [], ◌++◌, get_or, set, Bool, not, cond, ltb, eqb, IfOk, refl, arith}
use Rattle.std.specs.Bool.{beq}
use Rattle.std.proofs.lemmas.List.{get_or_default}
use Rattle.jk_math.specs.Steps.{if_ok}
use Rattle.jk_model.specs.Contexts.{begins, moved, row_of}
use Rattle.jk_model.specs.Decisions.{State, Decision}
use Rattle.jk_mqenc.specs.declared.registers.Registers.{Registers}
use Rattle.jk_mqenc.specs.Machine.{Machine}
use Rattle.jk_mqenc.specs.Coding.{subinterval, renorme}
use Rattle.jk_mqenc.specs.Encoded.{CodesFrom, with_registers, lasting}
use Rattle.jk_mqenc.proofs.Encoding.{held-of, codes-step}
use Rattle.jk_mqenc.proofs.Settling.{taken-is, held-taken, digit-back, ready-coded}
use Rattle.jk_mqenc.proofs.encoder.encode_one.Goals as goal

pub taken-taken-requires : goal.taken-taken-requires
taken-taken-requires c = (ready-coded (lasting (with_registers c.args.coder.now c.args.registers) c.args.contexts.now) (λ _. c.requires.coded) refl).room

pub code-requires-clause-holds : goal.code-requires-clause-holds
code-requires-clause-holds c =
    let r = c.args.registers in
    let at = get_or c.args.contexts.now c.args.cx c.index-contexts-cx.result in
    let q = (row_of at.state).qe in
    let taken = c.taken-taken.ensures in
    let lower = not (beq (not (beq c.args.bit c.mps.result)) (ltb (r.width - q) q)) in
    held-taken c.args.coder.now r c.taken-taken.result q lower taken.code taken.width taken.count taken.smallest taken.largest
    (held-of (lasting (with_registers c.args.coder.now r) c.args.contexts.now) (λ _. c.requires.coded) refl)

pub returns : goal.returns
returns c = record {
  codes =
      let now = c.args.coder.now in
      let m = with_registers now c.args.registers in
      let cs = c.args.contexts.now in
      let at = get_or cs c.args.cx c.index-contexts-cx.result in
      let q = (row_of at.state).qe in
      let less = not (beq c.args.bit c.mps.result) in
      let lower = not (beq less (ltb (c.args.registers.width - q) q)) in
      let taken = c.taken-taken.ensures in
      let size = c.taken-taken.result.width in
      let moves : eqb c.wide.result 0 ≡ ltb size (2 ^ 15) = ap (λ x. eqb x 0) c.wide.ensures ∙ digit-back (ltb size (2 ^ 15)) in
      let coded : (r : Registers) → with_registers c.code.new.self r ≡ renorme 15 (subinterval m q lower)
      → (from : Machine) (start : State) (ds : List Decision) → CodesFrom from start (lasting m cs) ds → CodesFrom from start (lasting (with_registers c.code.new.self r) (set cs c.args.cx c.followed.result)) (ds ++ (c.args.cx, c.args.bit) ∷ []) =
      λ r done from start ds codes. codes-step from start (lasting m cs) (lasting (with_registers c.code.new.self r) (set cs c.args.cx c.followed.result)) c.args.cx q size c.args.bit c.mps.result at c.followed.result ds
      (get_or_default cs c.args.cx c.index-contexts-cx.result (begins 0) (omega arith)) c.mps.ensures refl
      taken.width
      (c.followed.ensures ∙ ap (λ (t : Bool). cond t (moved at (cond less (not at.mps) at.mps)) at) moves) done refl refl codes in
      if_ok c.code.result coded
      (subst (λ (x : Machine). IfOk c.code.result (λ r. with_registers c.code.new.self r ≡ renorme 15 x)) (taken-is now c.args.registers c.taken-taken.result q lower taken.code taken.width taken.count) c.code.ensures.done);
}
