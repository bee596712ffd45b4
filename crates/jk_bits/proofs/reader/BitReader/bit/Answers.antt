use Rattle.std.proofs.Common.{◌-◌, ◌/◌, ◌^◌, ◌==◌, sym, ap, ◌∙◌, subst, Ok, Some}
use Rattle.std.specs.Prelude.{is_some}
use Rattle.std.proofs.lemmas.Nat.{and_mask}
use Rattle.jk_bits.specs.declared.reader.BitReader.TheInside.{Inside}
use Rattle.jk_bits.specs.Reading.{IsReading, read_of, bit_at}
use Rattle.jk_bits.proofs.Registers.{stop, IsReady, takes, ready, ready_loaded}
use Rattle.jk_bits.proofs.reader.BitReader.bit.Goals as goal
use Rattle.jk_bits.proofs.reader.BitReader.bit.Goals.{then-self-eq0+in-Ok, else-self-eq0}

pub invariant_of-self : goal.invariant_of-self
invariant_of-self c =
    let s = c.self.inside in
    let at_zero : IsReading s.bytes.now s.position s.byte 0 s.failed = subst (λ n. IsReading s.bytes.now s.position s.byte n s.failed) c.if-self-eq0.true c.self.invariant in
    let kept = (stop s.bytes.now s.position s.byte s.failed (is_some s.failed) c.in-Err.fault at_zero (sym c.next_byte.ensures ∙ c.in-Err.is)).0 in
    subst (λ n. IsReading s.bytes.now s.position s.byte n (Some c.in-Err.fault)) (sym c.if-self-eq0.true) kept

pub returns-in-Err-clause-exact : goal.returns-in-Err-clause-exact
returns-in-Err-clause-exact c =
    let s = c.self.inside in
    let at_zero : IsReading s.bytes.now s.position s.byte 0 s.failed = subst (λ n. IsReading s.bytes.now s.position s.byte n s.failed) c.if-self-eq0.true c.self.invariant in
    ap bit_at (sym c.self.view_is)
    ∙ ap (λ n. bit_at record { bytes = s.bytes.now; read = read_of s.bytes.now s.position s.byte n; failed = is_some s.failed }) c.if-self-eq0.true
    ∙ (stop s.bytes.now s.position s.byte s.failed (is_some s.failed) c.in-Err.fault at_zero (sym c.next_byte.ensures ∙ c.in-Err.is)).1

pub invariant_of-self-2 : goal.invariant_of-self-2
invariant_of-self-2 c =
    let old = c.args.self.now in
    let s = c.self.inside in
    let t = c.if-self-eq0.self-inside in
    let r : IsReady old t.bytes.now t.position t.byte t.left t.failed =
    elim c.if-self-eq0.branch [
      | then-self-eq0+in-Ok w ↦ subst (λ (i : Inside). IsReady old i.bytes.now i.position i.byte i.left i.failed) (sym w.self-inside-is)
          (subst (λ n. IsReady old s.bytes.now _ w.in-Ok.byte n s.failed) (sym w.room_after-self-inside.ensures)
          (ready_loaded old s.bytes.now s.position s.byte s.left w.in-Ok.byte s.failed c.self.invariant w.if-self-eq0.true (sym w.next_byte.ensures ∙ w.in-Ok.is) (sym c.self.view_is)))
      | else-self-eq0 w ↦ subst (λ (i : Inside). IsReady old i.bytes.now i.position i.byte i.left i.failed) (sym w.self-inside-is)
          (ready old s.bytes.now s.position s.byte s.left s.failed c.self.invariant w.if-self-eq0.false (sym c.self.view_is))
    ] in
    (takes old t.bytes.now t.position t.byte t.left t.failed r).reads

pub returns-clause-exact : goal.returns-clause-exact
returns-clause-exact c =
    let old = c.args.self.now in
    let s = c.self.inside in
    let t = c.if-self-eq0.self-inside in
    let r : IsReady old t.bytes.now t.position t.byte t.left t.failed =
    elim c.if-self-eq0.branch [
      | then-self-eq0+in-Ok w ↦ subst (λ (i : Inside). IsReady old i.bytes.now i.position i.byte i.left i.failed) (sym w.self-inside-is)
          (subst (λ n. IsReady old s.bytes.now _ w.in-Ok.byte n s.failed) (sym w.room_after-self-inside.ensures)
          (ready_loaded old s.bytes.now s.position s.byte s.left w.in-Ok.byte s.failed c.self.invariant w.if-self-eq0.true (sym w.next_byte.ensures ∙ w.in-Ok.is) (sym c.self.view_is)))
      | else-self-eq0 w ↦ subst (λ (i : Inside). IsReady old i.bytes.now i.position i.byte i.left i.failed) (sym w.self-inside-is)
          (ready old s.bytes.now s.position s.byte s.left s.failed c.self.invariant w.if-self-eq0.false (sym c.self.view_is))
    ] in
    (takes old t.bytes.now t.position t.byte t.left t.failed r).gives
    ∙ ap (λ n. Ok (n == 1, record { bytes = t.bytes.now; read = read_of t.bytes.now t.position t.byte (t.left - 1); failed = is_some t.failed })) (sym (and_mask (t.byte / 2 ^ (t.left - 1)) 1))
