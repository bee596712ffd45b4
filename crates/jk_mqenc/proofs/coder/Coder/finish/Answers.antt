use Rattle.std.proofs.Common.{◌∙◌, ap, sym, subst, refl, arith}
use Rattle.jk_mqenc.specs.declared.coder.Coder.TheInside.{Inside}
use Rattle.jk_mqenc.specs.Machine.{Machine}
use Rattle.jk_mqenc.specs.Coding.{set_bits, pushed_out, flushed}
use Rattle.jk_mqenc.proofs.Holdings.{IsHeld, held-bound}
use Rattle.jk_mqenc.proofs.Finishing.{held-set, held-least, held-pushed}
use Rattle.jk_mqenc.proofs.Finished.{set-is, flushed-from, last-pushed, last-left_off, last-none}
use Rattle.jk_mqenc.proofs.coder.Coder.finish.Goals as goal
use Rattle.jk_mqenc.proofs.coder.Coder.finish.Goals.{in-Some+then-byte+in_ok-push, in-Some+else-byte, in_default}

pub set_bits-requires : goal.set_bits-requires
set_bits-requires c =
    let code = ap (λ (m : Machine). m.code) c.self.view_is in
    let width = ap (λ (m : Machine). m.width) c.self.view_is in
    omega (arith, code, width, held-bound c.args.self c.requires.holds)

pub push_out-requires-clause-holds : goal.push_out-requires-clause-holds
push_out-requires-clause-holds c =
    let s = c.self.inside in
    subst (λ (m : Machine). IsHeld m) (sym (set-is s.code s.width s.count c.set_bits.result _ c.args.self c.self.view_is c.set_bits.ensures)) (held-set c.args.self c.requires.width c.requires.holds)

pub push_out-requires-2-clause-holds : goal.push_out-requires-2-clause-holds
push_out-requires-2-clause-holds c =
    let s = c.self.inside in
    let first = set-is s.code s.width s.count c.set_bits.result _ c.args.self c.self.view_is c.set_bits.ensures in
    let held = subst (λ (m : Machine). IsHeld m) (sym (c.in_ok-push_out.ensures.done ∙ ap (λ (m : Machine). pushed_out m) first)) (held-pushed (record c.args.self { code = set_bits c.args.self.code c.args.self.width; width = 1 }) refl (held-set c.args.self c.requires.width c.requires.holds)) in
    subst (λ (m : Machine). IsHeld m) (sym (ap (λ (m : Machine). record m { width = 1 }) c.self-2.view_is)) (held-least c.push_out.new.self held)

pub returns : goal.returns
returns c = record {
  bytes =
      let s = c.self.inside in
      let first = set-is s.code s.width s.count c.set_bits.result _ c.args.self c.self.view_is c.set_bits.ensures in
      let last = flushed-from c.args.self _ c.push_out.new.self _ c.push_out-2.new.self first c.in_ok-push_out.ensures.done (ap (λ (m : Machine). record m { width = 1 }) c.self-2.view_is) c.in_ok-push_out-2.ensures.done in
      let placed = ap (λ (m : Machine). m.placed) (c.self-3.view_is ∙ last) in
      let old = c.self-3.inside in
      let new = c.match-self.self-inside.out.items in
      let f = (flushed c.args.self).placed in
      elim c.match-self.branch [
        | in-Some+then-byte+in_ok-push w ↦ last-pushed old.out.items new f old.held w.in-Some.byte placed w.in-Some.is w.if-byte.true (ap (λ (i : Inside). i.out.items) w.self-inside-is ∙ w.in_ok-push.ensures.items)
        | in-Some+else-byte w ↦ last-left_off old.out.items new f old.held w.in-Some.byte placed w.in-Some.is w.if-byte.false (ap (λ (i : Inside). i.out.items) w.self-inside-is)
        | in_default w ↦ last-none old.out.items new f old.held placed w.in_default.is c.self-3.invariant (ap (λ (i : Inside). i.out.items) w.self-inside-is)
      ];
}
