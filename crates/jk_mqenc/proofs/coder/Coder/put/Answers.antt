use Rattle.std.proofs.Common.{◌∙◌, ap}
use Rattle.jk_mqenc.specs.declared.coder.Coder.TheInside.{Inside}
use Rattle.jk_mqenc.specs.Machine.{Machine}
use Rattle.jk_mqenc.proofs.Holdings.{pushed-items, kept-items, none-begun, placed-more}
use Rattle.jk_mqenc.proofs.coder.Coder.put.Goals as goal
use Rattle.jk_mqenc.proofs.coder.Coder.put.Goals.{in-Some+in_ok-push, in_default}

pub returns-clause-placed : goal.returns-clause-placed
returns-clause-placed c =
    let old = c.self.inside in
    let new = c.match-placement.self-inside in
    let p = c.placing-placement.result in
    let e = c.placing-placement.ensures in
    let seen = ap (λ (m : Machine). m.placed) c.self.view_is in
    elim c.match-placement.branch [
      | in-Some+in_ok-push w ↦ placed-more old.out.items new.out.items c.args.self.now.placed old.held p.out c.args.code p.byte p.code p.count seen e.placed (pushed-items old.out.items new.out.items p.out w.in-Some.byte w.in-Some.is (ap (λ (i : Inside). i.out.items) w.self-inside-is ∙ w.in_ok-push.ensures.items))
      | in_default w ↦ placed-more old.out.items new.out.items c.args.self.now.placed old.held p.out c.args.code p.byte p.code p.count seen e.placed (kept-items old.out.items new.out.items p.out w.in_default.is (ap (λ (i : Inside). i.out.items) w.self-inside-is) (none-begun old.out.items old.held (e.kept w.in_default.is) c.self.invariant))
    ]
