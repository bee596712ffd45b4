use Rattle.std.proofs.Common.{sym, subst, ◌≤◌}
use Rattle.jk_model.proofs.StepLaws.{size_of, size_sound}
use Rattle.jk_model.proofs.steps.Step.size.Goals as goal

pub returns-clause-smallest : goal.returns-clause-smallest
returns-clause-smallest c =
    subst (λ q. 1 ≤ q) (sym (size_of c.self.inside.entry c.self.invariant)) (size_sound c.self.inside.entry c.self.invariant).0

pub returns-clause-largest : goal.returns-clause-largest
returns-clause-largest c =
    subst (λ q. q ≤ 0x5601) (sym (size_of c.self.inside.entry c.self.invariant)) (size_sound c.self.inside.entry c.self.invariant).1
