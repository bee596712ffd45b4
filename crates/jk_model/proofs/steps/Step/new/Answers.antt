use Rattle.std.proofs.Common.{◌∙◌, ap, sym, subst}
use Rattle.jk_model.specs.Contexts.{begins}
use Rattle.jk_model.specs.Steps.{context_of, IsEntry}
use Rattle.jk_model.proofs.StepLaws.{new_is, entry_sound, context_back}
use Rattle.jk_model.proofs.steps.Step.new.Goals as goal

pub invariant_of-result : goal.invariant_of-result
invariant_of-result c = subst (λ e. IsEntry e) (sym (c.entry_at.ensures ∙ new_is c.args.state c.requires)) (entry_sound (begins c.args.state) c.requires)

pub returns : goal.returns
returns c = ap (λ e. context_of e) (c.entry_at.ensures ∙ new_is c.args.state c.requires) ∙ context_back (begins c.args.state) c.requires
