use Rattle.jk_model.specs.Decisions.{initial}
use Rattle.jk_model.proofs.CodingPasses.{passes-join, passes-split, passes-flat, flat-passes, state_after_passes-by}
use Rattle.jk_model.proofs.theorems.spelling_by_passes.Goals as goal

pub returns : goal.returns
returns c = record {
  spelled = λ r b s xss yss. (passes-split r b s xss yss, λ h. passes-join r b s xss yss h.0 h.1);
  state = state_after_passes-by;
  flat = λ b dss. (passes-flat b initial dss, flat-passes b initial dss);
}
