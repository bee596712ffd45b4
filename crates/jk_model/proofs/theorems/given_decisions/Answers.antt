use Rattle.jk_model.proofs.Deciding.{state_after-by, state_by-joined, spells-follows, follows-spells}
use Rattle.jk_model.proofs.theorems.given_decisions.Goals as goal

pub returns : goal.returns
returns c = record {
  state = state_after-by;
  spelled = λ b s ds. (spells-follows b s ds, follows-spells b s ds);
  joined = state_by-joined;
}
