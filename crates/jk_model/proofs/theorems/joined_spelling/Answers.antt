use Rattle.jk_model.proofs.Spelling.{spells-join, spells-split, state_after-joined}
use Rattle.jk_model.proofs.theorems.joined_spelling.Goals as goal

pub returns : goal.returns
returns c = record {
  spelled = λ b s xs ys. (spells-split b s xs ys, λ h. spells-join b s xs ys h.0 h.1);
  state = state_after-joined;
}
