use Rattle.jk_model.proofs.Alike.{value-alike, alike-ff, spells-alike}
use Rattle.jk_model.proofs.theorems.alike_spelling.Goals as goal

pub returns : goal.returns
returns c = record {
  spelled = λ a b s ds h k. spells-alike a b h s ds k;
  value = λ a b n h. value-alike a b h n;
  last = alike-ff;
}
