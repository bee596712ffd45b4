use Rattle.jk_marks.proofs.Fronts.{greatest_front}
use Rattle.jk_marks.proofs.segments.Precincts.greatest.Goals as goal

pub returns : goal.returns
returns c = greatest_front c.args.count c.requires
