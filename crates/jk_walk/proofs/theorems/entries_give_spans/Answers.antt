use Rattle.jk_walk.proofs.EntryLaws.{entries_spans}
use Rattle.jk_walk.proofs.theorems.entries_give_spans.Goals as goal

pub returns : goal.returns
returns c = record { spans = entries_spans }
