use Rattle.jk_packet.proofs.GatherLaws.{told_gathers, parts_within}
use Rattle.jk_packet.proofs.facts.parts_are_contributions.Goals as goal

pub returns-clause-gathered : goal.returns-clause-gathered
returns-clause-gathered c = told_gathers

pub returns-clause-within : goal.returns-clause-within
returns-clause-within c = parts_within
