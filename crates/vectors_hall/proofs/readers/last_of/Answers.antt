use Rattle.std.proofs.Common.{IfSome, subst}
use Rattle.std.proofs.lemmas.List.Elements.{All-pop}
use Rattle.jk_hall.specs.Writing.{hall_of}
use Rattle.jk_hall.specs.Reading.{Opens}
use Rattle.vectors_hall.proofs.readers.last_of.Goals as goal

pub returns : goal.returns
returns g c =
    let opens = Opens (hall_of c.args.writer.now) c.requires.0 in
    let last = All-pop opens _ _ c.pop.result c.pop.ensures.items c.requires.1 in
    (subst (λ o. IfSome o opens) c.expect.ensures last.1).of_hall
