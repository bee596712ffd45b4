use Rattle.std.proofs.Common.{◌++◌, ◌∷◌, [], refl}
use Rattle.jk_store.specs.Checking.{given_file}
use Rattle.jk_store.proofs.CheckLaws.{waits_more, none_waits}
use Rattle.jk_store.proofs.checking.Checking.take.Goals as goal

pub returns-in_ok-judge-clause-taken : goal.returns-in_ok-judge-clause-taken
returns-in_ok-judge-clause-taken g c = λ given taken.
    let file = c.args.file in
    let longer = given ++ given_file file ∷ [] in
    let waits = waits_more file.blocks given taken.0 c.args.self.now.batch.items c.push.new.self.items file refl c.in_ok-push.ensures.items taken.1 taken.3 in
    let found = c.in_ok-judge.ensures.taken longer file.blocks (taken.0, waits.0, taken.2, waits.1) in
    let none = none_waits file.blocks longer c.judge.new.self.batch.items c.in_ok-judge.ensures.none in
    (longer, none.0, found, none.1)
