use Rattle.std.proofs.Common.{◌++◌, ◌∷◌, [], ap, sym, subst, ◌∙◌, append-nil}
use Rattle.jk_store.specs.Opening.{stored_file}
use Rattle.jk_store.specs.OpeningWith.{waiting_files, IsMadeOf}
use Rattle.jk_store.proofs.OpenWithLaws.{taken_more}
use Rattle.jk_store.proofs.opening_with.Opening.take.Goals as goal

pub returns-in_ok-judge-clause-taken : goal.returns-in_ok-judge-clause-taken
returns-in_ok-judge-clause-taken g c = λ given taken.
    let f = stored_file c.args.file in
    let longer = given ++ f ∷ [] in
    let split = taken_more given taken.0 (waiting_files c.args.self.now) (waiting_files c.wait.new.self) f taken.1 c.in_ok-wait.ensures.more in
    let made = subst (IsMadeOf taken.0) (sym c.in_ok-wait.ensures.made) taken.2 in
    let all = c.in_ok-judge.ensures.made longer (taken.0, split, made) in
    (longer, sym (ap (λ l. longer ++ l) all.1 ∙ append-nil longer), all.0)
