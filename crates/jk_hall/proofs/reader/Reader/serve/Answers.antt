use Rattle.std.proofs.Common.{Result, Ok, Err, IfOk, OnOk, rules}
use Rattle.jk_math.specs.declared.fault.Fault.{Fault}
use Rattle.jk_hall.proofs.RunLaws.{looks_next}
use Rattle.jk_hall.proofs.Served.{given, refused}
use Rattle.jk_hall.proofs.reader.Reader.serve.Goals as goal

pub returns-clause-ok : goal.returns-clause-ok
returns-clause-ok g c =
    given g.S.Shelf.keeps (c.args.self.now, c.args.shelf.now) _ c.args.request.now (search rules) (search rules) g.S.Shelf.failed g.S.Shelf.gave g.S.Shelf.gave_at
    c.replace_with-reply.result.0 (search rules) (search rules) (search rules)

pub returns-clause-err : goal.returns-clause-err
returns-clause-err g c =
    refused g.S.Shelf.keeps (c.args.self.now, c.args.shelf.now) _ c.args.request.now (search rules) (search rules) c.replace_with-reply.result.0 (search rules)

on_ok : {A : Type 0} (r : Result A Fault) (P : A → Type 0) (T : Type 0) → ((x : A) → P x → T) → IfOk r P → OnOk r T
on_ok (Ok x) P T f h = f x h
on_ok (Err e) P T f h = tt

pub returns-clause-step : goal.returns-clause-step
returns-clause-step g c = on_ok c.replace_with-reply.result.0 _ _ (λ y gives. looks_next _ _ gives.goes.grown) (returns-clause-ok g c)
