use Rattle.std.proofs.Common.{◌≡◌, Result, Ok, Err, IfOk, IfErr, ap}
use Rattle.jk_hall.specs.declared.reader.Reader.{Reader}
use Rattle.jk_hall.specs.Reading.{hall_of_reader}
use Rattle.vectors_hall.proofs.calls.replied.Goals as goal

-- what both kinds of answers say
of_both : {A E P : Type 0} {G : A → Type 0} {H : E → Type 0} (r : Result A E) → ((a : A) → G a → P) → ((e : E) → H e → P)
    → IfOk r G → IfErr r H → P
of_both (Ok a) f h given refused = f a given
of_both (Err e) f h given refused = h e refused

pub returns : goal.returns
returns g c =
    of_both c.serve.result (λ r given. ap (λ t. t.seen.book) given.goes.told_same) (λ e refused. ap (λ t. t.seen.book) refused.1.told_same)
    c.serve.ensures.ok c.serve.ensures.err
