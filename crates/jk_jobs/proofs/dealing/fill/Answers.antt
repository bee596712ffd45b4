use Rattle.std.proofs.Common.{List, length, arith, ap, ◌∙◌}
use Rattle.std.proofs.lemmas.List.{length-set}
use Rattle.std.proofs.Common.{Some}
use Rattle.jk_jobs.specs.Dealing.{IsTaken}
use Rattle.jk_jobs.proofs.Shares.{filled_more, rest_all}
use Rattle.jk_jobs.proofs.dealing.fill.Goals as goal

pub put-requires : goal.put-requires
put-requires g c =
    let inv = c.loop-taken.invariant in
    let front = rest_all (IsTaken g.W.Work.gives c.args.jobs.now) c.loop-taken.taken-iterator.rest.items c.next.new.self.rest.items c.in-Some.taken c.in-Some.ensures.steps.0 inv.taken in
    let less = front.0.is_job in
    omega (arith, less, inv.long)

pub loop-taken-preserved : goal.loop-taken-preserved
loop-taken-preserved g c =
    let gives = g.W.Work.gives in
    let jobs = c.args.jobs.now in
    let inv = c.loop-taken.invariant in
    let taken = c.in-Some.taken in
    let front = rest_all (IsTaken gives jobs) c.loop-taken.taken-iterator.rest.items c.next.new.self.rest.items taken c.in-Some.ensures.steps.0 inv.taken in
    record {
      taken = front.1;
      long = ap (λ (xs : List _). length xs) c.put.ensures ∙ length-set c.loop-taken.slots.items taken.job (Some taken.given) ∙ inv.long;
      filled = filled_more gives jobs c.loop-taken.slots.items c.put.new.slots.items taken.job taken.given inv.filled (let l = front.0.is_job in omega (arith, l, inv.long)) front.0.gives_it c.put.ensures;
    }
