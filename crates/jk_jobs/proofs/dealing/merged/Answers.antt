use Rattle.std.proofs.Common.{◌≡◌, ◌+◌, List, ◌<◌, Ok, Err, None, length, drop, get_or, sym, ap, subst, ◌∙◌, inr, arith}
use Rattle.std.proofs.lemmas.List.{get_or_default}
use Rattle.std.proofs.lemmas.Result.{err_from_is_err_and}
use Rattle.jk_jobs.specs.Dealing.{AreGiven}
use Rattle.jk_jobs.proofs.Shares.{given_more, front_of}
use Rattle.jk_jobs.proofs.dealing.merged.Goals as goal

pub offset_bounds-jobs-len : goal.offset_bounds-jobs-len
offset_bounds-jobs-len g c =
    let inv = c.loop-slot.invariant in
    omega (arith, c.len.ensures, c.loop-slot.all.ok.0, inv.long)

pub given_of-requires-clause-slot : goal.given_of-requires-clause-slot
given_of-requires-clause-slot g c κs within r e =
    let inv = c.loop-slot.invariant in
    let jobs = c.args.jobs.now in
    let n = length c.loop-slot.all.items in
    let front = front_of c.args.slots.items c.next.new.self.rest.items n c.in-Some.slot None (sym c.in-Some.ensures.steps.0 ∙ inv.rest) in
    let filled = c.requires.filled n r (front.1 ∙ e) in
    let at : c.len.result ≡ n = omega (arith, c.len.ensures, c.loop-slot.all.ok.0) in
    subst (λ j. g.W.Work.gives j r) (ap (λ k. get_or jobs k c.index-jobs-len.result) (sym at) ∙ sym c.index-jobs-len.is) (filled c.index-jobs-len.result)

pub returns-in_err-given_of : goal.returns-in_err-given_of
returns-in_err-given_of g c =
    let inv = c.loop-slot.invariant in
    let jobs = c.args.jobs.now in
    let n = length c.loop-slot.all.items in
    let at : c.len.result ≡ n = omega (arith, c.len.ensures, c.loop-slot.all.ok.0) in
    let less : n < length jobs = (let l = ap (λ (xs : List _). length xs) c.in-Some.ensures.steps.0 in omega (arith, l, inv.long)) in
    let e = c.in_err-given_of.field-0.0 in
    let q = err_from_is_err_and c.from_residual-in_err-given_of.result c.from_residual-in_err-given_of.ensures.1 in
    record {
      given = rw (q.1, q.2) (inr (record {
        job = length c.loop-slot.all.items;
        is_job = less;
        fails = λ j. subst (λ k. g.W.Work.gives k (Err e)) (c.index-jobs-len.is ∙ ap (λ k. get_or jobs k c.index-jobs-len.result) at ∙ get_or_default jobs n c.index-jobs-len.result j less) c.in_err-given_of.ensures;
        before = c.loop-slot.all.items;
        given = inv.all;
      }));
    }

pub loop-slot-preserved : goal.loop-slot-preserved
loop-slot-preserved g c =
    let inv = c.loop-slot.invariant in
    let jobs = c.args.jobs.now in
    let n = length c.loop-slot.all.items in
    let more : length c.push.new.self.items ≡ n + 1 = omega (arith, c.in_ok-push.ensures.len) in
    let at : c.len.result ≡ n = omega (arith, c.len.ensures, c.loop-slot.all.ok.0) in
    let less : n < length jobs = (let l = ap (λ (xs : List _). length xs) c.in-Some.ensures.steps.0 in omega (arith, l, inv.long)) in
    let front = front_of c.args.slots.items c.next.new.self.rest.items n c.in-Some.slot None (sym c.in-Some.ensures.steps.0 ∙ inv.rest) in
    record {
      all = given_more g.W.Work.gives jobs n c.loop-slot.all.items c.push.new.self.items c.in_ok-given_of.field-0 inv.all
          (λ j. subst (λ k. g.W.Work.gives k (Ok c.in_ok-given_of.field-0)) (c.index-jobs-len.is ∙ ap (λ k. get_or jobs k c.index-jobs-len.result) at ∙ get_or_default jobs n c.index-jobs-len.result j less) c.in_ok-given_of.ensures)
          c.in_ok-push.ensures.items more;
      rest = front.2 ∙ ap (λ k. drop k c.args.slots.items) (sym more);
      long = let l = ap (λ (xs : List _). length xs) c.in-Some.ensures.steps.0 in omega (arith, more, l, inv.long);
    }

pub returns : goal.returns
returns g c =
    let inv = c.loop-slot.invariant in
    let same : length c.loop-slot.all.items ≡ length c.args.jobs.now = omega (arith, inv.long, c.in-None.ensures.steps.0, c.loop-slot.slot-iterator.rest.ok.0) in
    record { given = subst (λ n. AreGiven g.W.Work.gives c.args.jobs.now n c.loop-slot.all.items) same inv.all }
