use Rattle.std.proofs.Common.{List, ℕ, ◌+◌, ◌≤◌, length, subst, arith}
use Rattle.std.proofs.lemmas.List.{length-drop}
use Rattle.jk_web.specs.Heads.{IsQuiet, IsBad}
use Rattle.jk_web.specs.Judging.{IsHeadAt}
use Rattle.jk_web.specs.Serving.{no_request}
use Rattle.jk_web.proofs.RequestLaws.{tail_is, all_quiet, all_closing, all_bad, one_further, further_less}
use Rattle.jk_web.proofs.head.judge_all.Goals as goal

pub requests-init : goal.requests-init
requests-init c = (omega arith, no_request)

pub returns-then-head : goal.returns-then-head
returns-then-head c =
    let at = subst (λ (v : List ℕ). IsHeadAt v c.in-Whole.head) (tail_is c.args.rest.now c.requests.start) c.in-Whole.ensures.whole in
    all_closing c.args.rest.now c.requests.start c.in-Whole.head c.requests.invariant.1 at c.if-head.true

pub requests-preserved : goal.requests-preserved
requests-preserved c =
    let at = subst (λ (v : List ℕ). IsHeadAt v c.in-Whole.head) (tail_is c.args.rest.now c.requests.start) c.in-Whole.ensures.whole in
    let fits = subst (λ (v : List ℕ). c.in-Whole.head.length ≤ length v) (tail_is c.args.rest.now c.requests.start) c.in-Whole.ensures.within.fits in (
      omega (arith, fits, c.requests.invariant.0, length-drop c.requests.start c.args.rest.now),
      one_further c.args.rest.now c.requests.start c.in-Whole.head c.requests.invariant.1 at c.if-head.false,
    )

pub requests-smaller : goal.requests-smaller
requests-smaller c =
    let at = subst (λ (v : List ℕ). IsHeadAt v c.in-Whole.head) (tail_is c.args.rest.now c.requests.start) c.in-Whole.ensures.whole in
    omega (
      arith,
      further_less c.args.rest.now c.requests.start c.in-Whole.head at,
      length-drop c.requests.start c.args.rest.now,
      length-drop (c.requests.start + c.in-Whole.head.length) c.args.rest.now,
    )

pub returns-in-More : goal.returns-in-More
returns-in-More c =
    all_quiet c.args.rest.now c.requests.start c.requests.invariant.1
    (subst IsQuiet (tail_is c.args.rest.now c.requests.start) c.in-More.ensures.more)

pub returns-in-Bad : goal.returns-in-Bad
returns-in-Bad c =
    all_bad c.args.rest.now c.requests.start c.in-Bad.field-0 c.requests.invariant.1
    (subst (λ (v : List ℕ). IsBad v c.in-Bad.field-0) (tail_is c.args.rest.now c.requests.start) c.in-Bad.ensures.bad)
