use Rattle.std.proofs.Common.{inl, inr, take, ap, subst, refl, Err, arith}
use Rattle.std.proofs.lemmas.List.{length-take}
use Rattle.httparse.specs.Grammar.{HasNoRequest, NeverHasRequest}
use Rattle.jk_web.specs.Heads.{BeginsTooMany}
use Rattle.jk_web.proofs.HeadLaws.{window_is, reads_in_window, judged_head, judged_bad, judged_good}
use Rattle.jk_web.proofs.TooManyLaws.{begins_too_many}
use Rattle.jk_web.proofs.head.judge.Goals as goal

pub returns-in-Ok-Complete-clause-whole : goal.returns-in-Ok-Complete-clause-whole
returns-in-Ok-Complete-clause-whole c =
    let window = window_is c.args.rest.now c.min.result c.min.ensures in
    let within = rw c.in-Ok-Complete.field-0-is at c.in-Ok-Complete.ensures.within in
    let made = rw c.in-Ok-Complete.field-0-is at c.in-Ok-Complete.ensures.complete in
    judged_head c.args.rest.now (take c.min.result c.args.rest.now) c.parse_request.new.headers c.in-Ok-Complete.spans made.0 c.judge_head.result window
    (omega arith) within made.1 (c.judge_head.ensures made.0 made.1)

pub returns-in-Ok-Complete-clause-found : goal.returns-in-Ok-Complete-clause-found
returns-in-Ok-Complete-clause-found c =
    let window = window_is c.args.rest.now c.min.result c.min.ensures in
    λ h tail whole good.
    let found = c.in-Ok-Complete.ensures.found h _ (reads_in_window c.args.rest.now _ h tail window whole) good.few in
    judged_good c.in-Ok-Complete.spans h c.judge_head.result good
    (c.judge_head.ensures h (rw c.in-Ok-Complete.field-0-is at found))

pub returns-in-Ok-Complete-clause-bad : goal.returns-in-Ok-Complete-clause-bad
returns-in-Ok-Complete-clause-bad c =
    let window = window_is c.args.rest.now c.min.result c.min.ensures in
    let made = rw c.in-Ok-Complete.field-0-is at c.in-Ok-Complete.ensures.complete in
    judged_bad c.args.rest.now (take c.min.result c.args.rest.now) c.parse_request.new.headers c.in-Ok-Complete.spans made.0 c.judge_head.result window
    made.1 (c.judge_head.ensures made.0 made.1)

pub returns-else-window-lt-HEAD_LIMIT-clause-found :
    goal.returns-else-window-lt-HEAD_LIMIT-clause-found
returns-else-window-lt-HEAD_LIMIT-clause-found c =
    let window = window_is c.args.rest.now c.min.result c.min.ensures in
    let none = rw c.in-Ok-Partial.field-0-is at c.in-Ok-Partial.ensures.partial in
    λ h tail whole good. none h _ (reads_in_window c.args.rest.now _ h tail window whole)

pub returns-else-window-lt-HEAD_LIMIT-clause-bad :
    goal.returns-else-window-lt-HEAD_LIMIT-clause-bad
returns-else-window-lt-HEAD_LIMIT-clause-bad c =
    let window = window_is c.args.rest.now c.min.result c.min.ensures in
    let none = rw c.in-Ok-Partial.field-0-is at c.in-Ok-Partial.ensures.partial in
    inr (refl, inl (omega (arith, length-take c.min.result c.args.rest.now), subst HasNoRequest window none))

pub returns-in-TooManyHeaders-clause-found : goal.returns-in-TooManyHeaders-clause-found
returns-in-TooManyHeaders-clause-found c =
    let window = window_is c.args.rest.now c.min.result c.min.ensures in
    λ h tail whole good.
    c.in-Err.ensures.found h _ (reads_in_window c.args.rest.now _ h tail window whole) good.few

pub returns-in-TooManyHeaders-clause-bad : goal.returns-in-TooManyHeaders-clause-bad
returns-in-TooManyHeaders-clause-bad c =
    let window = window_is c.args.rest.now c.min.result c.min.ensures in
    let exceeds = c.in-Err.ensures.too_many (ap (λ e. Err e) c.in-TooManyHeaders.is) in
    inr (refl, inr (subst BeginsTooMany window (begins_too_many (take c.min.result c.args.rest.now) exceeds)))

pub returns-in_default : goal.returns-in_default
returns-in_default c =
    let window = window_is c.args.rest.now c.min.result c.min.ensures in
    record {
      within = tt;
      whole = tt;
      found = λ h tail whole good. c.in-Err.ensures.found h _ (reads_in_window c.args.rest.now _ h tail window whole) good.few;
      more = tt;
      bad = inl (refl, inl (subst NeverHasRequest window (c.in-Err.ensures.invalid c.in_default.not-TooManyHeaders)));
    }
