use Rattle.std.proofs.Common.{◌≡◌, ◌++◌, All, map, ap, sym, subst, ◌∙◌}
use Rattle.std.specs.List.{AllZip}
use Rattle.jk_math.specs.Memory.{IsMemory}
use Rattle.jk_jobs.proofs.Laws.{zipped}
use Rattle.jk_store.specs.Checking.{IsFoundOf, IsJudged, given_file}
use Rattle.jk_store.proofs.CheckLaws.{judged_each, judging_memory, zip_more}
use Rattle.jk_store.proofs.OpenLaws.{fault_is}
use Rattle.jk_store.proofs.checking.Checking.judge.Goals as goal

pub returns-in_err-more-clause-err : goal.returns-in_err-more-clause-err
returns-in_err-more-clause-err g c =
    let fault = c.in_err-more.field-0.0 in
    let due = c.in_err-more.ensures.given c.requires.some c.requires.most in
    fault_is c.from_residual.result fault c.from_residual.ensures.1 IsMemory (judging_memory IsJudged (λ j e memory. memory) c.deref.result.now fault due)

pub returns-clause-taken : goal.returns-clause-taken
returns-clause-taken g c = λ given blocks taken.
    let jobs = c.deref.result.now in
    let more = c.in_ok-more.more.items in
    let old = c.args.self.now in
    let same : jobs ≡ old.batch.items = c.deref.ensures.value ∙ ap (λ v. v.items) c.replace-batch.ensures.value in
    let all = subst (All (λ f. f.blocks ≡ blocks)) (sym same) taken.3 in
    let found = judged_each blocks jobs more all (zipped IsJudged jobs more (c.in_ok-more.ensures.given c.requires.some c.requires.most)) in
    let whole = zip_more (IsFoundOf blocks) taken.0 (map given_file jobs) old.found.items more taken.2 found in
    let split = taken.1 ∙ ap (λ l. taken.0 ++ map given_file l) (sym same) in
    subst (λ l. AllZip (IsFoundOf blocks) l c.append.new.self.items) (sym split)
    (subst (AllZip (IsFoundOf blocks) (taken.0 ++ map given_file jobs)) (sym c.in_ok-append.ensures.items) whole)
