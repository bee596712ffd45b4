use Rattle.std.proofs.Common.{◌≡◌, ◌⊎◌, ◌<◌, length, ap, sym, subst, ◌∙◌, inl, arith}
use Rattle.std.specs.Arc.{arc_value}
use Rattle.std.specs.List.{flat_map}
use Rattle.std.proofs.lemmas.List.{length-map}
use Rattle.jk_math.specs.Memory.{IsMemory}
use Rattle.jk_math.specs.declared.fault.Fault.TheVariants.{Limit}
use Rattle.jk_jobs.proofs.Laws.{zipped}
use Rattle.jk_store.specs.OpeningWith.{IsMadeOfFew, few_files, made_entries, waiting_files}
use Rattle.jk_store.specs.Catalogue.{most_entries}
use Rattle.jk_store.proofs.CheckLaws.{judging_memory}
use Rattle.jk_store.proofs.OpenLaws.{fault_is, refused}
use Rattle.jk_store.proofs.OpenWithLaws.{wait_in_jobs, made_behind, none_wait}
use Rattle.jk_store.proofs.opening_with.Opening.judge.Goals as goal

pub returns-clause-made : goal.returns-clause-made
returns-clause-made g c = λ given taken.
    let old = c.args.self.now in
    let mid = c.close.new.self in
    let closed = c.in_ok-close.ensures in
    let jobs = c.deref.result.now in
    let all = c.in_ok-more.more.items in
    let same : jobs ≡ mid.jobs.items = c.deref.ensures.value ∙ ap (λ v. v.items) c.replace-jobs.ensures.value in
    let waits = wait_in_jobs mid.jobs.items mid.last.items (waiting_files old) closed.same closed.none ∙ ap (flat_map few_files) (sym same) in
    let each = zipped IsMadeOfFew jobs all (c.in_ok-more.ensures.given c.requires.some c.requires.most) in
    let entries = rw closed.made at c.in_ok-gather.ensures.entries in
    let skipped = rw closed.made at c.in_ok-gather.ensures.skipped in (
      made_behind given taken.0 (waiting_files old) jobs all (made_entries old.made) (made_entries c.gather.new.made) old.made.skipped.items c.gather.new.made.skipped.items
          taken.1 waits taken.2 each entries skipped,
      none_wait c.replace-jobs.new.dest.items mid.last.items (ap (λ v. v.items) c.replace-jobs.ensures.after ∙ c.new.ensures.items) closed.none,
    )

pub returns-in_err-more-clause-err : goal.returns-in_err-more-clause-err
returns-in_err-more-clause-err g c =
    let fault = c.in_err-more.field-0.0 in
    let due = c.in_err-more.ensures.given c.requires.some c.requires.most in
    fault_is c.from_residual-in_err-more.result fault c.from_residual-in_err-more.ensures.1 (λ e. IsMemory e ⊎ (e ≡ Limit))
    (inl (judging_memory IsMadeOfFew (λ j e memory. memory) c.deref.result.now fault due))

pub returns-in_err-more-clause-full : goal.returns-in_err-more-clause-full
returns-in_err-more-clause-full g c = λ given taken is.
    let fault = c.in_err-more.field-0.0 in
    let due = c.in_err-more.ensures.given c.requires.some c.requires.most in
    let memory = judging_memory IsMadeOfFew (λ j e memory. memory) c.deref.result.now fault due in
    let limit = refused c.from_residual-in_err-more.result fault Limit c.from_residual-in_err-more.ensures.1 is in
    absurd (subst IsMemory limit memory)

pub returns-then-len-gt-MOST_ENTRIES-clause-full : goal.returns-then-len-gt-MOST_ENTRIES-clause-full
returns-then-len-gt-MOST_ENTRIES-clause-full g c = λ given taken _.
    let old = c.args.self.now in
    let mid = c.close.new.self in
    let closed = c.in_ok-close.ensures in
    let jobs = c.deref.result.now in
    let all = c.in_ok-more.more.items in
    let new = c.gather.new.made in
    let same : jobs ≡ mid.jobs.items = c.deref.ensures.value ∙ ap (λ v. v.items) c.replace-jobs.ensures.value in
    let waits = wait_in_jobs mid.jobs.items mid.last.items (waiting_files old) closed.same closed.none ∙ ap (flat_map few_files) (sym same) in
    let each = zipped IsMadeOfFew jobs all (c.in_ok-more.ensures.given c.requires.some c.requires.most) in
    let entries = rw closed.made at c.in_ok-gather.ensures.entries in
    let skipped = rw closed.made at c.in_ok-gather.ensures.skipped in
    let made = made_behind given taken.0 (waiting_files old) jobs all (made_entries old.made) (made_entries new) old.made.skipped.items new.skipped.items taken.1 waits taken.2 each entries skipped in
    let long : length (made_entries new) ≡ length new.entries.items = length-map new.entries.items arc_value in
    let many : most_entries < length (made_entries new) = omega (arith, long, c.if-len-gt-MOST_ENTRIES.true, c.len.ensures, new.entries.ok.0) in
    (made_entries new, new.skipped.items, made, many)
