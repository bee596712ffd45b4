use Rattle.jk_window.specs.Cutting.{cut_file}
use Rattle.jk_window.specs.Views.{HasWindow}
use Rattle.jk_window.specs.Planning.{plan_text}
use Rattle.jk_store.proofs.ByPartsLaws.{index_size, refused_given, not_changed, seen_there, given_parts, never_bad, changed_parts, steady_parts, kept_parts, counts_parts, same_parts}
use Rattle.jk_store.proofs.KnownParts.{judged_parts}
use Rattle.jk_store.proofs.entry.Entry.window_by_parts_with.Goals as goal

pub returns-in_err-plan-clause-same : goal.returns-in_err-plan-clause-same
returns-in_err-plan-clause-same g c = λ files b keeps has is.
    refused_given c.from_residual.result c.in_err-plan.field-0.0 (cut_file is c.args.view) c.from_residual.ensures.1 (c.in_err-plan.ensures.exact b is)

pub returns-in_err-plan-clause-steady : goal.returns-in_err-plan-clause-steady
returns-in_err-plan-clause-steady g c = λ files b keeps has stands. not_changed c.from_residual.result c.in_err-plan.field-0.0 c.from_residual.ensures.1 c.in_err-plan.ensures.faults

pub returns-in_err-plan-clause-changed : goal.returns-in_err-plan-clause-changed
returns-in_err-plan-clause-changed g c = λ changed. absurd (not_changed c.from_residual.result c.in_err-plan.field-0.0 c.from_residual.ensures.1 c.in_err-plan.ensures.faults changed)

pub returns-clause-given : goal.returns-clause-given
returns-clause-given g c = given_parts g.S.Shelf.keeps g.S.Shelf.gave_at g.S.Shelf.failed c.args.self.now c.args.shelf.now c.assemble.new.shelf (λ f. plan_text f c.in_ok-plan.plan) c.args.view c.assemble.result c.assemble.ensures.read c.in_ok-plan.ensures.exact

pub returns-clause-judged : goal.returns-clause-judged
returns-clause-judged g c = λ f stands is. judged_parts g.S.Shelf.gave_at c.args.self.now f c.args.shelf.now c.assemble.new.shelf c.args.view c.assemble.result stands.parts is (returns-clause-given g c)

pub returns-clause-seen : goal.returns-clause-seen
returns-clause-seen g c = seen_there c.assemble.result (HasWindow c.args.self.now.index.headers c.args.view) c.in_ok-plan.ensures.seen

pub returns-clause-same : goal.returns-clause-same
returns-clause-same g c = λ files b keeps has is.
    same_parts g.S.Shelf.keeps g.S.Shelf.gave_at g.S.Shelf.failed c.args.self.now c.args.shelf.now c.assemble.new.shelf (λ f. plan_text f c.in_ok-plan.plan) c.assemble.result c.assemble.ensures.read c.assemble.ensures.refused
    files b (cut_file is c.args.view) keeps has (index_size b c.args.self.now.index is) (c.in_ok-plan.ensures.exact b is)

pub returns-clause-steady : goal.returns-clause-steady
returns-clause-steady g c = λ files b keeps has stands.
    steady_parts g.S.Shelf.keeps g.S.Shelf.gave_at g.S.Shelf.failed c.args.self.now c.args.shelf.now c.assemble.new.shelf (λ f. plan_text f c.in_ok-plan.plan) c.assemble.result c.assemble.ensures.read c.assemble.ensures.refused
    files b keeps has (index_size b c.args.self.now.index stands.indexes) stands.parts

pub returns-clause-unseen : goal.returns-clause-unseen
returns-clause-unseen g c = λ none. absurd (none c.in_ok-plan.ensures.seen)

pub returns-clause-bad : goal.returns-clause-bad
returns-clause-bad g c = λ bad. absurd (never_bad g.S.Shelf.keeps g.S.Shelf.gave_at g.S.Shelf.failed c.args.self.now c.args.shelf.now c.assemble.new.shelf (λ f. plan_text f c.in_ok-plan.plan) c.assemble.result c.assemble.ensures.read c.assemble.ensures.refused bad)

pub returns-clause-changed : goal.returns-clause-changed
returns-clause-changed g c = changed_parts g.S.Shelf.keeps g.S.Shelf.gave_at g.S.Shelf.failed c.args.self.now c.args.shelf.now c.assemble.new.shelf (λ f. plan_text f c.in_ok-plan.plan) c.assemble.result c.assemble.ensures.read c.assemble.ensures.refused

pub returns-clause-kept : goal.returns-clause-kept
returns-clause-kept g c = kept_parts g.S.Shelf.keeps g.S.Shelf.gave_at g.S.Shelf.failed c.args.self.now c.args.shelf.now c.assemble.new.shelf (λ f. plan_text f c.in_ok-plan.plan) c.assemble.result c.assemble.ensures.read c.assemble.ensures.refused

pub returns-clause-counts : goal.returns-clause-counts
returns-clause-counts g c = counts_parts g.S.Shelf.keeps g.S.Shelf.gave_at g.S.Shelf.failed c.args.self.now c.args.shelf.now c.assemble.new.shelf (λ f. plan_text f c.in_ok-plan.plan) c.assemble.result c.assemble.ensures.read c.assemble.ensures.refused
