use Rattle.std.proofs.Common.{ℕ, List, length, sym, ap, subst, ◌∙◌, arith}
use Rattle.jk_window.specs.Numbered.{Adds, AreWanted, IsNeeded}
use Rattle.jk_window.proofs.Among.{sorted_starts}
use Rattle.jk_window.proofs.Adding.{are_wanted, none_wanted, wanted_moved}
use Rattle.jk_window.proofs.intervals.wanted_intervals.Goals as goal

pub returns-then-nothing-clause-wanted : goal.returns-then-nothing-clause-wanted
returns-then-nothing-clause-wanted c =
    let t = c.args.tile.now in
    subst (AreWanted t) (sym c.new-intervals.ensures.items) (none_wanted t (sym c.is_empty-nothing.ensures ∙ c.if-nothing.true))

pub returns-then-nothing-clause-ascend : goal.returns-then-nothing-clause-ascend
returns-then-nothing-clause-ascend c = λ i j d le lt.
    let none = ap (λ (xs : List (ℕ × ℕ)). length xs) c.new-intervals.ensures.items in
    absurd (omega (arith, lt, none))

pub returns-clause-wanted : goal.returns-clause-wanted
returns-clause-wanted c =
    let t = c.args.tile.now in
    let l = c.layers_kept.result in
    let xs = c.push_components.new.intervals.items in
    let adds = subst (λ (ys : List (ℕ × ℕ)). Adds t.shape.now ys xs (IsNeeded t l)) c.new-intervals.ensures.items c.in_ok-push_components.ensures.adds in
    wanted_moved t xs c.sort.new.self.items c.in_ok-sort.ensures.permutation
    (are_wanted t l xs (sym c.is_empty-nothing.ensures ∙ c.if-nothing.false) c.layers_kept.ensures.value adds)

pub returns-clause-ascend : goal.returns-clause-ascend
returns-clause-ascend c = sorted_starts c.sort.new.self.items c.in_ok-sort.ensures.sorted
