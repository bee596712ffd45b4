use Rattle.std.proofs.Common.{◌≤◌, ap, sym, subst, arith, length, List}
use mathlib.Core.List.{IsPrefix}
use Rattle.jk_store.specs.declared.entry.Entry.{Entry}
use Rattle.jk_hall.specs.declared.history.Front.{Front}
use Rattle.jk_hall.proofs.Fronts.{prefix_shorter}
use Rattle.jk_hall.proofs.history.Front.longer.Goals as goal

pub returns-then-self-other-clause-this : goal.returns-then-self-other-clause-this
returns-then-self-other-clause-this c =
    let mine = c.args.self.now.seen.log in
    let others = c.args.other.now.seen.log in
    let both = c.learn.new.self.log in
    let this : IsPrefix mine both = subst (λ (l : List Entry). IsPrefix l both) (ap (λ s. s.log) c.again-both.ensures) c.learn.ensures.2 in
    let less : length mine ≤ length others = omega (arith, c.args.self.now.count_is, c.args.other.now.count_is) in
    subst (λ (f : Front). IsPrefix mine f.seen.log) (sym c.again.ensures) (prefix_shorter mine others both this c.learn.ensures.3 less)

pub returns-clause-that : goal.returns-clause-that
returns-clause-that c =
    let mine = c.args.self.now.seen.log in
    let others = c.args.other.now.seen.log in
    let both = c.learn.new.self.log in
    let this : IsPrefix mine both = subst (λ (l : List Entry). IsPrefix l both) (ap (λ s. s.log) c.again-both.ensures) c.learn.ensures.2 in
    let less : length others ≤ length mine = omega (arith, c.args.self.now.count_is, c.args.other.now.count_is) in
    subst (λ (f : Front). IsPrefix others f.seen.log) (sym c.again-else-self-other.ensures) (prefix_shorter others mine both c.learn.ensures.3 this less)
