use Rattle.std.proofs.Common.{◌≡◌, ◌<◌, length, slice_get, Some, ap, sym, subst, ◌∙◌}
use Rattle.std.proofs.lemmas.Option.{get_or_from_slice_get}
use Rattle.jk_window.proofs.PackedLaws.{spelled_long, spelled_get}
use Rattle.jk_window.proofs.packed.PackedEntries.get.Goals as goal

pub entry-requires : goal.entry-requires
entry-requires c =
    c.self.invariant c.args.number
    (subst (λ n. c.args.number < n) (ap length (sym c.self.view_is) ∙ spelled_long c.self.inside.lists c.self.inside.count c.self.invariant) c.requires)

pub returns : goal.returns
returns c = λ none.
    let xs = c.args.self.now in
    let i = c.args.number in
    let lt = subst (λ n. i < n) (ap length (sym c.self.view_is) ∙ spelled_long c.self.inside.lists c.self.inside.count c.self.invariant) c.requires in
    let at : slice_get xs i ≡ Some c.entry.result =
    ap (λ es. slice_get es i) (sym c.self.view_is) ∙ spelled_get c.self.inside.lists c.self.inside.count i c.self.invariant lt ∙ c.entry.ensures in
    sym (get_or_from_slice_get xs i c.entry.result none at)
