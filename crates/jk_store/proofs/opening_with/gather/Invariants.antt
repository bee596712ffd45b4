use Rattle.std.proofs.Common.{◌≡◌, ◌++◌}
use Rattle.std.specs.List.{flat_map}
use Rattle.jk_store.specs.OpeningWith.{made_entries}
use Rattle.jk_store.specs.declared.opening.Made.{Made}
use Rattle.jk_store.proofs.opening_with.gather.Given as goal

-- what is left goes behind what there is
abbrev pub invariant-loop-next : goal.invariant-loop-next
invariant-loop-next l = record {
  entries : made_entries l.made ++ flat_map made_entries l.next-iterator.rest.items ≡ made_entries l.initial.made ++ flat_map made_entries l.fn.more.items;
  skipped : l.made.skipped.items ++ flat_map (λ (m : Made). m.skipped.items) l.next-iterator.rest.items ≡ l.initial.made.skipped.items ++ flat_map (λ (m : Made). m.skipped.items) l.fn.more.items;
}
