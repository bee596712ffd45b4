use Rattle.std.proofs.Common.{◌≡◌, ◌+◌, ◌≤◌, ◌++◌, List, map, length}
use Rattle.std.specs.Vec.{vec_capacity, vec_len}
use Rattle.std.specs.Arc.{arc_value}
use Rattle.jk_store.specs.declared.entry.Entry.{Entry}
use Rattle.jk_serve.specs.declared.unlisted.Unlisted.{Unlisted}
use Rattle.jk_serve.specs.Operating.{entries_of}
use Rattle.jk_serve.specs.Tables.{ListEach}
use Rattle.jk_serve.proofs.table.list_each.Given as goal

-- what becomes of those that are left goes behind what became of those before
abbrev pub invariant-loop-image : goal.invariant-loop-image
invariant-loop-image g l = record {
  each : (more : List Entry) (rest : List Unlisted) → ListEach (entries_of l.archive) l.image-iterator.rest.items more rest
      → ListEach (entries_of l.fn.archive) l.fn.images.items (map arc_value l.entries.items ++ more) (l.passed.items ++ rest);
  added : entries_of l.archive ≡ entries_of l.fn.archive ++ map arc_value l.entries.items;
  room : vec_len l.entries + length l.image-iterator.rest.items ≤ vec_capacity l.entries;
  places : vec_len l.passed + length l.image-iterator.rest.items ≤ vec_capacity l.passed;
}
