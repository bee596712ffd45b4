use Rattle.std.proofs.Common.{◌≡◌, ◌++◌, map}
use Rattle.std.specs.String.{string_bytes}
use Rattle.std.specs.BTreeMap.{keys}
use Rattle.jk_store.proofs.memory.MemoryShelfShelf.list.Given as goal

-- the names so far and those to come are all
abbrev pub invariant-loop-name : goal.invariant-loop-name
invariant-loop-name l =
    (goal.iterator-loop-name).can_next l.name-iterator
    × (goal.iterator-loop-name).is_finite l.name-iterator
    × (map string_bytes l.names.items ++ map string_bytes l.name-iterator ≡ map string_bytes (keys l.fn.self.files))
