use Rattle.std.proofs.Common.{◌≡◌, ◌++◌, List, ℕ, map}
use Rattle.std.specs.List.{filter_map}
use Rattle.std.specs.BTreeMap.{get_by_text}
use Rattle.std.specs.BTreeSet.{keys}
use Rattle.std.specs.String.{string_bytes}
use Rattle.jk_commands.specs.Sums.{change_of, told_of, pair_of}
use Rattle.jk_commands.proofs.comparing.told.Given as goal

-- of the names so far it is told what differs, and the others are left
abbrev pub invariant-loop-name : goal.invariant-loop-name
invariant-loop-name l =
    goal.iterator-loop-name.can_next l.name-iterator
    × goal.iterator-loop-name.is_finite l.name-iterator
    × ((front : List (List ℕ)) × (map string_bytes (keys l.names) ≡ front ++ map string_bytes l.name-iterator)
    × (map pair_of l.all.items ≡ filter_map (told_of (λ n. change_of (get_by_text l.earlier n) (get_by_text l.present n))) front))
