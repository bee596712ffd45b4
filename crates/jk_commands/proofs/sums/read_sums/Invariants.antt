use Rattle.std.proofs.Common.{◌≡◌, ℕ, List, map, length}
use denote.Text.{Utf8}
use denote.Shadow.{shadow}
use Rattle.std.specs.List.{IsDistinct}
use Rattle.std.specs.Str.{bytes_eq}
use Rattle.std.specs.BTreeSet.{contains_text}
use Rattle.jk_commands.specs.Sums.{SumFields, sum_fields}
use Rattle.jk_commands.proofs.SumLists.{ReadSoFar, is_named}
use Rattle.jk_commands.proofs.sums.read_sums.Given as goal

-- the lines so far were read, and the others are left; the names are those of these lines, each once
abbrev pub invariant-lines : goal.invariant-lines
invariant-lines l =
    shadow (Utf8 l.rest)
    × ReadSoFar l.fn.text l.rest (map sum_fields l.sums.items)
    × ((n : List ℕ) → contains_text l.names n ≡ is_named (map sum_fields l.sums.items) n)
    × IsDistinct bytes_eq (map (λ (s : SumFields). s.name) (map sum_fields l.sums.items))

abbrev pub decreases-lines : goal.decreases-lines
decreases-lines l = length l.rest
