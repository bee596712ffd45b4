use Rattle.std.proofs.Common.{map, take}
use Rattle.jk_store.specs.Opening.{stored_file}
use Rattle.jk_store.specs.OpeningWith.{IsMadeOf}
use Rattle.jk_store.proofs.opening_with.make.Given as goal

-- what is made of the files so far
abbrev pub invariant-loop-number : goal.invariant-loop-number
invariant-loop-number l = IsMadeOf (map stored_file (take l.number l.files)) l.made
