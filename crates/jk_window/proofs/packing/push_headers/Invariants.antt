use Rattle.std.proofs.Common.{◌≡◌, ◌++◌, map, take}
use Rattle.jk_window.specs.Packing.{header_of}
use Rattle.jk_window.proofs.packing.push_headers.Given as goal

abbrev pub invariant-loop-entry : goal.invariant-loop-entry
invariant-loop-entry l = l.headers.items ≡ l.fn.headers.items ++ map header_of (take l.entry-index l.piece)
