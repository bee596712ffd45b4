use Rattle.std.proofs.Common.{◌≡◌, map, drop}
use Rattle.std.specs.String.{string_bytes}
use Rattle.jk_store.specs.Files.{is_among}
use Rattle.jk_serve.proofs.asked.Asked.has.Given as goal

-- the name is among those that are left where it is among all
abbrev pub invariant-loop-kept : goal.invariant-loop-kept
invariant-loop-kept l = is_among l.name (map string_bytes (drop l.kept-index l.kept-items)) ≡ is_among l.name (map string_bytes l.self.names.items)
