use Rattle.std.proofs.Common.{◌≡◌, map, take}
use Rattle.jk_store.specs.OpeningWith.{file_digest}
use Rattle.jk_store.proofs.opening_with.digests.Given as goal

-- the digests of the files so far
abbrev pub invariant-loop-file : goal.invariant-loop-file
invariant-loop-file l = l.digests.items ≡ map file_digest (take l.file-index l.files)
