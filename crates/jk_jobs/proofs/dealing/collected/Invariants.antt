use Rattle.std.proofs.Common.{◌≡◌, ◌++◌, Ok, map}
use Rattle.jk_jobs.proofs.dealing.collected.Given as goal

abbrev pub invariant-loop-share : goal.invariant-loop-share
invariant-loop-share g l = map Ok l.all.items ++ l.share-iterator.rest.items ≡ l.fn.shares.items
