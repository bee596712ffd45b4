use Rattle.std.proofs.Common.{◌≡◌, replicate}
use Rattle.jk_params.specs.Profile.{coding_for}
use Rattle.jk_params.proofs.profile.codings_for.Given as goal

abbrev pub invariant-loop : goal.invariant-loop
invariant-loop l = l.codings ≡ replicate l.counter (coding_for l.fn.parameters)
