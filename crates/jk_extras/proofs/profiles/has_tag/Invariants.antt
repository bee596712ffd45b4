use Rattle.std.proofs.Common.{◌≡◌, ◌-◌, ◌*◌, drop}
use Rattle.jk_extras.specs.Profiles.{has_tag}
use Rattle.jk_extras.proofs.profiles.has_tag.Given as goal

abbrev pub invariant-loop-k : goal.invariant-loop-k
invariant-loop-k l = has_tag l.tag (l.count - l.k) (drop (12 * l.k) l.table) ≡ has_tag l.tag l.count l.table
