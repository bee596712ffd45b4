use Rattle.std.proofs.Common.{◌≤◌, ◌-◌, length, drop, false}
use Rattle.std.specs.String.{string_bytes}
use Rattle.jk_extras.proofs.Laws.{Left}
use Rattle.jk_beside.specs.Listing.{colour_step, colours_in}
use Rattle.jk_beside.proofs.listing.colours.Given as goal

abbrev pub invariant-loop-at : goal.invariant-loop-at
invariant-loop-at l = record {
  within : l.at ≤ length l.header;
  left : Left colour_step false (string_bytes l.lines) l.at (drop l.at l.header) (colours_in l.header);
}

abbrev pub decreases-loop-at : goal.decreases-loop-at
decreases-loop-at l = length l.header - l.at
