use Rattle.std.proofs.Common.{◌≡◌, true, take, length}
use Rattle.jk_tile.proofs.encoding.cutting.are_same.Given as goal

-- if they are the same so far, so are the numbers before this place
abbrev pub invariant-loop-index : goal.invariant-loop-index
invariant-loop-index l = record {
  same : l.same ≡ true → take l.index l.one ≡ take l.index l.other;
  long : length l.one ≡ length l.other;
}
