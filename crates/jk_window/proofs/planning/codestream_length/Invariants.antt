use Rattle.std.proofs.Common.{◌≡◌, ◌+◌, ◌^◌, ◌-◌, ◌≤◌, min, length, drop}
use Rattle.std.specs.Prelude.{sum_by}
use Rattle.std.specs.List.{AllByRecursion}
use Rattle.jk_window.specs.Planning.{IsHead, part_size}
use Rattle.jk_window.proofs.FramedFile.{head_size_with}
use Rattle.jk_window.proofs.planning.codestream_length.Given as goal

abbrev pub invariant-loop-head : goal.invariant-loop-head
invariant-loop-head l = record {
  sum : min (l.length + sum_by (head_size_with (part_size l.index l.window l.fn.view)) (drop l.head-index l.head-items)) (2 ^ 64 - 1)
      ≡ min (length l.index.frame.main + sum_by (head_size_with (part_size l.index l.window l.fn.view)) l.head-items) (2 ^ 64 - 1);
  small : l.length ≤ 2 ^ 64 - 1;
  heads : AllByRecursion (IsHead l.index.headers) (drop l.head-index l.head-items);
}
