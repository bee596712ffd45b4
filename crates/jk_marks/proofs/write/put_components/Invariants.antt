use Rattle.std.proofs.Common.{◌≡◌, ◌++◌, ◌-◌, replicate}
use Rattle.std.specs.List.{concat}
use Rattle.jk_math.specs.Front.{IsFront}
use Rattle.jk_marks.specs.Siz.{component_text}
use Rattle.jk_marks.proofs.write.put_components.Given as goal

-- what was written and what is still to write
abbrev pub invariant-loop : goal.invariant-loop
invariant-loop l = record {
  text : l.out.items ++ concat (replicate (l.end - l.counter) (component_text l.siz)) ≡ l.fn.out.items ++ concat (replicate l.end (component_text l.siz));
  front : IsFront l.fn.out.items l.out.items;
}
