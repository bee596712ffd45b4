use Rattle.jk_math.specs.Lists.{lists_of}
use Rattle.jk_wave.proofs.Leaving.{IsLeft, AreAside}
use Rattle.jk_wave.proofs.forward.level_bands.Given as goal

abbrev pub invariant-loop-n : goal.invariant-loop-n
invariant-loop-n g l = record {
  left : IsLeft l.rect l.levels l.n (g.S.RowSource.value_at l.source) l.left.items;
  aside : AreAside l.rect l.levels l.n (g.S.RowSource.value_at l.source) (lists_of l.bands.items);
}
