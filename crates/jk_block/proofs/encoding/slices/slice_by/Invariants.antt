use Rattle.jk_block.proofs.encoding.Slicing.{HasBytes}
use Rattle.jk_block.proofs.encoding.slices.slice_by.Given as goal

abbrev pub invariant-loop-c : goal.invariant-loop-c
invariant-loop-c l = HasBytes l.values l.start l.shift l.c l.word
