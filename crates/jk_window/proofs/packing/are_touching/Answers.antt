use Rattle.std.proofs.Common.{List, sym, subst, arith}
use Rattle.std.proofs.lemmas.List.{drop_all}
use Rattle.jk_walk.specs.declared.entries.PacketEntry.{PacketEntry}
use Rattle.jk_window.specs.Packing.{AreTouching}
use Rattle.jk_window.proofs.PackingLaws.{touching_more, touching_none}
use Rattle.jk_window.proofs.packing.are_touching.Goals as goal

pub loop-entry-preserved : goal.loop-entry-preserved
loop-entry-preserved c = touching_more c.loop-entry.at c.args.base c.loop-entry.entry-index c.args.piece.now _ c.loop-entry-test.true c.if-entry-at.false c.loop-entry.invariant

pub returns : goal.returns
returns c = λ given. c.loop-entry.invariant
    (subst (λ (es : List PacketEntry). AreTouching c.loop-entry.at es) (sym (drop_all c.loop-entry.entry-index c.args.piece.now (omega (arith, c.loop-entry-test.false)))) (touching_none c.loop-entry.at))
