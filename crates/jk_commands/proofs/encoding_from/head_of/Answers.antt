use Rattle.std.proofs.Common.{ℕ, List, [], length, ap, arith}
use Rattle.jk_files.proofs.Laws.{took_none, took_both}
use Rattle.jk_commands.proofs.StreamFileLaws.{head_taken}
use Rattle.jk_commands.proofs.encoding_from.head_of.Goals as goal

pub loop-there-init : goal.loop-there-init
loop-there-init g c = (took_none g.S.Read.remaining c.args.incoming.now, omega arith)

pub loop-there-preserved : goal.loop-there-preserved
loop-there-preserved g c = (
  took_both g.S.Read.remaining c.args.incoming.now c.loop-there.incoming c.are_there.new.incoming [] [] c.loop-there.invariant.0 c.in_ok-there.ensures.took,
  omega (arith, c.in_ok-there.ensures.there c.if-not-there.false, ap (λ (l : List ℕ). length l) c.waiting.ensures, c.loop-there.invariant.1),
)

pub returns-in-Some-clause-found : goal.returns-in-Some-clause-found
returns-in-Some-clause-found g c =
    head_taken g.S.Read.remaining c.args.incoming.now c.loop-there.incoming c.are_there.new.incoming c.take.new.self c.in-Some.size c.in-Some.head c.loop-there.invariant.0 c.in_ok-there.ensures.took
    c.in-Some.ensures.found.1 c.take.ensures.source c.take.ensures.left
