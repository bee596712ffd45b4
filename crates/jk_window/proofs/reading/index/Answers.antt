use Rattle.std.proofs.Common.{arith}
use Rattle.jk_math.specs.Steps.{if_ok_answers, answers_same}
use Rattle.jk_window.specs.Indexing.{index_at, IsIndexOf}
use Rattle.jk_window.proofs.IndexLaws.{index_found, index_only}
use Rattle.jk_window.proofs.reading.index.Goals as goal

pub returns-clause-found : goal.returns-clause-found
returns-clause-found c =
    if_ok_answers (λ i. i) c.indexing.result (index_at c.args.bytes.now) (IsIndexOf c.args.bytes.now) c.indexing.ensures (λ i e. index_found c.args.bytes.now i (λ k. omega (arith, c.type_inv.bytes k)) e)

pub returns-clause-only : goal.returns-clause-only
returns-clause-only c = λ i is. answers_same (λ i. i) c.indexing.result _ _ c.indexing.ensures (index_only c.args.bytes.now i is)
