use Rattle.std.proofs.Common.{Ok}
use Rattle.jk_math.specs.Picture.{Picture}
use Rattle.jk_math.specs.Steps.{if_ok_answers, answers_same}
use Rattle.jk_pnm.specs.Pnm.{IsPnm}
use Rattle.jk_pnm.specs.Reading.{pnm_at}
use Rattle.jk_pnm.proofs.FileLaws.{pnm_found, pnm_again}
use Rattle.jk_pnm.proofs.reading.read_owned.Goals as goal

pub returns-clause-found : goal.returns-clause-found
returns-clause-found c =
    if_ok_answers (λ i. i) c.pnm_of.result (pnm_at c.args.bytes.items) (λ (i : Picture). IsPnm c.args.bytes.items i) c.pnm_of.ensures (λ p e. pnm_found c.args.bytes.items p e)

pub returns-clause-only : goal.returns-clause-only
returns-clause-only c = λ p is. answers_same (λ i. i) c.pnm_of.result (pnm_at c.args.bytes.items) (Ok p) c.pnm_of.ensures (pnm_again c.args.bytes.items p is)
