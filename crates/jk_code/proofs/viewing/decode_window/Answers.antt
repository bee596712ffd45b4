use Rattle.std.proofs.Common.{arith}
use Rattle.jk_math.specs.Steps.{answers_same}
use Rattle.jk_code.specs.Viewing.{picture_of_view}
use Rattle.jk_code.specs.ViewReading.{meaning_view_at}
use Rattle.jk_code.proofs.MeaningLaws.{only_meaning}
use Rattle.jk_code.proofs.ViewLaws.{meaning_shows}
use Rattle.jk_code.proofs.viewing.decode_window.Goals as goal

pub returns-clause-means : goal.returns-clause-means
returns-clause-means c = λ p m.
    let bytes = c.args.bytes.now in
    let v = c.args.view in
    answers_same (λ i. i) c.meaning_view.result (meaning_view_at bytes v) (picture_of_view v p) c.meaning_view.ensures
    (meaning_shows bytes v p (only_meaning bytes v.reduce p (λ i. omega (arith, c.type_inv.bytes i)) m))
