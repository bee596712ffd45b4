use Rattle.std.proofs.Common.{length, arith}
use Rattle.jk_math.specs.Steps.{if_ok_answers, answers_same}
use Rattle.jk_math.proofs.Laws.{AreBytes}
use Rattle.jk_params.specs.Headers.{IsHeaders, AreHeaders}
use Rattle.jk_params.specs.HeadersReading.{headers_at}
use Rattle.jk_params.proofs.ContentLaws.{contents_held}
use Rattle.jk_params.proofs.HeadersLaws.{found_headers}
use Rattle.jk_params.proofs.HeadersAgain.{only_headers}
use Rattle.jk_params.proofs.SoundLaws.{sound_headers}
use Rattle.jk_params.proofs.walk.read_codestream.Goals as goal

pub returns-clause-found : goal.returns-clause-found
returns-clause-found c =
    let bytes = c.args.bytes.now in
    let fits : AreBytes bytes = λ i. omega (arith, c.type_inv.bytes i) in
    if_ok_answers (λ x. x) c.headers.result (headers_at bytes) (IsHeaders bytes) c.headers.ensures (λ x e. found_headers bytes x fits e)

pub returns-clause-only : goal.returns-clause-only
returns-clause-only c = λ h is. answers_same (λ x. x) c.headers.result (headers_at c.args.bytes.now) _ c.headers.ensures (only_headers c.args.bytes.now h is)

pub returns-clause-contents : goal.returns-clause-contents
returns-clause-contents c =
    let bytes = c.args.bytes.now in
    let fits : AreBytes bytes = λ i. omega (arith, c.type_inv.bytes i) in
    if_ok_answers (λ x. x) c.headers.result (headers_at bytes) _ c.headers.ensures (λ x e. contents_held bytes x (found_headers bytes x fits e))

pub returns-clause-sound : goal.returns-clause-sound
returns-clause-sound c =
    let bytes = c.args.bytes.now in
    let fits : AreBytes bytes = λ i. omega (arith, c.type_inv.bytes i) in
    if_ok_answers (λ x. x) c.headers.result (headers_at bytes) (AreHeaders (length bytes)) c.headers.ensures (λ x e. sound_headers bytes x (found_headers bytes x fits e))
