use Rattle.std.proofs.Common.{ℕ, List, Result, ap, sym, ◌∙◌}
use Rattle.std.specs.Global.{Vec}
use Rattle.jk_math.specs.Answer.{◌>>=◌}
use Rattle.jk_math.specs.Steps.{answers_same}
use Rattle.jk_math.specs.declared.fault.Fault.{Fault}
use Rattle.jk_pnm.specs.Written.{written as pnm_of}
use Rattle.jk_options.specs.Plans.{at_place}
use Rattle.jk_commands.specs.Commands.{encoded_and_given}
use Rattle.jk_commands.proofs.CommandLaws.{placed_alike}
use Rattle.jk_commands.proofs.theorems.encode_and_decode.Goals as goal

pub returns-clause-same : goal.returns-clause-same
returns-clause-same c p is =
    let plan = c.args.plan in
    let there = at_place p plan.x0 plan.y0 in
    let given = ap (λ (r : Result (List ℕ) Fault). r >>= λ _. pnm_of p) c.in_ok-file.ensures.exact in
    answers_same (λ (v : Vec ℕ). v.items) c.decode_file.result (pnm_of there) (encoded_and_given c.args.bytes.items plan p)
    (c.decode_file.ensures.only there (c.in_ok-file.ensures.means p is)) (placed_alike p plan.x0 plan.y0 ∙ sym given)
