use Rattle.std.proofs.Common.{ℕ, List}
use Rattle.jk_extras.specs.Texts.{HasTold, extras_text}
use Rattle.jk_c.specs.Answers.{room}
use Rattle.jk_c.proofs.Answering.{bytes_due, bytes_found}
use Rattle.jk_c.proofs.keeping.jk_extras.Goals as goal

pub returns-clause-exact : goal.returns-clause-exact
returns-clause-exact c =
    bytes_due c.extras_text-boxes.result (extras_text c.args.file.now) (room c.args.out.now c.args.made.now) (room c.hand_out.new.out c.hand_out.new.made) c.hand_out.result c.extras_text-boxes.ensures.exact c.hand_out.ensures

pub returns-clause-found : goal.returns-clause-found
returns-clause-found c = λ done codestream j.
    bytes_found c.extras_text-boxes.result (λ (bytes : List ℕ). HasTold j bytes) (room c.args.out.now c.args.made.now) (room c.hand_out.new.out c.hand_out.new.made) c.hand_out.result (c.extras_text-boxes.ensures.found codestream j) c.hand_out.ensures done
