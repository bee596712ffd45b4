use Rattle.std.proofs.Common.{ℕ, List}
use Rattle.jk_code.specs.Meaning.{Means}
use Rattle.jk_c.specs.Answers.{room}
use Rattle.jk_c.proofs.Answering.{bytes_found}
use Rattle.jk_c.proofs.Giving.{kept_given}
use Rattle.jk_c.proofs.keeping.jk_with_extras.Goals as goal

pub returns-clause-exact : goal.returns-clause-exact
returns-clause-exact c =
    kept_given c.args.boxes.now c.args.file.now c.dressed-file.result (room c.args.out.now c.args.made.now) (room c.hand_out.new.out c.hand_out.new.made) c.hand_out.result c.dressed-file.ensures.exact c.hand_out.ensures

pub returns-clause-means : goal.returns-clause-means
returns-clause-means c = λ done reduce p m.
    bytes_found c.dressed-file.result (λ (bytes : List ℕ). Means bytes reduce p) (room c.args.out.now c.args.made.now) (room c.hand_out.new.out c.hand_out.new.made) c.hand_out.result (c.dressed-file.ensures.means reduce p m) c.hand_out.ensures done
