use Rattle.std.proofs.Common.{ℕ, subst}
use Rattle.std.specs.Prelude.{IfOk}
use Rattle.std.specs.Global.{Vec}
use Rattle.jk_math.specs.Answer.{Answers}
use Rattle.jk_window.specs.declared.view.View.{View}
use Rattle.jk_window.specs.Cutting.{cut_file}
use Rattle.jk_code.specs.Meaning.{MeansLayers}
use Rattle.jk_code.specs.Windows.{IsWindowOf}
use Rattle.jk_commands.proofs.layers.first_layers.Goals as goal

pub returns-clause-exact : goal.returns-clause-exact
returns-clause-exact c i is =
    subst (λ (v : View). Answers (λ (x : Vec ℕ). x.items) c.cut_file.result (cut_file is v)) c.whole_view.ensures (c.cut_file.ensures.exact i is)

pub returns-clause-means : goal.returns-clause-means
returns-clause-means c p m =
    subst (λ (v : View). MeansLayers c.args.bytes.now v.reduce v.layers p → IfOk c.cut_file.result (λ (x : Vec ℕ). IsWindowOf v p x.items)) c.whole_view.ensures
    (c.cut_file.ensures.means p) m
