use Rattle.std.specs.Prelude.{ℕ}
use Rattle.std.specs.Global.{Vec}
use Rattle.jk_math.specs.Steps.{if_ok_answers}
use Rattle.jk_window.specs.Cutting.{cut_file}
use Rattle.jk_code.specs.Windows.{IsWindowOf}
use Rattle.jk_code.proofs.WindowLaws.{window_meant}
use Rattle.jk_code.proofs.windows.window.Goals as goal

pub returns-clause-means : goal.returns-clause-means
returns-clause-means c = λ is p m. if_ok_answers (λ (v : Vec ℕ). v.items) c.cut.result (cut_file is c.args.view) (λ (v : Vec ℕ). IsWindowOf c.args.view p v.items) (c.cut.ensures.exact is)
    (λ v e. window_meant c.args.bytes.now c.args.index.now is c.args.view v.items e p m)
