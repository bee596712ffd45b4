use Rattle.std.proofs.Common.{ℕ, List, Err, take, sym, subst}
use Rattle.jk_window.specs.declared.view.View.{View}
use Rattle.jk_window.specs.Cutting.{cut_file}
use Rattle.jk_code.specs.Meaning.{MeansLayers}
use Rattle.jk_code.specs.Windows.{IsWindowOf}
use Rattle.jk_c.specs.Answers.{HandsOutOrMemory, room}
use Rattle.jk_c.proofs.Answering.{bytes_due, bytes_found}
use Rattle.jk_c.proofs.windows.jk_cut.Goals as goal

pub returns-clause-refused : goal.returns-clause-refused
returns-clause-refused c = λ e is.
    bytes_due c.window_file-file.result (Err e) (room c.args.out.now c.args.made.now) (room c.hand_out.new.out c.hand_out.new.made) c.hand_out.result (c.window_file-file.ensures.refused e is) c.hand_out.ensures

pub returns-clause-exact : goal.returns-clause-exact
returns-clause-exact c = λ i is.
    subst (λ (v : View). HandsOutOrMemory (cut_file is v) (room c.args.out.now c.args.made.now) c.hand_out.result (room c.hand_out.new.out c.hand_out.new.made)) c.view.ensures
    (bytes_due c.window_file-file.result (cut_file is c.view.result) (room c.args.out.now c.args.made.now) (room c.hand_out.new.out c.hand_out.new.made) c.hand_out.result (c.window_file-file.ensures.exact i is) c.hand_out.ensures)

pub returns-clause-means : goal.returns-clause-means
returns-clause-means c = λ done p m.
    let v = c.view.ensures in
    subst (λ (v : View). IsWindowOf v p (take c.hand_out.new.made c.hand_out.new.out)) v
    (bytes_found c.window_file-file.result (λ (bytes : List ℕ). IsWindowOf c.view.result p bytes) (room c.args.out.now c.args.made.now) (room c.hand_out.new.out c.hand_out.new.made) c.hand_out.result
    (c.window_file-file.ensures.means p (subst (λ (v : View). MeansLayers c.args.file.now v.reduce v.layers p) (sym v) m)) c.hand_out.ensures done)
