use Rattle.std.proofs.Common.{◌≡◌, ℕ, sym, subst}
use Rattle.std.specs.Global.{Vec}
use Rattle.std.proofs.lemmas.Result.{err_from_is_err_and}
use Rattle.jk_math.specs.Answer.{Answers}
use Rattle.jk_math.specs.Steps.{ok_is}
use Rattle.jk_window.specs.Indexing.{IndexFields, IsIndexOf}
use Rattle.jk_window.specs.Cutting.{cut_file}
use Rattle.jk_c.proofs.Answering.{refuses_other}
use Rattle.jk_c.proofs.windows.window_file.Goals as goal

pub returns-in_err-index-clause-exact : goal.returns-in_err-index-clause-exact
returns-in_err-index-clause-exact c i is =
    let f = err_from_is_err_and c.from_residual.result c.from_residual.ensures.1 in
    rw (f.1, f.2) (refuses_other c.in_err-index.field-0.0 i (cut_file is c.args.view) (c.in_err-index.ensures.only i is))

pub returns-clause-exact : goal.returns-clause-exact
returns-clause-exact c i is =
    let index = c.in_ok-index.index in
    let same : i ≡ index = ok_is i index (c.in_ok-index.ensures.only i is) in
    let P : IndexFields → Type 0 = λ i. (is : IsIndexOf c.args.bytes.now i) → Answers (λ (v : Vec ℕ). v.items) c.window.result (cut_file is c.args.view) in
    subst P (sym same) c.window.ensures.exact is

pub returns-clause-means : goal.returns-clause-means
returns-clause-means c p m = c.window.ensures.means c.in_ok-index.ensures.found p m
