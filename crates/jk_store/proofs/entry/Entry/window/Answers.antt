use Rattle.std.proofs.Common.{sym, subst}
use Rattle.std.proofs.Common.{◌∙◌}
use Rattle.jk_window.specs.Cutting.{cut_file}
use Rattle.jk_store.specs.Catalogue.{IsFileOf}
use Rattle.jk_store.proofs.EntryLaws.{cut_given, no_window_cut, given_at, unseen_given}
use Rattle.jk_store.proofs.entry.Entry.window.Goals as goal

pub returns-clause-given : goal.returns-clause-given
returns-clause-given g c =
    let file = subst (λ f. IsFileOf g.S.Shelf.gave c.args.self.now c.args.shelf.now f c.whole.new.shelf) (sym c.deref.ensures.value) c.in_ok-file.ensures.given in
    cut_given (λ w. w.items) g.S.Shelf.gave c.args.self.now c.args.view c.args.shelf.now c.whole.new.shelf c.deref.result.now file c.window.result c.window.ensures.exact c.window.ensures.means

pub returns-in_err-sees-clause-same : goal.returns-in_err-sees-clause-same
returns-in_err-sees-clause-same g c = λ files b keeps has is. unseen_given c.from_residual.result (cut_file is c.args.view) c.from_residual.ensures.0 (no_window_cut is c.args.view c.in_err-sees.ensures.1)

pub returns-clause-same : goal.returns-clause-same
returns-clause-same g c = λ files b keeps has is.
    given_at c.args.view c.deref.result.now b c.window.result (c.deref.ensures.value ∙ c.in_ok-file.ensures.same files b keeps has) c.window.ensures.exact is
