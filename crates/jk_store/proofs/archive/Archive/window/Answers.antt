use Rattle.std.proofs.Common.{◌≡◌, ◌⊎◌, Err, unwrap_or, subst, ap, ◌∙◌}
use Rattle.jk_math.specs.declared.fault.Fault.TheVariants.{BadWindow, Changed}
use Rattle.jk_window.specs.Views.{HasWindow}
use Rattle.jk_store.specs.declared.entry.Entry.{Entry}
use Rattle.std.proofs.Common.{ℕ, List, Some}
use Rattle.std.specs.String.{string_bytes}
use Rattle.jk_window.specs.Indexing.{IsIndexOf}
use Rattle.jk_window.specs.Cutting.{cut_file}
use Rattle.jk_store.specs.Files.{Files}
use Rattle.jk_store.specs.Names.{file_name}
use Rattle.jk_store.specs.Catalogue.{IsOtherFile, IsWindowGiven, WasForeign}
use Rattle.jk_store.proofs.archive.Archive.window.Goals as goal

pub returns-in-Some-clause-bad : goal.returns-in-Some-clause-bad
returns-in-Some-clause-bad g c = λ e is.
    let found = rw c.deref.ensures.value at c.in-Some.ensures in
    let same = c.deref-in-Some.ensures ∙ ap (λ o. unwrap_or o e) (found ∙ is) in
    subst (λ (q : Entry). c.window.result ≡ Err BadWindow → HasWindow q.index.headers c.args.view → ⊥) same c.window.ensures.bad

pub returns-in-Some-clause-changed : goal.returns-in-Some-clause-changed
returns-in-Some-clause-changed g c = λ e is.
    let found = rw c.deref.ensures.value at c.in-Some.ensures in
    let same = c.deref-in-Some.ensures ∙ ap (λ o. unwrap_or o e) (found ∙ is) in
    subst (λ (q : Entry). c.window.result ≡ Err Changed → IsOtherFile g.S.Shelf.gave q c.args.self.now.shelf c.window.new.shelf ⊎ WasForeign g.S.Shelf.gave q c.args.self.now.shelf c.window.new.shelf) same c.window.ensures.changed

pub returns-in-Some-clause-same : goal.returns-in-Some-clause-same
returns-in-Some-clause-same g c = λ e is.
    let found = rw c.deref.ensures.value at c.in-Some.ensures in
    let same = c.deref-in-Some.ensures ∙ ap (λ o. unwrap_or o e) (found ∙ is) in
    subst (λ (q : Entry). (files : Files) (b : List ℕ) → g.S.Shelf.keeps c.args.self.now.shelf files → files (file_name (string_bytes q.name)) ≡ Some b → (has : IsIndexOf b q.index) → IsWindowGiven (cut_file has c.args.view) c.window.result) same c.window.ensures.same
