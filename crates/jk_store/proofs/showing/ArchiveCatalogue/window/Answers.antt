use Rattle.jk_store.proofs.showing.ArchiveCatalogue.window.Goals as goal

pub returns-clause-gives : goal.returns-clause-gives
returns-clause-gives g c = λ images stands. (rw c.deref.ensures.value at c.window_of.ensures.gives) images stands

pub returns-clause-same : goal.returns-clause-same
returns-clause-same g c = λ images shows kept. (rw c.deref.ensures.value at c.window_of.ensures.same) images shows kept

pub returns-clause-made : goal.returns-clause-made
returns-clause-made g c = rw c.deref.ensures.value at c.window_of.ensures.made
