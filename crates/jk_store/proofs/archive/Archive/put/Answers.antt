use Rattle.jk_store.proofs.archive.Archive.put.Goals as goal

pub returns-clause-shows : goal.returns-clause-shows
returns-clause-shows g c = rw c.deref-2.ensures.value at c.enter.ensures.shows

pub returns-clause-keeps : goal.returns-clause-keeps
returns-clause-keeps g c = rw c.deref-2.ensures.value at c.enter.ensures.keeps

pub returns-clause-left : goal.returns-clause-left
returns-clause-left g c = rw c.deref-2.ensures.value at c.enter.ensures.left
