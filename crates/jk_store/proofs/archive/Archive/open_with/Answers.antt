use Rattle.jk_store.proofs.archive.Archive.open_with.Goals as goal

pub returns-clause-found : goal.returns-clause-found
returns-clause-found g c = λ files n b i kept good there image. rw c.with.ensures.entries (c.in_ok-images.ensures.found files n b i kept good there image)
