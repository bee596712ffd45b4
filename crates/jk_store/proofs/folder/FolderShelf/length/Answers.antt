use Rattle.std.proofs.Common.{replicate}
use Rattle.std.proofs.lemmas.List.{length-replicate}
use Rattle.jk_store.proofs.folder.FolderShelf.length.Goals as goal

-- what a directory gives can't be said: a file of any length
pub returns-clause-told : goal.returns-clause-told
returns-clause-told g c = (replicate c.in_ok-stamp.stamp.length 0, tt, length-replicate c.in_ok-stamp.stamp.length 0)
