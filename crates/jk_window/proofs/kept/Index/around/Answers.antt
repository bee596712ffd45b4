use Rattle.std.proofs.Common.{subst}
use Rattle.jk_window.specs.Indexing.{IndexFields}
use Rattle.jk_window.specs.Planning.{IsSound, Fits}
use Rattle.jk_window.proofs.FramedFile.{sound, fits}
use Rattle.jk_window.proofs.kept.Index.around.Goals as goal

pub returns-clause-sound : goal.returns-clause-sound
returns-clause-sound c = subst (λ (i : IndexFields). IsSound i) c.self.view_is (sound c.self.invariant.0.bytes _ c.self.invariant.0.indexes)

pub returns-clause-fits : goal.returns-clause-fits
returns-clause-fits c = λ w v. subst (λ (i : IndexFields). Fits i w v) c.self.view_is (fits c.self.invariant.0.bytes _ c.self.invariant.0.indexes w v)
