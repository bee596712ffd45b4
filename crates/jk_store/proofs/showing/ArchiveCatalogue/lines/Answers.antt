use Rattle.std.proofs.Common.{map, ap, ◌∙◌}
use Rattle.std.specs.List.{flat_map}
use Rattle.std.specs.Arc.{arc_value}
use Rattle.jk_math.specs.Steps.{if_ok}
use Rattle.jk_store.specs.Showing.{line_of}
use Rattle.jk_store.proofs.ShowingLaws.{lines_shown}
use Rattle.jk_store.proofs.showing.ArchiveCatalogue.lines.Goals as goal

pub returns-clause-lines : goal.returns-clause-lines
returns-clause-lines g c = λ images stands.
    if_ok c.lines_of.result
    (λ v is. is ∙ ap (λ es. flat_map line_of (map arc_value es)) c.deref.ensures.value ∙ lines_shown (map arc_value c.args.self.now.entries.items) images stands) c.lines_of.ensures.lines
