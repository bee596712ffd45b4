use Rattle.std.proofs.Common.{map, sym, ap, ◌∙◌}
use Rattle.std.specs.Prelude.{is_some}
use Rattle.std.specs.Arc.{arc_value}
use Rattle.jk_store.proofs.ShowingLaws.{mapped_some, known}
use Rattle.jk_store.proofs.shown.ShownWithPartsCatalogue.has.Goals as goal

pub returns : goal.returns
returns g c = λ images stands.
    let entries = map arc_value c.args.self.now.entries.now in
    c.is_some.ensures ∙ sym (mapped_some (λ e. arc_value e.now) c.find.result) ∙ ap is_some c.find.ensures
    ∙ known c.args.name.now entries images stands
