use Rattle.std.proofs.Common.{sym, ◌∙◌, ap, subst}
use Rattle.std.specs.Prelude.{is_some}
use Rattle.jk_tree.specs.TagTree.{Query}
use Rattle.jk_tree.specs.Telling.{Speaker, TellsQuery}
use Rattle.jk_tree.proofs.write.WriteTree.tell.Goals as goal

pub returns-in-Ok-clause-told : goal.returns-in-Ok-clause-told
returns-in-Ok-clause-told c =
    let q : Query = record { leaf = c.args.leaf; threshold = c.args.threshold } in
    let w = c.args.writer.now in (
      sym (ap (λ (t : Speaker). t.failed) c.self.view_is) ∙ ap is_some c.in_default.is,
      ap is_some c.in_default.is,
      ap (λ (t : Speaker). t.shape) c.self.view_is,
      subst (λ (t : Speaker). TellsQuery t.shape q t.nodes c.tell_way.new.nodes.items c.args.writer.now c.tell_way.new.writer) c.self.view_is c.in-Ok.ensures.told,
    )
