use Rattle.std.proofs.Common.{◌≡◌, Bool, false, List, get_or, refl, sym, ap, ◌∙◌}
use Rattle.std.specs.Prelude.{not, nat_eq, ◌||◌}
use Rattle.std.specs.List.{list_any}
use Rattle.std.proofs.lemmas.List.{take_all}
use Rattle.std.proofs.lemmas.List.Folds.{list_any_more}
use Rattle.jk_packet.specs.Written.{Table, has_passes}
use Rattle.jk_packet.proofs.writer.is_full.Goals as goal

pub loop-table-init : goal.loop-table-init
loop-table-init c = refl

pub loop-table-preserved : goal.loop-table-preserved
loop-table-preserved c =
    let x = c.table-item.result in
    let none : has_passes c.args.layer x ≡ false = ap (λ n. not (nat_eq n 0)) (sym c.passes.ensures ∙ c.if-passes-ne0.false) in
    list_any_more (has_passes c.args.layer) c.args.tables.now c.loop-table.table-index x c.loop-table-test.true
    ∙ ap (λ (b : Bool). b || has_passes c.args.layer (get_or c.args.tables.now c.loop-table.table-index x)) c.loop-table.invariant
    ∙ ap (λ (t : Table). has_passes c.args.layer t) (sym c.table-item.is)
    ∙ none

pub returns : goal.returns
returns c =
    sym c.loop-table.invariant
    ∙ ap (λ (ts : List Table). list_any (has_passes c.args.layer) ts) (take_all c.loop-table.table-index c.args.tables.now c.loop-table-test.false)
