use Rattle.std.proofs.Common.{sym, ◌∙◌, arith}
use Rattle.jk_math.specs.Steps.{if_ok_from}
use Rattle.jk_marks.proofs.MainLaws.{found_main, only_main, main_within, main_siz}
use Rattle.jk_marks.proofs.main_header.read_main.Goals as goal

pub returns-clause-found : goal.returns-clause-found
returns-clause-found c =
    if_ok_from c.main_header.result _ (λ m e. found_main c.args.bytes.now m.0 m.1 (λ i. omega (arith, c.type_inv.bytes i)) (sym c.main_header.ensures ∙ e))

pub returns-clause-only : goal.returns-clause-only
returns-clause-only c = λ siz segments is begins. c.main_header.ensures ∙ only_main c.args.bytes.now siz segments is begins

pub returns-clause-within : goal.returns-clause-within
returns-clause-within c =
    if_ok_from c.main_header.result _ (λ m e. main_within c.args.bytes.now m.0 m.1 (found_main c.args.bytes.now m.0 m.1 (λ i. omega (arith, c.type_inv.bytes i)) (sym c.main_header.ensures ∙ e)))

pub returns-clause-siz : goal.returns-clause-siz
returns-clause-siz c =
    if_ok_from c.main_header.result _ (λ m e. main_siz c.args.bytes.now m.0 m.1 (found_main c.args.bytes.now m.0 m.1 (λ i. omega (arith, c.type_inv.bytes i)) (sym c.main_header.ensures ∙ e)))
