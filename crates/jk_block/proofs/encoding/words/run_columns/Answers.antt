use Rattle.std.proofs.Common.{◌≡◌, ◌/◌, ◌%◌, Bool, true, false, refl, sym, ap, ◌∙◌, arith}
use Rattle.std.specs.Prelude.{◌&&◌, nat_eq}
use Rattle.jk_scan.specs.Neighbours.{is_inside, seen_from}
use Rattle.jk_scan.specs.Words.{bordered}
use Rattle.jk_scan.proofs.Laws.{on_zero}
use Rattle.jk_block.proofs.Stills.{still_bit, stills_none}
use Rattle.jk_block.proofs.encoding.words.run_columns.Goals as goal

none : (b : Bool) → (b && false) ≡ false
none true = refl
none false = refl

pub returns-then-spot-shape : goal.returns-then-spot-shape
returns-then-spot-shape c = λ f own m l fits turns around.
    let s = c.args.shape in
    let at = c.args.spot in
    still_bit s f at.word at.stripe c.quiet_in_turn.result m (omega arith)
    (c.quiet_in_turn.ensures (bordered (seen_from s at.stripe f)) (bordered (is_inside s)) at.word at.stripe own (m / 8) (m % 8) (omega arith) (omega arith) fits turns around c.requires.limits)

pub returns-else-spot-shape : goal.returns-else-spot-shape
returns-else-spot-shape c = λ f own m l fits turns around.
    on_zero m ∙ sym (ap (λ b. nat_eq (m % 8) 1 && b) (stills_none c.args.shape f c.args.spot.word c.args.spot.stripe (m / 8) (omega arith)) ∙ none (nat_eq (m % 8) 1))
