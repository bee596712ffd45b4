use Rattle.std.proofs.Common.{◌≡◌, ◌/◌, ◌%◌, Bool, true, false, refl, sym, ap, ◌∙◌, arith}
use Rattle.std.specs.Prelude.{◌&&◌, nat_eq}
use Rattle.jk_scan.specs.Neighbours.{is_inside, seen_from}
use Rattle.jk_scan.specs.Words.{bordered}
use Rattle.jk_scan.proofs.Laws.{on_zero}
use Rattle.jk_block.proofs.Stills.{stills_are, stills_none}
use Rattle.jk_block.proofs.decoding.words.still_columns.Goals as goal

none : (b : Bool) → (b && false) ≡ false
none true = refl
none false = refl

pub returns-then-spot-shape : goal.returns-then-spot-shape
returns-then-spot-shape c =
    let s = c.args.shape in
    let at = c.args.spot in
    λ f around. stills_are s f at.word at.stripe c.quiet_columns.result (omega arith)
    (c.quiet_columns.ensures (bordered (seen_from s at.stripe f)) (bordered (is_inside s)) at.word at.stripe around c.requires.limits)

pub returns-else-spot-shape : goal.returns-else-spot-shape
returns-else-spot-shape c = λ f around m l.
    on_zero m ∙ sym (ap (λ b. nat_eq (m % 8) 1 && b) (stills_none c.args.shape f c.args.spot.word c.args.spot.stripe (m / 8) (omega arith)) ∙ none (nat_eq (m % 8) 1))
