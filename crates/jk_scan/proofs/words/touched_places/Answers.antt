use Rattle.std.proofs.Common.{◌≡◌, ◌+◌, ◌-◌, ◌*◌, Bool, ◌∙◌}
use Rattle.std.specs.Prelude.{◌||◌}
use Rattle.jk_scan.specs.Bits.{on}
use Rattle.jk_scan.specs.Words.{of_rows, of_gathered, up_down, upright}
use Rattle.jk_scan.proofs.BitLaws.{on_or}
use Rattle.jk_scan.proofs.Neighbours.{shown_at, line_of}
use Rattle.jk_scan.proofs.words.touched_places.Goals as goal

both : (a b a' b' : Bool) → a ≡ a' → b ≡ b' → (a || b) ≡ (a' || b')
both a b a' b' e g = cc

pub returns : goal.returns
returns c f j s h n i p q row =
    let y = 4 * (s + 1) + i - 1 in
    let x = 8 * (j + 1) + n in
    on_or c.rows_beside.result c.columns_beside.result (8 * n + i)
    ∙ both (on c.rows_beside.result (8 * n + i)) (on c.columns_beside.result (8 * n + i)) (upright f x y) (up_down f (x - 1) y || up_down f (x + 1) y)
    (c.rows_beside.ensures f (j + 1) s (shown_at of_gathered f (j + 1) (s + 1) c.args.seen.centre h.centre) n i p q row)
    (c.columns_beside.ensures (λ x. up_down f x (4 * (s + 1) + i - 1)) j i q
    (line_of of_rows (up_down f) (j + 1) (s + 1) i c.with_rows.result q row (c.with_rows.ensures f (j + 1) s (shown_at of_gathered f (j + 1) (s + 1) c.args.seen.centre h.centre)))
    (line_of of_rows (up_down f) j (s + 1) i c.with_rows-2.result q row (c.with_rows-2.ensures f j s (shown_at of_gathered f j (s + 1) c.args.seen.west h.west)))
    (line_of of_rows (up_down f) (j + 2) (s + 1) i c.with_rows-3.result q row (c.with_rows-3.ensures f (j + 2) s (shown_at of_gathered f (j + 2) (s + 1) c.args.seen.east h.east))) n p)
