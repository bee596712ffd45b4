use Rattle.std.proofs.Common.{◌≡◌, ◌∙◌, ap, sym, Bool, cond, not}
use Rattle.jk_model.specs.Contexts.{Context}
use Rattle.jk_model.proofs.Moves.{moved-mps, moved-lps}
use Rattle.jk_model.proofs.context.next_state.Goals as goal
use Rattle.jk_model.proofs.context.next_state.Goals.{then-row, else-row}

pub returns-then-bit-cx : goal.returns-then-bit-cx
returns-then-bit-cx c =
    moved-mps _ _ _ _ c.row-row.ensures.row (ap (λ (v : Context). v.mps) c.cx.view_is) c.if-bit-cx.true

pub returns-after-row : goal.returns-after-row
returns-after-row c =
    let mps = c.cx.inside.mps in
    let row = c.row-row.result in
    let flipped : c.if-row.result ≡ cond row.switch (not mps) mps = elim c.if-row.branch [
      | then-row w ↦ w.result-is ∙ sym (ap (λ (b : Bool). cond b (not mps) mps) w.if-row.true)
      | else-row w ↦ w.result-is ∙ sym (ap (λ (b : Bool). cond b (not mps) mps) w.if-row.false)
    ] in
    ap (λ (b : Bool). let cx : Context = record { state = row.next_lps; mps = b } in cx) flipped ∙ moved-lps _ _ _ _ c.row-row.ensures.row (ap (λ (v : Context). v.mps) c.cx.view_is) c.if-bit-cx.false
