use Rattle.std.proofs.Common.{◌≡◌, ◌-◌, ◌+◌, length, take, drop, get_or, true, false, not, eqb, Bool, Ok, rules, sym, ap, ◌∙◌, arith}
use Rattle.std.proofs.lemmas.Bool.{ne_eqb}
use Rattle.std.proofs.lemmas.List.{take_all, length-drop}
use Rattle.jk_pnm.specs.Pnm.{is_space, is_line_end}
use Rattle.jk_pnm.specs.Reading.{after_gap}
use Rattle.jk_pnm.proofs.HeaderSteps.{gap_in_comment, gap_comment, gap_space, gap_stops, gap_ends}
use Rattle.jk_pnm.proofs.header.after_gap.Goals as goal
use Rattle.jk_pnm.proofs.header.after_gap.Goals.{then-comment, else-comment+then-byte-eq35, else-comment+else-byte-eq35+else-not-is_space}

pub returns-then-not-is_space : goal.returns-then-not-is_space
returns-then-not-is_space c =
    let bytes = c.args.bytes.now in
    let i = c.loop-at.at in
    let whole : take (length bytes - i) (drop i bytes) ≡ drop i bytes = take_all (length bytes - i) (drop i bytes) (omega (arith, length-drop i bytes)) in
    let other : eqb (get_or bytes i 0) 35 ≡ false = ne_eqb (get_or bytes i 0) 35 c.if-byte-eq35.false in
    let stops : is_space (get_or bytes i 0) ≡ false = search rules in
    let begins : after_gap c.loop-at.comment (drop i bytes) ≡ after_gap false (drop i bytes) = ap (λ b. after_gap b (drop i bytes)) c.if-comment.false in
    sym c.loop-at.invariant ∙ begins ∙ gap_stops bytes i c.loop-at-test.true other stops ∙ ap Ok (sym whole)

pub loop-at-preserved : goal.loop-at-preserved
loop-at-preserved c =
    let bytes = c.args.bytes.now in
    let i = c.loop-at.at in
    let lt = c.loop-at-test.true in
    let was = c.loop-at.invariant in
    let next = c.if-comment.comment in
    let begins : (b : Bool) → c.loop-at.comment ≡ b → after_gap b (drop i bytes) ≡ after_gap false bytes = λ b e. ap (λ v. after_gap v (drop i bytes)) (sym e) ∙ was in
    let due : (b : Bool) → next ≡ b → after_gap b (drop (i + 1) bytes) ≡ after_gap false bytes → after_gap next (drop (i + 1) bytes) ≡ after_gap false bytes = λ b e d. ap (λ v. after_gap v (drop (i + 1) bytes)) e ∙ d in
    elim c.if-comment.branch [
      | then-comment w ↦ due (not (is_line_end (get_or bytes i 0))) (w.comment-is ∙ ap not w.is_line_end-comment.ensures) (sym (gap_in_comment bytes i lt) ∙ begins true w.if-comment.true)
      | else-comment+then-byte-eq35 w ↦ due true w.comment-is (sym (gap_comment bytes i lt w.if-byte-eq35.true) ∙ begins false w.if-comment.false)
      | else-comment+else-byte-eq35+else-not-is_space w ↦
          let other : eqb (get_or bytes i 0) 35 ≡ false = ne_eqb (get_or bytes i 0) 35 w.if-byte-eq35.false in
          let space : is_space (get_or bytes i 0) ≡ true = search rules in
          due false (w.comment-is ∙ w.if-comment.false) (sym (gap_space bytes i lt other space) ∙ begins false w.if-comment.false)
    ]

pub returns : goal.returns
returns c = sym c.loop-at.invariant ∙ gap_ends c.loop-at.comment c.args.bytes.now c.loop-at.at (omega arith)
