use Rattle.std.proofs.Common.{◌≡◌, ◌≤◌, ◌<◌, ◌||◌, true, false, eqb, length, drop, sym, ap, ◌∙◌, arith}
use Rattle.std.proofs.lemmas.Bool.{eq-eqb, ne_eqb}
use Rattle.std.proofs.lemmas.List.{take_rest, length-drop, drop-drop}
use Rattle.byteorder.specs.Endian.{big_number}
use Rattle.jk_boxes.specs.Boxes.{jp2_brand}
use Rattle.jk_boxes.specs.Reading.{names_jp2}
use Rattle.jk_boxes.proofs.Loops.{names_more, names_none}
use Rattle.jk_boxes.proofs.boxes.names_jp2.Goals as goal

pub returns-then-read_u32-eq-JP2 : goal.returns-then-read_u32-eq-JP2
returns-then-read_u32-eq-JP2 c =
    let rest = drop c.loop-at.at c.args.list.now in
    let long : 4 ≤ length rest = omega (arith, length-drop c.loop-at.at c.args.list.now) in
    let number : big_number 4 rest ≡ jp2_brand = ap (big_number 4) (sym (take_rest c.args.list.now c.loop-at.at)) ∙ sym c.read_u32.ensures ∙ c.if-read_u32-eq-JP2.true in
    let met : eqb (big_number 4 rest) jp2_brand ≡ true = eq-eqb _ _ number in
    sym (sym c.loop-at.invariant.goes_on ∙ names_more rest long ∙ ap (λ b. b || names_jp2 (drop 4 rest)) met)

pub loop-at-preserved : goal.loop-at-preserved
loop-at-preserved c =
    let rest = drop c.loop-at.at c.args.list.now in
    let long : 4 ≤ length rest = omega (arith, length-drop c.loop-at.at c.args.list.now) in
    let number = ap (big_number 4) (take_rest c.args.list.now c.loop-at.at) in
    let other : eqb (big_number 4 rest) jp2_brand ≡ false = ne_eqb _ _ (λ e. c.if-read_u32-eq-JP2.false (c.read_u32.ensures ∙ number ∙ e)) in
    record {
      within = omega arith;
      goes_on = ap names_jp2 (sym (drop-drop 4 c.loop-at.at c.args.list.now)) ∙ sym (names_more rest long ∙ ap (λ b. b || names_jp2 (drop 4 rest)) other) ∙ c.loop-at.invariant.goes_on;
    }

pub returns : goal.returns
returns c =
    let rest = drop c.loop-at.at c.args.list.now in
    let short : length rest < 4 = omega (arith, length-drop c.loop-at.at c.args.list.now) in
    sym (sym c.loop-at.invariant.goes_on ∙ names_none rest short)
