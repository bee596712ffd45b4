use Rattle.std.proofs.Common.{◌≡◌, ◌∙◌, true, length, refl, sym, arith}
use Rattle.jk_math.proofs.Laws.{AreBytes}
use Rattle.jk_code.proofs.Laws.{meant_picture}
use Rattle.jk_c.proofs.PixelLaws.{all_pixels, other_samples}
use Rattle.jk_c.proofs.pixel_rows.pixels_by_rows.Goals.{else-rows-via-then-rows+else-len-count, else-rows-via-else-rows}
use Rattle.jk_c.proofs.pixel_rows.pixels_by_rows.Goals as goal

pub returns-then-not-branch-clause-given : goal.returns-then-not-branch-clause-given
returns-then-not-branch-clause-given g c =
    let t = c.in_ok-judge_file.ensures.means in
    (t.0, t.1, t.2, tt, λ none has count. absurd (let e = sym (c.in_ok-suits.ensures.place t.0 t.2 has count) ∙ c.if-not-branch.true in cc))

pub returns-then-len-count-clause-given : goal.returns-then-len-count-clause-given
returns-then-len-count-clause-given g c =
    let rows = c.decode_rows.new.rows in
    let t = c.in_ok-decode_rows.ensures.taken in
    let bytes : AreBytes c.args.file.now = λ i. omega (arith, c.type_inv.file i) in
    let count : length rows.list.items ≡ c.args.count = omega (arith, c.len.ensures, c.if-len-count.true, rows.list.ok) in
    let is = meant_picture c.args.file.now c.args.reduce t.0 bytes t.1 in
    let all = all_pixels g.T.Sample.value g.T.Sample.bits g.T.Sample.signed t.0 _ rows is c.in_ok-with_capacity.ensures.items t.3 c.if-rows.true in
    (t.0, t.1, t.2, (count, all.0, all.1), λ none. absurd cc)

pub returns-clause-given : goal.returns-clause-given
returns-clause-given g c =
    let rows = c.decode_rows.new.rows in
    let t = c.in_ok-decode_rows.ensures.taken in
    let bytes : AreBytes c.args.file.now = λ i. omega (arith, c.type_inv.file i) in
    let is = meant_picture c.args.file.now c.args.reduce t.0 bytes t.1 in
    let other : rows.fits ≡ true → length rows.list.items ≡ c.args.count → ⊥ = elim c.else-rows.branch [
      | else-rows-via-then-rows+else-len-count w ↦ λ fits long. omega (arith, w.len.ensures, w.if-len-count.false, long, rows.list.ok)
      | else-rows-via-else-rows w ↦ λ fits long. absurd (let e = sym fits ∙ w.if-rows.false in cc)
    ] in
    (t.0, t.1, t.2, tt, λ none has count. other_samples g.T.Sample.value g.T.Sample.bits g.T.Sample.signed t.0 _ rows c.args.count is c.in_ok-with_capacity.ensures.items refl t.3 other has count)
