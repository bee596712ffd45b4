use Rattle.std.proofs.Common.{◌≡◌, ◌++◌, ℕ, ◌<◌, refl, sym, ap, ◌∙◌, arith, ◌+◌}
use Rattle.std.specs.Int.RustNames.{bit_and, bit_or}
use Rattle.jk_scan.specs.Bits.{on}
use Rattle.jk_scan.specs.Passes.{Decided, joined}
use Rattle.jk_block.specs.encoding.Sheets.{told}
use Rattle.jk_block.proofs.encoding.Columned.{known_left, column_told, word_told}
use Rattle.jk_block.specs.encoding.Viewed.{seen, significant_at, negative_in, moment_at, column_if}
use Rattle.jk_block.proofs.encoding.Behind.{becoming, becoming_row, flagged_left}
use Rattle.jk_block.proofs.encoding.Coming.{mag, told_all}
use Rattle.jk_block.proofs.encoding.Emptied.{emptied}
use Rattle.jk_block.proofs.encoding.Sheeted.{sheet_at, sheet_whole, told_at, told_whole}
use Rattle.jk_block.proofs.encoding.Spelled.{bits_spelled, signs_spelled}
use Rattle.jk_block.proofs.encoding.Testing.{left_codes}
use Rattle.jk_block.proofs.encoding.Timing.{codes}
use Rattle.jk_block.proofs.encoding.Turned.{turned, prepared}
use Rattle.jk_block.proofs.encoding.words.write_cleanup.Goals as goal

pub returns-then-left-eq0-clause-flagged : goal.returns-then-left-eq0-clause-flagged
returns-then-left-eq0-clause-flagged c =
    let v = c.args.block.now in
    let at = c.args.spot in
    (emptied v at c.args.flags.now c.args.list.now c.uncoded-left.result c.requires.spot.stripe c.requires.flagged (c.uncoded-left.ensures (moment_at v.shape 2 at.word at.stripe 0) c.requires.flagged) (omega arith)).1

pub returns-then-left-eq0-clause-listed : goal.returns-then-left-eq0-clause-listed
returns-then-left-eq0-clause-listed c =
    let v = c.args.block.now in
    let at = c.args.spot in
    told_all v 2 at c.args.list.now c.args.list.now
    (emptied v at c.args.flags.now c.args.list.now c.uncoded-left.result c.requires.spot.stripe c.requires.flagged (c.uncoded-left.ensures (moment_at v.shape 2 at.word at.stripe 0) c.requires.flagged) (omega arith)).0

pub returns-clause-flagged : goal.returns-clause-flagged
returns-clause-flagged c =
    let v = c.args.block.now in
    let at = c.args.spot in
    flagged_left v at c.uncoded-left.result c.ones-ones.result c.args.flags.now c.light_all.new.self c.requires.spot.stripe
    (λ m l. c.uncoded-left.ensures (moment_at v.shape 2 at.word at.stripe 0) c.requires.flagged m l ∙ left_codes v.shape (mag v) at.word at.stripe m l) c.ones-ones.ensures
    c.requires.flagged c.light_all.ensures.known_significant c.light_all.ensures.visited c.light_all.ensures.room

pub light_all-requires : goal.light_all-requires
light_all-requires c = record {
  sized = c.args.block.now.sized;
  room = c.requires.flagged.room;
  spot = c.requires.spot;
  rows = λ m l set.
      let v = c.args.block.now in
      let at = c.args.spot in
      becoming_row v 2 at.word at.stripe m
      (sym (becoming v 2 at.word at.stripe c.uncoded-left.result c.ones-ones.result refl (λ m l. c.uncoded-left.ensures (moment_at v.shape 2 at.word at.stripe 0) c.requires.flagged m l ∙ left_codes v.shape (mag v) at.word at.stripe m l) c.ones-ones.ensures m l) ∙ set);
}

pub returns-clause-listed : goal.returns-clause-listed
returns-clause-listed c =
    let v = c.args.block.now in
    let at = c.args.spot in
    let left = c.uncoded-left.result in
    let ones = c.ones-ones.result in
    let bits = c.decision_bytes-told.result.bits in
    let signs = c.decision_bytes-told.result.signs in
    let still = c.run_columns-still.result in
    let old = c.args.list.now in
    let t = moment_at v.shape 2 at.word at.stripe 0 in
    let around = c.significant_around-around.result in
    let left_is : (m : ℕ) → m < 64 → on left m ≡ codes v.shape (mag v) 2 at.word at.stripe m =
    λ m l. c.uncoded-left.ensures t c.requires.flagged m l ∙ left_codes v.shape (mag v) at.word at.stripe m l in
    let known = known_left v at bits signs left ones still
    (prepared v at around (bit_and left ones) bits signs still
    (turned v at around (bit_and left ones) c.requires.spot.stripe (omega arith) (c.significant_around-around.ensures (significant_at v t) c.requires.flagged.known_significant) (becoming v 2 at.word at.stripe left ones refl left_is c.ones-ones.ensures))
    (bits_spelled v at around (bit_or around.centre (bit_and left ones)) ones bits c.ones-ones.ensures c.decision_bytes-told.ensures.bits)
    (signs_spelled v at around c.seen_among-signs.result (bit_or around.centre (bit_and left ones)) signs (c.seen_among-signs.ensures (negative_in v) v.signs) c.decision_bytes-told.ensures.signs) c.run_columns-still.ensures)
    left_is c.ones-ones.ensures in
    let put = c.put_columns-list-inside in
    let vector = c.make_room.new.bytes in
    told_whole vector.items put.new.bytes vector.len put.result (omega arith)
    ∙ word_told v 2 at old (told put.new.bytes put.result)
    (put.ensures.told (column_if v.shape (seen v) 2 at.word at.stripe) (column_told v 2 at bits signs left ones still known)
    ∙ ap (λ (ds : Decided). ds ++ joined 8 (column_if v.shape (seen v) 2 at.word at.stripe)) (told_at c.list.inside.bytes.items vector.items c.deref_mut.result.now c.list.inside.count old c.list.view_is c.in_ok-make_room.ensures.told c.deref_mut.ensures.value))

pub put_columns-list-inside-requires-clause-bits : goal.put_columns-list-inside-requires-clause-bits
put_columns-list-inside-requires-clause-bits c = λ k l on_row. let small = c.decision_bytes-told.ensures.small k l on_row in omega (arith, small)

pub put_columns-list-inside-requires-clause-signs : goal.put_columns-list-inside-requires-clause-signs
put_columns-list-inside-requires-clause-signs c = λ k l on_row. let small = c.decision_bytes-told.ensures.small_signs k l on_row in omega (arith, small)

pub invariant_of-list-2 : goal.invariant_of-list-2
invariant_of-list-2 c =
    let put = c.put_columns-list-inside in
    let vector = c.make_room.new.bytes in
    let few = put.ensures.few in
    sheet_whole vector.items put.new.bytes vector.len put.result
    (put.ensures.sheet put.result (sheet_at vector.items c.deref_mut.result.now (c.list.inside.count + 136) put.result c.deref_mut.ensures.value c.in_ok-make_room.ensures.room (omega (arith, few))))
    (omega arith)
