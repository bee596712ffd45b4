use Rattle.std.proofs.Common.{◌++◌, ◌+◌, sym, ap, ◌∙◌, subst, arith}
use Rattle.std.specs.Int.{bit_not, w64}
use Rattle.std.specs.Prelude.{◌&&◌}
use Rattle.jk_scan.specs.Bits.{on}
use Rattle.jk_scan.specs.Neighbours.{is_inside, seen_from}
use Rattle.jk_scan.specs.Words.{bordered, is_member}
use Rattle.jk_scan.specs.Flags.{IsDrawn}
use Rattle.jk_scan.specs.Passes.{Decided, joined}
use Rattle.jk_block.specs.encoding.Reached.{is_reached}
use Rattle.jk_block.specs.encoding.Sheets.{told}
use Rattle.jk_block.specs.encoding.Viewed.{seen, significant_at, negative_in, moment_at, column_if}
use Rattle.jk_block.specs.Fields.{with_word}
use Rattle.jk_block.proofs.encoding.Behind.{flagged_spread}
use Rattle.jk_block.proofs.encoding.Coming.{told_all}
use Rattle.jk_block.proofs.encoding.Foreseen.{all_rows, some_rows}
use Rattle.jk_block.proofs.encoding.Propagated.{propagated_empty}
use Rattle.jk_block.proofs.encoding.Sheeted.{sheet_at, sheet_whole, told_at, told_whole}
use Rattle.jk_block.proofs.encoding.Columned.{column_told, word_told}
use Rattle.jk_block.proofs.encoding.Each.{begin}
use Rattle.jk_block.proofs.encoding.words.write_propagation.Goals as goal

pub returns-then-candidates-eq0-clause-flagged : goal.returns-then-candidates-eq0-clause-flagged
returns-then-candidates-eq0-clause-flagged c =
    let v = c.args.block.now in
    let at = c.args.spot in
    let f = significant_at v (moment_at v.shape 0 at.word at.stripe 0) in
    let around = c.significant_around-around.ensures f c.requires.flagged.known_significant in
    (propagated_empty v at c.args.list.now c.significant_around-around.result c.members-candidates.result c.requires.spot.stripe around
    (c.members-candidates.ensures (bordered (seen_from v.shape at.stripe f)) (bordered (is_inside v.shape)) at.word at.stripe around c.inside-limits.ensures) c.if-candidates-eq0.true).1
    c.args.flags.now c.requires.flagged

pub returns-then-candidates-eq0-clause-listed : goal.returns-then-candidates-eq0-clause-listed
returns-then-candidates-eq0-clause-listed c =
    let v = c.args.block.now in
    let at = c.args.spot in
    let f = significant_at v (moment_at v.shape 0 at.word at.stripe 0) in
    let around = c.significant_around-around.ensures f c.requires.flagged.known_significant in
    told_all v 0 at c.args.list.now c.args.list.now
    (propagated_empty v at c.args.list.now c.significant_around-around.result c.members-candidates.result c.requires.spot.stripe around
    (c.members-candidates.ensures (bordered (seen_from v.shape at.stripe f)) (bordered (is_inside v.shape)) at.word at.stripe around c.inside-limits.ensures) c.if-candidates-eq0.true).0

pub visit_all-requires : goal.visit_all-requires
visit_all-requires c = record {
  sized = c.args.block.now.sized;
  room = c.requires.flagged.room;
  spot = c.requires.spot;
  rows =
      let v = c.args.block.now in
      let at = c.args.spot in
      let f = significant_at v (moment_at v.shape 0 at.word at.stripe 0) in
      let around = c.significant_around-around.ensures f c.requires.flagged.known_significant in
      let all = c.with_reached-all.result in
      let ones = c.ones-ones.result in
      all_rows (is_member (bordered (is_inside v.shape)) (bordered (seen_from v.shape at.stripe f))) (bordered (is_inside v.shape)) (at.word + 1) (at.stripe + 1) c.inside-limits.result (bit_not w64 c.significant_around-around.result.centre) c.members-candidates.result all
      (is_reached (λ k. on all k && on ones k))
      (c.members-candidates.ensures (bordered (seen_from v.shape at.stripe f)) (bordered (is_inside v.shape)) at.word at.stripe around c.inside-limits.ensures) c.inside-limits.ensures c.with_reached-all.ensures;
}

pub light_all-requires : goal.light_all-requires
light_all-requires c = record {
  sized = c.args.block.now.sized;
  room = c.visit_all.ensures.room;
  spot = c.requires.spot;
  rows =
      let v = c.args.block.now in
      let at = c.args.spot in
      let f = significant_at v (moment_at v.shape 0 at.word at.stripe 0) in
      let around = c.significant_around-around.ensures f c.requires.flagged.known_significant in
      let all = c.with_reached-all.result in
      let ones = c.ones-ones.result in
      some_rows all ones
      (all_rows (is_member (bordered (is_inside v.shape)) (bordered (seen_from v.shape at.stripe f))) (bordered (is_inside v.shape)) (at.word + 1) (at.stripe + 1) c.inside-limits.result (bit_not w64 c.significant_around-around.result.centre) c.members-candidates.result all
      (is_reached (λ k. on all k && on ones k))
      (c.members-candidates.ensures (bordered (seen_from v.shape at.stripe f)) (bordered (is_inside v.shape)) at.word at.stripe around c.inside-limits.ensures) c.inside-limits.ensures c.with_reached-all.ensures);
}

pub returns-clause-flagged : goal.returns-clause-flagged
returns-clause-flagged c =
    let v = c.args.block.now in
    let at = c.args.spot in
    let f = significant_at v (moment_at v.shape 0 at.word at.stripe 0) in
    let around = c.significant_around-around.ensures f c.requires.flagged.known_significant in
    let all = c.with_reached-all.result in
    let ones = c.ones-ones.result in
    let inside = c.inside-limits.result in
    let old = c.args.list.now in
    let bits = c.decision_bytes-told.result.bits in
    let signs = c.decision_bytes-told.result.signs in
    let known = begin v at old inside ones all c.members-candidates.result bits signs c.significant_around-around.result c.seen_among-signs.result (omega arith) (omega arith) (omega arith) (omega arith) c.requires.spot.stripe around
    (c.members-candidates.ensures (bordered (seen_from v.shape at.stripe f)) (bordered (is_inside v.shape)) at.word at.stripe around c.inside-limits.ensures)
    c.with_reached-all.ensures c.inside-limits.ensures c.ones-ones.ensures c.decision_bytes-told.ensures.bits (c.seen_among-signs.ensures (negative_in v) v.signs) c.decision_bytes-told.ensures.signs in
    flagged_spread v at all ones c.args.flags.now c.light_all.new.self c.requires.spot.stripe known.members_are c.ones-ones.ensures c.requires.flagged
    (λ f drawn. c.light_all.ensures.known_significant f (subst (λ ws. IsDrawn v.shape f ws) (sym c.visit_all.ensures.significant) drawn))
    (λ f drawn. subst (λ ws. IsDrawn v.shape (with_word f at.word at.stripe all) ws) (sym c.light_all.ensures.visited) (c.visit_all.ensures.visited f drawn))
    c.light_all.ensures.room

pub returns-clause-listed : goal.returns-clause-listed
returns-clause-listed c =
    let v = c.args.block.now in
    let at = c.args.spot in
    let f = significant_at v (moment_at v.shape 0 at.word at.stripe 0) in
    let around = c.significant_around-around.ensures f c.requires.flagged.known_significant in
    let all = c.with_reached-all.result in
    let ones = c.ones-ones.result in
    let inside = c.inside-limits.result in
    let old = c.args.list.now in
    let bits = c.decision_bytes-told.result.bits in
    let signs = c.decision_bytes-told.result.signs in
    let known = begin v at old inside ones all c.members-candidates.result bits signs c.significant_around-around.result c.seen_among-signs.result (omega arith) (omega arith) (omega arith) (omega arith) c.requires.spot.stripe around
    (c.members-candidates.ensures (bordered (seen_from v.shape at.stripe f)) (bordered (is_inside v.shape)) at.word at.stripe around c.inside-limits.ensures)
    c.with_reached-all.ensures c.inside-limits.ensures c.ones-ones.ensures c.decision_bytes-told.ensures.bits (c.seen_among-signs.ensures (negative_in v) v.signs) c.decision_bytes-told.ensures.signs in
    let put = c.put_columns-list-inside in
    let vector = c.make_room.new.bytes in
    told_whole vector.items put.new.bytes vector.len put.result (omega arith)
    ∙ word_told v 0 at old (told put.new.bytes put.result)
    (put.ensures.told (column_if v.shape (seen v) 0 at.word at.stripe) (column_told v 0 at bits signs all ones 0 known)
    ∙ ap (λ (ds : Decided). ds ++ joined 8 (column_if v.shape (seen v) 0 at.word at.stripe)) (told_at c.list.inside.bytes.items vector.items c.deref_mut.result.now c.list.inside.count old c.list.view_is c.in_ok-make_room.ensures.told c.deref_mut.ensures.value))

pub put_columns-list-inside-requires-clause-bits : goal.put_columns-list-inside-requires-clause-bits
put_columns-list-inside-requires-clause-bits c = λ k l on_row. let small = c.decision_bytes-told.ensures.small k l on_row in omega (arith, small)

pub put_columns-list-inside-requires-clause-signs : goal.put_columns-list-inside-requires-clause-signs
put_columns-list-inside-requires-clause-signs c = λ k l on_row. let small = c.decision_bytes-told.ensures.small_signs k l on_row in omega (arith, small)

pub invariant_of-list-2 : goal.invariant_of-list-2
invariant_of-list-2 c =
    let put = c.put_columns-list-inside in
    let vector = c.make_room.new.bytes in
    let few = put.ensures.few in
    sheet_whole vector.items put.new.bytes vector.len put.result
    (put.ensures.sheet put.result (sheet_at vector.items c.deref_mut.result.now (c.list.inside.count + 136) put.result c.deref_mut.ensures.value c.in_ok-make_room.ensures.room (omega (arith, few))))
    (omega arith)
