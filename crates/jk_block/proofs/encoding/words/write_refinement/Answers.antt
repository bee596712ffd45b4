use Rattle.std.proofs.Common.{◌++◌, ap, ◌∙◌, arith, ◌+◌}
use Rattle.jk_scan.specs.Neighbours.{seen_from}
use Rattle.jk_scan.specs.Passes.{Decided, joined}
use Rattle.jk_scan.specs.Words.{bordered}
use Rattle.jk_block.specs.encoding.Sheets.{told}
use Rattle.jk_block.specs.encoding.Viewed.{seen, significant_at, moment_at, column_if}
use Rattle.jk_block.proofs.encoding.Coming.{told_all}
use Rattle.jk_block.proofs.encoding.Columned.{word_told}
use Rattle.jk_block.proofs.encoding.Older.{known_older, older_told}
use Rattle.jk_block.proofs.encoding.Refined.{still_flagged, refined_empty}
use Rattle.jk_block.proofs.encoding.Sheeted.{sheet_at, sheet_whole, told_at, told_whole}
use Rattle.jk_block.proofs.encoding.words.write_refinement.Goals as goal

pub returns-then-candidates-eq0-clause-flagged : goal.returns-then-candidates-eq0-clause-flagged
returns-then-candidates-eq0-clause-flagged c = still_flagged c.args.block.now c.args.spot c.args.flags.now c.requires.spot.stripe c.requires.flagged

pub returns-then-candidates-eq0-clause-listed : goal.returns-then-candidates-eq0-clause-listed
returns-then-candidates-eq0-clause-listed c =
    let v = c.args.block.now in
    let at = c.args.spot in
    let word = c.requires.spot.word in
    told_all v 1 at c.args.list.now c.args.list.now
    (refined_empty v at c.args.list.now c.older-candidates.result (omega (arith, word)) c.requires.spot.stripe
    (c.older-candidates.ensures (moment_at v.shape 1 at.word at.stripe 0) c.requires.flagged) c.if-candidates-eq0.true)

pub returns-clause-flagged : goal.returns-clause-flagged
returns-clause-flagged c = still_flagged c.args.block.now c.args.spot c.args.flags.now c.requires.spot.stripe c.requires.flagged

pub returns-clause-listed : goal.returns-clause-listed
returns-clause-listed c =
    let v = c.args.block.now in
    let at = c.args.spot in
    let t = moment_at v.shape 1 at.word at.stripe 0 in
    let f = significant_at v t in
    let around = c.significant_around-around.ensures f c.requires.flagged.known_significant in
    let word = c.requires.spot.word in
    let old = c.args.list.now in
    let members = c.older-candidates.result in
    let bits = c.refining_rows-rows.result in
    let known = known_older v at bits members c.touched_places-touched.result c.refined_places-refined.result c.ones-ones.result (omega (arith, word)) c.requires.spot.stripe
    (c.touched_places-touched.ensures (bordered (seen_from v.shape at.stripe f)) at.word at.stripe around) (c.older-candidates.ensures t c.requires.flagged)
    c.refined_places-refined.ensures c.ones-ones.ensures c.refining_rows-rows.ensures.value in
    let put = c.put_pairs-list-inside in
    let vector = c.make_room.new.bytes in
    told_whole vector.items put.new.bytes vector.len put.result (omega arith)
    ∙ word_told v 1 at old (told put.new.bytes put.result)
    (put.ensures.told (column_if v.shape (seen v) 1 at.word at.stripe) (older_told v at bits members known)
    ∙ ap (λ (ds : Decided). ds ++ joined 8 (column_if v.shape (seen v) 1 at.word at.stripe)) (told_at c.list.inside.bytes.items vector.items c.deref_mut.result.now c.list.inside.count old c.list.view_is c.in_ok-make_room.ensures.told c.deref_mut.ensures.value))

pub invariant_of-list-2 : goal.invariant_of-list-2
invariant_of-list-2 c =
    let put = c.put_pairs-list-inside in
    let vector = c.make_room.new.bytes in
    let few = put.ensures.few in
    sheet_whole vector.items put.new.bytes vector.len put.result
    (put.ensures.sheet put.result (sheet_at vector.items c.deref_mut.result.now (c.list.inside.count + 136) put.result c.deref_mut.ensures.value c.in_ok-make_room.ensures.room (omega (arith, few))))
    (omega arith)
