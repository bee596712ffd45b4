use Rattle.std.proofs.Common.{ℕ, ◌+◌, List, sym, ap, ◌∙◌, subst, arith}
use Rattle.std.specs.Simd.Lanes.{put_chunk}
use Rattle.jk_columns.specs.Columns.{column_places, shuffle_of, count_of}
use Rattle.jk_columns.specs.Sheets.{IsSheet, told}
use Rattle.jk_columns.proofs.Entries.{places_within, places_few}
use Rattle.jk_columns.proofs.Shuffled.{shuffles_ok, shuffled_is, put_told, put_sheet}
use Rattle.jk_columns.proofs.sheet.put_column.Goals as goal

pub swizzle : goal.swizzle
unfolding shuffle_of
swizzle c =
    let few = places_few c.args.index c.requires.index in
    shuffles_ok (column_places c.args.index) c.shuffle.result (places_within c.args.index c.requires.index) (omega (arith, few)) c.shuffle.ensures

pub overflow_add-result : goal.overflow_add-result
unfolding count_of
overflow_add-result c =
    let few = places_few c.args.index c.requires.index in
    let e = c.bytes_told.ensures in
    let w = c.requires.room.within in
    omega (arith, few, e, w)

pub returns-clause-told : goal.returns-clause-told
unfolding shuffle_of count_of
returns-clause-told c =
    let few = places_few c.args.index c.requires.index in
    let ks = column_places c.args.index in
    let old = c.args.bytes.now in
    ap (λ (ys : List ℕ). told (put_chunk c.args.count old ys) (c.args.count + c.bytes_told.result)) (shuffled_is c.args.column ks c.shuffle.result (places_within c.args.index c.requires.index) (omega (arith, few)) c.shuffle.ensures)
    ∙ put_told c.args.column ks old c.args.count c.bytes_told.result (omega (arith, few)) c.bytes_told.ensures c.requires.room.within

pub returns-clause-few : goal.returns-clause-few
unfolding count_of
returns-clause-few c =
    let few = places_few c.args.index c.requires.index in
    let e = c.bytes_told.ensures in
    omega (arith, few, e)

pub returns-clause-sheet : goal.returns-clause-sheet
unfolding shuffle_of
returns-clause-sheet c = λ n sheet.
    let few = places_few c.args.index c.requires.index in
    let ks = column_places c.args.index in
    let old = c.args.bytes.now in
    subst (λ (ys : List ℕ). IsSheet (put_chunk c.args.count old ys) n) (sym (shuffled_is c.args.column ks c.shuffle.result (places_within c.args.index c.requires.index) (omega (arith, few)) c.shuffle.ensures))
    (put_sheet c.args.column ks old c.args.count n 16 (λ k l. c.requires.small k 0 (let long = c.fits-column.0 in omega (arith, long, l))) (places_within c.args.index c.requires.index) (omega (arith, few)) c.requires.room.within sheet)
