use Rattle.std.proofs.Common.{ℕ, ◌+◌, List, sym, ap, ◌∙◌, subst, arith}
use Rattle.std.specs.Simd.Lanes.{put_chunk}
use Rattle.jk_columns.specs.Pairs.{pair_places, pair_shuffle_of, pair_count_of}
use Rattle.jk_columns.specs.Sheets.{IsSheet, told}
use Rattle.jk_columns.proofs.Paired.{pair_within, pair_places_within, pair_few}
use Rattle.jk_columns.proofs.Shuffled.{shuffles_ok, shuffled_is, put_told, put_sheet}
use Rattle.jk_columns.proofs.pairs.put_pair.Goals as goal

pub swizzle : goal.swizzle
unfolding pair_shuffle_of
swizzle c =
    let few = pair_few c.args.index c.requires.index in
    shuffles_ok (pair_places c.args.index) c.pair_shuffle.result (pair_places_within c.args.index c.requires.index) (omega (arith, few)) c.pair_shuffle.ensures

pub overflow_add-result : goal.overflow_add-result
unfolding pair_count_of
overflow_add-result c =
    let few = pair_few c.args.index c.requires.index in
    let e = c.pair_count.ensures in
    let w = c.requires.room.within in
    omega (arith, few, e, w)

pub returns-clause-told : goal.returns-clause-told
unfolding pair_shuffle_of pair_count_of
returns-clause-told c =
    let few = pair_few c.args.index c.requires.index in
    let ks = pair_places c.args.index in
    let old = c.args.bytes.now in
    ap (λ (ys : List ℕ). told (put_chunk c.args.count old ys) (c.args.count + c.pair_count.result)) (shuffled_is c.args.own ks c.pair_shuffle.result (pair_places_within c.args.index c.requires.index) (omega (arith, few)) c.pair_shuffle.ensures)
    ∙ put_told c.args.own ks old c.args.count c.pair_count.result (omega (arith, few)) c.pair_count.ensures c.requires.room.within

pub returns-clause-few : goal.returns-clause-few
unfolding pair_count_of
returns-clause-few c =
    let few = pair_few c.args.index c.requires.index in
    let e = c.pair_count.ensures in
    omega (arith, few, e)

pub returns-clause-sheet : goal.returns-clause-sheet
unfolding pair_shuffle_of
returns-clause-sheet c = λ n sheet.
    let few = pair_few c.args.index c.requires.index in
    let ks = pair_places c.args.index in
    let old = c.args.bytes.now in
    subst (λ (ys : List ℕ). IsSheet (put_chunk c.args.count old ys) n) (sym (shuffled_is c.args.own ks c.pair_shuffle.result (pair_places_within c.args.index c.requires.index) (omega (arith, few)) c.pair_shuffle.ensures))
    (put_sheet c.args.own ks old c.args.count n 8 c.requires.small (pair_within c.args.index c.requires.index) (omega (arith, few)) c.requires.room.within sheet)
