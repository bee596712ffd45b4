use Rattle.std.proofs.Common.{◌+◌, ◌<◌, [], ◌∷◌, length, length-set, refl, ◌∙◌, arith}
use Rattle.jk_tile.proofs.encoding.TileLists.{count_of}
use Rattle.jk_tile.proofs.encoding.Firsts.{first_none, first_at, sum_more, sum_few, firsts_more}
use Rattle.jk_tile.proofs.encoding.packets.firsts.Goals as goal

pub loop-r-init : goal.loop-r-init
loop-r-init c = record { long = refl; sum = first_none c.args.rect.now c.args.coding.now; each = λ i le. first_at c.args.rect.now c.args.coding.now (0 ∷ 0 ∷ 0 ∷ 0 ∷ 0 ∷ 0 ∷ 0 ∷ 0 ∷ 0 ∷ 0 ∷ 0 ∷ 0 ∷ []) i refl le }

pub overflow_mul-sum : goal.overflow_mul-sum
overflow_mul-sum c =
    let a = c.args.rect.now in
    let k = c.args.coding.now in
    let own = count_of a a k k c.loop-r.r c.precinct_count-across.result.0 c.precinct_count-across.result.1 refl refl c.precinct_count-across.ensures.across c.precinct_count-across.ensures.down in
    let few = sum_few a k c.loop-r.r (k.levels + 1) c.loop-r.sum _ c.loop-r-test.true c.loop-r.invariant.sum own c.requires.few in
    omega (arith, few)

pub overflow_add-sum : goal.overflow_add-sum
overflow_add-sum c =
    let a = c.args.rect.now in
    let k = c.args.coding.now in
    let own = count_of a a k k c.loop-r.r c.precinct_count-across.result.0 c.precinct_count-across.result.1 refl refl c.precinct_count-across.ensures.across c.precinct_count-across.ensures.down in
    let few = sum_few a k c.loop-r.r (k.levels + 1) c.loop-r.sum _ c.loop-r-test.true c.loop-r.invariant.sum own c.requires.few in
    omega (arith, few)

pub loop-r-preserved : goal.loop-r-preserved
loop-r-preserved c =
    let a = c.args.rect.now in
    let k = c.args.coding.now in
    let own = count_of a a k k c.loop-r.r c.precinct_count-across.result.0 c.precinct_count-across.result.1 refl refl c.precinct_count-across.ensures.across c.precinct_count-across.ensures.down in
    let long : c.loop-r.r + 1 < length c.loop-r.firsts = let levels = c.requires.coding.levels in omega (arith, levels, c.loop-r-test.true, c.loop-r.invariant.long) in
    record {
      sum = sum_more a k c.loop-r.r c.loop-r.sum _ c.loop-r.invariant.sum own;
      long = length-set _ _ _ ∙ c.loop-r.invariant.long;
      each = firsts_more a k c.loop-r.r c.loop-r.sum _ c.loop-r.firsts long c.loop-r.invariant.sum own c.loop-r.invariant.each;
    }
