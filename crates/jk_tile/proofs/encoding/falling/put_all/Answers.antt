use Rattle.std.proofs.Common.{◌≡◌, ◌≢◌, ◌<◌, ℕ, get_or, length, sym, subst, ◌∙◌, arith}
use Rattle.std.proofs.lemmas.List.{get_or-set_other, length-set}
use Rattle.jk_tile.specs.encoding.Strips.{bands_in, HasRowsOf}
use Rattle.jk_tile.specs.encoding.FallingComponents.{IsBandUpto}
use Rattle.jk_tile.proofs.encoding.ListsKept.{replaced}
use Rattle.jk_tile.proofs.encoding.ComponentFalls.{AreKnown, made_of, are_put, rows_put, next_band}
use Rattle.jk_tile.proofs.encoding.falling.put_all.Goals as goal

pub put-requires-clause-order : goal.put-requires-clause-order
put-requires-clause-order c =
    let s = c.args.source.now in
    let b : ℕ = c.loop-b.b in
    let now = c.loop-b.invariant in
    let all = c.loop-b.bands.items in
    let was = c.index_mut-strips.result.now in
    let test = c.loop-b-test.true in
    let end_of = c.len-b-end.ensures in
    let count = now.count in
    let due = c.requires.bands.count in
    let lt : b < bands_in s = omega (arith, test, end_of, count, due) in
    let here : b < length all = omega (arith, lt, count, due) in
    let first : was ≡ get_or c.args.bands.now.items b was = c.index_mut-strips.ensures.value ∙ now.left b was (omega arith) in
    let is : IsBandUpto s c.args.from b was = subst (IsBandUpto s c.args.from b) (sym first) (c.requires.bands.each b was lt) in
    let f = c.requires.made in
    let count_of = c.requires.standing.2.at.count in
    let known : AreKnown = record { falls_none = c.level_fallen.ensures.none; falls_all = c.level_fallen.ensures.all; falls_in_order = c.level_fallen.ensures.order; given_none = c.levels_fallen.ensures.none; given_all = c.levels_fallen.ensures.all; given_in_order = c.levels_fallen.ensures.order } in
    let made = made_of s c.args.from c.args.to b f.0 c.args.falling.now c.rows.result.now f.2 c.requires.levels count_of lt c.rows.ensures.low c.rows.ensures.high in
    (are_put known s c.args.from c.args.to b c.rows_made-end.result f.0 was c.rows.result.now c.rows_made-end.ensures.frame c.requires.order c.requires.inside lt is f.1 c.rows_made-end.ensures.value made).order

pub put-requires-clause-inside : goal.put-requires-clause-inside
put-requires-clause-inside c =
    let s = c.args.source.now in
    let b : ℕ = c.loop-b.b in
    let now = c.loop-b.invariant in
    let all = c.loop-b.bands.items in
    let was = c.index_mut-strips.result.now in
    let test = c.loop-b-test.true in
    let end_of = c.len-b-end.ensures in
    let count = now.count in
    let due = c.requires.bands.count in
    let lt : b < bands_in s = omega (arith, test, end_of, count, due) in
    let here : b < length all = omega (arith, lt, count, due) in
    let first : was ≡ get_or c.args.bands.now.items b was = c.index_mut-strips.ensures.value ∙ now.left b was (omega arith) in
    let is : IsBandUpto s c.args.from b was = subst (IsBandUpto s c.args.from b) (sym first) (c.requires.bands.each b was lt) in
    let f = c.requires.made in
    let count_of = c.requires.standing.2.at.count in
    let known : AreKnown = record { falls_none = c.level_fallen.ensures.none; falls_all = c.level_fallen.ensures.all; falls_in_order = c.level_fallen.ensures.order; given_none = c.levels_fallen.ensures.none; given_all = c.levels_fallen.ensures.all; given_in_order = c.levels_fallen.ensures.order } in
    let made = made_of s c.args.from c.args.to b f.0 c.args.falling.now c.rows.result.now f.2 c.requires.levels count_of lt c.rows.ensures.low c.rows.ensures.high in
    (are_put known s c.args.from c.args.to b c.rows_made-end.result f.0 was c.rows.result.now c.rows_made-end.ensures.frame c.requires.order c.requires.inside lt is f.1 c.rows_made-end.ensures.value made).inside

pub put-requires-clause-long : goal.put-requires-clause-long
put-requires-clause-long c =
    let s = c.args.source.now in
    let b : ℕ = c.loop-b.b in
    let now = c.loop-b.invariant in
    let all = c.loop-b.bands.items in
    let was = c.index_mut-strips.result.now in
    let test = c.loop-b-test.true in
    let end_of = c.len-b-end.ensures in
    let count = now.count in
    let due = c.requires.bands.count in
    let lt : b < bands_in s = omega (arith, test, end_of, count, due) in
    let here : b < length all = omega (arith, lt, count, due) in
    let first : was ≡ get_or c.args.bands.now.items b was = c.index_mut-strips.ensures.value ∙ now.left b was (omega arith) in
    let is : IsBandUpto s c.args.from b was = subst (IsBandUpto s c.args.from b) (sym first) (c.requires.bands.each b was lt) in
    let f = c.requires.made in
    let count_of = c.requires.standing.2.at.count in
    let known : AreKnown = record { falls_none = c.level_fallen.ensures.none; falls_all = c.level_fallen.ensures.all; falls_in_order = c.level_fallen.ensures.order; given_none = c.levels_fallen.ensures.none; given_all = c.levels_fallen.ensures.all; given_in_order = c.levels_fallen.ensures.order } in
    let made = made_of s c.args.from c.args.to b f.0 c.args.falling.now c.rows.result.now f.2 c.requires.levels count_of lt c.rows.ensures.low c.rows.ensures.high in
    (are_put known s c.args.from c.args.to b c.rows_made-end.result f.0 was c.rows.result.now c.rows_made-end.ensures.frame c.requires.order c.requires.inside lt is f.1 c.rows_made-end.ensures.value made).long

pub put-requires-clause-small : goal.put-requires-clause-small
put-requires-clause-small c =
    let s = c.args.source.now in
    let b : ℕ = c.loop-b.b in
    let now = c.loop-b.invariant in
    let all = c.loop-b.bands.items in
    let was = c.index_mut-strips.result.now in
    let test = c.loop-b-test.true in
    let end_of = c.len-b-end.ensures in
    let count = now.count in
    let due = c.requires.bands.count in
    let lt : b < bands_in s = omega (arith, test, end_of, count, due) in
    let here : b < length all = omega (arith, lt, count, due) in
    let first : was ≡ get_or c.args.bands.now.items b was = c.index_mut-strips.ensures.value ∙ now.left b was (omega arith) in
    let is : IsBandUpto s c.args.from b was = subst (IsBandUpto s c.args.from b) (sym first) (c.requires.bands.each b was lt) in
    let f = c.requires.made in
    let count_of = c.requires.standing.2.at.count in
    let known : AreKnown = record { falls_none = c.level_fallen.ensures.none; falls_all = c.level_fallen.ensures.all; falls_in_order = c.level_fallen.ensures.order; given_none = c.levels_fallen.ensures.none; given_all = c.levels_fallen.ensures.all; given_in_order = c.levels_fallen.ensures.order } in
    let made = made_of s c.args.from c.args.to b f.0 c.args.falling.now c.rows.result.now f.2 c.requires.levels count_of lt c.rows.ensures.low c.rows.ensures.high in
    (are_put known s c.args.from c.args.to b c.rows_made-end.result f.0 was c.rows.result.now c.rows_made-end.ensures.frame c.requires.order c.requires.inside lt is f.1 c.rows_made-end.ensures.value made).small

pub put-requires-clause-holds : goal.put-requires-clause-holds
put-requires-clause-holds c =
    let s = c.args.source.now in
    let b : ℕ = c.loop-b.b in
    let now = c.loop-b.invariant in
    let all = c.loop-b.bands.items in
    let was = c.index_mut-strips.result.now in
    let test = c.loop-b-test.true in
    let end_of = c.len-b-end.ensures in
    let count = now.count in
    let due = c.requires.bands.count in
    let lt : b < bands_in s = omega (arith, test, end_of, count, due) in
    let here : b < length all = omega (arith, lt, count, due) in
    let first : was ≡ get_or c.args.bands.now.items b was = c.index_mut-strips.ensures.value ∙ now.left b was (omega arith) in
    let is : IsBandUpto s c.args.from b was = subst (IsBandUpto s c.args.from b) (sym first) (c.requires.bands.each b was lt) in
    let f = c.requires.made in
    let count_of = c.requires.standing.2.at.count in
    let known : AreKnown = record { falls_none = c.level_fallen.ensures.none; falls_all = c.level_fallen.ensures.all; falls_in_order = c.level_fallen.ensures.order; given_none = c.levels_fallen.ensures.none; given_all = c.levels_fallen.ensures.all; given_in_order = c.levels_fallen.ensures.order } in
    let made = made_of s c.args.from c.args.to b f.0 c.args.falling.now c.rows.result.now f.2 c.requires.levels count_of lt c.rows.ensures.low c.rows.ensures.high in
    is.holds

pub loop-b-preserved : goal.loop-b-preserved
loop-b-preserved c =
    let s = c.args.source.now in
    let b : ℕ = c.loop-b.b in
    let now = c.loop-b.invariant in
    let all = c.loop-b.bands.items in
    let was = c.index_mut-strips.result.now in
    let test = c.loop-b-test.true in
    let end_of = c.len-b-end.ensures in
    let count = now.count in
    let due = c.requires.bands.count in
    let lt : b < bands_in s = omega (arith, test, end_of, count, due) in
    let here : b < length all = omega (arith, lt, count, due) in
    let first : was ≡ get_or c.args.bands.now.items b was = c.index_mut-strips.ensures.value ∙ now.left b was (omega arith) in
    let is : IsBandUpto s c.args.from b was = subst (IsBandUpto s c.args.from b) (sym first) (c.requires.bands.each b was lt) in
    let f = c.requires.made in
    let count_of = c.requires.standing.2.at.count in
    let known : AreKnown = record { falls_none = c.level_fallen.ensures.none; falls_all = c.level_fallen.ensures.all; falls_in_order = c.level_fallen.ensures.order; given_none = c.levels_fallen.ensures.none; given_all = c.levels_fallen.ensures.all; given_in_order = c.levels_fallen.ensures.order } in
    let made = made_of s c.args.from c.args.to b f.0 c.args.falling.now c.rows.result.now f.2 c.requires.levels count_of lt c.rows.ensures.low c.rows.ensures.high in
    let new = c.put.new.self in
    let done = c.in_ok-put.ensures in
    let next = next_band s c.args.from c.args.to b c.rows_made-end.result was new is c.rows_made-end.ensures.value done.name.0 done.name.1 done.name.2 done.holds in
    record {
      count = length-set all b new ∙ count;
      done = replaced (IsBandUpto s c.args.to) all b new here now.done next;
      left = λ k other from. get_or-set_other all b k new other (let ne : k ≢ b = omega (arith, from) in ne) ∙ now.left k other (omega (arith, from));
      rows = λ g given have. replaced (λ k y. HasRowsOf s g y) all b new here (now.rows g given have)
          (done.rows g (subst (HasRowsOf s g) (sym first) (have b was lt)) (rows_put s c.args.from c.args.to b c.rows_made-end.result g was c.rows.result.now lt is c.rows_made-end.ensures.value
          (made_of s c.args.from c.args.to b g c.args.falling.now c.rows.result.now given c.requires.levels count_of lt c.rows.ensures.low c.rows.ensures.high)));
    }

pub rows_made-end-requires-clause-e : goal.rows_made-end-requires-clause-e
rows_made-end-requires-clause-e c = c.requires.inside

pub returns-clause-rows : goal.returns-clause-rows
returns-clause-rows c f made have k other lt =
    let due = c.requires.bands.count in
    c.loop-b.invariant.rows f made have k other (omega (arith, lt, c.loop-b-test.false, c.len-b-end.ensures, due))
