use Rattle.std.proofs.Common.{◌≡◌, ◌≢◌, ◌<◌, ℕ, get_or, length, sym, subst, ◌∙◌, arith}
use Rattle.std.proofs.lemmas.List.{get_or-set_other, length-set}
use Rattle.jk_tile.specs.encoding.Strips.{bands_in, HasRowsOf}
use Rattle.jk_tile.specs.encoding.FallingComponents.{IsBandUpto}
use Rattle.jk_tile.proofs.encoding.ListsKept.{replaced}
use Rattle.jk_tile.proofs.encoding.ComponentFalls.{band_stays}
use Rattle.jk_tile.proofs.encoding.falling.code_all.Goals as goal

pub code_all-requires : goal.code_all-requires
code_all-requires c =
    let s = c.args.source.now in
    let b : ℕ = c.loop-b.b in
    let now = c.loop-b.invariant in
    let all = c.loop-b.bands.items in
    let was = c.index_mut.result.now in
    let test = c.loop-b-test.true in
    let end_of = c.len-b-end.ensures in
    let count = now.count in
    let due = c.requires.bands.1.count in
    let lt : b < bands_in s = omega (arith, test, end_of, count, due) in
    let here : b < length all = omega (arith, lt, count, due) in
    let first : was ≡ get_or c.args.bands.now.items b was = c.index_mut.ensures.value ∙ now.left b was (omega arith) in
    record { holds = (subst (IsBandUpto s c.requires.bands.0 b) (sym first) (c.requires.bands.1.each b was lt)).holds }

pub loop-b-preserved : goal.loop-b-preserved
loop-b-preserved c =
    let s = c.args.source.now in
    let b : ℕ = c.loop-b.b in
    let now = c.loop-b.invariant in
    let all = c.loop-b.bands.items in
    let was = c.index_mut.result.now in
    let test = c.loop-b-test.true in
    let end_of = c.len-b-end.ensures in
    let count = now.count in
    let due = c.requires.bands.1.count in
    let lt : b < bands_in s = omega (arith, test, end_of, count, due) in
    let here : b < length all = omega (arith, lt, count, due) in
    let first : was ≡ get_or c.args.bands.now.items b was = c.index_mut.ensures.value ∙ now.left b was (omega arith) in
    let new = c.code_all.new.self in
    let done = c.in_ok-code_all.ensures in
    record {
      count = length-set all b new ∙ count;
      left = λ k other from. get_or-set_other all b k new other (let ne : k ≢ b = omega (arith, from) in ne) ∙ now.left k other (omega (arith, from));
      done = λ e are. replaced (IsBandUpto s e) all b new here (now.done e are) (band_stays s e b was new (subst (IsBandUpto s e b) (sym first) (are.each b was lt)) done.name.0 done.name.1 done.name.2 done.holds);
      rows = λ f have. replaced (λ k y. HasRowsOf s f y) all b new here (now.rows f have) (done.rows f (subst (HasRowsOf s f) (sym first) (have b was lt)));
      none = replaced (λ k y. length y.waiting.items ≡ 0) all b new here now.none done.none;
    }

pub returns-clause-bands : goal.returns-clause-bands
returns-clause-bands c e are =
    let count = c.loop-b.invariant.count in
    let due = are.count in
    let all : length c.loop-b.bands.items ≡ bands_in c.args.source.now = omega (arith, count, due) in
    record { count = all; each = λ k other lt. c.loop-b.invariant.done e are k other (omega (arith, lt, c.loop-b-test.false, c.len-b-end.ensures, due)) }

pub returns-clause-rows : goal.returns-clause-rows
returns-clause-rows c f have k other lt =
    let due = c.requires.bands.1.count in
    c.loop-b.invariant.rows f have k other (omega (arith, lt, c.loop-b-test.false, c.len-b-end.ensures, due))

pub returns-clause-none : goal.returns-clause-none
returns-clause-none c k other lt =
    let due = c.requires.bands.1.count in
    c.loop-b.invariant.none k other (omega (arith, lt, c.loop-b-test.false, c.len-b-end.ensures, due))
