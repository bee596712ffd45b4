use Rattle.std.proofs.Common.{◌≡◌, ◌≢◌, ◌<◌, ◌≤◌, ◌+◌, ◌-◌, ◌++◌, ℕ, List, All, length, map, set, drop, inl, inr, sym, ap, subst, ◌∙◌, arith}
use Rattle.std.proofs.lemmas.Bool.{cases_eq}
use Rattle.std.proofs.lemmas.List.{length-set}
use Rattle.jk_packet.specs.Written.{Table}
use Rattle.jk_math.specs.Lists.{list_at}
use Rattle.jk_tile.specs.encoding.Layered.{Layered, table_with}
use Rattle.jk_tile.proofs.encoding.ListsKept.{list_changed, list_kept, list_was}
use Rattle.jk_tile.proofs.encoding.TablesLate.{own_is}
use Rattle.jk_tile.proofs.encoding.late.add_band.Goals as goal

pub add_blocks-requires-clause-room : goal.add_blocks-requires-clause-room
add_blocks-requires-clause-room c =
    let k : ℕ = c.loop-own.at - c.args.first in
    let own = own_is c.args.blocks.items c.loop-own.own-iterator.rest.items c.next.new.self.rest.items k c.in-Some.own c.loop-own.invariant.rest c.in-Some.ensures.steps.0 in
    subst (All (λ (b : Layered). b.planes ≤ c.args.planes)) (sym own.1) (c.requires.room k)

pub loop-own-preserved : goal.loop-own-preserved
loop-own-preserved c =
    let at : ℕ = c.loop-own.at in
    let first : ℕ = c.args.first in
    let k : ℕ = at - first in
    let now = c.loop-own.invariant in
    let all = c.loop-own.tables.items in
    let is = c.add_blocks.new.tables in
    let was = c.index_mut.result.now in
    let from = now.from in
    let count = now.count in
    let long = c.requires.count in
    let own = own_is c.args.blocks.items c.loop-own.own-iterator.rest.items c.next.new.self.rest.items k c.in-Some.own now.rest c.in-Some.ensures.steps.0 in
    let less = own.0 in
    let here : at < length all = omega (arith, less, from, count, long) in
    let there : first + k ≡ at = omega (arith, from) in
    let next : at + 1 - first ≡ k + 1 = omega (arith, from) in
    let made : list_at (set all at is) at ≡ list_at c.args.tables.now.items at ++ map (table_with c.args.planes) (list_at c.args.blocks.items k) =
    list_changed all at is here ∙ c.in_ok-add_blocks.ensures.tables ∙ ap (λ (ts : List Table). ts ++ map (table_with c.args.planes) c.in-Some.own.items) (list_was all at was here c.index_mut.ensures.value ∙ now.behind at (omega arith))
    ∙ ap (λ (bs : List Layered). list_at c.args.tables.now.items at ++ map (table_with c.args.planes) bs) own.1 in
    record {
      from = omega (arith, from);
      few = omega (arith, less, from);
      rest = own.2 ∙ ap (λ n. drop n c.args.blocks.items) (sym next);
      count = length-set all at is ∙ count;
      front = λ m low. list_kept all at m is (let ne : m ≢ at = omega (arith, low, from) in ne) ∙ now.front m low;
      done = λ n low. elim (cases_eq n k) [
        | inl e ↦ subst (λ j. list_at (set all at is) (first + j) ≡ list_at c.args.tables.now.items (first + j) ++ map (table_with c.args.planes) (list_at c.args.blocks.items j)) (sym e)
            (subst (λ j. list_at (set all at is) j ≡ list_at c.args.tables.now.items j ++ map (table_with c.args.planes) (list_at c.args.blocks.items k)) (sym there) made)
        | inr ne ↦ list_kept all at (first + n) is (let other : first + n ≢ at = omega (arith, ne, there) in other) ∙ now.done n (omega (arith, low, ne, there))
      ];
      behind = λ m high. list_kept all at m is (let ne : m ≢ at = omega (arith, high) in ne) ∙ now.behind m (omega (arith, high));
    }
