use Rattle.std.proofs.Common.{rules, replicate, ◌≡◌, ◌+◌, ◌-◌, ◌<◌, ℕ, suc, List, length, get_or, set, nat_lt, sym, ap, subst, ◌∙◌, arith}
use Rattle.std.specs.Prelude.{Bool, not, ◌&&◌, ◌==◌}
use Rattle.std.proofs.lemmas.Grind.{get_or_default_zero}
use Rattle.jk_walk.specs.declared.places.PacketPlace.{PacketPlace}
use Rattle.jk_walk.specs.WalkReading.{full_numbers}
use Rattle.jk_tile.specs.decoding.Gathered.{place_in, AreByPrecinct}
use Rattle.jk_tile.proofs.decoding.Gathering.{place_read}
use Rattle.jk_tile.proofs.decoding.Chaining.{chains_none, chains_past, chains_more}
use Rattle.jk_tile.proofs.decoding.Full.{reached, full_in, chains_behind, chains_all, chains_none_yet}
use Rattle.jk_tile.proofs.decoding.chains.packets_by_precinct.Goals as goal

-- whether a packet is of the resolution and has something
abbrev is_full : (component resolution precincts : ℕ) → PacketPlace → Bool
is_full component resolution precincts w =
    ((w.name.component == component) && ((w.name.resolution == resolution) && nat_lt w.name.precinct precincts)) && not (length w.parts == 0)

pub loop-left-init : goal.loop-left-init
loop-left-init c =
    let ws = c.args.packets.now in
    let all = ap (λ (ns : List ℕ). length ns) c.full-full.ensures.value in
    let none : AreByPrecinct ws (length ws) c.args.component c.args.resolution c.args.precincts record { first = c.in_ok-vec.field-0; next = c.in_ok-vec-2.field-0 } =
    (let first : c.in_ok-vec.field-0.items ≡ replicate c.args.precincts 0 = search rules in
    let next : c.in_ok-vec-2.field-0.items ≡ replicate (length ws) 0 = search rules in
    chains_none ws c.args.component c.args.resolution c.args.precincts record { first = c.in_ok-vec.field-0; next = c.in_ok-vec-2.field-0 } first next) in
    record {
      within = omega (arith, all);
      chains = subst (λ i. AreByPrecinct ws i c.args.component c.args.resolution c.args.precincts record { first = c.in_ok-vec.field-0; next = c.in_ok-vec-2.field-0 }) (sym (chains_none_yet ws) ∙ ap (reached ws) (sym all)) none;
    }

pub bounds-full-left : goal.bounds-full-left
bounds-full-left c =
    let all = ap (λ (ns : List ℕ). length ns) c.full-full.ensures.value in
    let within = c.loop-left.invariant.within in
    let some = c.loop-left-test.true in
    omega (arith, all, within, some)

pub bounds-places-number : goal.bounds-places-number
bounds-places-number c =
    let ws = c.args.packets.now in
    let k = c.loop-left.left - 1 in
    let within = c.loop-left.invariant.within in
    let some = c.loop-left-test.true in
    let inside = full_in 0 ws k (omega (arith, within, some)) in
    let number = ap (λ (ns : List ℕ). get_or ns k 0) c.full-full.ensures.value in
    let long = ap (λ (ws : List PacketPlace). length ws) c.as_slice-places.ensures.value in
    omega (arith, inside, number, long)

pub link-requires-clause-number : goal.link-requires-clause-number
link-requires-clause-number c =
    let ws = c.args.packets.now in
    let k = c.loop-left.left - 1 in
    let within = c.loop-left.invariant.within in
    let some = c.loop-left-test.true in
    let inside = full_in 0 ws k (omega (arith, within, some)) in
    let number = ap (λ (ns : List ℕ). get_or ns k 0) c.full-full.ensures.value in
    let long = c.loop-left.invariant.chains.next in
    omega (arith, inside, number, long)

pub link-requires-clause-few : goal.link-requires-clause-few
link-requires-clause-few c =
    let ws = c.args.packets.now in
    let k = c.loop-left.left - 1 in
    let within = c.loop-left.invariant.within in
    let some = c.loop-left-test.true in
    let inside = full_in 0 ws k (omega (arith, within, some)) in
    let number = ap (λ (ns : List ℕ). get_or ns k 0) c.full-full.ensures.value in
    let few = c.full-full.ensures.few in
    omega (arith, inside, number, few)

pub loop-left-preserved-then-taken : goal.loop-left-preserved-then-taken
loop-left-preserved-then-taken c =
    let ws = c.args.packets.now in
    let k = c.loop-left.left - 1 in
    let m = get_or (full_numbers 0 ws) k 0 in
    let within = c.loop-left.invariant.within in
    let some = c.loop-left-test.true in
    let lt : k < length (full_numbers 0 ws) = omega (arith, within, some) in
    let inside : m < length ws = (let deep = full_in 0 ws k lt in omega (arith, deep)) in
    let back : c.loop-left.left ≡ suc k = omega (arith, some) in
    let number = ap (λ (ns : List ℕ). get_or ns k 0) c.full-full.ensures.value in
    let read = c.index-places-number.is ∙ ap (λ (ws : List PacketPlace). get_or ws (get_or c.full-full.result.now k 0) c.index-places-number.result) c.as_slice-places.ensures.value
    ∙ ap (λ i. get_or ws i c.index-places-number.result) number ∙ place_read ws m c.index-places-number.result inside in
    let said = c.is_full_of_resolution-taken.ensures ∙ ap (is_full c.args.component c.args.resolution c.args.precincts) read in
    let old = c.loop-left.chains in
    let first = c.link.ensures.first ∙ ap (λ (w : PacketPlace). set old.first.items w.name.precinct (get_or c.full-full.result.now k 0 + 1)) read ∙ ap (λ i. set old.first.items (place_in ws m).name.precinct (i + 1)) number in
    let next = c.link.ensures.next ∙ ap (λ (w : PacketPlace). set old.next.items (get_or c.full-full.result.now k 0) (get_or old.first.items w.name.precinct 0)) read
    ∙ ap (λ i. set old.next.items i (get_or old.first.items (place_in ws m).name.precinct 0)) number in
    let before = chains_behind ws c.args.component c.args.resolution c.args.precincts k old lt (subst (λ i. AreByPrecinct ws (reached ws i) c.args.component c.args.resolution c.args.precincts old) back c.loop-left.invariant.chains) in
    let now = chains_more ws c.args.component c.args.resolution c.args.precincts m old c.link.new.chains inside (sym said ∙ c.if-taken.true) first next before in
    record {
      within = omega (arith, within);
      chains = subst (λ i. AreByPrecinct ws i c.args.component c.args.resolution c.args.precincts c.link.new.chains) (sym (get_or_default_zero (full_numbers 0 ws) k (length ws) lt)) now;
    }

pub loop-left-preserved : goal.loop-left-preserved
loop-left-preserved c =
    let ws = c.args.packets.now in
    let k = c.loop-left.left - 1 in
    let m = get_or (full_numbers 0 ws) k 0 in
    let within = c.loop-left.invariant.within in
    let some = c.loop-left-test.true in
    let lt : k < length (full_numbers 0 ws) = omega (arith, within, some) in
    let inside : m < length ws = (let deep = full_in 0 ws k lt in omega (arith, deep)) in
    let back : c.loop-left.left ≡ suc k = omega (arith, some) in
    let number = ap (λ (ns : List ℕ). get_or ns k 0) c.full-full.ensures.value in
    let read = c.index-places-number.is ∙ ap (λ (ws : List PacketPlace). get_or ws (get_or c.full-full.result.now k 0) c.index-places-number.result) c.as_slice-places.ensures.value
    ∙ ap (λ i. get_or ws i c.index-places-number.result) number ∙ place_read ws m c.index-places-number.result inside in
    let said = c.is_full_of_resolution-taken.ensures ∙ ap (is_full c.args.component c.args.resolution c.args.precincts) read in
    let old = c.loop-left.chains in
    let before = chains_behind ws c.args.component c.args.resolution c.args.precincts k old lt (subst (λ i. AreByPrecinct ws (reached ws i) c.args.component c.args.resolution c.args.precincts old) back c.loop-left.invariant.chains) in
    let now = chains_past ws c.args.component c.args.resolution c.args.precincts m old inside (sym said ∙ c.if-taken.false) before in
    record {
      within = omega (arith, within);
      chains = subst (λ i. AreByPrecinct ws i c.args.component c.args.resolution c.args.precincts old) (sym (get_or_default_zero (full_numbers 0 ws) k (length ws) lt)) now;
    }

pub returns-clause-chains : goal.returns-clause-chains
returns-clause-chains c =
    let ws = c.args.packets.now in
    let over : c.loop-left.left ≡ 0 = omega (arith, c.loop-left-test.false) in
    chains_all ws c.args.component c.args.resolution c.args.precincts c.loop-left.chains
    (subst (λ i. AreByPrecinct ws (reached ws i) c.args.component c.args.resolution c.args.precincts c.loop-left.chains) over c.loop-left.invariant.chains)
