use Rattle.std.proofs.Common.{◌≡◌, ◌≢◌, ◌+◌, ◌*◌, ◌<◌, ℕ, List, get_or, length, refl, sym, ap, subst, ◌∙◌, arith}
use Rattle.std.specs.Global.{Vec}
use Rattle.std.proofs.lemmas.List.{get_or-set_other, length-set}
use Rattle.jk_math.specs.Lists.{lists_of, list_at}
use Rattle.jk_wave.specs.Analysis.{analysed}
use Rattle.jk_walk.specs.TilePackets.{orientations, band_number, planes_of}
use Rattle.jk_tile.specs.encoding.Layered.{Layered}
use Rattle.jk_tile.specs.encoding.Strips.{HavePlanes}
use Rattle.jk_tile.specs.declared.encoding.fallen.FallenBand.{FallenBand}
use Rattle.jk_tile.proofs.encoding.TileLists.{count_of}
use Rattle.jk_tile.proofs.encoding.WrittenBlocks.{number_few}
use Rattle.jk_tile.proofs.encoding.TablesLate.{are_empty, number_at, first_more, resolution_late}
use Rattle.jk_tile.proofs.encoding.late.add_resolution.Goals as goal

pub loop-i-init : goal.loop-i-init
loop-i-init c =
    let s = c.args.source.now in
    let number = count_of c.rect.result s.rect c.coding.result.now s.coding c.args.r c.precinct_count-across.result.0 c.precinct_count-across.result.1 c.rect.ensures.value c.coding.ensures.value c.precinct_count-across.ensures.across c.precinct_count-across.ensures.down in
    let e = are_empty c.args.tables.now.items c.add_lists.new.lists.items (c.precinct_count-across.result.0 * c.precinct_count-across.result.1) c.in_ok-add_lists.ensures.lists in
    let stored = c.args.tables.now.ok in
    let first : c.len-first.result ≡ length c.args.tables.now.items = omega (arith, c.len-first.ensures, stored.0) in
    let long = e.long in
    record {
      count = omega (arith, long, number, first);
      front = λ m lt. e.front m (omega (arith, lt, first));
      made = λ f has n lt. ap (λ k. list_at c.add_lists.new.lists.items (k + n)) first ∙ e.none n;
      bands = refl;
      left = λ k other from. refl;
    }

pub add_band-requires-clause-room : goal.add_band-requires-clause-room
add_band-requires-clause-room c =
    let s = c.args.source.now in
    let r : ℕ = c.args.r in
    let i : ℕ = c.loop-i.i in
    let now = c.loop-i.invariant in
    let all = c.loop-i.bands.items in
    let was = c.index_mut.result.now in
    let test = c.loop-i-test.true in
    let own = c.band_count-i-end.ensures in
    let lt : i < length (orientations r) = omega (arith, test, own) in
    let number = c.band_number.ensures in
    let at = number_at r i lt in
    let few = number_few s.coding.levels r i c.requires.r lt in
    let long = now.bands in let count = c.requires.count in
    let here : c.band_number.result < length all = omega (arith, number, few, long, count) in
    let first : was ≡ get_or c.args.bands.now.items (band_number r i) was = c.index_mut.ensures.value ∙ now.left c.band_number.result was (omega (arith, number, at)) ∙ ap (λ k. get_or c.args.bands.now.items k was) number in
    let blocks = c.take_blocks-blocks.ensures ∙ ap (λ (x : FallenBand). x.blocks.items) first in
    subst (λ p. HavePlanes p (lists_of c.take_blocks-blocks.result.items)) (sym c.band_planes.ensures.value)
    (subst (λ (l : List (Vec Layered)). HavePlanes (planes_of c.args.coding.now (band_number r i)) (lists_of l)) (sym blocks) (c.requires.blocks i was lt).1)

pub add_band-requires-clause-count : goal.add_band-requires-clause-count
add_band-requires-clause-count c =
    let s = c.args.source.now in
    let r : ℕ = c.args.r in
    let i : ℕ = c.loop-i.i in
    let now = c.loop-i.invariant in
    let was = c.index_mut.result.now in
    let test = c.loop-i-test.true in
    let own = c.band_count-i-end.ensures in
    let lt : i < length (orientations r) = omega (arith, test, own) in
    let number = c.band_number.ensures in
    let at = number_at r i lt in
    let first : was ≡ get_or c.args.bands.now.items (band_number r i) was = c.index_mut.ensures.value ∙ now.left c.band_number.result was (omega (arith, number, at)) ∙ ap (λ k. get_or c.args.bands.now.items k was) number in
    let blocks = ap (λ (l : List (Vec Layered)). length l) (c.take_blocks-blocks.ensures ∙ ap (λ (x : FallenBand). x.blocks.items) first) in
    let each = (c.requires.blocks i was lt).0 in
    let count = now.count in
    omega (arith, blocks, each, count)

pub loop-i-preserved : goal.loop-i-preserved
loop-i-preserved c =
    let s = c.args.source.now in
    let r : ℕ = c.args.r in
    let i : ℕ = c.loop-i.i in
    let now = c.loop-i.invariant in
    let all = c.loop-i.bands.items in
    let was = c.index_mut.result.now in
    let test = c.loop-i-test.true in
    let own = c.band_count-i-end.ensures in
    let lt : i < length (orientations r) = omega (arith, test, own) in
    let number = c.band_number.ensures in
    let at = number_at r i lt in
    let first : was ≡ get_or c.args.bands.now.items (band_number r i) was = c.index_mut.ensures.value ∙ now.left c.band_number.result was (omega (arith, number, at)) ∙ ap (λ k. get_or c.args.bands.now.items k was) number in
    let blocks = c.take_blocks-blocks.ensures ∙ ap (λ (x : FallenBand). x.blocks.items) first in
    let many = ap (λ (l : List (Vec Layered)). length l) blocks in
    let each = (c.requires.blocks i was lt).0 in
    let done = c.in_ok-add_band.ensures in
    record {
      count = done.count ∙ now.count;
      front = λ m low. done.front m low ∙ now.front m low;
      made = λ f has n less. first_more s c.args.coding.now (analysed s.rect s.coding.levels f) r i n c.band_planes.result (list_at c.loop-i.tables.items (c.len-first.result + n)) (list_at c.add_band.new.tables.items (c.len-first.result + n))
          (list_at c.take_blocks-blocks.result.items n) c.requires.alike less (ap (λ (l : List (Vec Layered)). list_at l n) blocks ∙ has i was lt n less) c.band_planes.ensures.value (now.made f has n less)
          (done.tables n (omega (arith, less, many, each)));
      bands = length-set all c.band_number.result c.take_blocks-blocks.new.band ∙ now.bands;
      left = λ k other from. get_or-set_other all c.band_number.result k c.take_blocks-blocks.new.band other (let ne : k ≢ c.band_number.result = omega (arith, from, number, at) in ne) ∙ now.left k other (omega (arith, from));
    }

pub returns-clause-tables : goal.returns-clause-tables
returns-clause-tables c f has =
    let now = c.loop-i.invariant in
    let stored = c.args.tables.now.ok in
    let first : c.len-first.result ≡ length c.args.tables.now.items = omega (arith, c.len-first.ensures, stored.0) in
    let own = c.band_count-i-end.ensures in
    let count = now.count in
    resolution_late c.args.source.now c.args.coding.now f c.args.r c.loop-i.i c.args.tables.now.items c.loop-i.tables.items c.requires.alike c.requires.r (omega (arith, c.loop-i-test.false, c.loop-i.auto.i-end, own)) (omega (arith, count, first))
    (λ m lt. now.front m (omega (arith, lt, first)))
    (λ n lt. ap (λ k. list_at c.loop-i.tables.items (k + n)) (sym first) ∙ now.made f has n lt)

pub returns-clause-left : goal.returns-clause-left
returns-clause-left c k other from =
    let own = c.band_count-i-end.ensures in
    c.loop-i.invariant.left k other (omega (arith, from, c.loop-i.auto.i-end, own))
