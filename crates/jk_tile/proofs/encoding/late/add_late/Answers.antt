use Rattle.std.proofs.Common.{◌+◌, ◌≤◌, ℕ, sym, ap, subst, ◌∙◌, arith}
use Rattle.jk_math.specs.Lists.{lists_of}
use Rattle.jk_marks.specs.declared.coding.Coding.{Coding}
use Rattle.jk_wave.specs.Analysis.{analysed}
use Rattle.jk_walk.specs.TilePackets.{band_number}
use Rattle.jk_tile.specs.encoding.Strips.{band_at, AreCodedAbove}
use Rattle.jk_tile.specs.encoding.LateTables.{bands_from}
use Rattle.jk_tile.specs.encoding.TileWriters.{resolution_lists}
use Rattle.jk_tile.specs.declared.encoding.fallen.FallenBand.{FallenBand}
use Rattle.jk_tile.proofs.encoding.TileLists.{parts_grow, parts_end}
use Rattle.jk_tile.proofs.encoding.TablesLate.{number_at, next_resolution}
use Rattle.jk_tile.proofs.encoding.late.add_late.Goals as goal

pub loop-r-preserved : goal.loop-r-preserved
loop-r-preserved c =
    let s = c.args.source.now in
    let j = c.args.coding.now in
    let r : ℕ = c.loop-r.r in
    let now = c.loop-r.invariant in
    let done = c.in_ok-add_resolution.ensures in
    let levels = ap (λ (k : Coding). k.levels) c.coding.ensures.value in
    let test = c.loop-r-test.true in
    let le : r ≤ s.coding.levels = omega (arith, test, levels) in
    let next = next_resolution r in
    record {
      tables = λ f has. parts_grow (resolution_lists (bands_from s j f)) r (lists_of c.args.tables.now.items) (lists_of c.loop-r.tables.items) (lists_of c.add_resolution.new.tables.items) (now.tables f has)
          (done.tables f (λ i other lt. let at = number_at r i lt in
          subst (λ (x : FallenBand). AreCodedAbove s (analysed s.rect s.coding.levels f) r i (band_at s r i).y1 (lists_of x.blocks.items)) (sym (now.left (band_number r i) other (omega (arith, at)))) (has r le i other lt)));
      count = done.count ∙ now.count;
      left = λ k other from. done.left k other (omega (arith, from, next)) ∙ now.left k other (omega (arith, from, next));
    }

pub returns-clause-tables : goal.returns-clause-tables
returns-clause-tables c f has =
    let s = c.args.source.now in
    let j = c.args.coding.now in
    let levels = ap (λ (k : Coding). k.levels) c.coding.ensures.value in
    let same = ap (λ (k : Coding). k.levels) c.requires.alike in
    c.loop-r.invariant.tables f has ∙ parts_end (resolution_lists (bands_from s j f)) c.loop-r.r (j.levels + 1) (lists_of c.args.tables.now.items) (omega (arith, c.loop-r-test.false, c.loop-r.auto.r-end, levels, same))
