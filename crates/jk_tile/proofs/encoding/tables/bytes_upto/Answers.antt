use Rattle.std.proofs.Common.{◌≡◌, ◌+◌, ◌-◌, ◌<◌, List, ℕ, length, get_or, min, ap, sym, ◌∙◌, arith}
use Rattle.std.proofs.lemmas.List.{get_or_default}
use Rattle.jk_block.specs.Layers.{without_ff, passes_upto}
use Rattle.jk_block.specs.CodedBlocks.{contents}
use Rattle.jk_block.proofs.Laws.{passes_few, upto_few}
use Rattle.jk_tile.proofs.encoding.LayerTables.{early_is, saturated}
use Rattle.jk_tile.proofs.encoding.tables.bytes_upto.Goals as goal

pub index-requires : goal.index-requires
index-requires c =
    let few = passes_few c.args.layers c.args.coded.now.planes c.args.layer in
    let same = c.args.coded.now.marks.ok in
    let some : 0 < c.passes_upto-passes.result = omega (arith, c.if-passes-eq0.false) in
    omega (arith, some, few, c.passes_upto-passes.ensures.value, c.requires.coded.marks, same.0)

pub returns-clause-value : goal.returns-clause-value
returns-clause-value c =
    let k = contents c.args.coded.now in
    let value = c.passes_upto-passes.ensures.value in
    let few = passes_few c.args.layers c.args.coded.now.planes c.args.layer in
    let some : 0 < c.passes_upto-passes.result = omega (arith, c.if-passes-eq0.false) in
    let early : c.args.layer + 1 < c.args.layers = omega (arith, c.requires.some, c.if-layer-layers.false) in
    let stored = c.args.coded.now.bytes.ok in
    let all : c.len-all.result ≡ length k.bytes = omega (arith, c.len-all.ensures, stored.0) in
    let mark : c.index.result.now ≡ get_or k.marks (passes_upto c.args.layers k.planes c.args.layer - 1) 0 =
    c.index.ensures ∙ get_or_default k.marks (c.passes_upto-passes.result - 1) c.index.result.now 0 (omega (arith, some, few, value, c.requires.coded.marks)) ∙ ap (λ n. get_or k.marks (n - 1) 0) value in
    let room : c.min.result ≡ min (length k.bytes) (get_or k.marks (passes_upto c.args.layers k.planes c.args.layer - 1) 0 + 4) =
    c.min.ensures ∙ ap (min c.len-all.result) c.saturating_add.ensures ∙ saturated c.len-all.result c.index.result.now 0 (omega (arith, all, c.requires.coded.short)) ∙ ap (λ n. min n (c.index.result.now + 4)) all ∙ ap (λ m. min (length k.bytes) (m + 4)) mark in
    c.without_ff.ensures.value ∙ ap (λ (bs : List ℕ). without_ff bs c.min.result) c.deref.ensures.value ∙ sym (early_is c.args.layers k c.args.layer c.min.result (omega (arith, value, some)) early room)

pub returns-clause-within : goal.returns-clause-within
returns-clause-within c =
    let k = contents c.args.coded.now in
    let few = upto_few c.args.layers k c.args.layer c.requires.some in
    let is = returns-clause-value c in
    omega (arith, few, is)
