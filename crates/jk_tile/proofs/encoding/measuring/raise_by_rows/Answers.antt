use Rattle.std.proofs.Common.{◌≡◌, ◌≢◌, ◌+◌, ◌<◌, ℕ, ℤ, List, length, inl, inr, max, sym, ap, ◌∙◌, arith}
use Rattle.std.specs.Prelude.{slice_index, slice_set}
use Rattle.std.proofs.lemmas.Bool.{cases_lt}
use Rattle.std.proofs.lemmas.List.{get_or-set_other, get_or-set_same, length-set}
use Rattle.jk_math.specs.BitLength.{bit_length}
use Rattle.jk_block.specs.BlockWritten.{greatest}
use Rattle.jk_marks.specs.declared.coding.Coding.{Coding}
use Rattle.jk_tile.specs.encoding.Strips.{bands_in}
use Rattle.jk_tile.specs.encoding.FallingComponents.{made_need}
use Rattle.jk_tile.proofs.encoding.ComponentFalls.{AreKnown, made_of}
use Rattle.jk_tile.proofs.encoding.MeasuredRows.{made_small}
use Rattle.jk_tile.proofs.encoding.measuring.raise_by_rows.Goals as goal

pub top_bits-bits-requires : goal.top_bits-bits-requires
top_bits-bits-requires c =
    let s = c.args.source.now in
    let b : ℕ = c.loop-b.b in
    let given = c.requires.made in
    let levels = ap (λ (k : Coding). k.levels) c.coding.ensures.value in
    let lt : b < bands_in s = omega (arith, c.loop-b-test.true, levels) in
    let known : AreKnown = record { falls_none = c.level_fallen.ensures.none; falls_all = c.level_fallen.ensures.all; falls_in_order = c.level_fallen.ensures.order; given_none = c.levels_fallen.ensures.none; given_all = c.levels_fallen.ensures.all; given_in_order = c.levels_fallen.ensures.order } in
    let count = c.requires.standing.2.at.count in
    made_small known s given.0 given.1 b given.2 c.rows.result.now c.coding.ensures.frame given.5 given.6 given.7 lt given.3
    (made_of s given.0 given.1 b given.2 c.args.falling.now c.rows.result.now given.4 c.requires.levels count lt c.rows.ensures.low c.rows.ensures.high)

pub loop-b-preserved : goal.loop-b-preserved
loop-b-preserved c =
    let s = c.args.source.now in
    let b : ℕ = c.loop-b.b in
    let now = c.loop-b.invariant in
    let old = c.loop-b.needs in
    let long = now.long in
    let levels = ap (λ (k : Coding). k.levels) c.coding.ensures.value in
    let few = c.coding.ensures.frame.few_levels in
    let lt : b < bands_in s = omega (arith, c.loop-b-test.true, levels) in
    let count = c.requires.standing.2.at.count in
    record {
      done = λ d e f made k less own. elim (cases_lt k b) [
        | inl front ↦ get_or-set_other old b k c.max.result 0 (let ne : k ≢ b = omega (arith, front) in ne) ∙ now.done d e f made k front own
        | inr past ↦
            (let here : k ≡ b = omega (arith, less, past) in
            let rows = made_of s d e b f c.args.falling.now c.rows.result.now made c.requires.levels count lt c.rows.ensures.low c.rows.ensures.high in
            let bits : c.top_bits-bits.result ≡ made_need s d e f b = c.top_bits-bits.ensures.planes ∙ ap (λ (xs : List ℤ). bit_length (greatest xs)) rows in
            let is : c.max.result ≡ max (slice_index c.args.needs.now b) (made_need s d e f b) = omega (arith, c.max.ensures, now.rest b (omega arith), bits) in
            get_or-set_at old b k c.max.result here (omega (arith, few, lt, long)) ∙ is ∙ ap (λ n. max (slice_index c.args.needs.now n) (made_need s d e f n)) (sym here))
      ];
      rest = λ k from. get_or-set_other old b k c.max.result 0 (let ne : k ≢ b = omega (arith, from) in ne) ∙ now.rest k (omega (arith, from));
      long = length-set old b c.max.result ∙ long;
    }
  where
    get_or-set_at : (xs : List ℕ) (i j v : ℕ) → j ≡ i → i < length xs → slice_index (slice_set xs i v) j ≡ v
    get_or-set_at xs i j v same less = ap (λ n. slice_index (slice_set xs i v) n) same ∙ get_or-set_same xs i v 0 less

pub returns : goal.returns
returns c d e f made b lt =
    let levels = ap (λ (k : Coding). k.levels) c.coding.ensures.value in
    c.loop-b.invariant.done d e f made b (omega (arith, lt, levels, c.loop-b-test.false, c.loop-b.auto.b-end)) lt
