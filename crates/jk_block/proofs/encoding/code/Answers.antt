use Rattle.std.proofs.Common.{◌-◌, ◌*◌, ◌^◌, ◌<◌, ℕ, List, ℤ, length, refl, sym, ap, ◌∙◌, subst, unsigned_abs, arith}
use Rattle.jk_mqenc.specs.Encoded.{Codes}
use Rattle.jk_scan.specs.Passes.{Decided}
use Rattle.jk_block.specs.Meaning.{value_in}
use Rattle.jk_math.specs.BitLength.{bit_length}
use Rattle.jk_block.specs.BlockWritten.{greatest, bytes_of, marks_upto}
use Rattle.jk_block.specs.CodedBlocks.{shape_of}
use Rattle.jk_block.proofs.encoding.Lengths.{bytes_small}
use Rattle.jk_block.proofs.encoding.Planes.{some_value, some_sides}
use Rattle.jk_block.proofs.Parts.{made, coded_from, planes_hold, bytes_none, bytes_some, marks_none, marks_length, decisions_none, means_of, read_of, part_of, shorter_of, rise_of}
use Rattle.jk_block.proofs.encoding.code.Goals as goal

pub returns-then-planes-eq0-clause-exact : goal.returns-then-planes-eq0-clause-exact
returns-then-planes-eq0-clause-exact c =
    let b = c.args.block.now in
    let s = shape_of b in
    let p = c.top_bits-planes.result in
    coded_from s b.values.items p 0 c.new.result.items c.new-marks.result.items (c.top_bits-planes.ensures.planes ∙ ap (λ (vs : List ℤ). bit_length (greatest vs)) c.deref.ensures.value) (let z = c.if-planes-eq0.true in omega arith)
    (c.new.ensures.items ∙ sym (bytes_none s p (value_in s b.values.items)))
    (c.new-marks.ensures.items ∙ sym (marks_none s p (value_in s b.values.items)))

pub returns-then-planes-eq0-clause-means : goal.returns-then-planes-eq0-clause-means
returns-then-planes-eq0-clause-means c =
    let b = c.args.block.now in
    means_of (shape_of b) b.values.items (made c.top_bits-planes.result 0 c.new.result.items c.new-marks.result.items) (returns-then-planes-eq0-clause-exact c)

pub returns-then-planes-eq0-clause-back : goal.returns-then-planes-eq0-clause-back
returns-then-planes-eq0-clause-back c =
    let b = c.args.block.now in
    read_of (shape_of b) b.values.items (made c.top_bits-planes.result 0 c.new.result.items c.new-marks.result.items) (returns-then-planes-eq0-clause-exact c) c.requires.whole

pub code_all-requires-clause-sized : goal.code_all-requires-clause-sized
code_all-requires-clause-sized c =
    let b = c.args.block.now in
    let some = some_value b.values.items (λ e. c.if-planes-eq0.false (c.top_bits-planes.ensures.planes ∙ ap (λ (vs : List ℤ). bit_length (greatest vs)) c.deref.ensures.value ∙ e)) in
    let area = c.requires.whole in
    let sides = some_sides b.width b.height (omega (arith, some, area)) in
    record { wide = sides.0; narrow = c.requires.narrow; high = sides.1; low = c.requires.low; area = c.requires.area }

pub code_all-requires-clause-small : goal.code_all-requires-clause-small
code_all-requires-clause-small c = λ x y i.
    let b = c.args.block.now in
    let s = shape_of b in
    subst (λ p. unsigned_abs (value_in s c.deref-2.result.now x y) < 2 ^ p) (sym (c.top_bits-planes.ensures.planes ∙ ap (λ (vs : List ℤ). bit_length (greatest vs)) (c.deref.ensures.value ∙ sym c.deref-2.ensures.value)))
    (planes_hold s c.deref-2.result.now x y)

pub code_all-requires-clause-before : goal.code_all-requires-clause-before
code_all-requires-clause-before c =
    let b = c.args.block.now in
    let s = shape_of b in
    let p = c.top_bits-planes.result in
    let q = value_in s c.deref-2.result.now in
    record {
      codes = subst (λ (dss : List Decided). Codes c.new-encoder.result s.style.reset dss) (sym (decisions_none s p q)) (c.new-encoder.ensures s.style.reset);
      marked = c.new-marks.ensures.items ∙ sym (marks_none s p q);
    }

pub returns-clause-exact : goal.returns-clause-exact
returns-clause-exact c =
    let b = c.args.block.now in
    let s = shape_of b in
    let p = c.top_bits-planes.result in
    let after = c.in_ok-code_all.ensures.after in
    let same = c.deref-2.ensures.value in
    coded_from s b.values.items p (3 * p - 2) c.in_ok-finish.field-0.items c.code_all.new.marks.items
    (c.top_bits-planes.ensures.planes ∙ ap (λ (vs : List ℤ). bit_length (greatest vs)) c.deref.ensures.value) refl
    (c.in_ok-finish.ensures.exact _ _ after.codes ∙ sym (bytes_some s p (3 * p - 2) (value_in s c.deref-2.result.now) (let z = c.if-planes-eq0.false in omega arith)) ∙ ap (λ (vs : List ℤ). bytes_of s p (3 * p - 2) (value_in s vs)) same)
    (after.marked ∙ ap (λ (vs : List ℤ). marks_upto s p (3 * p - 2) (value_in s vs)) same)

pub returns-clause-means : goal.returns-clause-means
returns-clause-means c =
    let b = c.args.block.now in
    let p = c.top_bits-planes.result in
    means_of (shape_of b) b.values.items (made p (3 * p - 2) c.in_ok-finish.field-0.items c.code_all.new.marks.items) (returns-clause-exact c)

pub returns-clause-back : goal.returns-clause-back
returns-clause-back c =
    let b = c.args.block.now in
    let p = c.top_bits-planes.result in
    read_of (shape_of b) b.values.items (made p (3 * p - 2) c.in_ok-finish.field-0.items c.code_all.new.marks.items) (returns-clause-exact c) c.requires.whole

pub returns-clause-prefix : goal.returns-clause-prefix
returns-clause-prefix c =
    let b = c.args.block.now in
    let p = c.top_bits-planes.result in
    part_of (shape_of b) b.values.items (made p (3 * p - 2) c.in_ok-finish.field-0.items c.code_all.new.marks.items) (returns-clause-exact c)

pub returns-clause-shorter : goal.returns-clause-shorter
returns-clause-shorter c =
    let b = c.args.block.now in
    let p = c.top_bits-planes.result in
    shorter_of (shape_of b) b.values.items (made p (3 * p - 2) c.in_ok-finish.field-0.items c.code_all.new.marks.items) (returns-clause-exact c)

pub returns-clause-rises : goal.returns-clause-rises
returns-clause-rises c =
    let b = c.args.block.now in
    let p = c.top_bits-planes.result in
    rise_of (shape_of b) b.values.items (made p (3 * p - 2) c.in_ok-finish.field-0.items c.code_all.new.marks.items) (returns-clause-exact c)

pub returns-clause-marks : goal.returns-clause-marks
returns-clause-marks c =
    let b = c.args.block.now in
    let s = shape_of b in
    let p = c.top_bits-planes.result in
    ap (λ (ms : List ℕ). length ms) c.in_ok-code_all.ensures.after.marked ∙ marks_length s p (3 * p - 2) (value_in s c.deref-2.result.now)

pub returns-clause-short : goal.returns-clause-short
returns-clause-short c =
    let b = c.args.block.now in
    let s = shape_of b in
    let p = c.top_bits-planes.result in
    let few = c.top_bits-planes.ensures.few in
    let small = bytes_small s p (3 * p - 2) (value_in s c.deref-2.result.now) c.requires.narrow c.requires.area (omega (arith, few)) in
    subst (λ (b : List ℕ). length b < 2 ^ 25) (bytes_some s p (3 * p - 2) (value_in s c.deref-2.result.now) (let z = c.if-planes-eq0.false in omega arith) ∙ sym (c.in_ok-finish.ensures.exact _ _ c.in_ok-code_all.ensures.after.codes)) small
