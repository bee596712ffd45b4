use Rattle.std.proofs.Common.{◌≡◌, ℕ, ◌+◌, ◌-◌, ◌%◌, ◌<◌, Bool, sym, ap, ◌∙◌, subst, arith}
use Rattle.std.specs.Prelude.{◌&&◌}
use Rattle.std.specs.Int.{trailing_zeros, w64}
use Rattle.std.specs.Int.RustNames.{bit_or, bit_and}
use Rattle.std.proofs.lemmas.Result.{err_from_is_err_and}
use Rattle.jk_scan.specs.Neighbours.{is_inside}
use Rattle.jk_scan.specs.declared.shape.BlockShape.{BlockShape}
use Rattle.jk_scan.specs.Words.{of_rows, bordered, Shows}
use Rattle.jk_scan.specs.WordPlaces.{column, row}
use Rattle.jk_scan.proofs.Laws.{sooner_zero, sooner_one}
use Rattle.jk_block.specs.Fields.{with_word}
use Rattle.jk_block.specs.Steps.{IsWordPlace, word_pass}
use Rattle.jk_block.specs.decoding.BlockStates.{Draft, Advanced, draft_of, visited_in}
use Rattle.jk_block.specs.decoding.Sights.{Sees, Held, IsHeld, new_in, seen_in}
use Rattle.jk_block.proofs.decoding.ReadSoFar.{going_fault, going_all}
use Rattle.jk_block.proofs.decoding.Holding.{sees_visited}
use Rattle.jk_block.proofs.decoding.Spreading.{Spreading, spreading_none, spreading_idle, spreading_next, spreading_zero, spreading_one, spreading_all, member_fault, held_behind, draft_behind}
use Rattle.jk_block.proofs.decoding.words.read_propagation.Goals as goal

pub returns-then-candidates-eq0-clause-takes : goal.returns-then-candidates-eq0-clause-takes
returns-then-candidates-eq0-clause-takes c =
    let k = c.args.block_state.now in
    let at = c.args.spot in
    let around = c.significant_around-significant.ensures in
    going_all 0 at (draft_of k) (draft_of k) c.args.decoder.now c.args.decoder.now
    (spreading_idle at (draft_of k) c.args.decoder.now c.members-candidates.result (c.members-candidates.ensures (bordered (seen_in (draft_of k) at.stripe)) (bordered (is_inside k.shape)) at.word at.stripe around c.inside-limits.ensures) (omega arith))

pub loop-candidates-init : goal.loop-candidates-init
loop-candidates-init c =
    let k = c.args.block_state.now in
    let at = c.args.spot in
    let around = c.significant_around-significant.ensures in
    spreading_none at (draft_of k) c.args.decoder.now _ c.inside-limits.result c.members-candidates.result
    record { significant = around; negative = c.negative_around-negative.ensures } c.inside-limits.ensures
    (c.members-candidates.ensures (bordered (seen_in (draft_of k) at.stripe)) (bordered (is_inside k.shape)) at.word at.stripe around c.inside-limits.ensures)

pub read_new-requires-clause-on_row : goal.read_new-requires-clause-on_row
read_new-requires-clause-on_row c =
    let l = c.loop-candidates in
    (spreading_next c.args.spot (draft_of c.args.block_state.now) c.args.decoder.now l.decoder l.sight c.inside-limits.result l.candidates l.visited l.invariant (omega arith) (omega arith)).place.on_row

pub returns-in_err-bit-clause-takes : goal.returns-in_err-bit-clause-takes
returns-in_err-bit-clause-takes c =
    let p = err_from_is_err_and c.from_residual.result c.from_residual.ensures.1 in
    let l = c.loop-candidates in
    let k = c.args.block_state.now in
    let at = c.args.spot in
    let z = trailing_zeros w64 l.candidates in
    let x = column at.word z in
    let y = row at.stripe z in
    let d = l.invariant.draft in
    let next = spreading_next at (draft_of k) c.args.decoder.now l.decoder l.sight c.inside-limits.result l.candidates l.visited l.invariant (omega arith) (omega arith) in
    rw (p.1, p.2) (going_fault 0 at z (draft_of k) d c.args.decoder.now l.decoder c.in_err-bit.field-0.0 next.going next.place
    (member_fault at d l.decoder z c.in_err-bit.field-0.0 next.place next.due
    (c.in_err-bit.ensures.takes at (visited_in x y d) (ap (λ s. s.orientation) l.invariant.going.shape) next.place (sees_visited at d l.sight x y l.invariant.held.sees))))

pub loop-candidates-smaller : goal.loop-candidates-smaller
loop-candidates-smaller c = sooner_zero c.loop-candidates.candidates (omega arith) (omega arith)

pub loop-candidates-smaller-then-bit : goal.loop-candidates-smaller-then-bit
loop-candidates-smaller-then-bit c =
    let n = c.loop-candidates.candidates in
    subst (λ (r : ℕ). 64 - trailing_zeros w64 (bit_or (bit_and n (n - 1)) r) < 64 - trailing_zeros w64 n) (sym c.later_touched-reached.ensures.is)
    (sooner_one n c.inside-limits.result c.read_new.new.sight.significant.centre (omega arith) (omega arith))

pub loop-candidates-preserved : goal.loop-candidates-preserved
loop-candidates-preserved c =
    let l = c.loop-candidates in
    let k = c.args.block_state.now in
    let at = c.args.spot in
    let z = trailing_zeros w64 l.candidates in
    let x = column at.word z in
    let y = row at.stripe z in
    let d = l.invariant.draft in
    let dv = visited_in x y d in
    let next = spreading_next at (draft_of k) c.args.decoder.now l.decoder l.sight c.inside-limits.result l.candidates l.visited l.invariant (omega arith) (omega arith) in
    let place = next.place in
    let sees = sees_visited at d l.sight x y l.invariant.held.sees in
    let takes = c.in_ok-bit.ensures.takes at dv (ap (λ s. s.orientation) l.invariant.going.shape) place sees in
    spreading_zero at (draft_of k) c.args.decoder.now l.decoder c.read_new.new.decoder l.sight c.read_new.new.sight c.inside-limits.result l.candidates l.visited c.in_ok-bit.bit l.invariant (omega arith) (omega arith)
    (λ coder st. rw c.if-bit.false at takes coder st) c.in_ok-bit.ensures.bytes
    (subst (λ (b : Bool). Sees at (new_in at z b c.read_new.new.sight dv) c.read_new.new.sight) c.if-bit.false (c.in_ok-bit.ensures.sees at dv place sees))

pub loop-candidates-preserved-then-bit : goal.loop-candidates-preserved-then-bit
loop-candidates-preserved-then-bit c =
    let l = c.loop-candidates in
    let k = c.args.block_state.now in
    let at = c.args.spot in
    let z = trailing_zeros w64 l.candidates in
    let x = column at.word z in
    let y = row at.stripe z in
    let d = l.invariant.draft in
    let dv = visited_in x y d in
    let next = spreading_next at (draft_of k) c.args.decoder.now l.decoder l.sight c.inside-limits.result l.candidates l.visited l.invariant (omega arith) (omega arith) in
    let sees = sees_visited at d l.sight x y l.invariant.held.sees in
    let takes = c.in_ok-bit.ensures.takes at dv (ap (λ s. s.orientation) l.invariant.going.shape) next.place sees in
    subst (λ (r : ℕ). Spreading at (draft_of k) c.args.decoder.now c.read_new.new.decoder c.read_new.new.sight c.inside-limits.result (bit_or (bit_and l.candidates (l.candidates - 1)) r) (bit_or l.visited r)) (sym c.later_touched-reached.ensures.is)
    (spreading_one at (draft_of k) c.args.decoder.now l.decoder c.read_new.new.decoder l.sight c.read_new.new.sight c.inside-limits.result l.candidates l.visited c.in_ok-bit.bit l.invariant (omega arith) (omega arith) c.later_touched-reached.ensures.fits
    (λ coder st. rw c.if-bit.true at takes coder st) c.in_ok-bit.ensures.bytes
    (subst (λ (b : Bool). Sees at (new_in at z b c.read_new.new.sight dv) c.read_new.new.sight) c.if-bit.true (c.in_ok-bit.ensures.sees at dv next.place sees)))

pub returns-clause-shape : goal.returns-clause-shape
returns-clause-shape c =
    let l = c.loop-candidates in
    let k = c.args.block_state.now in
    let at = c.args.spot in
    let d = l.invariant.draft in
    let held = subst (λ (k : Draft). Held at k l.sight d) (sym c.visit_all.ensures.visited) (held_behind at (draft_of k) d l.sight (with_word (draft_of k).visited at.word at.stripe l.visited) l.invariant.held) in
    ap (λ (d : Draft). d.shape) (c.light_all.ensures.known_significant d held) ∙ l.invariant.going.shape

pub returns-clause-takes : goal.returns-clause-takes
returns-clause-takes c = λ coder st.
    let l = c.loop-candidates in
    let k = c.args.block_state.now in
    let at = c.args.spot in
    let v = c.args.decoder.now in
    let limits = c.inside-limits.result in
    let d = l.invariant.draft in
    let held = subst (λ (k : Draft). Held at k l.sight d) (sym c.visit_all.ensures.visited) (held_behind at (draft_of k) d l.sight (with_word (draft_of k).visited at.word at.stripe l.visited) l.invariant.held) in
    let behind = draft_behind at (draft_of k) v l.decoder l.sight limits l.candidates l.visited l.invariant (omega arith) (draft_of c.visit_all.new.self) (draft_of c.light_all.new.self) c.visit_all.ensures.visited (c.light_all.ensures.known_significant d held) in
    subst (λ (n : Draft). Advanced (word_pass v.bytes k.shape at.plane 0 at.word at.stripe) (draft_of k) n l.decoder coder) (sym behind)
    (going_all 0 at (draft_of k) d v l.decoder (spreading_all at (draft_of k) v l.decoder l.sight limits l.candidates l.visited l.invariant (omega arith)) coder st)

pub visit_all-requires : goal.visit_all-requires
visit_all-requires c = record {
  spot = c.requires.spot;
  inside = λ m l e. let i = c.loop-candidates.invariant in ap (λ (s : BlockShape). of_rows (m % 8) && is_inside s (column c.args.spot.word m) (row c.args.spot.stripe m)) (sym i.going.shape) ∙ i.marks.inside m l e;
}

pub light_all-requires : goal.light_all-requires
light_all-requires c =
    let l = c.loop-candidates in
    let k = c.args.block_state.now in
    let at = c.args.spot in
    let same : c.visit_all.new.self.shape ≡ k.shape = ap (λ (d : Draft). d.shape) c.visit_all.ensures.visited in
    record {
      spot = subst (λ (s : BlockShape). IsWordPlace s at) (sym same) c.requires.spot;
      plane = subst (λ n. at.plane < n) (sym c.visit_all.ensures.planes) c.requires.plane;
      limits = subst (λ (s : BlockShape). Shows of_rows (bordered (is_inside s)) (at.word + 1) (at.stripe + 1) c.inside-limits.result) (sym same) c.inside-limits.ensures;
      held = subst (λ (k : Draft). IsHeld at k l.sight) (sym c.visit_all.ensures.visited)
          record { draft = l.invariant.draft; held = held_behind at (draft_of k) l.invariant.draft l.sight (with_word (draft_of k).visited at.word at.stripe l.visited) l.invariant.held };
    }
