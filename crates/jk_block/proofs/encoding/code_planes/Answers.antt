use Rattle.std.proofs.Common.{◌≡◌, ◌∙◌, refl, ◌+◌, ◌-◌, ◌*◌, ◌/◌, unsigned_abs, subst, sym, arith}
use Rattle.std.specs.Prelude.{nat_lt}
use Rattle.jk_scan.specs.Flags.{IsDrawn}
use Rattle.jk_block.specs.Meaning.{plane_at, value_in}
use Rattle.jk_block.specs.CodedBlocks.{HasCodedPasses}
use Rattle.jk_block.specs.encoding.Slices.{IsSliced}
use Rattle.jk_block.specs.encoding.Viewed.{IsSignificantUpto}
use Rattle.jk_block.proofs.encoding.Planes.{short_of, significant_none, top_plane, none_refined, refined_drawn}
use Rattle.jk_block.proofs.WordDrawing.{drawn_alike}
use Rattle.jk_block.proofs.encoding.Slicing.{clear_none, clear_sliced}
use Rattle.jk_block.proofs.Drawing.{unmarked_words}
use Rattle.jk_block.proofs.encoding.code_planes.Goals as goal
use Rattle.jk_block.proofs.encoding.code_planes.Goals.{then-plane-eq7, else-plane-eq7}

pub loop-above-init : goal.loop-above-init
loop-above-init g c =
    let s = c.args.shape in
    let q = value_in s c.args.values.now in
    let planes = c.args.planes in
    let ages = c.new-ages.result in
    let lit = c.new-flags.ensures.significant ∙ c.unmarked-significant.ensures in
    let coded = c.new-flags.ensures.visited ∙ c.unmarked-visited.ensures in
    let even = c.new-ages.ensures.refined ∙ c.unmarked-even.ensures in
    let odd = c.new-ages.ensures.older ∙ c.unmarked-odd.ensures in
    record {
      coded = c.requires.before;
      known_significant = subst (λ b. IsSignificantUpto s b q c.new-flags.result) (omega arith) (significant_none s planes q g.row.N c.new-flags.result c.requires.small lit
          record { significant = (unmarked_words s g.row.N c.new-flags.result.significant.now c.requires.room lit).0; visited = (unmarked_words s g.row.N c.new-flags.result.visited.now c.requires.room coded).0 });
      sliced = subst (λ b. IsSliced s (b / 8 * 8) q c.slice_all-2.new.slices) (let e : planes ≡ planes - 0 = omega arith in e) c.slice_all-2.ensures.sliced;
      older = subst (λ b. IsDrawn s (λ x y. nat_lt 0 ((plane_at s (b + 1) q).magnitude x y)) ages.older) (let e : planes ≡ planes - 0 = omega arith in e)
          (none_refined s planes q g.row.N ages.older c.requires.small odd);
      room = record { refined = (unmarked_words s g.row.N ages.refined c.requires.room even).0; older = (unmarked_words s g.row.N ages.older c.requires.room odd).0 };
    }

pub invariant_of-block-clause-sliced : goal.invariant_of-block-clause-sliced
invariant_of-block-clause-sliced g c =
    let s = c.args.shape in
    let q = value_in s c.args.values.now in
    let l = c.loop-above in
    let plane = c.args.planes - 1 - l.above in
    elim c.if-plane-eq7.branch [
      | then-plane-eq7 w ↦
          (let e : plane - 7 ≡ plane / 8 * 8 = let r = w.if-plane-eq7.true in omega (arith, r) in
          subst (λ ws. IsSliced s (plane / 8 * 8) q ws) (sym w.slices-is) (subst (λ b. IsSliced s b q w.slice_all-then-plane-eq7.new.slices) e w.slice_all-then-plane-eq7.ensures.sliced))
      | else-plane-eq7 w ↦
          (let e : (c.args.planes - l.above) / 8 * 8 ≡ plane / 8 * 8 = let r = w.if-plane-eq7.false in omega (arith, r) in
          subst (λ ws. IsSliced s (plane / 8 * 8) q ws) (sym w.slices-is) (subst (λ b. IsSliced s b q l.slices) e l.invariant.sliced))
    ]

pub invariant_of-block-clause-signs : goal.invariant_of-block-clause-signs
invariant_of-block-clause-signs g c =
    let q = value_in c.args.shape c.args.values.now in
    c.mark_all_negative.ensures.marked q (λ x y i. short_of (unsigned_abs (q x y)) c.args.planes (c.requires.small x y i) c.requires.planes) c.slice_all.ensures.sliced

pub invariant_of-block-clause-older : goal.invariant_of-block-clause-older
invariant_of-block-clause-older g c =
    let l = c.loop-above in
    refined_drawn c.args.shape (c.args.planes - 1 - l.above) (c.args.planes - l.above + 1) (value_in c.args.shape c.args.values.now) c.refined.result.now (omega arith) (subst (λ ws. IsDrawn c.args.shape (λ x y. nat_lt 0 ((plane_at c.args.shape (c.args.planes - l.above + 1) (value_in c.args.shape c.args.values.now)).magnitude x y)) ws) (sym (c.refined.ensures ∙ c.note.ensures.refined)) l.invariant.older)

pub loop-above-preserved : goal.loop-above-preserved
loop-above-preserved g c =
    let l = c.loop-above in
    let s = c.args.shape in
    let planes = c.args.planes in
    let q = value_in s c.args.values.now in
    let plane = planes - 1 - l.above in
    let sliced : IsSliced s (plane / 8 * 8) q c.if-plane-eq7.slices = elim c.if-plane-eq7.branch [
      | then-plane-eq7 w ↦
          (let e : plane - 7 ≡ plane / 8 * 8 = let r = w.if-plane-eq7.true in omega (arith, r) in
          subst (λ ws. IsSliced s (plane / 8 * 8) q ws) (sym w.slices-is) (subst (λ b. IsSliced s b q w.slice_all-then-plane-eq7.new.slices) e w.slice_all-then-plane-eq7.ensures.sliced))
      | else-plane-eq7 w ↦
          (let e : (c.args.planes - l.above) / 8 * 8 ≡ plane / 8 * 8 = let r = w.if-plane-eq7.false in omega (arith, r) in
          subst (λ ws. IsSliced s (plane / 8 * 8) q ws) (sym w.slices-is) (subst (λ b. IsSliced s b q l.slices) e l.invariant.sliced))
    ] in
    record {
      coded = subst (λ n. HasCodedPasses s planes n q c.code_plane.new.encoder c.code_plane.new.marks.items) (let e : 3 * l.above + 1 ≡ 3 * (l.above + 1) - 2 = omega arith in e) c.in_ok-code_plane.ensures.after;
      known_significant = subst (λ b. IsSignificantUpto s b q c.code_plane.new.flags) (let e : planes - 1 - l.above ≡ planes - (l.above + 1) = omega arith in e) c.in_ok-code_plane.ensures.known_significant;
      sliced = subst (λ b. IsSliced s (b / 8 * 8) q c.if-plane-eq7.slices) (let e : plane ≡ planes - (l.above + 1) = omega arith in e) sliced;
      older = drawn_alike s (λ x y. nat_lt 0 ((plane_at s (planes - (l.above + 1) + 1) q).magnitude x y)) l.flags.significant.now c.note.new.ages.older c.note.ensures.older
          (subst (λ b. IsDrawn s (λ x y. nat_lt 0 ((plane_at s b q).magnitude x y)) l.flags.significant.now) (let e : planes - l.above ≡ planes - (l.above + 1) + 1 = omega arith in e) l.invariant.known_significant.known_significant);
      room = c.note.ensures.room;
    }

pub note-requires : goal.note-requires
note-requires g c = record {
  sized = c.requires.sized;
  given = c.loop-above.invariant.known_significant.room;
  room = c.loop-above.invariant.room;
}

pub mark_all_negative-requires : goal.mark_all_negative-requires
mark_all_negative-requires g c = record {
  sized = c.requires.sized;
  space = omega arith;
  unmarked = unmarked_words c.args.shape g.row.N c.unmarked-negative.result c.requires.room c.unmarked-negative.ensures;
}

pub slice_all-requires : goal.slice_all-requires
slice_all-requires g c = record {
  sized = c.requires.sized;
  room = omega arith;
  whole = c.requires.whole;
  shift = omega arith;
  clear = clear_none c.args.shape g.row.S c.blank-slices.result c.blank-slices.ensures;
}

pub slice_all-requires-2 : goal.slice_all-requires-2
slice_all-requires-2 g c = record {
  sized = c.requires.sized;
  room = omega arith;
  whole = c.requires.whole;
  shift = let few = c.requires.planes in omega (arith, few);
  clear = clear_sliced c.args.shape 24 (value_in c.args.shape c.args.values.now) c.slice_all.new.slices c.slice_all.ensures.sliced;
}

pub code_plane-requires : goal.code_plane-requires
code_plane-requires g c =
    let l = c.loop-above in
    record {
      planes = c.requires.planes;
      above = omega arith;
      plane = refl;
      top = λ e. top_plane c.args.shape (c.args.planes - 1 - c.loop-above.above) c.args.planes (value_in c.args.shape c.args.values.now) (omega (arith, e)) c.requires.small;
      known_significant = subst (λ b. IsSignificantUpto c.args.shape b (value_in c.args.shape c.args.values.now) l.flags) (let e : c.args.planes - l.above ≡ c.args.planes - 1 - l.above + 1 = omega arith in e) l.invariant.known_significant;
      before = l.invariant.coded;
    }
