use Rattle.std.proofs.Common.{◌≡◌, ◌<◌, ◌^◌, ◌+◌, ◌++◌, ◌∙◌, List, ℕ, [], Ok, sym, ap, subst, arith, append_assoc}
use Rattle.jk_boxes.specs.Boxes.{head_size}
use Rattle.jk_boxes.specs.Written.{fits_form}
use Rattle.jk_boxes.specs.declared.place.Boxed.{Boxed}
use Rattle.jk_marks.specs.PartHeads.{heads_text}
use Rattle.jk_marks.specs.Markers.{eoc, marker_text}
use Rattle.jk_walk.specs.TilePackets.{slice_of}
use Rattle.jk_window.specs.Framing.{Frame}
use Rattle.jk_window.specs.Planning.{PlanFields, plan_text, framed_size, part_from, part_size, front_of}
use Rattle.jk_window.proofs.FramedFile.{made_by}
use Rattle.jk_window.proofs.PlanLaws.{planned-nil}
use Rattle.jk_window.proofs.planning.plan_file.Goals as goal

pub plan_front-requires-clause-fits : goal.plan_front-requires-clause-fits
plan_front-requires-clause-fits c =
    let i = c.args.index.now in
    let fits = c.around-around.ensures.fits c.args.window.now c.args.view in
    let short = fits.short in
    let end : i.place.end < 2 ^ 64 = subst (λ (b : Boxed). b.end < 2 ^ 64) c.place-place.ensures (omega (arith, c.place-place.type_inv)) in
    let same : c.codestream_length-length.result ≡ framed_size i.frame (part_size i c.args.window.now c.args.view) = omega (arith, c.codestream_length-length.ensures, short, end) in
    ap (λ n. fits_form i.frame.form (head_size i.frame.form + n)) same ∙ fits.box

pub plan_front-requires-clause-short : goal.plan_front-requires-clause-short
plan_front-requires-clause-short c =
    let fits = c.around-around.ensures.fits c.args.window.now c.args.view in
    let short = fits.short in
    omega (arith, c.codestream_length-length.ensures, short)

pub returns-clause-plan : goal.returns-clause-plan
returns-clause-plan c = λ file is.
    let i = c.args.index.now in
    let w = c.args.window.now in
    let v = c.args.view in
    let fits = c.around-around.ensures.fits w v in
    let short = fits.short in
    let n = c.codestream_length-length.result in
    let end : i.place.end < 2 ^ 64 = subst (λ (b : Boxed). b.end < 2 ^ 64) c.place-place.ensures (omega (arith, c.place-place.type_inv)) in
    let same : n ≡ framed_size i.frame (part_size i w v) = omega (arith, c.codestream_length-length.ensures, short, end) in
    let content = part_from file i w v in
    let own = c.around.view_is ∙ c.around-around.ensures.value in
    let front = front_of i n file in
    let heads = heads_text i.frame.heads i.frame.segments content in
    let last = slice_of file (i.place.end, i.frame.size) in
    let main : c.deref-2.result.now ≡ i.frame.main = c.deref-2.ensures.value ∙ ap (λ (x : Frame). x.main) own in
    let start : plan_text file c.new-plan.result ≡ [] = ap (λ (p : PlanFields). plan_text file p) c.new-plan.ensures ∙ planned-nil file [] in
    let behind : slice_of file (c.place-place.result.end, c.around.inside.size) ≡ last = λ j. slice_of file ((c.place-place.ensures j).end, (own j).size) in
    let one : plan_text file c.plan_front.new.plan ≡ front = c.in_ok-plan_front.ensures.text file ∙ ap (λ (xs : List ℕ). xs ++ front) start in
    let two : plan_text file c.write.new.self ≡ front ++ i.frame.main = c.in_ok-write.ensures.ok.made file ∙ (λ j. one j ++ main j) in
    let three : plan_text file c.plan_parts.new.plan ≡ (front ++ i.frame.main) ++ heads = c.in_ok-plan_parts.ensures.text file is ∙ ap (λ (xs : List ℕ). xs ++ heads) two in
    let four : plan_text file c.write-2.new.self ≡ ((front ++ i.frame.main) ++ heads) ++ marker_text eoc = c.in_ok-write-2.ensures.ok.made file ∙ ap (λ (xs : List ℕ). xs ++ marker_text eoc) three in
    let all : plan_text file c.copy.new.self ≡ ((((front ++ i.frame.main) ++ heads) ++ marker_text eoc) ++ last) = c.in_ok-copy.ensures.ok.made file ∙ (λ j. four j ++ behind j) in
    made_by file i is w v n same ∙ ap (λ (xs : List ℕ). Ok xs) (joined front i.frame.main heads (marker_text eoc) last ∙ sym all)
  where
    joined : (a b c d e : List ℕ) → a ++ ((b ++ (c ++ d)) ++ e) ≡ (((a ++ b) ++ c) ++ d) ++ e
    joined a b c d e = simp append_assoc
