use Rattle.std.proofs.Common.{◌≡◌, ℕ, ◌+◌, List, [], ◌∷◌, ◌++◌, length, take, refl, sym, ap, ◌∙◌, arith, append_assoc, append-nil, subst}
use Rattle.std.specs.List.{flat_map}
use Rattle.std.proofs.lemmas.List.{take-take, length-take-le, map-append}
use Rattle.jk_marks.specs.Markers.{eoc, marker_text}
use Rattle.jk_stored.specs.Outlines.{shortened, AreFronts, size_of}
use Rattle.jk_stored.proofs.FrontLaws.{fronts_push, texts_push}
use Rattle.jk_stored.proofs.outline.read_outline.Goals as goal

pub loop-init : goal.loop-init
loop-init g c = (
  [],
  c.in_ok-bytes.ensures.items ∙ sym (append-nil (take c.in_ok-main.main c.args.front.now)),
  c.new-parts.ensures.items,
  omega (arith, c.if-main-size.false),
  λ code keeping whole. refl,
)

pub put_front-requires : goal.put_front-requires
put_front-requires g c = c.loop.invariant.3

pub returns-then-is_end : goal.returns-then-is_end
returns-then-is_end g c =
    let m = c.in_ok-main.main in
    let main = take m c.args.front.now in
    let inv = c.loop.invariant in
    let within = c.in_ok-main.ensures.within in
    let long : length main ≡ m = length-take-le m c.args.front.now within in (
      main,
      inv.0,
      c.in_ok-extend_from_slice.ensures.items ∙ ap (λ (xs : List ℕ). xs ++ marker_text eoc) inv.1 ∙ append_assoc main (flat_map shortened inv.0) (marker_text eoc),
      sym long,
      inv.2,
      λ code keeping whole. record {
        begins = ap (take m) (c.requires code keeping) ∙ take-take m (length c.args.front.now) code within ∙ ap (λ k. take k code) (sym long);
        stop = c.loop.at;
        parts = subst (λ k. AreFronts code k inv.0 c.loop.at) (sym long) (inv.4 code keeping whole);
        ends = c.in_ok-is_end.ensures c.if-is_end.true code keeping whole;
      },
    )

pub loop-preserved : goal.loop-preserved
loop-preserved g c =
    let main = take c.in_ok-main.main c.args.front.now in
    let inv = c.loop.invariant in
    let put = c.in_ok-part.ensures.front in
    let f = put.0 in
    let size : c.loop.at + c.in_ok-part.part.size ≡ c.loop.at + f.size = ap (λ k. c.loop.at + k) put.3 in (
      inv.0 ++ f ∷ [],
      put.1 ∙ ap (λ (xs : List ℕ). xs ++ shortened f) inv.1 ∙ append_assoc main (flat_map shortened inv.0) (shortened f) ∙ ap (λ (xs : List ℕ). main ++ xs) (sym (texts_push inv.0 f)),
      c.in_ok-push.ensures.items ∙ (λ i. inv.2 i ++ (record { held = put.2 i; size = put.3 i }) ∷ []) ∙ sym (map-append size_of inv.0 (f ∷ [])),
      c.in_ok-part.ensures.within,
      λ code keeping whole. subst (λ k. AreFronts code c.in_ok-main.main (inv.0 ++ f ∷ []) k) (sym size) (fronts_push code c.in_ok-main.main c.loop.at inv.0 f (inv.4 code keeping whole) (put.4 code keeping whole)),
    )
