use Rattle.std.proofs.Common.{◌≡◌, ℕ, ◌+◌, ◌-◌, ◌<◌, List, [], ◌∷◌, ◌++◌, length, drop, append_assoc, refl, sym, ap, ◌∙◌, arith}
use Rattle.std.proofs.lemmas.List.{take_rest, append-nil, length-drop}
use Rattle.byteorder.specs.Endian.{big_number}
use Rattle.jk_marks.specs.Copying.{segment_size}
use Rattle.jk_commands.specs.HeaderMarkers.{markers_from}
use Rattle.jk_commands.proofs.WalkLoops.{markers_stop, markers_end, markers_more}
use Rattle.jk_commands.proofs.markers.put_markers.Goals as goal

pub returns-then-size-eq0 : goal.returns-then-size-eq0
returns-then-size-eq0 c =
    let bytes = c.args.bytes.now in
    let size : segment_size c.args.last (drop c.loop.at bytes) ≡ 0 =
    ap (segment_size c.args.last) (sym (take_rest bytes c.loop.at)) ∙ sym c.segment_size-size.ensures.value ∙ c.if-size-eq0.true in
    let none = markers_stop (length bytes - c.loop.counter) c.args.last (drop c.loop.at bytes) size in
    sym (append-nil c.loop.markers.items) ∙ ap (λ (xs : List ℕ). c.loop.markers.items ++ xs) (sym none) ∙ c.loop.invariant.left

pub loop-preserved : goal.loop-preserved
loop-preserved c =
    let bytes = c.args.bytes.now in
    let at = c.loop.at in
    let size = c.segment_size-size.result in
    let some : 0 < size = omega (arith, c.if-size-eq0.false) in
    let rest = take_rest bytes at in
    let is : size ≡ segment_size c.args.last (drop at bytes) = c.segment_size-size.ensures.value ∙ ap (segment_size c.args.last) rest in
    let more = markers_more (length bytes) c.loop.counter c.args.last at size bytes c.loop-test.true is some in
    let later = markers_from (length bytes - (c.loop.counter + 1)) c.args.last (drop (at + size) bytes) in
    let marker = big_number 2 (drop at bytes) in
    let read : c.read_u16.result ≡ marker = c.read_u16.ensures ∙ ap (big_number 2) rest in
    record {
      end_is = refl;
      within = omega (arith, c.segment_size-size.ensures.within, ap (λ (x : List ℕ). length x) rest, length-drop at bytes);
      left =
          ap (λ (xs : List ℕ). xs ++ later) (c.in_ok-push.ensures.items ∙ ap (λ m. c.loop.markers.items ++ m ∷ []) read)
          ∙ append_assoc c.loop.markers.items (marker ∷ []) later
          ∙ ap (λ (xs : List ℕ). c.loop.markers.items ++ xs) (sym more)
          ∙ c.loop.invariant.left;
    }

pub returns : goal.returns
returns c =
    let none = markers_end (length c.args.bytes.now) c.loop.counter c.args.last (drop c.loop.at c.args.bytes.now) c.loop-test.false in
    sym (append-nil c.loop.markers.items) ∙ ap (λ (xs : List ℕ). c.loop.markers.items ++ xs) (sym none) ∙ c.loop.invariant.left
