use Rattle.std.proofs.Common.{◌≡◌, ℕ, ◌+◌, ◌-◌, List, [], ◌∷◌, ◌++◌, length, drop, Some, None, append_assoc, refl, sym, ap, ◌∙◌, arith}
use Rattle.std.proofs.lemmas.List.{take_rest, append-nil, length-drop}
use Rattle.jk_commands.specs.BoxList.{box_named, boxes_from}
use Rattle.jk_commands.proofs.WalkLoops.{boxes_stop, boxes_end, boxes_more}
use Rattle.jk_commands.proofs.box_list.boxes.Goals as goal

pub returns-in_default : goal.returns-in_default
returns-in_default c =
    let file = c.args.file.now in
    let none : box_named (drop c.loop.at file) ≡ None = ap box_named (sym (take_rest file c.loop.at)) ∙ sym c.in_default.ensures.value in
    let left = boxes_stop (length file - c.loop.counter) (drop c.loop.at file) none in
    sym (append-nil c.loop.boxes.items) ∙ ap (λ (xs : List (ℕ × ℕ)). c.loop.boxes.items ++ xs) (sym left) ∙ c.loop.invariant.left

pub loop-preserved : goal.loop-preserved
loop-preserved c =
    let file = c.args.file.now in
    let at = c.loop.at in
    let b : ℕ × ℕ = (c.in-Some.kind, c.in-Some.size) in
    let rest = take_rest file at in
    let named : box_named (drop at file) ≡ Some b = ap box_named (sym rest) ∙ sym c.in-Some.ensures.value in
    let more = boxes_more (length file) c.loop.counter at b file c.loop-test.true named in
    let later = boxes_from (length file - (c.loop.counter + 1)) (drop (at + b.1) file) in
    record {
      end_is = refl;
      within = omega (arith, c.in-Some.ensures.within, ap (λ (x : List ℕ). length x) rest, length-drop at file);
      left =
          ap (λ (xs : List (ℕ × ℕ)). xs ++ later) c.in_ok-push.ensures.items
          ∙ append_assoc c.loop.boxes.items (b ∷ []) later
          ∙ ap (λ (xs : List (ℕ × ℕ)). c.loop.boxes.items ++ xs) (sym more)
          ∙ c.loop.invariant.left;
    }

pub returns : goal.returns
returns c =
    let none = boxes_end (length c.args.file.now) c.loop.counter (drop c.loop.at c.args.file.now) c.loop-test.false in
    sym (append-nil c.loop.boxes.items) ∙ ap (λ (xs : List (ℕ × ℕ)). c.loop.boxes.items ++ xs) (sym none) ∙ c.loop.invariant.left
