use Rattle.std.proofs.Common.{ℕ, ◌+◌, ◌-◌, ◌<◌, List, ◌++◌, length, drop, append_assoc, refl, sym, ap, ◌∙◌, arith}
use Rattle.std.proofs.lemmas.List.{append-nil}
use Rattle.jk_marks.specs.Copying.{kept_front, kept_at}
use Rattle.jk_marks.proofs.Appending.{front_then}
use Rattle.jk_marks.proofs.CopyingLoops.{kept_stop, kept_end, kept_more, size_stop, size_end, size_more}
use Rattle.jk_marks.proofs.copying.copy_segments.Goals as goal

pub returns-then-size-eq0-clause-ok : goal.returns-then-size-eq0-clause-ok
returns-then-size-eq0-clause-ok c =
    let bytes = c.args.bytes.now in
    let none = kept_stop (length bytes - c.loop.counter) c.args.last c.args.left_out (drop c.loop.at bytes) (sym c.size_from-size.ensures.value ∙ c.if-size-eq0.true) in
    sym (append-nil c.loop.out.items) ∙ ap (λ (xs : List ℕ). c.loop.out.items ++ xs) (sym none) ∙ c.loop.invariant.left

pub returns-then-size-eq0-clause-size : goal.returns-then-size-eq0-clause-size
returns-then-size-eq0-clause-size c =
    let bytes = c.args.bytes.now in
    let none = size_stop (length bytes - c.loop.counter) c.args.last (drop c.loop.at bytes) (sym c.size_from-size.ensures.value ∙ c.if-size-eq0.true) in
    omega (arith, c.loop.invariant.size, none)

pub loop-preserved : goal.loop-preserved
loop-preserved c =
    let bytes = c.args.bytes.now in
    let at = c.loop.at in
    let size = c.size_from-size.result in
    let some : 0 < size = omega (arith, c.if-size-eq0.false) in
    let more = kept_more (length bytes) c.loop.counter c.args.last c.args.left_out at size bytes c.loop-test.true c.size_from-size.ensures.value some in
    let later = kept_at (length bytes - (c.loop.counter + 1)) c.args.last c.args.left_out (drop (at + size) bytes) in
    let sizes = size_more (length bytes) c.loop.counter c.args.last at size bytes c.loop-test.true c.size_from-size.ensures.value some in
    record {
      end_is = refl;
      within = c.size_from-size.ensures.within;
      left =
          ap (λ (xs : List ℕ). xs ++ later) c.in_ok-copy_front.ensures.ok
          ∙ append_assoc c.loop.out.items (kept_front size c.args.left_out (drop at bytes)) later
          ∙ ap (λ (xs : List ℕ). c.loop.out.items ++ xs) (sym more)
          ∙ c.loop.invariant.left;
      size = omega (arith, sizes, c.loop.invariant.size);
      front = front_then c.loop.invariant.front c.copy_front.ensures.front;
    }

pub returns-clause-ok : goal.returns-clause-ok
returns-clause-ok c =
    let bytes = c.args.bytes.now in
    let none = kept_end (length bytes) c.loop.counter c.args.last c.args.left_out (drop c.loop.at bytes) c.loop-test.false in
    sym (append-nil c.loop.out.items) ∙ ap (λ (xs : List ℕ). c.loop.out.items ++ xs) (sym none) ∙ c.loop.invariant.left

pub returns-clause-size : goal.returns-clause-size
returns-clause-size c = let none = size_end (length c.args.bytes.now) c.loop.counter c.args.last (drop c.loop.at c.args.bytes.now) c.loop-test.false in omega (arith, c.loop.invariant.size, none)
