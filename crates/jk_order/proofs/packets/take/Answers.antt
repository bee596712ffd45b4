-- The first stream's next packet is the next of all; the stream moves on, or is finished.
use Rattle.std.proofs.Common.{◌≡◌, ℕ, ◌<◌, Bool, true, false, List, length, get_or, subst, sym, ◌∙◌, arith}
use Rattle.std.specs.Prelude.{◌==◌}
use Rattle.std.proofs.lemmas.Bool.{eqb-true, eqb-false}
use Rattle.jk_order.specs.Queue.{IsQueue}
use Rattle.jk_order.proofs.Leaving.{left_none, left_next, advanced}
use Rattle.jk_order.proofs.Queueing.{first_least, none_next, moved_ascends, moved_queue, queue_numbers}
use Rattle.jk_order.proofs.packets.take.Goals as goal

is_some : (queue : List ℕ) (b : Bool) → b ≡ (length queue == 0) → 0 < length queue → b ≡ true → ⊥
is_some queue b is some e = let none = eqb-true (length queue) 0 (sym is ∙ e) in omega arith

some_of : (queue : List ℕ) (b : Bool) → b ≡ (length queue == 0) → b ≡ false → 0 < length queue
some_of queue b is e = let some = eqb-false (length queue) 0 (sym is ∙ e) in omega arith

pub returns-then-is_empty-clause-gives : goal.returns-then-is_empty-clause-gives
returns-then-is_empty-clause-gives c =
    left_none c.args.frame.now c.args.streams.now c.args.heads.now c.requires.walk
    (none_next c.args.heads.now c.args.queue.now c.requires.queue (λ some. absurd (is_some c.args.queue.now c.is_empty.result c.is_empty.ensures some c.if-is_empty.true)))

pub returns-then-head-ge-FINISHED-clause-gives : goal.returns-then-head-ge-FINISHED-clause-gives
returns-then-head-ge-FINISHED-clause-gives c =
    left_none c.args.frame.now c.args.streams.now c.args.heads.now c.requires.walk
    (none_next c.args.heads.now c.args.queue.now c.requires.queue (λ some. omega arith))

pub returns-clause-kept : goal.returns-clause-kept
returns-clause-kept c =
    (advanced c.args.frame.now c.args.streams.now c.args.heads.now (get_or c.args.queue.now 0 0) c.requires.walk (queue_numbers c.args.heads.now c.args.queue.now 0 c.requires.queue (some_of c.args.queue.now c.is_empty.result c.is_empty.ensures c.if-is_empty.false)) (λ e. omega arith) _ _ c.advance.ensures).0

pub put_back-requires-clause-ascends : goal.put_back-requires-clause-ascends
put_back-requires-clause-ascends c =
    moved_ascends c.args.heads.now c.args.queue.now c.advance.result (some_of c.args.queue.now c.is_empty.result c.is_empty.ensures c.if-is_empty.false) c.requires.queue

pub returns-clause-queue : goal.returns-clause-queue
returns-clause-queue c =
    subst (IsQueue 0 _) (sym c.put_back.ensures) (moved_queue c.args.heads.now c.args.queue.now c.advance.result (some_of c.args.queue.now c.is_empty.result c.is_empty.ensures c.if-is_empty.false) c.requires.queue)

pub returns-clause-gives : goal.returns-clause-gives
returns-clause-gives c =
    let f = c.args.frame.now in
    let ss = c.args.streams.now in
    let hs = c.args.heads.now in
    let i = get_or c.args.queue.now 0 0 in
    let low = queue_numbers hs c.args.queue.now 0 c.requires.queue (some_of c.args.queue.now c.is_empty.result c.is_empty.ensures c.if-is_empty.false) in
    let m = advanced f ss hs i c.requires.walk low (λ e. omega arith) _ _ c.advance.ensures in
    left_next f ss hs i c.requires.walk low (λ e. omega arith) (first_least hs c.args.queue.now c.requires.queue (omega arith)) _ _ m.1
