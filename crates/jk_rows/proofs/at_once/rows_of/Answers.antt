use Rattle.std.proofs.Common.{◌≡◌, ℕ, ◌+◌, ◌-◌, ◌*◌, ◌≤◌, ◌<◌, ℤ, List, length, map, take, drop, refl, ap, ◌∙◌, arith}
use Rattle.std.specs.List.{range_with_len}
use Rattle.jk_math.specs.Lists.{list_at}
use Rattle.jk_tile.proofs.Laws.{lists_count, list_long, lists_push, vector_items}
use Rattle.jk_rows.proofs.AtOnceLaws.{rows_cut}
use Rattle.jk_rows.proofs.at_once.rows_of.Goals as goal

fits : (y0 y1 p q w : ℕ) → y0 ≤ p → p ≤ q → q ≤ y1 → (p - y0) * w + (q - p) * w ≤ (y1 - y0) * w
fits y0 y1 p q w low order high =
    let all : y1 - y0 ≡ (p - y0) + (q - p) + (y1 - q) = omega (arith, low, order, high) in
    rw all (sum (p - y0) (q - p) (y1 - q))
  where
    sum : (a b c : ℕ) → a * w + b * w ≤ (a + b + c) * w
    sum a b c = grind arith

pub cut-requires : goal.cut-requires
cut-requires c =
    let a = c.args.area.now in
    let planes = c.args.planes.now in
    let r = c.requires in
    let inside : c.loop-c.c < length planes = omega (arith, c.loop-c-test.true, c.loop-c.auto.c-end) in
    let below : c.loop-c.c < r.planes.0 = omega (arith, inside, lists_count a r.planes.1 r.planes.0 planes r.planes.2) in
    let long = list_long a r.planes.1 r.planes.0 c.loop-c.c planes r.planes.2 below in
    let plane : c.deref.result.now ≡ list_at planes c.loop-c.c = c.deref.ensures.value ∙ vector_items planes c.loop-c.c c.index-planes-c.result inside c.index-planes-c.is in
    let few = fits a.y0 a.y1 c.args.from c.args.to (a.x1 - a.x0) r.from r.order r.to in
    rw plane (rw long few)

pub loop-c-preserved : goal.loop-c-preserved
loop-c-preserved c =
    let a = c.args.area.now in
    let planes = c.args.planes.now in
    let w = a.x1 - a.x0 in
    let front = (c.args.from - a.y0) * w in
    let count = (c.args.to - c.args.from) * w in
    let g : ℕ → List ℤ = λ k. take count (drop front (list_at planes k)) in
    let inside : c.loop-c.c < length planes = omega (arith, c.loop-c-test.true, c.loop-c.auto.c-end) in
    let plane : c.deref.result.now ≡ list_at planes c.loop-c.c = c.deref.ensures.value ∙ vector_items planes c.loop-c.c c.index-planes-c.result inside c.index-planes-c.is in
    let here = c.in_ok-to_vec.ensures.items_if_clones_equal (λ x y e. e) ∙ c.cut.ensures ∙ ap (λ (xs : List ℤ). take count (drop front xs)) plane in
    lists_push g c.loop-c.c c.loop-c.rows.items c.push.new.self.items c.in_ok-to_vec.field-0 c.loop-c.invariant c.in_ok-push.ensures.items here

pub returns-clause-rows : goal.returns-clause-rows
returns-clause-rows c = λ n f are.
    let a = c.args.area.now in
    let planes = c.args.planes.now in
    let w = a.x1 - a.x0 in
    let front = (c.args.from - a.y0) * w in
    let count = (c.args.to - c.args.from) * w in
    let g : ℕ → List ℤ = λ k. take count (drop front (list_at planes k)) in
    let all : c.loop-c.c ≡ length planes = omega (arith, c.loop-c-test.false, c.loop-c.auto.c-end) in
    c.loop-c.invariant ∙ ap (λ k. map g (range_with_len 0 k)) all ∙ rows_cut a c.args.from c.args.to front count n f planes c.requires.from c.requires.order c.requires.to refl refl are
