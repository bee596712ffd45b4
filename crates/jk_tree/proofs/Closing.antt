-- Leaves under a node that isn't below the threshold: a query about one says nothing.
use Rattle.std.proofs.Common.{◌≡◌, ℕ, zero, suc, ◌+◌, ◌-◌, ◌*◌, ◌/◌, ◌%◌, ◌^◌, ◌<◌, ◌≤◌, true, false, List, Option, Some, None, Ok, refl, sym, ap, ◌∙◌, subst, inl, inr, arith}
use Rattle.std.specs.Prelude.{is_some}
use Rattle.std.proofs.lemmas.Bool.{cases_lt}
use Rattle.std.proofs.lemmas.List.{set-get_or}
use Rattle.std.proofs.lemmas.Nat.{le-div, div_below, mod_below, div-add-mod', pow_below, shr-shr}
use Rattle.std.proofs.Math.Nat.{div-mul-le_self}
use Rattle.std.proofs.Math.Pow.{pow_pos}
use Rattle.jk_math.specs.declared.fault.Fault.{Fault}
use Rattle.jk_bits.specs.Reading.{Bits}
use Rattle.jk_tree.specs.TagTree.{Shape, top, node_number, column, row, Query, query_of}
use Rattle.jk_tree.specs.declared.node.Node.{Node}
use Rattle.jk_tree.specs.Asking.{node_at, over_leaf, walk, IsClosed, IsKnown, TagTreeRead, ask_at}
use Rattle.jk_tree.proofs.Visits.{visit_stays}
use Rattle.jk_tree.proofs.Walks.{walk_on, walk_stop}
use Rattle.jk_tree.proofs.Answering.{ask_at-ok}

-- numbers in one square of a level
pub in_square : (a x i : ℕ) → a ≤ x → x < (a / 2 ^ i + 1) * 2 ^ i → x / 2 ^ i ≡ a / 2 ^ i
in_square a x i from to =
    let some = pow_pos i in
    let low = div-mul-le_self a (2 ^ i) in
    let least = le-div (a / 2 ^ i) x (2 ^ i) some (omega (arith, low, from)) in
    let most = div_below x (2 ^ i) (a / 2 ^ i + 1) some to in
    omega (arith, least, most)

-- the first number behind a square
spread : (q m : ℕ) → (q + 1) * m ≡ q * m + m
spread q m = grind arith

pub next_square : (a i : ℕ) → a < (a / 2 ^ i + 1) * 2 ^ i
next_square a i = (let e = div-add-mod' a (2 ^ i) in let less = mod_below a (2 ^ i) (pow_pos i) in let d = spread (a / 2 ^ i) (2 ^ i) in omega (arith, e, less, d))

pub square_fits : (a i : ℕ) → a < 65536 → i ≤ 16 → (a / 2 ^ i + 1) * 2 ^ i % 4294967296 ≡ (a / 2 ^ i + 1) * 2 ^ i
square_fits a i small level =
    let low = div-mul-le_self a (2 ^ i) in
    let most = pow_most i level in
    let d = spread (a / 2 ^ i) (2 ^ i) in
    mod_small ((a / 2 ^ i + 1) * 2 ^ i) (omega (arith, low, most, d, small))
  where
    mod_small : (n : ℕ) → n < 4294967296 → n % 4294967296 ≡ n
    mod_small n h = omega (arith, h)

    pow_most : (i : ℕ) → i ≤ 16 → 2 ^ i ≤ 65536
    pow_most i h = elim (cases_lt i 16) [
      | inl less ↦ (let p : 2 ^ i < 65536 = pow_below i 16 less in omega (arith, p))
      | inr at ↦ (let e : i ≡ 16 = omega (arith, h, at) in let p : 2 ^ i ≡ 65536 = ap (λ k. 2 ^ k) e in omega (arith, p))
    ]

higher : (a i more : ℕ) → a / 2 ^ (i + more) ≡ a / 2 ^ i / 2 ^ more
higher a i more = sym (shr-shr a i more)

-- so they are in one square of each level above
pub in_squares : (a x i j : ℕ) → i ≤ j → x / 2 ^ i ≡ a / 2 ^ i → x / 2 ^ j ≡ a / 2 ^ j
in_squares a x i j up e =
    let at : i + (j - i) ≡ j = omega (arith, up) in
    ap (λ k. x / 2 ^ k) (sym at) ∙ higher x i (j - i) ∙ ap (λ n. n / 2 ^ (j - i)) e ∙ sym (higher a i (j - i)) ∙ ap (λ k. a / 2 ^ k) at

pub same_over : (s : Shape) (nodes : List Node) (i x y x' y' : ℕ) → x' / 2 ^ i ≡ x / 2 ^ i → y' / 2 ^ i ≡ y / 2 ^ i → over_leaf s nodes i x y ≡ over_leaf s nodes i x' y'
same_over s nodes i x y x' y' e f = sym (ap (λ a. node_at nodes (node_number s i a (y' / 2 ^ i))) e ∙ ap (λ b. node_at nodes (node_number s i (x / 2 ^ i) b)) f)

-- All leaves under that node are closed.
pub closed_with : (s : Shape) (nodes : List Node) (t i x y x' y' : ℕ) → IsClosed s nodes t i x y → x' / 2 ^ i ≡ x / 2 ^ i → y' / 2 ^ i ≡ y / 2 ^ i → IsClosed s nodes t i x' y'
closed_with s nodes t i x y x' y' c e f = record {
  level = c.level;
  above = λ j over within.
      let n = same_over s nodes j x y x' y' (in_squares x x' i j (omega (arith, over)) e) (in_squares y y' i j (omega (arith, over)) f) in
      let a = c.above j over within in
      subst (λ (z : Node). (z.known ≡ true) × (z.low < t)) n a;
  unknown = subst (λ (z : Node). z.known ≡ false) (same_over s nodes i x y x' y' e f) c.unknown;
  high = subst (λ (z : Node). t ≤ z.low) (same_over s nodes i x y x' y' e f) c.high;
}

-- the walk of a query about a closed leaf, from a level above the node or from that node
closed_walk : (s : Shape) (q : Query) (nodes : List Node) (r : Bits) (i : ℕ) → IsClosed s nodes q.threshold i (q.leaf % s.width) (q.leaf / s.width) → (more over : ℕ) → i + more ≤ top s
    → walk s q (suc (i + more)) over nodes r ≡ Ok (false, (nodes, r))
closed_walk s q nodes r i c zero over level =
    let at : suc (i + 0) ≡ suc i = omega arith in
    let p = node_number s i (column s q.leaf i) (row s q.leaf i) in
    ap (λ k. walk s q k over nodes r) at
    ∙ walk_stop s q i over nodes r (node_at nodes p) r (visit_stays (node_at nodes p) over q.threshold r (inr c.high)) c.high
    ∙ ap (λ (ns : List Node). Ok (false, (ns, r))) (set-get_or nodes p _)
closed_walk s q nodes r i c (suc more) over level =
    let at : suc (i + suc more) ≡ suc (suc (i + more)) = omega arith in
    let k = suc (i + more) in
    let p = node_number s k (column s q.leaf k) (row s q.leaf k) in
    let a = c.above k (omega arith) (omega (arith, level)) in
    ap (λ k. walk s q k over nodes r) at
    ∙ walk_on s q k over nodes r (node_at nodes p) r (visit_stays (node_at nodes p) over q.threshold r (inl a.0)) a.1
    ∙ ap (λ (ns : List Node). walk s q k (node_at nodes p).low ns r) (set-get_or nodes p _)
    ∙ closed_walk s q nodes r i c more (node_at nodes p).low (omega (arith, level))

-- A query about a closed leaf says nothing, and leaves all as it is.
pub closed_silent : (t : TagTreeRead) (q : Query) (i : ℕ) → t.failed ≡ None → IsClosed t.shape t.nodes q.threshold i (q.leaf % t.shape.width) (q.leaf / t.shape.width) → (r : Bits) → ask_at q (t, r) ≡ Ok (false, (t, r))
closed_silent t q i none c r =
    let l = c.level in
    let at : suc (i + (top t.shape - i)) ≡ top t.shape + 1 = omega (arith, l) in
    ask_at-ok q t r (false, (t.nodes, r)) none (ap (λ k. walk t.shape q k 0 t.nodes r) (sym at) ∙ closed_walk t.shape q t.nodes r i c (top t.shape - i) 0 (omega (arith, l)))

pub closed_unknown : (s : Shape) (nodes : List Node) (t leaf i : ℕ) → IsClosed s nodes t i (leaf % s.width) (leaf / s.width) → IsKnown s nodes leaf → ⊥
closed_unknown s nodes t leaf i c known = let f : true ≡ false = sym (known i c.level) ∙ c.unknown in cc

-- Closed leaves, counted in raster order.
abbrev pub AreClosed : Shape → List Node → (t from to : ℕ) → Type 0
AreClosed s nodes t from to = (leaf : ℕ) → from ≤ leaf → leaf < to → (i : ℕ) × IsClosed s nodes t i (leaf % s.width) (leaf / s.width)

-- those of a run behind them in the same row
pub run_in_row : (s : Shape) (nodes : List Node) (t from row column end below : ℕ) → column < s.width → end ≤ s.width → row < below
    → AreClosed s nodes t from (row * s.width + column) → ((x y : ℕ) → column ≤ x → x < end → row ≤ y → y < below → (i : ℕ) × IsClosed s nodes t i x y)
    → AreClosed s nodes t from (row * s.width + end)
run_in_row s nodes t from row column end below within most deep before run leaf least less =
    elim (cases_lt leaf (row * s.width + column)) [
      | inl under ↦ before leaf least under
      | inr behind ↦
          let w = s.width in
          let some : 0 < w = omega (arith, within) in
          let parts = div-add-mod' leaf w in
          let low = le-div row leaf w some (omega (arith, behind)) in
          let high = div_below leaf w (row + 1) some (let d = spread row w in omega (arith, d, less, most)) in
          let at : leaf / w ≡ row = omega (arith, low, high) in
          let same : leaf / w * w ≡ row * w = ap (λ n. n * w) at in
          run (leaf % w) (leaf / w) (omega (arith, parts, same, behind)) (omega (arith, parts, same, less)) low (omega (arith, at, deep))
    ]

-- those of a run of whole rows
pub run_of_rows : (s : Shape) (nodes : List Node) (t from row end below : ℕ) → 0 < s.width → s.width ≤ end
    → AreClosed s nodes t from (row * s.width + 0) → ((x y : ℕ) → 0 ≤ x → x < end → row ≤ y → y < below → (i : ℕ) × IsClosed s nodes t i x y)
    → AreClosed s nodes t from (below * s.width + 0)
run_of_rows s nodes t from row end below some whole before run leaf least less =
    elim (cases_lt leaf (row * s.width + 0)) [
      | inl under ↦ before leaf least under
      | inr behind ↦
          let w = s.width in
          let low = le-div row leaf w some (omega (arith, behind)) in
          let high = div_below leaf w below some (omega (arith, less)) in
          let inside = mod_below leaf w some in
          run (leaf % w) (leaf / w) (omega arith) (omega (arith, inside, whole)) low high
    ]

no_fault : (f : Option Fault) → is_some f ≡ false → f ≡ None
no_fault None h = refl
no_fault (Some e) h = absurd (cc)

pub closed_asks : (t : TagTreeRead) (seen : TagTreeRead) (threshold from to : ℕ) → t ≡ seen → is_some t.failed ≡ false → AreClosed t.shape t.nodes threshold from to
    → (leaf : ℕ) → from ≤ leaf → leaf < to → (r : Bits) → ask_at (query_of leaf threshold) (seen, r) ≡ Ok (false, (seen, r))
closed_asks t seen threshold from to same none closed leaf least less r =
    let c = closed leaf least less in
    subst (λ (x : TagTreeRead). ask_at (query_of leaf threshold) (x, r) ≡ Ok (false, (x, r))) same (closed_silent t (query_of leaf threshold) c.0 (no_fault t.failed none) c.1 r)

pub closed_all_unknown : (t : TagTreeRead) (seen : TagTreeRead) (threshold from to : ℕ) → t ≡ seen → AreClosed t.shape t.nodes threshold from to
    → (leaf : ℕ) → from ≤ leaf → leaf < to → IsKnown seen.shape seen.nodes leaf → ⊥
closed_all_unknown t seen threshold from to same closed leaf least less known =
    let c = closed leaf least less in
    closed_unknown t.shape t.nodes threshold leaf c.0 c.1 (subst (λ (x : TagTreeRead). IsKnown x.shape x.nodes leaf) (sym same) known)
