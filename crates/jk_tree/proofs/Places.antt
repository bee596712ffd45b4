-- Where nodes stand: each at a place of its own, and the way from the root to a leaf.
use Rattle.std.proofs.Common.{◌≡◌, ℕ, zero, suc, ◌+◌, ◌-◌, ◌*◌, ◌/◌, ◌%◌, ◌^◌, ◌<◌, ◌≤◌, true, sym, ap, ◌∙◌, subst, inl, inr, arith}
use Rattle.std.specs.Prelude.{◌&&◌, ◌==◌}
use Rattle.std.proofs.lemmas.Bool.{cases_order, and_parts}
use Rattle.std.proofs.lemmas.Bool.Decides.{nat_tests}
use Rattle.std.proofs.lemmas.Nat.{le-div, mul-add-lt, same_from_place, shr-shr, mod_below, div_below, div-add-mod'}
use Rattle.std.proofs.Math.Nat.{div-mul-le_self, pow-suc, mul_comm}
use Rattle.std.proofs.Math.Pow.{pow_pos}
use Rattle.jk_tree.specs.TagTree.{Shape, wide, top, start, node_number, count, column, row, IsNode, passes}

pub wide_from : (n i x : ℕ) → x * 2 ^ i < n → x < wide n i
unfolding wide
wide_from n i x h =
    let one = pow_pos i in
    let fits : (x + 1) * 2 ^ i ≤ n + 2 ^ i - 1 = omega (arith, h, one) in
    omega (arith, le-div (x + 1) (n + 2 ^ i - 1) (2 ^ i) one fits)

times_le : (a b m : ℕ) → a ≤ b → a * m ≤ b * m
times_le a b m h = grind arith

pub wide_to : (n i x : ℕ) → x < wide n i → x * 2 ^ i < n
unfolding wide
wide_to n i x h =
    let one = pow_pos i in
    let m = 2 ^ i in
    let q = (n + m - 1) / m in
    let low : q * m ≤ n + m - 1 = div-mul-le_self (n + m - 1) m in
    let more : (x + 1) * m ≤ q * m = times_le (x + 1) q m (omega (arith, h)) in
    omega (arith, low, more, one)

-- a leaf is under a node of each level
pub under : (n i x : ℕ) → x < n → x / 2 ^ i < wide n i
under n i x h = wide_from n i (x / 2 ^ i) (let low = div-mul-le_self x (2 ^ i) in omega (arith, low, h))

swapped : (h m : ℕ) → h * (m * 2) ≡ h * 2 * m
swapped h m = grind arith

half_times : (h x m : ℕ) → h * 2 ≤ x → h * (m * 2) ≤ x * m
half_times h x m e = omega (arith, times_le (h * 2) x m e, swapped h m)

-- the node above is there
pub wide_up : (n i x : ℕ) → x < wide n i → x / 2 < wide n (i + 1)
wide_up n i x h =
    let m = 2 ^ i in
    let fits = wide_to n i x h in
    let twice : 2 ^ (i + 1) ≡ m * 2 = ap (λ k. 2 ^ k) (let e : i + 1 ≡ suc i = omega arith in e) ∙ pow-suc 2 i in
    let halves : x / 2 * (m * 2) ≤ x * m = half_times (x / 2) x m (omega arith) in
    wide_from n (i + 1) (x / 2) (subst (λ p. x / 2 * p < n) (sym twice) (omega (arith, halves, fits)))

pub start_mono : (s : Shape) (i more : ℕ) → start s i ≤ start s (i + more)
unfolding start
start_mono s i zero = ap_le (start s) i (i + 0) (omega arith)
  where
    ap_le : (f : ℕ → ℕ) (a b : ℕ) → a ≡ b → f a ≤ f b
    ap_le f a b e = let same = ap f e in omega (arith, same)
start_mono s i (suc more) =
    let at : i + suc more ≡ suc (i + more) = omega arith in
    let next : start s (i + suc more) ≡ start s (i + more) + wide s.width (i + more) * wide s.height (i + more) = ap (start s) at in
    omega (arith, next, start_mono s i more)

pub place_from : (s : Shape) (i x y : ℕ) → start s i ≤ node_number s i x y
unfolding node_number
place_from s i x y = omega arith

pub place_below : (s : Shape) (i x y : ℕ) → IsNode s i x y → node_number s i x y < start s (suc i)
unfolding node_number start
place_below s i x y n =
    let fits = mul-add-lt y (wide s.width i) x (wide s.height i) n.down n.across in
    omega (arith, fits)

same_in : (s : Shape) (i x y u v : ℕ) → IsNode s i x y → IsNode s i u v → node_number s i x y ≡ node_number s i u v → (x ≡ u) × (y ≡ v)
unfolding node_number
same_in s i x y u v n m e =
    let level : y * wide s.width i + x ≡ v * wide s.width i + u = omega (arith, e) in
    let both = same_from_place y x v u (wide s.width i) n.across m.across level in
    (both.1, both.0)

-- Each node has a place of its own.
pub same_place : (s : Shape) (i x y j u v : ℕ) → IsNode s i x y → IsNode s j u v → node_number s i x y ≡ node_number s j u v → (i ≡ j) × (x ≡ u) × (y ≡ v)
same_place s i x y j u v n m e =
    elim (cases_order i j) [
      | inl same ↦ in_level same
      | inr other ↦ elim other [
        | inl less ↦ absurd (apart i x y j u v n less e)
        | inr more ↦ absurd (apart j u v i x y m more (sym e))
      ]
    ]
  where
    apart : (i x y j u v : ℕ) → IsNode s i x y → i < j → node_number s i x y ≡ node_number s j u v → ⊥
    apart i x y j u v n less e =
        let grows = start_mono s (suc i) (j - suc i) in
        let at : start s (suc i + (j - suc i)) ≡ start s j = ap (start s) (let k : suc i + (j - suc i) ≡ j = omega (arith, less) in k) in
        let below = place_below s i x y n in
        let from = place_from s j u v in
        omega (arith, grows, at, below, from, e)

    in_level : i ≡ j → (i ≡ j) × (x ≡ u) × (y ≡ v)
    in_level same =
        let m' : IsNode s i u v = subst (λ k. IsNode s k u v) (sym same) m in
        let e' : node_number s i x y ≡ node_number s i u v = e ∙ ap (λ k. node_number s k u v) (sym same) in
        let both = same_in s i x y u v n m' e' in
        (same, both.0, both.1)

-- A node is among all nodes.
pub place_counted : (s : Shape) (i x y : ℕ) → IsNode s i x y → node_number s i x y < count s
place_counted s i x y n =
    let grows = start_mono s (suc i) (top s - i) in
    let at : start s (suc i + (top s - i)) ≡ start s (top s + 1) = ap (start s) (let k : suc i + (top s - i) ≡ top s + 1 = omega (arith, n.level) in k) in
    let below = place_below s i x y n in
    omega (arith, grows, at, below)

width_some : (leaf w h : ℕ) → leaf < w * h → 0 < w
width_some leaf zero h less = absurd (let none : 0 * h ≡ 0 = omega arith in omega (arith, less, none))
width_some leaf (suc w) h less = omega arith

-- the nodes over a leaf
pub path_node : (s : Shape) (leaf i : ℕ) → leaf < s.width * s.height → i ≤ top s → IsNode s i (column s leaf i) (row s leaf i)
path_node s leaf i less level =
    let some = width_some leaf s.width s.height less in
    record {
      level = level;
      across = under s.width i (leaf % s.width) (mod_below leaf s.width some);
      down = under s.height i (leaf / s.width) (div_below leaf s.width s.height some (subst (λ n. leaf < n) (mul_comm s.width s.height) less));
    }

pub column_up : (s : Shape) (leaf i : ℕ) → column s leaf i / 2 ≡ column s leaf (i + 1)
column_up s leaf i = shr-shr (leaf % s.width) i 1

pub row_up : (s : Shape) (leaf i : ℕ) → row s leaf i / 2 ≡ row s leaf (i + 1)
row_up s leaf i = shr-shr (leaf / s.width) i 1

pub up_node : (s : Shape) (i x y : ℕ) → IsNode s i x y → i < top s → IsNode s (i + 1) (x / 2) (y / 2)
up_node s i x y n less = record { level = omega (arith, less); across = wide_up s.width i x n.across; down = wide_up s.height i y n.down }

over_one : (n : ℕ) → n / 2 ^ 0 ≡ n
over_one n = let e : n / 1 ≡ n = omega arith in e

-- A leaf's own place is its number.
pub place_leaf : (s : Shape) (leaf : ℕ) → node_number s 0 (column s leaf 0) (row s leaf 0) ≡ leaf
unfolding node_number start wide
place_leaf s leaf =
    let w = s.width in
    let wide_is : (w + 2 ^ 0 - 1) / 2 ^ 0 ≡ w = over_one (w + 1 - 1) ∙ omega arith in
    ap (λ n. 0 + leaf / w / 2 ^ 0 * n + leaf % w / 2 ^ 0) wide_is
    ∙ ap (λ n. 0 + n * w + leaf % w / 2 ^ 0) (over_one (leaf / w))
    ∙ ap (λ n. 0 + leaf / w * w + n) (over_one (leaf % w))
    ∙ (let e = div-add-mod' leaf w in omega (arith, e))

-- the test for a node on the way
pub passes_at : (s : Shape) (leaf i x y : ℕ) → passes s leaf i x y ≡ true → (column s leaf i ≡ x) × (row s leaf i ≡ y)
passes_at s leaf i x y h =
    let both = and_parts (column s leaf i == x) (row s leaf i == y) h in
    (grind (arith, nat_tests), grind (arith, nat_tests))

pub passes_own : (s : Shape) (leaf i : ℕ) → passes s leaf i (column s leaf i) (row s leaf i) ≡ true
passes_own s leaf i = own (column s leaf i) (row s leaf i)
  where
    own : (a b : ℕ) → ((a == a) && (b == b)) ≡ true
    own a b = grind (arith, nat_tests)

-- The node of a level over leaf (x, y): where it stands, among nodes of which the level above begins there.
pub record StandsOver (s : Shape) (i x y start_above : ℕ) : Type 0 where
  pub level_fits : wide s.width i * wide s.height i ≤ start_above
  pub start_is : start_above - wide s.width i * wide s.height i ≡ start s i
  pub place_is : start_above - wide s.width i * wide s.height i + y / 2 ^ i * wide s.width i + x / 2 ^ i ≡ node_number s i (x / 2 ^ i) (y / 2 ^ i)
  pub within : node_number s i (x / 2 ^ i) (y / 2 ^ i) < count s
  pub below : node_number s i (x / 2 ^ i) (y / 2 ^ i) < start_above

pub stands_over : (s : Shape) (i x y start_above : ℕ) → i ≤ top s → x < s.width → y < s.height → start_above ≡ start s (i + 1) → StandsOver s i x y start_above
unfolding start node_number
stands_over s i x y start_above level across down e =
    let n : IsNode s i (x / 2 ^ i) (y / 2 ^ i) = record { level = level; across = under s.width i x across; down = under s.height i y down } in
    let next : start_above ≡ start s i + wide s.width i * wide s.height i = e ∙ ap (start s) (let k : i + 1 ≡ suc i = omega arith in k) in
    let low = place_below s i (x / 2 ^ i) (y / 2 ^ i) n in
    record {
      level_fits = omega (arith, next);
      start_is = omega (arith, next);
      place_is = ap (λ k. k + y / 2 ^ i * wide s.width i + x / 2 ^ i) (let k : start_above - wide s.width i * wide s.height i ≡ start s i = omega (arith, next) in k);
      within = place_counted s i (x / 2 ^ i) (y / 2 ^ i) n;
      below = omega (arith, low, next);
    }

pub leaf_counted : (s : Shape) (leaf : ℕ) → leaf < s.width * s.height → leaf < count s
leaf_counted s leaf less = subst (λ p. p < count s) (place_leaf s leaf) (place_counted s 0 (column s leaf 0) (row s leaf 0) (path_node s leaf 0 less (omega arith)))
