-- Intervals of numbers that are found one after another have the numbers of all packets that are kept.
use Rattle.std.proofs.Common.{◌≡◌, ℕ, ◌+◌, ◌-◌, ◌*◌, ◌/◌, ◌%◌, ◌<◌, ◌≤◌, ◌⊎◌, ◌↔◌, inl, inr, min, Bool, true, false, not, cond, nat_lt, List, [], ◌∷◌, ◌++◌, length, get_or, Some, refl, sym, ap, ◌∙◌, subst, arith}
use Rattle.std.specs.Prelude.{slice_get, ◌&&◌}
use Rattle.std.specs.List.Sorted.{IsPermutation}
use Rattle.std.proofs.Math.Nat.{div-mul-le_self, lt-div-mul-add}
use Rattle.std.proofs.lemmas.Bool.{cases_lt, lt-ltb, ltb-true, le-ltb}
use Rattle.jk_marks.specs.declared.coding.Coding.{Coding}
use Rattle.jk_geom.specs.declared.shape.PacketName.{PacketName}
use Rattle.jk_geom.specs.declared.shape.TileShape.{TileShape}
use Rattle.jk_geom.specs.Rectangles.{is_empty}
use Rattle.jk_geom.specs.Precincts.{precincts_across, precincts_down, precinct_number}
use Rattle.jk_geom.specs.TileShapes.{coding_of, no_coding}
use Rattle.jk_order.specs.PacketOrder.{IsName, order}
use Rattle.jk_window.specs.declared.contents.TileCut.{TileCut}
use Rattle.jk_window.specs.declared.intervals.Precincts.{Precincts}
use Rattle.jk_window.specs.declared.rows.NeededPrecincts.{NeededPrecincts}
use Rattle.jk_window.specs.Needs.{needs}
use Rattle.jk_window.specs.NeededNumbers.{IsIn, columns_in, rows_in, numbers_in, AreNeeded, AreNeededNumbers}
use Rattle.jk_window.specs.Cutting.{wanted, layers_kept}
use Rattle.jk_window.specs.Numbered.{AreWanted, Adds, ArePrecincts, IsOf, IsNeeded, IsNeededIn, IsNeededOf}
use Rattle.jk_window.proofs.Among.{any_none, any_first, any_pushed, any_moved}
use Rattle.jk_window.proofs.NumberedNames.{number_once, number_names}
use Rattle.jk_window.proofs.PlanLaws.{get_same}
use Rattle.jk_window.proofs.NeededRows.{row_covered, number_row}
use Rattle.std.proofs.lemmas.List.Sorted.{IsPermutation-sym}
use Rattle.std.proofs.lemmas.List.Quantifiers.{Any-push}

-- ---- adding in general

pub adds_none : (s : TileShape) (xs : List (ℕ × ℕ)) (P : PacketName → Type 0) → ((n : PacketName) → IsName s n → P n → ⊥) → Adds s xs xs P
adds_none s xs P never i n e = (
  (λ h. inl h),
  (λ h. elim h [ inl here ↦ here | inr p ↦ absurd (never n (number_names s i n e) p) ]),
)

pub adds_push : (s : TileShape) (xs : List (ℕ × ℕ)) (y : ℕ × ℕ) (P : PacketName → Type 0) → ((i : ℕ) (n : PacketName) → slice_get (order s) i ≡ Some n → IsIn y i ↔ P n) → Adds s xs (xs ++ y ∷ []) P
adds_push s xs y P one i n e = (
  (λ h. elim (any_pushed (λ (t : ℕ × ℕ). IsIn t i) xs y h) [ inl before ↦ inl before | inr here ↦ inr ((one i n e).0 here) ]),
  (λ h. elim h [
    | inl before ↦ any_first (λ (t : ℕ × ℕ). IsIn t i) xs y before
    | inr p ↦ Any-push (λ (t : ℕ × ℕ). IsIn t i) xs y ((one i n e).1 p)
  ]),
)

pub adds_more : (s : TileShape) (old mid new : List (ℕ × ℕ)) (P Q R : PacketName → Type 0) → Adds s old mid P → Adds s mid new Q → ((n : PacketName) → IsName s n → (P n ⊎ Q n) ↔ R n) → Adds s old new R
adds_more s old mid new P Q R a b both i n e =
    let is = number_names s i n e in (
      (λ h. elim ((b i n e).0 h) [
        | inl before ↦ elim ((a i n e).0 before) [ inl first ↦ inl first | inr p ↦ inr ((both n is).0 (inl p)) ]
        | inr q ↦ inr ((both n is).0 (inr q))
      ]),
      (λ h. elim h [
        | inl first ↦ (b i n e).1 (inl ((a i n e).1 (inl first)))
        | inr r ↦ elim ((both n is).1 r) [ inl p ↦ (b i n e).1 (inl ((a i n e).1 (inr p))) | inr q ↦ (b i n e).1 (inr q) ]
      ]),
    )

pub adds_same : (s : TileShape) (old new : List (ℕ × ℕ)) (P Q : PacketName → Type 0) → Adds s old new P → ((n : PacketName) → IsName s n → P n ↔ Q n) → Adds s old new Q
adds_same s old new P Q a same i n e =
    let is = number_names s i n e in (
      (λ h. elim ((a i n e).0 h) [ inl first ↦ inl first | inr p ↦ inr ((same n is).0 p) ]),
      (λ h. elim h [ inl first ↦ (a i n e).1 (inl first) | inr q ↦ (a i n e).1 (inr ((same n is).1 q)) ]),
    )

-- ---- precincts that follow one another

-- those of them with these numbers, and in so many layers
abbrev pub precincts_with : Precincts → ℕ × ℕ → ℕ → Precincts
precincts_with p numbers layers = record { component = p.component; resolution = p.resolution; numbers = numbers; layers = layers }

abbrev pub name_in : Precincts → (l k : ℕ) → PacketName
name_in p l k = record { layer = l; resolution = p.resolution; component = p.component; precinct = k }

-- layers stand together
abbrev pub LayersStand : TileShape → Type 0
LayersStand s = (n : PacketName) (i m : ℕ) → IsName s n → n.layer + m < s.layers → slice_get (order s) i ≡ Some n
    → slice_get (order s) (i + m) ≡ Some (record n { layer = n.layer + m })

-- precincts stand together
abbrev pub PrecinctsStand : TileShape → Type 0
PrecinctsStand s = (n : PacketName) (i m : ℕ) → IsName s n
    → n.precinct + m < precinct_number s.rect (coding_of s.codings n.component) n.resolution → slice_get (order s) i ≡ Some n
    → slice_get (order s) (i + m) ≡ Some (record n { precinct = n.precinct + m })

some_name : (a b : PacketName) → Some a ≡ Some b → a ≡ b
some_name a b e = cc

-- the packets of a precinct's first layers
pub layers_of_one : (s : TileShape) (p : Precincts) (k a : ℕ) → LayersStand s → ArePrecincts s p → IsName s (name_in p 0 k) → slice_get (order s) a ≡ Some (name_in p 0 k)
    → (i : ℕ) (n : PacketName) → slice_get (order s) i ≡ Some n → IsIn (a, a + p.layers) i ↔ IsOf (precincts_with p (k, k + 1) p.layers) n
layers_of_one s p k a stand are is first i n e = (
  (λ h. (
      let few = are.layers in
      let m = i - a in
      let there : a + m ≡ i = omega (arith, h) in
      let name = name_in p (0 + m) k in
      let at : slice_get (order s) (a + m) ≡ Some name = stand (name_in p 0 k) a m is (omega (arith, h, few)) first in
      let own : n ≡ name = some_name n name (sym e ∙ ap (slice_get (order s)) (sym there) ∙ at) in
      let layer : n.layer ≡ 0 + m = ap (λ (x : PacketName). x.layer) own in
      let precinct : n.precinct ≡ k = ap (λ (x : PacketName). x.precinct) own in
      record {
        component = ap (λ (x : PacketName). x.component) own;
        resolution = ap (λ (x : PacketName). x.resolution) own;
        layer = omega (arith, layer, h);
        precinct = (omega (arith, precinct), omega (arith, precinct));
      })),
  (λ o. (
      let few = are.layers in
      let below = o.layer in
      let lo = o.precinct.0 in
      let hi = o.precinct.1 in
      let name = name_in p (0 + n.layer) k in
      let at : slice_get (order s) (a + n.layer) ≡ Some name = stand (name_in p 0 k) a n.layer is (omega (arith, below, few)) first in
      let layer : 0 + n.layer ≡ n.layer = omega arith in
      let precinct : k ≡ n.precinct = omega (arith, lo, hi) in
      let own : name ≡ n = (λ j. record { layer = layer j; resolution = sym o.resolution j; component = sym o.component j; precinct = precinct j }) in
      let number : i ≡ a + n.layer = number_once s i (a + n.layer) n e (at ∙ ap Some own) in
      (omega (arith, number), omega (arith, number, below)))),
)

-- the packets of a layer of all the precincts
pub precincts_of_one : (s : TileShape) (p : Precincts) (l a : ℕ) → PrecinctsStand s → ArePrecincts s p → IsName s (name_in p l p.numbers.0) → slice_get (order s) a ≡ Some (name_in p l p.numbers.0)
    → (i : ℕ) (n : PacketName) → slice_get (order s) i ≡ Some n → IsIn (a, a + (p.numbers.1 - p.numbers.0)) i ↔ (IsOf (precincts_with p p.numbers (l + 1)) n × (l ≤ n.layer))
precincts_of_one s p l a stand are is first i n e = (
  (λ h. (
      let few = are.within in
      let m = i - a in
      let there : a + m ≡ i = omega (arith, h) in
      let name = name_in p l (p.numbers.0 + m) in
      let at : slice_get (order s) (a + m) ≡ Some name = stand (name_in p l p.numbers.0) a m is (omega (arith, h, few)) first in
      let own : n ≡ name = some_name n name (sym e ∙ ap (slice_get (order s)) (sym there) ∙ at) in
      let layer : n.layer ≡ l = ap (λ (x : PacketName). x.layer) own in
      let precinct : n.precinct ≡ p.numbers.0 + m = ap (λ (x : PacketName). x.precinct) own in (
        record {
          component = ap (λ (x : PacketName). x.component) own;
          resolution = ap (λ (x : PacketName). x.resolution) own;
          layer = omega (arith, layer);
          precinct = (omega (arith, precinct), omega (arith, precinct, h));
        },
        omega (arith, layer),
      ))),
  (λ both. (
      let o = both.0 in
      let few = are.within in
      let below = o.layer in
      let lo = o.precinct.0 in
      let hi = o.precinct.1 in
      let m = n.precinct - p.numbers.0 in
      let name = name_in p l (p.numbers.0 + m) in
      let at : slice_get (order s) (a + m) ≡ Some name = stand (name_in p l p.numbers.0) a m is (omega (arith, hi, lo, few)) first in
      let layer : l ≡ n.layer = omega (arith, below, both.1) in
      let precinct : p.numbers.0 + m ≡ n.precinct = omega (arith, lo) in
      let own : name ≡ n = (λ j. record { layer = layer j; resolution = sym o.resolution j; component = sym o.component j; precinct = precinct j }) in
      let number : i ≡ a + m = number_once s i (a + m) n e (at ∙ ap Some own) in
      (omega (arith, number), omega (arith, number, hi, lo)))),
)

-- one precinct more
pub of_next_precinct : (p : Precincts) (first k : ℕ) → first ≤ k → (n : PacketName)
    → (IsOf (precincts_with p (first, k) p.layers) n ⊎ IsOf (precincts_with p (k, k + 1) p.layers) n) ↔ IsOf (precincts_with p (first, k + 1) p.layers) n
of_next_precinct p first k le n = (
  (λ h. elim h [
    | inl o ↦ (let at = o.precinct in record { component = o.component; resolution = o.resolution; layer = o.layer; precinct = (at.0, omega (arith, at)) })
    | inr o ↦ (let at = o.precinct in record { component = o.component; resolution = o.resolution; layer = o.layer; precinct = (omega (arith, at, le), at.1) })
  ]),
  (λ o. (let at = o.precinct in elim (cases_lt n.precinct k) [
    | inl less ↦ inl (record { component = o.component; resolution = o.resolution; layer = o.layer; precinct = (at.0, less) })
    | inr past ↦ inr (record { component = o.component; resolution = o.resolution; layer = o.layer; precinct = (past, at.1) })
  ])),
)

-- one layer more
pub of_next_layer : (p : Precincts) (l : ℕ) (n : PacketName)
    → (IsOf (precincts_with p p.numbers l) n ⊎ (IsOf (precincts_with p p.numbers (l + 1)) n × (l ≤ n.layer))) ↔ IsOf (precincts_with p p.numbers (l + 1)) n
of_next_layer p l n = (
  (λ h. elim h [
    | inl o ↦ (let at = o.layer in record { component = o.component; resolution = o.resolution; layer = omega (arith, at); precinct = o.precinct })
    | inr o ↦ o.0
  ]),
  (λ o. (elim (cases_lt n.layer l) [
    | inl less ↦ inl (record { component = o.component; resolution = o.resolution; layer = less; precinct = o.precinct })
    | inr past ↦ inr (o, past)
  ])),
)

-- all precincts, and all layers
pub of_all_precincts : (p : Precincts) (k : ℕ) → k ≡ p.numbers.1 → (n : PacketName) → IsOf (precincts_with p (p.numbers.0, k) p.layers) n ↔ IsOf p n
of_all_precincts p k same n = (
  (λ o. (let at = o.precinct in record { component = o.component; resolution = o.resolution; layer = o.layer; precinct = (at.0, omega (arith, at, same)) })),
  (λ o. (let at = o.precinct in record { component = o.component; resolution = o.resolution; layer = o.layer; precinct = (at.0, omega (arith, at, same)) })),
)

pub of_all_layers : (p : Precincts) (l : ℕ) → l ≡ p.layers → (n : PacketName) → IsOf (precincts_with p p.numbers l) n ↔ IsOf p n
of_all_layers p l same n = (
  (λ o. (let at = o.layer in record { component = o.component; resolution = o.resolution; layer = omega (arith, at, same); precinct = o.precinct })),
  (λ o. (let at = o.layer in record { component = o.component; resolution = o.resolution; layer = omega (arith, at, same); precinct = o.precinct })),
)

-- the coding of a component, from a list that has the codings
pub coding_read : (codings lent : List Coding) (c : ℕ) (k : Coding) → lent ≡ codings → c < length codings → k ≡ get_or lent c k → k ≡ coding_of codings c
coding_read codings lent c k e lt is = is ∙ ap (λ (ks : List Coding). get_or ks c k) e ∙ get_same codings c k no_coding lt

-- ---- rows of a resolution

-- a needed packet whose precinct stands in one of the first rows
pub record IsInRows (t : TileCut) (l c r across behind : ℕ) (n : PacketName) : Type 0 where
  pub needed : IsNeededOf t l c r n
  pub row : n.precinct / across < behind

abbrev pub row_of : (c r l : ℕ) → NeededPrecincts → (across j : ℕ) → Precincts
row_of c r l x across j = record { component = c; resolution = r; numbers = numbers_in x across j; layers = l }

abbrev pub coding_in : TileCut → ℕ → Coding
coding_in t c = coding_of t.shape.now.codings c

-- that its precinct is needed, by its component and resolution
need_of : (t : TileCut) (l c r : ℕ) (n : PacketName) → IsNeededOf t l c r n → needs t.shape.now.rect (coding_in t c) t.top t.reduce r n.precinct ≡ true
need_of t l c r n o =
    subst (λ q. needs t.shape.now.rect (coding_in t c) t.top t.reduce q n.precinct ≡ true) o.resolution
    (subst (λ q. needs t.shape.now.rect (coding_in t q) t.top t.reduce n.resolution n.precinct ≡ true) o.needed.component o.needed.needed.precinct)

of_need : (t : TileCut) (l c r : ℕ) (n : PacketName) → n.component ≡ c → n.resolution ≡ r → n.layer < l → needs t.shape.now.rect (coding_in t c) t.top t.reduce r n.precinct ≡ true → IsNeededOf t l c r n
of_need t l c r n component resolution layer need = record {
  resolution = resolution;
  needed = record {
    component = component;
    needed = record {
      layer = layer;
      precinct =
          subst (λ q. needs t.shape.now.rect (coding_in t q) t.top t.reduce n.resolution n.precinct ≡ true) (sym component)
          (subst (λ q. needs t.shape.now.rect (coding_in t c) t.top t.reduce q n.precinct ≡ true) (sym resolution) need);
    };
  };
}

-- its precinct is one of the resolution
precinct_in : (t : TileCut) (l c r : ℕ) (n : PacketName) → IsName t.shape.now n → n.component ≡ c → n.resolution ≡ r → n.precinct < precinct_number t.shape.now.rect (coding_in t c) r
precinct_in t l c r n is component resolution =
    subst (λ q. n.precinct < precinct_number t.shape.now.rect (coding_in t c) q) resolution
    (subst (λ q. n.precinct < precinct_number t.shape.now.rect (coding_in t q) n.resolution) component is.precinct)

-- its row is among those of the needed precincts
row_among : (t : TileCut) (l c r : ℕ) (x : NeededPrecincts) (n : PacketName) → AreNeeded t.shape.now.rect (coding_in t c) t.top t.reduce r x → IsName t.shape.now n → IsNeededOf t l c r n
    → IsIn (rows_in x) (n.precinct / precincts_across t.shape.now.rect (coding_in t c) r)
row_among t l c r x n are is o =
    let w = precincts_across t.shape.now.rect (coding_in t c) r in
    row_covered x (n.precinct % w) (n.precinct / w)
    ((are n.precinct (precinct_in t l c r n is o.needed.component o.resolution)).0 (need_of t l c r n o))

pub rows_none : (t : TileCut) (l c r : ℕ) (x : NeededPrecincts) (first : ℕ) → AreNeeded t.shape.now.rect (coding_in t c) t.top t.reduce r x → first ≡ (rows_in x).0
    → (n : PacketName) → IsName t.shape.now n → IsInRows t l c r (precincts_across t.shape.now.rect (coding_in t c) r) first n → ⊥
rows_none t l c r x first are own n is o =
    let row = row_among t l c r x n are is o.needed in
    let below = o.row in
    omega (arith, row, below, own)

pub rows_all : (t : TileCut) (l c r : ℕ) (x : NeededPrecincts) (behind : ℕ) → AreNeeded t.shape.now.rect (coding_in t c) t.top t.reduce r x → (rows_in x).1 ≤ behind
    → (n : PacketName) → IsName t.shape.now n → IsInRows t l c r (precincts_across t.shape.now.rect (coding_in t c) r) behind n ↔ IsNeededOf t l c r n
rows_all t l c r x behind are past n is = (
  (λ o. o.needed),
  (λ o. (let row = row_among t l c r x n are is o in record { needed = o; row = omega (arith, row, past) })),
)

positive : (w h p : ℕ) → p < w * h → 0 < w
positive w h p lt = elim (cases_lt 0 w) [
  | inl some ↦ some
  | inr none ↦ (let zero : w ≡ 0 = omega (arith, none) in
      let all : w * h ≡ 0 * h = ap (λ q. q * h) zero in
      absurd (omega (arith, lt, all)))
]

pub rows_more : (t : TileCut) (l c r : ℕ) (x : NeededPrecincts) (j : ℕ) → AreNeededNumbers t.shape.now.rect (coding_in t c) t.top t.reduce r x
    → (columns_in x j).1 ≤ precincts_across t.shape.now.rect (coding_in t c) r → j < precincts_down t.shape.now.rect (coding_in t c) r
    → (n : PacketName) → IsName t.shape.now n
    → (IsInRows t l c r (precincts_across t.shape.now.rect (coding_in t c) r) j n ⊎ IsOf (row_of c r l x (precincts_across t.shape.now.rect (coding_in t c) r) j) n)
    ↔ IsInRows t l c r (precincts_across t.shape.now.rect (coding_in t c) r) (j + 1) n
rows_more t l c r x j numbers wide down n is =
    let w = precincts_across t.shape.now.rect (coding_in t c) r in
    let own : (j + 1) * w ≡ j * w + w = omega arith in (
      (λ h. elim h [
        | inl o ↦ (let row = o.row in record { needed = o.needed; row = omega (arith, row) })
        | inr o ↦ (
            let at = o.precinct in
            let lo : j * w ≤ n.precinct = omega (arith, at) in
            let hi : n.precinct < (j + 1) * w = omega (arith, at, own, wide) in
            let row : n.precinct / w ≡ j = number_row n.precinct j w lo hi in
            let need = (numbers j n.precinct down (lo, hi)).1 at in
            record { needed = of_need t l c r n o.component o.resolution o.layer need; row = omega (arith, row) })
      ]),
      (λ o. elim (cases_lt (n.precinct / w) j) [
        | inl less ↦ inl (record { needed = o.needed; row = less })
        | inr past ↦ (
            let below = o.row in
            let row : n.precinct / w ≡ j = omega (arith, past, below) in
            let some = positive w (precincts_down t.shape.now.rect (coding_in t c) r) n.precinct (precinct_in t l c r n is o.needed.needed.component o.needed.resolution) in
            let start : n.precinct / w * w ≤ n.precinct = div-mul-le_self n.precinct w in
            let end : n.precinct < n.precinct / w * w + w = lt-div-mul-add some in
            let first : n.precinct / w * w ≡ j * w = ap (λ q. q * w) row in
            let here = (numbers j n.precinct down (omega (arith, start, first), omega (arith, end, first, own))).0 (need_of t l c r n o.needed) in
            inr (record { component = o.needed.needed.component; resolution = o.needed.resolution; layer = o.needed.needed.needed.layer; precinct = here }))
      ]),
    )

-- ---- resolutions of a component, and components

pub record IsInResolutions (t : TileCut) (l c behind : ℕ) (n : PacketName) : Type 0 where
  pub needed : IsNeededIn t l c n
  pub resolution : n.resolution < behind

pub record IsInComponents (t : TileCut) (l behind : ℕ) (n : PacketName) : Type 0 where
  pub needed : IsNeeded t l n
  pub component : n.component < behind

pub resolutions_none : (t : TileCut) (l c : ℕ) (n : PacketName) → IsName t.shape.now n → IsInResolutions t l c 0 n → ⊥
resolutions_none t l c n is o = let r = o.resolution in omega (arith, r)

pub resolutions_more : (t : TileCut) (l c r : ℕ) (n : PacketName) → IsName t.shape.now n → (IsInResolutions t l c r n ⊎ IsNeededOf t l c r n) ↔ IsInResolutions t l c (r + 1) n
resolutions_more t l c r n is = (
  (λ h. elim h [
    | inl o ↦ (let at = o.resolution in record { needed = o.needed; resolution = omega (arith, at) })
    | inr o ↦ (let at = o.resolution in record { needed = o.needed; resolution = omega (arith, at) })
  ]),
  (λ o. elim (cases_lt n.resolution r) [
    | inl less ↦ inl (record { needed = o.needed; resolution = less })
    | inr past ↦ (let at = o.resolution in inr (record { resolution = omega (arith, at, past); needed = o.needed }))
  ]),
)

pub resolutions_all : (t : TileCut) (l c behind : ℕ) → (coding_in t c).levels < behind → (n : PacketName) → IsName t.shape.now n → IsInResolutions t l c behind n ↔ IsNeededIn t l c n
resolutions_all t l c behind past n is = (
  (λ o. o.needed),
  (λ o. (
      let few : n.resolution ≤ (coding_in t c).levels = subst (λ q. n.resolution ≤ (coding_in t q).levels) o.component is.resolution in
      record { needed = o; resolution = omega (arith, few, past) })),
)

pub components_none : (t : TileCut) (l : ℕ) (n : PacketName) → IsName t.shape.now n → IsInComponents t l 0 n → ⊥
components_none t l n is o = let c = o.component in omega (arith, c)

pub components_more : (t : TileCut) (l c : ℕ) (n : PacketName) → IsName t.shape.now n → (IsInComponents t l c n ⊎ IsNeededIn t l c n) ↔ IsInComponents t l (c + 1) n
components_more t l c n is = (
  (λ h. elim h [
    | inl o ↦ (let at = o.component in record { needed = o.needed; component = omega (arith, at) })
    | inr o ↦ (let at = o.component in record { needed = o.needed; component = omega (arith, at) })
  ]),
  (λ o. elim (cases_lt n.component c) [
    | inl less ↦ inl (record { needed = o.needed; component = less })
    | inr past ↦ (let at = o.component in inr (record { component = omega (arith, at, past); needed = o.needed }))
  ]),
)

pub components_all : (t : TileCut) (l behind : ℕ) → length t.shape.now.codings ≤ behind → (n : PacketName) → IsName t.shape.now n → IsInComponents t l behind n ↔ IsNeeded t l n
components_all t l behind past n is = (
  (λ o. o.needed),
  (λ o. (let few = is.component in record { needed = o; component = omega (arith, few, past) })),
)

-- ---- all that is kept of a tile

-- how many layers are kept of a packet's precinct
abbrev kept_of : TileCut → PacketName → ℕ
kept_of t n = layers_kept t.shape.now t.top t.reduce t.layers n.component n.resolution n.precinct

none_kept : (t : TileCut) (n : PacketName) → is_empty t.top ≡ true → kept_of t n ≡ 0
none_kept t n e = ap (λ b. cond (not b && needs t.shape.now.rect (coding_in t n.component) t.top t.reduce n.resolution n.precinct) t.layers 0) e

pub wanted_none : (t : TileCut) (n : PacketName) → is_empty t.top ≡ true → wanted t.shape.now t.top t.reduce t.layers n ≡ false
wanted_none t n e = ap (nat_lt n.layer) (none_kept t n e) ∙ le-ltb n.layer 0 (omega arith)

pub wanted_all : (t : TileCut) (l : ℕ) (n : PacketName) → is_empty t.top ≡ false → l ≡ min t.layers t.shape.now.layers → IsName t.shape.now n → (wanted t.shape.now t.top t.reduce t.layers n ≡ true) ↔ IsNeeded t l n
wanted_all t l n e own is = by (needs t.shape.now.rect (coding_in t n.component) t.top t.reduce n.resolution n.precinct) refl
  where
    by : (b : Bool) → needs t.shape.now.rect (coding_in t n.component) t.top t.reduce n.resolution n.precinct ≡ b → (wanted t.shape.now t.top t.reduce t.layers n ≡ true) ↔ IsNeeded t l n
    by true need =
        let kept : kept_of t n ≡ t.layers = (λ j. cond (not (e j) && need j) t.layers 0) in
        let few = is.layer in (
          (λ w. (let less : n.layer < t.layers = ltb-true n.layer t.layers (ap (nat_lt n.layer) (sym kept) ∙ w) in record { layer = omega (arith, less, few, own); precinct = need })),
          (λ o. (let less = o.layer in ap (nat_lt n.layer) kept ∙ lt-ltb n.layer t.layers (omega (arith, less, own)))),
        )
    by false need =
        let kept : kept_of t n ≡ 0 = (λ j. cond (not (e j) && need j) t.layers 0) in
        let never : wanted t.shape.now t.top t.reduce t.layers n ≡ false = ap (nat_lt n.layer) kept ∙ le-ltb n.layer 0 (omega arith) in (
          (λ w. (let clash : true ≡ false = sym w ∙ never in absurd cc)),
          (λ o. (let clash : true ≡ false = sym o.precinct ∙ need in absurd cc)),
        )

pub are_wanted : (t : TileCut) (l : ℕ) (xs : List (ℕ × ℕ)) → is_empty t.top ≡ false → l ≡ min t.layers t.shape.now.layers → Adds t.shape.now [] xs (IsNeeded t l) → AreWanted t xs
are_wanted t l xs e own adds i n at =
    let is = number_names t.shape.now i n at in
    let law = wanted_all t l n e own is in (
      (λ w. (adds i n at).1 (inr (law.0 w))),
      (λ h. elim ((adds i n at).0 h) [ inl none ↦ absurd (any_none (λ (s : ℕ × ℕ). IsIn s i) none) | inr o ↦ law.1 o ]),
    )

pub none_wanted : (t : TileCut) → is_empty t.top ≡ true → AreWanted t []
none_wanted t e i n at = (
  (λ w. (let clash : true ≡ false = sym w ∙ wanted_none t n e in absurd cc)),
  (λ h. absurd (any_none (λ (s : ℕ × ℕ). IsIn s i) h)),
)

pub wanted_moved : (t : TileCut) (xs ys : List (ℕ × ℕ)) → IsPermutation xs ys → AreWanted t xs → AreWanted t ys
wanted_moved t xs ys moved are i n at = (
  (λ w. any_moved (λ (s : ℕ × ℕ). IsIn s i) xs ys moved ((are i n at).0 w)),
  (λ h. (are i n at).1 (any_moved (λ (s : ℕ × ℕ). IsIn s i) ys xs (IsPermutation-sym xs ys moved) h)),
)
