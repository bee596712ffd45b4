-- Where the precincts of a tile stand, one behind another.
use Rattle.std.proofs.Common.{◌≡◌, ℕ, zero, suc, ◌+◌, ◌-◌, ◌*◌, ◌/◌, ◌%◌, ◌^◌, ◌<◌, ◌≤◌, List, [], ◌∷◌, ◌++◌, length, get_or, sym, ap, ◌∙◌, inl, inr, arith, length-append}
use Rattle.std.specs.List.{flat_map, range_with_len}
use Rattle.std.proofs.Math.Nat.{mul-le-mul_right}
use Rattle.std.proofs.lemmas.Bool.{cases_lt}
use Rattle.std.proofs.lemmas.Nat.{div-mul-add, mod-mul-add}
use Rattle.std.proofs.lemmas.List.{append-nil, get_or_append_left, get_or-append_right}
use Rattle.std.proofs.lemmas.List.Concat.{flat_map-append}
use Rattle.std.proofs.lemmas.List.FromFn.{length-map-range_with_len, get_or-map-range_with_len}
use Rattle.jk_math.specs.declared.rect.Rect.{Rect}
use Rattle.jk_marks.specs.declared.coding.Coding.{Coding}
use Rattle.jk_geom.specs.Precincts.{precinct_number}
use Rattle.jk_geom.specs.Counts.{precincts_below}
use Rattle.jk_geom.proofs.Laws.{below_more, below_none}
use Rattle.jk_tile.specs.encoding.TileWriters.{index_of, resolution_items, component_items, tile_items}
use Rattle.jk_tile.proofs.Components.{range_push}

-- one part more at the end
last_part : {X : Type 0} (f : ℕ → List X) (n : ℕ) → flat_map f (range_with_len 0 (suc n)) ≡ flat_map f (range_with_len 0 n) ++ f n
last_part f n =
    let one : suc n ≡ n + 1 = omega arith in
    ap (λ m. flat_map f (range_with_len 0 m)) one ∙ ap (flat_map f) (range_push n) ∙ flat_map-append f (range_with_len 0 n) (n ∷ []) ∙ ap (λ xs. flat_map f (range_with_len 0 n) ++ xs) (append-nil (f n))

pub component_length : {X : Type 0} (a : Rect) (k : Coding) (g : ℕ → ℕ → X) (n : ℕ) → length (component_items a k g n) ≡ precincts_below a k n
component_length a k g zero = sym (below_none a k)
component_length {X} a k g (suc n) =
    ap (λ (xs : List X). length xs) (last_part (resolution_items a k g) n) ∙ length-append (component_items a k g n) (resolution_items a k g n)
    ∙ ap (λ m. m + length (resolution_items a k g n)) (component_length a k g n) ∙ ap (λ m. precincts_below a k n + m) (length-map-range_with_len (g n) 0 (precinct_number a k n)) ∙ sym (below_more a k n)

pub below_rises : (a : Rect) (k : Coding) (r n : ℕ) → r < n → precincts_below a k r + precinct_number a k r ≤ precincts_below a k n
below_rises a k r zero lt = absurd (omega (arith, lt))
below_rises a k r (suc n) lt = elim (cases_lt r n) [
  | inl less ↦ let before = below_rises a k r n less in let more = below_more a k n in omega (arith, before, more)
  | inr last ↦ let same : r ≡ n = omega (arith, lt, last) in let more = below_more a k n in let e = ap (λ m. precincts_below a k m + precinct_number a k m) same in omega (arith, e, more)
]

-- a resolution has no more precincts than all
pub level_few : (a : Rect) (k : Coding) (r : ℕ) → r < k.levels + 1 → precincts_below a k (k.levels + 1) ≤ 2 ^ 24 → precinct_number a k r ≤ 2 ^ 24
level_few a k r lt few = let rise = below_rises a k r (k.levels + 1) lt in omega (arith, rise, few)

pub component_at : {X : Type 0} (a : Rect) (k : Coding) (g : ℕ → ℕ → X) (m r n : ℕ) (d : X) → r < m → n < precinct_number a k r → get_or (component_items a k g m) (precincts_below a k r + n) d ≡ g r n
component_at a k g zero r n d lt some = absurd (omega (arith, lt))
component_at {X} a k g (suc m) r n d lt some =
    let long = component_length a k g m in
    ap (λ (xs : List X). get_or xs (precincts_below a k r + n) d) (last_part (resolution_items a k g) m)
    ∙ elim (cases_lt r m) [
      | inl less ↦
          let rise = below_rises a k r m less in
          get_or_append_left (component_items a k g m) (resolution_items a k g m) d (precincts_below a k r + n) (omega (arith, long, rise, some)) ∙ component_at a k g m r n d less some
      | inr last ↦
          let same : m ≡ r = omega (arith, lt, last) in
          let first = ap (precincts_below a k) same in
          get_or-append_right (component_items a k g m) (resolution_items a k g m) (precincts_below a k m) (precincts_below a k r + n) d long (omega (arith, first))
          ∙ ap (λ i. get_or (resolution_items a k g m) i d) (let e : precincts_below a k r + n - precincts_below a k m ≡ n = omega (arith, first) in e)
          ∙ ap (λ i. get_or (resolution_items a k g i) n d) same
          ∙ get_or-map-range_with_len (g r) 0 (precinct_number a k r) n n d some (omega arith)
    ]

pub tile_length : {X : Type 0} (a : Rect) (k : Coding) (g : ℕ → ℕ → ℕ → X) (n : ℕ) → length (tile_items a k g n) ≡ n * precincts_below a k (k.levels + 1)
tile_length a k g zero = omega arith
tile_length {X} a k g (suc n) =
    let rest = tile_length a k g n in
    let own = component_length a k (g n) (k.levels + 1) in
    let more : suc n * precincts_below a k (k.levels + 1) ≡ n * precincts_below a k (k.levels + 1) + precincts_below a k (k.levels + 1) = omega arith in
    ap (λ (xs : List X). length xs) (last_part (λ c. component_items a k (g c) (k.levels + 1)) n) ∙ length-append (tile_items a k g n) (component_items a k (g n) (k.levels + 1)) ∙ (let e : length (tile_items a k g n) + length (component_items a k (g n) (k.levels + 1)) ≡ suc n * precincts_below a k (k.levels + 1) = omega (arith, rest, own, more) in e)

-- a precinct of a component is among its precincts
inner_below : (a : Rect) (k : Coding) (r n : ℕ) → r ≤ k.levels → n < precinct_number a k r → precincts_below a k r + n < precincts_below a k (k.levels + 1)
inner_below a k r n le lt = let rise = below_rises a k r (k.levels + 1) (omega (arith, le)) in omega (arith, rise, lt)

pub tile_at : {X : Type 0} (a : Rect) (k : Coding) (g : ℕ → ℕ → ℕ → X) (m c r n : ℕ) (d : X) → c < m → r ≤ k.levels → n < precinct_number a k r → get_or (tile_items a k g m) (index_of a k c r n) d ≡ g c r n
tile_at a k g zero c r n d lt le some = absurd (omega (arith, lt))
tile_at {X} a k g (suc m) c r n d lt le some =
    let p = precincts_below a k (k.levels + 1) in
    let long = tile_length a k g m in
    let inner = inner_below a k r n le some in
    ap (λ (xs : List X). get_or xs (index_of a k c r n) d) (last_part (λ i. component_items a k (g i) (k.levels + 1)) m)
    ∙ elim (cases_lt c m) [
      | inl less ↦
          let rise : (c + 1) * p ≤ m * p = mul-le-mul_right p (omega (arith, less)) in
          let more : (c + 1) * p ≡ c * p + p = omega arith in
          get_or_append_left (tile_items a k g m) (component_items a k (g m) (k.levels + 1)) d (index_of a k c r n) (omega (arith, long, rise, more, inner)) ∙ tile_at a k g m c r n d less le some
      | inr last ↦
          let same : m ≡ c = omega (arith, lt, last) in
          let first = ap (λ i. i * p) same in
          get_or-append_right (tile_items a k g m) (component_items a k (g m) (k.levels + 1)) (m * p) (index_of a k c r n) d long (omega (arith, first))
          ∙ ap (λ i. get_or (component_items a k (g m) (k.levels + 1)) i d) (let e : index_of a k c r n - m * p ≡ precincts_below a k r + n = omega (arith, first) in e)
          ∙ ap (λ i. get_or (component_items a k (g i) (k.levels + 1)) (precincts_below a k r + n) d) same
          ∙ component_at a k (g c) (k.levels + 1) r n d (omega (arith, le)) some
    ]

pub index_below : (a : Rect) (k : Coding) (m c r n : ℕ) → c < m → r ≤ k.levels → n < precinct_number a k r → index_of a k c r n < m * precincts_below a k (k.levels + 1)
index_below a k m c r n lt le some =
    let p = precincts_below a k (k.levels + 1) in
    let inner = inner_below a k r n le some in
    let rise : (c + 1) * p ≤ m * p = mul-le-mul_right p (omega (arith, lt)) in
    let more : (c + 1) * p ≡ c * p + p = omega arith in
    omega (arith, inner, rise, more)

-- two precincts of a component stand apart
inner_apart : (a : Rect) (k : Coding) (r n q m : ℕ) → n < precinct_number a k r → m < precinct_number a k q → precincts_below a k r + n ≡ precincts_below a k q + m → (r ≡ q) × (n ≡ m)
inner_apart a k r n q m some other e = elim (cases_lt r q) [
  | inl less ↦ let rise = below_rises a k r q less in absurd (omega (arith, rise, e, some))
  | inr ge ↦ elim (cases_lt q r) [
    | inl more ↦ let rise = below_rises a k q r more in absurd (omega (arith, rise, e, other))
    | inr le ↦ (let same : r ≡ q = omega (arith, ge, le) in let first = ap (precincts_below a k) same in (same, omega (arith, first, e)))
  ]
]

-- and so do two of the tile
pub index_apart : (a : Rect) (k : Coding) (c r n d q m : ℕ) → r ≤ k.levels → n < precinct_number a k r → q ≤ k.levels → m < precinct_number a k q → index_of a k c r n ≡ index_of a k d q m → (c ≡ d) × (r ≡ q) × (n ≡ m)
index_apart a k c r n d q m le some low other e =
    let p = precincts_below a k (k.levels + 1) in
    let i = precincts_below a k r + n in
    let j = precincts_below a k q + m in
    let first = inner_below a k r n le some in
    let second = inner_below a k q m low other in
    let component : c ≡ d = sym (div-mul-add c p i first) ∙ ap (λ x. x / p) e ∙ div-mul-add d p j second in
    let rest : i ≡ j = sym (mod-mul-add c p i first) ∙ ap (λ x. x % p) e ∙ mod-mul-add d p j second in
    let both = inner_apart a k r n q m some other rest in
    (component, both.0, both.1)
