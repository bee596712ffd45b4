-- The precincts of a tile as they are kept, row by row.
use Rattle.std.proofs.Common.{◌≡◌, ℕ, ◌*◌, ◌<◌, ◌≤◌, inl, inr, Bool, false, List, [], length, get_or, set, sym, ap, ◌∙◌, subst, arith}
use Rattle.std.specs.Prelude.{◌==◌, ◌&&◌}
use Rattle.std.specs.Global.{Vec}
use Rattle.std.proofs.lemmas.Bool.{cases_eq, both_ways, and_from, eq-eqb}
use Rattle.std.proofs.lemmas.List.{length-map, get_or-map, map-set, get_or-set_same, get_or-set_other}
use Rattle.jk_geom.specs.declared.shape.TileShape.{TileShape}
use Rattle.jk_geom.specs.declared.shape.PacketName.{PacketName}
use Rattle.jk_geom.specs.TileShapes.{coding_of, IsTileShape}
use Rattle.jk_order.specs.PacketOrder.{IsName, IsPrecinct, is_of}
use Rattle.jk_walk.specs.WalkReading.{blank_states}
use Rattle.jk_walk.specs.Keeping.{Kept, Slot, most_resolutions, row_of, seen, states_in}
use Rattle.jk_math.specs.Lists.{lists_of}

-- a row that was read
abbrev pub items_of : Vec Slot → List Slot
items_of v = v.items

-- the precincts that lie in memory so
abbrev pub kept_in : (sop eph : Bool) → List (Vec Slot) → Kept
kept_in sop eph vs = record { sop = sop; eph = eph; precincts = lists_of vs }

row_read : (vs : List (Vec Slot)) (i : ℕ) (v : Vec Slot) → i < length vs → v ≡ get_or vs i v → get_or (lists_of vs) i [] ≡ v.items
row_read vs i v less e = get_or-map items_of vs i v [] less ∙ ap items_of (sym e)

row_written : (vs : List (Vec Slot)) (i : ℕ) (w : Vec Slot) → i < length vs → get_or (lists_of (set vs i w)) i [] ≡ w.items
row_written vs i w less =
    ap (λ (rows : List (List Slot)). get_or rows i []) (map-set items_of vs i w)
    ∙ get_or-set_same (lists_of vs) i w.items [] (let long = length-map vs items_of in omega (arith, long, less))

row_other : (vs : List (Vec Slot)) (i j : ℕ) (w : Vec Slot) → (j ≡ i → ⊥) → get_or (lists_of (set vs i w)) j [] ≡ get_or (lists_of vs) j []
row_other vs i j w ne = ap (λ (rows : List (List Slot)). get_or rows j []) (map-set items_of vs i w) ∙ get_or-set_other (lists_of vs) i j w.items [] ne

-- how many rows there are
pub rows_count : (p : Kept) (sop eph : Bool) (vs : List (Vec Slot)) → kept_in sop eph vs ≡ p → length p.precincts ≡ length vs
rows_count p sop eph vs e = ap (λ (q : Kept). length q.precincts) (sym e) ∙ length-map vs items_of

-- a precinct of the row that is read, before and after
pub state_before : (s : TileShape) (p : Kept) (sop eph : Bool) (vs : List (Vec Slot)) (c r k : ℕ) (v : Vec Slot) → kept_in sop eph vs ≡ p → row_of c r < length vs → v ≡ get_or vs (row_of c r) v
    → states_in s p c r k ≡ seen (blank_states s sop eph c r) v.items k
state_before s p sop eph vs c r k v e less read =
    ap (λ (q : Kept). states_in s q c r k) (sym e) ∙ ap (λ (ps : List Slot). seen (blank_states s sop eph c r) ps k) (row_read vs (row_of c r) v less read)

pub state_after : (s : TileShape) (sop eph : Bool) (vs : List (Vec Slot)) (c r k : ℕ) (w : Vec Slot) → row_of c r < length vs
    → states_in s (kept_in sop eph (set vs (row_of c r) w)) c r k ≡ seen (blank_states s sop eph c r) w.items k
state_after s sop eph vs c r k w less = ap (λ (ps : List Slot). seen (blank_states s sop eph c r) ps k) (row_written vs (row_of c r) w less)

-- precincts of two rows
rows_apart : (c r d q : ℕ) → r ≤ 10 → q ≤ 10 → row_of c r ≡ row_of d q → (c ≡ d) × (r ≡ q)
rows_apart c r d q low below e = (omega (arith, low, below, e), omega (arith, low, below, e))

-- a precinct that isn't read
pub state_other : (s : TileShape) (p : Kept) (sop eph : Bool) (vs : List (Vec Slot)) (n : PacketName) (v w : Vec Slot) → kept_in sop eph vs ≡ p → row_of n.component n.resolution < length vs → v ≡ get_or vs (row_of n.component n.resolution) v
    → ((k : ℕ) → (k ≡ n.precinct → ⊥) → seen (blank_states s sop eph n.component n.resolution) w.items k ≡ seen (blank_states s sop eph n.component n.resolution) v.items k)
    → n.resolution ≤ 10 → (c r k : ℕ) → r ≤ 10 → is_of c r k n ≡ false → states_in s (kept_in sop eph (set vs (row_of n.component n.resolution) w)) c r k ≡ states_in s p c r k
state_other s p sop eph vs n v w e less read others low c r k below not_own = elim (cases_eq (row_of n.component n.resolution) (row_of c r)) [
  | inl same ↦ (let both = rows_apart n.component n.resolution c r low below same in
      let component = both.0 in
      let resolution = both.1 in
      let other : k ≡ n.precinct → ⊥ =
      λ at. both_ways (is_of c r k n) not_own
      (and_from (n.component == c) ((n.resolution == r) && (n.precinct == k)) (eq-eqb n.component c component)
      (and_from (n.resolution == r) (n.precinct == k) (eq-eqb n.resolution r resolution) (eq-eqb n.precinct k (sym at)))) in
      let at_row : states_in s (kept_in sop eph (set vs (row_of n.component n.resolution) w)) n.component n.resolution k ≡ states_in s p n.component n.resolution k =
      state_after s sop eph vs n.component n.resolution k w less ∙ others k other ∙ sym (state_before s p sop eph vs n.component n.resolution k v e less read) in
      let at_component = subst (λ (d : ℕ). states_in s (kept_in sop eph (set vs (row_of n.component n.resolution) w)) d n.resolution k ≡ states_in s p d n.resolution k) component at_row in
      subst (λ (q : ℕ). states_in s (kept_in sop eph (set vs (row_of n.component n.resolution) w)) c q k ≡ states_in s p c q k) resolution at_component)
  | inr apart ↦
      ap (λ (ps : List Slot). seen (blank_states s sop eph c r) ps k) (row_other vs (row_of n.component n.resolution) (row_of c r) w (λ at. apart (sym at)))
      ∙ ap (λ (q : Kept). states_in s q c r k) e
]

-- ---- rows by their number

-- a name's row is there
pub row_there : (s : TileShape) (n : PacketName) (rows row : ℕ) → IsTileShape s → IsName s n → length s.codings * most_resolutions ≡ rows → row ≡ row_of n.component n.resolution → row < rows
row_there s n rows row is name count at =
    let coding = is.codings.each n.component name.component in
    let levels = coding.levels in
    let low = name.resolution in
    let within = name.component in
    omega (arith, levels, low, within, count, at)

pub few_levels : (s : TileShape) (c r : ℕ) → IsTileShape s → c < length s.codings → r ≤ (coding_of s.codings c).levels → r ≤ 10
few_levels s c r is less low = let coding = is.codings.each c less in let levels = coding.levels in omega (arith, levels, low)

pub before_at : (s : TileShape) (p : Kept) (sop eph : Bool) (vs : List (Vec Slot)) (c r k row : ℕ) (v : Vec Slot) → row ≡ row_of c r → kept_in sop eph vs ≡ p → row < length vs → v ≡ get_or vs row v
    → states_in s p c r k ≡ seen (blank_states s sop eph c r) v.items k
before_at s p sop eph vs c r k row v at e less read = state_before s p sop eph vs c r k v e (subst (λ i. i < length vs) at less) (subst (λ i. v ≡ get_or vs i v) at read)

pub after_at : (s : TileShape) (sop eph : Bool) (vs : List (Vec Slot)) (c r k row : ℕ) (w : Vec Slot) → row ≡ row_of c r → row < length vs
    → states_in s (kept_in sop eph (set vs row w)) c r k ≡ seen (blank_states s sop eph c r) w.items k
after_at s sop eph vs c r k row w at less =
    subst (λ i. states_in s (kept_in sop eph (set vs i w)) c r k ≡ seen (blank_states s sop eph c r) w.items k) (sym at) (state_after s sop eph vs c r k w (subst (λ i. i < length vs) at less))

-- the precincts but that of a packet, where those of its resolution are
pub others_at : (s : TileShape) (p : Kept) (sop eph : Bool) (vs : List (Vec Slot)) (n : PacketName) (row : ℕ) (v w : Vec Slot) → IsTileShape s → IsName s n → row ≡ row_of n.component n.resolution → kept_in sop eph vs ≡ p → row < length vs → v ≡ get_or vs row v
    → ((k : ℕ) → (k ≡ n.precinct → ⊥) → seen (blank_states s sop eph n.component n.resolution) w.items k ≡ seen (blank_states s sop eph n.component n.resolution) v.items k)
    → (c r k : ℕ) → IsPrecinct s c r k → is_of c r k n ≡ false → states_in s (kept_in sop eph (set vs row w)) c r k ≡ states_in s p c r k
others_at s p sop eph vs n row v w shape name at e less read others c r k is other =
    subst (λ i. states_in s (kept_in sop eph (set vs i w)) c r k ≡ states_in s p c r k) (sym at)
    (state_other s p sop eph vs n v w e (subst (λ i. i < length vs) at less) (subst (λ i. v ≡ get_or vs i v) at read) others (few_levels s n.component n.resolution shape name.component name.resolution) c r k
    (few_levels s c r shape is.component is.resolution) other)
