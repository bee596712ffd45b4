-- The packets of a tile and their order (T.800 B.12).
use Rattle.std.specs.Prelude.{ℕ, zero, suc, ◌+◌, ◌-◌, ◌*◌, ◌^◌, ◌<◌, ◌≤◌, ◌↔◌, max, List, [], ◌∷◌, ◌++◌, length, map}
use Rattle.std.specs.Prelude.{Contains, Bool, ◌==◌, ◌&&◌}
use Rattle.std.specs.Ordering.{nat_cmp}
use Rattle.std.specs.declared.cmp.Ordering.{Ordering}
use Rattle.std.specs.declared.cmp.Ordering.TheVariants.{Less, Equal, Greater}
use Rattle.std.specs.Cmp.Lexicographic.{slice_cmp}
use Rattle.std.specs.List.Sorted.{IsStrictlySortedBy}
use Rattle.jk_math.specs.declared.rect.Rect.{Rect}
use Rattle.jk_marks.specs.declared.segments.Order.{Order}
use Rattle.jk_marks.specs.declared.segments.Order.TheVariants.{Lrcp, Rlcp, Rpcl, Pcrl, Cprl}
use Rattle.jk_marks.specs.declared.coding.Coding.{Coding}
use Rattle.jk_marks.specs.Coding.{precinct_size}
use Rattle.jk_geom.specs.declared.shape.TileShape.{TileShape}
use Rattle.jk_geom.specs.declared.shape.PacketName.{PacketName}
use Rattle.jk_geom.specs.TileShapes.{coding_of}
use Rattle.jk_geom.specs.Precincts.{precinct_number, precinct_column, precinct_row}
use Rattle.jk_geom.specs.Counts.{packet_number}

-- A packet of the tile: one for each layer of each precinct of each resolution of each component
-- (B.9).
pub record IsName (s : TileShape) (n : PacketName) : Type 0 where
  pub layer : n.layer < s.layers
  pub component : n.component < length s.codings
  pub resolution : n.resolution ≤ (coding_of s.codings n.component).levels
  pub precinct : n.precinct < precinct_number s.rect (coding_of s.codings n.component) n.resolution

-- Where precinct n of resolution r lies on the reference grid: where its upper left corner lies, or
-- the tile's own where a precinct begins before the tile does.
abbrev pub precinct_x : Rect → Coding → (r n : ℕ) → ℕ
precinct_x a k r n = max a.x0 (precinct_column a k r n * 2 ^ ((precinct_size k r).0 + (k.levels - r)))

abbrev pub precinct_y : Rect → Coding → (r n : ℕ) → ℕ
precinct_y a k r n = max a.y0 (precinct_row a k r n * 2 ^ ((precinct_size k r).1 + (k.levels - r)))

-- the numbers by which the orders compare packets, the first that differ deciding (B.12.1.1 to
-- B.12.1.5)
abbrev pub key_at : Order → (l r c k x y : ℕ) → List ℕ
key_at Lrcp l r c k x y = l ∷ r ∷ c ∷ k ∷ []
key_at Rlcp l r c k x y = r ∷ l ∷ c ∷ k ∷ []
key_at Rpcl l r c k x y = r ∷ y ∷ x ∷ c ∷ l ∷ []
key_at Pcrl l r c k x y = y ∷ x ∷ c ∷ r ∷ l ∷ []
key_at Cprl l r c k x y = c ∷ y ∷ x ∷ r ∷ l ∷ []

unfoldable pub key : TileShape → PacketName → List ℕ
key s n =
    let k = coding_of s.codings n.component in
    key_at s.order n.layer n.resolution n.component n.precinct (precinct_x s.rect k n.resolution n.precinct)
    (precinct_y s.rect k n.resolution n.precinct)

abbrev pub key_cmp : List ℕ → List ℕ → Ordering
key_cmp = slice_cmp nat_cmp

-- All packets of the tile in their order: with ascending keys, so that each stands once.
pub record IsPacketOrder (s : TileShape) (names : List PacketName) : Type 0 where
  pub ascending : IsStrictlySortedBy key_cmp (map (key s) names)
  pub members : (n : PacketName) → Contains names n ↔ IsName s n

-- how many packets a tile has
unfoldable pub packet_count : TileShape → ℕ
packet_count s = packet_number s.rect s.layers s.codings

-- the lists of the numbers below n, joined
unfoldable pub joined : {A : Type 0} → (ℕ → List A) → ℕ → List A
joined f zero = []
joined f (suc n) = joined f n ++ f n

-- all packets of the tile, component by component
unfoldable pub all_names : TileShape → List PacketName
all_names s =
    joined (λ c. joined (λ r. joined (λ k. joined (λ l.
    record { layer = l; resolution = r; component = c; precinct = k } ∷ [])
    s.layers)
    (precinct_number s.rect (coding_of s.codings c) r))
    ((coding_of s.codings c).levels + 1))
    (length s.codings)

-- by how two keys compare
abbrev pub by_order : {A : Type 0} → Ordering → (less equal greater : A) → A
by_order Less a b c = a
by_order Equal a b c = b
by_order Greater a b c = c

-- a packet put where its key belongs
unfoldable pub inserted : (PacketName → List ℕ) → PacketName → List PacketName → List PacketName
inserted f n [] = n ∷ []
inserted f n (m ∷ ms) = by_order (key_cmp (f n) (f m)) (n ∷ m ∷ ms) (m ∷ ms) (m ∷ inserted f n ms)

unfoldable pub sorted : (PacketName → List ℕ) → List PacketName → List PacketName
sorted f [] = []
sorted f (n ∷ ns) = inserted f n (sorted f ns)

-- the packets of the tile in their order
unfoldable pub order : TileShape → List PacketName
order s = sorted (key s) (all_names s)

-- A precinct of the tile, by component, resolution and number.
pub record IsPrecinct (s : TileShape) (c r k : ℕ) : Type 0 where
  pub component : c < length s.codings
  pub resolution : r ≤ (coding_of s.codings c).levels
  pub precinct : k < precinct_number s.rect (coding_of s.codings c) r

-- a packet is of that precinct
abbrev pub is_of : (c r k : ℕ) → PacketName → Bool
is_of c r k n = (n.component == c) && ((n.resolution == r) && (n.precinct == k))

-- the packet of layer l of a precinct
abbrev pub layer_name : (c r k l : ℕ) → PacketName
layer_name c r k l = record { layer = l; resolution = r; component = c; precinct = k }

-- the packets of the first n layers of a precinct, from layer 0 on
abbrev pub layer_names : (c r k n : ℕ) → List PacketName
layer_names c r k n = joined (λ l. layer_name c r k l ∷ []) n
