-- The packets of a tile that is written are packets of the tile.
use Rattle.std.proofs.Common.{◌≡◌, ℕ, zero, suc, ◌+◌, Bool, List, [], ◌∷◌, ◌++◌, length, map, filter, refl, sym, ap, subst, ◌∙◌, inl, inr, arith}
use Rattle.std.specs.List.{AllByRecursion, flat_map, range_with_len}
use Rattle.std.proofs.lemmas.Bool.{cases_Bool, cond-true, cond-false}
use Rattle.std.proofs.lemmas.List.{append-nil, map-append}
use Rattle.std.proofs.lemmas.List.FromFn.{map-range_with_len_more}
use Rattle.jk_geom.specs.declared.shape.TileShape.{TileShape}
use Rattle.jk_geom.specs.declared.shape.PacketName.{PacketName}
use Rattle.jk_geom.specs.TileShapes.{coding_of}
use Rattle.jk_order.specs.PacketOrder.{IsName, IsPrecinct, IsPacketOrder, is_of, layer_names, joined, order}
use Rattle.jk_order.proofs.Laws.{order_is, layers_of}
use Rattle.jk_packet.specs.declared.header.BlockContribution.{BlockContribution}
use Rattle.jk_packet.specs.Standing.{TellsLayers}
use Rattle.jk_packet.specs.Written.{AreTables, trees_in, layer_in, layers_before, bits_in, header_in, bodies_in}
use Rattle.jk_packet.proofs.Laws.{written_told, header_written, bodies_parts, bodies_lengths, bodies_joined}
use Rattle.jk_walk.specs.TilePackets.{Packet, bands_at, of_precinct, IsPacket, IsToldPrecinct, IsTile}
use Rattle.jk_walk.proofs.Laws.{at_own, its_precinct, all_of}
use Rattle.jk_tile.specs.encoding.PacketsWritten.{Tables, body_from, written_packet, written_packets, written_text}

-- every precinct of the tile has tables
pub record HaveTables (s : TileShape) (tables : Tables) : Type 0 where
  pub each : (c r k : ℕ) → IsPrecinct s c r k → AreTables (bands_at s.rect (coding_of s.codings c) r k) s.layers (tables c r k)

-- ---- bodies as they are cut

bytes_of : (bs : List (BlockContribution × List ℕ)) → flat_map (λ b. b.bytes) (map body_from bs) ≡ flat_map (λ b. b.1) bs
bytes_of [] = refl
bytes_of (b ∷ bs) = ap (λ (x : List ℕ). b.1 ++ x) (bytes_of bs)

parts_same : (bs : List (BlockContribution × List ℕ)) → map (λ b. b.part) (map body_from bs) ≡ map (λ b. b.0) bs
parts_same [] = refl
parts_same (b ∷ bs) = ap (λ (ps : List BlockContribution). b.0 ∷ ps) (parts_same bs)

lengths_of : (bs : List (BlockContribution × List ℕ)) → AllByRecursion (λ b. length b.1 ≡ b.0.length) bs → AllByRecursion (λ b. length b.bytes ≡ b.part.length) (map body_from bs)
lengths_of [] h = tt
lengths_of (b ∷ bs) h = (h.0, lengths_of bs h.1)

-- ---- each packet

pub names_of : (s : TileShape) (sop eph : Bool) (tables : Tables) (i : ℕ) (names : List PacketName) → map (λ p. p.name) (written_packets s sop eph tables i names) ≡ names
unfolding written_packet
names_of s sop eph tables i [] = refl
names_of s sop eph tables i (n ∷ names) = ap (λ (ns : List PacketName). n ∷ ns) (names_of s sop eph tables (i + 1) names)

packet_is : (s : TileShape) (sop eph : Bool) (tables : Tables) (i : ℕ) (n : PacketName) → HaveTables s tables → IsName s n → IsPacket sop eph (written_packet s sop eph tables i n)
unfolding written_packet
packet_is s sop eph tables i n have name =
    let shapes = bands_at s.rect (coding_of s.codings n.component) n.resolution n.precinct in
    let ts = tables n.component n.resolution n.precinct in
    let are = have.each n.component n.resolution n.precinct (its_precinct s n name) in
    let header = header_in shapes sop eph ts n.layer i in
    record {
      header = header;
      is_header = header_written shapes sop eph ts n.layer i;
      parts = parts_same (bodies_in ts n.layer) ∙ bodies_parts ts n.layer;
      lengths = lengths_of (bodies_in ts n.layer) (bodies_lengths ts n.layer);
      joins = ap (λ (x : List ℕ). header ++ x) (sym (bytes_of (bodies_in ts n.layer) ∙ bodies_joined shapes s.layers ts n.layer are name.layer));
    }

packets_are : (s : TileShape) (sop eph : Bool) (tables : Tables) (i : ℕ) (names : List PacketName) → HaveTables s tables → AllByRecursion (IsName s) names → AllByRecursion (IsPacket sop eph) (written_packets s sop eph tables i names)
packets_are s sop eph tables i [] have all = tt
packets_are s sop eph tables i (n ∷ names) have all = (packet_is s sop eph tables i n have all.0, packets_are s sop eph tables (i + 1) names have all.1)

-- ---- the packets of a precinct

-- What a packet has does not depend on its number in the tile.
abbrev OfLayer : {X : Type 0} → TileShape → (sop eph : Bool) → Tables → (Packet → X) → (ℕ → ℕ → ℕ → ℕ → X) → Type 0
OfLayer s sop eph tables g h = (i : ℕ) (n : PacketName) → g (written_packet s sop eph tables i n) ≡ h n.component n.resolution n.precinct n.layer

name_of : (s : TileShape) (sop eph : Bool) (tables : Tables) (i : ℕ) (n : PacketName) → (written_packet s sop eph tables i n).name ≡ n
unfolding written_packet
name_of s sop eph tables i n = refl

of_names : {X : Type 0} (s : TileShape) (sop eph : Bool) (tables : Tables) (g : Packet → X) (h : ℕ → ℕ → ℕ → ℕ → X) → OfLayer s sop eph tables g h → (c r k i : ℕ) (names : List PacketName)
    → map g (of_precinct c r k (written_packets s sop eph tables i names)) ≡ map (λ n. h c r k n.layer) (filter (is_of c r k) names)
of_names s sop eph tables g h same c r k i [] = refl
of_names {X} s sop eph tables g h same c r k i (n ∷ names) =
    let p = written_packet s sop eph tables i n in
    let rest = written_packets s sop eph tables (i + 1) names in
    let name = ap (is_of c r k) (name_of s sop eph tables i n) in
    elim (cases_Bool (is_of c r k n)) [
      | inl own ↦
          ap (map g) (cond-true (is_of c r k p.name) (p ∷ of_precinct c r k rest) (of_precinct c r k rest) (name ∙ own))
          ∙ ap (λ (x : X). x ∷ map g (of_precinct c r k rest)) (same i n ∙ at_own (λ a b d. h a b d n.layer) c r k n own)
          ∙ ap (λ (xs : List X). h c r k n.layer ∷ xs) (of_names s sop eph tables g h same c r k (i + 1) names)
          ∙ sym (ap (map (λ m. h c r k m.layer)) (cond-true (is_of c r k n) (n ∷ filter (is_of c r k) names) (filter (is_of c r k) names) own))
      | inr other ↦
          ap (map g) (cond-false (is_of c r k p.name) (p ∷ of_precinct c r k rest) (of_precinct c r k rest) (name ∙ other))
          ∙ of_names s sop eph tables g h same c r k (i + 1) names
          ∙ sym (ap (map (λ m. h c r k m.layer)) (cond-false (is_of c r k n) (n ∷ filter (is_of c r k) names) (filter (is_of c r k) names) other))
    ]

layers_mapped : {X : Type 0} (f : ℕ → X) (c r k n : ℕ) → map (λ m. f m.layer) (layer_names c r k n) ≡ map f (range_with_len 0 n)
unfolding joined
layers_mapped f c r k zero = refl
layers_mapped {X} f c r k (suc n) =
    let one : suc n ≡ n + 1 = omega arith in
    map-append (λ m. f m.layer) (layer_names c r k n) _ ∙ ap (λ (xs : List X). xs ++ f n ∷ []) (layers_mapped f c r k n)
    ∙ sym (map-range_with_len_more f 0 n n (omega arith)) ∙ ap (λ m. map f (range_with_len 0 m)) (sym one)

-- layer by layer
pub of_layers : {X : Type 0} (s : TileShape) (sop eph : Bool) (tables : Tables) (g : Packet → X) (h : ℕ → ℕ → ℕ → ℕ → X) → OfLayer s sop eph tables g h → (c r k : ℕ) → IsPrecinct s c r k
    → map g (of_precinct c r k (written_packets s sop eph tables 0 (order s))) ≡ map (h c r k) (range_with_len 0 s.layers)
of_layers s sop eph tables g h same c r k precinct =
    of_names s sop eph tables g h same c r k 0 (order s) ∙ ap (map (λ n. h c r k n.layer)) (layers_of s (order s) c r k (order_is s) precinct) ∙ layers_mapped (h c r k) c r k s.layers

layer_same : (s : TileShape) (sop eph : Bool) (tables : Tables) → OfLayer s sop eph tables (λ p. p.layer) (λ c r k l. layer_in (tables c r k) l)
unfolding written_packet
layer_same s sop eph tables i n = refl

bits_same : (s : TileShape) (sop eph : Bool) (tables : Tables) → OfLayer s sop eph tables (λ p. p.bits) (λ c r k l. bits_in (bands_at s.rect (coding_of s.codings c) r k) (tables c r k) l)
unfolding written_packet
bits_same s sop eph tables i n = refl

pub bodies_same : (s : TileShape) (sop eph : Bool) (tables : Tables) → OfLayer s sop eph tables (λ p. p.bodies) (λ c r k l. map body_from (bodies_in (tables c r k) l))
unfolding written_packet
bodies_same s sop eph tables i n = refl

told_precinct : (s : TileShape) (sop eph : Bool) (tables : Tables) (c r k : ℕ) → HaveTables s tables → IsPrecinct s c r k
    → IsToldPrecinct (bands_at s.rect (coding_of s.codings c) r k) (of_precinct c r k (written_packets s sop eph tables 0 (order s)))
told_precinct s sop eph tables c r k have precinct =
    let shapes = bands_at s.rect (coding_of s.codings c) r k in
    let ts = tables c r k in
    let told = written_told shapes s.layers ts (have.each c r k precinct) in
    let layers = of_layers s sop eph tables (λ p. p.layer) (λ c r k l. layer_in (tables c r k) l) (layer_same s sop eph tables) c r k precinct in
    let bits = of_layers s sop eph tables (λ p. p.bits) (λ c r k l. bits_in (bands_at s.rect (coding_of s.codings c) r k) (tables c r k) l) (bits_same s sop eph tables) c r k precinct in
    record {
      trees = trees_in shapes ts;
      are = told.0;
      told = subst (λ ls. TellsLayers shapes (trees_in shapes ts) ls (map (λ p. p.bits) (of_precinct c r k (written_packets s sop eph tables 0 (order s))))) (sym layers)
          (subst (λ bs. TellsLayers shapes (trees_in shapes ts) (layers_before ts s.layers) bs) (sym bits) told.1);
    }

-- the packets of the tile, in one part
pub tile_is : (s : TileShape) (sop eph : Bool) (tables : Tables) → HaveTables s tables → IsTile s sop eph (written_packets s sop eph tables 0 (order s)) (written_text s sop eph tables 0 (order s) ∷ [])
tile_is s sop eph tables have =
    let packets = written_packets s sop eph tables 0 (order s) in
    let is = order_is s in
    record {
      order = subst (IsPacketOrder s) (sym (names_of s sop eph tables 0 (order s))) is;
      texts = packets_are s sop eph tables 0 (order s) have (all_of (IsName s) (order s) (λ n c. (is.members n).0 c));
      told = λ c r k precinct. told_precinct s sop eph tables c r k have precinct;
      runs = packets ∷ [];
      whole = append-nil packets;
      cut = refl;
    }
