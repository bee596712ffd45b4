-- The blocks of a sub-band, one after another.
use Rattle.std.proofs.Common.{◌≡◌, ℕ, zero, suc, ◌+◌, ◌*◌, ◌<◌, Bool, List, [], ◌∷◌, ◌++◌, length, get_or, take, Option, Some, None, Ok, refl, sym, ap, ◌∙◌, subst, arith, append_assoc, add-zero}
use Rattle.std.proofs.lemmas.List.{append-nil, length_push, take_at, get_or_at}
use Rattle.std.specs.List.{flat_map, range_with_len}
use Rattle.jk_math.specs.Steps.{bind_then}
use Rattle.jk_bits.specs.Reading.{Bits, ahead}
use Rattle.jk_tree.specs.TagTree.{Shape, Query}
use Rattle.jk_tree.specs.Asking.{AreTold}
use Rattle.jk_bits.specs.Giving.{GivesBits, advance, ahead_on, gives_none, gives_join}
use Rattle.jk_packet.specs.declared.shape.BandShape.{BandShape}
use Rattle.jk_packet.specs.declared.header.BlockContribution.{BlockContribution}
use Rattle.jk_packet.specs.Reading.{BandState, BandWalk, block_at, blocks_at}
use Rattle.jk_packet.specs.PacketText.{PacketContribution, BandLayer, asks_inclusion, asks_zeros, BandTrees, leaves, block_bits, band_bits, AreBlocks, block_parts, band_parts}
use Rattle.jk_packet.specs.Standing.{block_of, HoldsBlocks, BandStands}
use Rattle.jk_packet.proofs.Codes.{advance_twice}
use Rattle.jk_packet.proofs.QueryLaws.{before_layer, before_empty, so_far_layer, so_far_empty}
use Rattle.jk_packet.proofs.BandLaws.{blocks_none, blocks_next}
use Rattle.jk_packet.proofs.BlockLaws.{BandReached, block_only, BlockFound, block_found}

-- the bits of a sub-band, block by block, behind those of the blocks in front
pub band_from : Shape → BandTrees → List BandLayer → (front blocks : List (Option PacketContribution)) → List Bool
band_from s t layers front [] = []
band_from s t layers front (c ∷ cs) = block_bits s t layers front (length front) c ++ band_from s t layers (front ++ c ∷ []) cs

from_place : (s : Shape) (t : BandTrees) (layers : List BandLayer) (all front cs : List (Option PacketContribution)) → all ≡ front ++ cs
    → flat_map (λ i. block_bits s t layers (take i all) i (get_or all i None)) (range_with_len (length front) (length cs)) ≡ band_from s t layers front cs
unfolding band_from
from_place s t layers all front [] e = refl
from_place s t layers all front (c ∷ cs) e =
    let n = length front in
    let rest = flat_map (λ i. block_bits s t layers (take i all) i (get_or all i None)) (range_with_len (n + 1) (length cs)) in
    ap (λ (xs : List (Option PacketContribution)). block_bits s t layers xs n (get_or all n None) ++ rest) (ap (take n) e ∙ take_at front (c ∷ cs) n refl)
    ∙ ap (λ (x : Option PacketContribution). block_bits s t layers front n x ++ rest) (ap (λ (xs : List (Option PacketContribution)). get_or xs n None) e ∙ get_or_at front c cs None n refl)
    ∙ ap (λ m. block_bits s t layers front n c ++ flat_map (λ i. block_bits s t layers (take i all) i (get_or all i None)) (range_with_len m (length cs))) (sym (length_push front c))
    ∙ ap (λ (bits : List Bool). block_bits s t layers front n c ++ bits) (from_place s t layers all (front ++ c ∷ []) cs (e ∙ sym (append_assoc front (c ∷ []) cs)))

pub band_begins : (s : Shape) (t : BandTrees) (layers : List BandLayer) (cs : List (Option PacketContribution)) → band_bits s t layers cs ≡ band_from s t layers [] cs
unfolding band_bits
band_begins s t layers cs = from_place s t layers cs [] cs refl

bits_none : (b : BandShape) (t : BandTrees) (layers : List BandLayer) (front : List (Option PacketContribution)) → band_from (leaves b) t layers front [] ≡ []
unfolding band_from
bits_none b t layers front = refl

bits_more : (b : BandShape) (t : BandTrees) (layers : List BandLayer) (front : List (Option PacketContribution)) (c : Option PacketContribution) (cs : List (Option PacketContribution))
    → band_from (leaves b) t layers front (c ∷ cs) ≡ block_bits (leaves b) t layers front (length front) c ++ band_from (leaves b) t layers (front ++ c ∷ []) cs
unfolding band_from
bits_more b t layers front c cs = refl

parts_none : (number i : ℕ) → band_parts number i [] ≡ []
unfolding band_parts
parts_none number i = refl

parts_more : (number i : ℕ) (c : Option PacketContribution) (cs : List (Option PacketContribution)) → band_parts number i (c ∷ cs) ≡ block_parts number i c ++ band_parts number (i + 1) cs
unfolding band_parts
parts_more number i c cs = refl

pub advance_none : (r : Bits) → advance r 0 ≡ r
advance_none r = ap (λ n. record r { read = n }) (add-zero r.read)

-- What is told of blocks is read.
pub record BlocksOnly (b : BandShape) (t : BandTrees) (layers : List BandLayer) (front cs : List (Option PacketContribution)) (number : ℕ) (w : BandWalk) : Type 0 where
  pub after : BandWalk
  pub is : blocks_at number (length layers) (length cs) (length front) w ≡ Ok after
  pub stands : BandStands b t layers (front ++ cs) after.band
  pub bits : after.bits ≡ advance w.bits (length (band_from (leaves b) t layers front cs))
  pub parts : after.parts ≡ w.parts ++ band_parts number (length front) cs

pub blocks_only : (b : BandShape) (t : BandTrees) (layers : List BandLayer) (front cs : List (Option PacketContribution)) (number : ℕ) (w : BandWalk) (rest : List Bool) → length front + length cs ≡ b.across * b.down
    → BandStands b t layers front w.band → AreBlocks (leaves b) b.planes t layers (length front) cs → ahead w.bits ≡ band_from (leaves b) t layers front cs ++ rest → BlocksOnly b t layers front cs number w
blocks_only b t layers front [] number w rest count st are h = record {
  after = w;
  is = blocks_none number (length layers) (length front) w;
  stands = subst (λ (f : List (Option PacketContribution)). BandStands b t layers f w.band) (sym (append-nil front)) st;
  bits = sym (advance_none w.bits) ∙ ap (λ (xs : List Bool). advance w.bits (length xs)) (sym (bits_none b t layers front));
  parts = sym (append-nil w.parts) ∙ ap (λ (ps : List BlockContribution). w.parts ++ ps) (sym (parts_none number (length front)));
}
blocks_only b t layers front (c ∷ cs) number w rest count st are h =
    let i = length front in
    let first = block_bits (leaves b) t layers front (length front) c in
    let later = band_from (leaves b) t layers (front ++ c ∷ []) cs in
    let h1 : ahead w.bits ≡ first ++ (later ++ rest) = h ∙ ap (λ (xs : List Bool). xs ++ rest) (bits_more b t layers front c cs) ∙ append_assoc first later rest in
    let one = block_only b layers front number w st.holds (omega (arith, count)) t c (later ++ rest) st are.0 h1 in
    let v = one.after in
    let next : length (front ++ c ∷ []) ≡ i + 1 = length_push front c in
    let h2 : ahead v.bits ≡ later ++ rest = ap ahead one.bits ∙ ahead_on w.bits first (later ++ rest) h1 in
    let on = blocks_only b t layers (front ++ c ∷ []) cs number v rest (omega (arith, next, count)) one.stands (subst (λ k. AreBlocks (leaves b) b.planes t layers k cs) (sym next) are.1) h2 in
    record {
      after = on.after;
      is = blocks_next number (length layers) (length cs) i w v one.is ∙ ap (λ k. blocks_at number (length layers) (length cs) k v) (sym next) ∙ on.is;
      stands = subst (λ (f : List (Option PacketContribution)). BandStands b t layers f on.after.band) (append_assoc front (c ∷ []) cs) on.stands;
      bits =
          on.bits
          ∙ ap (λ (r : Bits). advance r (length later)) one.bits
          ∙ advance_twice w.bits first later
          ∙ ap (λ (xs : List Bool). advance w.bits (length xs)) (sym (bits_more b t layers front c cs));
      parts =
          on.parts
          ∙ ap (λ (ps : List BlockContribution). ps ++ band_parts number (length (front ++ c ∷ [])) cs) one.parts
          ∙ append_assoc w.parts (block_parts number i c) (band_parts number (length (front ++ c ∷ [])) cs)
          ∙ ap (λ k. w.parts ++ (block_parts number i c ++ band_parts number k cs)) next
          ∙ ap (λ (ps : List BlockContribution). w.parts ++ ps) (sym (parts_more number i c cs));
    }

-- What is read of blocks is told.
pub record BlocksFound (b : BandShape) (layers : List BandLayer) (front : List (Option PacketContribution)) (more number : ℕ) (w v : BandWalk) : Type 0 where
  pub cs : List (Option PacketContribution)
  pub count : length cs ≡ more
  pub reached : BandReached b layers (front ++ cs) v.band
  pub parts : v.parts ≡ w.parts ++ band_parts number (length front) cs
  pub each : (t : BandTrees) → BandStands b t layers (front ++ cs) v.band
      → BandStands b t layers front w.band × GivesBits w.bits (band_from (leaves b) t layers front cs) v.bits × AreBlocks (leaves b) b.planes t layers (length front) cs

blocks_end : (b : BandShape) (layers : List BandLayer) (front : List (Option PacketContribution)) (number : ℕ) (w : BandWalk) → BandReached b layers front w.band → BlocksFound b layers front 0 number w w
blocks_end b layers front number w reached = record {
  cs = [];
  count = refl;
  reached = subst (λ (f : List (Option PacketContribution)). BandReached b layers f w.band) (sym (append-nil front)) reached;
  parts = sym (append-nil w.parts) ∙ ap (λ (ps : List BlockContribution). w.parts ++ ps) (sym (parts_none number (length front)));
  each = λ t st. (
    subst (λ (f : List (Option PacketContribution)). BandStands b t layers f w.band) (append-nil front) st,
    subst (λ (xs : List Bool). GivesBits w.bits xs w.bits) (sym (bits_none b t layers front)) (gives_none w.bits),
    tt,
  );
}

blocks_step : (b : BandShape) (layers : List BandLayer) (front : List (Option PacketContribution)) (more number : ℕ) (w u v : BandWalk) (holds : HoldsBlocks b layers front w.band) (less : length front < b.across * b.down)
    → (one : BlockFound b layers front number w holds less u) → BlocksFound b layers (front ++ one.c ∷ []) more number u v → BlocksFound b layers front (suc more) number w v
blocks_step b layers front more number w u v holds less one on =
    let next : length (front ++ one.c ∷ []) ≡ length front + 1 = length_push front one.c in
    record {
      cs = one.c ∷ on.cs;
      count = ap suc on.count;
      reached = subst (λ (f : List (Option PacketContribution)). BandReached b layers f v.band) (append_assoc front (one.c ∷ []) on.cs) on.reached;
      parts =
          on.parts
          ∙ ap (λ (ps : List BlockContribution). ps ++ band_parts number (length (front ++ one.c ∷ [])) on.cs) one.parts
          ∙ append_assoc w.parts (block_parts number (length front) one.c) (band_parts number (length (front ++ one.c ∷ [])) on.cs)
          ∙ ap (λ k. w.parts ++ (block_parts number (length front) one.c ++ band_parts number k on.cs)) next
          ∙ ap (λ (ps : List BlockContribution). w.parts ++ ps) (sym (parts_more number (length front) one.c on.cs));
      each = λ t st.
          let e = on.each t (subst (λ (f : List (Option PacketContribution)). BandStands b t layers f v.band) (sym (append_assoc front (one.c ∷ []) on.cs)) st) in
          let f = one.each t e.0 in (
            f.0,
            subst (λ (xs : List Bool). GivesBits w.bits xs v.bits) (sym (bits_more b t layers front one.c on.cs))
                (gives_join w.bits u.bits v.bits (block_bits (leaves b) t layers front (length front) one.c) (band_from (leaves b) t layers (front ++ one.c ∷ []) on.cs) f.1 e.1),
            (f.2, subst (λ k. AreBlocks (leaves b) b.planes t layers k on.cs) next e.2),
          );
    }

pub blocks_found : (b : BandShape) (layers : List BandLayer) (front : List (Option PacketContribution)) (more number : ℕ) (w v : BandWalk) → length front + more ≡ b.across * b.down → BandReached b layers front w.band
    → blocks_at number (length layers) more (length front) w ≡ Ok v → BlocksFound b layers front more number w v
unfolding blocks_at
blocks_found b layers front zero number w v count reached h = let is : w ≡ v = cc in subst (λ (x : BandWalk). BlocksFound b layers front 0 number w x) is (blocks_end b layers front number w reached)
blocks_found b layers front (suc more) number w v count reached h =
    let less : length front < b.across * b.down = omega (arith, count) in
    bind_then (block_at number (length layers) (length front) w) (λ u. blocks_at number (length layers) more (length front + 1) u) v h (λ u e k.
    let one = block_found b layers front number w reached.holds less u reached e in
    let next : length (front ++ one.c ∷ []) ≡ length front + 1 = length_push front one.c in
    blocks_step b layers front more number w u v reached.holds less one
    (blocks_found b layers (front ++ one.c ∷ []) more number u v (omega (arith, next, count)) one.reached (ap (λ i. blocks_at number (length layers) more i u) next ∙ k)))

-- A whole packet of a sub-band is a layer of it.
holds_layer : (b : BandShape) (layers : List BandLayer) (cs : List (Option PacketContribution)) (s : BandState) → HoldsBlocks b layers cs s → HoldsBlocks b (layers ++ Some cs ∷ []) [] s
holds_layer b layers cs s h = record {
  shape = h.shape;
  planes = h.planes;
  long = h.long;
  blocks = λ j less. h.blocks j less ∙ ap block_of (sym (so_far_layer layers cs j));
  inclusion = h.inclusion;
  zeros = h.zeros;
}

holds_packet : (b : BandShape) (layers : List BandLayer) (cs : List (Option PacketContribution)) (s : BandState) → HoldsBlocks b (layers ++ Some cs ∷ []) [] s → HoldsBlocks b layers cs s
holds_packet b layers cs s h = record {
  shape = h.shape;
  planes = h.planes;
  long = h.long;
  blocks = λ j less. h.blocks j less ∙ ap block_of (so_far_layer layers cs j);
  inclusion = h.inclusion;
  zeros = h.zeros;
}

pub stands_layer : (b : BandShape) (t : BandTrees) (layers : List BandLayer) (cs : List (Option PacketContribution)) (s : BandState) → BandStands b t layers cs s → BandStands b t (layers ++ Some cs ∷ []) [] s
stands_layer b t layers cs s st = record {
  holds = holds_layer b layers cs s st.holds;
  inclusion = subst (λ (qs : List Query). AreTold (leaves b) t.inclusion qs s.inclusion.nodes) (sym (before_layer asks_inclusion layers cs)) st.inclusion;
  zeros = subst (λ (qs : List Query). AreTold (leaves b) t.zeros qs s.zeros.nodes) (sym (before_layer asks_zeros layers cs)) st.zeros;
}

pub stands_packet : (b : BandShape) (t : BandTrees) (layers : List BandLayer) (cs : List (Option PacketContribution)) (s : BandState) → BandStands b t (layers ++ Some cs ∷ []) [] s → BandStands b t layers cs s
stands_packet b t layers cs s st = record {
  holds = holds_packet b layers cs s st.holds;
  inclusion = subst (λ (qs : List Query). AreTold (leaves b) t.inclusion qs s.inclusion.nodes) (before_layer asks_inclusion layers cs) st.inclusion;
  zeros = subst (λ (qs : List Query). AreTold (leaves b) t.zeros qs s.zeros.nodes) (before_layer asks_zeros layers cs) st.zeros;
}

-- An empty packet is a layer that leaves a sub-band as it is.
pub stands_empty : (b : BandShape) (t : BandTrees) (layers : List BandLayer) (s : BandState) → BandStands b t layers [] s → BandStands b t (layers ++ None ∷ []) [] s
stands_empty b t layers s st = record {
  holds = record {
    shape = st.holds.shape;
    planes = st.holds.planes;
    long = st.holds.long;
    blocks = λ j less. st.holds.blocks j less ∙ ap block_of (sym (so_far_empty layers j));
    inclusion = st.holds.inclusion;
    zeros = st.holds.zeros;
  };
  inclusion = subst (λ (qs : List Query). AreTold (leaves b) t.inclusion qs s.inclusion.nodes) (sym (before_empty asks_inclusion layers)) st.inclusion;
  zeros = subst (λ (qs : List Query). AreTold (leaves b) t.zeros qs s.zeros.nodes) (sym (before_empty asks_zeros layers)) st.zeros;
}

pub stands_still : (b : BandShape) (t : BandTrees) (layers : List BandLayer) (s : BandState) → BandStands b t (layers ++ None ∷ []) [] s → BandStands b t layers [] s
stands_still b t layers s st = record {
  holds = record {
    shape = st.holds.shape;
    planes = st.holds.planes;
    long = st.holds.long;
    blocks = λ j less. st.holds.blocks j less ∙ ap block_of (so_far_empty layers j);
    inclusion = st.holds.inclusion;
    zeros = st.holds.zeros;
  };
  inclusion = subst (λ (qs : List Query). AreTold (leaves b) t.inclusion qs s.inclusion.nodes) (before_empty asks_inclusion layers) st.inclusion;
  zeros = subst (λ (qs : List Query). AreTold (leaves b) t.zeros qs s.zeros.nodes) (before_empty asks_zeros layers) st.zeros;
}
