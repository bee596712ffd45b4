-- Whatever is read, the reader goes on by the bits that it gave.
use Rattle.std.proofs.Common.{◌≡◌, ℕ, zero, suc, ◌+◌, Bool, true, false, cond, List, [], Ok, subst, set}
use Rattle.std.specs.Prelude.{not}
use Rattle.jk_math.specs.Answer.{◌>>=◌, refuse}
use Rattle.jk_math.specs.Steps.{bind_then, refuse_then}
use Rattle.jk_math.specs.declared.fault.Fault.TheVariants.{PacketHeader}
use Rattle.jk_bits.specs.Reading.{Bits, bit_at}
use Rattle.jk_tree.specs.TagTree.{query_of}
use Rattle.jk_tree.specs.Asking.{TagTreeRead, node_at, ask_at}
use Rattle.jk_bits.specs.Giving.{Moves, stays, moves_on, bit_moves}
use Rattle.jk_tree.proofs.Laws.{ask_moves}
use Rattle.jk_packet.specs.declared.block.Block.{Block}
use Rattle.jk_packet.specs.Words.{most_passes}
use Rattle.jk_packet.specs.Reading.{BandState, BandWalk, Walk, block_in, band_in, included_at, zero_planes_at, piece_at, with_inclusion, with_piece, taken_at, block_at, blocks_at, band_at, bands_at, packet_at, bits_at}
use Rattle.jk_packet.proofs.Pieces.{coded_piece}

pub included_moves : (layer leaf : ℕ) (b : Block) (s : TagTreeRead × Bits) (o : Bool × (TagTreeRead × Bits)) → included_at layer leaf b s ≡ Ok o → Moves s.1 o.1.1
unfolding included_at
included_moves layer leaf b s o h = by_included b.included h
  where
    by_included : (c : Bool) → cond c (bit_at s.1 >>= λ r. Ok (r.0, (s.0, r.1))) (ask_at (query_of leaf (layer + 1)) s) ≡ Ok o → Moves s.1 o.1.1
    by_included true e = bind_then (bit_at s.1) (λ r. Ok (r.0, (s.0, r.1))) o e (λ r f k. let is : (r.0, (s.0, r.1)) ≡ o = cc in subst (λ (x : Bool × (TagTreeRead × Bits)). Moves s.1 x.1.1) is (bit_moves s.1 r f))
    by_included false e = ask_moves (query_of leaf (layer + 1)) s.0 s.1 o e

pub zeros_moves : (planes leaf : ℕ) (b : Block) (s : TagTreeRead × Bits) (o : ℕ × (TagTreeRead × Bits)) → zero_planes_at planes leaf b s ≡ Ok o → Moves s.1 o.1.1
unfolding zero_planes_at
zeros_moves planes leaf b s o h = by_included b.included h
  where
    by_included : (c : Bool) → cond c (Ok (b.zero_planes, s)) (ask_at (query_of leaf (planes + 1)) s >>= λ a. refuse (not a.0) PacketHeader >>= λ _. Ok ((node_at a.1.0.nodes leaf).low, a.1)) ≡ Ok o → Moves s.1 o.1.1
    by_included true e = let is : (b.zero_planes, s) ≡ o = cc in subst (λ (x : ℕ × (TagTreeRead × Bits)). Moves s.1 x.1.1) is (stays s.1)
    by_included false e =
        bind_then (ask_at (query_of leaf (planes + 1)) s) (λ a. refuse (not a.0) PacketHeader >>= λ _. Ok ((node_at a.1.0.nodes leaf).low, a.1)) o e (λ a f k.
        refuse_then (not a.0) PacketHeader (λ _. Ok ((node_at a.1.0.nodes leaf).low, a.1)) o k (λ _ l.
        let is : ((node_at a.1.0.nodes leaf).low, a.1) ≡ o = cc in
        subst (λ (x : ℕ × (TagTreeRead × Bits)). Moves s.1 x.1.1) is (ask_moves (query_of leaf (planes + 1)) s.0 s.1 a f)))

pub taken_moves : (number i : ℕ) (w v : BandWalk) → taken_at number i w ≡ Ok v → Moves w.bits v.bits
unfolding taken_at
taken_moves number i w v h =
    let b = block_in w.band.blocks i in
    bind_then (zero_planes_at w.band.planes i b (w.band.zeros, w.bits)) (λ z. piece_at (most_passes w.band.planes z.0) b.passes b.length_bits z.1.1 >>= λ p. Ok (with_piece number i w z p)) v h (λ z e k.
    bind_then (piece_at (most_passes w.band.planes z.0) b.passes b.length_bits z.1.1) (λ p. Ok (with_piece number i w z p)) v k (λ p f l.
    let is : with_piece number i w z p ≡ v = cc in
    let c = (coded_piece (most_passes w.band.planes z.0) b.passes b.length_bits).found z.1.1 p f in
    subst (λ (x : BandWalk). Moves w.bits x.bits) is (moves_on w.bits z.1.1 p.1 (zeros_moves w.band.planes i b (w.band.zeros, w.bits) z e) (c.0, c.2))))

pub block_moves : (number layer i : ℕ) (w v : BandWalk) → block_at number layer i w ≡ Ok v → Moves w.bits v.bits
unfolding block_at
block_moves number layer i w v h =
    let b = block_in w.band.blocks i in
    bind_then (included_at layer i b (w.band.inclusion, w.bits)) (λ o. cond o.0 (taken_at number i (with_inclusion w o.1)) (Ok (with_inclusion w o.1))) v h (λ o e k.
    moves_on w.bits o.1.1 v.bits (included_moves layer i b (w.band.inclusion, w.bits) o e) (by_answer o.0 o.1 k))
  where
    by_answer : (c : Bool) (s : TagTreeRead × Bits) → cond c (taken_at number i (with_inclusion w s)) (Ok (with_inclusion w s)) ≡ Ok v → Moves s.1 v.bits
    by_answer true s k = taken_moves number i (with_inclusion w s) v k
    by_answer false s k = let is : with_inclusion w s ≡ v = cc in subst (λ (x : BandWalk). Moves s.1 x.bits) is (stays s.1)

pub blocks_moves : (number layer more i : ℕ) (w v : BandWalk) → blocks_at number layer more i w ≡ Ok v → Moves w.bits v.bits
unfolding blocks_at
blocks_moves number layer zero i w v h = let is : w ≡ v = cc in subst (λ (x : BandWalk). Moves w.bits x.bits) is (stays w.bits)
blocks_moves number layer (suc more) i w v h =
    bind_then (block_at number layer i w) (λ u. blocks_at number layer more (i + 1) u) v h
    (λ u e k. moves_on w.bits u.bits v.bits (block_moves number layer i w u e) (blocks_moves number layer more (i + 1) u v k))

pub bands_moves : (layer more number : ℕ) (w v : Walk) → bands_at layer more number w ≡ Ok v → Moves w.bits v.bits
unfolding bands_at
bands_moves layer zero number w v h = let is : w ≡ v = cc in subst (λ (x : Walk). Moves w.bits x.bits) is (stays w.bits)
bands_moves layer (suc more) number w v h =
    let b : BandWalk = record { band = band_in w.bands number; bits = w.bits; parts = w.parts } in
    bind_then (band_at number layer b) (λ u. bands_at layer more (number + 1) (record { bands = set w.bands number u.band; bits = u.bits; parts = u.parts })) v h
    (λ u e k. moves_on w.bits u.bits v.bits (blocks_moves number layer _ 0 b u e) (bands_moves layer more (number + 1) (record { bands = set w.bands number u.band; bits = u.bits; parts = u.parts }) v k))

pub bits_move : (layer : ℕ) (bands : List BandState) (r : Bits) (v : Walk) → bits_at layer bands r ≡ Ok v → Moves r v.bits
unfolding bits_at
bits_move layer bands r v h =
    bind_then (bit_at r) (λ b. cond b.0 (packet_at layer (record { bands = bands; bits = b.1; parts = [] })) (Ok (record { bands = bands; bits = b.1; parts = [] }))) v h
    (λ b e k. moves_on r b.1 v.bits (bit_moves r b e) (by_bit b.0 b.1 k))
  where
    by_bit : (c : Bool) (s : Bits) → cond c (packet_at layer (record { bands = bands; bits = s; parts = [] })) (Ok (record { bands = bands; bits = s; parts = [] })) ≡ Ok v → Moves s v.bits
    by_bit true s k = bands_moves layer _ 0 (record { bands = bands; bits = s; parts = [] }) v k
    by_bit false s k = let w : Walk = record { bands = bands; bits = s; parts = [] } in let is : w ≡ v = cc in subst (λ (x : Walk). Moves s x.bits) is (stays s)
