-- What is read of a packet header in the first bytes of a part is read in all of it.
use Rattle.std.proofs.Common.{◌≡◌, ℕ, zero, suc, ◌+◌, ◌-◌, ◌*◌, ◌≤◌, max, Bool, true, false, cond, List, [], ◌∷◌, ◌++◌, length, set, drop, get_or, Option, Some, None, Result, Ok, Err, refl, sym, ap, ◌∙◌, arith, append_assoc}
use Rattle.std.specs.Prelude.{◌||◌, ◌&&◌, ◌==◌, not, nat_lt, nat_le}
use Rattle.std.proofs.lemmas.Bool.Decides.{nat_tests}
use Rattle.std.proofs.lemmas.List.{drop-append-le, length-drop}
use Rattle.jk_math.specs.Answer.{◌>>=◌, refuse}
use Rattle.jk_math.specs.Steps.{bind_then, refuse_then}
use Rattle.jk_math.specs.declared.fault.Fault.{Fault}
use Rattle.jk_math.specs.declared.fault.Fault.TheVariants.{Truncated, BadLength, PacketHeader, TooManyPasses}
use Rattle.jk_bits.specs.Stuffing.{room, stuffed_one, binary, first_byte, spread, size}
use Rattle.jk_bits.specs.Giving.{same_bytes}
use Rattle.jk_packet.proofs.Moves.{bits_move}
use Rattle.jk_bits.specs.Reading.{Bits, ahead, first_bit, fault_ahead, bit_at, finish_at}
use Rattle.jk_bits.proofs.Laws.{finish_within}
use Rattle.jk_tree.specs.TagTree.{Shape, Query, query_of, top, node_number, column, row}
use Rattle.jk_tree.specs.declared.node.Node.{Node}
use Rattle.jk_tree.specs.Asking.{TagTreeRead, node_at, climb, visit, walk, unless_failed, ask_at}
use Rattle.jk_packet.specs.Words.{floor_log2, most_passes}
use Rattle.jk_packet.specs.declared.block.Block.{Block}
use Rattle.jk_packet.specs.Reading.{digit, number_at, passes_at, growth_at, piece_at, included_at, zero_planes_at, BandState, BandWalk, block_in, with_inclusion, with_piece, taken_at, block_at, blocks_at, band_at, Walk, band_in, bands_at, packet_at, sop_at, eph_at, PrecinctState, HeaderText, bits_of, bits_at, text_end, text_rest, text_at, header_at}

-- ---- bits

-- the reader over more bytes
abbrev wide : List ℕ → Bits → Bits
wide more r = record r { bytes = r.bytes ++ more }

-- the bits that the bytes hold stand in front of those that more bytes hold
spread_front : (after : Bool) (bytes more : List ℕ) → (rest : List Bool) × (spread after (bytes ++ more) ≡ spread after bytes ++ rest)
unfolding spread
spread_front after [] more = (spread after more, refl)
spread_front after (b ∷ bytes) more =
    let rest = spread_front (b == 255) bytes more in
    by_stuffed (stuffed_one after b) rest.0 rest.1
  where
    by_stuffed : (t : Bool) (rest : List Bool) → spread (b == 255) (bytes ++ more) ≡ spread (b == 255) bytes ++ rest
        → (all : List Bool) × (cond t [] (binary (room after) b ++ spread (b == 255) (bytes ++ more)) ≡ cond t [] (binary (room after) b ++ spread (b == 255) bytes) ++ all)
    by_stuffed true rest e = ([], refl)
    by_stuffed false rest e = (rest, ap (λ (xs : List Bool). binary (room after) b ++ xs) e ∙ sym (append_assoc (binary (room after) b) (spread (b == 255) bytes) rest))

-- what is left of a list that another begins with
drop_front : (n : ℕ) (bits rest : List Bool) (b : Bool) (later : List Bool) → drop n bits ≡ b ∷ later → drop n (bits ++ rest) ≡ b ∷ (later ++ rest)
drop_front zero [] rest b later e = absurd cc
drop_front zero (a ∷ bits) rest b later e = ap (λ (xs : List Bool). xs ++ rest) e
drop_front (suc n) [] rest b later e = absurd cc
drop_front (suc n) (a ∷ bits) rest b later e = drop_front n bits rest b later e

first_wide : (r : Bits) (more : List ℕ) (xs ys : List Bool) (o : Bool × Bits) → ((b : Bool) (later : List Bool) → xs ≡ b ∷ later → (l : List Bool) × (ys ≡ b ∷ l)) → first_bit r xs ≡ Ok o → first_bit (wide more r) ys ≡ Ok (o.0, wide more o.1)
first_wide r more [] ys o on e = absurd cc
first_wide r more (b ∷ later) ys o on e =
    let l = on b later refl in
    let is : (b, record r { read = r.read + 1 }) ≡ o = cc in
    ap (first_bit (wide more r)) l.1 ∙ ap (λ (p : Bool × Bits). Ok (p.0, wide more p.1)) is

bit_wide : (r : Bits) (more : List ℕ) (o : Bool × Bits) → bit_at r ≡ Ok o → bit_at (wide more r) ≡ Ok (o.0, wide more o.1)
unfolding bit_at
bit_wide r more o e =
    let f = spread_front false r.bytes more in
    first_wide r more (ahead r) (ahead (wide more r)) o
    (λ b later h. (later ++ f.0, ap (drop r.read) f.1 ∙ drop_front r.read (spread false r.bytes) f.0 b later h)) e

size_wide : (after : Bool) (n : ℕ) (bytes more : List ℕ) (m : ℕ) → size after n bytes ≡ Ok m → size after n (bytes ++ more) ≡ Ok m
unfolding size first_byte
size_wide false zero bytes more m h = h
size_wide true zero [] more m h = absurd cc
size_wide true zero (b ∷ bytes) more m h = h
size_wide after (suc n) [] more m h = absurd cc
size_wide after (suc n) (b ∷ bytes) more m h =
    bind_then (first_byte after (b ∷ bytes)) (λ _. size (b == 255) (suc n - room after) bytes >>= λ k. Ok (suc k)) m h (λ x first k.
    bind_then (size (b == 255) (suc n - room after) bytes) (λ k. Ok (suc k)) m k (λ j rest l.
    ap (λ (r : Result ℕ Fault). r >>= λ _. size (b == 255) (suc n - room after) (bytes ++ more) >>= λ k. Ok (suc k)) first
    ∙ ap (λ (r : Result ℕ Fault). r >>= λ k. Ok (suc k)) (size_wide (b == 255) (suc n - room after) bytes more j rest)
    ∙ l))

finish_wide : (r : Bits) (more : List ℕ) (m : ℕ) → finish_at r ≡ Ok m → finish_at (wide more r) ≡ Ok m
unfolding finish_at
finish_wide r more m h = by_failed r.failed h
  where
    by_failed : (f : Bool) → cond f (Err (fault_ahead r)) (size false r.read r.bytes) ≡ Ok m → cond f (Err (fault_ahead (wide more r))) (size false r.read (r.bytes ++ more)) ≡ Ok m
    by_failed true e = absurd cc
    by_failed false e = size_wide false r.read r.bytes more m e

-- ---- steps that read bits

-- what is read of some bytes is read of more
abbrev IsForward : {A : Type 0} → (Bits → Result (A × Bits) Fault) → Type 0
IsForward {A} f = (r : Bits) (more : List ℕ) (o : A × Bits) → f r ≡ Ok o → f (wide more r) ≡ Ok (o.0, wide more o.1)

bind_on : {A B : Type 0} {r s : Result A Fault} (f : A → Result B Fault) → r ≡ s → (r >>= f) ≡ (s >>= f)
bind_on {A} f e = ap (λ (x : Result A Fault). x >>= f) e

done_forward : {A : Type 0} (a : A) → IsForward (λ r. Ok (a, r))
done_forward {A} a r more o h = let is : (a, r) ≡ o = cc in ap (λ (p : A × Bits). Ok (p.0, wide more p.1)) is

err_forward : {A : Type 0} (e : Fault) → IsForward {A = A} (λ r. Err e)
err_forward e r more o h = absurd cc

bind_forward : {A B : Type 0} (f : Bits → Result (A × Bits) Fault) (g : A → Bits → Result (B × Bits) Fault) → IsForward f → ((a : A) → IsForward (g a)) → IsForward (λ r. f r >>= λ p. g p.0 p.1)
bind_forward {A} {B} f g on next r more o h =
    bind_then (f r) (λ p. g p.0 p.1) o h (λ p e k. ap (λ (w : Result (A × Bits) Fault). w >>= λ q. g q.0 q.1) (on r more p e) ∙ next p.0 p.1 more o k)

cond_forward : {A : Type 0} (b : Bool) (f g : Bits → Result (A × Bits) Fault) → IsForward f → IsForward g → IsForward (λ r. cond b (f r) (g r))
cond_forward true f g on other r more o h = on r more o h
cond_forward false f g on other r more o h = other r more o h

refuse_forward : {A : Type 0} (b : Bool) (d : Fault) (f : Bits → Result (A × Bits) Fault) → IsForward f → IsForward (λ r. refuse b d >>= λ _. f r)
refuse_forward true d f on r more o h = absurd cc
refuse_forward false d f on r more o h = on r more o h

bit_forward : IsForward bit_at
bit_forward r more o h = bit_wide r more o h

number_forward : (n value : ℕ) → IsForward (number_at n value)
unfolding number_at
number_forward zero value = done_forward value
number_forward (suc n) value = bind_forward bit_at (λ b r. number_at n (value * 2 + digit b) r) bit_forward (λ b. number_forward n (value * 2 + digit b))

passes_forward : IsForward passes_at
unfolding passes_at
passes_forward =
    bind_forward bit_at (λ a r. cond (not a) (Ok (1, r)) (two r)) bit_forward (λ a. cond_forward (not a) (λ r. Ok (1, r)) two (done_forward 1) two_forward)
  where
    five : Bits → Result (ℕ × Bits) Fault
    five r = number_at 7 0 r >>= λ e. Ok (37 + e.0, e.1)

    five_forward : IsForward five
    five_forward = bind_forward (number_at 7 0) (λ e r. Ok (37 + e, r)) (number_forward 7 0) (λ e. done_forward (37 + e))

    four : Bits → Result (ℕ × Bits) Fault
    four r = number_at 5 0 r >>= λ d. cond (nat_lt d.0 31) (Ok (6 + d.0, d.1)) (five d.1)

    four_forward : IsForward four
    four_forward = bind_forward (number_at 5 0) (λ d r. cond (nat_lt d 31) (Ok (6 + d, r)) (five r)) (number_forward 5 0) (λ d. cond_forward (nat_lt d 31) (λ r. Ok (6 + d, r)) five (done_forward (6 + d)) five_forward)

    three : Bits → Result (ℕ × Bits) Fault
    three r = number_at 2 0 r >>= λ c. cond (nat_lt c.0 3) (Ok (3 + c.0, c.1)) (four c.1)

    three_forward : IsForward three
    three_forward = bind_forward (number_at 2 0) (λ c r. cond (nat_lt c 3) (Ok (3 + c, r)) (four r)) (number_forward 2 0) (λ c. cond_forward (nat_lt c 3) (λ r. Ok (3 + c, r)) four (done_forward (3 + c)) four_forward)

    two : Bits → Result (ℕ × Bits) Fault
    two r = bit_at r >>= λ b. cond (not b.0) (Ok (2, b.1)) (three b.1)

    two_forward : IsForward two
    two_forward = bind_forward bit_at (λ b r. cond (not b) (Ok (2, r)) (three r)) bit_forward (λ b. cond_forward (not b) (λ r. Ok (2, r)) three (done_forward 2) three_forward)

growth_forward : (n growth : ℕ) → IsForward (growth_at n growth)
unfolding growth_at
growth_forward zero growth = err_forward PacketHeader
growth_forward (suc n) growth =
    bind_forward bit_at (λ b r. cond b (growth_at n (growth + 1) r) (Ok (growth, r))) bit_forward (λ b. cond_forward b (growth_at n (growth + 1)) (λ r. Ok (growth, r)) (growth_forward n (growth + 1)) (done_forward growth))

piece_forward : (most before lblock : ℕ) → IsForward (piece_at most before lblock)
unfolding piece_at
piece_forward most before lblock =
    bind_forward passes_at
    (λ n r. refuse (nat_lt most (before + n)) TooManyPasses >>= λ _. growth_at (33 - (lblock + floor_log2 n)) 0 r >>= λ g. number_at (lblock + g.0 + floor_log2 n) 0 g.1 >>= λ k. Ok (record { passes = n; growth = g.0; length = k.0 }, k.1))
    passes_forward
    (λ n. refuse_forward (nat_lt most (before + n)) TooManyPasses (λ r. growth_at (33 - (lblock + floor_log2 n)) 0 r >>= λ g. number_at (lblock + g.0 + floor_log2 n) 0 g.1 >>= λ k. Ok (record { passes = n; growth = g.0; length = k.0 }, k.1))
    (bind_forward (growth_at (33 - (lblock + floor_log2 n)) 0) (λ g r. number_at (lblock + g + floor_log2 n) 0 r >>= λ k. Ok (record { passes = n; growth = g; length = k.0 }, k.1)) (growth_forward (33 - (lblock + floor_log2 n)) 0)
    (λ g. bind_forward (number_at (lblock + g + floor_log2 n) 0) (λ k r. Ok (record { passes = n; growth = g; length = k }, r)) (number_forward (lblock + g + floor_log2 n) 0) (λ k. done_forward (record { passes = n; growth = g; length = k })))))

-- ---- queries

climb_forward : (low n : ℕ) → IsForward (climb low n)
unfolding climb
climb_forward low zero = done_forward (record { low = low; known = false })
climb_forward low (suc n) =
    bind_forward bit_at (λ b r. cond b (Ok (record { low = low; known = true }, r)) (climb (low + 1) n r)) bit_forward
    (λ b. cond_forward b (λ r. Ok (record { low = low; known = true }, r)) (climb (low + 1) n) (done_forward (record { low = low; known = true })) (climb_forward (low + 1) n))

visit_forward : (node : Node) (over threshold : ℕ) → IsForward (visit node over threshold)
unfolding visit
visit_forward node over threshold =
    cond_forward (node.known || nat_le threshold node.low) (λ r. Ok (node, r)) (climb (max node.low over) (threshold - max node.low over)) (done_forward node) (climb_forward (max node.low over) (threshold - max node.low over))

-- the same where a list of nodes stands beside the bits
abbrev IsForwardBy : {A B : Type 0} → (Bits → Result (A × (B × Bits)) Fault) → Type 0
IsForwardBy {A} {B} f = (r : Bits) (more : List ℕ) (o : A × (B × Bits)) → f r ≡ Ok o → f (wide more r) ≡ Ok (o.0, (o.1.0, wide more o.1.1))

done_by : {A B : Type 0} (a : A) (b : B) → IsForwardBy (λ r. Ok (a, (b, r)))
done_by {A} {B} a b r more o h = let is : (a, (b, r)) ≡ o = cc in ap (λ (p : A × (B × Bits)). Ok (p.0, (p.1.0, wide more p.1.1))) is

bind_by : {A B C : Type 0} (f : Bits → Result (C × Bits) Fault) (g : C → Bits → Result (A × (B × Bits)) Fault) → IsForward f → ((c : C) → IsForwardBy (g c)) → IsForwardBy (λ r. f r >>= λ p. g p.0 p.1)
bind_by {A} {B} {C} f g on next r more o h =
    bind_then (f r) (λ p. g p.0 p.1) o h (λ p e k. ap (λ (w : Result (C × Bits) Fault). w >>= λ q. g q.0 q.1) (on r more p e) ∙ next p.0 p.1 more o k)

by_bind : {A B C D : Type 0} (f : Bits → Result (C × (D × Bits)) Fault) (g : C → D → Bits → Result (A × (B × Bits)) Fault) → IsForwardBy f → ((c : C) (d : D) → IsForwardBy (g c d)) → IsForwardBy (λ r. f r >>= λ p. g p.0 p.1.0 p.1.1)
by_bind {A} {B} {C} {D} f g on next r more o h =
    bind_then (f r) (λ p. g p.0 p.1.0 p.1.1) o h (λ p e k. ap (λ (w : Result (C × (D × Bits)) Fault). w >>= λ q. g q.0 q.1.0 q.1.1) (on r more p e) ∙ next p.0 p.1.0 p.1.1 more o k)

cond_by : {A B : Type 0} (b : Bool) (f g : Bits → Result (A × (B × Bits)) Fault) → IsForwardBy f → IsForwardBy g → IsForwardBy (λ r. cond b (f r) (g r))
cond_by true f g on other r more o h = on r more o h
cond_by false f g on other r more o h = other r more o h

refuse_by : {A B : Type 0} (b : Bool) (d : Fault) (f : Bits → Result (A × (B × Bits)) Fault) → IsForwardBy f → IsForwardBy (λ r. refuse b d >>= λ _. f r)
refuse_by true d f on r more o h = absurd cc
refuse_by false d f on r more o h = on r more o h

walk_forward : (s : Shape) (q : Query) (i over : ℕ) (nodes : List Node) → IsForwardBy (walk s q i over nodes)
unfolding walk
walk_forward s q zero over nodes = done_by true nodes
walk_forward s q (suc i) over nodes =
    let p = node_number s i (column s q.leaf i) (row s q.leaf i) in
    bind_by (visit (node_at nodes p) over q.threshold) (λ n r. cond (nat_lt n.low q.threshold) (walk s q i n.low (set nodes p n) r) (Ok (false, (set nodes p n, r)))) (visit_forward (node_at nodes p) over q.threshold)
    (λ n. cond_by (nat_lt n.low q.threshold) (walk s q i n.low (set nodes p n)) (λ r. Ok (false, (set nodes p n, r))) (walk_forward s q i n.low (set nodes p n)) (done_by false (set nodes p n)))

ask_forward : (q : Query) (t : TagTreeRead) → IsForwardBy (λ r. ask_at q (t, r))
unfolding ask_at
ask_forward q t r more o h = by_failed t.failed h
  where
    by_failed : (f : Option Fault) → unless_failed {A = Bool × (TagTreeRead × Bits)} f (walk t.shape q (top t.shape + 1) 0 t.nodes r >>= λ p. Ok (p.0, (record t { nodes = p.1.0 }, p.1.1))) ≡ Ok o
        → unless_failed {A = Bool × (TagTreeRead × Bits)} f (walk t.shape q (top t.shape + 1) 0 t.nodes (wide more r) >>= λ p. Ok (p.0, (record t { nodes = p.1.0 }, p.1.1))) ≡ Ok (o.0, (o.1.0, wide more o.1.1))
    by_failed (Some e) k = absurd cc
    by_failed None k =
        by_bind (walk t.shape q (top t.shape + 1) 0 t.nodes) (λ a nodes s. Ok (a, (record t { nodes = nodes }, s))) (walk_forward t.shape q (top t.shape + 1) 0 t.nodes) (λ a nodes. done_by a (record t { nodes = nodes })) r more o k

-- ---- code-blocks and sub-bands

included_forward : (layer leaf : ℕ) (b : Block) (t : TagTreeRead) → IsForwardBy (λ r. included_at layer leaf b (t, r))
unfolding included_at
included_forward layer leaf b t =
    cond_by b.included (λ r. bit_at r >>= λ a. Ok (a.0, (t, a.1))) (λ r. ask_at (query_of leaf (layer + 1)) (t, r))
    (bind_by bit_at (λ a r. Ok (a, (t, r))) bit_forward (λ a. done_by a t)) (ask_forward (query_of leaf (layer + 1)) t)

zeros_forward : (planes leaf : ℕ) (b : Block) (t : TagTreeRead) → IsForwardBy (λ r. zero_planes_at planes leaf b (t, r))
unfolding zero_planes_at
zeros_forward planes leaf b t =
    cond_by b.included (λ r. Ok (b.zero_planes, (t, r))) (λ r. ask_at (query_of leaf (planes + 1)) (t, r) >>= λ o. refuse (not o.0) PacketHeader >>= λ _. Ok ((node_at o.1.0.nodes leaf).low, o.1))
    (done_by b.zero_planes t)
    (by_bind (λ r. ask_at (query_of leaf (planes + 1)) (t, r)) (λ a u r. refuse (not a) PacketHeader >>= λ _. Ok ((node_at u.nodes leaf).low, (u, r))) (ask_forward (query_of leaf (planes + 1)) t)
    (λ a u. refuse_by (not a) PacketHeader (λ r. Ok ((node_at u.nodes leaf).low, (u, r))) (done_by (node_at u.nodes leaf).low u)))

-- the walk over more bytes
abbrev widen : List ℕ → BandWalk → BandWalk
widen more w = record w { bits = wide more w.bits }

abbrev IsBandForward : (BandWalk → Result BandWalk Fault) → Type 0
IsBandForward f = (w : BandWalk) (more : List ℕ) (v : BandWalk) → f w ≡ Ok v → f (widen more w) ≡ Ok (widen more v)

taken_forward : (number i : ℕ) → IsBandForward (taken_at number i)
unfolding taken_at
taken_forward number i w more v h =
    let b = block_in w.band.blocks i in
    bind_then (zero_planes_at w.band.planes i b (w.band.zeros, w.bits)) (λ z. piece_at (most_passes w.band.planes z.0) b.passes b.length_bits z.1.1 >>= λ p. Ok (with_piece number i w z p)) v h (λ z e k.
    bind_then (piece_at (most_passes w.band.planes z.0) b.passes b.length_bits z.1.1) (λ p. Ok (with_piece number i w z p)) v k (λ p f l.
    let is : with_piece number i w z p ≡ v = cc in
    ap (λ (r : Result (ℕ × (TagTreeRead × Bits)) Fault). r >>= λ y. piece_at (most_passes w.band.planes y.0) b.passes b.length_bits y.1.1 >>= λ q. Ok (with_piece number i (widen more w) y q)) (zeros_forward w.band.planes i b w.band.zeros w.bits more z e)
    ∙ bind_on (λ q. Ok (with_piece number i (widen more w) (z.0, (z.1.0, wide more z.1.1)) q)) (piece_forward (most_passes w.band.planes z.0) b.passes b.length_bits z.1.1 more p f)
    ∙ ap (λ (u : BandWalk). Ok (widen more u)) is))

block_forward : (number layer i : ℕ) → IsBandForward (block_at number layer i)
unfolding block_at
block_forward number layer i w more v h =
    let b = block_in w.band.blocks i in
    bind_then (included_at layer i b (w.band.inclusion, w.bits)) (λ o. cond o.0 (taken_at number i (with_inclusion w o.1)) (Ok (with_inclusion w o.1))) v h (λ o e k.
    ap (λ (r : Result (Bool × (TagTreeRead × Bits)) Fault). r >>= λ q. cond q.0 (taken_at number i (with_inclusion (widen more w) q.1)) (Ok (with_inclusion (widen more w) q.1))) (included_forward layer i b w.band.inclusion w.bits more o e)
    ∙ by_answer o.0 o.1 k)
  where
    by_answer : (c : Bool) (s : TagTreeRead × Bits) → cond c (taken_at number i (with_inclusion w s)) (Ok (with_inclusion w s)) ≡ Ok v
        → cond c (taken_at number i (with_inclusion (widen more w) (s.0, wide more s.1))) (Ok (with_inclusion (widen more w) (s.0, wide more s.1))) ≡ Ok (widen more v)
    by_answer true s k = taken_forward number i (with_inclusion w s) more v k
    by_answer false s k = let is : with_inclusion w s ≡ v = cc in ap (λ (u : BandWalk). Ok (widen more u)) is

blocks_forward : (number layer n i : ℕ) → IsBandForward (blocks_at number layer n i)
unfolding blocks_at
blocks_forward number layer zero i w more v h = let is : w ≡ v = cc in ap (λ (u : BandWalk). Ok (widen more u)) is
blocks_forward number layer (suc n) i w more v h =
    bind_then (block_at number layer i w) (λ u. blocks_at number layer n (i + 1) u) v h
    (λ u e k. ap (λ (r : Result BandWalk Fault). r >>= λ t. blocks_at number layer n (i + 1) t) (block_forward number layer i w more u e) ∙ blocks_forward number layer n (i + 1) u more v k)

-- the walk over the sub-bands, over more bytes
abbrev widened : List ℕ → Walk → Walk
widened more w = record w { bits = wide more w.bits }

abbrev IsWalkForward : (Walk → Result Walk Fault) → Type 0
IsWalkForward f = (w : Walk) (more : List ℕ) (v : Walk) → f w ≡ Ok v → f (widened more w) ≡ Ok (widened more v)

bands_forward : (layer n number : ℕ) → IsWalkForward (bands_at layer n number)
unfolding bands_at
bands_forward layer zero number w more v h = let is : w ≡ v = cc in ap (λ (u : Walk). Ok (widened more u)) is
bands_forward layer (suc n) number w more v h =
    let b : BandWalk = record { band = band_in w.bands number; bits = w.bits; parts = w.parts } in
    bind_then (band_at number layer b) (λ u. bands_at layer n (number + 1) (record { bands = set w.bands number u.band; bits = u.bits; parts = u.parts })) v h
    (λ u e k.
    ap (λ (r : Result BandWalk Fault). r >>= λ t. bands_at layer n (number + 1) (record { bands = set w.bands number t.band; bits = t.bits; parts = t.parts })) (blocks_forward number layer (b.band.shape.width * b.band.shape.height) 0 b more u e)
    ∙ bands_forward layer n (number + 1) (record { bands = set w.bands number u.band; bits = u.bits; parts = u.parts }) more v k)

bits_forward : (layer : ℕ) (bands : List BandState) (r : Bits) (more : List ℕ) (v : Walk) → bits_at layer bands r ≡ Ok v → bits_at layer bands (wide more r) ≡ Ok (widened more v)
unfolding bits_at
bits_forward layer bands r more v h =
    bind_then (bit_at r) (λ b. cond b.0 (packet_at layer (record { bands = bands; bits = b.1; parts = [] })) (Ok (record { bands = bands; bits = b.1; parts = [] }))) v h
    (λ b e k.
    ap (λ (w : Result (Bool × Bits) Fault). w >>= λ c. cond c.0 (packet_at layer (record { bands = bands; bits = c.1; parts = [] })) (Ok (record { bands = bands; bits = c.1; parts = [] }))) (bit_wide r more b e)
    ∙ by_bit b.0 b.1 k)
  where
    by_bit : (c : Bool) (s : Bits) → cond c (packet_at layer (record { bands = bands; bits = s; parts = [] })) (Ok (record { bands = bands; bits = s; parts = [] })) ≡ Ok v
        → cond c (packet_at layer (record { bands = bands; bits = wide more s; parts = [] })) (Ok (record { bands = bands; bits = wide more s; parts = [] })) ≡ Ok (widened more v)
    by_bit true s k = bands_forward layer (length bands) 0 (record { bands = bands; bits = s; parts = [] }) more v k
    by_bit false s k = let w : Walk = record { bands = bands; bits = s; parts = [] } in let is : w ≡ v = cc in ap (λ (u : Walk). Ok (widened more u)) is

-- ---- markers

-- the SOP of six bytes or more
abbrev sop_of_six : Bool → (a b c d : ℕ) → Result ℕ Fault
sop_of_six allowed a b c d =
    cond (allowed && (a == 0xFF) && (b == 0x91)) (refuse false Truncated
    >>= λ _. refuse (not ((c == 0x00) && (d == 0x04))) BadLength
    >>= λ _. refuse false Truncated
    >>= λ _. Ok 6) (Ok 0)

sop_six : (allowed : Bool) (a b c d e f : ℕ) (rest : List ℕ) → sop_at allowed (a ∷ (b ∷ (c ∷ (d ∷ (e ∷ (f ∷ rest)))))) ≡ sop_of_six allowed a b c d
unfolding sop_at
sop_six allowed a b c d e f rest =
    let n = length (a ∷ (b ∷ (c ∷ (d ∷ (e ∷ (f ∷ rest)))))) in
    let long : n ≡ length rest + 6 = omega arith in
    let four : nat_lt n 4 ≡ false = grind (arith, nat_tests) in
    let six : nat_lt n 6 ≡ false = grind (arith, nat_tests) in
    ap (λ (t : Bool). cond (allowed && (a == 0xFF) && (b == 0x91)) (refuse t Truncated >>= λ _. refuse (not ((c == 0x00) && (d == 0x04))) BadLength >>= λ _. refuse (nat_lt n 6) Truncated >>= λ _. Ok 6) (Ok 0)) four
    ∙ ap (λ (t : Bool). cond (allowed && (a == 0xFF) && (b == 0x91)) (refuse false Truncated >>= λ _. refuse (not ((c == 0x00) && (d == 0x04))) BadLength >>= λ _. refuse t Truncated >>= λ _. Ok 6) (Ok 0)) six

sop_wide : (allowed : Bool) (bytes more : List ℕ) → 6 ≤ length bytes → sop_at allowed (bytes ++ more) ≡ sop_at allowed bytes
sop_wide allowed (a ∷ (b ∷ (c ∷ (d ∷ (e ∷ (f ∷ rest)))))) more long = sop_six allowed a b c d e f (rest ++ more) ∙ sym (sop_six allowed a b c d e f rest)
sop_wide allowed bytes more long = absurd (omega (arith, long))

sop_small : (allowed : Bool) (bytes : List ℕ) (n : ℕ) → sop_at allowed bytes ≡ Ok n → n ≤ 6
unfolding sop_at
sop_small allowed bytes n h =
    by_test (allowed && (get_or bytes 0 0 == 0xFF) && (get_or bytes 1 0 == 0x91)) h
  where
    by_test : (t : Bool) → cond t (refuse (nat_lt (length bytes) 4) Truncated
        >>= λ _. refuse (not ((get_or bytes 2 0 == 0x00) && (get_or bytes 3 0 == 0x04))) BadLength
        >>= λ _. refuse (nat_lt (length bytes) 6) Truncated
        >>= λ _. Ok 6) (Ok 0) ≡ Ok n → n ≤ 6
    by_test false e = let z : 0 ≡ n = cc in omega (arith, z)
    by_test true e =
        refuse_then (nat_lt (length bytes) 4) Truncated (λ _. refuse (not ((get_or bytes 2 0 == 0x00) && (get_or bytes 3 0 == 0x04))) BadLength >>= λ _. refuse (nat_lt (length bytes) 6) Truncated >>= λ _. Ok 6) n e (λ _ f.
        refuse_then (not ((get_or bytes 2 0 == 0x00) && (get_or bytes 3 0 == 0x04))) BadLength (λ _. refuse (nat_lt (length bytes) 6) Truncated >>= λ _. Ok 6) n f (λ _ g.
        refuse_then (nat_lt (length bytes) 6) Truncated (λ _. Ok 6) n g (λ _ h. let z : 6 ≡ n = cc in omega (arith, z))))

eph_wide : (due : Bool) (bytes more : List ℕ) (k : ℕ) → eph_at due bytes ≡ Ok k → eph_at due (bytes ++ more) ≡ Ok k
unfolding eph_at
eph_wide false bytes more k h = h
eph_wide true [] more k h = absurd cc
eph_wide true (a ∷ []) more k h = absurd cc
eph_wide true (a ∷ (b ∷ rest)) more k h =
    let some : nat_lt (length (a ∷ (b ∷ rest))) 2 ≡ false = grind (arith, nat_tests) in
    let many : nat_lt (length (a ∷ (b ∷ (rest ++ more)))) 2 ≡ false = grind (arith, nat_tests) in
    ap (λ (t : Bool). refuse t Truncated >>= λ _. refuse (not ((a == 0xFF) && (b == 0x92))) PacketHeader >>= λ _. Ok 2) (many ∙ sym some) ∙ h

-- ---- headers

-- the end of a header, and its bits before
end_wide : (eph : Bool) (bytes more : List ℕ) (n m : ℕ) (w : Walk) (o : HeaderText × List BandState) → n + m ≤ length bytes → text_end eph bytes n w m ≡ Ok o → text_end eph (bytes ++ more) n (widened more w) m ≡ Ok o
end_wide eph bytes more n m w o within h =
    bind_then (eph_at eph (drop (n + m) bytes)) (λ k. Ok (record { length = n + m + k; parts = w.parts }, w.bands)) o h (λ k e l.
    bind_on (λ j. Ok (record { length = n + m + j; parts = w.parts }, w.bands)) (ap (eph_at eph) (drop-append-le (n + m) bytes more within) ∙ eph_wide eph (drop (n + m) bytes) more k e) ∙ l)

rest_wide : (eph : Bool) (bytes more : List ℕ) (n : ℕ) (w : Walk) (o : HeaderText × List BandState) → n + length w.bits.bytes ≤ length bytes → text_rest eph bytes n w ≡ Ok o → text_rest eph (bytes ++ more) n (widened more w) ≡ Ok o
rest_wide eph bytes more n w o within h =
    bind_then (finish_at w.bits) (λ m. text_end eph bytes n w m) o h (λ m e k.
    let fits = finish_within w.bits m e in
    bind_on (λ j. text_end eph (bytes ++ more) n (widened more w) j) (finish_wide w.bits more m e) ∙ end_wide eph bytes more n m w o (omega (arith, within, fits)) k)

text_wide : (sop eph : Bool) (layer : ℕ) (bytes more : List ℕ) (bands : List BandState) (o : HeaderText × List BandState) → 6 ≤ length bytes → text_at sop eph layer bytes bands ≡ Ok o → text_at sop eph layer (bytes ++ more) bands ≡ Ok o
unfolding text_at
text_wide sop eph layer bytes more bands o long h =
    bind_then (sop_at sop bytes) (λ n. bits_at layer bands (bits_of (drop n bytes)) >>= λ w. text_rest eph bytes n w) o h (λ n e k.
    bind_then (bits_at layer bands (bits_of (drop n bytes))) (λ w. text_rest eph bytes n w) o k (λ w f l.
    let small = sop_small sop bytes n e in
    let within : n ≤ length bytes = omega (arith, small, long) in
    let left = length-drop n bytes in
    let stay = ap length (same_bytes (bits_of (drop n bytes)) w.bits (bits_move layer bands (bits_of (drop n bytes)) w f)) in
    bind_on (λ j. bits_at layer bands (bits_of (drop j (bytes ++ more))) >>= λ v. text_rest eph (bytes ++ more) j v) (sop_wide sop bytes more long ∙ e)
    ∙ ap (λ (xs : List ℕ). bits_at layer bands (bits_of xs) >>= λ v. text_rest eph (bytes ++ more) n v) (drop-append-le n bytes more within)
    ∙ bind_on (λ v. text_rest eph (bytes ++ more) n v) (bits_forward layer bands (bits_of (drop n bytes)) more w f)
    ∙ rest_wide eph bytes more n w o (omega (arith, within, left, stay)) l))

pub header_forward : (layer : ℕ) (bytes more : List ℕ) (s : PrecinctState) (o : HeaderText × PrecinctState) → 6 ≤ length bytes → header_at layer bytes s ≡ Ok o → header_at layer (bytes ++ more) s ≡ Ok o
unfolding header_at
header_forward layer bytes more s o long h = by_failed s.failed h
  where
    by_failed : (f : Option Fault) → unless_failed {A = HeaderText × PrecinctState} f (text_at s.sop s.eph layer bytes s.bands >>= λ p. Ok (p.0, record s { bands = p.1; layers = s.layers + 1 })) ≡ Ok o
        → unless_failed {A = HeaderText × PrecinctState} f (text_at s.sop s.eph layer (bytes ++ more) s.bands >>= λ p. Ok (p.0, record s { bands = p.1; layers = s.layers + 1 })) ≡ Ok o
    by_failed (Some e) k = absurd cc
    by_failed None k =
        bind_then (text_at s.sop s.eph layer bytes s.bands) (λ p. Ok (p.0, record s { bands = p.1; layers = s.layers + 1 })) o k (λ p e l.
        bind_on (λ q. Ok (q.0, record s { bands = q.1; layers = s.layers + 1 })) (text_wide s.sop s.eph layer bytes more s.bands p long e) ∙ l)
