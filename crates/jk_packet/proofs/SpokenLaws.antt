-- What a packet tells of a block, and what it leaves of the sub-band.
use Rattle.std.proofs.Common.{◌≡◌, ℕ, suc, ◌+◌, ◌*◌, ◌<◌, ◌≤◌, Bool, true, false, cond, List, [], ◌∷◌, ◌++◌, length, set, take, Option, Some, None, sym, ap, ◌∙◌, subst, inl, inr, arith, append_assoc}
use Rattle.std.specs.Prelude.{nat_eq, nat_lt}
use Rattle.std.specs.Bool.{MatchBool}
use Rattle.std.specs.Global.{Vec}
use Rattle.std.proofs.lemmas.Bool.{cases_eq}
use Rattle.std.proofs.lemmas.List.{append-nil, length-map, length-set, length-take-le, take_more, get_or-set_same, get_or-set_other}
use Rattle.jk_bits.specs.Writing.{Written}
use Rattle.jk_tree.specs.TagTree.{Shape, Values, query_of, told}
use Rattle.jk_tree.specs.Telling.{Speaker, Speaks, TellsQuery, with_bits}
use Rattle.jk_packet.specs.declared.shape.BandShape.{BandShape}
use Rattle.jk_packet.specs.declared.writing.WriteBand.{WriteBand}
use Rattle.jk_packet.specs.declared.writing.WriteBlock.{WriteBlock}
use Rattle.jk_packet.specs.Words.{piece_bits}
use Rattle.jk_packet.specs.PacketText.{PacketContribution, BandLayer, contributions, has_any, is_included, lblock_of, asks_inclusion, asks_zeros, queries_before, inclusion_bits, zeros_bits, block_bits, leaves}
use Rattle.jk_packet.specs.Written.{Table, part_in, lblock_at, piece_in, contribution_in, first_in, table_at, band_layer, band_trees}
use Rattle.jk_packet.specs.Writing.{state_of, state_at, IsReady, Follow, TreesSpeak}
use Rattle.jk_packet.proofs.QueryLaws.{inclusion_old, inclusion_new, zeros_none, zeros_old, zeros_new}
use Rattle.jk_packet.proofs.HistoryLaws.{own_contribution, contribution_none, contribution_some, lblock_kept, lblock_grown, lblock_history, included_history}
use Rattle.jk_packet.proofs.WrittenLaws.{band_layer_at}

-- bits behind bits
pub bits_twice : (w : Written) (xs ys : List Bool) → with_bits (with_bits w xs) ys ≡ with_bits w (xs ++ ys)
bits_twice w xs ys = ap (λ (bs : List Bool). record { bits = bs; failed = w.failed }) (append_assoc w.bits xs ys)

pub bits_none : (w : Written) → with_bits w [] ≡ w
bits_none w = ap (λ (bs : List Bool). record { bits = bs; failed = w.failed }) (append-nil w.bits)

-- the bits of inclusion and of zero bit-planes, by whether the block is included
inclusion_by : (s : Shape) (v : Values) (ls : List BandLayer) (front : List (Option PacketContribution)) (i : ℕ) (taken old : Bool) → is_included ls i ≡ old
    → inclusion_bits s v ls front i taken ≡ cond old (taken ∷ []) (told s v (queries_before asks_inclusion ls front) (query_of i (length ls + 1)))
unfolding inclusion_bits
inclusion_by s v ls front i taken old e = ap (λ (b : Bool). cond b (taken ∷ []) (told s v (queries_before asks_inclusion ls front) (query_of i (length ls + 1)))) e

zeros_by : (s : Shape) (v : Values) (ls : List BandLayer) (front : List (Option PacketContribution)) (i planes : ℕ) (old : Bool) → is_included ls i ≡ old
    → zeros_bits s v ls front i planes ≡ cond old [] (told s v (queries_before asks_zeros ls front) (query_of i (planes + 1)))
unfolding zeros_bits
zeros_by s v ls front i planes old e = ap (λ (b : Bool). cond b [] (told s v (queries_before asks_zeros ls front) (query_of i (planes + 1)))) e

-- a query as it is told
abbrev pub SaysInclusion : Bool → ℕ → ℕ → Bool → Speaker → Speaker → Written → Written → Type 0
SaysInclusion old i l taken tree tree_on w w_on =
    MatchBool old ((w_on ≡ with_bits w (taken ∷ [])) × (tree_on ≡ tree)) (TellsQuery tree.shape (query_of i (l + 1)) tree.nodes tree_on.nodes w w_on)

abbrev pub SaysZeros : Bool → ℕ → ℕ → Speaker → Speaker → Written → Written → Type 0
SaysZeros old i planes tree tree_on w w_on =
    MatchBool old ((w_on ≡ w) × (tree_on ≡ tree)) (TellsQuery tree.shape (query_of i (planes + 1)) tree.nodes tree_on.nodes w w_on)

inclusion_said : (s : Shape) (v : Values) (ls : List BandLayer) (front : List (Option PacketContribution)) (c : Option PacketContribution) (l : ℕ) (taken old : Bool) (tree tree_on : Speaker) (w w_on : Written)
    → is_included ls (length front) ≡ old → length ls ≡ l → tree.shape ≡ s → Speaks s v (queries_before asks_inclusion ls front) tree.nodes → SaysInclusion old (length front) l taken tree tree_on w w_on
    → (w_on ≡ with_bits w (inclusion_bits s v ls front (length front) taken)) × Speaks s v (queries_before asks_inclusion ls (front ++ c ∷ [])) tree_on.nodes
inclusion_said s v ls front c l taken true tree tree_on w w_on included count shape sp said = (
  said.0 ∙ ap (λ (bs : List Bool). with_bits w bs) (sym (inclusion_by s v ls front (length front) taken true included)),
  subst (λ qs. Speaks s v qs tree_on.nodes) (sym (inclusion_old ls front c included)) (subst (λ (t : Speaker). Speaks s v (queries_before asks_inclusion ls front) t.nodes) (sym said.1) sp),
)
inclusion_said s v ls front c l taken false tree tree_on w w_on included count shape sp said =
    let tells = subst (λ n. TellsQuery s (query_of (length front) (n + 1)) tree.nodes tree_on.nodes w w_on) (sym count) (subst (λ (x : Shape). TellsQuery x (query_of (length front) (l + 1)) tree.nodes tree_on.nodes w w_on) shape said) in
    let o = tells v (queries_before asks_inclusion ls front) sp in (
      o.0 ∙ ap (λ (bs : List Bool). with_bits w bs) (sym (inclusion_by s v ls front (length front) taken false included)),
      subst (λ qs. Speaks s v qs tree_on.nodes) (sym (inclusion_new ls front c included)) o.1,
    )

zeros_said : (s : Shape) (v : Values) (ls : List BandLayer) (front : List (Option PacketContribution)) (c : PacketContribution) (old : Bool) (tree tree_on : Speaker) (w w_on : Written)
    → is_included ls (length front) ≡ old → tree.shape ≡ s → Speaks s v (queries_before asks_zeros ls front) tree.nodes → SaysZeros old (length front) c.zero_planes tree tree_on w w_on
    → (w_on ≡ with_bits w (zeros_bits s v ls front (length front) c.zero_planes)) × Speaks s v (queries_before asks_zeros ls (front ++ Some c ∷ [])) tree_on.nodes
zeros_said s v ls front c true tree tree_on w w_on included shape sp said = (
  said.0 ∙ sym (bits_none w) ∙ ap (λ (bs : List Bool). with_bits w bs) (sym (zeros_by s v ls front (length front) c.zero_planes true included)),
  subst (λ qs. Speaks s v qs tree_on.nodes) (sym (zeros_old ls front c included)) (subst (λ (t : Speaker). Speaks s v (queries_before asks_zeros ls front) t.nodes) (sym said.1) sp),
)
zeros_said s v ls front c false tree tree_on w w_on included shape sp said =
    let tells = subst (λ (x : Shape). TellsQuery x (query_of (length front) (c.zero_planes + 1)) tree.nodes tree_on.nodes w w_on) shape said in
    let o = tells v (queries_before asks_zeros ls front) sp in (
      o.0 ∙ ap (λ (bs : List Bool). with_bits w bs) (sym (zeros_by s v ls front (length front) c.zero_planes false included)),
      subst (λ qs. Speaks s v qs tree_on.nodes) (sym (zeros_new ls front c included)) o.1,
    )

-- a block without a contribution, behind the blocks in front
nothing_said : (b : BandShape) (ts : List Table) (ls : List BandLayer) (front : List (Option PacketContribution)) (l : ℕ) (old : Bool) (band : WriteBand) (tree_on : Speaker) (w w_on : Written)
    → is_included ls (length front) ≡ old → length ls ≡ l → band.inclusion.shape ≡ leaves b → TreesSpeak b ts ls front band → SaysInclusion old (length front) l false band.inclusion tree_on w w_on
    → (w_on ≡ with_bits w (block_bits (leaves b) (band_trees b ts) ls front (length front) None)) × TreesSpeak b ts ls (front ++ None ∷ []) (record { inclusion = tree_on; zeros = band.zeros; blocks = band.blocks })
nothing_said b ts ls front l old band tree_on w w_on included count shape sp said =
    let o = inclusion_said (leaves b) (band_trees b ts).inclusion ls front None l false old band.inclusion tree_on w w_on included count shape sp.inclusion said in (
      o.0 ∙ ap (λ (bs : List Bool). with_bits w bs) (sym (append-nil (inclusion_bits (leaves b) (band_trees b ts).inclusion ls front (length front) false))),
      record { inclusion = o.1; zeros = subst (λ qs. Speaks (leaves b) (band_trees b ts).zeros qs band.zeros.nodes) (sym (zeros_none ls front)) sp.zeros },
    )

-- a block with one
something_said : (b : BandShape) (ts : List Table) (ls : List BandLayer) (front : List (Option PacketContribution)) (c : PacketContribution) (l lblock : ℕ) (old : Bool) (band : WriteBand) (tree_on zeros_on : Speaker) (blocks : Vec WriteBlock) (w w1 w2 w3 : Written)
    → is_included ls (length front) ≡ old → length ls ≡ l → lblock ≡ lblock_of (contributions ls (length front)) → band.inclusion.shape ≡ leaves b → band.zeros.shape ≡ leaves b → TreesSpeak b ts ls front band
    → SaysInclusion old (length front) l true band.inclusion tree_on w w1 → SaysZeros old (length front) c.zero_planes band.zeros zeros_on w1 w2 → w3 ≡ with_bits w2 (piece_bits lblock c.piece)
    → (w3 ≡ with_bits w (block_bits (leaves b) (band_trees b ts) ls front (length front) (Some c))) × TreesSpeak b ts ls (front ++ Some c ∷ []) (record { inclusion = tree_on; zeros = zeros_on; blocks = blocks })
something_said b ts ls front c l lblock old band tree_on zeros_on blocks w w1 w2 w3 included count own shape zeros_shape sp said said_zeros said_piece =
    let s = leaves b in
    let t = band_trees b ts in
    let o = inclusion_said s t.inclusion ls front (Some c) l true old band.inclusion tree_on w w1 included count shape sp.inclusion said in
    let z = zeros_said s t.zeros ls front c old band.zeros zeros_on w1 w2 included zeros_shape sp.zeros said_zeros in
    let one = inclusion_bits s t.inclusion ls front (length front) true in
    let two = zeros_bits s t.zeros ls front (length front) c.zero_planes in
    let three = piece_bits lblock c.piece in (
      said_piece
          ∙ ap (λ (x : Written). with_bits x three) z.0
          ∙ ap (λ (x : Written). with_bits (with_bits x two) three) o.0
          ∙ ap (λ (x : Written). with_bits x three) (bits_twice w one two)
          ∙ bits_twice w (one ++ two) three
          ∙ ap (λ (bs : List Bool). with_bits w bs) (append_assoc one two three)
          ∙ ap (λ n. with_bits w (one ++ (two ++ piece_bits n c.piece))) own,
      record { inclusion = o.1; zeros = z.1 },
    )

-- the blocks in front of one, in a layer
front_long : (ts : List Table) (l i : ℕ) → i < length ts → length (take i (band_layer ts l)) ≡ i
front_long ts l i less = length-take-le i (band_layer ts l) (let e = length-map ts (λ t. contribution_in t l) in omega (arith, e, less))

front_more : (ts : List Table) (l i : ℕ) → i < length ts → take (i + 1) (band_layer ts l) ≡ take i (band_layer ts l) ++ contribution_in (table_at ts i) l ∷ []
front_more ts l i less =
    take_more (band_layer ts l) i None (let e = length-map ts (λ t. contribution_in t l) in omega (arith, e, less))
    ∙ ap (λ (c : Option PacketContribution). take i (band_layer ts l) ++ c ∷ []) (band_layer_at ts l i less)

-- What is told of block i of a sub-band in layer l, as `write_block` promises it.
abbrev pub SaysBlock : BandShape → List Table → ℕ → ℕ → List BandLayer → WriteBand → Written → Written → Type 0
SaysBlock b ts l i ls band_on w w_on =
    (w_on ≡ with_bits w (block_bits (leaves b) (band_trees b ts) ls (take i (band_layer ts l)) i (contribution_in (table_at ts i) l)))
    × TreesSpeak b ts ls (take (i + 1) (band_layer ts l)) band_on

included_at : (ts : List Table) (l i : ℕ) (ls : List BandLayer) → i < length ts → l ≤ length (table_at ts i).parts → Follow ts l ls → is_included ls i ≡ nat_lt (first_in (table_at ts i).parts) l
included_at ts l i ls less within follow = ap has_any (follow.each i less) ∙ included_history (table_at ts i) l within

pub block_none : (b : BandShape) (ts : List Table) (l i : ℕ) (ls : List BandLayer) (first : ℕ) (taken : Bool) (band : WriteBand) (tree_on : Speaker) (w w_on : Written)
    → i < length ts → l ≤ length (table_at ts i).parts → Follow ts l ls → band.inclusion.shape ≡ leaves b → first ≡ first_in (table_at ts i).parts → taken ≡ false → nat_eq (part_in (table_at ts i) l).0 0 ≡ true
    → SaysInclusion (nat_lt first l) i l taken band.inclusion tree_on w w_on → TreesSpeak b ts ls (take i (band_layer ts l)) band
    → SaysBlock b ts l i ls (record { inclusion = tree_on; zeros = band.zeros; blocks = band.blocks }) w w_on
block_none b ts l i ls first taken band tree_on w w_on less within follow shape first_is taken_is none said sp =
    let front = take i (band_layer ts l) in
    let band_on : WriteBand = record { inclusion = tree_on; zeros = band.zeros; blocks = band.blocks } in
    let long : length front ≡ i = front_long ts l i less in
    let included : is_included ls (length front) ≡ nat_lt first l = ap (is_included ls) long ∙ included_at ts l i ls less within follow ∙ ap (λ n. nat_lt n l) (sym first_is) in
    let said_here : SaysInclusion (nat_lt first l) (length front) l false band.inclusion tree_on w w_on = subst (λ k. SaysInclusion (nat_lt first l) k l false band.inclusion tree_on w w_on) (sym long) (subst (λ (x : Bool). SaysInclusion (nat_lt first l) i l x band.inclusion tree_on w w_on) taken_is said) in
    let o = nothing_said b ts ls front l (nat_lt first l) band tree_on w w_on included follow.count shape sp said_here in
    let gives : contribution_in (table_at ts i) l ≡ None = contribution_none (table_at ts i) l none in (
      o.0
          ∙ ap (λ k. with_bits w (block_bits (leaves b) (band_trees b ts) ls front k None)) long
          ∙ ap (λ (c : Option PacketContribution). with_bits w (block_bits (leaves b) (band_trees b ts) ls front i c)) (sym gives),
      subst (λ (cs : List (Option PacketContribution)). TreesSpeak b ts ls cs band_on) (ap (λ (c : Option PacketContribution). front ++ c ∷ []) (sym gives) ∙ sym (front_more ts l i less)) o.1,
    )

pub block_some : (b : BandShape) (ts : List Table) (l i : ℕ) (ls : List BandLayer) (first lblock : ℕ) (taken : Bool) (band : WriteBand) (tree_on zeros_on : Speaker) (blocks : Vec WriteBlock) (w w1 w2 w3 : Written)
    → i < length ts → l ≤ length (table_at ts i).parts → Follow ts l ls → band.inclusion.shape ≡ leaves b → band.zeros.shape ≡ leaves b → first ≡ first_in (table_at ts i).parts → lblock ≡ lblock_at (table_at ts i) l → taken ≡ true
    → nat_eq (part_in (table_at ts i) l).0 0 ≡ false
    → SaysInclusion (nat_lt first l) i l taken band.inclusion tree_on w w1 → SaysZeros (nat_lt first l) i (table_at ts i).zero_planes band.zeros zeros_on w1 w2 → w3 ≡ with_bits w2 (piece_bits lblock (piece_in (table_at ts i) l))
    → TreesSpeak b ts ls (take i (band_layer ts l)) band → SaysBlock b ts l i ls (record { inclusion = tree_on; zeros = zeros_on; blocks = blocks }) w w3
block_some b ts l i ls first lblock taken band tree_on zeros_on blocks w w1 w2 w3 less within follow shape zeros_shape first_is lblock_is taken_is some said said_zeros said_piece sp =
    let t = table_at ts i in
    let c = own_contribution t l in
    let front = take i (band_layer ts l) in
    let band_on : WriteBand = record { inclusion = tree_on; zeros = zeros_on; blocks = blocks } in
    let long : length front ≡ i = front_long ts l i less in
    let included : is_included ls (length front) ≡ nat_lt first l = ap (is_included ls) long ∙ included_at ts l i ls less within follow ∙ ap (λ n. nat_lt n l) (sym first_is) in
    let own : lblock ≡ lblock_of (contributions ls (length front)) = lblock_is ∙ sym (lblock_history t l) ∙ ap lblock_of (sym (follow.each i less)) ∙ ap (λ k. lblock_of (contributions ls k)) (sym long) in
    let said_here : SaysInclusion (nat_lt first l) (length front) l true band.inclusion tree_on w w1 = subst (λ k. SaysInclusion (nat_lt first l) k l true band.inclusion tree_on w w1) (sym long) (subst (λ (x : Bool). SaysInclusion (nat_lt first l) i l x band.inclusion tree_on w w1) taken_is said) in
    let zeros_here : SaysZeros (nat_lt first l) (length front) c.zero_planes band.zeros zeros_on w1 w2 = subst (λ k. SaysZeros (nat_lt first l) k t.zero_planes band.zeros zeros_on w1 w2) (sym long) said_zeros in
    let o = something_said b ts ls front c l lblock (nat_lt first l) band tree_on zeros_on blocks w w1 w2 w3 included follow.count own shape zeros_shape sp said_here zeros_here said_piece in
    let gives : contribution_in t l ≡ Some c = contribution_some t l some in (
      o.0
          ∙ ap (λ k. with_bits w (block_bits (leaves b) (band_trees b ts) ls front k (Some c))) long
          ∙ ap (λ (x : Option PacketContribution). with_bits w (block_bits (leaves b) (band_trees b ts) ls front i x)) (sym gives),
      subst (λ (cs : List (Option PacketContribution)). TreesSpeak b ts ls cs band_on) (ap (λ (x : Option PacketContribution). front ++ x ∷ []) (sym gives) ∙ sym (front_more ts l i less)) o.1,
    )

-- What is left of the sub-band: a block without passes stays, and one with passes has another Lblock.
state_kept : (t : Table) (l : ℕ) → nat_eq (part_in t l).0 0 ≡ true → state_of t l ≡ state_of t (l + 1)
state_kept t l none = ap (λ n. record { first = first_in t.parts; length_bits = n }) (sym (lblock_kept t l none) ∙ ap (lblock_at t) (let e : suc l ≡ l + 1 = omega arith in e))

pub state_grown : (t : Table) (l : ℕ) → nat_eq (part_in t l).0 0 ≡ false → lblock_at t (l + 1) ≡ lblock_at t l + (piece_in t l).growth
state_grown t l some = ap (lblock_at t) (let e : l + 1 ≡ suc l = omega arith in e) ∙ lblock_grown t l some

pub ready_kept : (b : BandShape) (ts : List Table) (l i : ℕ) (band : WriteBand) (tree_on : Speaker) → i < b.across * b.down → nat_eq (part_in (table_at ts i) l).0 0 ≡ true → tree_on.failed ≡ false → tree_on.shape ≡ band.inclusion.shape
    → IsReady b ts l i band → IsReady b ts l (i + 1) (record { inclusion = tree_on; zeros = band.zeros; blocks = band.blocks })
ready_kept b ts l i band tree_on less none sound shape is = record {
  inclusion = shape ∙ is.inclusion;
  inclusion_sound = sound;
  zeros = is.zeros;
  zeros_sound = is.zeros_sound;
  long = is.long;
  told = λ j front. elim (cases_eq j i) [
    | inl at ↦ ap (state_at band.blocks.items) at ∙ is.waiting i (omega arith) less ∙ state_kept (table_at ts i) l none ∙ ap (λ k. state_of (table_at ts k) (l + 1)) (sym at)
    | inr apart ↦ is.told j (omega (arith, front, apart))
  ];
  waiting = λ j behind within. is.waiting j (omega (arith, behind)) within;
}

pub ready_grown : (b : BandShape) (ts : List Table) (l i : ℕ) (band : WriteBand) (tree_on zeros_on : Speaker) (blocks : Vec WriteBlock) (x : WriteBlock) → i < b.across * b.down → tree_on.failed ≡ false → tree_on.shape ≡ band.inclusion.shape
    → zeros_on.failed ≡ false → zeros_on.shape ≡ band.zeros.shape → blocks.items ≡ set band.blocks.items i x → x ≡ state_of (table_at ts i) (l + 1)
    → IsReady b ts l i band → IsReady b ts l (i + 1) (record { inclusion = tree_on; zeros = zeros_on; blocks = blocks })
ready_grown b ts l i band tree_on zeros_on blocks x less sound shape zeros_sound zeros_shape items own is = record {
  inclusion = shape ∙ is.inclusion;
  inclusion_sound = sound;
  zeros = zeros_shape ∙ is.zeros;
  zeros_sound = zeros_sound;
  long = ap length items ∙ length-set band.blocks.items i x ∙ is.long;
  told = λ j front. elim (cases_eq j i) [
    | inl at ↦
        ap (λ (bs : List WriteBlock). state_at bs j) items ∙ ap (state_at (set band.blocks.items i x)) at
        ∙ get_or-set_same band.blocks.items i x _ (let e = is.long in omega (arith, e, less))
        ∙ own
        ∙ ap (λ k. state_of (table_at ts k) (l + 1)) (sym at)
    | inr apart ↦ ap (λ (bs : List WriteBlock). state_at bs j) items ∙ get_or-set_other band.blocks.items i j x _ apart ∙ is.told j (omega (arith, front, apart))
  ];
  waiting = λ j behind within. ap (λ (bs : List WriteBlock). state_at bs j) items ∙ get_or-set_other band.blocks.items i j x _ (λ same. omega (arith, behind, same)) ∙ is.waiting j (omega (arith, behind)) within;
}
