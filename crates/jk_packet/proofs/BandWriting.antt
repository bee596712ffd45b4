-- A sub-band that is written: before the first packet, and block by block.
use Rattle.std.proofs.Common.{◌≡◌, ℕ, ◌+◌, ◌*◌, ◌<◌, Bool, List, [], ◌∷◌, ◌++◌, length, get_or, take, map, Option, Some, None, refl, sym, ap, ◌∙◌, subst, arith}
use Rattle.std.specs.List.{flat_map, range_with_len}
use Rattle.std.proofs.lemmas.List.{append-nil, length-map, get_or-map, take_all, map-id}
use Rattle.std.proofs.lemmas.List.Concat.{flat_map-append}
use Rattle.std.proofs.lemmas.List.FromFn.{map-range_with_len_more}
use Rattle.jk_bits.specs.Writing.{Written}
use Rattle.jk_tree.specs.TagTree.{Shape, Query}
use Rattle.jk_tree.specs.Telling.{Speaker, Speaks, written, with_bits}
use Rattle.jk_packet.specs.declared.shape.BandShape.{BandShape}
use Rattle.jk_packet.specs.declared.writing.WriteBand.{WriteBand}
use Rattle.jk_packet.specs.declared.writing.WriteBlock.{WriteBlock}
use Rattle.jk_packet.specs.PacketText.{PacketContribution, BandLayer, asks_inclusion, asks_zeros, queries_of, queries_in, queries_before, block_bits, band_bits, leaves}
use Rattle.jk_packet.specs.Written.{Table, contribution_in, first_in, table_at, band_layer, band_trees}
use Rattle.jk_packet.specs.Writing.{state_of, state_at, IsReady, TreesSpeak}
use Rattle.jk_packet.proofs.QueryLaws.{before_layer, before_empty}
use Rattle.jk_packet.proofs.HistoryLaws.{lblock_first}
use Rattle.jk_packet.proofs.WrittenLaws.{band_layer_at}
use Rattle.jk_packet.proofs.SpokenLaws.{SaysBlock, bits_twice}

-- the bits of the first n blocks
abbrev pub front_bits : BandShape → List Table → (l : ℕ) → List BandLayer → (n : ℕ) → List Bool
front_bits b ts l ls n = flat_map (λ i. block_bits (leaves b) (band_trees b ts) ls (take i (band_layer ts l)) i (get_or (band_layer ts l) i None)) (range_with_len 0 n)

pub range_more : (n : ℕ) → range_with_len 0 (n + 1) ≡ range_with_len 0 n ++ n ∷ []
range_more n =
    sym (map-id (range_with_len 0 (n + 1))) ∙ map-range_with_len_more (λ k. k) 0 n n (let e : 0 + n ≡ n = omega arith in e)
    ∙ ap (λ (ks : List ℕ). ks ++ n ∷ []) (map-id (range_with_len 0 n))

front_bits_more : (b : BandShape) (ts : List Table) (l : ℕ) (ls : List BandLayer) (i : ℕ) → i < length ts
    → front_bits b ts l ls (i + 1) ≡ front_bits b ts l ls i ++ block_bits (leaves b) (band_trees b ts) ls (take i (band_layer ts l)) i (contribution_in (table_at ts i) l)
front_bits_more b ts l ls i less =
    let f : ℕ → List Bool = λ k. block_bits (leaves b) (band_trees b ts) ls (take k (band_layer ts l)) k (get_or (band_layer ts l) k None) in
    ap (flat_map f) (range_more i) ∙ flat_map-append f (range_with_len 0 i) (i ∷ []) ∙ ap (λ (bs : List Bool). flat_map f (range_with_len 0 i) ++ bs) (append-nil (f i))
    ∙ ap (λ (c : Option PacketContribution). flat_map f (range_with_len 0 i) ++ block_bits (leaves b) (band_trees b ts) ls (take i (band_layer ts l)) i c) (band_layer_at ts l i less)

front_bits_all : (b : BandShape) (ts : List Table) (l : ℕ) (ls : List BandLayer) (n : ℕ) → n ≡ length ts → front_bits b ts l ls n ≡ band_bits (leaves b) (band_trees b ts) ls (band_layer ts l)
unfolding band_bits
front_bits_all b ts l ls n all = ap (front_bits b ts l ls) (all ∙ sym (length-map ts (λ t. contribution_in t l)))

-- what is told of the first n blocks
abbrev pub SaysFront : BandShape → List Table → (l : ℕ) → List BandLayer → (n : ℕ) → WriteBand → Written → Written → Type 0
SaysFront b ts l ls n band_on w w_on = (w_on ≡ with_bits w (front_bits b ts l ls n)) × TreesSpeak b ts ls (take n (band_layer ts l)) band_on

pub front_begins : (b : BandShape) (ts : List Table) (l : ℕ) (ls : List BandLayer) (band : WriteBand) (w : Written) → TreesSpeak b ts ls [] band → SaysFront b ts l ls 0 band w w
front_begins b ts l ls band w sp = (ap (λ (bs : List Bool). record { bits = bs; failed = w.failed }) (sym (append-nil w.bits)), sp)

pub front_goes : (b : BandShape) (ts : List Table) (l i : ℕ) (ls : List BandLayer) (band band_on : WriteBand) (w w1 w2 : Written) → i < length ts → SaysFront b ts l ls i band w w1 → SaysBlock b ts l i ls band_on w1 w2 → SaysFront b ts l ls (i + 1) band_on w w2
front_goes b ts l i ls band band_on w w1 w2 less before own =
    let block = block_bits (leaves b) (band_trees b ts) ls (take i (band_layer ts l)) i (contribution_in (table_at ts i) l) in (
      own.0
          ∙ ap (λ (x : Written). with_bits x block) before.0
          ∙ bits_twice w (front_bits b ts l ls i) block
          ∙ ap (λ (bs : List Bool). with_bits w bs) (sym (front_bits_more b ts l ls i less)),
      own.1,
    )

-- what is told of a whole sub-band
abbrev pub SaysBand : BandShape → List Table → (l : ℕ) → List BandLayer → WriteBand → Written → Written → Type 0
SaysBand b ts l ls band_on w w_on =
    (w_on ≡ with_bits w (band_bits (leaves b) (band_trees b ts) ls (band_layer ts l))) × TreesSpeak b ts (ls ++ Some (band_layer ts l) ∷ []) [] band_on

pub speaks_layer : (b : BandShape) (ts : List Table) (ls : List BandLayer) (blocks : List (Option PacketContribution)) (band : WriteBand) → TreesSpeak b ts ls blocks band → TreesSpeak b ts (ls ++ Some blocks ∷ []) [] band
speaks_layer b ts ls blocks band sp = record {
  inclusion = subst (λ (qs : List Query). Speaks (leaves b) (band_trees b ts).inclusion qs band.inclusion.nodes) (sym (before_layer asks_inclusion ls blocks)) sp.inclusion;
  zeros = subst (λ (qs : List Query). Speaks (leaves b) (band_trees b ts).zeros qs band.zeros.nodes) (sym (before_layer asks_zeros ls blocks)) sp.zeros;
}

pub speaks_empty : (b : BandShape) (ts : List Table) (ls : List BandLayer) (band : WriteBand) → TreesSpeak b ts ls [] band → TreesSpeak b ts (ls ++ None ∷ []) [] band
speaks_empty b ts ls band sp = record {
  inclusion = subst (λ (qs : List Query). Speaks (leaves b) (band_trees b ts).inclusion qs band.inclusion.nodes) (sym (before_empty asks_inclusion ls)) sp.inclusion;
  zeros = subst (λ (qs : List Query). Speaks (leaves b) (band_trees b ts).zeros qs band.zeros.nodes) (sym (before_empty asks_zeros ls)) sp.zeros;
}

pub front_ends : (b : BandShape) (ts : List Table) (l n : ℕ) (ls : List BandLayer) (band_on : WriteBand) (w w_on : Written) → n ≡ length ts → SaysFront b ts l ls n band_on w w_on → SaysBand b ts l ls band_on w w_on
front_ends b ts l n ls band_on w w_on all said =
    let whole : take n (band_layer ts l) ≡ band_layer ts l = take_all n (band_layer ts l) (let e = length-map ts (λ t. contribution_in t l) in omega (arith, e, all)) in (
      said.0 ∙ ap (λ (bs : List Bool). with_bits w bs) (front_bits_all b ts l ls n all),
      speaks_layer b ts ls (band_layer ts l) band_on (subst (λ (cs : List (Option PacketContribution)). TreesSpeak b ts ls cs band_on) whole said.1),
    )

-- All blocks told is the next layer waiting.
pub ready_next : (b : BandShape) (ts : List Table) (l n : ℕ) (band : WriteBand) → n ≡ b.across * b.down → IsReady b ts l n band → IsReady b ts (l + 1) 0 band
ready_next b ts l n band all is = record {
  inclusion = is.inclusion;
  inclusion_sound = is.inclusion_sound;
  zeros = is.zeros;
  zeros_sound = is.zeros_sound;
  long = is.long;
  told = λ j none. absurd (omega (arith, none));
  waiting = λ j from within. is.told j (omega (arith, within, all));
}

-- a layer without passes leaves each block
pub ready_empty : (b : BandShape) (ts : List Table) (l : ℕ) (band : WriteBand) → ((j : ℕ) → j < b.across * b.down → state_of (table_at ts j) l ≡ state_of (table_at ts j) (l + 1)) → IsReady b ts l 0 band → IsReady b ts (l + 1) 0 band
ready_empty b ts l band same is = record {
  inclusion = is.inclusion;
  inclusion_sound = is.inclusion_sound;
  zeros = is.zeros;
  zeros_sound = is.zeros_sound;
  long = is.long;
  told = λ j none. absurd (omega (arith, none));
  waiting = λ j from within. is.waiting j from within ∙ same j within;
}

-- Before the first packet.
no_queries : (ask : List BandLayer → ℕ → Option PacketContribution → List Query) → queries_before ask [] [] ≡ []
unfolding queries_of queries_in
no_queries ask = refl

pub state_open : (ts : List Table) (firsts : List ℕ) (blocks : List WriteBlock) (j : ℕ) → j < length ts → firsts ≡ map (λ t. first_in t.parts) ts → blocks ≡ map (λ n. record { first = n; length_bits = 3 }) firsts
    → state_at blocks j ≡ state_of (table_at ts j) 0
state_open ts firsts blocks j less first_is block_is =
    let long : j < length firsts = (let e = ap length first_is in let f = length-map ts (λ (t : Table). first_in t.parts) in omega (arith, e, f, less)) in
    ap (λ (bs : List WriteBlock). state_at bs j) block_is
    ∙ get_or-map (λ n. record { first = n; length_bits = 3 }) firsts j 0 _ long
    ∙ ap (λ n. record { first = n; length_bits = 3 }) (ap (λ (ns : List ℕ). get_or ns j 0) first_is ∙ get_or-map (λ (t : Table). first_in t.parts) ts j _ 0 less)
    ∙ ap (λ n. record { first = first_in (table_at ts j).parts; length_bits = n }) (sym (lblock_first (table_at ts j)))

pub speaks_open : (b : BandShape) (ts : List Table) (ask : List BandLayer → ℕ → Option PacketContribution → List Query) (values due : List ℕ) (tree : Speaker) → values ≡ due → tree.shape ≡ leaves b → Speaks tree.shape (written tree.shape values) [] tree.nodes
    → Speaks (leaves b) (written (leaves b) due) (queries_before ask [] []) tree.nodes
speaks_open b ts ask values due tree same shape sp =
    subst (λ (qs : List Query). Speaks (leaves b) (written (leaves b) due) qs tree.nodes) (sym (no_queries ask))
    (subst (λ (vs : List ℕ). Speaks (leaves b) (written (leaves b) vs) [] tree.nodes) same
    (subst (λ (s : Shape). Speaks s (written s values) [] tree.nodes) shape sp))
