-- One block of a packet that isn't empty: what is told is read, and what is read is told.
use Rattle.std.proofs.Common.{◌≡◌, ℕ, ◌*◌, ◌<◌, Bool, true, false, cond, List, [], ◌∷◌, ◌++◌, length, set, Option, Some, None, Ok, refl, sym, ap, ◌∙◌, subst, inl, inr, arith, append_assoc}
use Rattle.std.proofs.lemmas.Bool.{cases_eq}
use Rattle.std.proofs.lemmas.List.{append-nil, length-set, get_or-set_same, get_or-set_other}
use Rattle.jk_math.specs.Answer.{◌>>=◌}
use Rattle.jk_math.specs.Steps.{bind_then}
use Rattle.jk_bits.specs.Reading.{Bits, ahead}
use Rattle.jk_tree.specs.TagTree.{Query}
use Rattle.jk_tree.specs.Asking.{AreTold, AreToldBySome, TagTreeRead, IsOpen}
use Rattle.jk_bits.specs.Giving.{GivesBits, advance, ahead_on, gives_join}
use Rattle.jk_packet.specs.declared.shape.BandShape.{BandShape}
use Rattle.jk_packet.specs.declared.block.Block.{Block}
use Rattle.jk_packet.specs.declared.words.Addition.{Addition}
use Rattle.jk_packet.specs.Words.{piece_bits, most_passes}
use Rattle.jk_packet.specs.Reading.{BandState, BandWalk, block_in, grown, included_at, zero_planes_at, piece_at, with_inclusion, with_piece, taken_at, block_at}
use Rattle.jk_packet.specs.PacketText.{PacketContribution, BandLayer, contributions, zeros_of, passes_of, lblock_of, is_included, asks_inclusion, asks_zeros, queries_before, BandTrees, leaves, inclusion_bits, zeros_bits, taken_bits, block_bits, IsContribution, IsBlock, block_parts}
use Rattle.jk_packet.specs.Standing.{block_of, so_far, HoldsBlocks, BandStands}
use Rattle.jk_packet.proofs.Codes.{advance_twice}
use Rattle.jk_packet.proofs.Pieces.{Says, coded_piece}
use Rattle.jk_packet.proofs.QueryLaws.{so_far_none, so_far_other, so_far_own, block_push, zeros_none}
use Rattle.jk_packet.proofs.InclusionLaws.{included_only, included_found, zeros_only, zeros_found}
use Rattle.jk_packet.proofs.BandLaws.{block_left, block_taken, taken_ok}

-- a sub-band that layers and the front of a packet may have left
pub record BandReached (b : BandShape) (layers : List BandLayer) (front : List (Option PacketContribution)) (state : BandState) : Type 0 where
  pub holds : HoldsBlocks b layers front state
  pub inclusion : AreToldBySome (leaves b) (queries_before asks_inclusion layers front) state.inclusion.nodes
  pub zeros : AreToldBySome (leaves b) (queries_before asks_zeros layers front) state.zeros.nodes

module _ (b : BandShape) (layers : List BandLayer) (front : List (Option PacketContribution)) (number : ℕ) (w : BandWalk) (holds : HoldsBlocks b layers front w.band) (less : length front < b.across * b.down) where
  -- the block in hand has the contributions of the layers
  block_is : block_in w.band.blocks (length front) ≡ block_of (contributions layers (length front))
  block_is = holds.blocks (length front) less ∙ ap block_of (so_far_none layers front (length front) (omega arith))

  included_is : (block_in w.band.blocks (length front)).included ≡ is_included layers (length front)
  included_is = ap (λ (x : Block). x.included) block_is

  holds_none : (t : TagTreeRead) → IsOpen (leaves b) t → HoldsBlocks b layers (front ++ None ∷ []) (record w.band { inclusion = t })
  holds_none t can = record {
    shape = holds.shape;
    planes = holds.planes;
    long = holds.long;
    blocks = λ j under. holds.blocks j under ∙ ap block_of (elim (cases_eq j (length front)) [
      | inl same ↦ subst (λ k. so_far layers front k ≡ so_far layers (front ++ None ∷ []) k) (sym same)
          (so_far_none layers front (length front) (omega arith) ∙ sym (append-nil (contributions layers (length front))) ∙ sym (so_far_own layers front None))
      | inr apart ↦ sym (so_far_other layers front None j apart)
    ]);
    inclusion = can;
    zeros = holds.zeros;
  }

  holds_some : (c : PacketContribution) (t z : TagTreeRead) → IsOpen (leaves b) t → IsOpen (leaves b) z → (is_included layers (length front) ≡ true → c.zero_planes ≡ zeros_of (contributions layers (length front)))
      → HoldsBlocks b layers (front ++ Some c ∷ []) (record w.band { blocks = set w.band.blocks (length front) (grown (block_in w.band.blocks (length front)) c.zero_planes c.piece); inclusion = t; zeros = z })
  holds_some c t z can can_z later =
      let x = grown (block_in w.band.blocks (length front)) c.zero_planes c.piece in
      let own : x ≡ block_of (so_far layers (front ++ Some c ∷ []) (length front)) =
      ap (λ (y : Block). grown y c.zero_planes c.piece) block_is ∙ sym (block_push (contributions layers (length front)) c later) ∙ ap block_of (sym (so_far_own layers front (Some c))) in
      let fits : length front < length w.band.blocks = (let l = holds.long in omega (arith, less, l)) in
      record {
        shape = holds.shape;
        planes = holds.planes;
        long = length-set w.band.blocks (length front) x ∙ holds.long;
        blocks = λ j under. elim (cases_eq j (length front)) [
          | inl same ↦ subst (λ k. block_in (set w.band.blocks (length front) x) k ≡ block_of (so_far layers (front ++ Some c ∷ []) k)) (sym same)
              (get_or-set_same w.band.blocks (length front) x _ fits ∙ own)
          | inr apart ↦ get_or-set_other w.band.blocks (length front) j x _ apart ∙ holds.blocks j under ∙ ap block_of (sym (so_far_other layers front (Some c) j apart))
        ];
        inclusion = can;
        zeros = can_z;
      }

  -- what is told of a block is read
  pub record BlockOnly (t : BandTrees) (c : Option PacketContribution) : Type 0 where
    pub after : BandWalk
    pub is : block_at number (length layers) (length front) w ≡ Ok after
    pub stands : BandStands b t layers (front ++ c ∷ []) after.band
    pub bits : after.bits ≡ advance w.bits (length (block_bits (leaves b) t layers front (length front) c))
    pub parts : after.parts ≡ w.parts ++ block_parts number (length front) c

  -- the words of a contribution are read
  piece_at_block : (c : PacketContribution) (zeros : ℕ → ℕ → ℕ → ℕ) (r : Bits) (rest : List Bool) → IsContribution (leaves b) b.planes zeros layers (length front) c → ahead r ≡ piece_bits (lblock_of (contributions layers (length front))) c.piece ++ rest
      → piece_at (most_passes w.band.planes c.zero_planes) (block_in w.band.blocks (length front)).passes (block_in w.band.blocks (length front)).length_bits r
      ≡ Ok (c.piece, advance r (length (piece_bits (lblock_of (contributions layers (length front))) c.piece)))
  piece_at_block c zeros r rest i h =
      let bits = piece_bits (lblock_of (contributions layers (length front))) c.piece in
      let says : Says (most_passes b.planes c.zero_planes) (passes_of (contributions layers (length front))) (lblock_of (contributions layers (length front))) c.piece bits = record { piece = i.piece; within = i.kept; words = refl } in
      let at_block : Says (most_passes b.planes c.zero_planes) (block_in w.band.blocks (length front)).passes (block_in w.band.blocks (length front)).length_bits c.piece bits =
      subst (λ (x : Block). Says (most_passes b.planes c.zero_planes) x.passes x.length_bits c.piece bits) (sym block_is) says in
      let at_planes : Says (most_passes w.band.planes c.zero_planes) (block_in w.band.blocks (length front)).passes (block_in w.band.blocks (length front)).length_bits c.piece bits =
      subst (λ n. Says (most_passes n c.zero_planes) (block_in w.band.blocks (length front)).passes (block_in w.band.blocks (length front)).length_bits c.piece bits) (sym holds.planes) at_block in
      (coded_piece (most_passes w.band.planes c.zero_planes) (block_in w.band.blocks (length front)).passes (block_in w.band.blocks (length front)).length_bits).only c.piece bits r rest at_planes h

  none_only : (t : BandTrees) (rest : List Bool) → BandStands b t layers front w.band → IsBlock (leaves b) b.planes t layers (length front) None → ahead w.bits ≡ block_bits (leaves b) t layers front (length front) None ++ rest → BlockOnly t None
  none_only t rest st i h =
      let first = inclusion_bits (leaves b) t.inclusion layers front (length front) false in
      let a = included_only (leaves b) layers front less (block_in w.band.blocks (length front)) included_is w.band.inclusion holds.inclusion t.inclusion None w.bits rest st.inclusion i.first (h ∙ ap (λ (xs : List Bool). xs ++ rest) (append-nil first)) in
      record {
        after = with_inclusion w (a.after, advance w.bits (length first));
        is = block_left number (length layers) (length front) w (false, (a.after, advance w.bits (length first))) a.is refl;
        stands = record {
          holds = holds_none a.after a.can_go;
          inclusion = a.stands;
          zeros = subst (λ (qs : List Query). AreTold (leaves b) t.zeros qs w.band.zeros.nodes) (sym (zeros_none layers front)) st.zeros;
        };
        bits = ap (λ (xs : List Bool). advance w.bits (length xs)) (sym (append-nil first));
        parts = sym (append-nil w.parts);
      }

  some_only : (t : BandTrees) (c : PacketContribution) (rest : List Bool) → BandStands b t layers front w.band → IsBlock (leaves b) b.planes t layers (length front) (Some c) → ahead w.bits ≡ block_bits (leaves b) t layers front (length front) (Some c) ++ rest → BlockOnly t (Some c)
  some_only t c rest st i h =
      let n = length front in
      let x = block_in w.band.blocks n in
      let first = inclusion_bits (leaves b) t.inclusion layers front (length front) true in
      let zero = zeros_bits (leaves b) t.zeros layers front (length front) c.zero_planes in
      let words = piece_bits (lblock_of (contributions layers n)) c.piece in
      let contribution : IsContribution (leaves b) b.planes t.zeros layers n c = i.taken in
      let h1 : ahead w.bits ≡ first ++ (zero ++ (words ++ rest)) = h ∙ append_assoc first (zero ++ words) rest ∙ ap (λ (xs : List Bool). first ++ xs) (append_assoc zero words rest) in
      let a = included_only (leaves b) layers front less x included_is w.band.inclusion holds.inclusion t.inclusion (Some c) w.bits (zero ++ (words ++ rest)) st.inclusion i.first h1 in
      let r1 = advance w.bits (length first) in
      let h2 : ahead r1 ≡ zero ++ (words ++ rest) = ahead_on w.bits first (zero ++ (words ++ rest)) h1 in
      let z = zeros_only (leaves b) layers front less x included_is w.band.zeros holds.zeros w.band.planes t.zeros c r1 (words ++ rest) st.zeros
      (λ new. let f = contribution.first new in let k = holds.planes in (f.0, (let within = f.1 in omega (arith, within, k))))
      (λ old. contribution.later old ∙ sym (ap (λ (y : Block). y.zero_planes) block_is)) h2 in
      let r2 = advance r1 (length zero) in
      let h3 : ahead r2 ≡ words ++ rest = ahead_on r1 zero (words ++ rest) h2 in
      let p = piece_at_block c t.zeros r2 rest contribution h3 in
      let w1 = with_inclusion w (a.after, r1) in
      record {
        after = with_piece number n w1 (c.zero_planes, (z.after, r2)) (c.piece, advance r2 (length words));
        is =
            block_taken number (length layers) n w (true, (a.after, r1)) a.is refl
            ∙ taken_ok number n w1 (c.zero_planes, (z.after, r2)) (c.piece, advance r2 (length words)) z.is p;
        stands = record { holds = holds_some c a.after z.after a.can_go z.can_go contribution.later; inclusion = a.stands; zeros = z.stands };
        bits = advance_twice r1 zero words ∙ advance_twice w.bits first (zero ++ words);
        parts = refl;
      }

  pub block_only : (t : BandTrees) (c : Option PacketContribution) (rest : List Bool) → BandStands b t layers front w.band → IsBlock (leaves b) b.planes t layers (length front) c → ahead w.bits ≡ block_bits (leaves b) t layers front (length front) c ++ rest → BlockOnly t c
  block_only t None rest st i h = none_only t rest st i h
  block_only t (Some c) rest st i h = some_only t c rest st i h

  -- what is read of a block is told
  pub record BlockFound (v : BandWalk) : Type 0 where
    pub c : Option PacketContribution
    pub reached : BandReached b layers (front ++ c ∷ []) v.band
    pub parts : v.parts ≡ w.parts ++ block_parts number (length front) c
    pub each : (t : BandTrees) → BandStands b t layers (front ++ c ∷ []) v.band
        → BandStands b t layers front w.band × GivesBits w.bits (block_bits (leaves b) t layers front (length front) c) v.bits × IsBlock (leaves b) b.planes t layers (length front) c

  none_found : (o : TagTreeRead × Bits) → BandReached b layers front w.band → included_at (length layers) (length front) (block_in w.band.blocks (length front)) (w.band.inclusion, w.bits) ≡ Ok (false, o) → BlockFound (with_inclusion w o)
  none_found o reached e =
      let f = included_found (leaves b) layers front less (block_in w.band.blocks (length front)) included_is w.band.inclusion holds.inclusion None w.bits (false, o) reached.inclusion e in
      record {
        c = None;
        reached = record {
          holds = holds_none o.0 f.can_go;
          inclusion = f.reached;
          zeros = subst (λ (qs : List Query). AreToldBySome (leaves b) qs w.band.zeros.nodes) (sym (zeros_none layers front)) reached.zeros;
        };
        parts = sym (append-nil w.parts);
        each = λ t st.
            let g = f.each t.inclusion st.inclusion in (
              record { holds = holds; inclusion = g.0; zeros = subst (λ (qs : List Query). AreTold (leaves b) t.zeros qs w.band.zeros.nodes) (zeros_none layers front) st.zeros },
              subst (λ (xs : List Bool). GivesBits w.bits xs o.1) (sym (append-nil (inclusion_bits (leaves b) t.inclusion layers front (length front) false))) g.1,
              record { first = g.2; taken = tt },
            );
      }

  some_found : (o : TagTreeRead × Bits) (z : ℕ × (TagTreeRead × Bits)) (p : Addition × Bits) → BandReached b layers front w.band
      → included_at (length layers) (length front) (block_in w.band.blocks (length front)) (w.band.inclusion, w.bits) ≡ Ok (true, o)
      → zero_planes_at w.band.planes (length front) (block_in w.band.blocks (length front)) (w.band.zeros, o.1) ≡ Ok z
      → piece_at (most_passes w.band.planes z.0) (block_in w.band.blocks (length front)).passes (block_in w.band.blocks (length front)).length_bits z.1.1 ≡ Ok p
      → BlockFound (with_piece number (length front) (with_inclusion w o) z p)
  some_found o z p reached e ez ep =
      let n = length front in
      let x = block_in w.band.blocks n in
      let cs = contributions layers n in
      let c : PacketContribution = record { zero_planes = z.0; piece = p.0 } in
      let f = included_found (leaves b) layers front less x included_is w.band.inclusion holds.inclusion (Some c) w.bits (true, o) reached.inclusion e in
      let g = zeros_found (leaves b) layers front less x included_is w.band.zeros holds.zeros w.band.planes c o.1 z refl reached.zeros ez in
      let q = (coded_piece (most_passes w.band.planes z.0) x.passes x.length_bits).found z.1.1 p ep in
      let at_planes : Says (most_passes b.planes z.0) x.passes x.length_bits p.0 q.0 = subst (λ k. Says (most_passes k z.0) x.passes x.length_bits p.0 q.0) holds.planes q.1 in
      let says : Says (most_passes b.planes z.0) (passes_of cs) (lblock_of cs) p.0 q.0 = subst (λ (y : Block). Says (most_passes b.planes z.0) y.passes y.length_bits p.0 q.0) block_is at_planes in
      let later : is_included layers n ≡ true → z.0 ≡ zeros_of cs = λ old. g.later old ∙ ap (λ (y : Block). y.zero_planes) block_is in
      let words : GivesBits z.1.1 (piece_bits (lblock_of cs) p.0) p.1 = subst (λ (xs : List Bool). GivesBits z.1.1 xs p.1) says.words q.2 in
      record {
        c = Some c;
        reached = record { holds = holds_some c o.0 z.1.0 f.can_go g.can_go later; inclusion = f.reached; zeros = g.reached };
        parts = refl;
        each = λ t st.
            let fi = f.each t.inclusion st.inclusion in
            let gi = g.each t.zeros st.zeros in (
              record { holds = holds; inclusion = fi.0; zeros = gi.0 },
              gives_join w.bits o.1 p.1 (inclusion_bits (leaves b) t.inclusion layers front (length front) true) (taken_bits (leaves b) t.zeros layers front (length front) (Some c)) fi.1
                  (gives_join o.1 z.1.1 p.1 (zeros_bits (leaves b) t.zeros layers front (length front) z.0) (piece_bits (lblock_of cs) p.0) gi.1 words),
              record {
                first = fi.2;
                taken = record {
                  first = λ new. (gi.2 new, (let within = g.within new in let k = holds.planes in omega (arith, within, k)));
                  later = later;
                  piece = says.piece;
                  kept = says.within;
                };
              },
            );
      }

  taken_found : (v : BandWalk) (o : TagTreeRead × Bits) → BandReached b layers front w.band → included_at (length layers) (length front) (block_in w.band.blocks (length front)) (w.band.inclusion, w.bits) ≡ Ok (true, o)
      → taken_at number (length front) (with_inclusion w o) ≡ Ok v → BlockFound v
  unfolding taken_at
  taken_found v o reached e h =
      let n = length front in
      let x = block_in w.band.blocks n in
      let w1 = with_inclusion w o in
      bind_then (zero_planes_at w.band.planes n x (w.band.zeros, o.1)) (λ z. piece_at (most_passes w.band.planes z.0) x.passes x.length_bits z.1.1 >>= λ p. Ok (with_piece number n w1 z p)) v h (λ z ez k.
      bind_then (piece_at (most_passes w.band.planes z.0) x.passes x.length_bits z.1.1) (λ p. Ok (with_piece number n w1 z p)) v k (λ p ep l.
      let is : with_piece number n w1 z p ≡ v = cc in
      subst (λ (y : BandWalk). BlockFound y) is (some_found o z p reached e ez ep)))

  found_by : (v : BandWalk) (taken : Bool) (o : TagTreeRead × Bits) → BandReached b layers front w.band → included_at (length layers) (length front) (block_in w.band.blocks (length front)) (w.band.inclusion, w.bits) ≡ Ok (taken, o)
      → cond taken (taken_at number (length front) (with_inclusion w o)) (Ok (with_inclusion w o)) ≡ Ok v → BlockFound v
  found_by v true o reached e h = taken_found v o reached e h
  found_by v false o reached e h = let is : with_inclusion w o ≡ v = cc in subst (λ (y : BandWalk). BlockFound y) is (none_found o reached e)

  pub block_found : (v : BandWalk) → BandReached b layers front w.band → block_at number (length layers) (length front) w ≡ Ok v → BlockFound v
  unfolding block_at
  block_found v reached h =
      bind_then (included_at (length layers) (length front) (block_in w.band.blocks (length front)) (w.band.inclusion, w.bits))
      (λ o. cond o.0 (taken_at number (length front) (with_inclusion w o.1)) (Ok (with_inclusion w o.1))) v h (λ o e k. found_by v o.0 o.1 reached e k)
