-- Inclusion and zero bit-planes of one block: what is told is read, and what is read is told.
use Rattle.std.proofs.Common.{◌≡◌, ℕ, ◌+◌, ◌*◌, ◌<◌, ◌≤◌, Bool, true, false, cond, List, [], ◌∷◌, ◌++◌, length, Option, Some, Ok, refl, sym, ap, ◌∙◌, subst, inl, inr, arith, add-zero}
use Rattle.std.specs.Prelude.{not, nat_lt, is_some}
use Rattle.std.proofs.lemmas.Bool.{cases_Bool}
use Rattle.std.proofs.lemmas.Bool.Decides.{nat_tests}
use Rattle.jk_math.specs.Answer.{◌>>=◌, refuse}
use Rattle.jk_math.specs.Steps.{bind_then, refuse_then}
use Rattle.jk_math.specs.declared.fault.Fault.TheVariants.{PacketHeader}
use Rattle.jk_bits.specs.Reading.{Bits, ahead, bit_at}
use Rattle.jk_tree.specs.TagTree.{Shape, count, Values, Query, query_of, told, leaf_of}
use Rattle.jk_tree.specs.Asking.{node_at, AreTold, AreToldBySome, TagTreeRead, ask_at, IsOpen}
use Rattle.jk_bits.specs.Giving.{GivesBits, advance, gives_none, gives_bit, bit_ahead}
use Rattle.jk_tree.proofs.Laws.{ask_only, ask_found, told_same, stands_same, low_is, value_is, low_below}
use Rattle.jk_packet.specs.declared.block.Block.{Block}
use Rattle.jk_packet.specs.Reading.{included_at, zero_planes_at}
use Rattle.jk_packet.specs.PacketText.{PacketContribution, BandLayer, is_included, asks_inclusion, asks_zeros, queries_before, inclusion_bits, zeros_bits}
use Rattle.jk_packet.proofs.ReadLaws.{included_bit, included_old, included_ask, zeros_known, zeros_asked, zeros_ok}
use Rattle.jk_packet.proofs.QueryLaws.{inclusion_old, inclusion_new, zeros_old, zeros_new}

pub inclusion_bits_old : (s : Shape) (v : Values) (layers : List BandLayer) (front : List (Option PacketContribution)) (taken : Bool) → is_included layers (length front) ≡ true → inclusion_bits s v layers front (length front) taken ≡ taken ∷ []
unfolding inclusion_bits
inclusion_bits_old s v layers front taken h = ap (λ (b : Bool). cond b (taken ∷ []) (told s v (queries_before asks_inclusion layers front) (query_of (length front) (length layers + 1)))) h

pub inclusion_bits_new : (s : Shape) (v : Values) (layers : List BandLayer) (front : List (Option PacketContribution)) (taken : Bool) → is_included layers (length front) ≡ false
    → inclusion_bits s v layers front (length front) taken ≡ told s v (queries_before asks_inclusion layers front) (query_of (length front) (length layers + 1))
unfolding inclusion_bits
inclusion_bits_new s v layers front taken h = ap (λ (b : Bool). cond b (taken ∷ []) (told s v (queries_before asks_inclusion layers front) (query_of (length front) (length layers + 1)))) h

pub zeros_bits_old : (s : Shape) (v : Values) (layers : List BandLayer) (front : List (Option PacketContribution)) (zeros : ℕ) → is_included layers (length front) ≡ true → zeros_bits s v layers front (length front) zeros ≡ []
unfolding zeros_bits
zeros_bits_old s v layers front zeros h = ap (λ (b : Bool). cond b [] (told s v (queries_before asks_zeros layers front) (query_of (length front) (zeros + 1)))) h

pub zeros_bits_new : (s : Shape) (v : Values) (layers : List BandLayer) (front : List (Option PacketContribution)) (zeros : ℕ) → is_included layers (length front) ≡ false
    → zeros_bits s v layers front (length front) zeros ≡ told s v (queries_before asks_zeros layers front) (query_of (length front) (zeros + 1))
unfolding zeros_bits
zeros_bits_new s v layers front zeros h = ap (λ (b : Bool). cond b [] (told s v (queries_before asks_zeros layers front) (query_of (length front) (zeros + 1)))) h

module _ (s : Shape) (layers : List BandLayer) (front : List (Option PacketContribution)) (less : length front < s.width * s.height) (block : Block) (was : block.included ≡ is_included layers (length front)) (tree : TagTreeRead) (can : IsOpen s tree) where
  -- the inclusion that is told is read
  pub record IncludedOnly (v : Values) (c : Option PacketContribution) (r : Bits) : Type 0 where
    pub after : TagTreeRead
    pub is : included_at (length layers) (length front) block (tree, r) ≡ Ok (is_some c, (after, advance r (length (inclusion_bits s v layers front (length front) (is_some c)))))
    pub can_go : IsOpen s after
    pub stands : AreTold s v (queries_before asks_inclusion layers (front ++ c ∷ [])) after.nodes

  pub included_only : (v : Values) (c : Option PacketContribution) (r : Bits) (rest : List Bool) → AreTold s v (queries_before asks_inclusion layers front) tree.nodes
      → (is_included layers (length front) ≡ false → is_some c ≡ nat_lt (leaf_of s v (length front)) (length layers + 1))
      → ahead r ≡ inclusion_bits s v layers front (length front) (is_some c) ++ rest → IncludedOnly v c r
  included_only v c r rest st first h = elim (cases_Bool (is_included layers (length front))) [
    | inl old ↦ (let bits = inclusion_bits_old s v layers front (is_some c) old in record {
      after = tree;
      is =
          included_bit (length layers) (length front) block tree r (advance r 1) (Ok (is_some c)) (was ∙ old) (bit_ahead r (is_some c) rest (h ∙ ap (λ (xs : List Bool). xs ++ rest) bits))
          ∙ ap (λ (xs : List Bool). Ok (is_some c, (tree, advance r (length xs)))) (sym bits);
      can_go = can;
      stands = subst (λ (qs : List Query). AreTold s v qs tree.nodes) (sym (inclusion_old layers front c old)) st;
    })
    | inr new ↦ (let bits = inclusion_bits_new s v layers front (is_some c) new in
        let q = query_of (length front) (length layers + 1) in
        let a = ask_only s v (queries_before asks_inclusion layers front) q tree r rest less can st (h ∙ ap (λ (xs : List Bool). xs ++ rest) bits) in record {
          after = a.after;
          is =
              included_ask (length layers) (length front) block (tree, r) (was ∙ new)
              ∙ a.is
              ∙ ap (λ (b : Bool). Ok (b, (a.after, advance r (length (told s v (queries_before asks_inclusion layers front) q))))) (sym (first new))
              ∙ ap (λ (xs : List Bool). Ok (is_some c, (a.after, advance r (length xs)))) (sym bits);
          can_go = a.can;
          stands = subst (λ (qs : List Query). AreTold s v qs a.after.nodes) (sym (inclusion_new layers front c new)) a.stands;
        })
  ]

  -- the inclusion that is read is told
  pub record IncludedFound (c : Option PacketContribution) (r : Bits) (o : Bool × (TagTreeRead × Bits)) : Type 0 where
    pub can_go : IsOpen s o.1.0
    pub reached : AreToldBySome s (queries_before asks_inclusion layers (front ++ c ∷ [])) o.1.0.nodes
    pub each : (v : Values) → AreTold s v (queries_before asks_inclusion layers (front ++ c ∷ [])) o.1.0.nodes
        → AreTold s v (queries_before asks_inclusion layers front) tree.nodes × GivesBits r (inclusion_bits s v layers front (length front) o.0) o.1.1
        × (is_included layers (length front) ≡ false → o.0 ≡ nat_lt (leaf_of s v (length front)) (length layers + 1))

  old_found : (c : Option PacketContribution) (r : Bits) (o : Bool × (TagTreeRead × Bits)) → is_included layers (length front) ≡ true → AreToldBySome s (queries_before asks_inclusion layers front) tree.nodes
      → (x : Bool × Bits) → bit_at r ≡ Ok x → (x.0, (tree, x.1)) ≡ o → IncludedFound c r o
  old_found c r o old reached x e is = subst (λ (p : Bool × (TagTreeRead × Bits)). IncludedFound c r p) is record {
    can_go = can;
    reached = subst (λ (qs : List Query). AreToldBySome s qs tree.nodes) (sym (inclusion_old layers front c old)) reached;
    each = λ v st. (
      subst (λ (qs : List Query). AreTold s v qs tree.nodes) (inclusion_old layers front c old) st,
      subst (λ (xs : List Bool). GivesBits r xs x.1) (sym (inclusion_bits_old s v layers front x.0 old)) (gives_bit r x e),
      λ new. absurd (let clash : true ≡ false = sym old ∙ new in cc),
    );
  }

  pub included_found : (c : Option PacketContribution) (r : Bits) (o : Bool × (TagTreeRead × Bits)) → AreToldBySome s (queries_before asks_inclusion layers front) tree.nodes → included_at (length layers) (length front) block (tree, r) ≡ Ok o → IncludedFound c r o
  included_found c r o reached h = elim (cases_Bool (is_included layers (length front))) [
    | inl old ↦ bind_then (bit_at r) (λ x. Ok (x.0, (tree, x.1))) o (sym (included_old (length layers) (length front) block (tree, r) (was ∙ old)) ∙ h) (λ x e k. old_found c r o old reached x e (let is : (x.0, (tree, x.1)) ≡ o = cc in is))
    | inr new ↦ (let q = query_of (length front) (length layers + 1) in
        let f = ask_found s (queries_before asks_inclusion layers front) q tree r o less can reached (sym (included_ask (length layers) (length front) block (tree, r) (was ∙ new)) ∙ h) in record {
          can_go = f.can;
          reached = subst (λ (qs : List Query). AreToldBySome s qs o.1.0.nodes) (sym (inclusion_new layers front c new)) f.reached;
          each = λ v st.
              let e = f.each v (subst (λ (qs : List Query). AreTold s v qs o.1.0.nodes) (inclusion_new layers front c new) st) in
              (e.0, subst (λ (xs : List Bool). GivesBits r xs o.1.1) (sym (inclusion_bits_new s v layers front o.0 new)) e.1, λ _. e.2);
        })
  ]

  -- the zero bit-planes that are told are read
  pub record ZerosOnly (planes : ℕ) (v : Values) (c : PacketContribution) (r : Bits) : Type 0 where
    pub after : TagTreeRead
    pub is : zero_planes_at planes (length front) block (tree, r) ≡ Ok (c.zero_planes, (after, advance r (length (zeros_bits s v layers front (length front) c.zero_planes))))
    pub can_go : IsOpen s after
    pub stands : AreTold s v (queries_before asks_zeros layers (front ++ Some c ∷ [])) after.nodes

  pub zeros_only : (planes : ℕ) (v : Values) (c : PacketContribution) (r : Bits) (rest : List Bool) → AreTold s v (queries_before asks_zeros layers front) tree.nodes
      → (is_included layers (length front) ≡ false → (c.zero_planes ≡ leaf_of s v (length front)) × (c.zero_planes ≤ planes)) → (is_included layers (length front) ≡ true → c.zero_planes ≡ block.zero_planes)
      → ahead r ≡ zeros_bits s v layers front (length front) c.zero_planes ++ rest → ZerosOnly planes v c r
  zeros_only planes v c r rest st first later h = elim (cases_Bool (is_included layers (length front))) [
    | inl old ↦ (let bits = zeros_bits_old s v layers front c.zero_planes old in record {
      after = tree;
      is =
          zeros_known planes (length front) block (tree, r) (was ∙ old)
          ∙ ap (λ n. Ok (n, (tree, r))) (sym (later old))
          ∙ ap (λ n. Ok (c.zero_planes, (tree, record r { read = n }))) (sym (add-zero r.read))
          ∙ ap (λ (xs : List Bool). Ok (c.zero_planes, (tree, advance r (length xs)))) (sym bits);
      can_go = can;
      stands = subst (λ (qs : List Query). AreTold s v qs tree.nodes) (sym (zeros_old layers front c old)) st;
    })
    | inr new ↦ (let i = length front in
        let qs = queries_before asks_zeros layers front in
        let leaf = (first new).0 in
        let within = (first new).1 in
        let low : leaf_of s v i < c.zero_planes + 1 = omega (arith, leaf) in
        let high : leaf_of s v i < planes + 1 = omega (arith, leaf, within) in
        let same = told_same s v qs i (c.zero_planes + 1) (planes + 1) less st.tree low (omega (arith, within)) in
        let bits = zeros_bits_new s v layers front c.zero_planes new ∙ same in
        let a = ask_only s v qs (query_of i (planes + 1)) tree r rest less can st (h ∙ ap (λ (xs : List Bool). xs ++ rest) bits) in
        let test : nat_lt (leaf_of s v i) (planes + 1) ≡ true = grind (arith, nat_tests) in record {
          after = a.after;
          is =
              zeros_ok planes i block (tree, r) (nat_lt (leaf_of s v i) (planes + 1), (a.after, advance r (length (told s v qs (query_of i (planes + 1)))))) (was ∙ new) a.is test
              ∙ ap (λ n. Ok (n, (a.after, advance r (length (told s v qs (query_of i (planes + 1))))))) (low_is s v qs i (planes + 1) a.after.nodes less high a.stands ∙ sym leaf)
              ∙ ap (λ (xs : List Bool). Ok (c.zero_planes, (a.after, advance r (length xs)))) (sym bits);
          can_go = a.can;
          stands = subst (λ (ks : List Query). AreTold s v ks a.after.nodes) (sym (zeros_new layers front c new)) (stands_same s v qs i (planes + 1) (c.zero_planes + 1) a.after.nodes less high low a.stands);
        })
  ]

  -- the zero bit-planes that are read are told
  pub record ZerosFound (planes : ℕ) (c : PacketContribution) (r : Bits) (o : ℕ × (TagTreeRead × Bits)) : Type 0 where
    pub can_go : IsOpen s o.1.0
    pub reached : AreToldBySome s (queries_before asks_zeros layers (front ++ Some c ∷ [])) o.1.0.nodes
    pub later : is_included layers (length front) ≡ true → o.0 ≡ block.zero_planes
    pub within : is_included layers (length front) ≡ false → o.0 ≤ planes
    pub each : (v : Values) → AreTold s v (queries_before asks_zeros layers (front ++ Some c ∷ [])) o.1.0.nodes
        → AreTold s v (queries_before asks_zeros layers front) tree.nodes × GivesBits r (zeros_bits s v layers front (length front) o.0) o.1.1
        × (is_included layers (length front) ≡ false → o.0 ≡ leaf_of s v (length front))

  known_found : (planes : ℕ) (c : PacketContribution) (r : Bits) (o : ℕ × (TagTreeRead × Bits)) → is_included layers (length front) ≡ true → AreToldBySome s (queries_before asks_zeros layers front) tree.nodes → (block.zero_planes, (tree, r)) ≡ o → ZerosFound planes c r o
  known_found planes c r o old reached is = subst (λ (p : ℕ × (TagTreeRead × Bits)). ZerosFound planes c r p) is record {
    can_go = can;
    reached = subst (λ (qs : List Query). AreToldBySome s qs tree.nodes) (sym (zeros_old layers front c old)) reached;
    later = λ _. refl;
    within = λ new. absurd (let clash : true ≡ false = sym old ∙ new in cc);
    each = λ v st. (
      subst (λ (qs : List Query). AreTold s v qs tree.nodes) (zeros_old layers front c old) st,
      subst (λ (xs : List Bool). GivesBits r xs r) (sym (zeros_bits_old s v layers front block.zero_planes old)) (gives_none r),
      λ new. absurd (let clash : true ≡ false = sym old ∙ new in cc),
    );
  }

  asked_found : (planes : ℕ) (c : PacketContribution) (r : Bits) (o : ℕ × (TagTreeRead × Bits)) → c.zero_planes ≡ o.0 → is_included layers (length front) ≡ false → AreToldBySome s (queries_before asks_zeros layers front) tree.nodes
      → (a : Bool × (TagTreeRead × Bits)) → ask_at (query_of (length front) (planes + 1)) (tree, r) ≡ Ok a → a.0 ≡ true → ((node_at a.1.0.nodes (length front)).low, a.1) ≡ o → ZerosFound planes c r o
  asked_found planes c r o value new reached a e known is =
      let i = length front in
      let qs = queries_before asks_zeros layers front in
      let f = ask_found s qs (query_of i (planes + 1)) tree r a less can reached e in
      let low = (node_at a.1.0.nodes i).low in
      let is_known = low_below (query_of i (planes + 1)) tree r a (subst (λ (x : Shape). i < x.width * x.height) (sym can.shape) less) (can.long ∙ ap count (sym can.shape)) e known in
      let below : low < planes + 1 = is_known.1 in
      let low_o : low ≡ o.0 = ap (λ (p : ℕ × (TagTreeRead × Bits)). p.0) is in
      let zero_is : c.zero_planes ≡ low = value ∙ sym low_o in
      let next : queries_before asks_zeros layers (front ++ Some c ∷ []) ≡ qs ++ query_of i (low + 1) ∷ [] = zeros_new layers front c new ∙ ap (λ n. qs ++ query_of i (n + 1) ∷ []) zero_is in
      subst (λ (p : ℕ × (TagTreeRead × Bits)). ZerosFound planes c r p) is record {
        can_go = f.can;
        reached =
            let v = f.reached.0 in
            let st = f.reached.1 in
            let leaf = value_is s v (qs ++ query_of i (planes + 1) ∷ []) i a.1.0.nodes less is_known.0 st in
            (v, subst (λ (ks : List Query). AreTold s v ks a.1.0.nodes) (sym next) (stands_same s v qs i (planes + 1) (low + 1) a.1.0.nodes less (omega (arith, leaf, below)) (omega (arith, leaf)) st));
        later = λ old. absurd (let clash : true ≡ false = sym old ∙ new in cc);
        within = λ _. omega (arith, below);
        each = λ v st.
            let here : AreTold s v (qs ++ query_of i (low + 1) ∷ []) a.1.0.nodes = subst (λ (ks : List Query). AreTold s v ks a.1.0.nodes) next st in
            let leaf = value_is s v (qs ++ query_of i (low + 1) ∷ []) i a.1.0.nodes less is_known.0 here in
            let wide = stands_same s v qs i (low + 1) (planes + 1) a.1.0.nodes less (omega (arith, leaf)) (omega (arith, leaf, below)) here in
            let g = f.each v wide in
            let same = told_same s v qs i (low + 1) (planes + 1) less st.tree (omega (arith, leaf)) (omega (arith, below)) in (
              g.0,
              subst (λ (xs : List Bool). GivesBits r xs a.1.1) (sym (zeros_bits_new s v layers front low new ∙ same)) g.1,
              λ _. sym leaf,
            );
      }

  pub zeros_found : (planes : ℕ) (c : PacketContribution) (r : Bits) (o : ℕ × (TagTreeRead × Bits)) → c.zero_planes ≡ o.0 → AreToldBySome s (queries_before asks_zeros layers front) tree.nodes → zero_planes_at planes (length front) block (tree, r) ≡ Ok o → ZerosFound planes c r o
  zeros_found planes c r o value reached h = elim (cases_Bool (is_included layers (length front))) [
    | inl old ↦ known_found planes c r o old reached (let e : Ok (block.zero_planes, (tree, r)) ≡ Ok o = sym (zeros_known planes (length front) block (tree, r) (was ∙ old)) ∙ h in let is : (block.zero_planes, (tree, r)) ≡ o = cc in is)
    | inr new ↦ bind_then (ask_at (query_of (length front) (planes + 1)) (tree, r)) (λ a. refuse (not a.0) PacketHeader >>= λ _. Ok ((node_at a.1.0.nodes (length front)).low, a.1)) o
        (sym (zeros_asked planes (length front) block (tree, r) (was ∙ new)) ∙ h) (λ a e k.
        refuse_then (not a.0) PacketHeader (λ _. Ok ((node_at a.1.0.nodes (length front)).low, a.1)) o k (λ t l.
        asked_found planes c r o value new reached a e (not_not a.0 t) (let is : ((node_at a.1.0.nodes (length front)).low, a.1) ≡ o = cc in is)))
  ]
    where
      not_not : (b : Bool) → not b ≡ false → b ≡ true
      not_not true e = refl
      not_not false e = absurd (cc)
