-- Steps of reading, one equation for each case.
use Rattle.std.proofs.Common.{◌≡◌, ℕ, zero, suc, ◌+◌, ◌*◌, ◌^◌, ◌<◌, ◌≤◌, Bool, true, false, cond, Result, Ok, Err, refl, sym, ap, ◌∙◌, subst, inl, inr, arith}
use Rattle.std.specs.Prelude.{not, nat_le}
use Rattle.std.proofs.lemmas.Bool.{cases_lt}
use Rattle.std.proofs.lemmas.Bool.Decides.{nat_tests}
use Rattle.std.proofs.lemmas.Nat.{pow_below}
use Rattle.jk_math.specs.Answer.{◌>>=◌, refuse, Reads}
use Rattle.jk_math.specs.declared.fault.Fault.{Fault}
use Rattle.jk_math.specs.declared.fault.Fault.TheVariants.{PacketHeader}
use Rattle.jk_bits.specs.Reading.{Bits, bit_at}
use Rattle.jk_tree.specs.TagTree.{query_of}
use Rattle.jk_tree.specs.Asking.{TagTreeRead, node_at, ask_at}
use Rattle.jk_packet.specs.declared.block.Block.{Block}
use Rattle.jk_packet.specs.Words.{greatest_power, floor_log2}
use Rattle.jk_packet.specs.Reading.{digit, number_at, growth_at, included_at, zero_planes_at}

pub number_next : (n value : ℕ) (r : Bits) (o : Bool × Bits) → bit_at r ≡ Ok o → number_at (suc n) value r ≡ number_at n (value * 2 + digit o.0) o.1
unfolding number_at
number_next n value r o e = ap (λ (w : Result (Bool × Bits) Fault). w >>= λ b. number_at n (value * 2 + digit b.0) b.1) e

pub number_err : (n value : ℕ) (r : Bits) (e : Fault) → bit_at r ≡ Err e → number_at (suc n) value r ≡ Err e
unfolding number_at
number_err n value r e h = ap (λ (w : Result (Bool × Bits) Fault). w >>= λ b. number_at n (value * 2 + digit b.0) b.1) h

pub number_end : (value : ℕ) (r : Bits) → number_at 0 value r ≡ Ok (value, r)
unfolding number_at
number_end value r = refl

pub growth_none : (growth : ℕ) (r : Bits) → growth_at 0 growth r ≡ Err PacketHeader
unfolding growth_at
growth_none growth r = refl

pub growth_next : (room growth : ℕ) (r : Bits) (o : Bool × Bits) → bit_at r ≡ Ok o → growth_at (suc room) growth r ≡ cond o.0 (growth_at room (growth + 1) o.1) (Ok (growth, o.1))
unfolding growth_at
growth_next room growth r o e = ap (λ (w : Result (Bool × Bits) Fault). w >>= λ b. cond b.0 (growth_at room (growth + 1) b.1) (Ok (growth, b.1))) e

pub growth_err : (room growth : ℕ) (r : Bits) (e : Fault) → bit_at r ≡ Err e → growth_at (suc room) growth r ≡ Err e
unfolding growth_at
growth_err room growth r e h = ap (λ (w : Result (Bool × Bits) Fault). w >>= λ b. cond b.0 (growth_at room (growth + 1) b.1) (Ok (growth, b.1))) h

greatest_is : (k n r : ℕ) → r ≤ k → 2 ^ r ≤ n → n < 2 ^ suc r → greatest_power k n ≡ r
unfolding greatest_power
greatest_is zero n r small low high = omega (arith, small)
greatest_is (suc k) n r small low high =
    elim (cases_lt k r) [
      | inl last ↦
          let same : r ≡ suc k = omega (arith, small, last) in
          let fits : 2 ^ suc k ≤ n = subst (λ m. 2 ^ m ≤ n) same low in
          let test : nat_le (2 ^ suc k) n ≡ true = grind (arith, nat_tests) in
          ap (λ (b : Bool). cond b (suc k) (greatest_power k n)) test ∙ sym same
      | inr within ↦
          let over : n < 2 ^ suc k = elim (cases_lt r k) [
            | inl less ↦ (let grows : 2 ^ suc r < 2 ^ suc k = pow_below (suc r) (suc k) (omega (arith, less)) in omega (arith, grows, high))
            | inr more ↦ (let same : r ≡ k = omega (arith, within, more) in subst (λ m. n < 2 ^ suc m) same high)
          ] in
          let test : nat_le (2 ^ suc k) n ≡ false = grind (arith, nat_tests) in
          ap (λ (b : Bool). cond b (suc k) (greatest_power k n)) test ∙ greatest_is k n r within low high
    ]

-- The logarithm is the one power that fits.
pub log2_is : (n r : ℕ) → r < 32 → 2 ^ r ≤ n → n < 2 ^ suc r → floor_log2 n ≡ r
unfolding floor_log2
log2_is n r small low high = greatest_is 31 n r (omega (arith, small)) low high

pub included_bit : (layer leaf : ℕ) (b : Block) (t : TagTreeRead) (old new : Bits) (r : Result Bool Fault) → b.included ≡ true → Reads bit_at old new r → Reads (included_at layer leaf b) (t, old) (t, new) r
unfolding included_at
included_bit layer leaf b t old new (Ok x) h e =
    ap (λ (c : Bool). cond c (bit_at old >>= λ r. Ok (r.0, (t, r.1))) (ask_at (query_of leaf (layer + 1)) (t, old))) h
    ∙ ap (λ (w : Result (Bool × Bits) Fault). w >>= λ r. Ok (r.0, (t, r.1))) e
included_bit layer leaf b t old new (Err x) h e =
    ap (λ (c : Bool). cond c (bit_at old >>= λ r. Ok (r.0, (t, r.1))) (ask_at (query_of leaf (layer + 1)) (t, old))) h
    ∙ ap (λ (w : Result (Bool × Bits) Fault). w >>= λ r. Ok (r.0, (t, r.1))) e

pub included_old : (layer leaf : ℕ) (b : Block) (s : TagTreeRead × Bits) → b.included ≡ true → included_at layer leaf b s ≡ (bit_at s.1 >>= λ r. Ok (r.0, (s.0, r.1)))
unfolding included_at
included_old layer leaf b s h = ap (λ (c : Bool). cond c (bit_at s.1 >>= λ r. Ok (r.0, (s.0, r.1))) (ask_at (query_of leaf (layer + 1)) s)) h

pub included_ask : (layer leaf : ℕ) (b : Block) (s : TagTreeRead × Bits) → b.included ≡ false → included_at layer leaf b s ≡ ask_at (query_of leaf (layer + 1)) s
unfolding included_at
included_ask layer leaf b s h = ap (λ (c : Bool). cond c (bit_at s.1 >>= λ r. Ok (r.0, (s.0, r.1))) (ask_at (query_of leaf (layer + 1)) s)) h

pub included_asks : (layer leaf : ℕ) (b : Block) (old new : TagTreeRead × Bits) (r : Result Bool Fault) → b.included ≡ false → Reads (ask_at (query_of leaf (layer + 1))) old new r → Reads (included_at layer leaf b) old new r
included_asks layer leaf b old new (Ok x) h e = included_ask layer leaf b old h ∙ e
included_asks layer leaf b old new (Err x) h e = included_ask layer leaf b old h ∙ e

pub zeros_known : (planes leaf : ℕ) (b : Block) (s : TagTreeRead × Bits) → b.included ≡ true → zero_planes_at planes leaf b s ≡ Ok (b.zero_planes, s)
unfolding zero_planes_at
zeros_known planes leaf b s h =
    ap (λ (c : Bool). cond c (Ok (b.zero_planes, s)) (ask_at (query_of leaf (planes + 1)) s >>= λ o. refuse (not o.0) PacketHeader >>= λ _. Ok ((node_at o.1.0.nodes leaf).low, o.1))) h

pub zeros_asked : (planes leaf : ℕ) (b : Block) (s : TagTreeRead × Bits) → b.included ≡ false
    → zero_planes_at planes leaf b s ≡ (ask_at (query_of leaf (planes + 1)) s >>= λ o. refuse (not o.0) PacketHeader >>= λ _. Ok ((node_at o.1.0.nodes leaf).low, o.1))
unfolding zero_planes_at
zeros_asked planes leaf b s h =
    ap (λ (c : Bool). cond c (Ok (b.zero_planes, s)) (ask_at (query_of leaf (planes + 1)) s >>= λ o. refuse (not o.0) PacketHeader >>= λ _. Ok ((node_at o.1.0.nodes leaf).low, o.1))) h

pub zeros_err : (planes leaf : ℕ) (b : Block) (s : TagTreeRead × Bits) (e : Fault) → b.included ≡ false → ask_at (query_of leaf (planes + 1)) s ≡ Err e → zero_planes_at planes leaf b s ≡ Err e
zeros_err planes leaf b s e h a =
    zeros_asked planes leaf b s h ∙ ap (λ (w : Result (Bool × (TagTreeRead × Bits)) Fault). w >>= λ o. refuse (not o.0) PacketHeader >>= λ _. Ok ((node_at o.1.0.nodes leaf).low, o.1)) a

pub zeros_none : (planes leaf : ℕ) (b : Block) (s : TagTreeRead × Bits) (o : Bool × (TagTreeRead × Bits)) → b.included ≡ false → ask_at (query_of leaf (planes + 1)) s ≡ Ok o → o.0 ≡ false → zero_planes_at planes leaf b s ≡ Err PacketHeader
zeros_none planes leaf b s o h a known =
    zeros_asked planes leaf b s h ∙ ap (λ (w : Result (Bool × (TagTreeRead × Bits)) Fault). w >>= λ o. refuse (not o.0) PacketHeader >>= λ _. Ok ((node_at o.1.0.nodes leaf).low, o.1)) a
    ∙ ap (λ (k : Bool). refuse (not k) PacketHeader >>= λ _. Ok ((node_at o.1.0.nodes leaf).low, o.1)) known

pub zeros_ok : (planes leaf : ℕ) (b : Block) (s : TagTreeRead × Bits) (o : Bool × (TagTreeRead × Bits)) → b.included ≡ false → ask_at (query_of leaf (planes + 1)) s ≡ Ok o → o.0 ≡ true → zero_planes_at planes leaf b s ≡ Ok ((node_at o.1.0.nodes leaf).low, o.1)
zeros_ok planes leaf b s o h a known =
    zeros_asked planes leaf b s h ∙ ap (λ (w : Result (Bool × (TagTreeRead × Bits)) Fault). w >>= λ o. refuse (not o.0) PacketHeader >>= λ _. Ok ((node_at o.1.0.nodes leaf).low, o.1)) a
    ∙ ap (λ (k : Bool). refuse (not k) PacketHeader >>= λ _. Ok ((node_at o.1.0.nodes leaf).low, o.1)) known
