-- Keys as lists, and as one number.
use Rattle.std.proofs.Common.{◌≡◌, ℕ, ◌^◌, ◌<◌, ◌≤◌, ◌⊎◌, inl, inr, [], ◌∷◌, sym, subst, arith}
use Rattle.std.specs.Ordering.{nat_cmp, ordering_then}
use Rattle.std.specs.declared.cmp.Ordering.{Ordering}
use Rattle.std.specs.declared.cmp.Ordering.TheVariants.{Less, Equal, Greater}
use Rattle.std.specs.Cmp.{nat_cmp_is}
use Rattle.std.specs.Cmp.Lexicographic.{slice_cmp}
use Rattle.std.proofs.lemmas.Bool.{cases_order}
use Rattle.jk_marks.specs.declared.segments.Order.{Order}
use Rattle.jk_marks.specs.declared.segments.Order.TheVariants.{Lrcp, Rlcp, Rpcl, Pcrl, Cprl}
use Rattle.jk_order.specs.PacketOrder.{key_at, key_cmp}
use Rattle.jk_order.specs.Streams.{packed, rank_at}

-- the first numbers that differ decide
pub then_less : (a b : ℕ) (o : Ordering) → ordering_then (nat_cmp a b) o ≡ Less → (a < b) ⊎ ((a ≡ b) × (o ≡ Less))
then_less a b o e = by (cases_order a b)
  where
    by : (a ≡ b) ⊎ ((a < b) ⊎ (b < a)) → (a < b) ⊎ ((a ≡ b) × (o ≡ Less))
    by (inl same) = inr (same, subst (λ r. ordering_then r o ≡ Less) (sym (nat_cmp_is a b Equal same)) e)
    by (inr (inl up)) = inl up
    by (inr (inr down)) = let turned : Greater ≡ Less = subst (λ r. ordering_then r o ≡ Less) (sym (nat_cmp_is a b Greater down)) e in absurd cc

pub then_equal : (a b : ℕ) (o : Ordering) → ordering_then (nat_cmp a b) o ≡ Equal → (a ≡ b) × (o ≡ Equal)
then_equal a b o e = by (cases_order a b)
  where
    by : (a ≡ b) ⊎ ((a < b) ⊎ (b < a)) → (a ≡ b) × (o ≡ Equal)
    by (inl same) = (same, subst (λ r. ordering_then r o ≡ Equal) (sym (nat_cmp_is a b Equal same)) e)
    by (inr (inl up)) = let turned : Less ≡ Equal = subst (λ r. ordering_then r o ≡ Equal) (sym (nat_cmp_is a b Less up)) e in absurd cc
    by (inr (inr down)) = let turned : Greater ≡ Equal = subst (λ r. ordering_then r o ≡ Equal) (sym (nat_cmp_is a b Greater down)) e in absurd cc

-- four or five numbers compare as the number that they are packed in
lower_five : (a b c d e p q r s t : ℕ) → b < 2 ^ 32 → c < 2 ^ 32 → d < 2 ^ 8 → e < 2 ^ 24
    → key_cmp (a ∷ b ∷ c ∷ d ∷ e ∷ []) (p ∷ q ∷ r ∷ s ∷ t ∷ []) ≡ Less → packed a b c d e < packed p q r s t
lower_five a b c d e p q r s t hb hc hd he h = first (then_less a p (slice_cmp nat_cmp (b ∷ c ∷ d ∷ e ∷ []) (q ∷ r ∷ s ∷ t ∷ [])) h)
  where
    fifth : a ≡ p → b ≡ q → c ≡ r → d ≡ s → (e < t) ⊎ ((e ≡ t) × (Equal ≡ Less)) → packed a b c d e < packed p q r s t
    fifth i j k l (inl up) = omega arith
    fifth i j k l (inr same) = let no = same.1 in absurd cc

    fourth : a ≡ p → b ≡ q → c ≡ r → (d < s) ⊎ ((d ≡ s) × (slice_cmp nat_cmp (e ∷ []) (t ∷ []) ≡ Less)) → packed a b c d e < packed p q r s t
    fourth i j k (inl up) = omega arith
    fourth i j k (inr same) = fifth i j k same.0 (then_less e t Equal same.1)

    third : a ≡ p → b ≡ q → (c < r) ⊎ ((c ≡ r) × (slice_cmp nat_cmp (d ∷ e ∷ []) (s ∷ t ∷ []) ≡ Less)) → packed a b c d e < packed p q r s t
    third i j (inl up) = omega arith
    third i j (inr same) = fourth i j same.0 (then_less d s (slice_cmp nat_cmp (e ∷ []) (t ∷ [])) same.1)

    second : a ≡ p → (b < q) ⊎ ((b ≡ q) × (slice_cmp nat_cmp (c ∷ d ∷ e ∷ []) (r ∷ s ∷ t ∷ []) ≡ Less)) → packed a b c d e < packed p q r s t
    second i (inl up) = omega arith
    second i (inr same) = third i same.0 (then_less c r (slice_cmp nat_cmp (d ∷ e ∷ []) (s ∷ t ∷ [])) same.1)

    first : (a < p) ⊎ ((a ≡ p) × (slice_cmp nat_cmp (b ∷ c ∷ d ∷ e ∷ []) (q ∷ r ∷ s ∷ t ∷ []) ≡ Less)) → packed a b c d e < packed p q r s t
    first (inl up) = omega arith
    first (inr same) = second same.0 (then_less b q (slice_cmp nat_cmp (c ∷ d ∷ e ∷ []) (r ∷ s ∷ t ∷ [])) same.1)

lower_four : (a b d e p q s t : ℕ) → b < 2 ^ 32 → d < 2 ^ 8 → e < 2 ^ 24
    → key_cmp (a ∷ b ∷ d ∷ e ∷ []) (p ∷ q ∷ s ∷ t ∷ []) ≡ Less → packed a b 0 d e < packed p q 0 s t
lower_four a b d e p q s t hb hd he h = first (then_less a p (slice_cmp nat_cmp (b ∷ d ∷ e ∷ []) (q ∷ s ∷ t ∷ [])) h)
  where
    fourth : a ≡ p → b ≡ q → d ≡ s → (e < t) ⊎ ((e ≡ t) × (Equal ≡ Less)) → packed a b 0 d e < packed p q 0 s t
    fourth i j l (inl up) = omega arith
    fourth i j l (inr same) = let no = same.1 in absurd cc

    third : a ≡ p → b ≡ q → (d < s) ⊎ ((d ≡ s) × (slice_cmp nat_cmp (e ∷ []) (t ∷ []) ≡ Less)) → packed a b 0 d e < packed p q 0 s t
    third i j (inl up) = omega arith
    third i j (inr same) = fourth i j same.0 (then_less e t Equal same.1)

    second : a ≡ p → (b < q) ⊎ ((b ≡ q) × (slice_cmp nat_cmp (d ∷ e ∷ []) (s ∷ t ∷ []) ≡ Less)) → packed a b 0 d e < packed p q 0 s t
    second i (inl up) = omega arith
    second i (inr same) = third i same.0 (then_less d s (slice_cmp nat_cmp (e ∷ []) (t ∷ [])) same.1)

    first : (a < p) ⊎ ((a ≡ p) × (slice_cmp nat_cmp (b ∷ d ∷ e ∷ []) (q ∷ s ∷ t ∷ []) ≡ Less)) → packed a b 0 d e < packed p q 0 s t
    first (inl up) = omega arith
    first (inr same) = second same.0 (then_less b q (slice_cmp nat_cmp (d ∷ e ∷ []) (s ∷ t ∷ [])) same.1)

-- the numbers of a packet's key, small enough to be packed
pub record IsPackable (l r c k x y : ℕ) : Type 0 where
  pub layer : l < 2 ^ 16
  pub resolution : r ≤ 10
  pub component : c ≤ 3
  pub precinct : k < 2 ^ 24
  pub column : x < 2 ^ 32
  pub row : y < 2 ^ 32

-- a lower key has a lower rank
pub key_rank : (o : Order) (l r c k x y m q d j u v : ℕ) → IsPackable l r c k x y
    → key_cmp (key_at o l r c k x y) (key_at o m q d j u v) ≡ Less → rank_at o l r c k x y < rank_at o m q d j u v
key_rank Lrcp l r c k x y m q d j u v p h = lower_four l r c k m q d j (omega arith) (omega arith) p.precinct h
key_rank Rlcp l r c k x y m q d j u v p h = lower_four r l c k q m d j (omega arith) (omega arith) p.precinct h
key_rank Rpcl l r c k x y m q d j u v p h = lower_five r y x c l q v u d m p.row p.column (omega arith) (omega arith) h
key_rank Pcrl l r c k x y m q d j u v p h = lower_five y x c r l v u d q m p.column (omega arith) (omega arith) (omega arith) h
key_rank Cprl l r c k x y m q d j u v p h = lower_five c y x r l d v u q m p.row p.column (omega arith) (omega arith) h

-- what packets with one key have in common
pub record IsSameKey (l r c k x y m q d j u v : ℕ) : Type 0 where
  pub layer : l ≡ m
  pub resolution : r ≡ q
  pub component : c ≡ d
  pub precinct : (k ≡ j) ⊎ ((x ≡ u) × (y ≡ v))

same_four : (a b d e p q s t : ℕ) → key_cmp (a ∷ b ∷ d ∷ e ∷ []) (p ∷ q ∷ s ∷ t ∷ []) ≡ Equal → (a ≡ p) × (b ≡ q) × (d ≡ s) × (e ≡ t)
same_four a b d e p q s t h =
    let i = then_equal a p (slice_cmp nat_cmp (b ∷ d ∷ e ∷ []) (q ∷ s ∷ t ∷ [])) h in
    let j = then_equal b q (slice_cmp nat_cmp (d ∷ e ∷ []) (s ∷ t ∷ [])) i.1 in
    let l = then_equal d s (slice_cmp nat_cmp (e ∷ []) (t ∷ [])) j.1 in
    let m = then_equal e t Equal l.1 in
    (i.0, j.0, l.0, m.0)

same_five : (a b c d e p q r s t : ℕ) → key_cmp (a ∷ b ∷ c ∷ d ∷ e ∷ []) (p ∷ q ∷ r ∷ s ∷ t ∷ []) ≡ Equal → (a ≡ p) × (b ≡ q) × (c ≡ r) × (d ≡ s) × (e ≡ t)
same_five a b c d e p q r s t h =
    let i = then_equal a p (slice_cmp nat_cmp (b ∷ c ∷ d ∷ e ∷ []) (q ∷ r ∷ s ∷ t ∷ [])) h in
    let j = same_four b c d e q r s t i.1 in
    (i.0, j.0, j.1, j.2, j.3)

pub key_same : (o : Order) (l r c k x y m q d j u v : ℕ) → key_cmp (key_at o l r c k x y) (key_at o m q d j u v) ≡ Equal → IsSameKey l r c k x y m q d j u v
key_same Lrcp l r c k x y m q d j u v h = let e = same_four l r c k m q d j h in record { layer = e.0; resolution = e.1; component = e.2; precinct = inl e.3 }
key_same Rlcp l r c k x y m q d j u v h = let e = same_four r l c k q m d j h in record { layer = e.1; resolution = e.0; component = e.2; precinct = inl e.3 }
key_same Rpcl l r c k x y m q d j u v h = let e = same_five r y x c l q v u d m h in record { layer = e.4; resolution = e.0; component = e.3; precinct = inr (e.2, e.1) }
key_same Pcrl l r c k x y m q d j u v h = let e = same_five y x c r l v u d q m h in record { layer = e.4; resolution = e.3; component = e.2; precinct = inr (e.1, e.0) }
key_same Cprl l r c k x y m q d j u v h = let e = same_five c y x r l d v u q m h in record { layer = e.4; resolution = e.3; component = e.0; precinct = inr (e.2, e.1) }
