-- The packet behind a stream's next one has the least rank above it.
use Rattle.std.proofs.Common.{◌≡◌, ℕ, ◌+◌, ◌*◌, ◌<◌, ◌≤◌, ◌⊎◌, inl, inr, Bool, true, false, nat_lt, refl, ap, sym, ◌∙◌, subst, arith}
use Rattle.std.specs.Prelude.{Some, None, MatchOption}
use Rattle.std.proofs.lemmas.Bool.{cond_both, cases_order, cases_lt, ltb-true, ltb-false}
use Rattle.jk_order.specs.declared.stream.Stream.{Stream}
use Rattle.jk_order.specs.declared.stream.PacketsFrame.{PacketsFrame}
use Rattle.jk_order.specs.Streams.{rank, is_inside, IsPacketsFrame, IsStream, StandsInCell, stepped, next_precinct, next_layer, or_else, layers_inside, layers_outside, successor}
use Rattle.jk_order.proofs.Growth.{inside_up, inside_more, outside_up, outside_more}

-- the same stream before another packet
abbrev pub moved : Stream → (l k a b : ℕ) → Stream
moved s l k a b = record s { layer = l; precinct = k; column = a; row = b }

-- t is s behind its next packet
pub record IsNext (f : PacketsFrame) (s t : Stream) : Type 0 where
  pub same : t ≡ moved s t.layer t.precinct t.column t.row
  pub layer : t.layer < f.layers
  pub placed : StandsInCell t
  pub after : rank f s s.layer s.precinct < rank f s t.layer t.precinct
  pub least : (l k : ℕ) → l < f.layers → k < s.precincts → rank f s s.layer s.precinct < rank f s l k → rank f s t.layer t.precinct ≤ rank f s l k

-- no packet is behind the next one
abbrev pub IsLast : PacketsFrame → Stream → Type 0
IsLast f s = (l k : ℕ) → l < f.layers → k < s.precincts → rank f s l k ≤ rank f s s.layer s.precinct

-- a step to the next precinct keeps its column and row
pub stepped_placed : (s : Stream) → StandsInCell s → s.precinct + 1 < s.precincts → StandsInCell (stepped s)
stepped_placed s p more = by (nat_lt (s.column + 1) s.across) refl
  where
    by : (b : Bool) → nat_lt (s.column + 1) s.across ≡ b → StandsInCell (stepped s)
    by true e = rw e (record { column = ltb-true _ _ e; row = (let r = p.row in omega arith); precinct = more })
    by false e =
        let full : s.across ≤ s.column + 1 = ltb-false (s.column + 1) s.across e in
        let one : (s.row + 1) * s.across ≡ s.row * s.across + s.across = omega arith in
        let is = p.row in
        let col = p.column in
        rw e (record { column = omega arith; row = omega arith; precinct = more })

-- which packets of the stream have a greater rank
inside_after : (f : PacketsFrame) (s : Stream) (l m k j : ℕ) → IsPacketsFrame f → IsStream f s → is_inside f.order ≡ true → l < f.layers → m < f.layers → k < s.precincts → j < s.precincts
    → rank f s l k < rank f s m j → (k < j) ⊎ ((k ≡ j) × (l < m))
inside_after f s l m k j fr st i hl hm hk hj h = by (cases_order k j)
  where
    among : k ≡ j → (l ≡ m) ⊎ ((l < m) ⊎ (m < l)) → (k < j) ⊎ ((k ≡ j) × (l < m))
    among e (inl same) = let is : rank f s l k ≡ rank f s m j = ap (λ n. rank f s n k) same ∙ ap (λ n. rank f s m n) e in absurd (omega arith)
    among e (inr (inl up)) = inr (e, up)
    among e (inr (inr down)) =
        let less : rank f s m j < rank f s l j = inside_more f s m l j i down in
        let is : rank f s l k ≡ rank f s l j = ap (λ n. rank f s l n) e in
        absurd (omega arith)

    by : (k ≡ j) ⊎ ((k < j) ⊎ (j < k)) → (k < j) ⊎ ((k ≡ j) × (l < m))
    by (inl same) = among same (cases_order l m)
    by (inr (inl up)) = inl up
    by (inr (inr down)) = let less : rank f s m j < rank f s l k = inside_up f s m l j k fr st i hm down hk in absurd (omega arith)

outside_after : (f : PacketsFrame) (s : Stream) (l m k j : ℕ) → IsStream f s → is_inside f.order ≡ false → k < s.precincts → j < s.precincts
    → rank f s l k < rank f s m j → (l < m) ⊎ ((l ≡ m) × (k < j))
outside_after f s l m k j st i hk hj h = by (cases_order l m)
  where
    among : l ≡ m → (k ≡ j) ⊎ ((k < j) ⊎ (j < k)) → (l < m) ⊎ ((l ≡ m) × (k < j))
    among e (inl same) = let is : rank f s l k ≡ rank f s m j = ap (λ n. rank f s n k) e ∙ ap (λ n. rank f s m n) same in absurd (omega arith)
    among e (inr (inl up)) = inr (e, up)
    among e (inr (inr down)) =
        let less : rank f s m j < rank f s m k = outside_more f s m j k i down in
        let is : rank f s l k ≡ rank f s m k = ap (λ n. rank f s n k) e in
        absurd (omega arith)

    by : (l ≡ m) ⊎ ((l < m) ⊎ (m < l)) → (l < m) ⊎ ((l ≡ m) × (k < j))
    by (inl same) = among same (cases_order k j)
    by (inr (inl up)) = inl up
    by (inr (inr down)) = let less : rank f s m j < rank f s l k = outside_up f s m l j k st i down hj in absurd (omega arith)

-- a number is the next one, or greater
ahead_of : (n m : ℕ) → n < m → (n + 1 ≡ m) ⊎ (n + 1 < m)
ahead_of n m h = by (cases_order (n + 1) m)
  where
    by : (n + 1 ≡ m) ⊎ ((n + 1 < m) ⊎ (m < n + 1)) → (n + 1 ≡ m) ⊎ (n + 1 < m)
    by (inl e) = inl e
    by (inr (inl up)) = inr up
    by (inr (inr down)) = absurd (omega arith)

zero_or : (m : ℕ) → (0 ≡ m) ⊎ (0 < m)
zero_or m = by (cases_order 0 m)
  where
    by : (0 ≡ m) ⊎ ((0 < m) ⊎ (m < 0)) → (0 ≡ m) ⊎ (0 < m)
    by (inl e) = inl e
    by (inr (inl up)) = inr up
    by (inr (inr down)) = absurd (omega arith)

module _ (f : PacketsFrame) (s : Stream) (fr : IsPacketsFrame f) (st : IsStream f s) (layer : s.layer < f.layers) (p : StandsInCell s) where
  inside_first : is_inside f.order ≡ true → s.layer + 1 < f.layers → IsNext f s (record s { layer = s.layer + 1 })
  inside_first i more = record {
    same = refl;
    layer = more;
    placed = record { column = p.column; row = p.row; precinct = p.precinct };
    after = inside_more f s s.layer (s.layer + 1) s.precinct i (omega arith);
    least = λ l k hl hk h. by l k hl hk (inside_after f s s.layer l s.precinct k fr st i layer hl p.precinct hk h);
  }
    where
      next_to : (l k : ℕ) → s.precinct ≡ k → (s.layer + 1 ≡ l) ⊎ (s.layer + 1 < l) → rank f s (s.layer + 1) s.precinct ≤ rank f s l k
      next_to l k e (inl same) = let is : rank f s (s.layer + 1) s.precinct ≡ rank f s l k = ap (λ n. rank f s n s.precinct) same ∙ ap (λ n. rank f s l n) e in omega arith
      next_to l k e (inr up) =
          let less : rank f s (s.layer + 1) s.precinct < rank f s l s.precinct = inside_more f s (s.layer + 1) l s.precinct i up in
          let is : rank f s l s.precinct ≡ rank f s l k = ap (λ n. rank f s l n) e in
          omega arith

      by : (l k : ℕ) → l < f.layers → k < s.precincts → (s.precinct < k) ⊎ ((s.precinct ≡ k) × (s.layer < l)) → rank f s (s.layer + 1) s.precinct ≤ rank f s l k
      by l k hl hk (inl up) = let less : rank f s (s.layer + 1) s.precinct < rank f s l k = inside_up f s (s.layer + 1) l s.precinct k fr st i more up hk in omega arith
      by l k hl hk (inr same) = next_to l k same.0 (ahead_of s.layer l same.1)

  inside_second : is_inside f.order ≡ true → f.layers ≤ s.layer + 1 → s.precinct + 1 < s.precincts → IsNext f s (stepped (record s { layer = 0 }))
  inside_second i full more = record {
    same = refl;
    layer = fr.some_layers;
    placed = stepped_placed (record s { layer = 0 }) (record { column = p.column; row = p.row; precinct = p.precinct }) more;
    after = inside_up f s s.layer 0 s.precinct (s.precinct + 1) fr st i layer (omega arith) more;
    least = λ l k hl hk h. by l k hl hk (inside_after f s s.layer l s.precinct k fr st i layer hl p.precinct hk h);
  }
    where
      next_to : (l k : ℕ) → s.precinct + 1 ≡ k → (0 ≡ l) ⊎ (0 < l) → rank f s 0 (s.precinct + 1) ≤ rank f s l k
      next_to l k e (inl same) = let is : rank f s 0 (s.precinct + 1) ≡ rank f s l k = ap (λ n. rank f s n (s.precinct + 1)) same ∙ ap (λ n. rank f s l n) e in omega arith
      next_to l k e (inr up) =
          let less : rank f s 0 (s.precinct + 1) < rank f s l (s.precinct + 1) = inside_more f s 0 l (s.precinct + 1) i up in
          let is : rank f s l (s.precinct + 1) ≡ rank f s l k = ap (λ n. rank f s l n) e in
          omega arith

      further : (l k : ℕ) → k < s.precincts → (s.precinct + 1 ≡ k) ⊎ (s.precinct + 1 < k) → rank f s 0 (s.precinct + 1) ≤ rank f s l k
      further l k hk (inl same) = next_to l k same (zero_or l)
      further l k hk (inr up) = let less : rank f s 0 (s.precinct + 1) < rank f s l k = inside_up f s 0 l (s.precinct + 1) k fr st i fr.some_layers up hk in omega arith

      by : (l k : ℕ) → l < f.layers → k < s.precincts → (s.precinct < k) ⊎ ((s.precinct ≡ k) × (s.layer < l)) → rank f s 0 (s.precinct + 1) ≤ rank f s l k
      by l k hl hk (inl up) = further l k hk (ahead_of s.precinct k up)
      by l k hl hk (inr same) = let over = same.1 in absurd (omega arith)

  inside_last : is_inside f.order ≡ true → f.layers ≤ s.layer + 1 → s.precincts ≤ s.precinct + 1 → IsLast f s
  inside_last i full last l k hl hk = by (cases_lt (rank f s s.layer s.precinct) (rank f s l k))
    where
      none : (s.precinct < k) ⊎ ((s.precinct ≡ k) × (s.layer < l)) → rank f s l k ≤ rank f s s.layer s.precinct
      none (inl up) = absurd (omega arith)
      none (inr same) = let over = same.1 in absurd (omega arith)

      by : (rank f s s.layer s.precinct < rank f s l k) ⊎ (rank f s l k ≤ rank f s s.layer s.precinct) → rank f s l k ≤ rank f s s.layer s.precinct
      by (inl up) = none (inside_after f s s.layer l s.precinct k fr st i layer hl p.precinct hk up)
      by (inr low) = low

  outside_first : is_inside f.order ≡ false → s.precinct + 1 < s.precincts → IsNext f s (stepped s)
  outside_first i more = record {
    same = refl;
    layer = layer;
    placed = stepped_placed s p more;
    after = outside_more f s s.layer s.precinct (s.precinct + 1) i (omega arith);
    least = λ l k hl hk h. by l k hl hk (outside_after f s s.layer l s.precinct k st i p.precinct hk h);
  }
    where
      next_to : (l k : ℕ) → s.layer ≡ l → (s.precinct + 1 ≡ k) ⊎ (s.precinct + 1 < k) → rank f s s.layer (s.precinct + 1) ≤ rank f s l k
      next_to l k e (inl same) = let is : rank f s s.layer (s.precinct + 1) ≡ rank f s l k = ap (λ n. rank f s n (s.precinct + 1)) e ∙ ap (λ n. rank f s l n) same in omega arith
      next_to l k e (inr up) =
          let less : rank f s s.layer (s.precinct + 1) < rank f s s.layer k = outside_more f s s.layer (s.precinct + 1) k i up in
          let is : rank f s s.layer k ≡ rank f s l k = ap (λ n. rank f s n k) e in
          omega arith

      by : (l k : ℕ) → l < f.layers → k < s.precincts → (s.layer < l) ⊎ ((s.layer ≡ l) × (s.precinct < k)) → rank f s s.layer (s.precinct + 1) ≤ rank f s l k
      by l k hl hk (inl up) = let less : rank f s s.layer (s.precinct + 1) < rank f s l k = outside_up f s s.layer l (s.precinct + 1) k st i up more in omega arith
      by l k hl hk (inr same) = next_to l k same.0 (ahead_of s.precinct k same.1)

  outside_second : is_inside f.order ≡ false → s.precincts ≤ s.precinct + 1 → s.layer + 1 < f.layers
      → IsNext f s (record s { precinct = 0; column = 0; row = 0; layer = s.layer + 1 })
  outside_second i last more = record {
    same = refl;
    layer = more;
    placed = record { column = (let h = p.column in omega arith); row = omega arith; precinct = (let h = p.precinct in omega arith) };
    after = outside_up f s s.layer (s.layer + 1) s.precinct 0 st i (omega arith) p.precinct;
    least = λ l k hl hk h. by l k hl hk (outside_after f s s.layer l s.precinct k st i p.precinct hk h);
  }
    where
      some : 0 < s.precincts
      some = let h = p.precinct in omega arith

      next_to : (l k : ℕ) → s.layer + 1 ≡ l → (0 ≡ k) ⊎ (0 < k) → rank f s (s.layer + 1) 0 ≤ rank f s l k
      next_to l k e (inl same) = let is : rank f s (s.layer + 1) 0 ≡ rank f s l k = ap (λ n. rank f s n 0) e ∙ ap (λ n. rank f s l n) same in omega arith
      next_to l k e (inr up) =
          let less : rank f s (s.layer + 1) 0 < rank f s (s.layer + 1) k = outside_more f s (s.layer + 1) 0 k i up in
          let is : rank f s (s.layer + 1) k ≡ rank f s l k = ap (λ n. rank f s n k) e in
          omega arith

      further : (l k : ℕ) → (s.layer + 1 ≡ l) ⊎ (s.layer + 1 < l) → rank f s (s.layer + 1) 0 ≤ rank f s l k
      further l k (inl same) = next_to l k same (zero_or k)
      further l k (inr up) = let less : rank f s (s.layer + 1) 0 < rank f s l k = outside_up f s (s.layer + 1) l 0 k st i up some in omega arith

      by : (l k : ℕ) → l < f.layers → k < s.precincts → (s.layer < l) ⊎ ((s.layer ≡ l) × (s.precinct < k)) → rank f s (s.layer + 1) 0 ≤ rank f s l k
      by l k hl hk (inl up) = further l k (ahead_of s.layer l up)
      by l k hl hk (inr same) = let over = same.1 in absurd (omega arith)

  outside_last : is_inside f.order ≡ false → s.precincts ≤ s.precinct + 1 → f.layers ≤ s.layer + 1 → IsLast f s
  outside_last i last full l k hl hk = by (cases_lt (rank f s s.layer s.precinct) (rank f s l k))
    where
      none : (s.layer < l) ⊎ ((s.layer ≡ l) × (s.precinct < k)) → rank f s l k ≤ rank f s s.layer s.precinct
      none (inl up) = absurd (omega arith)
      none (inr same) = let over = same.1 in absurd (omega arith)

      by : (rank f s s.layer s.precinct < rank f s l k) ⊎ (rank f s l k ≤ rank f s s.layer s.precinct) → rank f s l k ≤ rank f s s.layer s.precinct
      by (inl up) = none (outside_after f s s.layer l s.precinct k st i p.precinct hk up)
      by (inr low) = low

  -- what the successor is
  pub successor_is : MatchOption (successor f s) (IsLast f s) (IsNext f s)
  unfolding successor
  successor_is =
      cond_both (is_inside f.order) (layers_inside f s) (layers_outside f s) (λ o. MatchOption o (IsLast f s) (IsNext f s))
      (λ i. cond_both (nat_lt (s.layer + 1) f.layers) (Some (record s { layer = s.layer + 1 })) None (λ o. MatchOption (or_else o (next_precinct (record s { layer = 0 }))) (IsLast f s) (IsNext f s))
      (λ e. inside_first i (ltb-true _ _ e))
      (λ e. cond_both (nat_lt (s.precinct + 1) s.precincts) (Some (stepped (record s { layer = 0 }))) None (λ o. MatchOption o (IsLast f s) (IsNext f s))
      (λ d. inside_second i (ltb-false _ _ e) (ltb-true _ _ d))
      (λ d. inside_last i (ltb-false _ _ e) (ltb-false _ _ d))))
      (λ i. cond_both (nat_lt (s.precinct + 1) s.precincts) (Some (stepped s)) None (λ o. MatchOption (or_else o (next_layer f (record s { precinct = 0; column = 0; row = 0 }))) (IsLast f s) (IsNext f s))
      (λ e. outside_first i (ltb-true _ _ e))
      (λ e. cond_both (nat_lt (s.layer + 1) f.layers) (Some (record s { precinct = 0; column = 0; row = 0; layer = s.layer + 1 })) None (λ o. MatchOption o (IsLast f s) (IsNext f s))
      (λ d. outside_second i (ltb-false _ _ e) (ltb-true _ _ d))
      (λ d. outside_last i (ltb-false _ _ e) (ltb-false _ _ d))))

-- it is a stream
pub next_stream : (f : PacketsFrame) (s t : Stream) → IsStream f s → IsNext f s t → IsStream f t
next_stream f s t st n = subst (λ (x : Stream). IsStream f x) (sym n.same) (record {
  component = st.component;
  resolution = st.resolution;
  product = st.product;
  few = st.few;
  narrow = st.narrow;
  low = st.low;
  right = st.right;
  lower = st.lower;
  beyond_left = st.beyond_left;
  beyond_top = st.beyond_top;
})
