-- A stream passes its next packet.
use Rattle.std.proofs.Common.{◌≡◌, ℕ, ◌+◌, ◌<◌, ◌≤◌, ◌^◌, ◌⊎◌, inl, inr, true, false, nat_lt, refl, ap, sym, ◌∙◌, subst, arith}
use Rattle.std.specs.Prelude.{Option, Some, None, MatchOption, if◌then◌else◌}
use Rattle.std.proofs.lemmas.Bool.{lt-ltb, le-ltb}
use Rattle.jk_marks.specs.declared.segments.Order.{Order}
use Rattle.jk_marks.specs.declared.segments.Order.TheVariants.{Lrcp, Rlcp, Rpcl, Pcrl, Cprl}
use Rattle.jk_order.specs.declared.stream.Stream.{Stream}
use Rattle.jk_order.specs.declared.stream.PacketsFrame.{PacketsFrame}
use Rattle.jk_order.specs.Streams.{rank, finished, is_inside, IsPacketsFrame, IsStream, IsLive, stepped, next_precinct, next_layer, or_else, layers_inside, layers_outside, successor}
use Rattle.jk_order.specs.Advancing.{Advances}
use Rattle.jk_order.proofs.Growth.{inside_one, outside_one, rank_below}

-- which orders have the precincts inside, and which the layers
pub outside_of : (o : Order) → (o ≡ Lrcp) ⊎ (o ≡ Rlcp) → is_inside o ≡ false
outside_of o (inl e) = ap is_inside e
outside_of o (inr e) = ap is_inside e

pub inside_of : (o : Order) → (o ≡ Rpcl) ⊎ ((o ≡ Pcrl) ⊎ (o ≡ Cprl)) → is_inside o ≡ true
inside_of o (inl e) = ap is_inside e
inside_of o (inr (inl e)) = ap is_inside e
inside_of o (inr (inr e)) = ap is_inside e

-- the rank of a next packet has a number above it
pub head_fits : (f : PacketsFrame) (s : Stream) (head : ℕ) → IsPacketsFrame f → IsStream f s → IsLive f s head → head + 1 < 2 ^ 128
head_fits f s head fr st live =
    let below = rank_below f s s.layer s.precinct fr st live.layer live.placed.precinct in
    let is = live.head in
    omega arith

-- what is known of the successor is known of the stream that advances
moves_on : (f : PacketsFrame) (s t : Stream) (head : ℕ) → Some t ≡ successor f s → head ≡ rank f t t.layer t.precinct → Advances f s t head
moves_on f s t head e h = subst (λ (o : Option Stream). MatchOption o ((t ≡ s) × (head ≡ finished)) (λ u. (t ≡ u) × (head ≡ rank f u u.layer u.precinct))) e (refl, h)

ends : (f : PacketsFrame) (s : Stream) → None ≡ successor f s → Advances f s s finished
ends f s e = subst (λ (o : Option Stream). MatchOption o ((s ≡ s) × (finished ≡ finished)) (λ u. (s ≡ u) × (finished ≡ rank f u u.layer u.precinct))) e (refl, refl)

-- which packet is the next one has no part in ranks
stepped_rank : (f : PacketsFrame) (s : Stream) (l k : ℕ) → rank f s l k ≡ rank f (stepped s) l k
unfolding rank
stepped_rank f s l k = refl

later_rank : (f : PacketsFrame) (s : Stream) (l k : ℕ) → rank f s l k ≡ rank f (record s { layer = s.layer + 1 }) l k
unfolding rank
later_rank f s l k = refl

-- what the successor is
outside_is : (f : PacketsFrame) (s : Stream) → is_inside f.order ≡ false → successor f s ≡ layers_outside f s
unfolding successor
outside_is f s i = ap (λ b. if b then layers_inside f s else layers_outside f s) i

inside_is : (f : PacketsFrame) (s : Stream) → is_inside f.order ≡ true → successor f s ≡ layers_inside f s
unfolding successor
inside_is f s i = ap (λ b. if b then layers_inside f s else layers_outside f s) i

another_precinct : (s : Stream) → s.precinct + 1 < s.precincts → next_precinct s ≡ Some (stepped s)
another_precinct s h = ap (λ b. if b then Some (stepped s) else None) (lt-ltb _ _ h)

no_precinct : (s : Stream) → s.precincts ≤ s.precinct + 1 → next_precinct s ≡ None
no_precinct s h = ap (λ b. if b then Some (stepped s) else None) (le-ltb _ _ h)

another_layer : (f : PacketsFrame) (s : Stream) → nat_lt (s.layer + 1) f.layers ≡ true → next_layer f s ≡ Some (record s { layer = s.layer + 1 })
another_layer f s e = ap (λ b. if b then Some (record s { layer = s.layer + 1 }) else None) e

no_layer : (f : PacketsFrame) (s : Stream) → nat_lt (s.layer + 1) f.layers ≡ false → next_layer f s ≡ None
no_layer f s e = ap (λ b. if b then Some (record s { layer = s.layer + 1 }) else None) e

-- the stream where the precincts come inside
module _ (f : PacketsFrame) (s : Stream) (i : is_inside f.order ≡ false) where
  after_outside : (o : Option Stream) → next_precinct s ≡ o → successor f s ≡ or_else o (next_layer f (record s { precinct = 0; column = 0; row = 0 }))
  after_outside o e = outside_is f s i ∙ ap (λ o. or_else o (next_layer f (record s { precinct = 0; column = 0; row = 0 }))) e

  pub outside_precinct : (head : ℕ) → IsLive f s head → s.precinct + 1 < s.precincts → Advances f s (stepped s) (head + 1)
  outside_precinct head live h = moves_on f s (stepped s) (head + 1) (sym (after_outside _ (another_precinct s h)))
      (ap (λ n. n + 1) live.head ∙ sym (outside_one f s s.layer s.precinct i) ∙ stepped_rank f s s.layer (s.precinct + 1))

  pub outside_layer : (t : Stream) (head : ℕ) → t ≡ record s { precinct = 0; column = 0; row = 0; layer = s.layer + 1 } → s.precincts ≤ s.precinct + 1 → nat_lt (s.layer + 1) f.layers ≡ true
      → head ≡ rank f t t.layer t.precinct → Advances f s t head
  outside_layer t head is h e r = moves_on f s t head
      (ap (λ (u : Stream). Some u) is ∙ sym (after_outside _ (no_precinct s h) ∙ another_layer f (record s { precinct = 0; column = 0; row = 0 }) e)) r

  pub outside_end : s.precincts ≤ s.precinct + 1 → nat_lt (s.layer + 1) f.layers ≡ false → Advances f s s finished
  outside_end h e = ends f s (sym (after_outside _ (no_precinct s h) ∙ no_layer f (record s { precinct = 0; column = 0; row = 0 }) e))

-- the stream where the layers come inside
module _ (f : PacketsFrame) (s : Stream) (i : is_inside f.order ≡ true) where
  after_inside : (o : Option Stream) → next_layer f s ≡ o → successor f s ≡ or_else o (next_precinct (record s { layer = 0 }))
  after_inside o e = inside_is f s i ∙ ap (λ o. or_else o (next_precinct (record s { layer = 0 }))) e

  pub inside_layer : (head : ℕ) → IsLive f s head → nat_lt (s.layer + 1) f.layers ≡ true → Advances f s (record s { layer = s.layer + 1 }) (head + 1)
  inside_layer head live e = moves_on f s (record s { layer = s.layer + 1 }) (head + 1) (sym (after_inside _ (another_layer f s e)))
      (ap (λ n. n + 1) live.head ∙ sym (inside_one f s s.layer s.precinct i) ∙ later_rank f s (s.layer + 1) s.precinct)

  pub inside_precinct : (t : Stream) (head : ℕ) → t ≡ stepped (record s { layer = 0 }) → nat_lt (s.layer + 1) f.layers ≡ false → s.precinct + 1 < s.precincts
      → head ≡ rank f t t.layer t.precinct → Advances f s t head
  inside_precinct t head is e h r = moves_on f s t head
      (ap (λ (u : Stream). Some u) is ∙ sym (after_inside _ (no_layer f s e) ∙ another_precinct (record s { layer = 0 }) h)) r

  pub inside_end : nat_lt (s.layer + 1) f.layers ≡ false → s.precincts ≤ s.precinct + 1 → Advances f s s finished
  inside_end e h = ends f s (sym (after_inside _ (no_layer f s e) ∙ no_precinct (record s { layer = 0 }) h))
