-- Ranks ascend along a stream.
use Rattle.std.proofs.Common.{◌≡◌, ℕ, ◌+◌, ◌-◌, ◌*◌, ◌/◌, ◌%◌, ◌^◌, ◌<◌, ◌≤◌, ◌⊎◌, inl, inr, max, true, false, refl, ap, subst, arith}
use Rattle.std.proofs.Math.Nat.{mul-le-mul_right}
use Rattle.std.proofs.lemmas.Nat.{div-add-mod', mod_below, pow_pos, rows}
use Rattle.std.proofs.lemmas.Bool.{cases_order}
use Rattle.jk_marks.specs.declared.segments.Order.{Order}
use Rattle.jk_marks.specs.declared.segments.Order.TheVariants.{Lrcp, Rlcp, Rpcl, Pcrl, Cprl}
use Rattle.jk_order.specs.declared.stream.Stream.{Stream}
use Rattle.jk_order.specs.declared.stream.PacketsFrame.{PacketsFrame}
use Rattle.jk_order.specs.Streams.{rank, rank_at, column_x, row_y, is_inside, IsPacketsFrame, IsStream}

-- one more column or row lies further on, though the first one begins before the tile
pub axis_up : (corner first n m e : ℕ) → corner < (first + 1) * 2 ^ e → n < m → max corner ((first + n) * 2 ^ e) < max corner ((first + m) * 2 ^ e)
axis_up corner first n m e past less =
    let some : 0 < 2 ^ e = pow_pos e in
    let one : (first + 1) * 2 ^ e ≤ (first + m) * 2 ^ e = mul-le-mul_right (2 ^ e) (omega arith) in
    let up : (first + n + 1) * 2 ^ e ≤ (first + m) * 2 ^ e = mul-le-mul_right (2 ^ e) (omega arith) in
    let more : (first + n + 1) * 2 ^ e ≡ (first + n) * 2 ^ e + 2 ^ e = omega arith in
    omega arith

pub axis_small : (corner first count n e : ℕ) → corner < 2 ^ 31 → (first + count) * 2 ^ e < 2 ^ 32 → n < count → max corner ((first + n) * 2 ^ e) < 2 ^ 32
axis_small corner first count n e low high less =
    let up : (first + n) * 2 ^ e ≤ (first + count) * 2 ^ e = mul-le-mul_right (2 ^ e) (omega arith) in
    omega arith

-- a later place in raster order is on a later row, or further on in the same one
pub raster_up : (k m w : ℕ) → 0 < w → k < m → (k / w < m / w) ⊎ ((k / w ≡ m / w) × (k % w < m % w))
raster_up k m w some less = by (cases_order (k / w) (m / w))
  where
    by : (k / w ≡ m / w) ⊎ ((k / w < m / w) ⊎ (m / w < k / w)) → (k / w < m / w) ⊎ ((k / w ≡ m / w) × (k % w < m % w))
    by (inl same) =
        let rows_same : k / w * w ≡ m / w * w = ap (λ q. q * w) same in
        let first : k / w * w + k % w ≡ k = div-add-mod' k w in
        let second : m / w * w + m % w ≡ m = div-add-mod' m w in
        inr (same, omega arith)
    by (inr (inl up)) = inl up
    by (inr (inr down)) =
        let first : k / w * w + k % w ≡ k = div-add-mod' k w in
        let second : m / w * w + m % w ≡ m = div-add-mod' m w in
        let rest : m % w < w = mod_below m w some in
        let over : (m / w + 1) * w ≤ k / w * w = mul-le-mul_right w (omega arith) in
        let more : (m / w + 1) * w ≡ m / w * w + w = omega arith in
        absurd (omega arith)

-- how the packed numbers compare
inside_row : (o : Order) (l m r c k j x u y v : ℕ) → is_inside o ≡ true → l < 2 ^ 16 → c < 2 ^ 8 → r < 2 ^ 8 → x < 2 ^ 32 → y < v
    → rank_at o l r c k x y < rank_at o m r c j u v
inside_row Lrcp l m r c k j x u y v i a b d e h = absurd cc
inside_row Rlcp l m r c k j x u y v i a b d e h = absurd cc
inside_row Rpcl l m r c k j x u y v i a b d e h = omega arith
inside_row Pcrl l m r c k j x u y v i a b d e h = omega arith
inside_row Cprl l m r c k j x u y v i a b d e h = omega arith

inside_column : (o : Order) (l m r c k j x u y v : ℕ) → is_inside o ≡ true → l < 2 ^ 16 → c < 2 ^ 8 → r < 2 ^ 8 → y ≡ v → x < u
    → rank_at o l r c k x y < rank_at o m r c j u v
inside_column Lrcp l m r c k j x u y v i a b d e h = absurd cc
inside_column Rlcp l m r c k j x u y v i a b d e h = absurd cc
inside_column Rpcl l m r c k j x u y v i a b d e h = omega arith
inside_column Pcrl l m r c k j x u y v i a b d e h = omega arith
inside_column Cprl l m r c k j x u y v i a b d e h = omega arith

inside_layer : (o : Order) (l m r c k x y : ℕ) → is_inside o ≡ true → l < m → rank_at o l r c k x y < rank_at o m r c k x y
inside_layer Lrcp l m r c k x y i h = absurd cc
inside_layer Rlcp l m r c k x y i h = absurd cc
inside_layer Rpcl l m r c k x y i h = omega arith
inside_layer Pcrl l m r c k x y i h = omega arith
inside_layer Cprl l m r c k x y i h = omega arith

outside_layer : (o : Order) (l m r c k j x u y v : ℕ) → is_inside o ≡ false → c < 2 ^ 8 → r < 2 ^ 8 → k < 2 ^ 24 → l < m
    → rank_at o l r c k x y < rank_at o m r c j u v
outside_layer Lrcp l m r c k j x u y v i b d e h = omega arith
outside_layer Rlcp l m r c k j x u y v i b d e h = omega arith
outside_layer Rpcl l m r c k j x u y v i b d e h = absurd cc
outside_layer Pcrl l m r c k j x u y v i b d e h = absurd cc
outside_layer Cprl l m r c k j x u y v i b d e h = absurd cc

outside_precinct : (o : Order) (l r c k j x u y v : ℕ) → is_inside o ≡ false → k < j → rank_at o l r c k x y < rank_at o l r c j u v
outside_precinct Lrcp l r c k j x u y v i h = omega arith
outside_precinct Rlcp l r c k j x u y v i h = omega arith
outside_precinct Rpcl l r c k j x u y v i h = absurd cc
outside_precinct Pcrl l r c k j x u y v i h = absurd cc
outside_precinct Cprl l r c k j x u y v i h = absurd cc

-- below all that has no packet
pub rank_small : (o : Order) (l r c k x y : ℕ) → l < 2 ^ 16 → r ≤ 10 → c ≤ 3 → k < 2 ^ 24 → x < 2 ^ 32 → y < 2 ^ 32 → rank_at o l r c k x y < 2 ^ 128 - 1
rank_small Lrcp l r c k x y h i j a b d = omega arith
rank_small Rlcp l r c k x y h i j a b d = omega arith
rank_small Rpcl l r c k x y h i j a b d = omega arith
rank_small Pcrl l r c k x y h i j a b d = omega arith
rank_small Cprl l r c k x y h i j a b d = omega arith

-- the columns and rows of a stream's precincts
pub some_across : (f : PacketsFrame) (s : Stream) (k : ℕ) → IsStream f s → k < s.precincts → 0 < s.across
some_across f s k st h = by (s.across) refl
  where
    by : (w : ℕ) → s.across ≡ w → 0 < s.across
    by w e = let less : k < s.across * s.down = subst (λ n. k < n) st.product h in grind arith

pub column_in : (f : PacketsFrame) (s : Stream) (k : ℕ) → IsStream f s → k < s.precincts → k % s.across < s.across
column_in f s k st h = mod_below k s.across (some_across f s k st h)

pub row_in : (f : PacketsFrame) (s : Stream) (k : ℕ) → IsStream f s → k < s.precincts → k / s.across < s.down
row_in f s k st h = let less : k < s.across * s.down = subst (λ n. k < n) st.product h in grind (arith, rows)

pub x_small : (f : PacketsFrame) (s : Stream) (k : ℕ) → IsPacketsFrame f → IsStream f s → k < s.precincts → column_x f s (k % s.across) < 2 ^ 32
x_small f s k fr st h = axis_small f.x0 s.left s.across (k % s.across) s.width fr.x0 st.right (column_in f s k st h)

pub y_small : (f : PacketsFrame) (s : Stream) (k : ℕ) → IsPacketsFrame f → IsStream f s → k < s.precincts → row_y f s (k / s.across) < 2 ^ 32
y_small f s k fr st h = axis_small f.y0 s.top s.down (k / s.across) s.height fr.y0 st.lower (row_in f s k st h)

-- a later precinct, where the layers come inside
pub inside_up : (f : PacketsFrame) (s : Stream) (l m k j : ℕ) → IsPacketsFrame f → IsStream f s → is_inside f.order ≡ true → l < f.layers → k < j → j < s.precincts
    → rank f s l k < rank f s m j
unfolding rank
inside_up f s l m k j fr st i hl up hj = by (raster_up k j s.across (some_across f s j st hj) up)
  where
    some : 0 < s.precincts
    some = omega arith

    by : (k / s.across < j / s.across) ⊎ ((k / s.across ≡ j / s.across) × (k % s.across < j % s.across))
        → rank_at f.order l s.resolution s.component k (column_x f s (k % s.across)) (row_y f s (k / s.across))
        < rank_at f.order m s.resolution s.component j (column_x f s (j % s.across)) (row_y f s (j / s.across))
    by (inl h) = inside_row f.order l m s.resolution s.component k j (column_x f s (k % s.across)) (column_x f s (j % s.across)) (row_y f s (k / s.across)) (row_y f s (j / s.across))
        i (omega arith) (omega arith) (omega arith) (x_small f s k fr st (omega arith)) (axis_up f.y0 s.top (k / s.across) (j / s.across) s.height (st.beyond_top some) h)
    by (inr h) = inside_column f.order l m s.resolution s.component k j (column_x f s (k % s.across)) (column_x f s (j % s.across)) (row_y f s (k / s.across)) (row_y f s (j / s.across))
        i (omega arith) (omega arith) (omega arith) (ap (λ n. row_y f s n) h.0) (axis_up f.x0 s.left (k % s.across) (j % s.across) s.width (st.beyond_left some) h.1)

-- a later layer there
pub inside_more : (f : PacketsFrame) (s : Stream) (l m k : ℕ) → is_inside f.order ≡ true → l < m → rank f s l k < rank f s m k
unfolding rank
inside_more f s l m k i h = inside_layer f.order l m s.resolution s.component k (column_x f s (k % s.across)) (row_y f s (k / s.across)) i h

-- a later layer, where the precincts come inside
pub outside_up : (f : PacketsFrame) (s : Stream) (l m k j : ℕ) → IsStream f s → is_inside f.order ≡ false → l < m → k < s.precincts → rank f s l k < rank f s m j
unfolding rank
outside_up f s l m k j st i h hk = outside_layer f.order l m s.resolution s.component k j (column_x f s (k % s.across)) (column_x f s (j % s.across)) (row_y f s (k / s.across)) (row_y f s (j / s.across))
    i (omega arith) (omega arith) (omega arith) h

-- a later precinct there
pub outside_more : (f : PacketsFrame) (s : Stream) (l k j : ℕ) → is_inside f.order ≡ false → k < j → rank f s l k < rank f s l j
unfolding rank
outside_more f s l k j i h = outside_precinct f.order l s.resolution s.component k j (column_x f s (k % s.across)) (column_x f s (j % s.across)) (row_y f s (k / s.across)) (row_y f s (j / s.across)) i h

-- the ranks of what comes inside are one after another
next_inside : (o : Order) (l r c k x y : ℕ) → is_inside o ≡ true → rank_at o (l + 1) r c k x y ≡ rank_at o l r c k x y + 1
next_inside Lrcp l r c k x y i = absurd cc
next_inside Rlcp l r c k x y i = absurd cc
next_inside Rpcl l r c k x y i = omega arith
next_inside Pcrl l r c k x y i = omega arith
next_inside Cprl l r c k x y i = omega arith

next_outside : (o : Order) (l r c k x y u v : ℕ) → is_inside o ≡ false → rank_at o l r c (k + 1) u v ≡ rank_at o l r c k x y + 1
next_outside Lrcp l r c k x y u v i = omega arith
next_outside Rlcp l r c k x y u v i = omega arith
next_outside Rpcl l r c k x y u v i = absurd cc
next_outside Pcrl l r c k x y u v i = absurd cc
next_outside Cprl l r c k x y u v i = absurd cc

pub inside_one : (f : PacketsFrame) (s : Stream) (l k : ℕ) → is_inside f.order ≡ true → rank f s (l + 1) k ≡ rank f s l k + 1
unfolding rank
inside_one f s l k i = next_inside f.order l s.resolution s.component k (column_x f s (k % s.across)) (row_y f s (k / s.across)) i

pub outside_one : (f : PacketsFrame) (s : Stream) (l k : ℕ) → is_inside f.order ≡ false → rank f s l (k + 1) ≡ rank f s l k + 1
unfolding rank
outside_one f s l k i = next_outside f.order l s.resolution s.component k (column_x f s (k % s.across)) (row_y f s (k / s.across)) (column_x f s ((k + 1) % s.across)) (row_y f s ((k + 1) / s.across)) i

-- no rank is that of a finished stream
pub rank_below : (f : PacketsFrame) (s : Stream) (l k : ℕ) → IsPacketsFrame f → IsStream f s → l < f.layers → k < s.precincts → rank f s l k < 2 ^ 128 - 1
unfolding rank
rank_below f s l k fr st hl hk = rank_small f.order l s.resolution s.component k (column_x f s (k % s.across)) (row_y f s (k / s.across))
    (omega arith) st.resolution st.component (omega arith) (x_small f s k fr st hk) (y_small f s k fr st hk)
