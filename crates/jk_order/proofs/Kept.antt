-- What is kept of a tile's streams, and the two tables, give the number of each packet.
use Rattle.std.proofs.Common.{◌≡◌, ℕ, ◌+◌, ◌*◌, ◌/◌, ◌%◌, ◌<◌, ◌≤◌, List, length, Some, refl, ap, sym, ◌∙◌, subst, arith}
use Rattle.std.specs.Prelude.{slice_get, slice_index, min, ◌⊎◌}
use Rattle.std.proofs.Common.{inl, inr}
use Rattle.jk_marks.specs.declared.segments.Order.{Order}
use Rattle.jk_marks.specs.declared.segments.Order.TheVariants.{Lrcp, Rlcp, Rpcl, Pcrl, Cprl}
use Rattle.jk_geom.specs.declared.shape.TileShape.{TileShape}
use Rattle.jk_geom.specs.declared.shape.PacketName.{PacketName}
use Rattle.jk_geom.specs.Precincts.{precinct_column, precinct_row}
use Rattle.jk_geom.specs.TileShapes.{coding_of}
use Rattle.jk_order.specs.declared.stream.Stream.{Stream}
use Rattle.jk_order.specs.declared.stream.PacketsFrame.{PacketsFrame}
use Rattle.jk_order.specs.PacketOrder.{IsName, order}
use Rattle.jk_order.specs.Streams.{IsStream, column_x, row_y, frame_of, stream_in, stream_of, stream_at, index_of}
use Rattle.jk_order.specs.Numbers.{total, start, step, wholly, wholly_at, weight, weight_at, among, passed, tie, AreStreams}
use Rattle.jk_order.proofs.Totals.{total_same}
use Rattle.jk_order.proofs.Shares.{share, share_at}
use Rattle.jk_order.proofs.Lines.{lrcp_line, rlcp_line, rpcl_line, pcrl_line, cprl_line}
use Rattle.jk_order.proofs.Beginnings.{stream_is, stream_fresh}
use Rattle.jk_order.proofs.Starting.{stream_has}
use Rattle.jk_order.proofs.NumberLaws.{IsNumber, x_of, y_of, share_in, number_law, number_small}

module _ (s : TileShape) (f : PacketsFrame) (ss : List Stream) (starts steps : List ℕ) (a : AreStreams s f ss starts steps) where
  pub kept_stream : (i : ℕ) → i < 44 → IsStream f (stream_at ss i)
  kept_stream i h = subst (λ (g : PacketsFrame). IsStream g (stream_at ss i)) (sym a.frame) (subst (λ (t : Stream). IsStream (frame_of s) t) (sym (a.each i h)) (stream_is s i a.shape a.few h))

  kept_component : (i : ℕ) → i < 44 → (stream_at ss i).component ≡ i / 11
  kept_component i h = ap (λ (t : Stream). t.component) (a.each i h) ∙ (stream_fresh s i).component

  kept_resolution : (i : ℕ) → i < 44 → (stream_at ss i).resolution ≡ i % 11
  kept_resolution i h = ap (λ (t : Stream). t.resolution) (a.each i h) ∙ (stream_fresh s i).resolution

  kept_count : 11 * length s.codings ≡ length s.codings * 11
  kept_count = omega arith

  module _ (n : PacketName) (is : IsName s n) where
    -- the packet's own stream
    own : Stream
    own = stream_in s.rect (coding_of s.codings n.component) n.component n.resolution

    low_resolution : n.resolution ≤ 10
    low_resolution = let k = a.shape.codings.each n.component is.component in let l = k.levels in let r = is.resolution in omega arith

    pub own_low : index_of n < 44
    own_low = let c = is.component in let few = a.shape.codings.few in let r = low_resolution in omega arith

    own_is : stream_at ss (index_of n) ≡ own
    unfolding own
    own_is = a.each (index_of n) own_low ∙ stream_has s n.component n.resolution low_resolution is.component is.resolution

    pub own_good : IsStream f (stream_at ss (index_of n))
    own_good = kept_stream (index_of n) own_low

    pub own_some : n.precinct < (stream_at ss (index_of n)).precincts
    unfolding own
    own_some = subst (λ (t : Stream). n.precinct < t.precincts) (sym own_is) is.precinct

    own_x : column_x f (stream_at ss (index_of n)) (n.precinct % (stream_at ss (index_of n)).across) ≡ x_of s n
    unfolding own precinct_column
    own_x =
        ap (λ (g : PacketsFrame). column_x g (stream_at ss (index_of n)) (n.precinct % (stream_at ss (index_of n)).across)) a.frame
        ∙ ap (λ (t : Stream). column_x (frame_of s) t (n.precinct % t.across)) own_is

    own_y : row_y f (stream_at ss (index_of n)) (n.precinct / (stream_at ss (index_of n)).across) ≡ y_of s n
    unfolding own precinct_row
    own_y =
        ap (λ (g : PacketsFrame). row_y g (stream_at ss (index_of n)) (n.precinct / (stream_at ss (index_of n)).across)) a.frame
        ∙ ap (λ (t : Stream). row_y (frame_of s) t (n.precinct / t.across)) own_is

    -- a sum of shares is the packet's number, and it is small
    abbrev sum : (x y : ℕ) → ℕ
    sum x y = total (λ i. share f (stream_at ss i) n x y) (length s.codings * 11)

    found : (x y number : ℕ) → x ≡ column_x f (stream_at ss (index_of n)) (n.precinct % (stream_at ss (index_of n)).across)
        → y ≡ row_y f (stream_at ss (index_of n)) (n.precinct / (stream_at ss (index_of n)).across)
        → sum x y ≡ number → IsNumber s n number
    found x y number ex ey e =
        let few = a.shape.codings.few in
        let few_packets = a.few in
        let px = x_of s n in
        let py = y_of s n in
        let at_x : x ≡ px = ex ∙ own_x in
        let at_y : y ≡ py = ey ∙ own_y in
        let sums : sum x y ≡ total (λ i. share_in s n (stream_of s i)) (length s.codings * 11) =
        ap (λ (g : PacketsFrame). total (λ i. share g (stream_at ss i) n x y) (length s.codings * 11)) a.frame
        ∙ total_same (λ i. share (frame_of s) (stream_at ss i) n x y) (λ i. share_in s n (stream_of s i)) (length s.codings * 11)
        (λ i h. ap (λ (t : Stream). share (frame_of s) t n x y) (a.each i (omega arith))
        ∙ (ap (λ z. share (frame_of s) (stream_of s i) n z y) at_x ∙ ap (λ z. share (frame_of s) (stream_of s i) n px z) at_y)) in
        let is_number : slice_get (order s) number ≡ Some n = ap (λ k. slice_get (order s) k) (sym e ∙ sums) ∙ number_law s n a.shape is in
        let small = number_small s n number is_number in
        (is_number, omega arith)

    -- the tables
    own_start : slice_index starts (index_of n) ≡ start f ss (11 * length s.codings) n.resolution n.component
    own_start =
        let r = low_resolution in
        let e : (11 * n.component + n.resolution) % 11 ≡ n.resolution = omega arith in
        let d : (11 * n.component + n.resolution) / 11 ≡ n.component = omega arith in
        a.starts_are (index_of n) own_low ∙ (ap (λ q. start f ss (11 * length s.codings) q ((11 * n.component + n.resolution) / 11)) e ∙ ap (λ q. start f ss (11 * length s.codings) n.resolution q) d)

    own_step : slice_index steps (index_of n) ≡ step f ss (11 * length s.codings) n.resolution
    own_step =
        let r = low_resolution in
        let e : (11 * n.component + n.resolution) % 11 ≡ n.resolution = omega arith in
        a.steps_are (index_of n) own_low ∙ ap (λ q. step f ss (11 * length s.codings) q) e

    start_at : (o : Order) → f.order ≡ o → slice_index starts (index_of n) ≡ total (λ j. wholly_at o f (stream_at ss j) n.resolution n.component) (length s.codings * 11)
    unfolding start wholly
    start_at o e =
        own_start ∙ (ap (λ (p : Order). total (λ j. wholly_at p f (stream_at ss j) n.resolution n.component) (11 * length s.codings)) e
        ∙ ap (λ m. total (λ j. wholly_at o f (stream_at ss j) n.resolution n.component) m) kept_count)

    step_at : (o : Order) → f.order ≡ o → slice_index steps (index_of n) ≡ total (λ j. weight_at o (stream_at ss j) n.resolution) (length s.codings * 11)
    unfolding step weight
    step_at o e =
        own_step ∙ (ap (λ (p : Order). total (λ j. weight_at p (stream_at ss j) n.resolution) (11 * length s.codings)) e
        ∙ ap (λ m. total (λ j. weight_at o (stream_at ss j) n.resolution) m) kept_count)

    -- the number where layers lie outside
    outside : (o : Order) → (x y : ℕ) → f.order ≡ o
        → total (λ j. share_at o f (stream_at ss j) n.layer n.resolution n.component n.precinct x y) (length s.codings * 11)
        ≡ total (λ j. wholly_at o f (stream_at ss j) n.resolution n.component) (length s.codings * 11)
        + (total (λ j. weight_at o (stream_at ss j) n.resolution) (length s.codings * 11) * n.layer + min n.precinct (stream_at ss (index_of n)).precincts)
        → sum x y ≡ slice_index starts (index_of n) + slice_index steps (index_of n) * n.layer + n.precinct
    outside o x y e line =
        let is_o : sum x y ≡ total (λ j. share_at o f (stream_at ss j) n.layer n.resolution n.component n.precinct x y) (length s.codings * 11) =
        ap (λ (p : Order). total (λ j. share_at p f (stream_at ss j) n.layer n.resolution n.component n.precinct x y) (length s.codings * 11)) e in
        let at_start = start_at o e in
        let times : slice_index steps (index_of n) * n.layer ≡ total (λ j. weight_at o (stream_at ss j) n.resolution) (length s.codings * 11) * n.layer = ap (λ m. m * n.layer) (step_at o e) in
        let less = own_some in
        omega arith

    pub outside_law : (f.order ≡ Lrcp) ⊎ (f.order ≡ Rlcp)
        → IsNumber s n (slice_index starts (index_of n) + slice_index steps (index_of n) * n.layer + n.precinct)
    outside_law which =
        by (column_x f (stream_at ss (index_of n)) (n.precinct % (stream_at ss (index_of n)).across)) (row_y f (stream_at ss (index_of n)) (n.precinct / (stream_at ss (index_of n)).across)) refl refl which
      where
        few : length s.codings ≤ 4
        few = a.shape.codings.few

        by : (x y : ℕ) → x ≡ column_x f (stream_at ss (index_of n)) (n.precinct % (stream_at ss (index_of n)).across)
            → y ≡ row_y f (stream_at ss (index_of n)) (n.precinct / (stream_at ss (index_of n)).across)
            → (f.order ≡ Lrcp) ⊎ (f.order ≡ Rlcp)
            → IsNumber s n (slice_index starts (index_of n) + slice_index steps (index_of n) * n.layer + n.precinct)
        by x y ex ey (inl e) = found x y _ ex ey (outside Lrcp x y e (lrcp_line f (stream_at ss) (length s.codings) few kept_component kept_resolution n.layer n.resolution n.component n.precinct x y low_resolution is.component))
        by x y ex ey (inr e) = found x y _ ex ey (outside Rlcp x y e (rlcp_line f (stream_at ss) (length s.codings) few kept_component kept_resolution n.layer n.resolution n.component n.precinct x y low_resolution is.component))

    -- the number where places decide
    abbrev pub passes : (x y : ℕ) → ℕ × ℕ × ℕ → ℕ → ℕ
    passes x y m i = passed f (stream_at ss (m.0 + i * m.1)) x y f.layers (tie f (stream_at ss (m.0 + i * m.1)) n.layer n.resolution n.component)

    inside : (o : Order) → (x y : ℕ) → f.order ≡ o
        → total (λ j. share_at o f (stream_at ss j) n.layer n.resolution n.component n.precinct x y) (length s.codings * 11)
        ≡ total (λ j. wholly_at o f (stream_at ss j) n.resolution n.component) (length s.codings * 11)
        + total (passes x y (among o (length s.codings) n.resolution n.component)) (among o (length s.codings) n.resolution n.component).2
        → sum x y ≡ slice_index starts (index_of n) + total (passes x y (among f.order (length s.codings) n.resolution n.component)) (among f.order (length s.codings) n.resolution n.component).2
    inside o x y e line =
        let is_o : sum x y ≡ total (λ j. share_at o f (stream_at ss j) n.layer n.resolution n.component n.precinct x y) (length s.codings * 11) =
        ap (λ (p : Order). total (λ j. share_at p f (stream_at ss j) n.layer n.resolution n.component n.precinct x y) (length s.codings * 11)) e in
        let at_start = start_at o e in
        let back : total (passes x y (among f.order (length s.codings) n.resolution n.component)) (among f.order (length s.codings) n.resolution n.component).2
        ≡ total (passes x y (among o (length s.codings) n.resolution n.component)) (among o (length s.codings) n.resolution n.component).2 =
        ap (λ (p : Order). total (passes x y (among p (length s.codings) n.resolution n.component)) (among p (length s.codings) n.resolution n.component).2) e in
        omega arith

    pub inside_law : (x y : ℕ) → (f.order ≡ Rpcl) ⊎ ((f.order ≡ Pcrl) ⊎ (f.order ≡ Cprl))
        → x ≡ column_x f (stream_at ss (index_of n)) (n.precinct % (stream_at ss (index_of n)).across)
        → y ≡ row_y f (stream_at ss (index_of n)) (n.precinct / (stream_at ss (index_of n)).across)
        → IsNumber s n (slice_index starts (index_of n) + total (passes x y (among f.order (length s.codings) n.resolution n.component)) (among f.order (length s.codings) n.resolution n.component).2)
    inside_law x y which ex ey = by which
      where
        few : length s.codings ≤ 4
        few = a.shape.codings.few

        by : (f.order ≡ Rpcl) ⊎ ((f.order ≡ Pcrl) ⊎ (f.order ≡ Cprl))
            → IsNumber s n (slice_index starts (index_of n) + total (passes x y (among f.order (length s.codings) n.resolution n.component)) (among f.order (length s.codings) n.resolution n.component).2)
        by (inl e) = found x y _ ex ey (inside Rpcl x y e (rpcl_line f (stream_at ss) (length s.codings) few kept_component kept_resolution n.layer n.resolution n.component n.precinct x y low_resolution is.component))
        by (inr (inl e)) = found x y _ ex ey (inside Pcrl x y e (pcrl_line f (stream_at ss) (length s.codings) few kept_component kept_resolution n.layer n.resolution n.component n.precinct x y low_resolution is.component))
        by (inr (inr e)) = found x y _ ex ey (inside Cprl x y e (cprl_line f (stream_at ss) (length s.codings) few kept_component kept_resolution n.layer n.resolution n.component n.precinct x y low_resolution is.component))
