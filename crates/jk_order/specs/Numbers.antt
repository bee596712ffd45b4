-- How many packets come before one, by formulas on the streams.
use Rattle.std.specs.Prelude.{◌≡◌, ℕ, zero, suc, ◌+◌, ◌-◌, ◌*◌, ◌/◌, ◌%◌, ◌^◌, ◌<◌, ◌≤◌, min, nat_lt, nat_le, ◌==◌}
use Rattle.std.specs.Prelude.{if◌then◌else◌, List, length, slice_index}
use Rattle.jk_marks.specs.declared.segments.Order.{Order}
use Rattle.jk_marks.specs.declared.segments.Order.TheVariants.{Lrcp, Rlcp, Rpcl, Pcrl, Cprl}
use Rattle.jk_geom.specs.Rectangles.{ceil_div}
use Rattle.jk_geom.specs.TileShapes.{IsTileShape}
use Rattle.jk_geom.specs.declared.shape.TileShape.{TileShape}
use Rattle.jk_order.specs.declared.stream.Stream.{Stream}
use Rattle.jk_order.specs.declared.stream.PacketsFrame.{PacketsFrame}
use Rattle.jk_order.specs.PacketOrder.{packet_count}
use Rattle.jk_order.specs.Streams.{frame_of, stream_at, stream_of}

-- the sum of f over the numbers below one
unfoldable pub total : (ℕ → ℕ) → ℕ → ℕ
total f zero = 0
total f (suc n) = total f n + f n

-- by how a number compares with another: nothing where it is the greater
unfoldable pub choose : (a b less equal : ℕ) → ℕ
choose a b less equal = if nat_lt a b then less else (if a == b then equal else 0)

-- How many of so many columns begin before place q, where the first is column `first` of a grid of
-- 2^e, and none begins before the corner. The same for rows.
unfoldable pub below : (corner first count e q : ℕ) → ℕ
below corner first count e q = if nat_le q corner then 0 else min count (ceil_div q (2 ^ e) - first)

abbrev pub columns_below : PacketsFrame → Stream → ℕ → ℕ
columns_below f t x = below f.x0 t.left t.across t.width x

abbrev pub rows_below : PacketsFrame → Stream → ℕ → ℕ
rows_below f t y = below f.y0 t.top t.down t.height y

-- how many precincts of a stream begin before a place, row by row
unfoldable pub before : PacketsFrame → Stream → (x y : ℕ) → ℕ
before f t x y = rows_below f t y * t.across + (rows_below f t (y + 1) - rows_below f t y) * columns_below f t x

-- so many packets for each precinct that begins before a place, and so many for one that begins
-- there
unfoldable pub passed : PacketsFrame → Stream → (x y less equal : ℕ) → ℕ
passed f t x y less equal = before f t x y * less + (before f t (x + 1) y - before f t x y) * equal

abbrev pub wholly_at : Order → PacketsFrame → Stream → (r c : ℕ) → ℕ
wholly_at Lrcp f t r c = choose t.resolution r t.precincts (choose t.component c t.precincts 0)
wholly_at Rlcp f t r c = choose t.resolution r (t.precincts * f.layers) (choose t.component c t.precincts 0)
wholly_at Rpcl f t r c = choose t.resolution r (t.precincts * f.layers) 0
wholly_at Pcrl f t r c = 0
wholly_at Cprl f t r c = choose t.component c (t.precincts * f.layers) 0

-- a stream's packets that come before all of resolution r of component c, as far as the order tells
-- by those two alone
unfoldable pub wholly : PacketsFrame → Stream → (r c : ℕ) → ℕ
wholly f t r c = wholly_at f.order f t r c

abbrev pub weight_at : Order → Stream → ℕ → ℕ
weight_at Lrcp t r = t.precincts
weight_at Rlcp t r = choose t.resolution r 0 t.precincts
weight_at Rpcl t r = 0
weight_at Pcrl t r = 0
weight_at Cprl t r = 0

-- how many packets of a stream lie between a packet and that of the next layer, where a layer of all
-- precincts comes before the next one
unfoldable pub weight : PacketsFrame → Stream → ℕ → ℕ
weight f t r = weight_at f.order t r

-- how many packets of a precinct that begins at the same place come before one of layer l
unfoldable pub tie : PacketsFrame → Stream → (l r c : ℕ) → ℕ
tie f t l r c = choose t.component c f.layers (choose t.resolution r f.layers l)

-- how many packets of so many streams come before all of resolution r of component c, as far as the
-- order tells by those two alone
unfoldable pub start : PacketsFrame → List Stream → (count r c : ℕ) → ℕ
start f streams count r c = total (λ j. wholly f (stream_at streams j) r c) count

-- how many packets lie between one and that of the next layer, where a layer of all precincts comes
-- before the next one
unfoldable pub step : PacketsFrame → List Stream → (count r : ℕ) → ℕ
step f streams count r = total (λ j. weight f (stream_at streams j) r) count

-- The streams whose packets lie among those of a resolution of a component, where the places of
-- precincts decide: the first of them, how far one is from the next, and how many there are.
abbrev pub among : Order → (components r c : ℕ) → ℕ × ℕ × ℕ
among Lrcp components r c = (0, 1, 0)
among Rlcp components r c = (0, 1, 0)
among Rpcl components r c = (r, 11, components)
among Pcrl components r c = (0, 1, 11 * components)
among Cprl components r c = (11 * c, 1, 11)

-- what the numbers of a tile's packets are made of
pub record AreStreams (s : TileShape) (f : PacketsFrame) (streams : List Stream) (starts steps : List ℕ) : Type 0 where
  pub shape : IsTileShape s
  pub few : packet_count s ≤ 2 ^ 24
  pub frame : f ≡ frame_of s
  pub count : length streams ≡ 44
  pub each : (i : ℕ) → i < 44 → stream_at streams i ≡ stream_of s i
  pub start_count : length starts ≡ 44
  pub starts_are : (i : ℕ) → i < 44 → slice_index starts i ≡ start f streams (11 * length s.codings) (i % 11) (i / 11)
  pub step_count : length steps ≡ 44
  pub steps_are : (i : ℕ) → i < 44 → slice_index steps i ≡ step f streams (11 * length s.codings) (i % 11)
