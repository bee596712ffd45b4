-- The streams of a tile before their first packets.
use Rattle.std.proofs.Common.{◌≡◌, ℕ, ◌+◌, ◌-◌, ◌*◌, ◌/◌, ◌%◌, ◌^◌, ◌<◌, ◌≤◌, ◌⊎◌, inl, inr, cond, nat_lt, nat_le, length, refl, ap, ◌∙◌, arith}
use Rattle.std.specs.Prelude.{◌==◌}
use Rattle.std.proofs.Math.Nat.{mul-le-mul_right, div-mul-le_self, pow-le-pow_right}
use Rattle.std.proofs.lemmas.Nat.{div-add-mod', mod_below, pow_pos, pow-add}
use Rattle.std.proofs.lemmas.Bool.{cond_both, cases_lt, ltb-true, leb-true}
use Rattle.jk_marks.specs.Coding.{precinct_size}
use Rattle.jk_geom.specs.declared.shape.TileShape.{TileShape}
use Rattle.jk_geom.specs.Rectangles.{ceil_div, resolution_area}
use Rattle.jk_geom.specs.Precincts.{span, precincts_across, precincts_down}
use Rattle.jk_geom.specs.TileShapes.{IsTileShape, coding_of}
use Rattle.jk_geom.proofs.Laws.{ceil_covers, ceil_close, ceil_mono}
use Rattle.jk_order.specs.declared.stream.Stream.{Stream}
use Rattle.jk_order.specs.declared.stream.PacketsFrame.{PacketsFrame}
use Rattle.jk_order.specs.PacketOrder.{packet_count}
use Rattle.jk_order.specs.Streams.{IsStream, StandsInCell, IsFresh, frame_of, stream_in, stream_of, no_packets}
use Rattle.jk_order.proofs.Counts.{number_few}
use Rattle.jk_order.proofs.Growth.{some_across}

-- the first cell reaches beyond the first place
pub first_reaches : (x d p : ℕ) → x < (ceil_div x (2 ^ d) / 2 ^ p + 1) * 2 ^ (p + d)
first_reaches x d p =
    let a = ceil_div x (2 ^ d) in
    let covers : x ≤ a * 2 ^ d = ceil_covers x (2 ^ d) (pow_pos d) in
    let whole : a / 2 ^ p * 2 ^ p + a % 2 ^ p ≡ a = div-add-mod' a (2 ^ p) in
    let rest : a % 2 ^ p < 2 ^ p = mod_below a (2 ^ p) (pow_pos p) in
    let next : a + 1 ≤ (a / 2 ^ p + 1) * 2 ^ p = omega arith in
    let wide : (a + 1) * 2 ^ d ≤ (a / 2 ^ p + 1) * 2 ^ p * 2 ^ d = mul-le-mul_right (2 ^ d) next in
    let power : 2 ^ (p + d) ≡ 2 ^ p * 2 ^ d = pow-add 2 p d in
    let join : (a / 2 ^ p + 1) * 2 ^ (p + d) ≡ (a / 2 ^ p + 1) * 2 ^ p * 2 ^ d = ap (λ n. (a / 2 ^ p + 1) * n) power ∙ omega arith in
    let some : 0 < 2 ^ d = pow_pos d in
    omega arith

-- a count of cells ends at most where the last cell does
cells_end : (a b p : ℕ) → a ≤ b → (a / 2 ^ p + span a b p) * 2 ^ p < b + 2 ^ p
cells_end a b p order =
    cond_both (a == b) 0 (ceil_div b (2 ^ p) - a / 2 ^ p) (λ n. (a / 2 ^ p + n) * 2 ^ p < b + 2 ^ p)
    (λ e. (let low = div-mul-le_self a (2 ^ p) in let some = pow_pos p in omega arith))
    (λ e. by (cases_lt (ceil_div b (2 ^ p)) (a / 2 ^ p)))
  where
    low : a / 2 ^ p * 2 ^ p ≤ a
    low = div-mul-le_self a (2 ^ p)

    by : (ceil_div b (2 ^ p) < a / 2 ^ p) ⊎ (a / 2 ^ p ≤ ceil_div b (2 ^ p)) → (a / 2 ^ p + (ceil_div b (2 ^ p) - a / 2 ^ p)) * 2 ^ p < b + 2 ^ p
    by (inl over) =
        let is : a / 2 ^ p + (ceil_div b (2 ^ p) - a / 2 ^ p) ≡ a / 2 ^ p = omega arith in
        let same = ap (λ n. n * 2 ^ p) is in
        let l = low in
        let some = pow_pos p in
        omega arith
    by (inr under) =
        let is : a / 2 ^ p + (ceil_div b (2 ^ p) - a / 2 ^ p) ≡ ceil_div b (2 ^ p) = omega arith in
        let same = ap (λ n. n * 2 ^ p) is in
        let close = ceil_close b (2 ^ p) (pow_pos p) in
        omega arith

power_few : (e : ℕ) → e ≤ 25 → 2 ^ e ≤ 33554432
power_few e h = pow-le-pow_right (omega arith) h

-- all cells end below 2^32
pub last_small : (x y d p : ℕ) → x ≤ y → y < 2 ^ 31 → p + d ≤ 25
    → (ceil_div x (2 ^ d) / 2 ^ p + span (ceil_div x (2 ^ d)) (ceil_div y (2 ^ d)) p) * 2 ^ (p + d) < 2 ^ 32
last_small x y d p order top few =
    let a = ceil_div x (2 ^ d) in
    let b = ceil_div y (2 ^ d) in
    let n = a / 2 ^ p + span a b p in
    let up : a ≤ b = ceil_mono x y (2 ^ d) (pow_pos d) order in
    let end : n * 2 ^ p < b + 2 ^ p = cells_end a b p up in
    let most : n * 2 ^ p + 1 ≤ b + 2 ^ p = omega arith in
    let wide : (n * 2 ^ p + 1) * 2 ^ d ≤ (b + 2 ^ p) * 2 ^ d = mul-le-mul_right (2 ^ d) most in
    let close : b * 2 ^ d < y + 2 ^ d = ceil_close y (2 ^ d) (pow_pos d) in
    let power : 2 ^ (p + d) ≡ 2 ^ p * 2 ^ d = pow-add 2 p d in
    let join : n * 2 ^ (p + d) ≡ n * 2 ^ p * 2 ^ d = ap (λ k. n * k) power ∙ omega arith in
    let small : 2 ^ (p + d) ≤ 33554432 = power_few (p + d) few in
    omega arith

-- the stream of a resolution that the tile has
stream_in_is : (s : TileShape) (c r : ℕ) → IsTileShape s → packet_count s ≤ 2 ^ 24 → c < length s.codings → r ≤ (coding_of s.codings c).levels → c ≤ 3
    → IsStream (frame_of s) (stream_in s.rect (coding_of s.codings c) c r)
unfolding precincts_across precincts_down resolution_area
stream_in_is s c r shape few hc hr low =
    let k = coding_of s.codings c in
    let coding = shape.codings.each c hc in
    let levels = coding.levels in
    let small = coding.small r hr in
    let area = shape.area in
    record {
      component = low;
      resolution = omega arith;
      product = refl;
      few = (let number = number_few s c r shape hc hr in omega arith);
      narrow = (let a = small.0 in omega arith);
      low = (let a = small.1 in omega arith);
      right = last_small s.rect.x0 s.rect.x1 (k.levels - r) (precinct_size k r).0 area.left area.right (let a = small.0 in omega arith);
      lower = last_small s.rect.y0 s.rect.y1 (k.levels - r) (precinct_size k r).1 area.upper area.lower (let a = small.1 in omega arith);
      beyond_left = λ some. first_reaches s.rect.x0 (k.levels - r) (precinct_size k r).0;
      beyond_top = λ some. first_reaches s.rect.y0 (k.levels - r) (precinct_size k r).1;
    }

no_packets_is : (f : PacketsFrame) (c r : ℕ) → c ≤ 3 → r ≤ 10 → IsStream f (no_packets c r)
no_packets_is f c r hc hr = record {
  component = hc;
  resolution = hr;
  product = refl;
  few = omega arith;
  narrow = omega arith;
  low = omega arith;
  right = omega arith;
  lower = omega arith;
  beyond_left = λ some. absurd (omega arith);
  beyond_top = λ some. absurd (omega arith);
}

pub stream_is : (s : TileShape) (i : ℕ) → IsTileShape s → packet_count s ≤ 2 ^ 24 → i < 44 → IsStream (frame_of s) (stream_of s i)
unfolding stream_of
stream_is s i shape few low =
    let c = i / 11 in
    let r = i % 11 in
    let k = coding_of s.codings c in
    let hc : c ≤ 3 = omega arith in
    let hr : r ≤ 10 = omega arith in
    cond_both (nat_lt c (length s.codings)) (cond (nat_le r k.levels) (stream_in s.rect k c r) (no_packets c r)) (no_packets c r) (λ (x : Stream). IsStream (frame_of s) x)
    (λ e. cond_both (nat_le r k.levels) (stream_in s.rect k c r) (no_packets c r) (λ (x : Stream). IsStream (frame_of s) x)
    (λ d. stream_in_is s c r shape few (ltb-true _ _ e) (leb-true _ _ d) hc)
    (λ d. no_packets_is (frame_of s) c r hc hr))
    (λ e. no_packets_is (frame_of s) c r hc hr)

-- its first packet is the next
pub stream_fresh : (s : TileShape) (i : ℕ) → IsFresh i (stream_of s i)
unfolding stream_of
stream_fresh s i =
    let c = i / 11 in
    let r = i % 11 in
    let k = coding_of s.codings c in
    cond_both (nat_lt c (length s.codings)) (cond (nat_le r k.levels) (stream_in s.rect k c r) (no_packets c r)) (no_packets c r) (IsFresh i)
    (λ e. cond_both (nat_le r k.levels) (stream_in s.rect k c r) (no_packets c r) (IsFresh i)
    (λ d. record { component = refl; resolution = refl; layer = refl; precinct = refl; column = refl; row = refl })
    (λ d. record { component = refl; resolution = refl; layer = refl; precinct = refl; column = refl; row = refl }))
    (λ e. record { component = refl; resolution = refl; layer = refl; precinct = refl; column = refl; row = refl })

-- before its first packet a stream that has one is placed
pub fresh_placed : (f : PacketsFrame) (i : ℕ) (s : Stream) → IsStream f s → IsFresh i s → 0 < s.precincts → StandsInCell s
fresh_placed f i s st fresh some = record {
  column = (let a = some_across f s 0 st some in let c = fresh.column in omega arith);
  row = (let a = fresh.precinct in let b = fresh.row in let c = fresh.column in let d : s.row * s.across ≡ 0 * s.across = ap (λ n. n * s.across) b in omega arith);
  precinct = (let a = fresh.precinct in omega arith);
}
