-- There is one list of all packets of a tile in their order.
use Rattle.std.proofs.Common.{◌≡◌, ℕ, ◌+◌, ◌-◌, ◌*◌, ◌/◌, ◌%◌, ◌^◌, ◌<◌, ◌⊎◌, inl, inr, max, List, [], length, ap, sym, ◌∙◌, subst, arith}
use Rattle.std.specs.Prelude.{Contains}
use Rattle.std.specs.declared.cmp.Ordering.TheVariants.{Equal}
use Rattle.std.proofs.lemmas.Bool.{cases_order}
use Rattle.jk_math.specs.declared.rect.Rect.{Rect}
use Rattle.jk_marks.specs.declared.coding.Coding.{Coding}
use Rattle.jk_marks.specs.Coding.{precinct_size}
use Rattle.jk_geom.specs.declared.shape.TileShape.{TileShape}
use Rattle.jk_geom.specs.declared.shape.PacketName.{PacketName}
use Rattle.jk_geom.specs.Rectangles.{resolution_area}
use Rattle.jk_geom.specs.TileShapes.{coding_of}
use Rattle.jk_geom.specs.Precincts.{precincts_across, precinct_number, precinct_column, precinct_row}
use Rattle.jk_order.specs.PacketOrder.{IsName, IsPacketOrder, key, key_cmp, precinct_x, precinct_y, all_names, order}
use Rattle.jk_order.proofs.Growth.{axis_up, raster_up}
use Rattle.jk_order.proofs.Beginnings.{first_reaches}
use Rattle.jk_order.proofs.Keys.{IsSameKey, key_same}
use Rattle.jk_order.proofs.Ascending.{one_in, first_in}
use Rattle.jk_order.proofs.Sorting.{one_list, up_sorted, from_sorted, in_sorted, from_joined, in_joined}

-- a later precinct of a resolution lies below, or further on in the same row
place_up : (a : Rect) (k : Coding) (r i j : ℕ) → i < j → j < precinct_number a k r
    → (precinct_y a k r i < precinct_y a k r j) ⊎ ((precinct_y a k r i ≡ precinct_y a k r j) × (precinct_x a k r i < precinct_x a k r j))
unfolding precinct_column precinct_row resolution_area
place_up a k r i j up few = by (raster_up i j (precincts_across a k r) some up)
  where
    w : ℕ
    w = precincts_across a k r

    some : 0 < precincts_across a k r
    some = grind arith

    by : (i / precincts_across a k r < j / precincts_across a k r) ⊎ ((i / precincts_across a k r ≡ j / precincts_across a k r) × (i % precincts_across a k r < j % precincts_across a k r))
        → (precinct_y a k r i < precinct_y a k r j) ⊎ ((precinct_y a k r i ≡ precinct_y a k r j) × (precinct_x a k r i < precinct_x a k r j))
    by (inl h) = inl (axis_up a.y0 ((resolution_area a k.levels r).y0 / 2 ^ (precinct_size k r).1) (i / precincts_across a k r) (j / precincts_across a k r) ((precinct_size k r).1 + (k.levels - r))
        (first_reaches a.y0 (k.levels - r) (precinct_size k r).1) h)
    by (inr h) = inr (
      ap (λ n. max a.y0 (((resolution_area a k.levels r).y0 / 2 ^ (precinct_size k r).1 + n) * 2 ^ ((precinct_size k r).1 + (k.levels - r)))) h.0,
      axis_up a.x0 ((resolution_area a k.levels r).x0 / 2 ^ (precinct_size k r).0) (i % precincts_across a k r) (j % precincts_across a k r) ((precinct_size k r).0 + (k.levels - r))
          (first_reaches a.x0 (k.levels - r) (precinct_size k r).0) h.1,
    )

-- so a place tells the precinct
place_one : (a : Rect) (k : Coding) (r i j : ℕ) → i < precinct_number a k r → j < precinct_number a k r
    → precinct_x a k r i ≡ precinct_x a k r j → precinct_y a k r i ≡ precinct_y a k r j → i ≡ j
place_one a k r i j hi hj ex ey = by (cases_order i j)
  where
    up : (precinct_y a k r i < precinct_y a k r j) ⊎ ((precinct_y a k r i ≡ precinct_y a k r j) × (precinct_x a k r i < precinct_x a k r j)) → i ≡ j
    up (inl h) = absurd (omega arith)
    up (inr h) = let less = h.1 in absurd (omega arith)

    down : (precinct_y a k r j < precinct_y a k r i) ⊎ ((precinct_y a k r j ≡ precinct_y a k r i) × (precinct_x a k r j < precinct_x a k r i)) → i ≡ j
    down (inl h) = absurd (omega arith)
    down (inr h) = let less = h.1 in absurd (omega arith)

    by : (i ≡ j) ⊎ ((i < j) ⊎ (j < i)) → i ≡ j
    by (inl same) = same
    by (inr (inl less)) = up (place_up a k r i j less hj)
    by (inr (inr less)) = down (place_up a k r j i less hi)

-- what a packet is called
name_same : (n m : PacketName) → n.layer ≡ m.layer → n.resolution ≡ m.resolution → n.component ≡ m.component → n.precinct ≡ m.precinct → n ≡ m
name_same n m a b c d = λ i. record { layer = a i; resolution = b i; component = c i; precinct = d i }

-- a key is that of one packet
pub key_one : (s : TileShape) (n m : PacketName) → IsName s n → IsName s m → key_cmp (key s n) (key s m) ≡ Equal → n ≡ m
unfolding key
key_one s n m is_n is_m e =
    let kn = coding_of s.codings n.component in
    let km = coding_of s.codings m.component in
    let same = key_same s.order n.layer n.resolution n.component n.precinct (precinct_x s.rect kn n.resolution n.precinct) (precinct_y s.rect kn n.resolution n.precinct)
    m.layer m.resolution m.component m.precinct (precinct_x s.rect km m.resolution m.precinct) (precinct_y s.rect km m.resolution m.precinct) e in
    name_same n m same.layer same.resolution same.component (by same same.precinct)
  where
    by : IsSameKey n.layer n.resolution n.component n.precinct (precinct_x s.rect (coding_of s.codings n.component) n.resolution n.precinct) (precinct_y s.rect (coding_of s.codings n.component) n.resolution n.precinct)
        m.layer m.resolution m.component m.precinct (precinct_x s.rect (coding_of s.codings m.component) m.resolution m.precinct) (precinct_y s.rect (coding_of s.codings m.component) m.resolution m.precinct)
        → (n.precinct ≡ m.precinct) ⊎ ((precinct_x s.rect (coding_of s.codings n.component) n.resolution n.precinct ≡ precinct_x s.rect (coding_of s.codings m.component) m.resolution m.precinct)
        × (precinct_y s.rect (coding_of s.codings n.component) n.resolution n.precinct ≡ precinct_y s.rect (coding_of s.codings m.component) m.resolution m.precinct))
        → n.precinct ≡ m.precinct
    by same (inl one) = one
    by same (inr place) =
        let k = coding_of s.codings n.component in
        let few : m.precinct < precinct_number s.rect k n.resolution =
        subst (λ c. m.precinct < precinct_number s.rect (coding_of s.codings c) n.resolution) (sym same.component)
        (subst (λ r. m.precinct < precinct_number s.rect (coding_of s.codings m.component) r) (sym same.resolution) is_m.precinct) in
        let x : precinct_x s.rect k n.resolution n.precinct ≡ precinct_x s.rect k n.resolution m.precinct =
        place.0 ∙ (ap (λ c. precinct_x s.rect (coding_of s.codings c) m.resolution m.precinct) (sym same.component) ∙ ap (λ r. precinct_x s.rect k r m.precinct) (sym same.resolution)) in
        let y : precinct_y s.rect k n.resolution n.precinct ≡ precinct_y s.rect k n.resolution m.precinct =
        place.1 ∙ (ap (λ c. precinct_y s.rect (coding_of s.codings c) m.resolution m.precinct) (sym same.component) ∙ ap (λ r. precinct_y s.rect k r m.precinct) (sym same.resolution)) in
        place_one s.rect k n.resolution n.precinct m.precinct is_n.precinct few x y

-- all packets
named : (c r k l : ℕ) → PacketName
named c r k l = record { layer = l; resolution = r; component = c; precinct = k }

pub from_all : (s : TileShape) (n : PacketName) → Contains (all_names s) n → IsName s n
unfolding all_names
from_all s n h =
    let by_c = from_joined _ (length s.codings) n h in
    let by_r = from_joined _ ((coding_of s.codings by_c.0).levels + 1) n by_c.2 in
    let by_k = from_joined _ (precinct_number s.rect (coding_of s.codings by_c.0) by_r.0) n by_r.2 in
    let by_l = from_joined _ s.layers n by_k.2 in
    let low = by_r.1 in
    let is : IsName s record { layer = by_l.0; resolution = by_r.0; component = by_c.0; precinct = by_k.0 } = record {
      layer = by_l.1;
      component = by_c.1;
      resolution = omega arith;
      precinct = by_k.1;
    } in
    subst (λ (m : PacketName). IsName s m) (one_in _ n by_l.2) is

pub in_all : (s : TileShape) (n : PacketName) → IsName s n → Contains (all_names s) n
unfolding all_names
in_all s n is =
    let low = is.resolution in
    let k = coding_of s.codings n.component in
    in_joined _ (length s.codings) n.component n is.component
    (in_joined _ (k.levels + 1) n.resolution n (omega arith)
    (in_joined _ (precinct_number s.rect k n.resolution) n.precinct n is.precinct
    (in_joined _ s.layers n.layer n is.layer (first_in n []))))

-- the order of a tile's packets
pub order_is : (s : TileShape) → IsPacketOrder s (order s)
unfolding order
order_is s = record {
  ascending = up_sorted (key s) (all_names s);
  members = λ n. (
    (λ h. from_all s n (from_sorted (key s) (all_names s) n h)),
    (λ is. in_sorted (key s) (all_names s) (λ a b i j e. key_one s a b (from_all s a i) (from_all s b j) e) n (in_all s n is)),
  );
}

-- is the only one
pub order_one : (s : TileShape) (xs ys : List PacketName) → IsPacketOrder s xs → IsPacketOrder s ys → xs ≡ ys
order_one s xs ys a b = one_list (key s) xs ys a.ascending b.ascending (λ n h. (b.members n).1 ((a.members n).0 h)) (λ n h. (a.members n).1 ((b.members n).0 h))
