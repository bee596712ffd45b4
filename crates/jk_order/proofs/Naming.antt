-- Names of packets that are given one by one are all names in their order.
use Rattle.std.proofs.Common.{◌≡◌, ℕ, ◌-◌, List, [], ◌∷◌, ◌++◌, length, drop, Some, None, append_assoc, refl, sym, ap, ◌∙◌, arith}
use Rattle.std.specs.Prelude.{slice_get, Contains}
use Rattle.std.specs.List.{AllByRecursion}
use Rattle.std.proofs.lemmas.List.{append-nil}
use Rattle.jk_geom.specs.declared.shape.TileShape.{TileShape}
use Rattle.jk_geom.specs.declared.shape.PacketName.{PacketName}
use Rattle.jk_order.specs.PacketOrder.{IsName, order, packet_count}
use Rattle.jk_order.specs.Streams.{Walk, PacketsLeft}
use Rattle.jk_order.proofs.Ascending.{first_in, later_in}
use Rattle.jk_order.proofs.OrderLaws.{order_is}
use Rattle.jk_order.proofs.LengthLaws.{length_of}

-- These names were given, and so many are still to come.
pub record IsNaming (s : TileShape) (packets : Walk) (names : List PacketName) (more : ℕ) : Type 0 where
  pub left : List PacketName
  pub follow : PacketsLeft packets left
  pub count : length left ≡ more
  pub goes : names ++ left ≡ order s

pub naming_starts : (s : TileShape) (packets : Walk) (names : List PacketName) → PacketsLeft packets (order s) → names ≡ [] → IsNaming s packets names (packet_count s)
naming_starts s packets names follow e = record { left = order s; follow = follow; count = length_of s (order s) (order_is s); goes = ap (λ (ns : List PacketName). ns ++ order s) e }

first_is : (xs : List PacketName) (x : PacketName) → Some x ≡ slice_get xs 0 → xs ≡ x ∷ drop 1 xs
first_is [] x e = absurd cc
first_is (y ∷ xs) x e = let same : x ≡ y = cc in ap (λ (z : PacketName). z ∷ xs) (sym same)

pub none_is : (xs : List PacketName) → None ≡ slice_get xs 0 → xs ≡ []
none_is [] e = refl
none_is (y ∷ xs) e = absurd cc

pub counted_over : (names : List PacketName) → length names ≡ 0 → names ≡ []
counted_over [] e = refl
counted_over (n ∷ names) e = absurd (omega (arith, e))

pub naming_more : (s : TileShape) (packets next : Walk) (names new : List PacketName) (more : ℕ) (n : PacketName) → (g : IsNaming s packets names more) → Some n ≡ slice_get g.left 0 → PacketsLeft next (drop 1 g.left)
    → new ≡ names ++ n ∷ [] → IsNaming s next new (more - 1)
naming_more s packets next names new more n g first left pushed =
    let is = first_is g.left n first in
    let size = ap (λ (ns : List PacketName). length ns) is in
    let count = g.count in
    record {
      left = drop 1 g.left;
      follow = left;
      count = omega (arith, size, count);
      goes = ap (λ (ns : List PacketName). ns ++ drop 1 g.left) pushed ∙ append_assoc names (n ∷ []) (drop 1 g.left) ∙ ap (λ (ns : List PacketName). names ++ ns) (sym is) ∙ g.goes;
    }

pub naming_over : (s : TileShape) (packets : Walk) (names : List PacketName) (more : ℕ) → (g : IsNaming s packets names more) → g.left ≡ [] → names ≡ order s
naming_over s packets names more g over = sym (append-nil names) ∙ ap (λ (ns : List PacketName). names ++ ns) (sym over) ∙ g.goes

-- each is a name
in_all : (items : List PacketName) (s : TileShape) → ((n : PacketName) → Contains items n → IsName s n) → AllByRecursion (IsName s) items
in_all [] s each = tt
in_all (n ∷ items) s each = (each n (first_in n items), in_all items s (λ v there. each v (later_in n items v there)))

pub order_names : (s : TileShape) → AllByRecursion (IsName s) (order s)
order_names s = in_all (order s) s (λ n there. ((order_is s).members n).0 there)
