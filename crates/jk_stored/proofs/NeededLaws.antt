-- What a window needs of the packets of a tile, told by resolution.
use Rattle.std.proofs.Common.{◌≡◌, ℕ, ◌+◌, ◌*◌, ◌<◌, Bool, true, false, inl, inr, List, [], ◌∷◌, ◌++◌, length, get_or, sym, ap, subst, ◌∙◌, arith}
use Rattle.std.specs.Prelude.{min, nat_lt, not, ◌&&◌, if◌then◌else◌}
use Rattle.std.proofs.Math.Nat.{min-eq_left}
use Rattle.std.proofs.lemmas.Nat.{div-mul-add, mod-mul-add}
use Rattle.std.proofs.lemmas.Bool.{cases_lt, lt-ltb, le-ltb}
use Rattle.std.proofs.lemmas.List.{get_or_append_left, get_or_push}
use Rattle.jk_math.specs.declared.rect.Rect.{Rect}
use Rattle.jk_marks.specs.declared.coding.Coding.{Coding}
use Rattle.jk_geom.specs.declared.shape.PacketName.{PacketName}
use Rattle.jk_geom.specs.declared.shape.TileShape.{TileShape}
use Rattle.jk_geom.specs.Precincts.{precincts_across}
use Rattle.jk_geom.specs.Rectangles.{is_empty}
use Rattle.jk_geom.specs.TileShapes.{IsTileShape, coding_of}
use Rattle.jk_order.specs.PacketOrder.{IsName}
use Rattle.jk_window.specs.Cutting.{wanted}
use Rattle.jk_window.specs.Needs.{needs}
use Rattle.jk_window.specs.NeededNumbers.{AreNeeded}
use Rattle.jk_stored.specs.declared.needed.NeededIn.{NeededIn}
use Rattle.jk_stored.specs.Contents.{coding_at, resolution_at, IsNeededIn}

-- the number of the resolution of a packet
abbrev pub number_of : PacketName → ℕ
number_of n = n.component * 11 + n.resolution

-- what is told at that number is told of the packet's own resolution
pub own_needed : (s : TileShape) (top : Rect) (d : ℕ) (n : PacketName) (x : NeededIn) → IsTileShape s → IsName s n → IsNeededIn s top d (number_of n) x
    → AreNeeded s.rect (coding_of s.codings n.component) top d n.resolution x.precincts
    × (x.across ≡ precincts_across s.rect (coding_of s.codings n.component) n.resolution)
own_needed s top d n x shape is at =
    let few = (shape.codings.each n.component is.component).levels in
    let lower = is.resolution in
    let low : n.resolution < 11 = omega (arith, few, lower) in
    let coding : coding_at s (number_of n) ≡ coding_of s.codings n.component =
    ap (coding_of s.codings) (div-mul-add n.component 11 n.resolution low) in
    let resolution : resolution_at s (number_of n) ≡ n.resolution =
    (λ i. min (mod-mul-add n.component 11 n.resolution low i) (coding i).levels) ∙ min-eq_left lower in
    subst (λ (v : Coding × ℕ). AreNeeded s.rect v.0 top d v.1 x.precincts × (x.across ≡ precincts_across s.rect v.0 v.1))
    (λ i. (coding i, resolution i)) (at.needed, at.across)

-- what is seen of a tile keeps the layers of the precincts that are needed
kept : (e b : Bool) (l n : ℕ) → e ≡ false → n < l → b ≡ nat_lt n (if not e && b then l else 0)
kept false true l n is lt = sym (lt-ltb n l lt)
kept false false l n is lt = sym (le-ltb n 0 (omega arith))
kept true b l n is lt = cc

pub needed_wanted : (s : TileShape) (top : Rect) (d : ℕ) (n : PacketName) → IsName s n → is_empty top ≡ false
    → needs s.rect (coding_of s.codings n.component) top d n.resolution n.precinct ≡ wanted s top d s.layers n
needed_wanted s top d n is some =
    kept (is_empty top) (needs s.rect (coding_of s.codings n.component) top d n.resolution n.precinct) s.layers n.layer some is.layer

-- the next one stands behind those before it
pub pushed : {X : Type 0} (P : ℕ → X → Type 0) (old : List X) (n : ℕ) (x : X) → length old ≡ n → ((k : ℕ) (other : X) → k < n → P k (get_or old k other)) → P n x
    → (k : ℕ) (other : X) → k < n + 1 → P k (get_or (old ++ x ∷ []) k other)
pushed {X} P old n x long each here k other lt = elim (cases_lt k n) [
  | inl less ↦ subst (P k) (sym (get_or_append_left old (x ∷ []) other k (omega (arith, long, less)))) (each k other less)
  | inr more ↦
      let last : n ≡ k = omega (arith, lt, more) in
      subst (λ m. P m (get_or (old ++ x ∷ []) m other)) last (subst (P n) (sym (get_or_push old x other n long)) here)
]
