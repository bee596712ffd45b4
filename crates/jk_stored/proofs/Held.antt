-- Bytes at hand are those of the file.
use Rattle.std.proofs.Common.{◌≡◌, ℕ, ◌+◌, ◌-◌, ◌≤◌, List, length, take, drop, sym, ap, ◌∙◌, arith}
use Rattle.std.proofs.lemmas.List.{take-take, drop-drop, length-take-le, length-drop}
use Rattle.jk_bits.proofs.Texts.{drop_take}
use Rattle.jk_walk.specs.TilePackets.{slice_of}

-- a stretch of a list's front
pub front_part : (xs : List ℕ) (count d k : ℕ) → d + k ≤ count → take k (drop d (take count xs)) ≡ take k (drop d xs)
front_part xs count d k le =
    ap (take k) (drop_take d count xs) ∙ take-take k (count - d) (drop d xs) (omega (arith, le))

pub held_part : (f room : List ℕ) (start count at k : ℕ) → take count room ≡ take count (drop start f) → start ≤ at → at - start + k ≤ count → count ≤ length room
    → take k (drop (at - start) room) ≡ slice_of f (at, at + length (take k (drop (at - start) room)))
held_part f room start count at k held begun within fits =
    let d = at - start in
    let long : length (take k (drop d room)) ≡ k = length-take-le k (drop d room) (let e = length-drop d room in omega (arith, e, within, fits)) in
    let size : k ≡ at + length (take k (drop d room)) - at = omega (arith, long) in
    sym (front_part room count d k within)
    ∙ ap (λ (xs : List ℕ). take k (drop d xs)) held
    ∙ front_part (drop start f) count d k within
    ∙ ap (take k) (drop-drop d start f ∙ ap (λ n. drop n f) (let e : start + d ≡ at = omega (arith, begun) in e))
    ∙ ap (λ n. take n (drop at f)) size
