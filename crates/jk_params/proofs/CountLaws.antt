-- How many packets a tile has, of a codestream that has not too many.
use Rattle.std.proofs.Common.{◌≡◌, ℕ, zero, suc, ◌+◌, ◌-◌, ◌^◌, ◌<◌, ◌≤◌, min, ap, ◌∙◌, arith, inl, inr}
use Rattle.std.proofs.lemmas.Bool.{cases_lt}
use Rattle.jk_marks.specs.Siz.{tile_count}
use Rattle.jk_geom.specs.Rectangles.{tile_area}
use Rattle.jk_geom.specs.Counts.{packet_number}
use Rattle.jk_params.specs.Headers.{Headers, tile_in, total, AreHeaders}
use Rattle.jk_params.proofs.LoopLaws.{total_more}

pub part_of_total : (f : ℕ → ℕ) (n t : ℕ) → t < n → f t ≤ total f n
part_of_total f zero t lt = absurd (omega (arith, lt))
part_of_total f (suc n) t lt =
    let next : total f (suc n) ≡ total f n + f n = ap (total f) (omega arith) ∙ total_more f n in
    elim (cases_lt t n) [
      | inl less ↦ let before = part_of_total f n t less in omega (arith, next, before)
      | inr same ↦ let at : f t ≡ f n = ap f (omega (arith, lt, same)) in omega (arith, next, at)
    ]

-- how many packets tile t has
abbrev pub packets_in : Headers → ℕ → ℕ
packets_in h t = packet_number (tile_area h.siz t) (tile_in h.tiles t).cod.layers (tile_in h.tiles t).codings

-- a tile has few packets, so that they are counted
pub few_packets : (size : ℕ) (h : Headers) (t : ℕ) → AreHeaders size h → t < tile_count h.siz → min (packets_in h t) (2 ^ 64 - 1) ≡ packets_in h t
few_packets size h t is lt =
    let all = part_of_total (packets_in h) (tile_count h.siz) t lt in
    omega (arith, all, is.few)
