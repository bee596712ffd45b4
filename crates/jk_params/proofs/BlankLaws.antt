-- Tiles of which no part came.
use Rattle.std.proofs.Common.{◌≡◌, ℕ, zero, suc, ◌≤◌, List, [], ◌∷◌, length, replicate, Ok, refl, sym, ap, subst, ◌∙◌, arith}
use Rattle.std.proofs.lemmas.List.{length-replicate}
use Rattle.jk_math.specs.Answer.{Refuses}
use Rattle.jk_math.specs.declared.fault.Fault.{Fault}
use Rattle.jk_marks.specs.declared.main_header.Main.{Main}
use Rattle.jk_marks.specs.declared.coding.Coding.{Coding}
use Rattle.jk_marks.specs.declared.segments.Cod.{Cod}
use Rattle.jk_marks.specs.Siz.{tile_count}
use Rattle.jk_geom.specs.TileShapes.{AreCodings}
use Rattle.jk_params.specs.Headers.{TileFields}
use Rattle.jk_params.specs.HeadersReading.{AreCountable, blank_tiles, parts_seen, main_fields_at, tiles_at, headers_at}
use Rattle.jk_params.proofs.StepLaws.{refuses_bind}

pub blank_length : (n : ℕ) (cod : Cod) (ks : List Coding) → length (blank_tiles n cod ks) ≡ n
blank_length n cod ks = length-replicate n record { cod = cod; codings = ks; data_places = [] }

none_seen : (n : ℕ) (cod : Cod) (ks : List Coding) → parts_seen (blank_tiles n cod ks) ≡ replicate n 0
none_seen zero cod ks = refl
none_seen (suc n) cod ks = ap (λ (xs : List ℕ). 0 ∷ xs) (none_seen n cod ks)

pub blank_seen : (n : ℕ) (cod : Cod) (ks : List Coding) → parts_seen (blank_tiles n cod ks) ≡ replicate (length (blank_tiles n cod ks)) 0
blank_seen n cod ks = none_seen n cod ks ∙ ap (λ k. replicate k 0) (sym (blank_length n cod ks))

pub blank_counted : (n : ℕ) (cod : Cod) (ks : List Coding) → 1 ≤ cod.layers → AreCodings ks → AreCountable (blank_tiles n cod ks)
blank_counted zero cod ks some are t lt = absurd (omega (arith, lt))
blank_counted (suc n) cod ks some are zero lt = (some, are)
blank_counted (suc n) cod ks some are (suc t) lt = blank_counted n cod ks some are t (omega (arith, lt))

-- the headers, once the main header was read
abbrev blank_for : (Main × ℕ) × List Coding → List TileFields
blank_for m = blank_tiles (tile_count m.0.0.siz) m.0.0.cod m.1

pub headers_due : (bytes : List ℕ) (m : (Main × ℕ) × List Coding) (start tiles : List TileFields) → main_fields_at bytes ≡ Ok m → start ≡ blank_for m → tiles_at m.0.0 bytes m.0.1 start ≡ Ok tiles
    → headers_at bytes ≡ Ok (record { siz = m.0.0.siz; tiles = tiles })
unfolding headers_at
headers_due bytes m start tiles read blank e =
    let all : tiles_at m.0.0 bytes m.0.1 (blank_for m) ≡ Ok tiles = ap (tiles_at m.0.0 bytes m.0.1) (sym blank) ∙ e in
    rw (read, all) refl

pub headers_refused : (bytes : List ℕ) (m : (Main × ℕ) × List Coding) (start : List TileFields) (e : Fault) → main_fields_at bytes ≡ Ok m → start ≡ blank_for m → Refuses e (tiles_at m.0.0 bytes m.0.1 start)
    → Refuses e (headers_at bytes)
unfolding headers_at
headers_refused bytes m start e read blank h =
    let all : Refuses e (tiles_at m.0.0 bytes m.0.1 (blank_for m)) = subst (λ (ts : List TileFields). Refuses e (tiles_at m.0.0 bytes m.0.1 ts)) blank h in
    rw read (refuses_bind e (tiles_at m.0.0 bytes m.0.1 (blank_for m)) (λ tiles. Ok (record { siz = m.0.0.siz; tiles = tiles })) all)
