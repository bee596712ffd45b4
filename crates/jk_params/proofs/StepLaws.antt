-- One tile-part more in the table, and one step of the walk over the parts.
use Rattle.std.proofs.Common.{◌≡◌, ℕ, zero, suc, ◌+◌, ◌-◌, ◌<◌, ◌≤◌, Bool, true, cond, eqb, List, [], ◌∷◌, length, set, get_or, drop, Ok, Err, Result, refl, sym, ap, subst, ◌∙◌, arith, inl, inr, length-append}
use Rattle.std.specs.Prelude.{OnOk, IfErr}
use Rattle.std.proofs.lemmas.Bool.{eq-eqb}
use Rattle.std.proofs.lemmas.List.{get_or-set_same, length-set, map-set}
use Rattle.jk_math.specs.Steps.{bind_then, chosen, ok_is}
use Rattle.jk_math.specs.Answer.{◌>>=◌, Refuses, Answers}
use Rattle.jk_math.specs.declared.fault.Fault.{Fault}
use Rattle.jk_math.specs.declared.fault.Fault.TheVariants.{Memory, Truncated}
use Rattle.jk_math.specs.Memory.{IsMemory}
use Rattle.jk_marks.specs.declared.coding.Coding.{Coding}
use Rattle.jk_marks.specs.declared.segments.Cod.{Cod}
use Rattle.jk_marks.specs.declared.main_header.Main.{Main}
use Rattle.jk_marks.specs.declared.tile_part.TilePart.{TilePart}
use Rattle.jk_marks.specs.Codestream.{or_else}
use Rattle.jk_marks.specs.HeaderReading.{part_at}
use Rattle.jk_params.specs.CodingReading.{codings_at}
use Rattle.jk_params.specs.Headers.{TileFields, no_fields, tile_in}
use Rattle.jk_params.specs.HeadersReading.{place_at, with_place, with_coding, tiles_with, parts_seen, ends_at, parts_from}

-- what was set is set again
set_twice : (tiles : List TileFields) (t : ℕ) (a b : TileFields) → set (set tiles t a) t b ≡ set tiles t b
set_twice [] t a b = refl
set_twice (f ∷ tiles) zero a b = refl
set_twice (f ∷ tiles) (suc t) a b = ap (λ (fs : List TileFields). f ∷ fs) (set_twice tiles t a b)

place_twice : (tiles : List TileFields) (t : ℕ) (a : TileFields) (place : ℕ × ℕ) → t < length tiles → set (set tiles t a) t (with_place (tile_in (set tiles t a) t) place) ≡ set tiles t (with_place a place)
place_twice tiles t a place lt =
    ap (λ (f : TileFields). set (set tiles t a) t (with_place f place)) (get_or-set_same tiles t a no_fields lt) ∙ set_twice tiles t a (with_place a place)

first_due : (main : Main) (at : ℕ) (part : TilePart) (tiles : List TileFields) (ks : List Coding) → part.part ≡ 0 → codings_at main part.head ≡ Ok ks
    → tiles_with main at part tiles ≡ Ok (set tiles part.tile (with_place (with_coding (tile_in tiles part.tile) (or_else main.cod part.head.cod) ks) (place_at at part)))
unfolding tiles_with
first_due main at part tiles ks zeroth e =
    let test : eqb part.part 0 ≡ true = eq-eqb part.part 0 zeroth in
    rw (test, e) refl

-- the first part of a tile
pub first_part : (main : Main) (at : ℕ) (part : TilePart) (tiles one new : List TileFields) (cod : Cod) (ks : List Coding) (r : Result (Unit {0}) Fault)
    → part.part ≡ 0 → codings_at main part.head ≡ Ok ks → cod ≡ or_else main.cod part.head.cod → part.tile < length tiles
    → one ≡ set tiles part.tile (with_coding (tile_in tiles part.tile) cod ks)
    → OnOk r (new ≡ set one part.tile (with_place (tile_in one part.tile) (place_at at part)))
    → IfErr r (λ e. IsMemory e)
    → Answers (λ _. new) r (tiles_with main at part tiles)
first_part main at part tiles one new cod ks (Ok x) zeroth e cod-is lt one-is new-is no_fault =
    let place = place_at at part in
    let t = part.tile in
    let a = with_coding (tile_in tiles t) cod ks in
    let given : new ≡ set tiles t (with_place a place) =
    new-is ∙ ap (λ (fs : List TileFields). set fs t (with_place (tile_in fs t) place)) one-is ∙ place_twice tiles t a place lt in
    first_due main at part tiles ks zeroth e ∙ ap (λ (k : Cod). Ok (set tiles t (with_place (with_coding (tile_in tiles t) k ks) place))) (sym cod-is) ∙ ap Ok (sym given)
first_part main at part tiles one new cod ks (Err (Memory m)) zeroth e cod-is lt one-is new-is fault = tt
first_part main at part tiles one new cod ks (Err f) zeroth e cod-is lt one-is new-is fault = absurd fault

-- one step of the walk
pub parts_more : (n i : ℕ) (main : Main) (bytes : List ℕ) (at : ℕ) (tiles : List TileFields) → i < n → parts_from (n - i) main bytes at tiles
    ≡ (part_at main.siz (parts_seen tiles) (drop at bytes) >>= λ part. tiles_with main at part tiles >>= λ more. ends_at bytes (at + part.end)
    >>= λ ends. cond ends (Ok more) (parts_from (n - (i + 1)) main bytes (at + part.end) more))
unfolding parts_from
parts_more n i main bytes at tiles lt =
    let k : n - i ≡ suc (n - (i + 1)) = omega (arith, lt) in
    ap (λ k. parts_from k main bytes at tiles) k ∙ refl

pub parts_over : (n i : ℕ) (main : Main) (bytes : List ℕ) (at : ℕ) (tiles : List TileFields) → n ≤ i → parts_from (n - i) main bytes at tiles ≡ Err Truncated
unfolding parts_from
parts_over n i main bytes at tiles le =
    let k : n - i ≡ 0 = omega (arith, le) in
    ap (λ k. parts_from k main bytes at tiles) k ∙ refl

pub refuses_bind : {A B : Type 0} (e : Fault) (r : Result A Fault) (f : A → Result B Fault) → Refuses e r → Refuses e (r >>= f)
refuses_bind (Memory m) r f h = tt
refuses_bind e r f h = rw h refl

-- what the walk answers where a step of it answers a fault
pub part_refused : (n i : ℕ) (main : Main) (bytes : List ℕ) (at : ℕ) (tiles : List TileFields) (e : Fault) → i < n → part_at main.siz (parts_seen tiles) (drop at bytes) ≡ Err e
    → parts_from (n - i) main bytes at tiles ≡ Err e
part_refused n i main bytes at tiles e lt h = parts_more n i main bytes at tiles lt ∙ rw h refl

pub tiles_refused : (n i : ℕ) (main : Main) (bytes : List ℕ) (at : ℕ) (tiles : List TileFields) (part : TilePart) (e : Fault) → i < n → part_at main.siz (parts_seen tiles) (drop at bytes) ≡ Ok part
    → Refuses e (tiles_with main at part tiles) → Refuses e (parts_from (n - i) main bytes at tiles)
tiles_refused n i main bytes at tiles part e lt read h =
    let step = parts_more n i main bytes at tiles lt in
    let rest = λ (more : List TileFields). ends_at bytes (at + part.end) >>= λ ends. cond ends (Ok more) (parts_from (n - (i + 1)) main bytes (at + part.end) more) in
    let is : parts_from (n - i) main bytes at tiles ≡ (tiles_with main at part tiles >>= rest) = step ∙ rw read refl in
    subst (λ (r : Result (List TileFields) Fault). Refuses e r) (sym is) (refuses_bind e (tiles_with main at part tiles) rest h)

pub ends_refused : (n i : ℕ) (main : Main) (bytes : List ℕ) (at : ℕ) (tiles more : List TileFields) (part : TilePart) (e : Fault) → i < n → part_at main.siz (parts_seen tiles) (drop at bytes) ≡ Ok part
    → tiles_with main at part tiles ≡ Ok more → ends_at bytes (at + part.end) ≡ Err e → parts_from (n - i) main bytes at tiles ≡ Err e
ends_refused n i main bytes at tiles more part e lt read with h = parts_more n i main bytes at tiles lt ∙ rw (read, with, h) refl

-- what it answers at the end, and where it goes on
pub parts_done : (n i : ℕ) (main : Main) (bytes : List ℕ) (at : ℕ) (tiles more : List TileFields) (part : TilePart) (ends : Bool) → i < n → part_at main.siz (parts_seen tiles) (drop at bytes) ≡ Ok part
    → tiles_with main at part tiles ≡ Ok more → ends_at bytes (at + part.end) ≡ Ok ends
    → parts_from (n - i) main bytes at tiles ≡ cond ends (Ok more) (parts_from (n - (i + 1)) main bytes (at + part.end) more)
parts_done n i main bytes at tiles more part ends lt read with h = parts_more n i main bytes at tiles lt ∙ rw (read, with, h) refl

-- the tile that a part was added to
abbrev count_of : TileFields → ℕ
count_of f = length f.data_places

seen_of : (tiles : List TileFields) (t : ℕ) → get_or (parts_seen tiles) t 0 ≡ count_of (tile_in tiles t)
seen_of [] t = refl
seen_of (f ∷ tiles) zero = refl
seen_of (f ∷ tiles) (suc t) = seen_of tiles t

record Added (tiles more : List TileFields) (t : ℕ) : Type 0 where
  fields : TileFields
  is : more ≡ set tiles t fields
  one : count_of fields ≡ count_of (tile_in tiles t) + 1

added : (main : Main) (at : ℕ) (part : TilePart) (tiles more : List TileFields) → tiles_with main at part tiles ≡ Ok more → Added tiles more part.tile
unfolding tiles_with
added main at part tiles more e =
    let t = part.tile in
    let old = tile_in tiles t in
    let place = place_at at part in
    let cod = or_else main.cod part.head.cod in
    elim (chosen (eqb part.part 0) (codings_at main part.head >>= λ ks. Ok (set tiles t (with_place (with_coding old cod ks) place))) (Ok (set tiles t (with_place old place))) (Ok more) e) [
      | inl w ↦ bind_then (codings_at main part.head) (λ ks. Ok (set tiles t (with_place (with_coding old cod ks) place))) more w.1 (λ ks s1 e.
          record { fields = with_place (with_coding old cod ks) place; is = sym (ok_is _ more e); one = length-append old.data_places (place ∷ []) })
      | inr w ↦ record { fields = with_place old place; is = sym (ok_is _ more w.1); one = length-append old.data_places (place ∷ []) }
    ]

pub added_length : (main : Main) (at : ℕ) (part : TilePart) (tiles more : List TileFields) → tiles_with main at part tiles ≡ Ok more → length more ≡ length tiles
added_length main at part tiles more e = let a = added main at part tiles more e in ap (λ (fs : List TileFields). length fs) a.is ∙ length-set tiles part.tile a.fields

pub added_seen : (main : Main) (at : ℕ) (part : TilePart) (tiles more : List TileFields) (seen : List ℕ) → seen ≡ parts_seen tiles → tiles_with main at part tiles ≡ Ok more
    → set seen part.tile (get_or seen part.tile 0 + 1) ≡ parts_seen more
added_seen main at part tiles more seen seen-is e =
    let t = part.tile in
    let a = added main at part tiles more e in
    let count : get_or (parts_seen tiles) t 0 + 1 ≡ count_of a.fields = omega (arith, seen_of tiles t, a.one) in
    ap (λ (xs : List ℕ). set xs t (get_or xs t 0 + 1)) seen-is ∙ ap (λ k. set (parts_seen tiles) t k) count ∙ sym (map-set count_of tiles t a.fields) ∙ ap parts_seen (sym a.is)
