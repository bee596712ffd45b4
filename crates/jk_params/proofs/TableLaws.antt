-- The fields of the tiles, as the program keeps them.
use Rattle.std.proofs.Common.{◌≡◌, ℕ, zero, suc, ◌+◌, ◌<◌, List, [], ◌∷◌, ◌++◌, length, map, get_or, set, refl, sym, ap, ◌∙◌, arith}
use Rattle.std.specs.List.{AllByRecursion}
use Rattle.std.proofs.lemmas.List.{get_or_read, length-map, map-append, map-set, replicate_more}
use Rattle.jk_marks.specs.declared.segments.Cod.{Cod}
use Rattle.jk_marks.specs.declared.coding.Coding.{Coding}
use Rattle.jk_marks.specs.Codestream.{no_coding}
use Rattle.jk_params.specs.declared.table.TileCoding.{TileCoding}
use Rattle.jk_params.specs.declared.table.TileEntry.{TileEntry}
use Rattle.jk_params.specs.Headers.{TileFields, tile_in}
use Rattle.jk_params.specs.HeadersReading.{blank_tiles}
use Rattle.jk_params.specs.Tables.{coding_in, fields_in, tiles_in}

pub tiles_length : (ks : List TileCoding) (es : List TileEntry) → length (tiles_in ks es) ≡ length es
unfolding tiles_in
tiles_length ks es = length-map es (fields_in ks)

pub tiles_is : (ks : List TileCoding) (es : List TileEntry) → tiles_in ks es ≡ map (fields_in ks) es
unfolding tiles_in
tiles_is ks es = refl

-- the fields of an entry that was read
entry_at : (ks : List TileCoding) (es : List TileEntry) (t : ℕ) (e : TileEntry) → t < length es → e ≡ get_or es t e → tile_in (map (fields_in ks) es) t ≡ fields_in ks e
entry_at ks [] t e lt is = absurd (omega (arith, lt))
entry_at ks (x ∷ es) zero e lt is = ap (fields_in ks) (sym is)
entry_at ks (x ∷ es) (suc t) e lt is = entry_at ks es t e (omega (arith, lt)) is

pub entry_fields : (ks : List TileCoding) (es : List TileEntry) (t : ℕ) (e : TileEntry) → t < length es → e ≡ get_or es t e → tile_in (tiles_in ks es) t ≡ fields_in ks e
entry_fields ks es t e lt is = ap (λ (fs : List TileFields). tile_in fs t) (tiles_is ks es) ∙ entry_at ks es t e lt is

-- a coding that was read
pub coding_read : (ks : List TileCoding) (i : ℕ) (k : TileCoding) → i < length ks → k ≡ get_or ks i k → coding_in ks i ≡ k
coding_read ks i k lt is = sym (get_or_read ks i k lt is record { cod = no_coding; codings = [] })

-- what holds of all holds of one that was read
pub each_read : (n : ℕ) (es : List TileEntry) (t : ℕ) (e : TileEntry) → AllByRecursion (λ x. x.coding < n) es → t < length es → e ≡ get_or es t e → e.coding < n
each_read n [] t e all lt is = absurd (omega (arith, lt))
each_read n (x ∷ es) zero e all lt is = let same = ap (λ (y : TileEntry). y.coding) is in omega (arith, all.0, same)
each_read n (x ∷ es) (suc t) e all lt is = each_read n es t e all.1 (omega (arith, lt)) is

pub each_set : (n : ℕ) (es : List TileEntry) (t : ℕ) (e : TileEntry) → AllByRecursion (λ x. x.coding < n) es → e.coding < n → AllByRecursion (λ x. x.coding < n) (set es t e)
each_set n [] t e all lt = tt
each_set n (x ∷ es) zero e all lt = (lt, all.1)
each_set n (x ∷ es) (suc t) e all lt = (all.0, each_set n es t e all.1 lt)

pub each_more : (n m : ℕ) (es : List TileEntry) → AllByRecursion (λ x. x.coding < n) es → n < m → AllByRecursion (λ x. x.coding < m) es
each_more n m [] all lt = tt
each_more n m (x ∷ es) all lt = (omega (arith, all.0, lt), each_more n m es all.1 lt)

pub each_push : (n : ℕ) (es : List TileEntry) (e : TileEntry) → AllByRecursion (λ x. x.coding < n) es → e.coding < n → AllByRecursion (λ x. x.coding < n) (es ++ e ∷ [])
each_push n [] e all lt = (lt, tt)
each_push n (x ∷ es) e all lt = (all.0, each_push n es e all.1 lt)

-- another entry for a tile
pub tiles_set : (ks : List TileCoding) (es : List TileEntry) (t : ℕ) (e : TileEntry) → tiles_in ks (set es t e) ≡ set (tiles_in ks es) t (fields_in ks e)
unfolding tiles_in
tiles_set ks es t e = map-set (fields_in ks) es t e

-- a coding more leaves the others as they were
coding_kept : (ks : List TileCoding) (k : TileCoding) (i : ℕ) → i < length ks → coding_in (ks ++ k ∷ []) i ≡ coding_in ks i
coding_kept [] k i lt = absurd (omega (arith, lt))
coding_kept (x ∷ ks) k zero lt = refl
coding_kept (x ∷ ks) k (suc i) lt = coding_kept ks k i (omega (arith, lt))

pub coding_last : (ks : List TileCoding) (k : TileCoding) → coding_in (ks ++ k ∷ []) (length ks) ≡ k
coding_last [] k = refl
coding_last (x ∷ ks) k = coding_last ks k

entries_kept : (ks : List TileCoding) (k : TileCoding) (es : List TileEntry) → AllByRecursion (λ x. x.coding < length ks) es → map (fields_in (ks ++ k ∷ [])) es ≡ map (fields_in ks) es
entries_kept ks k [] all = refl
entries_kept ks k (e ∷ es) all =
    let same = coding_kept ks k e.coding all.0 in
    let here : fields_in (ks ++ k ∷ []) e ≡ fields_in ks e = ap (λ (c : TileCoding). record { cod = c.cod; codings = c.codings; data_places = e.places.items }) same in
    ap (λ (f : TileFields). f ∷ map (fields_in (ks ++ k ∷ [])) es) here ∙ ap (λ (fs : List TileFields). fields_in ks e ∷ fs) (entries_kept ks k es all.1)

pub tiles_kept : (ks : List TileCoding) (k : TileCoding) (es : List TileEntry) → AllByRecursion (λ x. x.coding < length ks) es → tiles_in (ks ++ k ∷ []) es ≡ tiles_in ks es
tiles_kept ks k es all = tiles_is (ks ++ k ∷ []) es ∙ entries_kept ks k es all ∙ sym (tiles_is ks es)

-- one blank tile more
pub blank_more : (cod : Cod) (codings : List Coding) (ks : List TileCoding) (es : List TileEntry) (e : TileEntry) (n : ℕ) → coding_in ks e.coding ≡ record { cod = cod; codings = codings } → e.places.items ≡ []
    → tiles_in ks es ≡ blank_tiles n cod codings → tiles_in ks (es ++ e ∷ []) ≡ blank_tiles (n + 1) cod codings
unfolding tiles_in
blank_more cod codings ks es e n coding places before =
    let one : fields_in ks e ≡ record { cod = cod; codings = codings; data_places = [] } =
    ap (λ (c : TileCoding). record { cod = c.cod; codings = c.codings; data_places = e.places.items }) coding ∙ ap (λ (ps : List (ℕ × ℕ)). record { cod = cod; codings = codings; data_places = ps }) places in
    map-append (fields_in ks) es (e ∷ []) ∙ ap (λ (fs : List TileFields). fs ++ fields_in ks e ∷ []) before ∙ ap (λ (f : TileFields). blank_tiles n cod codings ++ f ∷ []) one
    ∙ replicate_more n record { cod = cod; codings = codings; data_places = [] }
