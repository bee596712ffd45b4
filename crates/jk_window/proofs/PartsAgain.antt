-- Tile-parts with other data, which are no longer than their own, are tile-parts again.
use Rattle.std.proofs.Common.{◌≡◌, ℕ, zero, suc, ◌+◌, ◌<◌, ◌≤◌, Bool, true, false, cond, eqb, List, [], ◌∷◌, length, map, get_or, refl, sym, ap, ◌∙◌, subst, arith}
use Rattle.std.specs.List.{range_with_len, AllByRecursion}
use Rattle.std.proofs.lemmas.Bool.{eq-eqb, eqb-true}
use Rattle.std.proofs.lemmas.List.{length-map, get_or-map, ext_get_or}
use Rattle.std.proofs.lemmas.List.FromFn.{get_or-range_with_len}
use Rattle.jk_marks.specs.declared.siz.Siz.{Siz}
use Rattle.jk_marks.specs.Markers.{plt}
use Rattle.jk_marks.specs.Codestream.{CodestreamPart, IsPart, AreParts, AreClosedBeforeLast, of_tile}
use Rattle.jk_marks.specs.Siz.{tile_count}
use Rattle.jk_marks.specs.Copying.{kept_segments}
use Rattle.jk_params.specs.Headers.{Headers, tile_in, headers_of, tile_data_places, head_segments, no_part, IsHeaders}
use Rattle.jk_params.proofs.Laws.{contents_of, places_are, said_at}
use Rattle.jk_walk.specs.TilePackets.{slice_of, Packet}
use Rattle.jk_window.specs.Emptied.{run_text, emptied_part}
use Rattle.jk_window.specs.Indexing.{HasRuns}
use Rattle.jk_window.specs.Cutting.{HaveRuns}
use Rattle.jk_window.proofs.KeptPackets.{filter_mapped}
use Rattle.jk_window.proofs.KeptSegments.{segments_kept}
use Rattle.jk_window.proofs.Lengths.{psot_shorter}

-- ---- the parts of a tile

-- other data don't change which parts a tile has
pub own_emptied : (content : ℕ → ℕ → List ℕ) (t : ℕ) (parts : List CodestreamPart) → of_tile t (map (emptied_part content) parts) ≡ map (emptied_part content) (of_tile t parts)
own_emptied content t parts = filter_mapped (emptied_part content) (λ (p : CodestreamPart). eqb p.tile t) (λ (p : CodestreamPart). eqb p.tile t) parts (λ p. refl)

pub numbers_emptied : (content : ℕ → ℕ → List ℕ) (parts : List CodestreamPart) → map (λ (p : CodestreamPart). p.number) (map (emptied_part content) parts) ≡ map (λ (p : CodestreamPart). p.number) parts
numbers_emptied content [] = refl
numbers_emptied content (p ∷ parts) = ap (λ (ns : List ℕ). p.number ∷ ns) (numbers_emptied content parts)

-- the first one's segments
pub head_emptied : (content : ℕ → ℕ → List ℕ) (parts : List CodestreamPart) → head_segments (map (emptied_part content) parts) ≡ kept_segments plt (head_segments parts)
head_emptied content [] = refl
head_emptied content (p ∷ parts) = refl

-- the parts of a tile are of that tile
tile_at : (t : ℕ) (parts : List CodestreamPart) (i : ℕ) → i < length (of_tile t parts) → (get_or (of_tile t parts) i no_part).tile ≡ t
tile_at t [] i lt = absurd (omega (arith, lt))
tile_at t (p ∷ parts) i lt = by (eqb p.tile t) refl i (λ k less. tile_at t parts k less) lt
  where
    by : (b : Bool) → eqb p.tile t ≡ b → (i : ℕ) → ((k : ℕ) → k < length (of_tile t parts) → (get_or (of_tile t parts) k no_part).tile ≡ t) → i < length (cond b (p ∷ of_tile t parts) (of_tile t parts))
        → (get_or (cond b (p ∷ of_tile t parts) (of_tile t parts)) i no_part).tile ≡ t
    by true e zero more lt = eqb-true p.tile t e
    by true e (suc i) more lt = more i (omega (arith, lt))
    by false e i more lt = more i lt

-- and are numbered
number_at : (xs : List CodestreamPart) (i : ℕ) → map (λ (p : CodestreamPart). p.number) xs ≡ range_with_len 0 (length xs) → i < length xs → (get_or xs i no_part).number ≡ i
number_at xs i e lt =
    sym (get_or-map (λ (p : CodestreamPart). p.number) xs i no_part 0 lt) ∙ ap (λ (ns : List ℕ). get_or ns i 0) e ∙ get_or-range_with_len 0 (length xs) i 0 lt ∙ (let z : 0 + i ≡ i = omega arith in z)

-- ---- their data

-- the runs of a tile are the data of its parts
pub runs_are : (bytes : List ℕ) (h : Headers) (is : IsHeaders bytes h) (t : ℕ) (runs : List (List Packet)) → t < tile_count h.siz → HasRuns bytes h t runs
    → map run_text runs ≡ map (λ (p : CodestreamPart). p.content) (of_tile t is.tree.parts)
unfolding headers_of
runs_are bytes h is t runs lt has =
    let tree = is.tree in
    let small : t < tile_count tree.siz = subst (λ (x : Headers). t < tile_count x.siz) is.says lt in
    let there : (tile_in h.tiles t).data_places ≡ tile_data_places tree t =
    ap (λ (x : Headers). (tile_in x.tiles t).data_places) is.says
    ∙ ap (λ f. f.data_places) (said_at tree.siz tree.segments tree.parts t small)
    ∙ sym (places_are tree t) in
    has.cut ∙ ap (λ (places : List (ℕ × ℕ)). map (slice_of bytes) places) there ∙ contents_of bytes tree t is.spelled.text

-- a part's data are the run of its number
run_there : (runs : List (List Packet)) (xs : List CodestreamPart) (i : ℕ) → map run_text runs ≡ map (λ (p : CodestreamPart). p.content) xs → i < length xs → run_text (get_or runs i []) ≡ (get_or xs i no_part).content
run_there runs xs i e lt =
    let long : length runs ≡ length xs = sym (length-map runs run_text) ∙ ap (λ (ls : List (List ℕ)). length ls) e ∙ length-map xs (λ (p : CodestreamPart). p.content) in
    sym (get_or-map run_text runs i [] [] (omega (arith, long, lt))) ∙ ap (λ (ls : List (List ℕ)). get_or ls i []) e ∙ get_or-map (λ (p : CodestreamPart). p.content) xs i no_part [] lt

-- the data of a tile's parts, where the data of each number are made from the run of that number
pub contents_made : (content : ℕ → ℕ → List ℕ) (make : List Packet → List ℕ) (t : ℕ) (runs : List (List Packet)) (parts : List CodestreamPart) → map (λ (p : CodestreamPart). p.number) (of_tile t parts) ≡ range_with_len 0 (length (of_tile t parts))
    → map run_text runs ≡ map (λ (p : CodestreamPart). p.content) (of_tile t parts) → ((n : ℕ) → content t n ≡ make (get_or runs n []))
    → map (λ (p : CodestreamPart). p.content) (map (emptied_part content) (of_tile t parts)) ≡ map make runs
contents_made content make t runs parts numbered cut made =
    let xs = of_tile t parts in
    let long : length runs ≡ length xs = sym (length-map runs run_text) ∙ ap (λ (ls : List (List ℕ)). length ls) cut ∙ length-map xs (λ (p : CodestreamPart). p.content) in
    let first = length-map xs (emptied_part content) in
    let second = length-map (map (emptied_part content) xs) (λ (p : CodestreamPart). p.content) in
    ext_get_or [] (map (λ (p : CodestreamPart). p.content) (map (emptied_part content) xs)) (map make runs) (second ∙ first ∙ sym long ∙ sym (length-map runs make)) (λ i less.
    let lt : i < length xs = omega (arith, less, first, second) in
    let p = get_or xs i no_part in
    get_or-map (λ (p : CodestreamPart). p.content) (map (emptied_part content) xs) i no_part [] (omega (arith, lt, first))
    ∙ ap (λ (q : CodestreamPart). q.content) (get_or-map (emptied_part content) xs i no_part no_part lt)
    ∙ (λ j. content (tile_at t parts i lt j) (number_at xs i numbered lt j))
    ∙ made i
    ∙ sym (get_or-map make runs i [] [] (omega (arith, lt, long))))

-- ---- parts that aren't longer

abbrev pub IsShort : (ℕ → ℕ → List ℕ) → CodestreamPart → Type 0
IsShort content p = length (content p.tile p.number) ≤ length p.content

all_at : (P : CodestreamPart → Type 0) (xs : List CodestreamPart) → ((i : ℕ) → i < length xs → P (get_or xs i no_part)) → AllByRecursion P xs
all_at P [] h = tt
all_at P (x ∷ xs) h = (h 0 (omega arith), all_at P xs (λ i lt. h (suc i) (omega (arith, lt))))

-- what holds of the parts of each tile holds of all parts
of_tiles : (P : CodestreamPart → Type 0) (n : ℕ) (parts : List CodestreamPart) → AllByRecursion (λ (p : CodestreamPart). p.tile < n) parts → ((t : ℕ) → t < n → AllByRecursion P (of_tile t parts)) → AllByRecursion P parts
of_tiles P n [] few all = tt
of_tiles P n (p ∷ parts) few all = (
  (subst (λ b. AllByRecursion P (cond b (p ∷ of_tile p.tile parts) (of_tile p.tile parts))) (eq-eqb p.tile p.tile refl) (all p.tile few.0)).0,
  of_tiles P n parts few.1 (λ t lt. rest (eqb p.tile t) (of_tile t parts) (all t lt)),
)
  where
    rest : (b : Bool) (xs : List CodestreamPart) → AllByRecursion P (cond b (p ∷ xs) xs) → AllByRecursion P xs
    rest true xs h = h.1
    rest false xs h = h

tiles_few : (siz : Siz) (parts : List CodestreamPart) → AllByRecursion (IsPart siz) parts → AllByRecursion (λ (p : CodestreamPart). p.tile < tile_count siz) parts
tiles_few siz [] all = tt
tiles_few siz (p ∷ parts) all = (all.0.tile, tiles_few siz parts all.1)

pub parts_short : (bytes : List ℕ) (h : Headers) (is : IsHeaders bytes h) (runs : ℕ → List (List Packet)) (content : ℕ → ℕ → List ℕ) → HaveRuns bytes h runs
    → ((t n : ℕ) → t < tile_count h.siz → length (content t n) ≤ length (run_text (get_or (runs t) n []))) → AllByRecursion (IsShort content) is.tree.parts
unfolding headers_of
parts_short bytes h is runs content have short =
    let tree = is.tree in
    let siz : h.siz ≡ tree.siz = ap (λ (x : Headers). x.siz) is.says in
    of_tiles (IsShort content) (tile_count tree.siz) tree.parts (tiles_few tree.siz tree.parts is.spelled.parts.each) (λ t few.
    let xs = of_tile t tree.parts in
    let lt : t < tile_count h.siz = subst (λ (s : Siz). t < tile_count s) (sym siz) few in
    all_at (IsShort content) xs (λ i less.
    let p = get_or xs i no_part in
    let tile = tile_at t tree.parts i less in
    let number = number_at xs i (is.spelled.parts.numbered t) less in
    let text = run_there (runs t) xs i (runs_are bytes h is t (runs t) lt (have t lt)) less in
    let here : content p.tile p.number ≡ content t i = λ j. content (tile j) (number j) in
    let le = short t i lt in
    let a = ap (λ (ns : List ℕ). length ns) here in
    let b = ap (λ (ns : List ℕ). length ns) text in
    omega (arith, le, a, b)))

-- ---- all parts

part_again : (siz : Siz) (content : ℕ → ℕ → List ℕ) (p : CodestreamPart) → IsPart siz p → IsShort content p → IsPart siz (emptied_part content p)
part_again siz content p is short = record {
  tile = is.tile;
  narrow = is.narrow;
  number = is.number;
  total = is.total;
  fits = (let less = psot_shorter p (content p.tile p.number) short in let fits = is.fits in omega (arith, less, fits));
  well_formed = segments_kept _ siz.components plt p.segments is.well_formed;
}

all_again : (siz : Siz) (content : ℕ → ℕ → List ℕ) (parts : List CodestreamPart) → AllByRecursion (IsPart siz) parts → AllByRecursion (IsShort content) parts → AllByRecursion (IsPart siz) (map (emptied_part content) parts)
all_again siz content [] all short = tt
all_again siz content (p ∷ parts) all short = (part_again siz content p all.0 short.0, all_again siz content parts all.1 short.1)

closed_again : (content : ℕ → ℕ → List ℕ) (parts : List CodestreamPart) → AreClosedBeforeLast parts → AreClosedBeforeLast (map (emptied_part content) parts)
closed_again content [] closed = tt
closed_again content (p ∷ []) closed = tt
closed_again content (p ∷ q ∷ parts) closed = (closed.0, closed_again content (q ∷ parts) closed.1)

pub parts_again : (siz : Siz) (content : ℕ → ℕ → List ℕ) (parts : List CodestreamPart) → AreParts siz parts → AllByRecursion (IsShort content) parts → AreParts siz (map (emptied_part content) parts)
parts_again siz content parts are short = record {
  some = (let long = length-map parts (emptied_part content) in let some = are.some in omega (arith, long, some));
  each = all_again siz content parts are.each short;
  closed = closed_again content parts are.closed;
  numbered = λ t.
      ap (λ (ps : List CodestreamPart). map (λ (p : CodestreamPart). p.number) ps) (own_emptied content t parts)
      ∙ numbers_emptied content (of_tile t parts)
      ∙ are.numbered t
      ∙ ap (range_with_len 0) (sym (ap (λ (ps : List CodestreamPart). length ps) (own_emptied content t parts) ∙ length-map (of_tile t parts) (emptied_part content)));
}
