-- What is told by places in a file is what its boxes, its tree and its headers say.
use Rattle.std.proofs.Common.{◌≡◌, ℕ, zero, suc, ◌+◌, ◌<◌, ◌≤◌, Bool, false, cond, eqb, ◌||◌, List, [], ◌∷◌, ◌++◌, length, get_or, Result, Ok, Err, inl, inr, refl, sym, ap, subst, ◌∙◌, append_assoc, arith}
use Rattle.std.specs.Prelude.{◌==◌, slice_range, codes}
use Rattle.std.specs.List.{count_by, AllByRecursion}
use Rattle.std.specs.Fmt.{decimal}
use Rattle.std.proofs.lemmas.Bool.{cases_Bool}
use Rattle.std.proofs.lemmas.List.{get_or_default}
use Rattle.std.specs.Result.{IsErrAnd}
use Rattle.jk_math.specs.Memory.{IsMemory}
use Rattle.jk_math.specs.Answer.{◌>>=◌, Answers}
use Rattle.jk_math.specs.declared.fault.Fault.TheVariants.{Memory}
use Rattle.jk_math.specs.Steps.{done, ok_is}
use Rattle.jk_math.specs.declared.fault.Fault.{Fault}
use Rattle.jk_marks.specs.declared.coding.Coding.{Coding}
use Rattle.jk_marks.specs.Siz.{tile_count}
use Rattle.jk_marks.specs.Coding.{IsCoding}
use Rattle.jk_marks.specs.Codestream.{BeginsMain}
use Rattle.jk_marks.specs.Copying.{main_size_at}
use Rattle.jk_marks.proofs.Laws.{begins_main}
use Rattle.jk_boxes.specs.declared.place.Boxed.{Boxed}
use Rattle.jk_boxes.specs.Boxes.{HoldsAt}
use Rattle.jk_boxes.proofs.Laws.{place_again}
use Rattle.jk_geom.specs.TileShapes.{coding_of, no_coding}
use Rattle.jk_geom.proofs.Laws.{some_tile}
use Rattle.jk_params.specs.Headers.{Headers, TileFields, tile_in, IsHeaders, AreHeaders}
use Rattle.jk_window.specs.Indexing.{IndexFields, IsIndexOf, index_at}
use Rattle.jk_params.specs.Levels.{least_levels}
use Rattle.jk_window.proofs.Laws.{index_only}
use Rattle.jk_commands.specs.BoxList.{listed}
use Rattle.jk_commands.specs.HeaderMarkers.{all_segments, is_passed_over, parts_in, markers_in, is_read}
use Rattle.jk_commands.specs.Lines.{line_of, info_at}
use Rattle.jk_commands.specs.Values.{value, pair_value, labelled, marker_name, texts_below}
use Rattle.jk_commands.specs.AllLines.{box_values, marker_value, passed_values, coding_lines, frame_values, boxes_in, lines_with, lines_below, lines_of, all_at}
use Rattle.jk_commands.proofs.MarkerLaws.{meets_all}
use Rattle.jk_commands.proofs.BoxLaws.{all_met}

-- memory is refused, whatever is due
pub memory_answers : {X Y : Type 0} (view : X → Y) (r : Result X Fault) (due : Result Y Fault) → IsErrAnd r IsMemory → Answers view r due
memory_answers view (Ok x) due h = absurd h
memory_answers view (Err (Memory m)) due h = tt
memory_answers view (Err e) due h = absurd h

-- ---- texts

texts_same : (f g : ℕ → List ℕ) (n : ℕ) → ((k : ℕ) → f k ≡ g k) → texts_below f n ≡ texts_below g n
unfolding texts_below
texts_same f g zero same = refl
texts_same f g (suc n) same = ap (λ (x : List ℕ). x ++ f n) (texts_same f g n same) ∙ ap (λ (x : List ℕ). texts_below g n ++ x) (same n)

marker_same : (m a b : ℕ) → (is_read m ≡ false → a ≡ b) → marker_value m a ≡ marker_value m b
marker_same m a b same =
    let left : Bool → List ℕ = λ x. cond (x || eqb a 0) [] (pair_value (marker_name m) a) in
    let right : Bool → List ℕ = λ x. cond (x || eqb b 0) [] (pair_value (marker_name m) b) in
    elim (cases_Bool (is_read m)) [ inl read ↦ ap left read ∙ sym (ap right read) | inr other ↦ ap (marker_value m) (same other) ]

passed_same : (f g : ℕ → ℕ) → ((m : ℕ) → is_read m ≡ false → f m ≡ g m) → passed_values f ≡ passed_values g
unfolding passed_values
passed_same f g same =
    texts_same (λ k. marker_value (0xFF00 + k) (f (0xFF00 + k))) (λ k. marker_value (0xFF00 + k) (g (0xFF00 + k))) 256
    (λ k. marker_same (0xFF00 + k) (f (0xFF00 + k)) (g (0xFF00 + k)) (same (0xFF00 + k)))

-- five texts that were appended one after another
pub five_joined : (a b c d e p q r s t u : List ℕ) → q ≡ p ++ a → r ≡ q ++ b → s ≡ r ++ c → t ≡ s ++ d → u ≡ t ++ e → u ≡ p ++ (a ++ (b ++ (c ++ (d ++ e))))
five_joined a b c d e p q r s t u f g h i j =
    j
    ∙ ap (λ (x : List ℕ). x ++ e) (i ∙ ap (λ (x : List ℕ). x ++ d) (h ∙ ap (λ (x : List ℕ). x ++ c) (g ∙ ap (λ (x : List ℕ). x ++ b) f)))
    ∙ simp append_assoc

-- six
pub six_joined : (a b c d e f p q r s t u v : List ℕ) → q ≡ p ++ a → r ≡ q ++ b → s ≡ r ++ c → t ≡ s ++ d → u ≡ t ++ e → v ≡ u ++ f → v ≡ p ++ (a ++ (b ++ (c ++ (d ++ (e ++ f)))))
six_joined a b c d e f p q r s t u v g h i j k l =
    five_joined b c d e f q r s t u v h i j k l ∙ ap (λ (x : List ℕ). x ++ (b ++ (c ++ (d ++ (e ++ f))))) g ∙ append_assoc p a (b ++ (c ++ (d ++ (e ++ f))))

-- ---- codings

-- the coding of a component of a tile
pub first_is : (size : ℕ) (h : Headers) (codings : List Coding) (k : Coding) → AreHeaders size h → codings ≡ (tile_in h.tiles 0).codings → k ≡ get_or codings 0 k → IsCoding k
first_is size h codings k are same is =
    let some : 0 < tile_count h.siz = some_tile h.siz are.siz in
    let codings-are = (are.each 0 some).codings in
    let few : 0 < length (tile_in h.tiles 0).codings = codings-are.some in
    let at : k ≡ coding_of (tile_in h.tiles 0).codings 0 =
    is ∙ ap (λ (ks : List Coding). get_or ks 0 k) same ∙ get_or_default (tile_in h.tiles 0).codings 0 k no_coding few in
    subst IsCoding (sym at) (codings-are.each 0 few)

pub all_small : (sizes : List (ℕ × ℕ)) → ((r : ℕ) → r < length sizes → ((get_or sizes r (0, 0)).0 < 16) × ((get_or sizes r (0, 0)).1 < 16)) → AllByRecursion (λ p. (p.0 < 16) × (p.1 < 16)) sizes
all_small [] each = tt
all_small (p ∷ ps) each = (each 0 (omega arith), all_small ps (λ r lt. each (suc r) (omega arith)))

pub small_precincts : (k : Coding) → IsCoding k → AllByRecursion (λ p. (p.0 < 16) × (p.1 < 16)) k.precincts
small_precincts k is = all_small k.precincts (λ r lt. is.small r (omega (arith, lt, is.count)))

pub least_few : (tiles : List TileFields) (n : ℕ) → least_levels tiles n ≤ 10
unfolding least_levels
least_few tiles zero = omega arith
least_few tiles (suc n) = omega (arith, least_few tiles n)

-- ---- what is told by places

boxes_same : (bytes codestream : List ℕ) (place : Boxed) → (holds : HoldsAt bytes codestream place) → boxes_in place bytes ≡ listed holds
boxes_same bytes codestream place (inl bare) = ap (λ (b : Boxed). boxes_in b bytes) bare.1
boxes_same bytes codestream place (inr jp2) = ap (λ (b : Boxed). boxes_in b bytes) jp2.1 ∙ all_met bytes codestream jp2.0

lines_alike : (h : Headers) (b c : List (ℕ × ℕ)) (p q : ℕ) (f g : ℕ → ℕ) → b ≡ c → p ≡ q → ((m : ℕ) → is_read m ≡ false → f m ≡ g m) → lines_with b p f h ≡ lines_with c q g h
unfolding lines_with
lines_alike h b c p q f g boxes parts passed =
    let text : List (ℕ × ℕ) → ℕ → List ℕ → List ℕ = λ boxes parts passed.
    labelled (codes "boxes") (box_values boxes)
    ++ (labelled (codes "tile-parts") (value (decimal parts))
    ++ (coding_lines h
    ++ (labelled (codes "passed-over") passed
    ++ labelled (codes "sizes") (frame_values h)))) in
    ap (λ (x : List (ℕ × ℕ)). text x p (passed_values f)) boxes ∙ ap (λ n. text c n (passed_values f)) parts ∙ ap (λ (v : List ℕ). text c q v) (passed_same f g passed)

-- The lines by places are those of the boxes, the tree and the headers.
lines_again : (bytes : List ℕ) (i : IndexFields) → (is : IsIndexOf bytes i) → line_of i ++ lines_below bytes i.place i.headers ≡ lines_of is
lines_again bytes i is =
    let h = i.headers in
    let tree = is.says.tree in
    let here = (place_again bytes is.codestream i.place is.holds).1 in
    let meets = meets_all is.codestream tree is.says.spelled in
    let boxes = boxes_same bytes is.codestream i.place is.holds in
    let told : List ℕ → List ℕ = λ codestream.
    lines_with (boxes_in i.place bytes) (length (parts_in codestream (main_size_at codestream))) (λ m. count_by (λ k. k == m) (markers_in codestream (main_size_at codestream))) h in
    ap (λ (x : List ℕ). line_of i ++ told x) (sym here)
    ∙ ap (λ (x : List ℕ). line_of i ++ x)
    (lines_alike h (boxes_in i.place bytes) (listed is.holds) (length (parts_in is.codestream (main_size_at is.codestream))) (length tree.parts)
    (λ m. count_by (λ k. k == m) (markers_in is.codestream (main_size_at is.codestream))) (λ m. count_by (is_passed_over m) (all_segments tree)) boxes meets.parts meets.markers)

pub all_again : (bytes : List ℕ) (i : IndexFields) → (is : IsIndexOf bytes i) → all_at bytes ≡ Ok (lines_of is)
unfolding all_at
all_again bytes i is = rw (index_only bytes i is) (ap (λ (x : List ℕ). Ok x) (lines_again bytes i is))

-- ---- the faults are those of the line

fault_again : (r : Result IndexFields Fault) (f g : IndexFields → List ℕ) (e : Fault) → (r >>= λ i. Ok (f i)) ≡ Err e → (r >>= λ i. Ok (g i)) ≡ Err e
fault_again (Ok i) f g e is = absurd cc
fault_again (Err d) f g e is = is

pub all_fails : (bytes : List ℕ) (e : Fault) → info_at bytes ≡ Err e → all_at bytes ≡ Err e
unfolding info_at all_at
all_fails bytes e is = fault_again (index_at bytes) line_of (λ i. line_of i ++ lines_below bytes i.place i.headers) e is

front_again : (r : Result IndexFields Fault) (f g : IndexFields → List ℕ) (text : List ℕ) → (r >>= λ i. Ok (f i)) ≡ Ok text → (others : List ℕ) × ((r >>= λ i. Ok (f i ++ g i)) ≡ Ok (text ++ others))
front_again (Ok i) f g text is = (g i, ap (λ (x : List ℕ). Ok (x ++ g i)) (ok_is (f i) text is))
front_again (Err d) f g text is = absurd cc

pub all_begins : (bytes text : List ℕ) → info_at bytes ≡ Ok text → (others : List ℕ) × (all_at bytes ≡ Ok (text ++ others))
unfolding info_at all_at
all_begins bytes text is = front_again (index_at bytes) line_of (λ i. lines_below bytes i.place i.headers) text is

-- ---- what the calls answer on a file that has an index

-- the codestream at the place that was opened
pub record Opened (bytes : List ℕ) (place : Boxed) (i : IndexFields) : Type 0 where
  pub same : place ≡ i.place
  pub says : IsHeaders (slice_range bytes place.start place.end) i.headers
  pub begins : BeginsMain (slice_range bytes place.start place.end) says.tree.siz says.tree.segments

pub opened : (bytes : List ℕ) (place : Boxed) (i : IndexFields) → IsIndexOf bytes i
    → ((codestream : List ℕ) (b : Boxed) → HoldsAt bytes codestream b → (done place ≡ done b) × (codestream ≡ slice_range bytes b.start b.end)) → Opened bytes place i
opened bytes place i is only =
    let o = only is.codestream i.place is.holds in
    let same : place ≡ i.place = ok_is place i.place o.0 in
    let here : is.codestream ≡ slice_range bytes place.start place.end = o.1 ∙ ap (λ (b : Boxed). slice_range bytes b.start b.end) (sym same) in
    let says = subst (λ (x : List ℕ). IsHeaders x i.headers) here is.says in
    record { same = same; says = says; begins = begins_main (slice_range bytes place.start place.end) says.tree says.spelled }

pub all_told : (bytes : List ℕ) (place : Boxed) (i : IndexFields) (h : Headers) (text : List ℕ) → index_at bytes ≡ Ok i → place ≡ i.place → h ≡ i.headers → text ≡ line_of i ++ lines_below bytes place h
    → all_at bytes ≡ Ok text
unfolding all_at
all_told bytes place i h text read same says is =
    rw read
    (ap (λ (x : List ℕ). Ok x) (ap (λ (b : Boxed). line_of i ++ lines_below bytes b i.headers) (sym same) ∙ ap (λ (x : Headers). line_of i ++ lines_below bytes place x) (sym says) ∙ sym is))
