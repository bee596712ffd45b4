-- What is read of a file is its index, and an index is read.
use Rattle.std.proofs.Common.{◌≡◌, ℕ, zero, suc, ◌+◌, ◌-◌, ◌<◌, ◌≤◌, eqb, cond, true, false, inl, inr, List, [], ◌∷◌, ◌++◌, length, length-append, take, drop, Result, Ok, Err, add-one, refl, sym, ap, ◌∙◌, subst, arith}
use Rattle.std.specs.Prelude.{slice_range}
use Rattle.std.proofs.Math.Seq.{take-suc}
use Rattle.std.proofs.lemmas.Bool.{cases_lt, cases_Bool, eqb-true, eq-eqb}
use Rattle.std.proofs.lemmas.List.{take_all, get_or_append_left, get_or_push, length-take-le, length-drop}
use Rattle.jk_math.specs.Answer.{◌>>=◌, Refuses}
use Rattle.jk_math.specs.Steps.{bind_then, ok_is}
use Rattle.jk_math.specs.declared.fault.Fault.{Fault}
use Rattle.jk_math.specs.declared.fault.Fault.TheVariants.{Memory}
use Rattle.jk_math.proofs.Laws.{AreBytes, are_bytes_after, are_bytes_taken}
use Rattle.jk_marks.specs.declared.main_header.Main.{Main}
use Rattle.jk_marks.specs.Siz.{tile_count}
use Rattle.jk_marks.specs.Codestream.{main_text, main_of}
use Rattle.jk_marks.specs.HeaderReading.{main_at}
use Rattle.jk_marks.proofs.Laws.{only_main, begins_main}
use Rattle.jk_boxes.specs.declared.place.Boxed.{Boxed}
use Rattle.jk_boxes.specs.declared.boxes.Form.{Form}
use Rattle.jk_boxes.specs.Boxes.{HoldsCodestream, HoldsAt, bare_place, jp2_place, form_of}
use Rattle.jk_boxes.specs.Reading.{boxes_at, form_at}
use Rattle.jk_boxes.proofs.Laws.{boxes_take, place_again, form_found, in_file}
use Rattle.jk_params.specs.Headers.{Headers, cod_for, AreHeaders}
use Rattle.jk_params.specs.HeadersReading.{headers_at}
use Rattle.jk_params.proofs.Laws.{found_headers, only_headers, sound_headers}
use Rattle.jk_walk.specs.declared.entries.PacketEntry.{PacketEntry}
use Rattle.jk_walk.specs.TilePackets.{Packet}
use Rattle.jk_walk.specs.WalkReading.{AreTilePackets}
use Rattle.jk_walk.specs.Entries.{entries_at}
use Rattle.jk_walk.proofs.Laws.{entries_found, entries_only, entries_within}
use Rattle.jk_window.specs.Framing.{Frame, frame_at}
use Rattle.jk_window.proofs.FramingLaws.{frame_found, frame_only}
use Rattle.jk_window.specs.Indexing.{IndexFields, entries_of, AreIndexed, HasRuns, IsIndexOf, IsIndex, HaveIndexes, entries_upto, fields_at, index_at}

-- ---- the entries of all tiles

-- those of one tile more
abbrev pub one_more : List ℕ → Headers → ℕ → Result (List (List PacketEntry)) Fault → Result (List (List PacketEntry)) Fault
one_more bytes h n read = read >>= λ before. entries_at bytes h n >>= λ last. Ok (before ++ last ∷ [])

upto-next : (bytes : List ℕ) (h : Headers) (n : ℕ) → entries_upto bytes h (suc n) ≡ one_more bytes h n (entries_upto bytes h n)
unfolding entries_upto
upto-next bytes h n = refl

pub upto_none : (bytes : List ℕ) (h : Headers) → entries_upto bytes h 0 ≡ Ok []
unfolding entries_upto
upto_none bytes h = refl

pub upto_more : (bytes : List ℕ) (h : Headers) (n : ℕ) (all : List (List PacketEntry)) (last : List PacketEntry) → entries_upto bytes h n ≡ Ok all → entries_at bytes h n ≡ Ok last → entries_upto bytes h (n + 1) ≡ Ok (all ++ last ∷ [])
upto_more bytes h n all last e f = ap (entries_upto bytes h) (add-one n) ∙ upto-next bytes h n ∙ rw (e, f) refl

-- a fault is the first
pub upto_fails : (bytes : List ℕ) (h : Headers) (n t : ℕ) (e : Fault) (all : List (List PacketEntry)) → t < n → entries_upto bytes h t ≡ Ok all → entries_at bytes h t ≡ Err e → entries_upto bytes h n ≡ Err e
upto_fails bytes h zero t e all lt before here = absurd (omega (arith, lt))
upto_fails bytes h (suc n) t e all lt before here = elim (cases_lt t n) [
  | inl less ↦ upto-next bytes h n ∙ ap (one_more bytes h n) (upto_fails bytes h n t e all less before here)
  | inr none ↦ (let same : t ≡ n = omega (arith, lt, none) in
      let first : entries_upto bytes h n ≡ Ok all = ap (entries_upto bytes h) (sym same) ∙ before in
      let fault : entries_at bytes h n ≡ Err e = ap (entries_at bytes h) (sym same) ∙ here in
      upto-next bytes h n ∙ rw (first, fault) refl)
]

-- The lists of the first n tiles.
pub record AreUpto (bytes : List ℕ) (h : Headers) (n : ℕ) (all : List (List PacketEntry)) : Type 0 where
  pub count : length all ≡ n
  pub each : (t : ℕ) → t < n → entries_at bytes h t ≡ Ok (entries_of all t)

upto_push : (bytes : List ℕ) (h : Headers) (n : ℕ) (all : List (List PacketEntry)) (last : List PacketEntry) → AreUpto bytes h n all → entries_at bytes h n ≡ Ok last → AreUpto bytes h (suc n) (all ++ last ∷ [])
upto_push bytes h n all last before here = record {
  count = omega (arith, before.count, length-append all (last ∷ []));
  each = λ t lt. elim (cases_lt t n) [
    | inl less ↦ before.each t less ∙ ap (λ (es : List PacketEntry). Ok es) (sym (get_or_append_left all (last ∷ []) [] t (omega (arith, less, before.count))))
    | inr none ↦ (let same : n ≡ t = omega (arith, lt, none) in
        ap (entries_at bytes h) (sym same) ∙ here ∙ ap (λ (es : List PacketEntry). Ok es) (sym (get_or_push all last [] t (before.count ∙ same))))
  ];
}

-- what is read are the lists of the tiles
pub upto_found : (bytes : List ℕ) (h : Headers) (n : ℕ) (all : List (List PacketEntry)) → entries_upto bytes h n ≡ Ok all → AreUpto bytes h n all
upto_found bytes h zero all e = subst (AreUpto bytes h 0) (ok_is [] all (sym (upto_none bytes h) ∙ e)) record { count = refl; each = λ t lt. absurd (omega (arith, lt)) }
upto_found bytes h (suc n) all e =
    bind_then (entries_upto bytes h n) _ all (sym (upto-next bytes h n) ∙ e) (λ before read f.
    bind_then (entries_at bytes h n) _ all f (λ last here g.
    subst (AreUpto bytes h (suc n)) (ok_is (before ++ last ∷ []) all g) (upto_push bytes h n before last (upto_found bytes h n before read) here)))

-- the lists of the tiles are read
upto_front : (bytes : List ℕ) (h : Headers) (n : ℕ) (all : List (List PacketEntry)) → n ≤ length all → ((t : ℕ) → t < n → entries_at bytes h t ≡ Ok (entries_of all t)) → entries_upto bytes h n ≡ Ok (take n all)
upto_front bytes h zero all le each = upto_none bytes h
upto_front bytes h (suc n) all le each =
    upto-next bytes h n
    ∙ rw (upto_front bytes h n all (omega (arith, le)) (λ t lt. each t (omega (arith, lt))), each n (omega arith)) refl
    ∙ ap (λ (es : List (List PacketEntry)). Ok es) (sym (take-suc all n [] (omega (arith, le))))

pub upto_only : (bytes : List ℕ) (h : Headers) (n : ℕ) (all : List (List PacketEntry)) → length all ≡ n → ((t : ℕ) → t < n → entries_at bytes h t ≡ Ok (entries_of all t)) → entries_upto bytes h n ≡ Ok all
upto_only bytes h n all count each =
    upto_front bytes h n all (omega (arith, count)) each ∙ ap (λ (es : List (List PacketEntry)). Ok es) (take_all n all (omega (arith, count)))

-- lists of tiles that are known one by one
upto_each : (bytes : List ℕ) (h : Headers) (n : ℕ) → ((t : ℕ) → t < n → (entries : List PacketEntry) × (entries_at bytes h t ≡ Ok entries)) → (all : List (List PacketEntry)) × AreUpto bytes h n all
upto_each bytes h zero known = ([], record { count = refl; each = λ t lt. absurd (omega (arith, lt)) })
upto_each bytes h (suc n) known =
    let before = upto_each bytes h n (λ t lt. known t (omega (arith, lt))) in
    let last = known n (omega arith) in
    (before.0 ++ last.0 ∷ [], upto_push bytes h n before.0 last.0 before.1 last.1)

-- the entries that are read lie in the codestream
pub entries_indexed : (bytes : List ℕ) (h : Headers) (all : List (List PacketEntry)) → AreHeaders (length bytes) h → entries_upto bytes h (tile_count h.siz) ≡ Ok all → AreIndexed (length bytes) h all
entries_indexed bytes h all are e =
    let found = upto_found bytes h (tile_count h.siz) all e in
    record { headers = are; count = found.count; each = λ t lt. entries_within bytes h t (entries_of all t) are lt (found.each t lt) }

-- ---- a function of the numbers below n

picked : {X : Type 0} (d : X) (P : ℕ → X → Type 0) (n : ℕ) → ((t : ℕ) → t < n → (x : X) × P t x) → (f : ℕ → X) × ((t : ℕ) → t < n → P t (f t))
picked d P zero all = (λ t. d, λ t lt. absurd (omega (arith, lt)))
picked {X} d P (suc n) all =
    let before = picked d P n (λ t lt. all t (omega (arith, lt))) in
    let last = all n (omega arith) in
    let f : ℕ → X = λ t. cond (eqb t n) last.0 (before.0 t) in (
      f,
      λ t lt. elim (cases_Bool (eqb t n)) [
        | inl same ↦ subst (λ (x : X). P t x) (sym (ap (λ b. cond b last.0 (before.0 t)) same)) (subst (λ k. P k last.0) (sym (eqb-true t n same)) last.1)
        | inr other ↦ (let less : t < n = (let ne : t ≡ n → ⊥ = λ e. absurd (let clash : true ≡ false = sym (eq-eqb t n e) ∙ other in cc) in grind (arith, lt, ne)) in
            subst (λ (x : X). P t x) (sym (ap (λ b. cond b last.0 (before.0 t)) other)) (before.1 t less))
      ],
    )

-- ---- an index

-- the runs of a tile whose packets are read
runs_found : (bytes : List ℕ) (h : Headers) (t : ℕ) (entries : List PacketEntry) → AreHeaders (length bytes) h → t < tile_count h.siz → entries_at bytes h t ≡ Ok entries → (runs : List (List Packet)) × HasRuns bytes h t runs
runs_found bytes h t entries are lt e =
    let found = entries_found bytes h t entries are lt e in
    let tile = found.1 in
    (tile.runs, record { packets = subst (AreTilePackets bytes h t) (sym tile.whole) tile; cut = tile.cut })

pub found_fields : (bytes codestream : List ℕ) (place : Boxed) (form : Form) (i : IndexFields) → AreBytes bytes → boxes_at bytes ≡ Ok place → form_at bytes ≡ Ok form → codestream ≡ slice_range bytes place.start place.end
    → fields_at place form (length bytes) codestream ≡ Ok i → IsIndexOf bytes i
unfolding fields_at
found_fields bytes codestream place form i fits opened told here e =
    let o = boxes_take bytes place fits opened in
    let own : AreBytes codestream = subst AreBytes (sym here) (are_bytes_taken (place.end - place.start) (drop place.start bytes) (are_bytes_after place.start bytes fits)) in
    bind_then (main_at codestream) _ i e (λ m read e.
    bind_then (headers_at codestream) _ i e (λ h s e.
    bind_then (entries_upto codestream h (tile_count h.siz)) _ i e (λ all kept e.
    let is = found_headers codestream h own s in
    let sound = sound_headers codestream h is in
    let tree = is.tree in
    let again = only_main codestream tree.siz tree.segments is.spelled.header (begins_main codestream tree is.spelled) in
    let same : m ≡ (main_of tree.siz tree.segments, length (main_text tree.siz tree.segments)) = ok_is m (main_of tree.siz tree.segments, length (main_text tree.siz tree.segments)) (sym read ∙ again) in
    let are = upto_found codestream h (tile_count h.siz) all kept in
    let runs = picked [] (HasRuns codestream h) (tile_count h.siz) (λ t lt. runs_found codestream h t (entries_of all t) sound lt (are.each t lt)) in
    let made : IndexFields = record { place = place; layers = m.0.cod.layers; order = m.0.cod.order; headers = h; packets = all; frame = frame_at codestream h form (length bytes) } in
    let holds : HoldsAt bytes codestream place = subst (λ (c : List ℕ). HoldsAt bytes c place) (sym here) o.at in
    let own_form : form ≡ form_of holds = ok_is form (form_of holds) (sym told ∙ form_found holds) in
    let index : IsIndexOf bytes made = record {
      codestream = codestream;
      holds = holds;
      says = is;
      layers = ap (λ (x : Main × ℕ). x.0.cod.layers) same;
      order = ap (λ (x : Main × ℕ). x.0.cod.order) same;
      runs = runs.0;
      tiles = runs.1;
      count = are.count;
      kept = are.each;
      frame = frame_found holds h is form (length bytes) own_form refl;
    } in
    subst (IsIndexOf bytes) (ok_is made i e) index)))

-- What is read of a file is its index.
pub index_found : (bytes : List ℕ) (i : IndexFields) → AreBytes bytes → index_at bytes ≡ Ok i → IsIndexOf bytes i
unfolding index_at
index_found bytes i fits e =
    bind_then (boxes_at bytes) _ i e (λ place opened e.
    bind_then (form_at bytes) _ i e (λ form told e.
    found_fields bytes (slice_range bytes place.start place.end) place form i fits opened told refl e))

placed : (bytes codestream : List ℕ) → HoldsCodestream bytes codestream → (place : Boxed) × HoldsAt bytes codestream place
placed bytes codestream (inl bare) = (bare_place bytes, inl (bare, refl))
placed bytes codestream (inr jp2) = (jp2_place jp2, inr (jp2, refl))

-- What can be read has an index.
pub has_index : HaveIndexes
has_index bytes codestream h holds says all =
    let place = placed bytes codestream holds in
    let runs = picked [] (HasRuns codestream h) (tile_count h.siz) (λ t lt. let p = all t lt in
    (p.1.runs, record { packets = subst (AreTilePackets codestream h t) (sym p.1.whole) p.1; cut = p.1.cut })) in
    let sound = sound_headers codestream h says in
    let entries = upto_each codestream h (tile_count h.siz) (λ t lt. let p = all t lt in let only = entries_only codestream h t p.0 sound lt p.1 in (only.0, only.1)) in
    let cod = cod_for says.tree.segments [] in (
      record { place = place.0; layers = cod.layers; order = cod.order; headers = h; packets = entries.0; frame = frame_at codestream h (form_of place.1) (length bytes) },
      record {
        codestream = codestream;
        holds = place.1;
        says = says;
        layers = refl;
        order = refl;
        runs = runs.0;
        tiles = runs.1;
        count = entries.1.count;
        kept = entries.1.each;
        frame = frame_found place.1 h says (form_of place.1) (length bytes) refl refl;
      },
    )

only_fields : (bytes : List ℕ) (i : IndexFields) → (is : IsIndexOf bytes i) → fields_at i.place (form_of is.holds) (length bytes) is.codestream ≡ Ok i
unfolding fields_at
only_fields bytes i is =
    let h = i.headers in
    let tree = is.says.tree in
    let main = only_main is.codestream tree.siz tree.segments is.says.spelled.header (begins_main is.codestream tree is.says.spelled) in
    let headers = only_headers is.codestream h is.says in
    let kept = upto_only is.codestream h (tile_count h.siz) i.packets is.count is.kept in
    let cod = cod_for tree.segments [] in
    let found = frame_at is.codestream h (form_of is.holds) (length bytes) in
    let frame : found ≡ i.frame = frame_only is.holds tree found i.frame (frame_found is.holds h is.says (form_of is.holds) (length bytes) refl refl) is.frame in
    rw (main, headers, kept) (λ j. Ok record { place = i.place; layers = sym is.layers j; order = sym is.order j; headers = h; packets = i.packets; frame = frame j })

-- An index of a file is read.
pub index_only : (bytes : List ℕ) (i : IndexFields) → IsIndexOf bytes i → index_at bytes ≡ Ok i
unfolding index_at
index_only bytes i is =
    let p = place_again bytes is.codestream i.place is.holds in
    rw (p.0, form_found is.holds) (ap (fields_at i.place (form_of is.holds) (length bytes)) (sym p.1) ∙ only_fields bytes i is)

-- the codestream is as long as its place
pub index_long : (bytes : List ℕ) (i : IndexFields) → (is : IsIndexOf bytes i) → AreHeaders (length is.codestream) i.headers
index_long bytes i is = sound_headers is.codestream i.headers is.says

-- What an index has lies in the codestream of its file.
pub index_kept : (bytes : List ℕ) (i : IndexFields) → IsIndexOf bytes i → IsIndex i
index_kept bytes i is =
    let c = is.codestream in
    let p = place_again bytes c i.place is.holds in
    let there = in_file is.holds in
    let order = there.order in
    let inside = there.within in
    let long : length c ≡ i.place.end - i.place.start =
    ap (λ (xs : List ℕ). length xs) p.1 ∙ length-take-le (i.place.end - i.place.start) (drop i.place.start bytes) (omega (arith, order, inside, length-drop i.place.start bytes)) in
    record {
      within = subst (λ n. AreIndexed n i.headers i.packets) long
          (entries_indexed c i.headers i.packets (sound_headers c i.headers is.says) (upto_only c i.headers (tile_count i.headers.siz) i.packets is.count is.kept));
      bytes = bytes;
      indexes = is;
    }

-- a refusal of one due is a refusal of another
pub refuses_on : {A B : Type 0} (e : Fault) (due : Result A Fault) (again : Result B Fault) → Refuses e due → (due ≡ Err e → again ≡ Err e) → Refuses e again
refuses_on (Memory r) due again h on = tt
refuses_on e due again h on = on h

pub fields_fail : (place : Boxed) (form : Form) (size : ℕ) (codestream : List ℕ) (m : Main × ℕ) (h : Headers) (e : Fault) → Ok m ≡ main_at codestream → headers_at codestream ≡ Ok h → entries_upto codestream h (tile_count h.siz) ≡ Err e
    → fields_at place form size codestream ≡ Err e
unfolding fields_at
fields_fail place form size codestream m h e main headers kept = rw (sym main, headers, kept) refl

-- the index of a file, once all of it is read
pub fields_ok : (place : Boxed) (form : Form) (size : ℕ) (codestream : List ℕ) (m : Main × ℕ) (h : Headers) (all : List (List PacketEntry)) (f : Frame) → Ok m ≡ main_at codestream → headers_at codestream ≡ Ok h
    → entries_upto codestream h (tile_count h.siz) ≡ Ok all → f ≡ frame_at codestream h form size
    → fields_at place form size codestream ≡ Ok (record { place = place; layers = m.0.cod.layers; order = m.0.cod.order; headers = h; packets = all; frame = f })
unfolding fields_at
fields_ok place form size codestream m h all f main headers kept around =
    rw (sym main, headers, kept) (λ j. Ok (record { place = place; layers = m.0.cod.layers; order = m.0.cod.order; headers = h; packets = all; frame = sym around j }))
