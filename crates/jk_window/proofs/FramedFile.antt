-- The file of a window from what an index keeps is the file of the window; its lengths have their places.
use Rattle.std.proofs.Common.{◌≡◌, ℕ, ◌+◌, ◌-◌, ◌<◌, ◌≤◌, ◌^◌, Bool, true, false, cond, inl, inr, List, [], ◌∷◌, ◌++◌, length, length-append, map, take, drop, Some, Result, Ok, Err, append_assoc, refl, sym, ap, ◌∙◌, subst, arith}
use Rattle.std.specs.Prelude.{slice_get, sum_by}
use Rattle.std.specs.List.{AllByRecursion, flat_map}
use Rattle.std.proofs.lemmas.List.{append-nil, take_all, take_at, drop_at, drop_all, length-drop}
use Rattle.std.proofs.lemmas.List.Sums.{sum_by-cons}
use Rattle.std.proofs.lemmas.Option.{slice_get_within}
use Rattle.jk_math.specs.Steps.{guard_ended}
use Rattle.jk_math.specs.declared.fault.Fault.{Fault}
use Rattle.jk_math.specs.declared.fault.Fault.TheVariants.{Limit}
use Rattle.jk_math.specs.declared.rect.Rect.{Rect}
use Rattle.jk_marks.specs.declared.part_head.PartHead.{PartHead}
use Rattle.jk_marks.specs.declared.siz.Siz.{Siz}
use Rattle.jk_marks.specs.Markers.{tlm, eoc, marker_text}
use Rattle.jk_marks.specs.Siz.{tile_count}
use Rattle.jk_marks.specs.Codestream.{CodestreamPart, Tree, IsPart, AreParts, data_start, part_length, part_text, main_text, codestream_text}
use Rattle.jk_marks.specs.Copying.{kept_segments, part_with}
use Rattle.jk_marks.specs.PartHeads.{kept_text, head_of, part_head, psot_for, heads_text}
use Rattle.jk_marks.proofs.Laws.{head_is, heads-nil, heads-cons}
use Rattle.jk_boxes.specs.declared.boxes.Form.{Form}
use Rattle.jk_boxes.specs.declared.place.Boxed.{Boxed}
use Rattle.jk_boxes.specs.Boxes.{Box, IsJp2, HoldsAt, bare_place, jp2_place, head_size, head_text, code_kind, box_size, form_of}
use Rattle.jk_boxes.specs.Written.{fits_form, recoded}
use Rattle.jk_boxes.proofs.Laws.{place_again, in_file, recoded_there}
use Rattle.jk_params.specs.Headers.{Headers, tile_in, headers_of}
use Rattle.jk_params.proofs.Laws.{part_text_length, part_placed}
use Rattle.jk_walk.specs.TilePackets.{slice_of, shape_in}
use Rattle.jk_window.specs.declared.view.View.{View}
use Rattle.jk_window.specs.Emptied.{emptied_part}
use Rattle.jk_window.specs.Indexing.{IndexFields, IsIndexOf}
use Rattle.jk_window.specs.Cutting.{keeps, front_content, fronts_of, parts_text, cut_tree, with_codestream}
use Rattle.jk_window.specs.Planning.{part_from, part_size, framed, framed_size, around, headed, reboxed, front_of, made_of, Fits, IsHead, IsSound}
use Rattle.jk_window.proofs.BoxLaws.{recoded_fits}
use Rattle.jk_window.proofs.EmptiedLaws.{tile_short}
use Rattle.jk_window.proofs.FileLaws.{emptied_text_is, text_shorter}
use Rattle.jk_window.proofs.FrontFile.{short_parts}
use Rattle.jk_window.proofs.Lengths.{psot_shorter}
use Rattle.jk_window.proofs.PacketPlans.{take_front, part_is, part_sized}
use Rattle.jk_window.proofs.PartsAgain.{IsShort, parts_short}

headers_siz : (tree : Tree) → (headers_of tree).siz ≡ tree.siz
unfolding headers_of
headers_siz tree = refl

-- ---- tile-parts

heads_are : (content : ℕ → ℕ → List ℕ) (parts : List CodestreamPart) → heads_text (map head_of parts) (flat_map kept_text parts) content ≡ parts_text content parts
heads_are content [] = heads-nil [] content
heads_are content (p ∷ parts) =
    let h = head_of p in
    let own = kept_text p in
    let more = flat_map kept_text parts in
    let own-data = content p.tile p.number in
    let rest = heads_text (map head_of parts) more content in
    heads-cons h (map head_of parts) (own ++ more) content
    ∙ ap (λ (xs : List ℕ). part_head h xs (length own-data) ++ (own-data ++ heads_text (map head_of parts) (drop h.size (own ++ more)) content)) (take_at own more h.size refl)
    ∙ ap (λ (xs : List ℕ). part_head h own (length own-data) ++ (own-data ++ heads_text (map head_of parts) xs content)) (drop_at own more h.size refl)
    ∙ sym (append_assoc (part_head h own (length own-data)) own-data rest)
    ∙ ap (λ (xs : List ℕ). xs ++ rest) (head_is p own-data)
    ∙ ap (λ (xs : List ℕ). part_text (part_with p own-data) ++ xs) (heads_are content parts)

-- parts with the same data
parts_same : (siz : Siz) (a b : ℕ → ℕ → List ℕ) (parts : List CodestreamPart) → ((t n : ℕ) → t < tile_count siz → a t n ≡ b t n) → AllByRecursion (IsPart siz) parts → parts_text a parts ≡ parts_text b parts
parts_same siz a b [] same each = refl
parts_same siz a b (p ∷ parts) same each =
    ap (λ (xs : List ℕ). part_text (emptied_part (λ _ _. xs) p) ++ parts_text a parts) (same p.tile p.number each.0.tile)
    ∙ ap (λ (xs : List ℕ). part_text (emptied_part b p) ++ xs) (parts_same siz a b parts same each.1)

-- ---- the codestream

pub codestream_is : (bytes : List ℕ) (i : IndexFields) (is : IsIndexOf bytes i) (w : Rect) (v : View) → framed i.frame (part_from bytes i w v) ≡ codestream_text (cut_tree is w v)
codestream_is bytes i is w v =
    let tree = is.says.tree in
    let h = i.headers in
    let f = i.frame in
    let content = part_from bytes i w v in
    let due = front_content h (fronts_of h w v) is.runs in
    let siz : h.siz ≡ tree.siz = ap (λ (x : Headers). x.siz) is.says.says ∙ headers_siz tree in
    let same : (t n : ℕ) → t < tile_count tree.siz → content t n ≡ due t n = λ t n lt. part_is bytes i is w v t n (subst (λ (s : Siz). t < tile_count s) (sym siz) lt) in
    ap (λ (xs : List ℕ). xs ++ (heads_text f.heads f.segments content ++ marker_text eoc)) is.frame.main
    ∙ ap (λ (hs : List PartHead). main_text tree.siz (kept_segments tlm tree.segments) ++ (heads_text hs f.segments content ++ marker_text eoc)) is.frame.heads
    ∙ ap (λ (xs : List ℕ). main_text tree.siz (kept_segments tlm tree.segments) ++ (heads_text (map head_of tree.parts) xs content ++ marker_text eoc)) is.frame.segments
    ∙ ap (λ (xs : List ℕ). main_text tree.siz (kept_segments tlm tree.segments) ++ (xs ++ marker_text eoc)) (heads_are content tree.parts ∙ parts_same tree.siz content due tree.parts same is.says.spelled.parts.each)
    ∙ sym (emptied_text_is due tree)

-- ---- the file

reboxed_by : (place : Boxed) (form : Form) (size : ℕ) (bytes new : List ℕ)
    → reboxed place form size bytes new
    ≡ cond place.jp2 (cond (fits_form form (head_size form + length new)) (Ok (headed place form size bytes new)) (Err Limit)) (Ok (around place size bytes new))
unfolding reboxed
reboxed_by place form size bytes new = refl

front_bytes : (bytes : List ℕ) (n : ℕ) → slice_of bytes (0, n) ≡ take n bytes
front_bytes bytes n = let e : n - 0 ≡ n = omega arith in ap (λ k. take k bytes) e

rest_of : (bytes : List ℕ) (n size : ℕ) → size ≡ length bytes → slice_of bytes (n, size) ≡ drop n bytes
rest_of bytes n size e = take_all (size - n) (drop n bytes) (omega (arith, e, length-drop n bytes))

-- a bare codestream alone
around_is : (bytes new : List ℕ) (size : ℕ) → size ≡ length bytes → around (bare_place bytes) size bytes new ≡ new
around_is bytes new size e =
    let none : drop (length bytes) bytes ≡ [] = drop_all (length bytes) bytes (omega arith) in
    ap (λ (xs : List ℕ). new ++ xs) (rest_of bytes (length bytes) size e ∙ none) ∙ append-nil new

-- a JP2 file
jp2_reboxed : {bytes codestream : List ℕ} {place : Boxed} (j : IsJp2 bytes codestream) (size : ℕ) (new : List ℕ) → place ≡ jp2_place j → size ≡ length bytes → reboxed place j.code.form size bytes new ≡ recoded j new
jp2_reboxed {bytes} {codestream} {place} j size new at e =
    let form = j.code.form in
    let n = head_size form in
    let head = head_text form code_kind (n + length new) in
    let whole : headed place form size bytes new ≡ take (place.start - n) bytes ++ (head ++ (new ++ drop place.end bytes)) =
    ap (λ (xs : List ℕ). xs ++ (head ++ (new ++ slice_of bytes (place.end, size)))) (front_bytes bytes (place.start - n))
    ∙ ap (λ (xs : List ℕ). take (place.start - n) bytes ++ (head ++ (new ++ xs))) (rest_of bytes place.end size e) in
    reboxed_by place form size bytes new
    ∙ ap (λ b. cond b (cond (fits_form form (n + length new)) (Ok (headed place form size bytes new)) (Err Limit)) (Ok (around place size bytes new))) (ap (λ (b : Boxed). b.jp2) at)
    ∙ ap (λ (xs : List ℕ). cond (fits_form form (n + length new)) (Ok xs) (Err Limit)) whole
    ∙ sym (recoded_there j new at)

-- The file around another codestream, by the form and the place of its box.
reboxed_is : {bytes codestream : List ℕ} {place : Boxed} (holds : HoldsAt bytes codestream place) (form : Form) (size : ℕ) (new : List ℕ) → form ≡ form_of holds → size ≡ length bytes
    → reboxed place form size bytes new ≡ with_codestream holds new
reboxed_is {bytes} {codestream} {place} (inl bare) form size new own e =
    ap (λ (b : Boxed). reboxed b form size bytes new) bare.1
    ∙ reboxed_by (bare_place bytes) form size bytes new
    ∙ ap (λ (xs : List ℕ). Ok xs) (around_is bytes new size e)
reboxed_is {bytes} {codestream} {place} (inr jp2) form size new own e =
    ap (λ (f : Form). reboxed place f size bytes new) own ∙ jp2_reboxed jp2.0 size new jp2.1 e

-- The file of a window.
pub made_is : (bytes : List ℕ) (i : IndexFields) (is : IsIndexOf bytes i) (w : Rect) (v : View) → made_of bytes i w v ≡ with_codestream is.holds (codestream_text (cut_tree is w v))
made_is bytes i is w v =
    ap (reboxed i.place i.frame.form i.frame.size bytes) (codestream_is bytes i is w v)
    ∙ reboxed_is is.holds i.frame.form i.frame.size (codestream_text (cut_tree is w v)) is.frame.form is.frame.size

-- ---- what a plan asks of an index, whatever the bytes are

heads_in : (h : Headers) (tree : Tree) (front back : List CodestreamPart) → h ≡ headers_of tree → AreParts tree.siz tree.parts → tree.parts ≡ front ++ back → AllByRecursion (IsPart tree.siz) back → AllByRecursion (IsHead h) (map head_of back)
heads_in h tree front [] says are split each = tt
heads_in h tree front (p ∷ back) says are split each =
    let at = length (main_text tree.siz tree.segments) + length (flat_map part_text front) in
    let place = subst (λ (x : Headers). slice_get (tile_in x.tiles p.tile).data_places p.number ≡ Some (at + data_start p, at + part_length p)) (sym says) (part_placed tree at front p back are split each.0.tile refl) in
    let siz : h.siz ≡ tree.siz = ap (λ (x : Headers). x.siz) says ∙ headers_siz tree in
    let parts : tree.parts ≡ (front ++ p ∷ []) ++ back = split ∙ sym (append_assoc front (p ∷ []) back) in
    let here : IsHead h (head_of p) = record {
      tile = subst (λ (s : Siz). p.tile < tile_count s) (sym siz) each.0.tile;
      number = slice_get_within (tile_in h.tiles p.tile).data_places p.number (at + data_start p, at + part_length p) place;
    } in
    (here, heads_in h tree (front ++ p ∷ []) back says are parts each.1)

abbrev size_of : PartHead → ℕ
size_of h = h.size

segments_long : (parts : List CodestreamPart) → sum_by size_of (map head_of parts) ≡ length (flat_map kept_text parts)
segments_long [] = refl
segments_long (p ∷ parts) =
    let more = segments_long parts in
    omega (arith, more, sum_by-cons size_of (head_of p) (map head_of parts), length-append (kept_text p) (flat_map kept_text parts))

pub sound : (bytes : List ℕ) (i : IndexFields) (is : IsIndexOf bytes i) → IsSound i
sound bytes i is =
    let tree = is.says.tree in
    let frame = is.frame in
    let here = in_file is.holds in
    record {
      heads = subst (AllByRecursion (IsHead i.headers)) (sym frame.heads) (heads_in i.headers tree [] tree.parts is.says.says is.says.spelled.parts refl is.says.spelled.parts.each);
      segments = ap (λ (hs : List PartHead). sum_by size_of hs) frame.heads ∙ segments_long tree.parts ∙ ap (λ (xs : List ℕ). length xs) (sym frame.segments);
      order = here.order;
      within = subst (λ n. i.place.end ≤ n) (sym frame.size) here.within;
      box = λ e. subst (λ (k : Form). head_size k ≤ i.place.start) (sym frame.form) (here.box e);
    }

abbrev pub head_size_with : (ℕ → ℕ → ℕ) → PartHead → ℕ
head_size_with size h = 14 + h.size + size h.tile h.number

parts_sized : (siz : Siz) (size : ℕ → ℕ → ℕ) (content : ℕ → ℕ → List ℕ) (parts : List CodestreamPart) → ((t n : ℕ) → t < tile_count siz → size t n ≡ length (content t n)) → AllByRecursion (IsPart siz) parts
    → length (parts_text content parts) ≡ sum_by (head_size_with size) (map head_of parts)
parts_sized siz size content [] same each = refl
parts_sized siz size content (p ∷ parts) same each =
    let new = emptied_part content p in
    let more = parts_sized siz size content parts same each.1 in
    let here = same p.tile p.number each.0.tile in
    let sum = sum_by-cons (head_size_with size) (head_of p) (map head_of parts) in
    let long = part_text_length new in
    omega (arith, more, here, sum, long, length-append (part_text new) (parts_text content parts))

parts_fit : (siz : Siz) (size : ℕ → ℕ → ℕ) (content : ℕ → ℕ → List ℕ) (parts : List CodestreamPart) → ((t n : ℕ) → t < tile_count siz → size t n ≡ length (content t n)) → AllByRecursion (IsPart siz) parts
    → AllByRecursion (IsShort content) parts → AllByRecursion (λ h. psot_for h (size h.tile h.number) < 2 ^ 32) (map head_of parts)
parts_fit siz size content [] same each short = tt
parts_fit siz size content (p ∷ parts) same each short =
    let own = psot_shorter p (content p.tile p.number) short.0 in
    let fits = each.0.fits in
    let psot : psot_for (head_of p) (length (content p.tile p.number)) < 2 ^ 32 = omega (arith, own, fits) in
    (subst (λ n. psot_for (head_of p) n < 2 ^ 32) (sym (same p.tile p.number each.0.tile)) psot, parts_fit siz size content parts same each.1 short.1)

recoded_form : (bytes old new out : List ℕ) (j : IsJp2 bytes old) → recoded j new ≡ Ok out → fits_form j.code.form (head_size j.code.form + length new) ≡ true
unfolding recoded
recoded_form bytes old new out j e =
    let next : Box = record j.code { contents = new } in
    (guard_ended (fits_form next.form (box_size next)) Limit _ out e).0

box_fits : {bytes codestream : List ℕ} {place : Boxed} (holds : HoldsAt bytes codestream place) (new : List ℕ) → length new ≤ length codestream → fits_form (form_of holds) (head_size (form_of holds) + length new) ≡ true
box_fits (inl bare) new short = refl
box_fits {bytes} {codestream} (inr jp2) new short = let r = recoded_fits bytes codestream new jp2.0 short in recoded_form bytes codestream new r.0 jp2.0 r.1

-- the sizes of the data, by the index alone
sizes_are : (bytes : List ℕ) (i : IndexFields) (is : IsIndexOf bytes i) (w : Rect) (v : View) → (t n : ℕ) → t < tile_count is.says.tree.siz → part_size i w v t n ≡ length (front_content i.headers (fronts_of i.headers w v) is.runs t n)
sizes_are bytes i is w v t n lt =
    let siz : i.headers.siz ≡ is.says.tree.siz = ap (λ (x : Headers). x.siz) is.says.says ∙ headers_siz is.says.tree in
    part_sized bytes i is w v t n (subst (λ (s : Siz). t < tile_count s) (sym siz) lt)

-- How long the codestream is.
pub size_is : (bytes : List ℕ) (i : IndexFields) (is : IsIndexOf bytes i) (w : Rect) (v : View) → length (codestream_text (cut_tree is w v)) ≡ framed_size i.frame (part_size i w v)
size_is bytes i is w v =
    let tree = is.says.tree in
    let content = front_content i.headers (fronts_of i.headers w v) is.runs in
    let main = main_text tree.siz (kept_segments tlm tree.segments) in
    let size = part_size i w v in
    let all = parts_sized tree.siz size content tree.parts (sizes_are bytes i is w v) is.says.spelled.parts.each in
    let heads = ap (λ (hs : List PartHead). sum_by (head_size_with size) hs) is.frame.heads in
    let long = ap (λ (xs : List ℕ). length xs) is.frame.main in
    let text = ap (λ (xs : List ℕ). length xs) (emptied_text_is content tree) in
    let parts = parts_text content tree.parts in
    omega (arith, all, heads, long, text, length-append main (parts ++ marker_text eoc), length-append parts (marker_text eoc))

-- All lengths have their places.
pub fits : (bytes : List ℕ) (i : IndexFields) (is : IsIndexOf bytes i) (w : Rect) (v : View) → Fits i w v
fits bytes i is w v =
    let tree = is.says.tree in
    let h = i.headers in
    let f = i.frame in
    let c = is.codestream in
    let content = front_content h (fronts_of h w v) is.runs in
    let size = part_size i w v in
    let short = parts_short c h is.says is.runs content is.tiles (λ t n lt.
    (let x = tile_in h.tiles t in tile_short (keeps h w v t) (shape_in h.siz x t) x.cod.sop x.cod.eph (is.runs t) (map (slice_of c) x.data_places) n (is.tiles t lt).packets)) in
    let new = codestream_text (cut_tree is w v) in
    let shorter = text_shorter c h is.says content (short_parts content tree.parts short) in
    let box = box_fits is.holds new shorter in
    let here = (place_again bytes c i.place is.holds).1 in
    let own : length c ≤ i.place.end - i.place.start =
    subst (λ (x : List ℕ). length x ≤ i.place.end - i.place.start) (sym here) (take_front (i.place.end - i.place.start) (drop i.place.start bytes)) in
    record {
      parts = subst (AllByRecursion (λ (x : PartHead). psot_for x (size x.tile x.number) < 2 ^ 32)) (sym is.frame.heads) (parts_fit tree.siz size content tree.parts (sizes_are bytes i is w v) is.says.spelled.parts.each short);
      box =
          ap (λ (k : Form). fits_form k (head_size k + framed_size f size)) is.frame.form
          ∙ ap (λ n. fits_form (form_of is.holds) (head_size (form_of is.holds) + n)) (sym (size_is bytes i is w v))
          ∙ box;
      short = omega (arith, shorter, own, size_is bytes i is w v);
    }

-- ---- the whole

-- how long the codestream of a window is that an index makes
framed_long : (bytes : List ℕ) (i : IndexFields) (is : IsIndexOf bytes i) (w : Rect) (v : View) → length (framed i.frame (part_from bytes i w v)) ≡ framed_size i.frame (part_size i w v)
framed_long bytes i is w v = ap (λ (xs : List ℕ). length xs) (codestream_is bytes i is w v) ∙ size_is bytes i is w v

-- The file of a window, in its order.
pub made_by : (bytes : List ℕ) (i : IndexFields) (is : IsIndexOf bytes i) (w : Rect) (v : View) (n : ℕ) → n ≡ framed_size i.frame (part_size i w v)
    → made_of bytes i w v ≡ Ok (front_of i n bytes ++ (framed i.frame (part_from bytes i w v) ++ slice_of bytes (i.place.end, i.frame.size)))
made_by bytes i is w v n e =
    let new = framed i.frame (part_from bytes i w v) in
    let form = i.frame.form in
    let behind = new ++ slice_of bytes (i.place.end, i.frame.size) in
    let long : length new ≡ n = framed_long bytes i is w v ∙ sym e in
    let fit : fits_form form (head_size form + n) ≡ true = ap (λ k. fits_form form (head_size form + k)) e ∙ (fits bytes i is w v).box in
    reboxed_by i.place form i.frame.size bytes new
    ∙ ap (λ k. cond i.place.jp2 (cond (fits_form form (head_size form + k)) (Ok (slice_of bytes (0, i.place.start - head_size form) ++ (head_text form code_kind (head_size form + k) ++ behind))) (Err Limit)) (Ok (around i.place i.frame.size bytes new))) long
    ∙ ap (λ b. cond i.place.jp2 (cond b (Ok (slice_of bytes (0, i.place.start - head_size form) ++ (head_text form code_kind (head_size form + n) ++ behind))) (Err Limit)) (Ok (around i.place i.frame.size bytes new))) fit
    ∙ by i.place.jp2
  where
    by : (b : Bool)
        → cond {A = Result (List ℕ) Fault} b (Ok (slice_of bytes (0, i.place.start - head_size i.frame.form) ++ (head_text i.frame.form code_kind (head_size i.frame.form + n) ++ (framed i.frame (part_from bytes i w v) ++ slice_of bytes (i.place.end, i.frame.size)))))
        (Ok (around i.place i.frame.size bytes (framed i.frame (part_from bytes i w v))))
        ≡ Ok (cond b (slice_of bytes (0, i.place.start - head_size i.frame.form) ++ head_text i.frame.form code_kind (head_size i.frame.form + n)) (slice_of bytes (0, i.place.start)) ++ (framed i.frame (part_from bytes i w v) ++ slice_of bytes (i.place.end, i.frame.size)))
    by true = ap (λ (xs : List ℕ). Ok xs) (sym (append_assoc (slice_of bytes (0, i.place.start - head_size i.frame.form)) (head_text i.frame.form code_kind (head_size i.frame.form + n)) (framed i.frame (part_from bytes i w v) ++ slice_of bytes (i.place.end, i.frame.size))))
    by false = refl
