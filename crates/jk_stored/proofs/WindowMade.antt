-- The codestream that is made shows on the window what the stored codestream shows.
use Rattle.std.proofs.Common.{◌≡◌, ℕ, zero, suc, ◌+◌, ◌<◌, Bool, true, false, not, cond, eqb, inl, inr, List, [], ◌∷◌, ◌++◌, length, map, drop, get_or, Ok, Result, refl, sym, ap, ◌∙◌, subst, arith, append-nil}
use Rattle.std.specs.Prelude.{slice_range, ◌&&◌, nat_le}
use Rattle.std.specs.List.{flat_map, list_all, AllZip, zip, range_with_len}
use Rattle.std.proofs.lemmas.Bool.{cases_Bool, eq-eqb, eqb-true}
use Rattle.std.proofs.lemmas.List.{drop_at, length-map}
use Rattle.std.proofs.lemmas.List.FromFn.{get_or-map-range_with_len, length-range_with_len}
use Rattle.jk_math.specs.Answer.{◌>>=◌, refuse}
use Rattle.jk_math.specs.declared.fault.Fault.{Fault}
use Rattle.jk_math.specs.declared.fault.Fault.TheVariants.{BadWindow}
use Rattle.jk_math.specs.declared.rect.Rect.{Rect}
use Rattle.jk_marks.specs.declared.siz.Siz.{Siz}
use Rattle.jk_marks.specs.declared.coding.Coding.{Coding}
use Rattle.jk_marks.specs.Markers.{tlm, eoc, marker_text}
use Rattle.jk_marks.specs.Siz.{tile_count}
use Rattle.jk_marks.specs.Copying.{kept_segments, main_kept_at}
use Rattle.jk_marks.specs.PartHeads.{kept_text, head_of}
use Rattle.jk_marks.specs.Codestream.{Tree, part_text, main_text, codestream_text}
use Rattle.jk_marks.proofs.Laws.{begins_main, main_kept}
use Rattle.jk_boxes.specs.declared.boxes.Form.TheVariants.{Open}
use Rattle.jk_boxes.specs.declared.place.Boxed.{Boxed}
use Rattle.jk_boxes.specs.Boxes.{soc, IsBare, HoldsAt, bare_place}
use Rattle.jk_boxes.specs.Reading.{boxes_at}
use Rattle.jk_boxes.proofs.Laws.{place_again}
use Rattle.jk_geom.specs.declared.shape.PacketName.{PacketName}
use Rattle.jk_geom.specs.Rectangles.{is_empty}
use Rattle.jk_geom.specs.Partitions.{image_area, reduced_area}
use Rattle.jk_order.specs.PacketOrder.{order}
use Rattle.jk_order.proofs.Laws.{order_is, order_one}
use Rattle.jk_packet.specs.PacketText.{eph_text}
use Rattle.jk_params.specs.Headers.{Headers, tile_in, headers_of, cod_for, IsHeaders}
use Rattle.jk_params.specs.Levels.{holds_below}
use Rattle.jk_params.proofs.Laws.{sound_headers}
use Rattle.jk_walk.specs.declared.entries.PacketEntry.{PacketEntry}
use Rattle.jk_walk.specs.TilePackets.{slice_of, shape_in, Packet}
use Rattle.jk_walk.specs.WalkReading.{AreTilePackets}
use Rattle.jk_walk.specs.Sop.{sop_written}
use Rattle.jk_walk.specs.Entries.{entries_at, IsEntered}
use Rattle.jk_walk.proofs.Laws.{entries_found}
use Rattle.jk_window.specs.declared.view.View.{View}
use Rattle.jk_window.specs.Again.{AreAlike}
use Rattle.jk_window.specs.Views.{have_levels, has_levels, window_in, area_at, window_at}
use Rattle.jk_window.specs.Emptied.{emptied_packet, kept_packet, emptied_run, run_text}
use Rattle.jk_window.specs.Indexing.{IndexFields, IsIndexOf, HasRuns}
use Rattle.jk_window.specs.Cutting.{front_content, fronts_of, keeps, cut_tree, cut_file, parts_text}
use Rattle.jk_window.proofs.FileLaws.{emptied_text_is}
use Rattle.jk_code.specs.ViewReading.{image_view_at, meaning_view_at}
use Rattle.jk_code.specs.Windows.{in_all_layers}
use Rattle.jk_code.proofs.ViewAgain.{window_kept}
use Rattle.jk_stored.specs.Outlines.{Front, outline, size_of}
use Rattle.jk_stored.specs.Contents.{packet_of}
use Rattle.jk_stored.specs.Making.{Made, made_text, IsMade, Shows, AreMade}
use Rattle.jk_stored.proofs.OutlineHeaders.{IsOutlined, whole_tree, whole_headers, outline_aligned, text_split, alike, head_grown, numbers_grown, count_same, parts_grown, siz_is}
use Rattle.jk_stored.proofs.MadeTiles.{made_of_parts, made_are}
use Rattle.jk_stored.proofs.MadeEntries.{IsKnown, AreKnown, all_known, known_at}

-- ---- the area of a view

holds_alike : (f g : ℕ → Bool) (n : ℕ) → ((t : ℕ) → t < n → f t ≡ g t) → holds_below f n ≡ holds_below g n
unfolding holds_below
holds_alike f g zero same = refl
holds_alike f g (suc n) same = λ i. holds_alike f g n (λ t lt. same t (omega (arith, lt))) i && same n (omega arith) i

levels_same : (g h : Headers) (d : ℕ) → AreAlike g h → have_levels g d ≡ have_levels h d
levels_same g h d is =
    ap (λ (s : Siz). holds_below (λ t. has_levels d (tile_in g.tiles t)) (tile_count s)) is.siz
    ∙ holds_alike (λ t. has_levels d (tile_in g.tiles t)) (λ t. has_levels d (tile_in h.tiles t)) (tile_count h.siz) (λ t lt. ap (λ (ks : List Coding). list_all (λ (k : Coding). nat_le d k.levels) ks) (is.codings t lt))

abbrev area_by : Bool → Siz → View → Result Rect Fault
area_by levels siz v =
    refuse (not levels) BadWindow
    >>= λ _. refuse (is_empty (reduced_area (image_area siz) v.reduce)) BadWindow
    >>= λ _. refuse (is_empty (window_in (reduced_area (image_area siz) v.reduce) v)) BadWindow
    >>= λ _. Ok (window_in (reduced_area (image_area siz) v.reduce) v)

area_is : (h : Headers) (v : View) → area_at h v ≡ area_by (have_levels h v.reduce) h.siz v
unfolding area_at
area_is h v = refl

area_same : (g h : Headers) (v : View) → AreAlike g h → area_at g v ≡ area_at h v
area_same g h v is = area_is g v ∙ (λ i. area_by (levels_same g h v.reduce is i) (is.siz i) v) ∙ sym (area_is h v)

window_all : (h : Headers) (v : View) → window_at h (in_all_layers v) ≡ area_at h v
unfolding window_at area_at
window_all h v = refl

-- ---- the data of a tile

packet_kept : (c : List ℕ) (keep : PacketName → Bool) (sop eph : Bool) (p : Packet) (n : PacketName) (e : PacketEntry) → p.name ≡ n → IsEntered c sop p e → packet_of c keep eph (n, e) ≡ (kept_packet keep sop eph p).text
packet_kept c keep sop eph p n e named is = by (keep n) refl
  where
    by : (b : Bool) → keep n ≡ b → cond b (slice_of c (e.start, e.end)) (sop_written e.counter ++ (0 ∷ eph_text eph)) ≡ (kept_packet keep sop eph p).text
    by true k = is.text ∙ ap (λ b. (cond b p (emptied_packet sop eph p)).text) (sym (ap keep named ∙ k))
    by false k = ap (λ (xs : List ℕ). xs ++ (0 ∷ eph_text eph)) is.counter ∙ ap (λ b. (cond b p (emptied_packet sop eph p)).text) (sym (ap keep named ∙ k))

packets_kept : (c : List ℕ) (keep : PacketName → Bool) (sop eph : Bool) (packets : List Packet) (names : List PacketName) (entries : List PacketEntry) → map (λ (p : Packet). p.name) packets ≡ names → AllZip (IsEntered c sop) packets entries
    → flat_map (packet_of c keep eph) (zip names entries) ≡ run_text (emptied_run keep sop eph packets)
packets_kept c keep sop eph [] [] [] e all = refl
packets_kept c keep sop eph [] [] (x ∷ entries) e all = absurd all
packets_kept c keep sop eph [] (n ∷ names) entries e all = absurd cc
packets_kept c keep sop eph (p ∷ packets) [] entries e all = absurd cc
packets_kept c keep sop eph (p ∷ packets) (n ∷ names) [] e all = absurd all
packets_kept c keep sop eph (p ∷ packets) (n ∷ names) (x ∷ entries) e all =
    let first : p.name ≡ n = cc in
    let rest : map (λ (q : Packet). q.name) packets ≡ names = cc in
    λ i. packet_kept c keep sop eph p n x first all.0 i ++ packets_kept c keep sop eph packets names entries rest all.1 i

-- one run, where there is one part
one_run : (c : List ℕ) (packets : List Packet) (runs : List (List Packet)) (part : ℕ × ℕ) → flat_map (λ (run : List Packet). run) runs ≡ packets → map (λ (run : List Packet). flat_map (λ (p : Packet). p.text) run) runs ≡ slice_of c part ∷ []
    → run_text packets ∷ [] ≡ slice_of c part ∷ []
one_run c packets [] part whole cut = absurd cc
one_run c packets (run ∷ []) part whole cut = ap (λ (ps : List Packet). run_text ps ∷ []) (sym whole ∙ append-nil run) ∙ cut
one_run c packets (run ∷ (more ∷ runs)) part whole cut = absurd cc

-- The packets of a tile, and what is made of them.
pub record HasPackets (c : List ℕ) (g : Headers) (w : Rect) (v : View) (t : ℕ) (text : List ℕ) (x : List PacketEntry × List Packet) : Type 0 where
  pub read : entries_at c g t ≡ Ok x.0
  pub runs : HasRuns c g t (x.1 ∷ [])
  pub content : text ≡ run_text (emptied_run (keeps g w (in_all_layers v) t) (tile_in g.tiles t).cod.sop (tile_in g.tiles t).cod.eph x.1)

has_packets : (c : List ℕ) (g h : Headers) (w : Rect) (v : View) (t : ℕ) (m : Made) → IsHeaders c g → t < tile_count g.siz → IsKnown c g h w v.reduce t m → (x : List PacketEntry × List Packet) × HasPackets c g w v t m.content x
has_packets c g h w v t m is lt known =
    let f = tile_in g.tiles t in
    let s = shape_in g.siz f t in
    let sound = sound_headers c g is in
    let found = entries_found c g t known.entries sound lt known.read in
    let packets = found.0 in
    let tile = found.1 in
    let cut = tile.cut ∙ ap (map (slice_of c)) known.place in
    let named = order_one s (map (λ (p : Packet). p.name) packets) (order s) tile.order (order_is s) in (
      (known.entries, packets),
      record {
        read = known.read;
        runs = record {
          packets = subst (AreTilePackets c g t) (sym (append-nil packets)) tile;
          cut = one_run c packets tile.runs known.part tile.whole cut ∙ sym (ap (map (slice_of c)) known.place);
        };
        content = known.content ∙ packets_kept c (keeps g w (in_all_layers v) t) f.cod.sop f.cod.eph packets (order s) known.entries named found.2;
      },
    )

-- ---- a function of the numbers below n

picked : {X : Type 0} (d : X) (P : ℕ → X → Type 0) (n : ℕ) → ((t : ℕ) → t < n → (x : X) × P t x) → (f : ℕ → X) × ((t : ℕ) → t < n → P t (f t))
picked d P zero all = (λ t. d, λ t lt. absurd (omega (arith, lt)))
picked {X} d P (suc n) all =
    let before = picked d P n (λ t lt. all t (omega (arith, lt))) in
    let last = all n (omega arith) in
    let f : ℕ → X = λ t. cond (eqb t n) last.0 (before.0 t) in (
      f,
      λ t lt. elim (cases_Bool (eqb t n)) [
        | inl same ↦ subst (λ (x : X). P t x) (sym (ap (λ b. cond b last.0 (before.0 t)) same)) (subst (λ k. P k last.0) (sym (eqb-true t n same)) last.1)
        | inr other ↦ (let less : t < n = (let ne : t ≡ n → ⊥ = λ e. absurd (let clash : true ≡ false = sym (eq-eqb t n e) ∙ other in cc) in grind (arith, lt, ne)) in
            subst (λ (x : X). P t x) (sym (ap (λ b. cond b last.0 (before.0 t)) other)) (before.1 t less))
      ],
    )

-- ---- the index of the codestream alone

meaning_is : (bytes : List ℕ) (b : Boxed) (v : View) → boxes_at bytes ≡ Ok b → meaning_view_at bytes v ≡ image_view_at (slice_range bytes b.start b.end) v
unfolding meaning_view_at
meaning_is bytes b v read = rw read refl

main_begins : (tree : Tree) (rest : List ℕ) → (others : List ℕ) × (main_text tree.siz tree.segments ++ rest ≡ soc ++ others)
unfolding main_text
main_begins tree rest = (_, refl)

-- What was made has the same window.
pub window_made : (c main : List ℕ) (fronts : List Front) (h : Headers) (o : IsOutlined c main fronts h) (w : Rect) (v : View) (made : List Made) (text : List ℕ) → area_at h v ≡ Ok w
    → text ≡ main_kept_at (outline main fronts) ++ (flat_map made_text made ++ marker_text eoc) → map (λ (m : Made). m.size) made ≡ map size_of fronts → length made ≡ tile_count h.siz
    → AreMade (λ i a _ m. IsMade (outline main fronts) h i a m) 0 (length main) (length main) made → AreMade (Shows c h w v.reduce) 0 (length main) (length main) made
    → meaning_view_at text (in_all_layers v) ≡ image_view_at c (in_all_layers v)
window_made c main fronts h o w v made text area is sizes count heads shows =
    let tree = o.says.tree in
    let new = whole_tree c main fronts h o in
    let g = headers_of new in
    let old = headers_of tree in
    let al = outline_aligned c main fronts h o in
    let n = length main in
    let u = in_all_layers v in
    let says : IsHeaders c g = whole_headers c main fronts h o in
    let similar : AreAlike g old = alike tree new.parts (λ t. head_grown c n t fronts tree.parts al.aligned) in
    let spelled = o.says.spelled in
    let again = parts_grown tree.siz c n o.has.stop fronts tree.parts spelled.parts o.has.parts al.aligned in
    let left : drop n (outline main fronts) ≡ flat_map part_text tree.parts ++ marker_text eoc =
    ap (drop n) (spelled.text ∙ text_split tree) ∙ drop_at (main_text tree.siz tree.segments) (flat_map part_text tree.parts ++ marker_text eoc) n o.main_size in
    let mine = subst (λ (x : Headers). AreMade (λ i a _ m. IsMade (outline main fronts) x i a m) 0 n n made) o.says.says heads in
    let seen = subst (λ (x : Headers). AreMade (Shows c x w v.reduce) 0 n n made) o.says.says shows in
    let of-parts = made_of_parts tree.siz (outline main fronts) old 0 n n tree.parts fronts made spelled.parts.each al.aligned sizes left mine in
    let size : n ≡ length (main_text tree.siz tree.segments) + 0 = (let e = o.main_size in omega (arith, e)) in
    let known : AreKnown c g old w v.reduce 0 made =
    all_known c tree new.parts w v.reduce 0 n n o.has.stop [] [] tree.parts fronts made spelled.parts again similar (λ k. count_same c n k fronts tree.parts (numbers_grown c n k fronts tree.parts al.aligned)) refl refl size size spelled.parts.each o.has.parts
    al.aligned sizes of-parts (outline main fronts) mine seen (siz_is tree) in
    let none : Made = record { head = record { tile = 0; number = 0; total = 0; is_open = false; size = 0 }; kept = []; content = []; size = record { held = 0; size = 0 } } in
    let tiles : tile_count g.siz ≡ length made = ap tile_count (similar.siz ∙ sym (ap (λ (x : Headers). x.siz) o.says.says)) ∙ sym count in
    let each = picked ([], []) (λ t x. HasPackets c g w v t (get_or made t none).content x) (tile_count g.siz)
    (λ t lt. has_packets c g old w v t (get_or made t none) says lt (subst (λ k. IsKnown c g old w v.reduce k (get_or made t none)) (let e : 0 + t ≡ t = omega arith in e) (known_at c g old w v.reduce 0 made none t known (omega (arith, lt, tiles))))) in
    let bare : IsBare c c = (let b = main_begins tree (flat_map part_text new.parts ++ marker_text eoc) in record { others = b.0; text = says.spelled.text ∙ text_split new ∙ b.1; whole = refl }) in
    let holds : HoldsAt c c (bare_place c) = inl (bare, refl) in
    let runs : ℕ → List (List Packet) = λ t. (each.0 t).1 ∷ [] in
    let i : IndexFields = record {
      place = bare_place c;
      layers = (cod_for new.segments []).layers;
      order = (cod_for new.segments []).order;
      headers = g;
      packets = map (λ t. (each.0 t).0) (range_with_len 0 (tile_count g.siz));
      frame = record {
        main = main_text new.siz (kept_segments tlm new.segments);
        heads = map head_of new.parts;
        segments = flat_map kept_text new.parts;
        form = Open;
        size = length c;
      };
    } in
    let index : IsIndexOf c i = record {
      codestream = c;
      holds = holds;
      says = says;
      layers = refl;
      order = refl;
      runs = runs;
      tiles = λ t lt. (each.1 t lt).runs;
      count = length-map (range_with_len 0 (tile_count g.siz)) (λ t. (each.0 t).0) ∙ length-range_with_len 0 (tile_count g.siz);
      kept = λ t lt. (each.1 t lt).read ∙ ap (λ (es : List PacketEntry). Ok es) (sym (get_or-map-range_with_len (λ k. (each.0 k).0) 0 (tile_count g.siz) t t [] lt (omega arith)));
      frame = record { main = refl; heads = refl; segments = refl; form = refl; size = refl };
    } in
    let due = front_content g (fronts_of g w u) runs in
    let parts : flat_map made_text made ≡ parts_text due new.parts =
    made_are due c 0 n tree.parts fronts made none al.aligned of-parts (λ k lt. (each.1 k (omega (arith, lt, tiles))).content ∙ ap (λ t. due t 0) (let e : k ≡ 0 + k = omega arith in e)) in
    let front : main_kept_at (outline main fronts) ≡ main_text tree.siz (kept_segments tlm tree.segments) = main_kept (outline main fronts) tree.siz tree.segments spelled.header (begins_main (outline main fronts) tree spelled) in
    let spells : text ≡ codestream_text (cut_tree index w u) =
    is ∙ (λ j. front j ++ (parts j ++ marker_text eoc)) ∙ sym (emptied_text_is due new) in
    let cut : cut_file index u ≡ Ok text =
    ap (λ (r : Result Rect Fault). r >>= λ x. Ok (codestream_text (cut_tree index x u))) (window_all g v ∙ area_same g old v similar ∙ ap (λ (x : Headers). area_at x v) (sym o.says.says) ∙ area)
    ∙ ap (λ (xs : List ℕ). Ok xs) (sym spells) in
    let own = place_again c c (bare_place c) holds in
    window_kept c i index u text refl cut ∙ meaning_is c (bare_place c) u own.0 ∙ ap (λ (xs : List ℕ). image_view_at xs u) (sym own.1)
