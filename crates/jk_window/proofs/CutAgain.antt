-- A codestream in which packets are empty is a codestream again.
use Rattle.std.proofs.Common.{◌≡◌, ℕ, zero, suc, ◌+◌, ◌<◌, ◌≤◌, List, [], length, map, get_or, refl, sym, ap, ◌∙◌, subst, arith}
use Rattle.std.specs.List.{AllByRecursion}
use Rattle.jk_math.specs.declared.rect.Rect.{Rect}
use Rattle.jk_marks.specs.declared.siz.Siz.{Siz}
use Rattle.jk_marks.specs.declared.segments.Cod.{Cod}
use Rattle.jk_marks.specs.declared.coding.Coding.{Coding}
use Rattle.jk_marks.specs.Markers.{tlm, plt}
use Rattle.jk_marks.specs.Siz.{tile_count}
use Rattle.jk_marks.specs.Segments.{Segment}
use Rattle.jk_marks.specs.Codestream.{CodestreamPart, Tree, of_tile, codestream_text}
use Rattle.jk_marks.specs.Copying.{kept_segments}
use Rattle.jk_geom.specs.Rectangles.{tile_area}
use Rattle.jk_geom.specs.Counts.{packet_number}
use Rattle.jk_params.specs.Coding.{coding_of, codings_of, HasPlanes}
use Rattle.jk_params.specs.Headers.{Headers, TileFields, tile_in, headers_of, tile_data_places, head_segments, cod_for, packets_alike, packets_of, most_packets, total, IsHeaders}
use Rattle.jk_params.proofs.Laws.{contents_of, places_are, said_at}
use Rattle.jk_walk.specs.TilePackets.{slice_of, shape_in, Packet, IsTile}
use Rattle.jk_window.specs.Emptied.{kept_packet, emptied_run, run_text, of_fronts, emptied_part, emptied_tree}
use Rattle.jk_window.specs.Indexing.{IndexFields, joined_runs, HasRuns, IsIndexOf}
use Rattle.jk_window.specs.declared.view.View.{View}
use Rattle.jk_window.specs.Cutting.{HaveRuns, front_content, fronts_of, cut_tree}
use Rattle.jk_window.specs.Again.{front_runs, AreAlike, IsAgain}
use Rattle.jk_window.proofs.EmptiedLaws.{tile_short}
use Rattle.jk_window.proofs.KeptPackets.{runs_kept, texts_of}
use Rattle.jk_window.proofs.KeptSegments.{main_kept, cod_same, coding_same, codings_same}
use Rattle.jk_window.proofs.PartsAgain.{own_emptied, head_emptied, runs_are, contents_made, IsShort, parts_short, parts_again}
use Rattle.jk_window.proofs.TileAgain.{tile_again}

-- ---- what the headers say

-- the first header of a tile
head_again : (content : ℕ → ℕ → List ℕ) (t : ℕ) (parts : List CodestreamPart) → head_segments (of_tile t (map (emptied_part content) parts)) ≡ kept_segments plt (head_segments (of_tile t parts))
head_again content t parts = ap head_segments (own_emptied content t parts) ∙ head_emptied content (of_tile t parts)

fields_cod : (tree : Tree) (t : ℕ) → t < tile_count tree.siz → (tile_in (headers_of tree).tiles t).cod ≡ cod_for tree.segments (head_segments (of_tile t tree.parts))
unfolding headers_of
fields_cod tree t lt = ap (λ (f : TileFields). f.cod) (said_at tree.siz tree.segments tree.parts t lt)

fields_codings : (tree : Tree) (t : ℕ) → t < tile_count tree.siz → (tile_in (headers_of tree).tiles t).codings ≡ codings_of tree.siz.components tree.segments (head_segments (of_tile t tree.parts))
unfolding headers_of
fields_codings tree t lt = ap (λ (f : TileFields). f.codings) (said_at tree.siz tree.segments tree.parts t lt)

fields_places : (tree : Tree) (t : ℕ) → t < tile_count tree.siz → (tile_in (headers_of tree).tiles t).data_places ≡ tile_data_places tree t
unfolding headers_of
fields_places tree t lt = ap (λ (f : TileFields). f.data_places) (said_at tree.siz tree.segments tree.parts t lt) ∙ sym (places_are tree t)

headers_siz : (tree : Tree) → (headers_of tree).siz ≡ tree.siz
unfolding headers_of
headers_siz tree = refl

tree_alike : (content : ℕ → ℕ → List ℕ) (tree : Tree) → AreAlike (headers_of (emptied_tree content tree)) (headers_of tree)
tree_alike content tree =
    let new = emptied_tree content tree in
    let own : (t : ℕ) → t < tile_count (headers_of tree).siz → t < tile_count tree.siz = λ t lt. subst (λ (s : Siz). t < tile_count s) (headers_siz tree) lt in
    record {
      siz = headers_siz new ∙ sym (headers_siz tree);
      cod = λ t lt.
          fields_cod new t (own t lt)
          ∙ ap (λ (head : List Segment). cod_for (kept_segments tlm tree.segments) head) (head_again content t tree.parts)
          ∙ cod_same tlm plt tree.segments (head_segments (of_tile t tree.parts))
          ∙ sym (fields_cod tree t (own t lt));
      codings = λ t lt.
          fields_codings new t (own t lt)
          ∙ ap (λ (head : List Segment). codings_of tree.siz.components (kept_segments tlm tree.segments) head) (head_again content t tree.parts)
          ∙ codings_same tlm plt tree.siz.components tree.segments (head_segments (of_tile t tree.parts))
          ∙ sym (fields_codings tree t (own t lt));
    }

-- sums that agree
total_alike : (f g : ℕ → ℕ) (n : ℕ) → ((t : ℕ) → t < n → f t ≡ g t) → total f n ≡ total g n
unfolding total
total_alike f g zero same = refl
total_alike f g (suc n) same = λ i. total_alike f g n (λ t lt. same t (omega (arith, lt))) i + same n (omega arith) i

packets_alike_again : (g h : Headers) → AreAlike g h → packets_of g.siz g.tiles ≡ packets_of h.siz h.tiles
packets_alike_again g h alike =
    let number : Siz → List TileFields → ℕ → ℕ = λ s tiles t. packet_number (tile_area s t) (tile_in tiles t).cod.layers (tile_in tiles t).codings in
    ap (λ (s : Siz). packets_of s g.tiles) alike.siz
    ∙ total_alike (number h.siz g.tiles) (number h.siz h.tiles) (tile_count h.siz) (λ t lt. (λ i. packet_number (tile_area h.siz t) (alike.cod t lt i).layers (alike.codings t lt i)))

headers_again : (bytes : List ℕ) (h : Headers) (is : IsHeaders bytes h) (content : ℕ → ℕ → List ℕ) → AllByRecursion (IsShort content) is.tree.parts
    → IsHeaders (codestream_text (emptied_tree content is.tree)) (headers_of (emptied_tree content is.tree))
headers_again bytes h is content short =
    let tree = is.tree in
    let new = emptied_tree content tree in
    record {
      tree = new;
      spelled = record {
        header = main_kept tree.siz tlm tree.segments is.spelled.header;
        parts = parts_again tree.siz content tree.parts is.spelled.parts short;
        text = refl;
      };
      says = refl;
      main_planes = λ c lt. subst HasPlanes (sym (coding_same tlm tlm tree.segments [] c)) (is.main_planes c lt);
      main_few =
          (let same : packets_alike tree.siz (cod_for new.segments []).layers (codings_of tree.siz.components new.segments []) ≡ packets_alike tree.siz (cod_for tree.segments []).layers (codings_of tree.siz.components tree.segments []) =
          (λ i. packets_alike tree.siz (cod_same tlm tlm tree.segments [] i).layers (codings_same tlm tlm tree.siz.components tree.segments [] i)) in
          subst (λ n. n ≤ most_packets) (sym same) is.main_few);
      planes = λ t c few lt.
          (let same : coding_of new.segments (head_segments (of_tile t new.parts)) c ≡ coding_of tree.segments (head_segments (of_tile t tree.parts)) c =
          ap (λ (head : List Segment). coding_of new.segments head c) (head_again content t tree.parts) ∙ coding_same tlm plt tree.segments (head_segments (of_tile t tree.parts)) c in
          subst HasPlanes (sym same) (is.planes t c few lt));
      few =
          (let same : packets_of (headers_of new).siz (headers_of new).tiles ≡ packets_of h.siz h.tiles =
          packets_alike_again (headers_of new) (headers_of tree) (tree_alike content tree) ∙ sym (ap (λ (x : Headers). packets_of x.siz x.tiles) is.says) in
          subst (λ n. n ≤ most_packets) (sym same) is.few);
    }

-- ---- packets

-- the runs of a tile, each precinct with its first layers alone
runs_again : (bytes new : List ℕ) (g h : Headers) (t : ℕ) (runs : ℕ → List (List Packet)) (fronts : ℕ → ℕ → ℕ → ℕ → ℕ) → AreAlike g h → t < tile_count h.siz → HasRuns bytes h t (runs t)
    → map (slice_of new) (tile_in g.tiles t).data_places ≡ map (λ run. run_text (emptied_run (of_fronts (fronts t)) (tile_in h.tiles t).cod.sop (tile_in h.tiles t).cod.eph run)) (runs t)
    → HasRuns new g t (front_runs h fronts runs t)
runs_again bytes new g h t runs fronts alike lt has there =
    let f = tile_in h.tiles t in
    let make = emptied_run (of_fronts (fronts t)) f.cod.sop f.cod.eph in
    let one = kept_packet (of_fronts (fronts t)) f.cod.sop f.cod.eph in
    let old = has.packets in
    let own : IsTile (shape_in h.siz f t) f.cod.sop f.cod.eph (joined_runs (runs t)) (map (slice_of bytes) f.data_places) =
    record { order = old.order; texts = old.texts; told = old.told; runs = runs t; whole = refl; cut = has.cut } in
    let again = tile_again (shape_in h.siz f t) f.cod.sop f.cod.eph (joined_runs (runs t)) (map (slice_of bytes) f.data_places) (fronts t) own in
    let texts : List (List ℕ) = map (λ run. run_text (make run)) (runs t) in
    let said : (h.siz, f.cod, f.codings) ≡ (g.siz, (tile_in g.tiles t).cod, (tile_in g.tiles t).codings) = sym (λ i. (alike.siz i, alike.cod t lt i, alike.codings t lt i)) in
    record {
      packets = subst (λ (parts : List (List ℕ)). IsTile (shape_in g.siz (tile_in g.tiles t) t) (tile_in g.tiles t).cod.sop (tile_in g.tiles t).cod.eph (joined_runs (map make (runs t))) parts) (sym there)
          (subst (λ (s : Siz × Cod × List Coding). IsTile (shape_in s.0 (record f { cod = s.1; codings = s.2 }) t) s.1.sop s.1.eph (joined_runs (map make (runs t))) texts) said
          (subst (λ (ps : List Packet). IsTile (shape_in h.siz f t) f.cod.sop f.cod.eph ps texts) (sym (runs_kept one (runs t))) again));
      cut = texts_of one (runs t) ∙ sym there;
    }

-- ---- the codestream

pub front_short : (bytes : List ℕ) (h : Headers) (runs : ℕ → List (List Packet)) (fronts : ℕ → ℕ → ℕ → ℕ → ℕ) → HaveRuns bytes h runs → (t n : ℕ) → t < tile_count h.siz
    → length (front_content h fronts runs t n) ≤ length (run_text (get_or (runs t) n []))
front_short bytes h runs fronts have t n lt =
    let f = tile_in h.tiles t in
    tile_short (of_fronts (fronts t)) (shape_in h.siz f t) f.cod.sop f.cod.eph (runs t) (map (slice_of bytes) f.data_places) n (have t lt).packets

-- where the data of each part are those of the first layers
content_again : (bytes : List ℕ) (h : Headers) (is : IsHeaders bytes h) (runs : ℕ → List (List Packet)) → HaveRuns bytes h runs → (fronts : ℕ → ℕ → ℕ → ℕ → ℕ) (content : ℕ → ℕ → List ℕ)
    → ((t n : ℕ) → t < tile_count h.siz → content t n ≡ front_content h fronts runs t n) → IsAgain (codestream_text (emptied_tree content is.tree)) h (front_runs h fronts runs)
content_again bytes h is runs have fronts content same =
    let tree = is.tree in
    let new = emptied_tree content tree in
    let text = codestream_text new in
    let short = parts_short bytes h is runs content have (λ t n lt. subst (λ (xs : List ℕ). length xs ≤ length (run_text (get_or (runs t) n []))) (sym (same t n lt)) (front_short bytes h runs fronts have t n lt)) in
    let alike : AreAlike (headers_of new) h = subst (AreAlike (headers_of new)) (sym is.says) (tree_alike content tree) in
    let siz : h.siz ≡ tree.siz = ap (λ (x : Headers). x.siz) is.says ∙ headers_siz tree in
    record {
      headers = headers_of new;
      says = headers_again bytes h is content short;
      alike = alike;
      tiles = λ t lt.
          (let few : t < tile_count h.siz = subst (λ (s : Siz). t < tile_count s) alike.siz lt in
          let small : t < tile_count tree.siz = subst (λ (s : Siz). t < tile_count s) siz few in
          let f = tile_in h.tiles t in
          let make : List Packet → List ℕ = λ run. run_text (emptied_run (of_fronts (fronts t)) f.cod.sop f.cod.eph run) in
          let there : map (slice_of text) (tile_in (headers_of new).tiles t).data_places ≡ map make (runs t) =
          ap (λ (places : List (ℕ × ℕ)). map (slice_of text) places) (fields_places new t small)
          ∙ contents_of text new t refl
          ∙ ap (λ (ps : List CodestreamPart). map (λ (p : CodestreamPart). p.content) ps) (own_emptied content t tree.parts)
          ∙ contents_made content make t (runs t) tree.parts (is.spelled.parts.numbered t) (runs_are bytes h is t (runs t) few (have t few)) (λ n. same t n few) in
          runs_again bytes text (headers_of new) h t runs fronts alike few (have t few) there);
    }

pub front_again : (bytes : List ℕ) (h : Headers) (is : IsHeaders bytes h) (runs : ℕ → List (List Packet)) → HaveRuns bytes h runs → (fronts : ℕ → ℕ → ℕ → ℕ → ℕ)
    → IsAgain (codestream_text (emptied_tree (front_content h fronts runs) is.tree)) h (front_runs h fronts runs)
front_again bytes h is runs have fronts = content_again bytes h is runs have fronts (front_content h fronts runs) (λ t n lt. refl)

-- that of a window
pub cut_again : (bytes : List ℕ) (i : IndexFields) (is : IsIndexOf bytes i) (w : Rect) (v : View) → IsAgain (codestream_text (cut_tree is w v)) i.headers (front_runs i.headers (fronts_of i.headers w v) is.runs)
cut_again bytes i is w v = front_again is.codestream i.headers is.says is.runs is.tiles (fronts_of i.headers w v)
