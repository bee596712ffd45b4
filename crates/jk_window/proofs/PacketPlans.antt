-- Packets from the file, by their places in its codestream, and emptied ones by their counters.
use Rattle.std.proofs.Common.{◌≡◌, ℕ, zero, suc, ◌+◌, ◌-◌, ◌<◌, ◌≤◌, Bool, true, false, cond, inl, inr, List, [], ◌∷◌, ◌++◌, length, length-append, take, map, drop, get_or, refl, sym, ap, ◌∙◌, subst, arith}
use Rattle.std.specs.Prelude.{sum_by}
use Rattle.std.specs.List.{AllZip, flat_map, zip}
use Rattle.std.proofs.lemmas.List.Sums.{sum_by-cons}
use Rattle.std.proofs.lemmas.Bool.{cases_lt}
use Rattle.std.proofs.lemmas.List.{take-take, drop-drop, drop-take, length-drop}
use Rattle.jk_math.specs.Steps.{ok_is}
use Rattle.jk_math.specs.declared.rect.Rect.{Rect}
use Rattle.jk_marks.specs.Siz.{tile_count}
use Rattle.jk_boxes.proofs.Laws.{place_again}
use Rattle.jk_geom.specs.declared.shape.PacketName.{PacketName}
use Rattle.jk_order.specs.PacketOrder.{order}
use Rattle.jk_order.proofs.Laws.{order_is, order_one}
use Rattle.jk_packet.specs.PacketText.{eph_text}
use Rattle.jk_params.specs.Headers.{tile_in}
use Rattle.jk_params.proofs.Laws.{sound_headers}
use Rattle.jk_walk.specs.declared.spans.PacketSpan.{PacketSpan}
use Rattle.jk_walk.specs.declared.entries.PacketEntry.{PacketEntry}
use Rattle.jk_walk.specs.TilePackets.{slice_of, shape_in, Packet}
use Rattle.jk_walk.specs.WalkReading.{AreLaid}
use Rattle.jk_walk.specs.Entries.{entry_span, IsEntered, EnterAt}
use Rattle.jk_walk.proofs.Laws.{spans_laid, tile_parts, kept_spans, entries_only}
use Rattle.jk_walk.specs.Sop.{sop_written}
use Rattle.jk_window.specs.Emptied.{emptied_packet, kept_packet, emptied_run, run_text}
use Rattle.jk_window.specs.declared.view.View.{View}
use Rattle.jk_window.specs.Indexing.{IndexFields, IsIndexOf, entries_of, joined_runs}
use Rattle.jk_window.specs.Cutting.{Entered, keeps, front_content, fronts_of}
use Rattle.jk_window.specs.Planning.{packet_from, packet_size, entered_in, part_packets, part_from, part_size}
use Rattle.jk_window.proofs.RunMatching.{IsStored, runs_match}

-- ---- a place in the codestream is a place in the file

pub take_front : (k : ℕ) (xs : List ℕ) → length (take k xs) ≤ k
take_front zero xs = omega arith
take_front (suc k) [] = omega arith
take_front (suc k) (x ∷ xs) = let more = take_front k xs in omega (arith, more)

take_short : (k : ℕ) (xs : List ℕ) → length (take k xs) ≤ length xs
take_short zero xs = omega arith
take_short (suc k) [] = omega arith
take_short (suc k) (x ∷ xs) = let more = take_short k xs in omega (arith, more)

take_none : (k : ℕ) (xs : List ℕ) → k ≡ 0 → take k xs ≡ []
take_none k xs e = ap (λ n. take n xs) e

pub inside : (file codestream : List ℕ) (s e a b : ℕ) → codestream ≡ slice_of file (s, e) → length (slice_of codestream (a, b)) ≡ b - a → slice_of file (s + a, s + b) ≡ slice_of codestream (a, b)
inside file codestream s e a b own long =
    let m = e - s in
    let xs = drop s file in
    let short = take_short (b - a) (drop a codestream) in
    let left = length-drop a codestream in
    let whole : length codestream ≤ m = subst (λ (c : List ℕ). length c ≤ m) (sym own) (take_front m xs) in
    let fits : b - a ≤ m - a = omega (arith, short, left, whole, long) in
    let size : (s + b) - (s + a) ≡ b - a = omega arith in
    elim (cases_lt m a) [
      | inl past ↦
          take_none ((s + b) - (s + a)) (drop (s + a) file) (omega (arith, fits, past))
          ∙ sym (take_none (b - a) (drop a codestream) (omega (arith, fits, past)))
      | inr le ↦ (
          let k = m - a in
          let sum : m ≡ a + k = omega (arith, le) in
          let there : drop a codestream ≡ take k (drop (s + a) file) =
          ap (drop a) own ∙ ap (λ n. drop a (take n xs)) sum ∙ drop-take a k xs ∙ ap (take k) (drop-drop a s file) in
          ap (λ n. take n (drop (s + a) file)) size
          ∙ sym (take-take (b - a) k (drop (s + a) file) fits)
          ∙ sym (ap (take (b - a)) there))
    ]

-- ---- packets

packet_is : (file codestream : List ℕ) (s e : ℕ) (keep : PacketName → Bool) (sop eph : Bool) (p : Packet) (v : Entered) → codestream ≡ slice_of file (s, e)
    → IsStored codestream sop p v → packet_from file s keep eph v ≡ (kept_packet keep sop eph p).text
packet_is file codestream s e keep sop eph p v own is = by (keep v.0) refl
  where
    by : (b : Bool) → keep v.0 ≡ b → cond b (slice_of file (s + v.1.start, s + v.1.end)) (sop_written v.1.counter ++ (0 ∷ eph_text eph)) ≡ (kept_packet keep sop eph p).text
    by true k =
        let kept : keep p.name ≡ true = ap keep (sym is.name) ∙ k in
        let size = is.size in
        let long : length (slice_of codestream (v.1.start, v.1.end)) ≡ v.1.end - v.1.start = ap (λ (xs : List ℕ). length xs) is.text ∙ omega (arith, size) in
        inside file codestream s e v.1.start v.1.end own long ∙ is.text ∙ ap (λ b. (cond b p (emptied_packet sop eph p)).text) (sym kept)
    by false k =
        let kept : keep p.name ≡ false = ap keep (sym is.name) ∙ k in
        ap (λ (xs : List ℕ). xs ++ (0 ∷ eph_text eph)) is.counter
        ∙ ap (λ b. (cond b p (emptied_packet sop eph p)).text) (sym kept)

packets_are : (file codestream : List ℕ) (s e : ℕ) (keep : PacketName → Bool) (sop eph : Bool) (run : List Packet) (vs : List Entered) → codestream ≡ slice_of file (s, e)
    → AllZip (IsStored codestream sop) run vs → flat_map (packet_from file s keep eph) vs ≡ run_text (emptied_run keep sop eph run)
packets_are file codestream s e keep sop eph [] [] own all = refl
packets_are file codestream s e keep sop eph [] (v ∷ vs) own all = absurd all
packets_are file codestream s e keep sop eph (p ∷ run) [] own all = absurd all
packets_are file codestream s e keep sop eph (p ∷ run) (v ∷ vs) own all =
    ap (λ (xs : List ℕ). xs ++ flat_map (packet_from file s keep eph) vs) (packet_is file codestream s e keep sop eph p v own all.0)
    ∙ ap (λ (xs : List ℕ). (kept_packet keep sop eph p).text ++ xs) (packets_are file codestream s e keep sop eph run vs own all.1)

-- the packets of a tile, by their entries
record TileStands (codestream : List ℕ) (i : IndexFields) (runs : List (List Packet)) (t : ℕ) : Type 0 where
  stored : AllZip (IsStored codestream (tile_in i.headers.tiles t).cod.sop) (joined_runs runs) (entered_in i t)
  laid : AreLaid (map entry_span (entered_in i t)) (tile_in i.headers.tiles t).data_places

stored : (bytes : List ℕ) (sop : Bool) (packets : List Packet) (names : List PacketName) (entries : List PacketEntry) → map (λ (p : Packet). p.name) packets ≡ names → AllZip (IsEntered bytes sop) packets entries
    → AllZip (IsStored bytes sop) packets (zip names entries)
stored bytes sop [] [] [] e all = tt
stored bytes sop [] [] (x ∷ entries) e all = absurd all
stored bytes sop [] (n ∷ names) entries e all = absurd cc
stored bytes sop (p ∷ packets) [] entries e all = absurd cc
stored bytes sop (p ∷ packets) (n ∷ names) [] e all = absurd all
stored bytes sop (p ∷ packets) (n ∷ names) (x ∷ entries) e all =
    let first : p.name ≡ n = cc in
    let rest : map (λ (p : Packet). p.name) packets ≡ names = cc in
    (record { name = sym first; size = all.0.size; text = all.0.text; counter = all.0.counter }, stored bytes sop packets names entries rest all.1)

stands : (bytes : List ℕ) (i : IndexFields) (is : IsIndexOf bytes i) (t : ℕ) → t < tile_count i.headers.siz → TileStands is.codestream i (is.runs t) t
stands bytes i is t less =
    let h = i.headers in
    let f = tile_in h.tiles t in
    let s = shape_in h.siz f t in
    let c = is.codestream in
    let packets = joined_runs (is.runs t) in
    let are = sound_headers c h is.says in
    let has = is.tiles t less in
    let laid = spans_laid c h t packets are less has.packets in
    let read = kept_spans c h t (entries_of i.packets t) are less (is.kept t less) in
    let same : laid.0 ≡ map entry_span (entered_in i t) = ok_is laid.0 (map entry_span (entered_in i t)) (sym laid.1 ∙ read) in
    let only = entries_only c h t packets are less has.packets in
    let own : only.0 ≡ entries_of i.packets t = ok_is only.0 (entries_of i.packets t) (sym only.1 ∙ is.kept t less) in
    let entered = subst (EnterAt c h t packets) own only.2 in
    let named = order_one s (map (λ (p : Packet). p.name) packets) (order s) has.packets.order (order_is s) in
    record {
      stored = stored c f.cod.sop packets (order s) (entries_of i.packets t) named entered;
      laid = subst (λ (ws : List PacketSpan). AreLaid ws f.data_places) same laid.3;
    }

matched : (bytes : List ℕ) (i : IndexFields) (is : IsIndexOf bytes i) (t n : ℕ) → t < tile_count i.headers.siz
    → AllZip (IsStored is.codestream (tile_in i.headers.tiles t).cod.sop) (get_or (is.runs t) n []) (part_packets i t n)
matched bytes i is t n less =
    let h = i.headers in
    let c = is.codestream in
    let stand = stands bytes i is t less in
    runs_match c (tile_in h.tiles t).cod.sop (is.runs t) (entered_in i t) (tile_in h.tiles t).data_places (tile_parts c h t (sound_headers c h is.says) less) stand.stored stand.laid (is.tiles t less).cut n

-- where the codestream stands in the file
pub stands_in : (bytes : List ℕ) (i : IndexFields) (is : IsIndexOf bytes i) → is.codestream ≡ slice_of bytes (i.place.start, i.place.end)
stands_in bytes i is = (place_again bytes is.codestream i.place is.holds).1

-- The data of a part, from the file.
pub part_is : (bytes : List ℕ) (i : IndexFields) (is : IsIndexOf bytes i) (w : Rect) (v : View) (t n : ℕ) → t < tile_count i.headers.siz → part_from bytes i w v t n ≡ front_content i.headers (fronts_of i.headers w v) is.runs t n
part_is bytes i is w v t n less =
    let h = i.headers in
    let f = tile_in h.tiles t in
    packets_are bytes is.codestream i.place.start i.place.end (keeps h w v t) f.cod.sop f.cod.eph (get_or (is.runs t) n []) (part_packets i t n) (stands_in bytes i is) (matched bytes i is t n less)

-- ---- lengths

packet_sized : (file codestream : List ℕ) (s e : ℕ) (keep : PacketName → Bool) (sop eph : Bool) (p : Packet) (v : Entered) → codestream ≡ slice_of file (s, e)
    → IsStored codestream sop p v → length (packet_from file s keep eph v) ≡ packet_size keep eph v
packet_sized file codestream s e keep sop eph p v own is = by (keep v.0)
  where
    by : (b : Bool) → length (cond b (slice_of file (s + v.1.start, s + v.1.end)) (sop_written v.1.counter ++ (0 ∷ eph_text eph))) ≡ cond b (v.1.end - v.1.start) (length (sop_written v.1.counter) + length (0 ∷ eph_text eph))
    by true =
        let size = is.size in
        let long : length (slice_of codestream (v.1.start, v.1.end)) ≡ v.1.end - v.1.start = ap (λ (xs : List ℕ). length xs) is.text ∙ omega (arith, size) in
        ap (λ (xs : List ℕ). length xs) (inside file codestream s e v.1.start v.1.end own long) ∙ long
    by false = length-append (sop_written v.1.counter) (0 ∷ eph_text eph)

packets_sized : (file codestream : List ℕ) (s e : ℕ) (keep : PacketName → Bool) (sop eph : Bool) (run : List Packet) (vs : List Entered) → codestream ≡ slice_of file (s, e)
    → AllZip (IsStored codestream sop) run vs → length (flat_map (packet_from file s keep eph) vs) ≡ sum_by (packet_size keep eph) vs
packets_sized file codestream s e keep sop eph [] [] own all = refl
packets_sized file codestream s e keep sop eph [] (v ∷ vs) own all = absurd all
packets_sized file codestream s e keep sop eph (p ∷ run) [] own all = absurd all
packets_sized file codestream s e keep sop eph (p ∷ run) (v ∷ vs) own all =
    let f = packet_from file s keep eph in
    let here = packet_sized file codestream s e keep sop eph p v own all.0 in
    let more = packets_sized file codestream s e keep sop eph run vs own all.1 in
    let sum = sum_by-cons (packet_size keep eph) v vs in
    length-append (f v) (flat_map f vs) ∙ ap (λ k. k + length (flat_map f vs)) here ∙ ap (λ k. packet_size keep eph v + k) more ∙ sym sum

-- How long the data of a part are.
pub part_sized : (bytes : List ℕ) (i : IndexFields) (is : IsIndexOf bytes i) (w : Rect) (v : View) (t n : ℕ) → t < tile_count i.headers.siz → part_size i w v t n ≡ length (front_content i.headers (fronts_of i.headers w v) is.runs t n)
part_sized bytes i is w v t n less =
    let h = i.headers in
    let f = tile_in h.tiles t in
    sym (packets_sized bytes is.codestream i.place.start i.place.end (keeps h w v t) f.cod.sop f.cod.eph (get_or (is.runs t) n []) (part_packets i t n) (stands_in bytes i is) (matched bytes i is t n less))
    ∙ ap (λ (xs : List ℕ). length xs) (part_is bytes i is w v t n less)
