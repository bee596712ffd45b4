-- The parts of a tile of which no packet is kept, and none has an SOP.
use Rattle.std.proofs.Common.{◌≡◌, ℕ, zero, suc, ◌*◌, ◌^◌, ◌<◌, ◌≤◌, Bool, true, false, not, cond, nat_lt, List, [], ◌∷◌, length, take, drop, get_or, sym, ap, ◌∙◌, subst, arith}
use Rattle.std.specs.Prelude.{◌&&◌}
use Rattle.std.proofs.lemmas.Bool.{le-ltb}
use Rattle.std.specs.List.{AllByRecursion, zip}
use Rattle.std.proofs.lemmas.Slice.Zip.{length-zip}
use Rattle.jk_math.specs.declared.rect.Rect.{Rect}
use Rattle.jk_geom.specs.declared.shape.PacketName.{PacketName}
use Rattle.jk_geom.specs.Rectangles.{is_empty, meet, tile_area}
use Rattle.jk_geom.specs.Partitions.{reduced_area}
use Rattle.jk_geom.specs.TileShapes.{coding_of}
use Rattle.jk_order.specs.PacketOrder.{order, packet_count}
use Rattle.jk_order.proofs.Laws.{order_is, length_of}
use Rattle.jk_packet.specs.PacketText.{eph_text}
use Rattle.jk_marks.specs.Siz.{tile_count}
use Rattle.jk_params.specs.Headers.{Headers, AreHeaders, tile_in}
use Rattle.jk_params.proofs.Laws.{part_of_total, packets_in}
use Rattle.jk_walk.specs.declared.entries.PacketEntry.{PacketEntry}
use Rattle.jk_walk.specs.TilePackets.{shape_in}
use Rattle.jk_window.specs.declared.parts.PartEnds.{PartEnds}
use Rattle.jk_window.specs.declared.view.View.{View}
use Rattle.jk_window.specs.Cutting.{Entered, keeps, fronts_of, run_at, runs_at}
use Rattle.jk_window.specs.Needs.{needs}
use Rattle.jk_window.specs.Views.{layers_in}
use Rattle.jk_window.specs.Emptying.{emptied_texts}
use Rattle.jk_window.specs.Indexing.{IndexFields, entries_of}
use Rattle.jk_window.specs.PartEnds.{AreEnds, IsPartEnds, HaveNoCounters, count_at}
use Rattle.jk_window.specs.Planning.{AreEmptied, entered_in, part_packets, part_from, part_size}
use Rattle.jk_window.proofs.NumberedPlans.{IsBare, bare_texts, bare_sizes}
use Rattle.jk_window.proofs.PartLaws.{run_front, cut_count}
use Rattle.jk_window.proofs.Runs.{runs_at-nil, runs_at-cons}

-- ---- what holds of all packets holds of those of each part

all_take : {X : Type 0} (P : X → Type 0) (k : ℕ) (xs : List X) → AllByRecursion P xs → AllByRecursion P (take k xs)
all_take P zero xs all = tt
all_take P (suc k) [] all = tt
all_take P (suc k) (x ∷ xs) all = (all.0, all_take P k xs all.1)

all_drop : {X : Type 0} (P : X → Type 0) (k : ℕ) (xs : List X) → AllByRecursion P xs → AllByRecursion P (drop k xs)
all_drop P zero xs all = all
all_drop P (suc k) [] all = tt
all_drop P (suc k) (x ∷ xs) all = all_drop P k xs all.1

all_run : (P : Entered → Type 0) (packets : List Entered) (a b : ℕ) → AllByRecursion P packets → AllByRecursion P (run_at packets a b)
all_run P packets a b all = subst (AllByRecursion P) (sym (run_front packets a b)) (all_take P (length (run_at packets a b)) packets all)

all_part : (P : Entered → Type 0) (parts : List (ℕ × ℕ)) (packets : List Entered) (n : ℕ) → AllByRecursion P packets → AllByRecursion P (get_or (runs_at packets parts) n [])
all_part P [] packets n all = subst (λ (rs : List (List Entered)). AllByRecursion P (get_or rs n [])) (sym (runs_at-nil packets)) tt
all_part P (q ∷ parts) packets n all =
    let rest = drop (length (run_at packets q.0 q.1)) packets in
    subst (λ (rs : List (List Entered)). AllByRecursion P (get_or rs n [])) (sym (runs_at-cons packets q parts))
    (by n (all_run P packets q.0 q.1 all) (λ k. all_part P parts rest k (all_drop P (length (run_at packets q.0 q.1)) packets all)))
  where
    by : (n : ℕ) → AllByRecursion P (run_at packets q.0 q.1) → ((k : ℕ) → AllByRecursion P (get_or (runs_at (drop (length (run_at packets q.0 q.1)) packets) parts) k []))
        → AllByRecursion P (get_or (run_at packets q.0 q.1 ∷ runs_at (drop (length (run_at packets q.0 q.1)) packets) parts) n [])
    by zero first more = first
    by (suc n) first more = more n

-- ---- the packets are bare

all_bare : (keep : PacketName → Bool) (names : List PacketName) (entries : List PacketEntry) → ((n : PacketName) → keep n ≡ false) → HaveNoCounters entries → AllByRecursion (IsBare keep) (zip names entries)
all_bare keep [] entries none counters = tt
all_bare keep (n ∷ names) [] none counters = tt
all_bare keep (n ∷ names) (e ∷ entries) none counters = ((none n, counters.0), all_bare keep names entries none counters.1)

part_bare : (i : IndexFields) (w : Rect) (v : View) (t n : ℕ) → AreEmptied i w v t → AllByRecursion (IsBare (keeps i.headers w v t)) (part_packets i t n)
part_bare i w v t n are =
    all_part (IsBare (keeps i.headers w v t)) (tile_in i.headers.tiles t).data_places (entered_in i t) n
    (all_bare (keeps i.headers w v t) (order (shape_in i.headers.siz (tile_in i.headers.tiles t) t)) (entries_of i.packets t) are.none are.counters)

-- how many there are
pub part_count : (i : IndexFields) (t n : ℕ) (p : PartEnds) → IsPartEnds (entries_of i.packets t) (tile_in i.headers.tiles t) p
    → length (entries_of i.packets t) ≡ packet_count (shape_in i.headers.siz (tile_in i.headers.tiles t) t) → length (part_packets i t n) ≡ count_at 0 p.ends.items n
part_count i t n p is all =
    let s = shape_in i.headers.siz (tile_in i.headers.tiles t) t in
    let names : length (order s) ≡ length (entries_of i.packets t) = length_of s (order s) (order_is s) ∙ sym all in
    let both = length-zip (order s) (entries_of i.packets t) in
    let long : length (entered_in i t) ≡ length (entries_of i.packets t) = omega (arith, both, names) in
    ap (λ (rs : List (List Entered)). length (get_or rs n [])) (is.ends.cut (order s) names)
    ∙ cut_count (entered_in i t) 0 p.ends.items n (subst (λ k. AreEnds 0 k p.ends.items) (sym long) is.ends.ascend)

pub beside_text : (file : List ℕ) (i : IndexFields) (w : Rect) (v : View) (t n m : ℕ) → AreEmptied i w v t → length (part_packets i t n) ≡ m → part_from file i w v t n ≡ emptied_texts (tile_in i.headers.tiles t).cod.eph m
beside_text file i w v t n m are count =
    bare_texts file i.place.start (keeps i.headers w v t) (tile_in i.headers.tiles t).cod.eph (part_packets i t n) (part_bare i w v t n are)
    ∙ ap (emptied_texts (tile_in i.headers.tiles t).cod.eph) count

pub beside_size : (i : IndexFields) (w : Rect) (v : View) (t n m : ℕ) → AreEmptied i w v t → length (part_packets i t n) ≡ m → part_size i w v t n ≡ m * length (0 ∷ eph_text (tile_in i.headers.tiles t).cod.eph)
beside_size i w v t n m are count =
    bare_sizes (keeps i.headers w v t) (tile_in i.headers.tiles t).cod.eph (part_packets i t n) (part_bare i w v t n are)
    ∙ ap (λ k. k * length (0 ∷ eph_text (tile_in i.headers.tiles t).cod.eph)) count

-- no packet is kept of a tile of which the window has nothing
pub beside_none : (i : IndexFields) (w : Rect) (v : View) (t : ℕ) → is_empty (meet w (reduced_area (tile_area i.headers.siz t) v.reduce)) ≡ true → (n : PacketName) → keeps i.headers w v t n ≡ false
beside_none i w v t e n =
    let f = tile_in i.headers.tiles t in
    let a = tile_area i.headers.siz t in
    let u = meet w (reduced_area a v.reduce) in
    let none : fronts_of i.headers w v t n.component n.resolution n.precinct ≡ 0 =
    ap (λ b. cond (not b && needs a (coding_of f.codings n.component) u v.reduce n.resolution n.precinct) (layers_in v.layers f.cod.layers) 0) e in
    ap (nat_lt n.layer) none ∙ le-ltb n.layer 0 (omega arith)

-- a tile has few packets
pub tile_few : (size : ℕ) (h : Headers) (t : ℕ) → AreHeaders size h → t < tile_count h.siz → packet_count (shape_in h.siz (tile_in h.tiles t) t) ≤ 2 ^ 24
unfolding packet_count
tile_few size h t are less =
    let all = part_of_total (packets_in h) (tile_count h.siz) t less in
    let few = are.few in
    omega (arith, all, few)
