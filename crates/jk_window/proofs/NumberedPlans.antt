-- Packets that are planned by their numbers.
use Rattle.std.proofs.Common.{◌≡◌, ℕ, zero, suc, ◌+◌, ◌-◌, ◌*◌, ◌<◌, ◌≤◌, Bool, true, false, cond, List, [], ◌∷◌, ◌++◌, length, length-append, take, drop, get_or, append_assoc, Some, None, Option, refl, sym, ap, ◌∙◌, subst, arith}
use Rattle.std.specs.Prelude.{slice_get, sum_by}
use Rattle.std.specs.List.{AllByRecursion, AllZip, flat_map}
use Rattle.std.proofs.lemmas.Grind.{flat_map-append}
use Rattle.std.proofs.lemmas.List.{append-nil, drop_more, drop_all}
use Rattle.std.proofs.lemmas.List.Sums.{sum_by-append, sum_by-cons}
use Rattle.std.proofs.lemmas.Option.{slice_get-get_or}
use Rattle.std.proofs.lemmas.Slice.Zip.{length-zip, get_or-zip}
use Rattle.jk_geom.specs.declared.shape.PacketName.{PacketName}
use Rattle.jk_order.specs.PacketOrder.{order, packet_count}
use Rattle.jk_order.proofs.Laws.{order_is, length_of}
use Rattle.jk_packet.specs.PacketText.{eph_text}
use Rattle.jk_walk.specs.declared.entries.PacketEntry.{PacketEntry}
use Rattle.jk_walk.specs.Sop.{sop_written}
use Rattle.jk_walk.specs.TilePackets.{slice_of}
use Rattle.jk_window.specs.declared.contents.TileCut.{TileCut}
use Rattle.jk_window.specs.Cutting.{Entered, wanted}
use Rattle.jk_window.specs.Emptying.{emptied_texts}
use Rattle.jk_window.specs.PartEnds.{numbered, cut_at, AreEnds, HaveNoCounters}
use Rattle.jk_window.specs.Planning.{PlanFields, IsBehind, IsRunPlan, packet_from, packet_size, tile_packet, tile_packet_size}
use Rattle.jk_window.specs.Numbered.{AreAll, packets_in}
use Rattle.jk_window.proofs.Pieces.{piece_none, piece_join, piece_one, piece_length, piece_all}
use Rattle.jk_window.proofs.PlanLaws.{plan_of, planned-nil, behind_none, behind_both, behind_same}
use Rattle.jk_window.proofs.PartLaws.{cut-nil, cut-cons, ends_cons}

-- ---- packets by their numbers

abbrev pub no_name : PacketName
no_name = record { layer = 0; resolution = 0; component = 0; precinct = 0 }

abbrev pub no_entry : PacketEntry
no_entry = record { start = 0; body = 0; end = 0; counter = None }

-- as many names as entries
pub names_long : (t : TileCut) → length t.entries.now ≡ packet_count t.shape.now → length (order t.shape.now) ≡ length t.entries.now
names_long t all = length_of t.shape.now (order t.shape.now) (order_is t.shape.now) ∙ sym all

pub packets_long : (t : TileCut) → length t.entries.now ≡ packet_count t.shape.now → length (packets_in t) ≡ length t.entries.now
packets_long t all =
    let names = names_long t all in
    let both = length-zip (order t.shape.now) t.entries.now in
    omega (arith, names, both)

pub packet_at : (t : TileCut) (i : ℕ) (d : PacketName) (e : PacketEntry) → length t.entries.now ≡ packet_count t.shape.now → i < length t.entries.now
    → get_or (packets_in t) i (d, e) ≡ (get_or (order t.shape.now) i d, get_or t.entries.now i e)
packet_at t i d e all lt =
    let names = names_long t all in
    get_or-zip (order t.shape.now) t.entries.now i (d, e) (omega (arith, names, lt)) lt

-- whether a packet is kept
abbrev pub is_kept : TileCut → Entered → Bool
is_kept t v = wanted t.shape.now t.top t.reduce t.layers v.0

pub kept_at : (t : TileCut) (first behind i : ℕ) (kept : Bool) → length t.entries.now ≡ packet_count t.shape.now → AreAll t first behind kept → first ≤ i → i < behind → behind ≤ length t.entries.now
    → is_kept t (get_or (packets_in t) i (no_name, no_entry)) ≡ kept
kept_at t first behind i kept all are lo hi within =
    let names = names_long t all in
    let n = get_or (order t.shape.now) i no_name in
    let at : slice_get (order t.shape.now) i ≡ Some n = slice_get-get_or (order t.shape.now) i no_name (omega (arith, names, hi, within)) in
    ap (is_kept t) (packet_at t i no_name no_entry all (omega (arith, hi, within))) ∙ are i n lo hi at

-- ---- one packet more

pub step_more : {X : Type 0} (old mid new : PlanFields) (f : List ℕ → X → List ℕ) (g : X → ℕ) (xs : List X) (a i : ℕ) (d x : X) → a ≤ i → i < length xs → x ≡ get_or xs i d
    → IsBehind old mid (λ file. flat_map (f file) (take (i - a) (drop a xs))) (sum_by g (take (i - a) (drop a xs))) → IsBehind mid new (λ file. f file x) (g x)
    → IsBehind old new (λ file. flat_map (f file) (take (i + 1 - a) (drop a xs))) (sum_by g (take (i + 1 - a) (drop a xs)))
step_more old mid new f g xs a i d x le lt is before one =
    let done = take (i - a) (drop a xs) in
    let more : take (i + 1 - a) (drop a xs) ≡ done ++ x ∷ [] = piece_join xs a i (i + 1) le (omega arith) ∙ ap (λ ys. done ++ ys) (piece_one xs i d lt ∙ ap (λ y. y ∷ []) (sym is)) in
    let sum = sum_by-append g done (x ∷ []) in
    let last = sum_by-cons g x [] in
    let all = ap (sum_by g) more in
    behind_same old new (λ file. flat_map (f file) done ++ f file x) (λ file. flat_map (f file) (take (i + 1 - a) (drop a xs))) (sum_by g done + g x) (sum_by g (take (i + 1 - a) (drop a xs)))
    (behind_both old mid new (λ file. flat_map (f file) done) (λ file. f file x) (sum_by g done) (g x) before one)
    (λ file. sym (ap (flat_map (f file)) more ∙ flat_map-append (f file) done (x ∷ []) ∙ ap (λ ys. flat_map (f file) done ++ ys) (append-nil (f file x))))
    (omega (arith, sum, last, all))

pub step_none : {X : Type 0} (p : PlanFields) (f : List ℕ → X → List ℕ) (g : X → ℕ) (xs : List X) (a b : ℕ) → b ≤ a → IsBehind p p (λ file. flat_map (f file) (take (b - a) (drop a xs))) (sum_by g (take (b - a) (drop a xs)))
step_none p f g xs a b le =
    let none = piece_none xs a b le in
    behind_same p p (λ _. []) (λ file. flat_map (f file) (take (b - a) (drop a xs))) 0 (sum_by g (take (b - a) (drop a xs))) (behind_none p)
    (λ file. sym (ap (flat_map (f file)) none)) (sym (ap (sum_by g) none))

pub step_both : {X : Type 0} (old mid new : PlanFields) (f : List ℕ → X → List ℕ) (g : X → ℕ) (xs : List X) (a b c : ℕ) → a ≤ b → b ≤ c
    → IsBehind old mid (λ file. flat_map (f file) (take (b - a) (drop a xs))) (sum_by g (take (b - a) (drop a xs)))
    → IsBehind mid new (λ file. flat_map (f file) (take (c - b) (drop b xs))) (sum_by g (take (c - b) (drop b xs)))
    → IsBehind old new (λ file. flat_map (f file) (take (c - a) (drop a xs))) (sum_by g (take (c - a) (drop a xs)))
step_both old mid new f g xs a b c lo hi one two =
    let front = take (b - a) (drop a xs) in
    let rest = take (c - b) (drop b xs) in
    let whole : take (c - a) (drop a xs) ≡ front ++ rest = piece_join xs a b c lo hi in
    let sum = sum_by-append g front rest in
    let all = ap (sum_by g) whole in
    behind_same old new (λ file. flat_map (f file) front ++ flat_map (f file) rest) (λ file. flat_map (f file) (take (c - a) (drop a xs))) (sum_by g front + sum_by g rest) (sum_by g (take (c - a) (drop a xs)))
    (behind_both old mid new (λ file. flat_map (f file) front) (λ file. flat_map (f file) rest) (sum_by g front) (sum_by g rest) one two)
    (λ file. sym (ap (flat_map (f file)) whole ∙ flat_map-append (f file) front rest))
    (omega (arith, sum, all))

-- ---- a packet

-- one that is kept
pub packet_kept : (t : TileCut) (old new : PlanFields) (v : Entered) → is_kept t v ≡ true
    → IsBehind old new (λ file. slice_of file (t.start + v.1.start, t.start + v.1.end)) (t.start + v.1.end - (t.start + v.1.start))
    → IsBehind old new (λ file. tile_packet t file v) (tile_packet_size t v)
packet_kept t old new v kept is =
    let size : t.start + v.1.end - (t.start + v.1.start) ≡ v.1.end - v.1.start = omega arith in
    behind_same old new (λ file. slice_of file (t.start + v.1.start, t.start + v.1.end)) (λ file. tile_packet t file v) (t.start + v.1.end - (t.start + v.1.start)) (tile_packet_size t v) is
    (λ file. sym (ap (λ b. cond b (slice_of file (t.start + v.1.start, t.start + v.1.end)) (sop_written v.1.counter ++ (0 ∷ eph_text t.eph))) kept))
    (size ∙ sym (ap (λ b. cond b (v.1.end - v.1.start) (length (sop_written v.1.counter) + length (0 ∷ eph_text t.eph))) kept))

-- an empty one
pub packet_emptied : (t : TileCut) (old new : PlanFields) (v : Entered) → is_kept t v ≡ false
    → IsBehind old new (λ _. sop_written v.1.counter ++ (0 ∷ eph_text t.eph)) (length (sop_written v.1.counter) + length (0 ∷ eph_text t.eph))
    → IsBehind old new (λ file. tile_packet t file v) (tile_packet_size t v)
packet_emptied t old new v kept is =
    behind_same old new (λ _. sop_written v.1.counter ++ (0 ∷ eph_text t.eph)) (λ file. tile_packet t file v) (length (sop_written v.1.counter) + length (0 ∷ eph_text t.eph)) (tile_packet_size t v) is
    (λ file. sym (ap (λ b. cond b (slice_of file (t.start + v.1.start, t.start + v.1.end)) (sop_written v.1.counter ++ (0 ∷ eph_text t.eph))) kept))
    (sym (ap (λ b. cond b (v.1.end - v.1.start) (length (sop_written v.1.counter) + length (0 ∷ eph_text t.eph))) kept))

-- ---- a gap

pub texts_none : (eph : Bool) → emptied_texts eph 0 ≡ []
unfolding emptied_texts
texts_none eph = refl

pub texts_more : (eph : Bool) (n : ℕ) → emptied_texts eph (suc n) ≡ (0 ∷ eph_text eph) ++ emptied_texts eph n
unfolding emptied_texts
texts_more eph n = refl

pub texts_both : (eph : Bool) (m n : ℕ) → emptied_texts eph (m + n) ≡ emptied_texts eph m ++ emptied_texts eph n
texts_both eph zero n = let is : zero + n ≡ n = omega arith in ap (emptied_texts eph) is ∙ sym (ap (λ (xs : List ℕ). xs ++ emptied_texts eph n) (texts_none eph))
texts_both eph (suc m) n =
    let is : suc m + n ≡ suc (m + n) = omega arith in
    ap (emptied_texts eph) is ∙ texts_more eph (m + n)
    ∙ ap (λ (xs : List ℕ). (0 ∷ eph_text eph) ++ xs) (texts_both eph m n)
    ∙ sym (append_assoc (0 ∷ eph_text eph) (emptied_texts eph m) (emptied_texts eph n))
    ∙ sym (ap (λ (xs : List ℕ). xs ++ emptied_texts eph n) (texts_more eph m))

pub texts_length : (eph : Bool) (n : ℕ) → length (emptied_texts eph n) ≡ n * length (0 ∷ eph_text eph)
texts_length eph zero = ap (λ (xs : List ℕ). length xs) (texts_none eph) ∙ (let is : 0 ≡ 0 * length (0 ∷ eph_text eph) = omega arith in is)
texts_length eph (suc n) =
    let more = ap (λ (xs : List ℕ). length xs) (texts_more eph n) in
    let both = length-append (0 ∷ eph_text eph) (emptied_texts eph n) in
    let rest = texts_length eph n in
    let whole : suc n * length (0 ∷ eph_text eph) ≡ length (0 ∷ eph_text eph) + n * length (0 ∷ eph_text eph) = omega arith in
    omega (arith, more, both, rest, whole)

-- so many empty packets behind a plan, block by block
pub emptied_starts : (p : PlanFields) (count : ℕ) (eph : Bool) → IsBehind p p (λ _. emptied_texts eph (count - count)) ((count - count) * length (0 ∷ eph_text eph))
emptied_starts p count eph =
    let none : count - count ≡ 0 = omega arith in
    behind_same p p (λ _. []) (λ _. emptied_texts eph (count - count)) 0 ((count - count) * length (0 ∷ eph_text eph)) (behind_none p)
    (λ file. sym (ap (emptied_texts eph) none ∙ texts_none eph))
    (sym (ap (λ k. k * length (0 ∷ eph_text eph)) none ∙ (let is : 0 * length (0 ∷ eph_text eph) ≡ 0 = omega arith in is)))

pub emptied_more : (old mid new : PlanFields) (count left some : ℕ) (eph : Bool) (text : List ℕ) → left ≤ count → some ≤ left → text ≡ emptied_texts eph some
    → IsBehind old mid (λ _. emptied_texts eph (count - left)) ((count - left) * length (0 ∷ eph_text eph)) → IsBehind mid new (λ _. text) (length text)
    → IsBehind old new (λ _. emptied_texts eph (count - (left - some))) ((count - (left - some)) * length (0 ∷ eph_text eph))
emptied_more old mid new count left some eph text few within own before one =
    let size = length (0 ∷ eph_text eph) in
    let sum : count - (left - some) ≡ (count - left) + some = omega (arith, few, within) in
    let long : length text ≡ some * size = ap (λ (xs : List ℕ). length xs) own ∙ texts_length eph some in
    let parts : ((count - left) + some) * size ≡ (count - left) * size + some * size = omega arith in
    let whole = ap (λ k. k * size) sum in
    behind_same old new (λ _. emptied_texts eph (count - left) ++ text) (λ _. emptied_texts eph (count - (left - some))) ((count - left) * size + length text) ((count - (left - some)) * size)
    (behind_both old mid new (λ _. emptied_texts eph (count - left)) (λ _. text) ((count - left) * size) (length text) before one)
    (λ file. ap (λ (xs : List ℕ). emptied_texts eph (count - left) ++ xs) own ∙ sym (ap (emptied_texts eph) sum ∙ texts_both eph (count - left) some))
    (omega (arith, long, parts, whole))

pub emptied_over : (old new : PlanFields) (count left : ℕ) (eph : Bool) → left ≡ 0 → IsBehind old new (λ _. emptied_texts eph (count - left)) ((count - left) * length (0 ∷ eph_text eph))
    → IsBehind old new (λ _. emptied_texts eph count) (count * length (0 ∷ eph_text eph))
emptied_over old new count left eph none is =
    let all : count - left ≡ count = omega (arith, none) in
    subst (λ k. IsBehind old new (λ _. emptied_texts eph k) (k * length (0 ∷ eph_text eph))) all is

-- a packet that is emptied and has no SOP
abbrev pub IsBare : (PacketName → Bool) → Entered → Type 0
IsBare keep v = (keep v.0 ≡ false) × (v.1.counter ≡ None)

bare_text : (file : List ℕ) (start : ℕ) (keep : PacketName → Bool) (eph : Bool) (v : Entered) → IsBare keep v → packet_from file start keep eph v ≡ 0 ∷ eph_text eph
bare_text file start keep eph v is =
    ap (λ b. cond b (slice_of file (start + v.1.start, start + v.1.end)) (sop_written v.1.counter ++ (0 ∷ eph_text eph))) is.0
    ∙ ap (λ (c : Option (ℕ × ℕ)). sop_written c ++ (0 ∷ eph_text eph)) is.1

bare_size : (keep : PacketName → Bool) (eph : Bool) (v : Entered) → IsBare keep v → packet_size keep eph v ≡ length (0 ∷ eph_text eph)
bare_size keep eph v is =
    ap (λ b. cond b (v.1.end - v.1.start) (length (sop_written v.1.counter) + length (0 ∷ eph_text eph))) is.0
    ∙ ap (λ (c : Option (ℕ × ℕ)). length (sop_written c) + length (0 ∷ eph_text eph)) is.1
    ∙ (let is : 0 + length (0 ∷ eph_text eph) ≡ length (0 ∷ eph_text eph) = omega arith in is)

pub bare_texts : (file : List ℕ) (start : ℕ) (keep : PacketName → Bool) (eph : Bool) (vs : List Entered) → AllByRecursion (IsBare keep) vs → flat_map (packet_from file start keep eph) vs ≡ emptied_texts eph (length vs)
bare_texts file start keep eph [] all = sym (texts_none eph)
bare_texts file start keep eph (v ∷ vs) all =
    (λ j. bare_text file start keep eph v all.0 j ++ bare_texts file start keep eph vs all.1 j) ∙ sym (texts_more eph (length vs))

pub bare_sizes : (keep : PacketName → Bool) (eph : Bool) (vs : List Entered) → AllByRecursion (IsBare keep) vs → sum_by (packet_size keep eph) vs ≡ length vs * length (0 ∷ eph_text eph)
bare_sizes keep eph [] all = omega arith
bare_sizes keep eph (v ∷ vs) all =
    let sum = sum_by-cons (packet_size keep eph) v vs in
    let here = bare_size keep eph v all.0 in
    let more = bare_sizes keep eph vs all.1 in
    let whole : suc (length vs) * length (0 ∷ eph_text eph) ≡ length (0 ∷ eph_text eph) + length vs * length (0 ∷ eph_text eph) = omega arith in
    omega (arith, sum, here, more, whole)

none_at : (entries : List PacketEntry) (i : ℕ) (e : PacketEntry) → HaveNoCounters entries → i < length entries → (get_or entries i e).counter ≡ None
none_at [] i e none lt = absurd (omega arith)
none_at (x ∷ entries) zero e none lt = none.0
none_at (x ∷ entries) (suc i) e none lt = none_at entries i e none.1 (omega arith)

all_bare : (t : TileCut) (first behind : ℕ) → length t.entries.now ≡ packet_count t.shape.now → AreAll t first behind false → HaveNoCounters t.entries.now → first ≤ behind → behind ≤ length t.entries.now
    → AllByRecursion (IsBare (wanted t.shape.now t.top t.reduce t.layers)) (numbered (packets_in t) first behind)
all_bare t first behind all are none order within =
    let long = packets_long t all in
    piece_all (IsBare (wanted t.shape.now t.top t.reduce t.layers)) (packets_in t) (no_name, no_entry) (behind - first) first (omega (arith, long, order, within))
    (λ i lo hi.
    let less : i < behind = omega (arith, hi, order) in
    let at : i < length t.entries.now = omega (arith, less, within) in (
      kept_at t first behind i false all are lo less within,
      ap (λ (v : Entered). v.1.counter) (packet_at t i no_name no_entry all at) ∙ none_at t.entries.now i no_entry none at,
    ))

pub gap_planned : (t : TileCut) (old new : PlanFields) (first behind : ℕ) → length t.entries.now ≡ packet_count t.shape.now → AreAll t first behind false → HaveNoCounters t.entries.now → first ≤ behind → behind ≤ length t.entries.now
    → IsBehind old new (λ _. emptied_texts t.eph (behind - first)) ((behind - first) * length (0 ∷ eph_text t.eph))
    → IsBehind old new (λ file. flat_map (tile_packet t file) (numbered (packets_in t) first behind)) (sum_by (tile_packet_size t) (numbered (packets_in t) first behind))
gap_planned t old new first behind all are none order within is =
    let bare = all_bare t first behind all are none order within in
    let run = numbered (packets_in t) first behind in
    let packets = packets_long t all in
    let long : length run ≡ behind - first = piece_length (packets_in t) first behind order (omega (arith, packets, within)) in
    behind_same old new (λ _. emptied_texts t.eph (behind - first)) (λ file. flat_map (tile_packet t file) run) ((behind - first) * length (0 ∷ eph_text t.eph)) (sum_by (tile_packet_size t) run) is
    (λ file. sym (bare_texts file t.start (wanted t.shape.now t.top t.reduce t.layers) t.eph run bare ∙ ap (emptied_texts t.eph) long))
    (sym (bare_sizes (wanted t.shape.now t.top t.reduce t.layers) t.eph run bare ∙ ap (λ k. k * length (0 ∷ eph_text t.eph)) long))

-- ---- packet by packet

entry_at : (t : TileCut) (entries : List PacketEntry) (i : ℕ) (e : PacketEntry) → entries ≡ t.entries.now → length t.entries.now ≡ packet_count t.shape.now → i < length t.entries.now
    → (get_or (packets_in t) i (no_name, e)).1 ≡ get_or entries i e
entry_at t entries i e same all lt = ap (λ (v : Entered). v.1) (packet_at t i no_name e all lt) ∙ ap (λ (es : List PacketEntry). get_or es i e) (sym same)

kept_here : (t : TileCut) (first behind i : ℕ) (e : PacketEntry) (kept : Bool) → length t.entries.now ≡ packet_count t.shape.now → AreAll t first behind kept → first ≤ i → i < behind → behind ≤ length t.entries.now
    → is_kept t (get_or (packets_in t) i (no_name, e)) ≡ kept
kept_here t first behind i e kept all are lo hi within =
    let at : i < length t.entries.now = omega (arith, hi, within) in
    let same : (get_or (packets_in t) i (no_name, e)).0 ≡ (get_or (packets_in t) i (no_name, no_entry)).0 =
    ap (λ (v : Entered). v.0) (packet_at t i no_name e all at) ∙ sym (ap (λ (v : Entered). v.0) (packet_at t i no_name no_entry all at)) in
    ap (wanted t.shape.now t.top t.reduce t.layers) same ∙ kept_at t first behind i kept all are lo hi within

pub gap_more : (t : TileCut) (old mid new : PlanFields) (first behind i : ℕ) (entries : List PacketEntry) (e : PacketEntry) → entries ≡ t.entries.now → length t.entries.now ≡ packet_count t.shape.now → AreAll t first behind false
    → first ≤ i → i < behind → behind ≤ length t.entries.now
    → IsBehind old mid (λ file. flat_map (tile_packet t file) (numbered (packets_in t) first i)) (sum_by (tile_packet_size t) (numbered (packets_in t) first i))
    → IsBehind mid new (λ _. sop_written (get_or entries i e).counter ++ (0 ∷ eph_text t.eph)) (length (sop_written (get_or entries i e).counter) + length (0 ∷ eph_text t.eph))
    → IsBehind old new (λ file. flat_map (tile_packet t file) (numbered (packets_in t) first (i + 1))) (sum_by (tile_packet_size t) (numbered (packets_in t) first (i + 1)))
gap_more t old mid new first behind i entries e same all are lo hi within before one =
    let at : i < length t.entries.now = omega (arith, hi, within) in
    let v = get_or (packets_in t) i (no_name, e) in
    let long = packets_long t all in
    let own = entry_at t entries i e same all at in
    step_more old mid new (λ file w. tile_packet t file w) (tile_packet_size t) (packets_in t) first i (no_name, e) v lo (omega (arith, long, at)) refl before
    (packet_emptied t mid new v (kept_here t first behind i e false all are lo hi within)
    (subst (λ (x : PacketEntry). IsBehind mid new (λ _. sop_written x.counter ++ (0 ∷ eph_text t.eph)) (length (sop_written x.counter) + length (0 ∷ eph_text t.eph))) (sym own) one))

pub kept_more : (t : TileCut) (old mid new : PlanFields) (first behind i : ℕ) (entries : List PacketEntry) (e : PacketEntry) → entries ≡ t.entries.now → length t.entries.now ≡ packet_count t.shape.now → AreAll t first behind true
    → first ≤ i → i < behind → behind ≤ length t.entries.now
    → IsBehind old mid (λ file. flat_map (tile_packet t file) (numbered (packets_in t) first i)) (sum_by (tile_packet_size t) (numbered (packets_in t) first i))
    → IsBehind mid new (λ file. slice_of file (t.start + (get_or entries i e).start, t.start + (get_or entries i e).end)) (t.start + (get_or entries i e).end - (t.start + (get_or entries i e).start))
    → IsBehind old new (λ file. flat_map (tile_packet t file) (numbered (packets_in t) first (i + 1))) (sum_by (tile_packet_size t) (numbered (packets_in t) first (i + 1)))
kept_more t old mid new first behind i entries e same all are lo hi within before one =
    let at : i < length t.entries.now = omega (arith, hi, within) in
    let v = get_or (packets_in t) i (no_name, e) in
    let long = packets_long t all in
    let own = entry_at t entries i e same all at in
    step_more old mid new (λ file w. tile_packet t file w) (tile_packet_size t) (packets_in t) first i (no_name, e) v lo (omega (arith, long, at)) refl before
    (packet_kept t mid new v (kept_here t first behind i e true all are lo hi within)
    (subst (λ (x : PacketEntry). IsBehind mid new (λ file. slice_of file (t.start + x.start, t.start + x.end)) (t.start + x.end - (t.start + x.start))) (sym own) one))

-- ---- a part

pub run_starts : (n : ℕ) (t : TileCut) (first : ℕ) (plan : PlanFields) → plan ≡ plan_of [] [] n → IsRunPlan n t (numbered (packets_in t) first first) plan
run_starts n t first plan e =
    let none = piece_none (packets_in t) first first (omega arith) in
    subst (λ (p : PlanFields). IsRunPlan n t (numbered (packets_in t) first first) p) (sym e) (record {
      size = refl;
      text = λ file. planned-nil file [] ∙ sym (ap (flat_map (tile_packet t file)) none);
      long = sym (ap (sum_by (tile_packet_size t)) none);
    })

pub run_goes : (n : ℕ) (t : TileCut) (first at behind : ℕ) (plan new : PlanFields) → first ≤ at → at ≤ behind → IsRunPlan n t (numbered (packets_in t) first at) plan
    → IsBehind plan new (λ file. flat_map (tile_packet t file) (numbered (packets_in t) at behind)) (sum_by (tile_packet_size t) (numbered (packets_in t) at behind))
    → IsRunPlan n t (numbered (packets_in t) first behind) new
run_goes n t first at behind plan new lo hi run is =
    let front = numbered (packets_in t) first at in
    let rest = numbered (packets_in t) at behind in
    let whole : numbered (packets_in t) first behind ≡ front ++ rest = piece_join (packets_in t) first at behind lo hi in
    let sum = sum_by-append (tile_packet_size t) front rest in
    let all = ap (sum_by (tile_packet_size t)) whole in
    let before = run.long in
    let more = is.long in
    record {
      size = is.size ∙ run.size;
      text = λ file.
          is.made file ∙ ap (λ (xs : List ℕ). xs ++ flat_map (tile_packet t file) rest) (run.text file)
          ∙ sym (flat_map-append (tile_packet t file) front rest) ∙ ap (flat_map (tile_packet t file)) (sym whole);
      long = omega (arith, sum, all, before, more);
    }

-- ---- all parts

zip_pushed : {A B : Type 0} (P : A → B → Type 0) (xs : List A) (ys : List B) (x : A) (y : B) → AllZip P xs ys → P x y → AllZip P (xs ++ x ∷ []) (ys ++ y ∷ [])
zip_pushed P [] [] x y all is = (is, tt)
zip_pushed P [] (b ∷ ys) x y all is = absurd all
zip_pushed P (a ∷ xs) [] x y all is = absurd all
zip_pushed P (a ∷ xs) (b ∷ ys) x y all is = (all.0, zip_pushed P xs ys x y all.1 is)

-- So far the first k parts are planned.
pub record AreCut (n : ℕ) (t : TileCut) (ends : List ℕ) (plans : List PlanFields) (k first : ℕ) : Type 0 where
  pub done : List (List Entered)
  pub planned_so : AllZip (IsRunPlan n t) done plans
  pub goes : done ++ cut_at (packets_in t) first (drop k ends) ≡ cut_at (packets_in t) 0 ends
  pub left : AreEnds first (length t.entries.now) (drop k ends)

pub cuts_start : (n : ℕ) (t : TileCut) (ends : List ℕ) (plans : List PlanFields) → plans ≡ [] → AreEnds 0 (length t.entries.now) ends → AreCut n t ends plans 0 0
cuts_start n t ends plans e left = record { done = []; planned_so = subst (AllZip (IsRunPlan n t) []) (sym e) tt; goes = refl; left = left }

-- what is known of the next part
pub cut_next : (n : ℕ) (t : TileCut) (ends : List ℕ) (plans : List PlanFields) (k first e d : ℕ) → AreCut n t ends plans k first → k < length ends → e ≡ get_or ends k d
    → (first ≤ e) × (e ≤ length t.entries.now) × AreEnds e (length t.entries.now) (drop (k + 1) ends)
cut_next n t ends plans k first e d g lt own =
    let here : drop k ends ≡ e ∷ drop (k + 1) ends = drop_more ends k d lt ∙ ap (λ x. x ∷ drop (k + 1) ends) (sym own) in
    ends_cons first (length t.entries.now) e (drop (k + 1) ends) (subst (AreEnds first (length t.entries.now)) here g.left)

pub cuts_more : (n : ℕ) (t : TileCut) (ends : List ℕ) (plans new : List PlanFields) (k first e d : ℕ) (plan : PlanFields) → AreCut n t ends plans k first → k < length ends → e ≡ get_or ends k d
    → IsRunPlan n t (numbered (packets_in t) first e) plan → new ≡ plans ++ plan ∷ [] → AreCut n t ends new (k + 1) e
cuts_more n t ends plans new k first e d plan g lt own is pushed =
    let packets = packets_in t in
    let run = numbered packets first e in
    let here : drop k ends ≡ e ∷ drop (k + 1) ends = drop_more ends k d lt ∙ ap (λ x. x ∷ drop (k + 1) ends) (sym own) in
    record {
      done = g.done ++ run ∷ [];
      planned_so = subst (AllZip (IsRunPlan n t) (g.done ++ run ∷ [])) (sym pushed) (zip_pushed (IsRunPlan n t) g.done plans run plan g.planned_so is);
      goes =
          append_assoc g.done (run ∷ []) (cut_at packets e (drop (k + 1) ends))
          ∙ ap (λ (xs : List (List Entered)). g.done ++ xs) (sym (ap (cut_at packets first) here ∙ cut-cons packets first e (drop (k + 1) ends)))
          ∙ g.goes;
      left = (cut_next n t ends plans k first e d g lt own).2;
    }

pub cuts_over : (n : ℕ) (t : TileCut) (ends : List ℕ) (plans : List PlanFields) (k first : ℕ) → AreCut n t ends plans k first → length ends ≤ k → AllZip (IsRunPlan n t) (cut_at (packets_in t) 0 ends) plans
cuts_over n t ends plans k first g past =
    let none : cut_at (packets_in t) first (drop k ends) ≡ [] = ap (cut_at (packets_in t) first) (drop_all k ends past) ∙ cut-nil (packets_in t) first in
    subst (λ (xs : List (List Entered)). AllZip (IsRunPlan n t) xs plans) (sym (append-nil g.done) ∙ ap (λ (xs : List (List Entered)). g.done ++ xs) (sym none) ∙ g.goes) g.planned_so
