-- The packets of a tile, as they are written one behind another.
use Rattle.std.proofs.Common.{◌≡◌, ℕ, zero, suc, ◌+◌, ◌-◌, ◌*◌, ◌<◌, ◌≤◌, Bool, true, false, List, [], ◌∷◌, ◌++◌, length, get_or, drop, replicate, Some, None, slice_get, refl, sym, ap, subst, ◌∙◌, inl, inr, arith, append_assoc, append-nil}
use Rattle.std.specs.Prelude.{◌==◌, ◌&&◌}
use Rattle.std.specs.List.{flat_map}
use Rattle.std.proofs.lemmas.Bool.{cases_Bool, cond-true, cond-false, and_from, eq-eqb}
use Rattle.std.proofs.lemmas.List.{get_or-replicate, length-replicate, nil_from_length}
use Rattle.jk_marks.specs.declared.coding.Coding.{Coding}
use Rattle.jk_geom.specs.declared.shape.TileShape.{TileShape}
use Rattle.jk_geom.specs.declared.shape.PacketName.{PacketName}
use Rattle.jk_geom.specs.Precincts.{precinct_number}
use Rattle.jk_geom.specs.Counts.{precincts_below}
use Rattle.jk_geom.specs.TileShapes.{coding_of}
use Rattle.jk_order.specs.PacketOrder.{IsName, is_of, order, packet_count}
use Rattle.jk_order.specs.Streams.{Walk, PacketsLeft}
use Rattle.jk_order.proofs.Laws.{length_of, order_is}
use Rattle.jk_packet.specs.Written.{Table, PrecinctTables, part_in, bodies_text, packet_in, banded}
use Rattle.jk_packet.proofs.PrecinctWriting.{bodies_flat}
use Rattle.jk_walk.specs.TilePackets.{bands_at}
use Rattle.jk_walk.proofs.Laws.{Counts, one_more, no_counts, AreTurns, at_own, order_turns}
use Rattle.jk_tile.specs.encoding.PacketsWritten.{Tables, written_packet, written_text}
use Rattle.jk_tile.specs.encoding.TileWriters.{index_of, list_of, tables_in, writer_at, WriterSlot, writer_of, kept_writer, writer_in, text_by, IsPrecinctList}
use Rattle.jk_tile.proofs.encoding.TileIndex.{index_below, index_apart}

-- a writer of a precinct that has written so many layers
abbrev pub writing_at : TileShape → Coding → (sop eph : Bool) → Tables → Counts → (c r n : ℕ) → PrecinctTables
writing_at s k sop eph tables counts c r n = record {
  shapes = bands_at s.rect k r n;
  sop = sop;
  eph = eph;
  layers = s.layers;
  tables = tables c r n;
  written = counts c r n;
  failed = false;
}

-- The writers of the precincts of the tile that have layers left: kept from the first one on, and blank before.
pub record AreWriters (s : TileShape) (k : Coding) (sop eph : Bool) (lists : List (List Table)) (counts : Counts) (ws : List WriterSlot) : Type 0 where
  pub long : length ws ≡ length s.codings * precincts_below s.rect k (k.levels + 1)
  pub each : (c r n : ℕ) → c < length s.codings → r ≤ k.levels → n < precinct_number s.rect k r → counts c r n < s.layers
      → kept_writer ws (index_of s.rect k c r n) (writer_at s.rect k sop eph s.layers (list_of s.rect k lists c r n) r n) ≡ writing_at s k sop eph (tables_in s.rect k lists) counts c r n

-- The names that are left, how many layers of each precinct were written, and that the text goes on from there.
pub record IsWritingTile (s : TileShape) (k : Coding) (sop eph : Bool) (lists : List (List Table)) (packets : Walk) (ws : List WriterSlot) (out : List ℕ) (number more : ℕ) : Type 0 where
  pub names : List PacketName
  pub counts : Counts
  pub follow : PacketsLeft packets names
  pub count : length names ≡ more
  pub turns : AreTurns s counts names
  pub writers : AreWriters s k sop eph lists counts ws
  pub goes : written_text s sop eph (tables_in s.rect k lists) 0 (order s) ≡ out ++ written_text s sop eph (tables_in s.rect k lists) number names

-- ---- components are coded alike

pub own_coding : (s : TileShape) (k : Coding) (c : ℕ) → s.codings ≡ replicate (length s.codings) k → c < length s.codings → coding_of s.codings c ≡ k
own_coding s k c alike lt = ap (λ (ks : List Coding). coding_of ks c) alike ∙ get_or-replicate (length s.codings) c k _ lt

-- a packet's place
pub record IsPlaceName (s : TileShape) (k : Coding) (n : PacketName) : Type 0 where
  pub component : n.component < length s.codings
  pub resolution : n.resolution ≤ k.levels
  pub precinct : n.precinct < precinct_number s.rect k n.resolution

its_place : (s : TileShape) (k : Coding) (n : PacketName) → s.codings ≡ replicate (length s.codings) k → IsName s n → IsPlaceName s k n
its_place s k n alike is =
    let own = own_coding s k n.component alike is.component in
    record {
      component = is.component;
      resolution = subst (λ (j : Coding). n.resolution ≤ j.levels) own is.resolution;
      precinct = subst (λ (j : Coding). n.precinct < precinct_number s.rect j n.resolution) own is.precinct;
    }

-- ---- the walk

abbrev no_slot : WriterSlot
no_slot = None

none_kept : (m i : ℕ) → get_or (replicate m no_slot) i no_slot ≡ no_slot
none_kept zero i = refl
none_kept (suc m) zero = refl
none_kept (suc m) (suc i) = none_kept m i

pub writing_starts : (s : TileShape) (k : Coding) (sop eph : Bool) (lists : List (List Table)) (m : ℕ) (packets : Walk) (ws : List WriterSlot) (out : List ℕ) → PacketsLeft packets (order s)
    → length lists ≡ length s.codings * precincts_below s.rect k (k.levels + 1) → m ≡ length lists → ws ≡ replicate m None → out ≡ [] → IsWritingTile s k sop eph lists packets ws out 0 (packet_count s)
writing_starts s k sop eph lists m packets ws out follow all long made none = record {
  names = order s;
  counts = no_counts;
  follow = follow;
  count = length_of s (order s) (order_is s);
  turns = order_turns s;
  writers = record {
    long = ap (λ (xs : List WriterSlot). length xs) made ∙ length-replicate m no_slot ∙ long ∙ all;
    each = λ c r n lt le some more.
        (let blank = writer_at s.rect k sop eph s.layers (list_of s.rect k lists c r n) r n in
        ap (λ (xs : List WriterSlot). kept_writer xs (index_of s.rect k c r n) blank) made ∙ ap (λ (w : WriterSlot). writer_of w blank) (none_kept m (index_of s.rect k c r n)));
  };
  goes = ap (λ (xs : List ℕ). xs ++ written_text s sop eph (tables_in s.rect k lists) 0 (order s)) (sym none);
}

-- the next packet, whose precinct has these tables
pub record IsNext (s : TileShape) (k : Coding) (sop eph : Bool) (lists : List (List Table)) (ws : List WriterSlot) (counts : Counts) (n : PacketName) (own : List Table) (place : ℕ) : Type 0 where
  pub name : IsName s n
  pub named : IsPlaceName s k n
  pub turn : n.layer ≡ counts n.component n.resolution n.precinct
  pub within : place < length ws
  pub writer : writer_in s k sop eph own ws place n ≡ writing_at s k sop eph (tables_in s.rect k lists) counts n.component n.resolution n.precinct

first_is : (xs : List PacketName) (x : PacketName) → Some x ≡ slice_get xs 0 → xs ≡ x ∷ drop 1 xs
first_is [] x e = absurd cc
first_is (y ∷ xs) x e = let same : x ≡ y = cc in ap (λ (z : PacketName). z ∷ xs) (sym same)

none_is : (xs : List PacketName) → None ≡ slice_get xs 0 → xs ≡ []
none_is [] e = refl
none_is (y ∷ xs) e = absurd cc

its_turns : (s : TileShape) (counts : Counts) (names : List PacketName) (n : PacketName) → AreTurns s counts names → Some n ≡ slice_get names 0 → AreTurns s counts (n ∷ drop 1 names)
its_turns s counts names n turns e = subst (AreTurns s counts) (first_is names n e) turns

pub named_next : (s : TileShape) (k : Coding) (sop eph : Bool) (lists : List (List Table)) (packets : Walk) (ws : List WriterSlot) (out : List ℕ) (number more : ℕ) (n : PacketName)
    → s.codings ≡ replicate (length s.codings) k → (w : IsWritingTile s k sop eph lists packets ws out number more) → Some n ≡ slice_get w.names 0 → IsPlaceName s k n
named_next s k sop eph lists packets ws out number more n alike w e = its_place s k n alike (its_turns s w.counts w.names n w.turns e).0

-- where its tables and its writer stand
pub within_lists : (s : TileShape) (k : Coding) (n : PacketName) (place size : ℕ) → IsPlaceName s k n → place ≡ index_of s.rect k n.component n.resolution n.precinct
    → size ≡ length s.codings * precincts_below s.rect k (k.levels + 1) → place < size
within_lists s k n place size named at long =
    let below = index_below s.rect k (length s.codings) n.component n.resolution n.precinct named.component named.resolution named.precinct in
    omega (arith, at, below, long)

pub next_is : (s : TileShape) (k : Coding) (sop eph : Bool) (lists : List (List Table)) (packets : Walk) (ws : List WriterSlot) (out : List ℕ) (number more : ℕ) (n : PacketName) (own : List Table) (place : ℕ)
    → s.codings ≡ replicate (length s.codings) k → (w : IsWritingTile s k sop eph lists packets ws out number more) → Some n ≡ slice_get w.names 0 → place ≡ index_of s.rect k n.component n.resolution n.precinct
    → own ≡ list_of s.rect k lists n.component n.resolution n.precinct → IsNext s k sop eph lists ws w.counts n own place
next_is s k sop eph lists packets ws out number more n own place alike w e at due =
    let turns = its_turns s w.counts w.names n w.turns e in
    let named = its_place s k n alike turns.0 in
    let list = list_of s.rect k lists n.component n.resolution n.precinct in
    record {
      name = turns.0;
      named = named;
      turn = turns.1;
      within = within_lists s k n place (length ws) named at w.writers.long;
      writer =
          ap (λ (ts : List Table). writer_in s k sop eph ts ws place n) due
          ∙ ap (λ i. kept_writer ws i (writer_at s.rect k sop eph s.layers list n.resolution n.precinct)) at
          ∙ w.writers.each n.component n.resolution n.precinct named.component named.resolution named.precinct (subst (λ l. l < s.layers) turns.1 turns.0.layer);
    }

-- the writers after it
writers_next : (s : TileShape) (k : Coding) (sop eph : Bool) (lists : List (List Table)) (counts : Counts) (ws new : List WriterSlot) (n : PacketName) (own : List Table) (place : ℕ)
    → AreWriters s k sop eph lists counts ws → IsNext s k sop eph lists ws counts n own place → place ≡ index_of s.rect k n.component n.resolution n.precinct → length new ≡ length ws
    → (n.layer + 1 < s.layers → (blank : PrecinctTables) → kept_writer new place blank ≡ record (writer_in s k sop eph own ws place n) { written = n.layer + 1 })
    → ((blank : PrecinctTables) (i : ℕ) → (i ≡ place → ⊥) → kept_writer new i blank ≡ kept_writer ws i blank) → AreWriters s k sop eph lists (one_more counts n) new
writers_next s k sop eph lists counts ws new n own place are next at long here others = record {
  long = long ∙ are.long;
  each = λ c r m lt le some left.
      (let blank = writer_at s.rect k sop eph s.layers (list_of s.rect k lists c r m) r m in
      elim (cases_Bool (is_of c r m n)) [
        | inl mine ↦ (let same = at_own (index_of s.rect k) c r m n mine in
            let now = cond-true (is_of c r m n) (counts c r m + 1) (counts c r m) mine in
            let counted : counts n.component n.resolution n.precinct ≡ counts c r m = at_own counts c r m n mine in
            let layer : n.layer + 1 ≡ counts c r m + 1 = ap (λ l. l + 1) (next.turn ∙ counted) in
            ap (λ i. kept_writer new i blank) (sym same ∙ sym at) ∙ here (subst (λ l. l < s.layers) (now ∙ sym layer) left) blank
            ∙ ap (λ (w : PrecinctTables). record w { written = n.layer + 1 }) next.writer
            ∙ ap (λ l. record (writing_at s k sop eph (tables_in s.rect k lists) counts n.component n.resolution n.precinct) { written = l }) (ap (λ l. l + 1) next.turn)
            ∙ at_own (λ c r m. writing_at s k sop eph (tables_in s.rect k lists) (λ c r m. counts c r m + 1) c r m) c r m n mine
            ∙ ap (λ x. record (writing_at s k sop eph (tables_in s.rect k lists) counts c r m) { written = x }) (sym now))
        | inr other ↦ (let now = cond-false (is_of c r m n) (counts c r m + 1) (counts c r m) other in
            others blank (index_of s.rect k c r m) (λ e. apart c r m le some other e) ∙ are.each c r m lt le some (subst (λ l. l < s.layers) now left)
            ∙ ap (λ x. record (writing_at s k sop eph (tables_in s.rect k lists) counts c r m) { written = x }) (sym now))
      ]);
}
  where
    apart : (c r m : ℕ) → r ≤ k.levels → m < precinct_number s.rect k r → is_of c r m n ≡ false → index_of s.rect k c r m ≡ place → ⊥
    apart c r m le some other e =
        let both = index_apart s.rect k c r m n.component n.resolution n.precinct le some next.named.resolution next.named.precinct (e ∙ at) in
        let own : is_of c r m n ≡ true = and_from (n.component == c) ((n.resolution == r) && (n.precinct == m)) (eq-eqb n.component c (sym both.0))
        (and_from (n.resolution == r) (n.precinct == m) (eq-eqb n.resolution r (sym both.1)) (eq-eqb n.precinct m (sym both.2))) in
        absurd cc

-- its text
text_next : (s : TileShape) (k : Coding) (sop eph : Bool) (lists : List (List Table)) (counts : Counts) (ws : List WriterSlot) (n : PacketName) (own : List Table) (names : List PacketName) (place number : ℕ)
    → s.codings ≡ replicate (length s.codings) k → (next : IsNext s k sop eph lists ws counts n own place)
    → written_text s sop eph (tables_in s.rect k lists) number (n ∷ names)
    ≡ text_by (writer_in s k sop eph own ws place n) number ++ written_text s sop eph (tables_in s.rect k lists) (number + 1) names
unfolding written_packet
text_next s k sop eph lists counts ws n own names place number alike next =
    let tables = tables_in s.rect k lists in
    ap (λ (xs : List ℕ). xs ++ written_text s sop eph tables (number + 1) names)
    (ap (λ (j : Coding). packet_in (bands_at s.rect j n.resolution n.precinct) sop eph (tables n.component n.resolution n.precinct) n.layer number) (own_coding s k n.component alike next.name.component)
    ∙ ap (λ l. packet_in (bands_at s.rect k n.resolution n.precinct) sop eph (tables n.component n.resolution n.precinct) l number) next.turn
    ∙ ap (λ (w : PrecinctTables). text_by w number) (sym next.writer))

-- the whole, by what was passed on, the next packet and those behind it
pub writing_ahead : (s : TileShape) (k : Coding) (sop eph : Bool) (lists : List (List Table)) (packets : Walk) (ws : List WriterSlot) (out : List ℕ) (number more : ℕ) (n : PacketName) (own : List Table) (place : ℕ)
    → s.codings ≡ replicate (length s.codings) k → (w : IsWritingTile s k sop eph lists packets ws out number more) → Some n ≡ slice_get w.names 0
    → place ≡ index_of s.rect k n.component n.resolution n.precinct → own ≡ list_of s.rect k lists n.component n.resolution n.precinct
    → written_text s sop eph (tables_in s.rect k lists) 0 (order s)
    ≡ out ++ (text_by (writer_in s k sop eph own ws place n) number ++ written_text s sop eph (tables_in s.rect k lists) (number + 1) (drop 1 w.names))
writing_ahead s k sop eph lists packets ws out number more n own place alike w e at due =
    let next = next_is s k sop eph lists packets ws out number more n own place alike w e at due in
    w.goes ∙ ap (λ (ns : List PacketName). out ++ written_text s sop eph (tables_in s.rect k lists) number ns) (first_is w.names n e)
    ∙ ap (λ (xs : List ℕ). out ++ xs) (text_next s k sop eph lists w.counts ws n own (drop 1 w.names) place number alike next)

pub writing_more : (s : TileShape) (k : Coding) (sop eph : Bool) (lists : List (List Table)) (packets after : Walk) (ws new : List WriterSlot) (out text : List ℕ) (number more : ℕ) (n : PacketName) (own : List Table) (place : ℕ)
    → s.codings ≡ replicate (length s.codings) k → (w : IsWritingTile s k sop eph lists packets ws out number more) → Some n ≡ slice_get w.names 0 → PacketsLeft after (drop 1 w.names)
    → place ≡ index_of s.rect k n.component n.resolution n.precinct → own ≡ list_of s.rect k lists n.component n.resolution n.precinct → length new ≡ length ws
    → (n.layer + 1 < s.layers → (blank : PrecinctTables) → kept_writer new place blank ≡ record (writer_in s k sop eph own ws place n) { written = n.layer + 1 })
    → ((blank : PrecinctTables) (i : ℕ) → (i ≡ place → ⊥) → kept_writer new i blank ≡ kept_writer ws i blank)
    → text ≡ out ++ text_by (writer_in s k sop eph own ws place n) number
    → IsWritingTile s k sop eph lists after new text (number + 1) (more - 1)
writing_more s k sop eph lists packets after ws new out text number more n own place alike w e left at due long here others gives =
    let next = next_is s k sop eph lists packets ws out number more n own place alike w e at due in
    let tables = tables_in s.rect k lists in
    let front = first_is w.names n e in
    let count = w.count in
    let more_names = ap (λ (ns : List PacketName). length ns) front in
    record {
      names = drop 1 w.names;
      counts = one_more w.counts n;
      follow = left;
      count = omega (arith, count, more_names);
      turns = (its_turns s w.counts w.names n w.turns e).2;
      writers = writers_next s k sop eph lists w.counts ws new n own place w.writers next at long here others;
      goes =
          writing_ahead s k sop eph lists packets ws out number more n own place alike w e at due
          ∙ sym (append_assoc out _ (written_text s sop eph tables (number + 1) (drop 1 w.names)))
          ∙ ap (λ (xs : List ℕ). xs ++ written_text s sop eph tables (number + 1) (drop 1 w.names)) (sym gives);
    }

pub writing_over : (s : TileShape) (k : Coding) (sop eph : Bool) (lists : List (List Table)) (packets : Walk) (ws : List WriterSlot) (out : List ℕ) (number more : ℕ)
    → (w : IsWritingTile s k sop eph lists packets ws out number more) → w.names ≡ [] → out ≡ written_text s sop eph (tables_in s.rect k lists) 0 (order s)
writing_over s k sop eph lists packets ws out number more w none =
    sym (w.goes ∙ ap (λ (ns : List PacketName). out ++ written_text s sop eph (tables_in s.rect k lists) number ns) none ∙ append-nil out)

pub counted_over : (s : TileShape) (k : Coding) (sop eph : Bool) (lists : List (List Table)) (packets : Walk) (ws : List WriterSlot) (out : List ℕ) (number more : ℕ)
    → (w : IsWritingTile s k sop eph lists packets ws out number more) → more ≡ 0 → w.names ≡ []
counted_over s k sop eph lists packets ws out number more w none = nil_from_length w.names (w.count ∙ none)

pub given_over : (s : TileShape) (k : Coding) (sop eph : Bool) (lists : List (List Table)) (packets : Walk) (ws : List WriterSlot) (out : List ℕ) (number more : ℕ)
    → (w : IsWritingTile s k sop eph lists packets ws out number more) → None ≡ slice_get w.names 0 → w.names ≡ []
given_over s k sop eph lists packets ws out number more w none = none_is w.names none

-- it has a layer left, which is its writer's next
pub next_more : (s : TileShape) (k : Coding) (sop eph : Bool) (lists : List (List Table)) (ws : List WriterSlot) (counts : Counts) (n : PacketName) (own : List Table) (place : ℕ) → IsNext s k sop eph lists ws counts n own place
    → n.layer < (writer_in s k sop eph own ws place n).layers
next_more s k sop eph lists ws counts n own place next = subst (λ (w : PrecinctTables). n.layer < w.layers) (sym next.writer) next.name.layer

pub next_layer : (s : TileShape) (k : Coding) (sop eph : Bool) (lists : List (List Table)) (ws : List WriterSlot) (counts : Counts) (n : PacketName) (own : List Table) (place : ℕ) → IsNext s k sop eph lists ws counts n own place
    → n.layer ≡ (writer_in s k sop eph own ws place n).written
next_layer s k sop eph lists ws counts n own place next = next.turn ∙ ap (λ (w : PrecinctTables). w.written) (sym next.writer)

-- what follows its header are the bodies of its precinct's tables
pub next_bodies : (s : TileShape) (k : Coding) (sop eph : Bool) (lists : List (List Table)) (ws : List WriterSlot) (counts : Counts) (n : PacketName) (own : List Table) (place : ℕ) → IsNext s k sop eph lists ws counts n own place
    → own ≡ list_of s.rect k lists n.component n.resolution n.precinct → IsPrecinctList s.rect k s.layers n.resolution n.precinct own
    → bodies_text (writer_in s k sop eph own ws place n).tables n.layer ≡ flat_map (λ t. (part_in t n.layer).1) own
next_bodies s k sop eph lists ws counts n own place next due list =
    let shapes = bands_at s.rect k n.resolution n.precinct in
    ap (λ (w : PrecinctTables). bodies_text w.tables n.layer) next.writer ∙ ap (λ (ts : List Table). bodies_text (banded shapes ts) n.layer) (sym due) ∙ sym (bodies_flat shapes own n.layer list.whole)
