-- The walk over the packets of a tile of a stored file, after some of them.
use Rattle.std.proofs.Common.{◌≡◌, ℕ, ◌+◌, ◌-◌, ◌*◌, ◌<◌, ◌≤◌, Bool, true, false, not, eqb, List, [], ◌∷◌, ◌++◌, length, drop, map, Some, Result, Ok, Err, slice_get, get_or, replicate, inl, inr, cond, refl, sym, ap, ◌∙◌, subst, arith, append_assoc, append-nil}
use Rattle.std.specs.List.{AllByRecursion}
use Rattle.std.proofs.lemmas.Bool.{cases_lt}
use Rattle.std.proofs.lemmas.List.{nil_from_length, map-append, length-replicate, get_or-replicate, get_or_past}
use Rattle.jk_math.specs.Answer.{◌>>=◌, refuse}
use Rattle.jk_math.specs.declared.fault.Fault.{Fault}
use Rattle.jk_math.specs.declared.fault.Fault.TheVariants.{SurplusBytes}
use Rattle.jk_geom.specs.declared.shape.TileShape.{TileShape}
use Rattle.jk_geom.specs.declared.shape.PacketName.{PacketName}
use Rattle.jk_order.specs.PacketOrder.{IsName, is_of, order, packet_count}
use Rattle.jk_order.specs.Streams.{Walk, PacketsLeft}
use Rattle.jk_order.proofs.Laws.{length_of, order_is}
use Rattle.jk_packet.specs.Reading.{PrecinctState}
use Rattle.jk_walk.specs.declared.places.PacketPlace.{PacketPlace}
use Rattle.jk_walk.specs.declared.entries.PacketEntry.{PacketEntry}
use Rattle.jk_walk.specs.WalkReading.{States, blank_states, with_state, begun, place_end, packet_at, names_at, each_of}
use Rattle.jk_walk.specs.Entries.{packet_entry}
use Rattle.jk_walk.specs.Keeping.{Kept, Slot, most_resolutions, row_of, seen, states_in, ShowsStates}
use Rattle.jk_walk.proofs.Turns.{AreTurns, counts_of, next_counts, order_turns, its_precinct, at_own}
use Rattle.jk_walk.proofs.Runs.{begun-nil, begun_here, begun_later}
use Rattle.jk_walk.proofs.FoundLaws.{names_from, names-nil, names-cons}
use Rattle.jk_walk.proofs.Walking.{no_row, first_is}
use Rattle.jk_stored.specs.Walks.{entries_in, HasRead, IsEntryAt}

-- The names that are left, and the states of the precincts.
pub record IsOnWay (s : TileShape) (sop eph : Bool) (packets : Walk) (kept : Kept) (more : ℕ) : Type 0 where
  pub names : List PacketName
  pub states : States
  pub follow : PacketsLeft packets names
  pub count : length names ≡ more
  pub turns : AreTurns s (counts_of states) names
  pub shows : ShowsStates s kept states
  pub same_sop : kept.sop ≡ sop
  pub same_eph : kept.eph ≡ eph
  pub rows : length kept.precincts ≡ length s.codings * most_resolutions

-- The entries so far are those of places from which the reading goes on.
pub record GoesOn (c : List ℕ) (s : TileShape) (sop eph : Bool) (part : ℕ × ℕ) (at : ℕ) (names : List PacketName) (states : States) (entries : List PacketEntry) : Type 0 where
  pub places : List PacketPlace
  pub are : entries ≡ map (packet_entry c sop) places
  pub goes : names_at c (order s) (blank_states s sop eph) (part ∷ []) ≡ (names_at c names states ((at, part.1) ∷ []) >>= λ ws. Ok (places ++ ws))

-- ---- what is left

row_blank : (n i : ℕ) → get_or (replicate n (no_row)) i no_row ≡ no_row
row_blank n i = elim (cases_lt i n) [
  | inl less ↦ get_or-replicate n i no_row no_row less
  | inr past ↦ get_or_past (replicate n no_row) i no_row (let long = length-replicate n no_row in omega (arith, long, past))
]

-- Nothing was read.
pub shows_none : (s : TileShape) (sop eph : Bool) (kept : Kept) → kept ≡ record { sop = sop; eph = eph; precincts = replicate (length s.codings * most_resolutions) no_row } → ShowsStates s kept (blank_states s sop eph)
shows_none s sop eph kept blank =
    λ c r k is early. sym (ap (λ (p : Kept). states_in s p c r k) blank ∙ ap (λ (ps : List Slot). seen (blank_states s sop eph c r) ps k) (row_blank (length s.codings * most_resolutions) (row_of c r)))

abbrev pub starts : (s : TileShape) (sop eph : Bool) (packets : Walk) (kept : Kept) → PacketsLeft packets (order s) → kept ≡ record { sop = sop; eph = eph; precincts = replicate (length s.codings * most_resolutions) no_row }
    → IsOnWay s sop eph packets kept (packet_count s)
starts s sop eph packets kept follow blank = record {
  names = order s;
  states = blank_states s sop eph;
  follow = follow;
  count = length_of s (order s) (order_is s);
  turns = order_turns s;
  shows = shows_none s sop eph kept blank;
  same_sop = ap (λ (p : Kept). p.sop) blank;
  same_eph = ap (λ (p : Kept). p.eph) blank;
  rows = ap (λ (p : Kept). length p.precincts) blank ∙ length-replicate (length s.codings * most_resolutions) no_row;
}

-- The next packet, and the state of its precinct.
pub record IsNext (s : TileShape) (kept : Kept) (states : States) (n : PacketName) : Type 0 where
  pub name : IsName s n
  pub turn : n.layer ≡ (states_in s kept n.component n.resolution n.precinct).layers
  pub own : states n.component n.resolution n.precinct ≡ states_in s kept n.component n.resolution n.precinct

pub next_is : (s : TileShape) (sop eph : Bool) (packets : Walk) (kept : Kept) (more : ℕ) (n : PacketName) (w : IsOnWay s sop eph packets kept more) → Some n ≡ slice_get w.names 0 → IsNext s kept w.states n
next_is s sop eph packets kept more n w first =
    let turns = subst (AreTurns s (counts_of w.states)) (first_is w.names n first) w.turns in
    let turn = turns.1 in
    let layer = turns.0.layer in
    let own = w.shows n.component n.resolution n.precinct (its_precinct s n turns.0) (omega (arith, turn, layer)) in
    record { name = turns.0; turn = turn ∙ ap (λ (x : PrecinctState). x.layers) own; own = own }

pub shows_more : (s : TileShape) (kept kept' : Kept) (states : States) (n : PacketName) (x : PrecinctState) → ShowsStates s kept states → HasRead s n kept kept' x → ShowsStates s kept' (with_state states n x)
shows_more s kept kept' states n x shows read c r k is = by (is_of c r k n) refl
  where
    by : (t : Bool) → is_of c r k n ≡ t → (cond t x (states c r k)).layers < s.layers → cond t x (states c r k) ≡ states_in s kept' c r k
    by true e less = sym (read.early (let count = read.layers in omega (arith, less, count))) ∙ at_own (states_in s kept') c r k n e
    by false e less = shows c r k is less ∙ sym (read.others c r k is e)

-- A packet was read.
abbrev pub goes_by : (s : TileShape) (sop eph : Bool) (packets packets' : Walk) (kept kept' : Kept) (more : ℕ) (n : PacketName) (x : PrecinctState) (w : IsOnWay s sop eph packets kept more) → Some n ≡ slice_get w.names 0
    → PacketsLeft packets' (drop 1 w.names) → HasRead s n kept kept' x → IsOnWay s sop eph packets' kept' (more - 1)
goes_by s sop eph packets packets' kept kept' more n x w first follow read =
    let split = first_is w.names n first in
    let turns = subst (AreTurns s (counts_of w.states)) split w.turns in
    let next = next_is s sop eph packets kept more n w first in
    record {
      names = drop 1 w.names;
      states = with_state w.states n x;
      follow = follow;
      count = (let e = ap length split in let long = w.count in omega (arith, e, long));
      turns = next_counts s w.states n (drop 1 w.names) x (read.layers ∙ ap (λ k. k + 1) (next.turn ∙ ap (λ (y : PrecinctState). y.layers) (sym next.own))) turns.2;
      shows = shows_more s kept kept' w.states n x w.shows read;
      same_sop = read.same.sop ∙ w.same_sop;
      same_eph = read.same.eph ∙ w.same_eph;
      rows = read.same.rows ∙ w.rows;
    }

-- no names are left where none was given, or as many were as there are
pub none_left : (s : TileShape) (sop eph : Bool) (packets : Walk) (kept : Kept) (more : ℕ) (w : IsOnWay s sop eph packets kept more) → more ≡ 0 → w.names ≡ []
none_left s sop eph packets kept more w none = nil_from_length w.names (w.count ∙ none)

-- ---- the reading

bind_none : (r : Result (List PacketPlace) Fault) → r ≡ (r >>= λ ws. Ok ([] ++ ws))
bind_none (Ok ws) = refl
bind_none (Err e) = refl

bind_two : (r : Result (List PacketPlace) Fault) (places : List PacketPlace) (w : PacketPlace) → ((r >>= λ ws. Ok (w ∷ ws)) >>= λ vs. Ok (places ++ vs)) ≡ (r >>= λ ws. Ok ((places ++ w ∷ []) ++ ws))
bind_two (Ok ws) places w = ap (λ (vs : List PacketPlace). Ok vs) (sym (append_assoc places (w ∷ []) ws))
bind_two (Err e) places w = refl

pub goes_first : (c : List ℕ) (s : TileShape) (sop eph : Bool) (part : ℕ × ℕ) → GoesOn c s sop eph part part.0 (order s) (blank_states s sop eph) []
goes_first c s sop eph part = record { places = []; are = refl; goes = bind_none (names_at c (order s) (blank_states s sop eph) (part ∷ [])) }

pub goes_more : (c : List ℕ) (s : TileShape) (sop eph : Bool) (part : ℕ × ℕ) (at : ℕ) (names : List PacketName) (states : States) (entries : List PacketEntry) (n : PacketName) (before x : PrecinctState) (e : PacketEntry)
    → Some n ≡ slice_get names 0 → at < part.1 → states n.component n.resolution n.precinct ≡ before → IsEntryAt c sop (at, part.1) n before x e → GoesOn c s sop eph part at names states entries
    → GoesOn c s sop eph part e.end (drop 1 names) (with_state states n x) (entries ++ e ∷ [])
goes_more c s sop eph part at names states entries n before x e first less own entry g =
    let rest = drop 1 names in
    let w = entry.0 in
    let read : packet_at c (at, part.1) n (states n.component n.resolution n.precinct) ≡ Ok (w, x) = ap (packet_at c (at, part.1) n) own ∙ entry.1 in
    let end : place_end w ≡ e.end = ap (λ (y : PacketEntry). y.end) (sym entry.2) in
    record {
      places = g.places ++ w ∷ [];
      are = (λ i. g.are i ++ entry.2 i ∷ []) ∙ sym (map-append (packet_entry c sop) g.places (w ∷ []));
      goes =
          g.goes
          ∙ ap (λ (ns : List PacketName). names_at c ns states ((at, part.1) ∷ []) >>= λ ws. Ok (g.places ++ ws)) (first_is names n first)
          ∙ ap (λ (r : Result (List PacketPlace) Fault). r >>= λ ws. Ok (g.places ++ ws))
          (names-cons c n rest states ((at, part.1) ∷ []) ∙ ap (names_from c n rest states) (begun_here (at, part.1) [] less)
          ∙ ap (λ (r : Result (PacketPlace × PrecinctState) Fault). r >>= λ o. names_at c rest (with_state states n o.1) ((place_end o.0, part.1) ∷ []) >>= λ more. Ok (o.0 ∷ more)) read)
          ∙ bind_two (names_at c rest (with_state states n x) ((place_end w, part.1) ∷ [])) g.places w
          ∙ ap (λ k. names_at c rest (with_state states n x) ((k, part.1) ∷ []) >>= λ ws. Ok ((g.places ++ w ∷ []) ++ ws)) end;
    }

pub goes_done : (c : List ℕ) (s : TileShape) (sop eph : Bool) (part : ℕ × ℕ) (at : ℕ) (names : List PacketName) (states : States) (entries : List PacketEntry) → names ≡ [] → part.1 ≤ at → GoesOn c s sop eph part at names states entries
    → entries_in c s sop eph part ≡ Ok entries
goes_done c s sop eph part at names states entries none over g =
    let left : begun ((at, part.1) ∷ []) ≡ [] = begun_later (at, part.1) [] over ∙ begun-nil in
    let places : names_at c (order s) (blank_states s sop eph) (part ∷ []) ≡ Ok g.places =
    g.goes
    ∙ ap (λ (ns : List PacketName). names_at c ns states ((at, part.1) ∷ []) >>= λ ws. Ok (g.places ++ ws)) none
    ∙ ap (λ (r : Result (List PacketPlace) Fault). r >>= λ ws. Ok (g.places ++ ws))
    (names-nil c states ((at, part.1) ∷ []) ∙ ap (λ (ps : List (ℕ × ℕ)). refuse (not (eqb (length ps) 0)) SurplusBytes >>= λ _. Ok []) left)
    ∙ ap (λ (ws : List PacketPlace). Ok ws) (append-nil g.places) in
    ap (each_of (packet_entry c sop)) places ∙ ap (λ (es : List PacketEntry). Ok es) (sym g.are)

-- ---- the names

-- The names so far, and those that are left.
pub record AreNamed (s : TileShape) (so_far left : List PacketName) : Type 0 where
  pub joins : so_far ++ left ≡ order s
  pub each : AllByRecursion (IsName s) so_far

pub named_first : (s : TileShape) (none : List PacketName) → none ≡ [] → AreNamed s none (order s)
named_first s none is = record { joins = ap (λ (ns : List PacketName). ns ++ order s) is; each = subst (AllByRecursion (IsName s)) (sym is) tt }

named_each : (s : TileShape) (names : List PacketName) (n : PacketName) → AllByRecursion (IsName s) names → IsName s n → AllByRecursion (IsName s) (names ++ n ∷ [])
named_each s [] n all is = (is, tt)
named_each s (m ∷ names) n all is = (all.0, named_each s names n all.1 is)

pub named_more : (s : TileShape) (so_far left rest more : List PacketName) (n : PacketName) → left ≡ n ∷ rest → IsName s n → more ≡ so_far ++ n ∷ [] → AreNamed s so_far left → AreNamed s more rest
named_more s so_far left rest more n next is pushed h = record {
  joins = ap (λ (ns : List PacketName). ns ++ rest) pushed ∙ append_assoc so_far (n ∷ []) rest ∙ ap (λ (ns : List PacketName). so_far ++ ns) (sym next) ∙ h.joins;
  each = subst (AllByRecursion (IsName s)) (sym pushed) (named_each s so_far n h.each is);
}

pub named_done : (s : TileShape) (so_far left : List PacketName) → left ≡ [] → AreNamed s so_far left → so_far ≡ order s
named_done s so_far left over h = sym (append-nil so_far) ∙ ap (λ (ns : List PacketName). so_far ++ ns) (sym over) ∙ h.joins
