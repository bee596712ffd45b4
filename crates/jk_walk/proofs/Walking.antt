-- The walk over the packets of a tile, after some of them.
use Rattle.std.proofs.Common.{◌≡◌, ℕ, ◌+◌, ◌-◌, ◌*◌, ◌<◌, ◌≤◌, inl, inr, Bool, true, false, not, eqb, nat_lt, List, [], ◌∷◌, ◌++◌, length, drop, Some, None, Result, Ok, Err, slice_get, get_or, replicate, cond, refl, sym, ap, ◌∙◌, subst, arith, append_assoc, append-nil}
use Rattle.std.proofs.lemmas.Bool.{cases_lt, ne_eqb}
use Rattle.std.proofs.lemmas.List.{nil_from_length, length-replicate, get_or-replicate, get_or_past}
use Rattle.jk_math.specs.Steps.{bind_then, refuse_then, ok_is}
use Rattle.jk_math.specs.Answer.{◌>>=◌, refuse, Refuses}
use Rattle.jk_math.specs.declared.fault.Fault.{Fault}
use Rattle.jk_math.specs.declared.fault.Fault.TheVariants.{Truncated, MissingPackets, SurplusBytes}
use Rattle.jk_geom.specs.declared.shape.TileShape.{TileShape}
use Rattle.jk_geom.specs.declared.shape.PacketName.{PacketName}
use Rattle.jk_order.specs.PacketOrder.{IsName, IsPrecinct, is_of, order, packet_count}
use Rattle.jk_order.specs.Streams.{Walk, PacketsLeft}
use Rattle.jk_order.proofs.Laws.{length_of, order_is}
use Rattle.jk_packet.specs.Reading.{PrecinctState, header_at}
use Rattle.jk_packet.proofs.Laws.{header_keeps}
use Rattle.jk_walk.specs.declared.places.PacketPlace.{PacketPlace}
use Rattle.jk_walk.specs.WalkReading.{States, blank_states, with_state, begun, place_end, place_of, packet_at, names_at}
use Rattle.jk_walk.specs.TilePackets.{slice_of}
use Rattle.jk_walk.specs.Keeping.{Kept, Slot, most_resolutions, row_of, seen, states_in, ShowsStates, IsKept}
use Rattle.jk_walk.proofs.Turns.{AreTurns, counts_of, next_counts, order_turns, its_precinct, at_own}
use Rattle.jk_walk.proofs.Runs.{AreParts, begun_later, begun_parts}
use Rattle.jk_walk.proofs.FoundLaws.{names_from, names-nil, names-cons}
use Rattle.jk_walk.proofs.WalkSteps.{refused_step}

-- The names that are left, the states of the precincts, and that the walk goes on from there.
pub record IsWalking (bytes : List ℕ) (s : TileShape) (sop eph : Bool) (all : List (ℕ × ℕ)) (packets : Walk) (kept : Kept) (left : List (ℕ × ℕ)) (places : List PacketPlace) (more : ℕ) : Type 0 where
  pub names : List PacketName
  pub states : States
  pub follow : PacketsLeft packets names
  pub count : length names ≡ more
  pub turns : AreTurns s (counts_of states) names
  pub shows : ShowsStates s kept states
  pub same_sop : kept.sop ≡ sop
  pub same_eph : kept.eph ≡ eph
  pub rows : length kept.precincts ≡ length s.codings * most_resolutions
  pub parts : AreParts (length bytes) left
  pub goes : names_at bytes (order s) (blank_states s sop eph) all ≡ (names_at bytes names states left >>= λ ws. Ok (places ++ ws))

-- ---- equations of the function

-- only what is begun of the parts counts
names_begun : (bytes : List ℕ) (names : List PacketName) (states : States) (a b : List (ℕ × ℕ)) → begun a ≡ begun b → names_at bytes names states a ≡ names_at bytes names states b
names_begun bytes [] states a b e =
    names-nil bytes states a ∙ ap (λ (ps : List (ℕ × ℕ)). refuse (not (eqb (length ps) 0)) SurplusBytes >>= λ _. Ok []) e ∙ sym (names-nil bytes states b)
names_begun bytes (n ∷ names) states a b e = names-cons bytes n names states a ∙ ap (names_from bytes n names states) e ∙ sym (names-cons bytes n names states b)

bind_assoc : {A B C : Type 0} (r : Result A Fault) (f : A → Result B Fault) (g : B → Result C Fault) → ((r >>= f) >>= g) ≡ (r >>= λ x. f x >>= g)
bind_assoc (Ok x) f g = refl
bind_assoc (Err e) f g = refl

bind_same : (r : Result (List PacketPlace) Fault) → r ≡ (r >>= λ ws. Ok ([] ++ ws))
bind_same (Ok ws) = refl
bind_same (Err e) = refl

bind_twice : (r : Result (List PacketPlace) Fault) (places : List PacketPlace) (w : PacketPlace) → (r >>= λ ws. Ok (w ∷ ws) >>= λ vs. Ok (places ++ vs)) ≡ (r >>= λ ws. Ok ((places ++ w ∷ []) ++ ws))
bind_twice (Ok ws) places w = ap (λ (vs : List PacketPlace). Ok vs) (sym (append_assoc places (w ∷ []) ws))
bind_twice (Err e) places w = refl

-- a packet that is read is one layer more
packet_keeps : (bytes : List ℕ) (part : ℕ × ℕ) (n : PacketName) (x : PrecinctState) (o : PacketPlace × PrecinctState) → packet_at bytes part n x ≡ Ok o → o.1.layers ≡ x.layers + 1
unfolding packet_at
packet_keeps bytes part n x o e =
    bind_then (header_at n.layer (slice_of bytes part) x) _ o e (λ h read k.
    refuse_then (nat_lt part.1 (place_end (place_of n part.0 h.0.length h.0.parts))) Truncated _ o k (λ fits f.
    let same = ok_is (place_of n part.0 h.0.length h.0.parts, h.1) o f in
    ap (λ (q : PacketPlace × PrecinctState). q.1.layers) (sym same) ∙ (header_keeps n.layer (slice_of bytes part) x h read).layers
    ))

-- the first of a list
pub first_is : {A : Type 0} (xs : List A) (x : A) → Some x ≡ slice_get xs 0 → xs ≡ x ∷ drop 1 xs
first_is [] x e = absurd cc
first_is {A} (y ∷ xs) x e = let same : x ≡ y = cc in ap (λ (z : A). z ∷ xs) (sym same)

pub none_is : {A : Type 0} (xs : List A) → None ≡ slice_get xs 0 → xs ≡ []
none_is [] e = refl
none_is (y ∷ xs) e = absurd cc

-- ---- the walk

-- no precincts
abbrev pub no_row : List Slot
no_row = []

row_blank : (n i : ℕ) → get_or (replicate n (no_row)) i no_row ≡ no_row
row_blank n i = elim (cases_lt i n) [
  | inl less ↦ get_or-replicate n i no_row no_row less
  | inr past ↦ get_or_past (replicate n no_row) i no_row (let long = length-replicate n no_row in omega (arith, long, past))
]

-- The walk begins.
pub walk_starts : (bytes : List ℕ) (s : TileShape) (sop eph : Bool) (parts : List (ℕ × ℕ)) (packets : Walk) (kept : Kept) → AreParts (length bytes) parts → PacketsLeft packets (order s)
    → kept ≡ record { sop = sop; eph = eph; precincts = replicate (length s.codings * most_resolutions) no_row } → IsWalking bytes s sop eph parts packets kept ((0, 0) ∷ parts) [] (packet_count s)
walk_starts bytes s sop eph parts packets kept all follow blank = record {
  names = order s;
  states = blank_states s sop eph;
  follow = follow;
  count = length_of s (order s) (order_is s);
  turns = order_turns s;
  shows = λ c r k is early. sym (ap (λ (p : Kept). states_in s p c r k) blank ∙ ap (λ (ps : List Slot). seen (blank_states s sop eph c r) ps k) (row_blank (length s.codings * most_resolutions) (row_of c r)));
  same_sop = ap (λ (p : Kept). p.sop) blank;
  same_eph = ap (λ (p : Kept). p.eph) blank;
  rows = ap (λ (p : Kept). length p.precincts) blank ∙ length-replicate (length s.codings * most_resolutions) no_row;
  parts = ((omega arith, omega arith), all);
  goes =
      names_begun bytes (order s) (blank_states s sop eph) parts ((0, 0) ∷ parts) (sym (begun_later (0, 0) parts (omega arith)))
      ∙ bind_same (names_at bytes (order s) (blank_states s sop eph) ((0, 0) ∷ parts));
}

-- The next packet, of the names that are left.
pub record IsNext (s : TileShape) (kept : Kept) (n : PacketName) : Type 0 where
  pub name : IsName s n
  pub turn : n.layer ≡ (states_in s kept n.component n.resolution n.precinct).layers

-- the state of its precinct is kept, since a layer is left of it
next_shown : (bytes : List ℕ) (s : TileShape) (sop eph : Bool) (all : List (ℕ × ℕ)) (packets : Walk) (kept : Kept) (left : List (ℕ × ℕ)) (places : List PacketPlace) (more : ℕ) (n : PacketName)
    → (w : IsWalking bytes s sop eph all packets kept left places more) → Some n ≡ slice_get w.names 0
    → IsName s n × (n.layer ≡ (w.states n.component n.resolution n.precinct).layers) × (w.states n.component n.resolution n.precinct ≡ states_in s kept n.component n.resolution n.precinct)
next_shown bytes s sop eph all packets kept left places more n w first =
    let turns = subst (AreTurns s (counts_of w.states)) (first_is w.names n first) w.turns in
    let turn = turns.1 in
    let layer = turns.0.layer in
    (turns.0, turns.1, w.shows n.component n.resolution n.precinct (its_precinct s n turns.0) (omega (arith, turn, layer)))

pub walk_next : (bytes : List ℕ) (s : TileShape) (sop eph : Bool) (all : List (ℕ × ℕ)) (packets : Walk) (kept : Kept) (left : List (ℕ × ℕ)) (places : List PacketPlace) (more : ℕ) (n : PacketName)
    → (w : IsWalking bytes s sop eph all packets kept left places more) → Some n ≡ slice_get w.names 0 → IsNext s kept n
walk_next bytes s sop eph all packets kept left places more n w first =
    let shown = next_shown bytes s sop eph all packets kept left places more n w first in
    record { name = shown.0; turn = shown.1 ∙ ap (λ (x : PrecinctState). x.layers) shown.2 }

-- No part has bytes left.
pub walk_missing : (bytes : List ℕ) (s : TileShape) (sop eph : Bool) (all : List (ℕ × ℕ)) (packets : Walk) (kept : Kept) (left : List (ℕ × ℕ)) (places : List PacketPlace) (more : ℕ) (n : PacketName)
    → (w : IsWalking bytes s sop eph all packets kept left places more) → Some n ≡ slice_get w.names 0 → None ≡ slice_get (begun left) 0 → names_at bytes (order s) (blank_states s sop eph) all ≡ Err MissingPackets
walk_missing bytes s sop eph all packets kept left places more n w first none =
    w.goes
    ∙ ap (λ (ns : List PacketName). names_at bytes ns w.states left >>= λ ws. Ok (places ++ ws)) (first_is w.names n first)
    ∙ ap (λ (r : Result (List PacketPlace) Fault). r >>= λ ws. Ok (places ++ ws)) (names-cons bytes n (drop 1 w.names) w.states left ∙ ap (names_from bytes n (drop 1 w.names) w.states) (none_is (begun left) none))

-- what is in hand is in the bytes
pub walk_part : (bytes : List ℕ) (s : TileShape) (sop eph : Bool) (all : List (ℕ × ℕ)) (packets : Walk) (kept : Kept) (left : List (ℕ × ℕ)) (places : List PacketPlace) (more : ℕ) (part : ℕ × ℕ)
    → IsWalking bytes s sop eph all packets kept left places more → Some part ≡ slice_get (begun left) 0 → AreParts (length bytes) (part ∷ drop 1 (begun left))
walk_part bytes s sop eph all packets kept left places more part w first = subst (AreParts (length bytes)) (first_is (begun left) part first) (begun_parts (length bytes) left w.parts)

-- the walk from a packet in hand on
walk_from : (bytes : List ℕ) (s : TileShape) (sop eph : Bool) (all : List (ℕ × ℕ)) (packets : Walk) (kept : Kept) (left : List (ℕ × ℕ)) (places : List PacketPlace) (more : ℕ) (n : PacketName) (part : ℕ × ℕ)
    → (w : IsWalking bytes s sop eph all packets kept left places more) → Some n ≡ slice_get w.names 0 → Some part ≡ slice_get (begun left) 0
    → names_at bytes (order s) (blank_states s sop eph) all ≡ (packet_at bytes part n (states_in s kept n.component n.resolution n.precinct)
    >>= λ o. names_at bytes (drop 1 w.names) (with_state w.states n o.1) ((place_end o.0, part.1) ∷ drop 1 (begun left))
    >>= λ ws. Ok (o.0 ∷ ws) >>= λ vs. Ok (places ++ vs))
walk_from bytes s sop eph all packets kept left places more n part w first hand =
    let names = drop 1 w.names in
    let later = drop 1 (begun left) in
    let own = (next_shown bytes s sop eph all packets kept left places more n w first).2 in
    w.goes
    ∙ ap (λ (ns : List PacketName). names_at bytes ns w.states left >>= λ ws. Ok (places ++ ws)) (first_is w.names n first)
    ∙ ap (λ (r : Result (List PacketPlace) Fault). r >>= λ ws. Ok (places ++ ws)) (names-cons bytes n names w.states left ∙ ap (names_from bytes n names w.states) (first_is (begun left) part hand))
    ∙ bind_assoc (packet_at bytes part n (w.states n.component n.resolution n.precinct))
    (λ o. names_at bytes names (with_state w.states n o.1) ((place_end o.0, part.1) ∷ later) >>= λ ws. Ok (o.0 ∷ ws)) (λ vs. Ok (places ++ vs))
    ∙ (λ i. packet_at bytes part n (w.states n.component n.resolution n.precinct)
    >>= λ o. bind_assoc (names_at bytes names (with_state w.states n o.1) ((place_end o.0, part.1) ∷ later)) (λ ws. Ok (o.0 ∷ ws)) (λ vs. Ok (places ++ vs)) i)
    ∙ ap (λ (x : PrecinctState). packet_at bytes part n x
    >>= λ o. names_at bytes names (with_state w.states n o.1) ((place_end o.0, part.1) ∷ later)
    >>= λ ws. Ok (o.0 ∷ ws) >>= λ vs. Ok (places ++ vs)) own

-- The packet is refused.
pub walk_refused : (bytes : List ℕ) (s : TileShape) (sop eph : Bool) (all : List (ℕ × ℕ)) (packets : Walk) (kept : Kept) (left : List (ℕ × ℕ)) (places : List PacketPlace) (more : ℕ) (n : PacketName) (part : ℕ × ℕ) (e : Fault)
    → (w : IsWalking bytes s sop eph all packets kept left places more) → Some n ≡ slice_get w.names 0 → Some part ≡ slice_get (begun left) 0
    → Refuses e (packet_at bytes part n (states_in s kept n.component n.resolution n.precinct)) → Refuses e (names_at bytes (order s) (blank_states s sop eph) all)
walk_refused bytes s sop eph all packets kept left places more n part e w first hand h =
    subst (λ (r : Result (List PacketPlace) Fault). Refuses e r) (sym (walk_from bytes s sop eph all packets kept left places more n part w first hand))
    (refused_step e (packet_at bytes part n (states_in s kept n.component n.resolution n.precinct)) _ h)

-- A packet was read, whose precinct is kept up to its last layer.
pub record IsRead (s : TileShape) (n : PacketName) (old new : Kept) (x : PrecinctState) : Type 0 where
  pub early : n.layer + 1 < s.layers → states_in s new n.component n.resolution n.precinct ≡ x
  pub others : (c r k : ℕ) → IsPrecinct s c r k → is_of c r k n ≡ false → states_in s new c r k ≡ states_in s old c r k
  pub same : IsKept old new

-- what the states show once a packet was read
shows_more : (s : TileShape) (kept kept' : Kept) (states : States) (n : PacketName) (x : PrecinctState) → ShowsStates s kept states → x.layers ≡ n.layer + 1 → IsRead s n kept kept' x → ShowsStates s kept' (with_state states n x)
shows_more s kept kept' states n x shows count read c r k is = by (is_of c r k n) refl
  where
    by : (t : Bool) → is_of c r k n ≡ t → (cond t x (states c r k)).layers < s.layers → cond t x (states c r k) ≡ states_in s kept' c r k
    by true e less = sym (read.early (omega (arith, less, count))) ∙ at_own (states_in s kept') c r k n e
    by false e less = shows c r k is less ∙ sym (read.others c r k is e)

-- The packet is read.
pub walk_more : (bytes : List ℕ) (s : TileShape) (sop eph : Bool) (all : List (ℕ × ℕ)) (packets packets' : Walk) (kept kept' : Kept) (left : List (ℕ × ℕ)) (places : List PacketPlace) (more : ℕ) (n : PacketName) (part : ℕ × ℕ) (place : PacketPlace) (x : PrecinctState)
    → (w : IsWalking bytes s sop eph all packets kept left places more) → Some n ≡ slice_get w.names 0 → PacketsLeft packets' (drop 1 w.names) → Some part ≡ slice_get (begun left) 0
    → packet_at bytes part n (states_in s kept n.component n.resolution n.precinct) ≡ Ok (place, x) → IsRead s n kept kept' x → place_end place ≤ part.1
    → IsWalking bytes s sop eph all packets' kept' ((place_end place, part.1) ∷ drop 1 (begun left)) (places ++ place ∷ []) (more - 1)
walk_more bytes s sop eph all packets packets' kept kept' left places more n part place x w first follow hand read after fits =
    let split = first_is w.names n first in
    let turns = subst (AreTurns s (counts_of w.states)) split w.turns in
    let shown = next_shown bytes s sop eph all packets kept left places more n w first in
    let keeps = packet_keeps bytes part n (states_in s kept n.component n.resolution n.precinct) (place, x) read in
    let counted = keeps ∙ ap (λ (y : PrecinctState). y.layers + 1) (sym shown.2) in
    let turn = shown.1 in
    let all_parts = walk_part bytes s sop eph all packets kept left places more part w hand in
    record {
      names = drop 1 w.names;
      states = with_state w.states n x;
      follow = follow;
      count = (let e = ap length split in let long = w.count in omega (arith, e, long));
      turns = next_counts s w.states n (drop 1 w.names) x counted turns.2;
      shows = shows_more s kept kept' w.states n x w.shows (omega (arith, counted, turn)) after;
      same_sop = after.same.sop ∙ w.same_sop;
      same_eph = after.same.eph ∙ w.same_eph;
      rows = after.same.rows ∙ w.rows;
      parts = ((fits, all_parts.0.1), all_parts.1);
      goes =
          walk_from bytes s sop eph all packets kept left places more n part w first hand
          ∙ ap (λ (r : Result (PacketPlace × PrecinctState) Fault). r
          >>= λ o. names_at bytes (drop 1 w.names) (with_state w.states n o.1) ((place_end o.0, part.1) ∷ drop 1 (begun left))
          >>= λ ws. Ok (o.0 ∷ ws) >>= λ vs. Ok (places ++ vs)) read
          ∙ bind_twice (names_at bytes (drop 1 w.names) (with_state w.states n x) ((place_end place, part.1) ∷ drop 1 (begun left))) places place;
    }

-- The walk is over.
walk_end : (bytes : List ℕ) (s : TileShape) (sop eph : Bool) (all : List (ℕ × ℕ)) (packets : Walk) (kept : Kept) (left : List (ℕ × ℕ)) (places : List PacketPlace) (more : ℕ)
    → (w : IsWalking bytes s sop eph all packets kept left places more) → w.names ≡ []
    → names_at bytes (order s) (blank_states s sop eph) all ≡ ((refuse (not (eqb (length (begun left)) 0)) SurplusBytes >>= λ _. Ok []) >>= λ ws. Ok (places ++ ws))
walk_end bytes s sop eph all packets kept left places more w none =
    w.goes
    ∙ ap (λ (ns : List PacketName). names_at bytes ns w.states left >>= λ ws. Ok (places ++ ws)) none
    ∙ ap (λ (r : Result (List PacketPlace) Fault). r >>= λ ws. Ok (places ++ ws)) (names-nil bytes w.states left)

pub walk_surplus : (bytes : List ℕ) (s : TileShape) (sop eph : Bool) (all : List (ℕ × ℕ)) (packets : Walk) (kept : Kept) (left : List (ℕ × ℕ)) (places : List PacketPlace) (more : ℕ) (part : ℕ × ℕ)
    → (w : IsWalking bytes s sop eph all packets kept left places more) → w.names ≡ [] → Some part ≡ slice_get (begun left) 0 → names_at bytes (order s) (blank_states s sop eph) all ≡ Err SurplusBytes
walk_surplus bytes s sop eph all packets kept left places more part w none hand =
    walk_end bytes s sop eph all packets kept left places more w none
    ∙ ap (λ (ps : List (ℕ × ℕ)). (refuse (not (eqb (length ps) 0)) SurplusBytes >>= λ _. Ok []) >>= λ ws. Ok (places ++ ws)) (first_is (begun left) part hand)
    ∙ ap (λ (b : Bool). (refuse (not b) SurplusBytes >>= λ _. Ok []) >>= λ ws. Ok (places ++ ws)) (ne_eqb (length (part ∷ drop 1 (begun left))) 0 (λ e. omega (arith, e)))

pub walk_done : (bytes : List ℕ) (s : TileShape) (sop eph : Bool) (all : List (ℕ × ℕ)) (packets : Walk) (kept : Kept) (left : List (ℕ × ℕ)) (places : List PacketPlace) (more : ℕ)
    → (w : IsWalking bytes s sop eph all packets kept left places more) → w.names ≡ [] → None ≡ slice_get (begun left) 0 → names_at bytes (order s) (blank_states s sop eph) all ≡ Ok places
walk_done bytes s sop eph all packets kept left places more w none hand =
    walk_end bytes s sop eph all packets kept left places more w none
    ∙ ap (λ (ps : List (ℕ × ℕ)). (refuse (not (eqb (length ps) 0)) SurplusBytes >>= λ _. Ok []) >>= λ ws. Ok (places ++ ws)) (none_is (begun left) hand)
    ∙ ap (λ (ws : List PacketPlace). Ok ws) (append-nil places)

-- the names are over where so many came, or the order gives none
pub walk_counted : (bytes : List ℕ) (s : TileShape) (sop eph : Bool) (all : List (ℕ × ℕ)) (packets : Walk) (kept : Kept) (left : List (ℕ × ℕ)) (places : List PacketPlace) (more : ℕ)
    → (w : IsWalking bytes s sop eph all packets kept left places more) → more ≡ 0 → w.names ≡ []
walk_counted bytes s sop eph all packets kept left places more w none = nil_from_length w.names (w.count ∙ none)
