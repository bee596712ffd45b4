-- The least of the streams' next packets is the next packet of all, and what is left without it.
use Rattle.std.proofs.Common.{◌≡◌, ℕ, ◌+◌, ◌*◌, ◌<◌, ◌≤◌, ◌⊎◌, inl, inr, List, [], ◌∷◌, map, length, drop, set, get_or, length-set, refl, ap, sym, ◌∙◌, subst, arith}
use Rattle.std.specs.Prelude.{Contains, Option, Some, None, MatchOption, slice_get}
use Rattle.std.specs.Ordering.{nat_cmp}
use Rattle.std.specs.List.Sorted.{IsStrictlySortedBy}
use Rattle.std.proofs.lemmas.Bool.{cases_eq}
use Rattle.std.proofs.lemmas.List.{get_or-set_same, get_or-set_other, set-get_or}
use Rattle.jk_geom.specs.declared.shape.PacketName.{PacketName}
use Rattle.jk_order.specs.declared.stream.Stream.{Stream}
use Rattle.jk_order.specs.declared.stream.PacketsFrame.{PacketsFrame}
use Rattle.jk_order.specs.Streams.{rank, finished, IsStream, IsLive, IsWalk, walk, Awaits, PacketsLeft, rank_of, index_of, stream_at, no_stream, next_name, successor}
use Rattle.jk_order.specs.Advancing.{Advances}
use Rattle.jk_order.proofs.Growth.{rank_below}
use Rattle.jk_order.proofs.Successors.{IsNext, IsLast, next_stream, successor_is}
use Rattle.jk_order.proofs.Ascending.{less_than, first_in, later_in, in_cases, first_below, rest_up, least_first}

-- The stream i moves on: to the least rank above its head, and the others stay.
pub record MovesOn (f : PacketsFrame) (ss : List Stream) (hs : List ℕ) (ts : List Stream) (gs : List ℕ) (i : ℕ) : Type 0 where
  pub streams : (j : ℕ) → (j ≡ i → ⊥) → stream_at ts j ≡ stream_at ss j
  pub heads : (j : ℕ) → (j ≡ i → ⊥) → get_or gs j 0 ≡ get_or hs j 0
  pub kept : (l k : ℕ) → rank f (stream_at ts i) l k ≡ rank f (stream_at ss i) l k
  pub precincts : (stream_at ts i).precincts ≡ (stream_at ss i).precincts
  pub above : (l k : ℕ) → l < f.layers → k < (stream_at ss i).precincts → get_or gs i 0 ≤ rank f (stream_at ss i) l k → get_or hs i 0 < rank f (stream_at ss i) l k
  pub least : (l k : ℕ) → l < f.layers → k < (stream_at ss i).precincts → get_or hs i 0 < rank f (stream_at ss i) l k → get_or gs i 0 ≤ rank f (stream_at ss i) l k

-- a packet of another stream is awaited as before
awaits_on : (f : PacketsFrame) (ss : List Stream) (hs : List ℕ) (ts : List Stream) (gs : List ℕ) (i : ℕ) → MovesOn f ss hs ts gs i
    → (n : PacketName) → (index_of n ≡ i → ⊥) → Awaits (walk f ss hs) n → Awaits (walk f ts gs) n
awaits_on f ss hs ts gs i m n ne a = record {
  component = a.component;
  resolution = a.resolution;
  layer = a.layer;
  precinct = subst (λ (s : Stream). n.precinct < s.precincts) (sym (m.streams (index_of n) ne)) a.precinct;
  due = subst (λ (s : Stream). get_or gs (index_of n) 0 ≤ rank f s n.layer n.precinct) (sym (m.streams (index_of n) ne)) (subst (λ h. h ≤ rank f (stream_at ss (index_of n)) n.layer n.precinct) (sym (m.heads (index_of n) ne)) a.due);
}

awaits_back : (f : PacketsFrame) (ss : List Stream) (hs : List ℕ) (ts : List Stream) (gs : List ℕ) (i : ℕ) → MovesOn f ss hs ts gs i
    → (n : PacketName) → (index_of n ≡ i → ⊥) → Awaits (walk f ts gs) n → Awaits (walk f ss hs) n
awaits_back f ss hs ts gs i m n ne a = record {
  component = a.component;
  resolution = a.resolution;
  layer = a.layer;
  precinct = subst (λ (s : Stream). n.precinct < s.precincts) (m.streams (index_of n) ne) a.precinct;
  due = subst (λ (s : Stream). get_or hs (index_of n) 0 ≤ rank f s n.layer n.precinct) (m.streams (index_of n) ne) (subst (λ h. h ≤ rank f (stream_at ts (index_of n)) n.layer n.precinct) (m.heads (index_of n) ne) a.due);
}

-- a packet of the stream itself is awaited if its rank is above the head
awaits_later : (f : PacketsFrame) (ss : List Stream) (hs : List ℕ) (ts : List Stream) (gs : List ℕ) (i : ℕ) → MovesOn f ss hs ts gs i
    → (n : PacketName) → index_of n ≡ i → get_or hs i 0 < rank f (stream_at ss i) n.layer n.precinct → Awaits (walk f ss hs) n → Awaits (walk f ts gs) n
awaits_later f ss hs ts gs i m n e above a =
    let few : n.precinct < (stream_at ss i).precincts = subst (λ j. n.precinct < (stream_at ss j).precincts) e a.precinct in
    let due : get_or gs i 0 ≤ rank f (stream_at ss i) n.layer n.precinct = m.least n.layer n.precinct a.layer few above in
    record {
      component = a.component;
      resolution = a.resolution;
      layer = a.layer;
      precinct = subst (λ j. n.precinct < (stream_at ts j).precincts) (sym e) (subst (λ k. n.precinct < k) (sym m.precincts) few);
      due = subst (λ j. get_or gs j 0 ≤ rank f (stream_at ts j) n.layer n.precinct) (sym e) (subst (λ k. get_or gs i 0 ≤ k) (sym (m.kept n.layer n.precinct)) due);
    }

awaited_later : (f : PacketsFrame) (ss : List Stream) (hs : List ℕ) (ts : List Stream) (gs : List ℕ) (i : ℕ) → MovesOn f ss hs ts gs i
    → (n : PacketName) → index_of n ≡ i → Awaits (walk f ts gs) n → Awaits (walk f ss hs) n × (get_or hs i 0 < rank f (stream_at ss i) n.layer n.precinct)
awaited_later f ss hs ts gs i m n e a =
    let few : n.precinct < (stream_at ss i).precincts = subst (λ k. n.precinct < k) m.precincts (subst (λ j. n.precinct < (stream_at ts j).precincts) e a.precinct) in
    let due : get_or gs i 0 ≤ rank f (stream_at ts i) n.layer n.precinct = subst (λ j. get_or gs j 0 ≤ rank f (stream_at ts j) n.layer n.precinct) e a.due in
    let seen : get_or gs i 0 ≤ rank f (stream_at ss i) n.layer n.precinct = subst (λ k. get_or gs i 0 ≤ k) (m.kept n.layer n.precinct) due in
    let above : get_or hs i 0 < rank f (stream_at ss i) n.layer n.precinct = m.above n.layer n.precinct a.layer few seen in
    let low : get_or hs i 0 ≤ rank f (stream_at ss i) n.layer n.precinct = omega arith in (
      record {
        component = a.component;
        resolution = a.resolution;
        layer = a.layer;
        precinct = subst (λ j. n.precinct < (stream_at ss j).precincts) (sym e) few;
        due = subst (λ j. get_or hs j 0 ≤ rank f (stream_at ss j) n.layer n.precinct) (sym e) low;
      },
      above,
    )

-- ranks stay
rank_kept : (f : PacketsFrame) (ss : List Stream) (hs : List ℕ) (ts : List Stream) (gs : List ℕ) (i : ℕ) → MovesOn f ss hs ts gs i → (n : PacketName) → rank_of (walk f ss hs) n ≡ rank_of (walk f ts gs) n
rank_kept f ss hs ts gs i m n = by (cases_eq (index_of n) i)
  where
    by : (index_of n ≡ i) ⊎ (index_of n ≡ i → ⊥) → rank f (stream_at ss (index_of n)) n.layer n.precinct ≡ rank f (stream_at ts (index_of n)) n.layer n.precinct
    by (inl e) = subst (λ j. rank f (stream_at ss j) n.layer n.precinct ≡ rank f (stream_at ts j) n.layer n.precinct) (sym e) (sym (m.kept n.layer n.precinct))
    by (inr ne) = ap (λ (s : Stream). rank f s n.layer n.precinct) (sym (m.streams (index_of n) ne))

-- the stream of a packet is one of 44
index_small : (n : PacketName) → n.component ≤ 3 → n.resolution ≤ 10 → index_of n < 44
index_small n c r = omega arith

module _ (f : PacketsFrame) (ss : List Stream) (hs : List ℕ) (i : ℕ) (w : IsWalk (walk f ss hs)) (low : i < 44)
    (some : get_or hs i 0 ≡ finished → ⊥) (least : (j : ℕ) → j < 44 → get_or hs i 0 ≤ get_or hs j 0) where
  -- the head of the stream is the rank of its next packet
  head_is : get_or hs i 0 ≡ rank_of (walk f ss hs) (next_name (stream_at ss i))
  head_is =
      subst (λ j. get_or hs i 0 ≡ rank f (stream_at ss j) (stream_at ss i).layer (stream_at ss i).precinct) (sym (w.place i low)) (w.live i low some).head

  next_awaited : Awaits (walk f ss hs) (next_name (stream_at ss i))
  next_awaited =
      let s = stream_at ss i in
      let here = w.live i low some in
      record {
        component = (w.stream i low).component;
        resolution = (w.stream i low).resolution;
        layer = here.layer;
        precinct = subst (λ j. s.precinct < (stream_at ss j).precincts) (sym (w.place i low)) here.placed.precinct;
        due = subst (λ j. get_or hs j 0 ≤ rank f (stream_at ss j) s.layer s.precinct) (sym (w.place i low)) (let h = here.head in omega arith);
      }

  next_least : (m : PacketName) → Awaits (walk f ss hs) m → rank_of (walk f ss hs) (next_name (stream_at ss i)) ≤ rank_of (walk f ss hs) m
  next_least m a =
      let h = head_is in
      let first = least (index_of m) (index_small m a.component a.resolution) in
      let due = a.due in
      omega arith

  module _ (ts : List Stream) (gs : List ℕ) (m : MovesOn f ss hs ts gs i) where
    -- what is left without the next packet
    rest_left : (rest : List PacketName) → PacketsLeft (walk f ss hs) (next_name (stream_at ss i) ∷ rest) → PacketsLeft (walk f ts gs) rest
    rest_left rest l = record {
      ascending =
          let same : rank_of (walk f ss hs) ≡ rank_of (walk f ts gs) = λ d n. rank_kept f ss hs ts gs i m n d in
          subst (λ (g : PacketName → ℕ). IsStrictlySortedBy nat_cmp (map g rest)) same (rest_up nat_cmp (rank_of (walk f ss hs)) (next_name (stream_at ss i)) rest l.ascending);
      members = λ n. (stays n, returns n);
    }
      where
        above : (n : PacketName) → Contains rest n → get_or hs i 0 < rank_of (walk f ss hs) n
        above n h =
            let up = less_than _ _ (first_below nat_cmp (rank_of (walk f ss hs)) (next_name (stream_at ss i)) rest n l.ascending h) in
            subst (λ k. k < rank_of (walk f ss hs) n) (sym head_is) up

        at_last : (n : PacketName) → Contains rest n → (index_of n ≡ i) ⊎ (index_of n ≡ i → ⊥) → Awaits (walk f ts gs) n
        at_last n h (inl e) = awaits_later f ss hs ts gs i m n e (subst (λ j. get_or hs i 0 < rank f (stream_at ss j) n.layer n.precinct) e (above n h)) ((l.members n).0 (later_in (next_name (stream_at ss i)) rest n h))
        at_last n h (inr ne) = awaits_on f ss hs ts gs i m n ne ((l.members n).0 (later_in (next_name (stream_at ss i)) rest n h))

        stays : (n : PacketName) → Contains rest n → Awaits (walk f ts gs) n
        stays n h = at_last n h (cases_eq (index_of n) i)

        not_next : (n : PacketName) → (next_name (stream_at ss i) ≡ n → ⊥) → (next_name (stream_at ss i) ≡ n) ⊎ Contains rest n → Contains rest n
        not_next n ne (inl same) = absurd (ne same)
        not_next n ne (inr later) = later

        back : (n : PacketName) → Awaits (walk f ts gs) n → (index_of n ≡ i) ⊎ (index_of n ≡ i → ⊥) → Contains rest n
        back n a (inl e) =
            let old = awaited_later f ss hs ts gs i m n e a in
            let up : get_or hs i 0 < rank_of (walk f ss hs) n = subst (λ j. get_or hs i 0 < rank f (stream_at ss j) n.layer n.precinct) (sym e) old.1 in
            let ne : next_name (stream_at ss i) ≡ n → ⊥ = λ same.
            let is : rank_of (walk f ss hs) (next_name (stream_at ss i)) ≡ rank_of (walk f ss hs) n = ap (rank_of (walk f ss hs)) same in
            let h = head_is in
            omega arith in
            not_next n ne (in_cases (next_name (stream_at ss i)) rest n ((l.members n).1 old.0))
        back n a (inr far) =
            let ne : next_name (stream_at ss i) ≡ n → ⊥ = λ same. far (sym (ap index_of same) ∙ w.place i low) in
            not_next n ne (in_cases (next_name (stream_at ss i)) rest n ((l.members n).1 (awaits_back f ss hs ts gs i m n far a)))

        returns : (n : PacketName) → Awaits (walk f ts gs) n → Contains rest n
        returns n a = back n a (cases_eq (index_of n) i)

    -- the next packet of all, and what is left
    pub left_next : (names : List PacketName) → PacketsLeft (walk f ss hs) names → (Some (next_name (stream_at ss i)) ≡ slice_get names 0) × PacketsLeft (walk f ts gs) (drop 1 names)
    left_next names l =
        let found = (l.members (next_name (stream_at ss i))).1 next_awaited in
        let first = least_first (rank_of (walk f ss hs)) names (next_name (stream_at ss i)) l.ascending found (λ n h. next_least n ((l.members n).0 h)) in
        subst (λ (xs : List PacketName). (Some (next_name (stream_at ss i)) ≡ slice_get xs 0) × PacketsLeft (walk f ts gs) (drop 1 xs)) (sym first.1)
        (refl, rest_left first.0 (subst (λ (xs : List PacketName). PacketsLeft (walk f ss hs) xs) first.1 l))

-- where no stream has a packet, none is left
pub left_none : (f : PacketsFrame) (ss : List Stream) (hs : List ℕ) → IsWalk (walk f ss hs) → ((j : ℕ) → j < 44 → finished ≤ get_or hs j 0)
    → (names : List PacketName) → PacketsLeft (walk f ss hs) names → (None ≡ slice_get names 0) × PacketsLeft (walk f ss hs) (drop 1 names)
left_none f ss hs w end [] l = (refl, l)
left_none f ss hs w end (n ∷ ns) l =
    let a = (l.members n).0 (first_in n ns) in
    let j = index_small n a.component a.resolution in
    let below = rank_below f (stream_at ss (index_of n)) n.layer n.precinct w.frame (w.stream (index_of n) j) a.layer a.precinct in
    let none = end (index_of n) j in
    let due = a.due in
    absurd (omega arith)

-- the streams where one of them moved on
module _ (f : PacketsFrame) (ss : List Stream) (hs : List ℕ) (i : ℕ) (w : IsWalk (walk f ss hs)) (low : i < 44) (some : get_or hs i 0 ≡ finished → ⊥) where
  in_streams : i < length ss
  in_streams = let h = w.streams in omega arith

  in_heads : i < length hs
  in_heads = let h = w.heads in omega arith

  module _ (t : Stream) (g : ℕ) (n : IsNext f (stream_at ss i) t) (head : g ≡ rank f t t.layer t.precinct) where
    stream_here : stream_at (set ss i t) i ≡ t
    stream_here = get_or-set_same ss i t no_stream in_streams

    head_here : get_or (set hs i g) i 0 ≡ g
    head_here = get_or-set_same hs i g 0 in_heads

    same_rank : (l k : ℕ) → rank f t l k ≡ rank f (stream_at ss i) l k
    unfolding rank
    same_rank l k = ap (λ (s : Stream). rank f s l k) n.same

    head_old : get_or hs i 0 ≡ rank f (stream_at ss i) (stream_at ss i).layer (stream_at ss i).precinct
    head_old = (w.live i low some).head

    head_new : get_or (set hs i g) i 0 ≡ rank f (stream_at ss i) t.layer t.precinct
    head_new = head_here ∙ head ∙ same_rank t.layer t.precinct

    pub next_moves : MovesOn f ss hs (set ss i t) (set hs i g) i
    next_moves = record {
      streams = λ j ne. get_or-set_other ss i j t no_stream ne;
      heads = λ j ne. get_or-set_other hs i j g 0 ne;
      kept = λ l k. ap (λ (s : Stream). rank f s l k) stream_here ∙ same_rank l k;
      precincts = ap (λ (s : Stream). s.precincts) stream_here ∙ ap (λ (s : Stream). s.precincts) n.same;
      above = λ l k hl hk h. (let a = n.after in let b = head_old in let d = head_new in omega arith);
      least = λ l k hl hk h. (let a = n.least l k hl hk (let b = head_old in omega arith) in let d = head_new in omega arith);
    }

    stream_new : IsStream f t
    stream_new = next_stream f (stream_at ss i) t (w.stream i low) n

    place_new : 11 * t.component + t.resolution ≡ i
    place_new = ap (λ (s : Stream). 11 * s.component + s.resolution) n.same ∙ w.place i low

    pub next_walk : IsWalk (walk f (set ss i t) (set hs i g))
    next_walk = record {
      frame = w.frame;
      streams = length-set ss i t ∙ w.streams;
      heads = length-set hs i g ∙ w.heads;
      stream = λ j h. stream j h (cases_eq j i);
      place = λ j h. place j h (cases_eq j i);
      live = λ j h ne. lives j h ne (cases_eq j i);
    }
      where
        stream : (j : ℕ) → j < 44 → (j ≡ i) ⊎ (j ≡ i → ⊥) → IsStream f (stream_at (set ss i t) j)
        stream j h (inl e) = subst (λ k. IsStream f (stream_at (set ss i t) k)) (sym e) (subst (λ (x : Stream). IsStream f x) (sym stream_here) stream_new)
        stream j h (inr ne) = subst (λ (x : Stream). IsStream f x) (sym (get_or-set_other ss i j t no_stream ne)) (w.stream j h)

        place : (j : ℕ) → j < 44 → (j ≡ i) ⊎ (j ≡ i → ⊥) → 11 * (stream_at (set ss i t) j).component + (stream_at (set ss i t) j).resolution ≡ j
        place j h (inl e) =
            subst (λ k. 11 * (stream_at (set ss i t) k).component + (stream_at (set ss i t) k).resolution ≡ k) (sym e)
            (ap (λ (x : Stream). 11 * x.component + x.resolution) stream_here ∙ place_new)
        place j h (inr ne) = ap (λ (x : Stream). 11 * x.component + x.resolution) (get_or-set_other ss i j t no_stream ne) ∙ w.place j h

        lives : (j : ℕ) → j < 44 → (get_or (set hs i g) j 0 ≡ finished → ⊥) → (j ≡ i) ⊎ (j ≡ i → ⊥) → IsLive f (stream_at (set ss i t) j) (get_or (set hs i g) j 0)
        lives j h ne (inl e) =
            subst (λ k. IsLive f (stream_at (set ss i t) k) (get_or (set hs i g) k 0)) (sym e)
            (subst (λ (x : Stream). IsLive f x (get_or (set hs i g) i 0)) (sym stream_here) (record { layer = n.layer; placed = n.placed; head = head_here ∙ head }))
        lives j h ne (inr far) =
            let stays = get_or-set_other hs i j g 0 far in
            let old = w.live j h (λ end. ne (stays ∙ end)) in
            subst (λ (x : Stream). IsLive f x (get_or (set hs i g) j 0)) (sym (get_or-set_other ss i j t no_stream far))
            (subst (λ k. IsLive f (stream_at ss j) k) (sym stays) old)

  module _ (last : IsLast f (stream_at ss i)) where
    pub last_moves : MovesOn f ss hs ss (set hs i finished) i
    last_moves = record {
      streams = λ j ne. refl;
      heads = λ j ne. get_or-set_other hs i j finished 0 ne;
      kept = λ l k. refl;
      precincts = refl;
      above = λ l k hl hk h.
          (let below = rank_below f (stream_at ss i) l k w.frame (w.stream i low) hl hk in
          let here = get_or-set_same hs i finished 0 in_heads in
          absurd (omega arith));
      least = λ l k hl hk h. (let most = last l k hl hk in let b = (w.live i low some).head in absurd (omega arith));
    }

    pub last_walk : IsWalk (walk f ss (set hs i finished))
    last_walk = record {
      frame = w.frame;
      streams = w.streams;
      heads = length-set hs i finished ∙ w.heads;
      stream = w.stream;
      place = w.place;
      live = λ j h ne. lives j h ne (cases_eq j i);
    }
      where
        lives : (j : ℕ) → j < 44 → (get_or (set hs i finished) j 0 ≡ finished → ⊥) → (j ≡ i) ⊎ (j ≡ i → ⊥) → IsLive f (stream_at ss j) (get_or (set hs i finished) j 0)
        lives j h ne (inl e) = absurd (ne (ap (λ k. get_or (set hs i finished) k 0) e ∙ get_or-set_same hs i finished 0 in_heads))
        lives j h ne (inr far) =
            let stays = get_or-set_other hs i j finished 0 far in
            subst (λ k. IsLive f (stream_at ss j) k) (sym stays) (w.live j h (λ end. ne (stays ∙ end)))

  -- what a stream that advances leaves of a walk
  abbrev Goes : Stream → ℕ → Type 0
  Goes t g = IsWalk (walk f (set ss i t) (set hs i g)) × MovesOn f ss hs (set ss i t) (set hs i g) i

  goes_on : (u t : Stream) (g : ℕ) → IsNext f (stream_at ss i) u → t ≡ u → g ≡ rank f u u.layer u.precinct → Goes t g
  goes_on u t g n same head = subst (λ (x : Stream). Goes x g) (sym same) (next_walk u g n head, next_moves u g n head)

  ends_there : (t : Stream) (g : ℕ) → IsLast f (stream_at ss i) → t ≡ stream_at ss i → g ≡ finished → Goes t g
  ends_there t g last same head =
      let stays : set ss i t ≡ ss = ap (λ (x : Stream). set ss i x) same ∙ set-get_or ss i no_stream in
      subst (λ (k : ℕ). Goes t k) (sym head) (subst (λ (ts : List Stream). IsWalk (walk f ts (set hs i finished)) × MovesOn f ss hs ts (set hs i finished) i) (sym stays) (last_walk last, last_moves last))

  pub advanced : (t : Stream) (g : ℕ) → Advances f (stream_at ss i) t g → Goes t g
  advanced t g a = by (successor f (stream_at ss i)) (successor_is f (stream_at ss i) w.frame (w.stream i low) live.layer live.placed) a
    where
      live : IsLive f (stream_at ss i) (get_or hs i 0)
      live = w.live i low some

      by : (o : Option Stream) → MatchOption o (IsLast f (stream_at ss i)) (IsNext f (stream_at ss i))
          → MatchOption o ((t ≡ stream_at ss i) × (g ≡ finished)) (λ u. (t ≡ u) × (g ≡ rank f u u.layer u.precinct)) → Goes t g
      by (Some u) n b = goes_on u t g n b.0 b.1
      by None last b = ends_there t g last b.0 b.1
