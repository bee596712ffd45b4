-- The packets of a tile, cut into its parts by their numbers.
use Rattle.std.proofs.Common.{◌≡◌, ℕ, zero, suc, ◌+◌, ◌-◌, ◌<◌, ◌≤◌, List, [], ◌∷◌, ◌++◌, length, length-append, take, drop, replicate, get_or, append_assoc, refl, sym, ap, ◌∙◌, subst, arith, inl, inr}
use Rattle.std.specs.List.{zip}
use Rattle.std.proofs.lemmas.Bool.{cases_lt}
use Rattle.std.proofs.lemmas.List.{append-nil, get_or_append_left, get_or_push, length-replicate}
use Rattle.std.proofs.lemmas.Slice.Zip.{length-zip, get_or-zip}
use Rattle.jk_geom.specs.declared.shape.PacketName.{PacketName}
use Rattle.jk_walk.specs.declared.entries.PacketEntry.{PacketEntry}
use Rattle.jk_window.specs.Cutting.{Entered, run_at, runs_at}
use Rattle.jk_marks.specs.Siz.{tile_count}
use Rattle.jk_params.specs.Headers.{Headers, tile_in}
use Rattle.jk_window.specs.declared.parts.PartEnds.{PartEnds}
use Rattle.jk_window.specs.Indexing.{entries_of}
use Rattle.jk_window.specs.PartEnds.{numbered, cut_at, AreEnds, ArePartEnds, IsPartEnds, HavePartEnds, count_at}
use Rattle.jk_window.proofs.Pieces.{piece_length}
use Rattle.jk_window.proofs.Runs.{run_here, run_ended, run_more, run_over, runs_step, runs_over, runs_length}

-- ---- a part has the packets in front

pub run_front : (packets : List Entered) (at stop : ℕ) → run_at packets at stop ≡ take (length (run_at packets at stop)) packets
run_front [] at stop = ap (λ (ws : List Entered). ws) (none at stop) ∙ sym (ap (λ (ws : List Entered). take (length ws) []) (none at stop))
  where
    none : (at stop : ℕ) → run_at [] at stop ≡ []
    none at stop = run_over [] 0 at stop (omega arith)
run_front (w ∷ packets) at stop = elim (cases_lt at stop) [
  | inl less ↦ (
      let here = run_here w packets at stop less in
      here ∙ ap (λ (ws : List Entered). w ∷ ws) (run_front packets w.1.end stop) ∙ sym (ap (λ (ws : List Entered). take (length ws) (w ∷ packets)) here))
  | inr past ↦ (let none = run_ended (w ∷ packets) at stop past in none ∙ sym (ap (λ (ws : List Entered). take (length ws) (w ∷ packets)) none))
]

-- ---- where a part ends

-- So far the packets from the `next`-th to the i-th are of a part.
pub record IsEnding (entries : List PacketEntry) (next start stop i at : ℕ) : Type 0 where
  pub order : next ≤ i
  pub within : i ≤ length entries
  pub count : (names : List PacketName) → length names ≡ length entries
      → i + length (run_at (drop i (zip names entries)) at stop) ≡ next + length (run_at (drop next (zip names entries)) start stop)

pub ending_starts : (entries : List PacketEntry) (next start stop : ℕ) → next ≤ length entries → IsEnding entries next start stop next start
ending_starts entries next start stop within = record { order = omega arith; within = within; count = λ names long. refl }

pub ending_more : (entries : List PacketEntry) (next start stop i at : ℕ) (e : PacketEntry) → IsEnding entries next start stop i at → i < length entries → at < stop
    → IsEnding entries next start stop (i + 1) (get_or entries i e).end
ending_more entries next start stop i at e g lt less =
    let order = g.order in
    record {
      order = omega (arith, order);
      within = omega (arith, lt);
      count = λ names long.
          let d : PacketName = record { layer = 0; resolution = 0; component = 0; precinct = 0 } in
          let packets = zip names entries in
          let all = length-zip names entries in
          let one = get_or-zip names entries i (d, e) (omega (arith, long, lt)) lt in
          let step = run_more packets i at stop (d, e) (omega (arith, all, long, lt)) less in
          let end : (get_or packets i (d, e)).1.end ≡ (get_or entries i e).end = ap (λ (w : Entered). w.1.end) one in
          let size = ap (λ (ws : List Entered). length ws) (step ∙ ap (λ k. get_or packets i (d, e) ∷ run_at (drop (i + 1) packets) k stop) end) in
          let before = g.count names long in
          omega (arith, size, before);
    }

pub ending_over : (entries : List PacketEntry) (next start stop i at : ℕ) → IsEnding entries next start stop i at → ((names : List PacketName) → length names ≡ length entries → run_at (drop i (zip names entries)) at stop ≡ [])
    → (names : List PacketName) → length names ≡ length entries → i ≡ next + length (run_at (drop next (zip names entries)) start stop)
ending_over entries next start stop i at g none names long =
    let over = ap (λ (ws : List Entered). length ws) (none names long) in
    let count = g.count names long in
    omega (arith, over, count)

-- ---- where all parts end

pub ends_none : (first most : ℕ) → first ≤ most → AreEnds first most []
unfolding AreEnds
ends_none first most le = le

pub ends_order : (first most : ℕ) (ends : List ℕ) → AreEnds first most ends → first ≤ most
unfolding AreEnds
ends_order first most [] are = are
ends_order first most (e ∷ ends) are = let more = ends_order e most ends are.1 in let one = are.0 in omega (arith, more, one)

pub ends_cons : (first most e : ℕ) (ends : List ℕ) → AreEnds first most (e ∷ ends) → (first ≤ e) × (e ≤ most) × AreEnds e most ends
unfolding AreEnds
ends_cons first most e ends are = (are.0, ends_order e most ends are.1, are.1)

ends_push : (first most e : ℕ) (ends : List ℕ) → AreEnds first most ends → most ≤ e → AreEnds first e (ends ++ e ∷ [])
unfolding AreEnds
ends_push first most e [] are le = (omega (arith, are, le), omega arith)
ends_push first most e (x ∷ ends) are le = (are.0, ends_push x most e ends are.1 le)

ends_within : (first most more : ℕ) (ends : List ℕ) → AreEnds first most ends → most ≤ more → AreEnds first more ends
unfolding AreEnds
ends_within first most more [] are le = omega (arith, are, le)
ends_within first most more (x ∷ ends) are le = (are.0, ends_within x most more ends are.1 le)

-- the last of some numbers
pub last_of : (first : ℕ) → List ℕ → ℕ
last_of first [] = first
last_of first (e ∷ ends) = last_of e ends

last_push : (first e : ℕ) (ends : List ℕ) → last_of first (ends ++ e ∷ []) ≡ e
unfolding last_of
last_push first e [] = refl
last_push first e (x ∷ ends) = last_push x e ends

pub cut-nil : (packets : List Entered) (first : ℕ) → cut_at packets first [] ≡ []
unfolding cut_at
cut-nil packets first = refl

pub cut-cons : (packets : List Entered) (first e : ℕ) (ends : List ℕ) → cut_at packets first (e ∷ ends) ≡ numbered packets first e ∷ cut_at packets e ends
unfolding cut_at
cut-cons packets first e ends = refl

cut_push : (packets : List Entered) (first e : ℕ) (ends : List ℕ) → cut_at packets first (ends ++ e ∷ []) ≡ cut_at packets first ends ++ numbered packets (last_of first ends) e ∷ []
unfolding cut_at last_of
cut_push packets first e [] = refl
cut_push packets first e (x ∷ ends) = ap (λ (ws : List (List Entered)). numbered packets first x ∷ ws) (cut_push packets x e ends)

-- So far the first k parts are cut.
pub record IsCutting (entries : List PacketEntry) (places : List (ℕ × ℕ)) (ends : List ℕ) (k next : ℕ) : Type 0 where
  pub ascend : AreEnds 0 next ends
  pub within : next ≤ length entries
  pub last : last_of 0 ends ≡ next
  pub cut : (names : List PacketName) → length names ≡ length entries
      → cut_at (zip names entries) 0 ends ++ runs_at (drop next (zip names entries)) (drop k places) ≡ runs_at (zip names entries) places

pub cutting_starts : (entries : List PacketEntry) (places : List (ℕ × ℕ)) (ends : List ℕ) → ends ≡ [] → IsCutting entries places ends 0 0
unfolding last_of
cutting_starts entries places ends e = subst (λ (xs : List ℕ). IsCutting entries places xs 0 0) (sym e) (record {
  ascend = ends_none 0 0 (omega arith);
  within = omega arith;
  last = refl;
  cut = λ names long. ap (λ (ws : List (List Entered)). ws ++ runs_at (zip names entries) places) (cut-nil (zip names entries) 0);
})

pub cutting_more : (entries : List PacketEntry) (places : List (ℕ × ℕ)) (ends new : List ℕ) (k next behind : ℕ) (p d : ℕ × ℕ) → IsCutting entries places ends k next → k < length places → p ≡ get_or places k d
    → ((names : List PacketName) → length names ≡ length entries → behind ≡ next + length (run_at (drop next (zip names entries)) p.0 p.1))
    → next ≤ behind → behind ≤ length entries → new ≡ ends ++ behind ∷ [] → IsCutting entries places new (k + 1) behind
cutting_more entries places ends new k next behind p d g lt own run order within pushed =
    subst (λ (xs : List ℕ). IsCutting entries places xs (k + 1) behind) (sym pushed) (record {
      ascend = ends_push 0 next behind ends g.ascend order;
      within = within;
      last = last_push 0 behind ends;
      cut = λ names long.
          let packets = zip names entries in
          let now = run_at (drop next packets) p.0 p.1 in
          let ends_so = run names long in
          let size : behind - next ≡ length now = omega (arith, ends_so) in
          let step = runs_step packets next k (length now) places p d lt own refl in
          let piece : numbered packets (last_of 0 ends) behind ≡ now =
          ap (λ n. numbered packets n behind) g.last ∙ ap (λ n. take n (drop next packets)) size ∙ sym (run_front (drop next packets) p.0 p.1) in
          ap (λ (ws : List (List Entered)). ws ++ runs_at (drop behind packets) (drop (k + 1) places)) (cut_push packets 0 behind ends)
          ∙ append_assoc (cut_at packets 0 ends) (numbered packets (last_of 0 ends) behind ∷ []) (runs_at (drop behind packets) (drop (k + 1) places))
          ∙ (λ j. cut_at packets 0 ends ++ (piece j ∷ runs_at (drop (ends_so j) packets) (drop (k + 1) places)))
          ∙ ap (λ (ws : List (List Entered)). cut_at packets 0 ends ++ ws) (sym step)
          ∙ g.cut names long;
    })

pub cutting_over : (entries : List PacketEntry) (places : List (ℕ × ℕ)) (ends : List ℕ) (k next : ℕ) → IsCutting entries places ends k next → length places ≤ k → ArePartEnds entries places ends
cutting_over entries places ends k next g past = record {
  ascend = ends_within 0 next (length entries) ends g.ascend g.within;
  cut = λ names long.
      sym (g.cut names long)
      ∙ ap (λ (ws : List (List Entered)). cut_at (zip names entries) 0 ends ++ ws) (runs_over (zip names entries) next k places past)
      ∙ append-nil (cut_at (zip names entries) 0 ends);
}

-- ---- how many packets a part has

pub count_first : (first : ℕ) (ends : List ℕ) (d : ℕ) → 0 < length ends → count_at first ends 0 ≡ get_or ends 0 d - first
unfolding count_at
count_first first [] d lt = absurd (omega arith)
count_first first (e ∷ ends) d lt = refl

pub count_later : (first : ℕ) (ends : List ℕ) (n d e : ℕ) → suc n < length ends → count_at first ends (suc n) ≡ get_or ends (suc n) d - get_or ends n e
unfolding count_at
count_later first [] n d e lt = absurd (omega arith)
count_later first (x ∷ []) n d e lt = absurd (omega arith)
count_later first (x ∷ (y ∷ ends)) zero d e lt = refl
count_later first (x ∷ (y ∷ ends)) (suc n) d e lt = count_later x (y ∷ ends) n d e (omega arith)

pub ends_rise : (first most : ℕ) (ends : List ℕ) (n d e : ℕ) → AreEnds first most ends → suc n < length ends → get_or ends n e ≤ get_or ends (suc n) d
unfolding AreEnds
ends_rise first most [] n d e are lt = absurd (omega arith)
ends_rise first most (x ∷ []) n d e are lt = absurd (omega arith)
ends_rise first most (x ∷ (y ∷ ends)) zero d e are lt = are.1.0
ends_rise first most (x ∷ (y ∷ ends)) (suc n) d e are lt = ends_rise x most (y ∷ ends) n d e are.1 (omega arith)

-- the same by a number and the one before it
pub count_of_first : (ends : List ℕ) (n d : ℕ) → n ≡ 0 → n < length ends → count_at 0 ends n ≡ get_or ends n d
count_of_first ends n d zero-is lt =
    let first = count_first 0 ends d (omega (arith, lt)) in
    let is : get_or ends 0 d - 0 ≡ get_or ends 0 d = omega arith in
    ap (count_at 0 ends) zero-is ∙ first ∙ is ∙ ap (λ k. get_or ends k d) (sym zero-is)

pub count_of_later : (ends : List ℕ) (n m d e : ℕ) → n ≡ suc m → n < length ends → count_at 0 ends n ≡ get_or ends n d - get_or ends m e
count_of_later ends n m d e is lt =
    ap (count_at 0 ends) is ∙ count_later 0 ends m d e (omega (arith, lt, is)) ∙ ap (λ k. get_or ends k d - get_or ends m e) (sym is)

pub rises_from : (most : ℕ) (ends : List ℕ) (n m d e : ℕ) → AreEnds 0 most ends → n ≡ suc m → n < length ends → get_or ends m e ≤ get_or ends n d
rises_from most ends n m d e are is lt = subst (λ k. get_or ends m e ≤ get_or ends k d) (sym is) (ends_rise 0 most ends m d e are (omega (arith, lt, is)))

pub count_few : (first most : ℕ) (ends : List ℕ) (n : ℕ) → AreEnds first most ends → count_at first ends n ≤ most
unfolding count_at AreEnds
count_few first most [] n are = omega arith
count_few first most (e ∷ ends) zero are = let le = ends_order e most ends are.1 in omega (arith, le)
count_few first most (e ∷ ends) (suc n) are = count_few e most ends n are.1

pub cut_count : (packets : List Entered) (first : ℕ) (ends : List ℕ) (n : ℕ) → AreEnds first (length packets) ends → length (get_or (cut_at packets first ends) n []) ≡ count_at first ends n
unfolding cut_at count_at AreEnds
cut_count packets first [] n are = refl
cut_count packets first (e ∷ ends) zero are = piece_length packets first e are.0 (ends_order e (length packets) ends are.1)
cut_count packets first (e ∷ ends) (suc n) are = cut_count packets e ends n are.1

-- as many ends as parts
cut_length : (packets : List Entered) (first : ℕ) (ends : List ℕ) → length (cut_at packets first ends) ≡ length ends
unfolding cut_at
cut_length packets first [] = refl
cut_length packets first (e ∷ ends) = ap suc (cut_length packets e ends)

pub ends_long : (entries : List PacketEntry) (places : List (ℕ × ℕ)) (ends : List ℕ) → ArePartEnds entries places ends → length ends ≡ length places
ends_long entries places ends are =
    let name : PacketName = record { layer = 0; resolution = 0; component = 0; precinct = 0 } in
    let names = replicate (length entries) name in
    let packets = zip names entries in
    let same = are.cut names (length-replicate (length entries) name) in
    sym (cut_length packets 0 ends) ∙ sym (ap (λ (ws : List (List Entered)). length ws) same) ∙ runs_length packets places

-- ---- the parts of the first tiles

pub record HaveEndsUpto (h : Headers) (packets : List (List PacketEntry)) (all : List PartEnds) (n : ℕ) : Type 0 where
  pub count : length all ≡ n
  pub each : (t : ℕ) (none : PartEnds) → t < n → IsPartEnds (entries_of packets t) (tile_in h.tiles t) (get_or all t none)

pub upto_none : (h : Headers) (packets : List (List PacketEntry)) (all : List PartEnds) → all ≡ [] → HaveEndsUpto h packets all 0
upto_none h packets all e = record { count = ap (λ (xs : List PartEnds). length xs) e; each = λ t none lt. absurd (omega (arith, lt)) }

pub upto_more : (h : Headers) (packets : List (List PacketEntry)) (all new : List PartEnds) (n : ℕ) (x : PartEnds) → HaveEndsUpto h packets all n → IsPartEnds (entries_of packets n) (tile_in h.tiles n) x → new ≡ all ++ x ∷ []
    → HaveEndsUpto h packets new (n + 1)
upto_more h packets all new n x before here pushed = subst (λ (xs : List PartEnds). HaveEndsUpto h packets xs (n + 1)) (sym pushed) (record {
  count = (let count = before.count in omega (arith, count, length-append all (x ∷ [])));
  each = λ t none lt. elim (cases_lt t n) [
    | inl less ↦ subst (IsPartEnds (entries_of packets t) (tile_in h.tiles t)) (sym (get_or_append_left all (x ∷ []) none t (omega (arith, less, before.count)))) (before.each t none less)
    | inr past ↦ (let same : n ≡ t = omega (arith, lt, past) in
        subst (IsPartEnds (entries_of packets t) (tile_in h.tiles t)) (sym (get_or_push all x none t (before.count ∙ same)))
        (subst (λ k. IsPartEnds (entries_of packets k) (tile_in h.tiles k) x) same here))
  ];
})

pub upto_all : (h : Headers) (packets : List (List PacketEntry)) (all : List PartEnds) (n : ℕ) → n ≡ tile_count h.siz → HaveEndsUpto h packets all n → HavePartEnds h packets all
upto_all h packets all n same are = record {
  count = are.count ∙ same;
  each = λ t none lt. are.each t none (omega (arith, lt, same));
}
