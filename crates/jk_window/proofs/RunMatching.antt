-- The packets of a tile that have the bytes of a part are those whose places lie there.
use Rattle.std.proofs.Common.{◌≡◌, ℕ, zero, suc, ◌+◌, ◌-◌, ◌<◌, ◌≤◌, Bool, List, [], ◌∷◌, ◌++◌, length, length-append, map, drop, get_or, sym, ap, ◌∙◌, subst, arith}
use Rattle.std.specs.List.{AllByRecursion, AllZip}
use Rattle.jk_walk.specs.Entries.{entry_span}
use Rattle.jk_walk.specs.TilePackets.{slice_of, Packet}
use Rattle.jk_walk.specs.Sop.{sop_written}
use Rattle.jk_walk.specs.WalkReading.{AreLaid}
use Rattle.jk_walk.proofs.Laws.{begun_here, begun_later, slice_length}
use Rattle.jk_window.specs.Emptied.{sop_of, run_text}
use Rattle.jk_window.specs.Indexing.{joined_runs}
use Rattle.jk_window.specs.Cutting.{Entered, run_at, runs_at}
use Rattle.jk_window.proofs.Runs.{run_here, run_ended, runs_at-nil, runs_at-cons}

-- A packet has the bytes that its entry tells, and the SOP of its counter.
pub record IsStored (bytes : List ℕ) (sop : Bool) (p : Packet) (w : Entered) : Type 0 where
  pub name : w.0 ≡ p.name
  pub size : w.1.end ≡ w.1.start + length p.text
  pub text : slice_of bytes (w.1.start, w.1.end) ≡ p.text
  pub counter : sop_written w.1.counter ≡ sop_of sop p.text

-- A run of packets has the bytes of a part, and the others have the others.
pub record RunMatches (bytes : List ℕ) (sop : Bool) (run others : List Packet) (packets : List Entered) (a b : ℕ) (later : List (ℕ × ℕ)) : Type 0 where
  pub here : AllZip (IsStored bytes sop) run (run_at packets a b)
  pub there : AllZip (IsStored bytes sop) others (drop (length (run_at packets a b)) packets)
  pub laid : AreLaid (map entry_span (drop (length (run_at packets a b)) packets)) later

-- what is laid behind a part without bytes
laid_later : (packets : List Entered) (a b : ℕ) (later : List (ℕ × ℕ)) → b ≤ a → AreLaid (map entry_span packets) ((a, b) ∷ later) → AreLaid (map entry_span packets) later
laid_later [] a b later le laid = sym (begun_later (a, b) later le) ∙ laid
laid_later (w ∷ packets) a b later le laid = (laid.0, laid.1, sym (begun_later (a, b) later le) ∙ laid.2, laid.3, laid.4, laid.5, laid.6)

run_matches : (bytes : List ℕ) (sop : Bool) (run others : List Packet) (packets : List Entered) (a b : ℕ) (later : List (ℕ × ℕ)) → AllZip (IsStored bytes sop) (run ++ others) packets → AreLaid (map entry_span packets) ((a, b) ∷ later)
    → length (run_text run) ≡ b - a → RunMatches bytes sop run others packets a b later
run_matches bytes sop [] others packets a b later all laid size =
    let le : b ≤ a = omega (arith, size) in
    let none = run_ended packets a b le in
    let same : drop (length (run_at packets a b)) packets ≡ packets = ap (λ (ws : List Entered). drop (length ws) packets) none in
    record {
      here = subst (AllZip (IsStored bytes sop) []) (sym none) tt;
      there = subst (AllZip (IsStored bytes sop) others) (sym same) all;
      laid = subst (λ (ws : List Entered). AreLaid (map entry_span ws) later) (sym same) (laid_later packets a b later le laid);
    }
run_matches bytes sop (p ∷ run) others [] a b later all laid size = absurd all
run_matches bytes sop (p ∷ run) others (w ∷ packets) a b later all laid size =
    let placed = all.0 in
    let long = placed.size in
    let some = laid.4 in
    let both = length-append p.text (run_text run) in
    let less : a < b = omega (arith, size, both, long, some) in
    let parts : (a, b) ∷ later ≡ laid.0 ∷ laid.1 = sym (begun_here (a, b) later less) ∙ laid.2 in
    let part : (a, b) ≡ laid.0 = cc in
    let rest : later ≡ laid.1 = cc in
    let starts : w.1.start ≡ a = laid.3 ∙ ap (λ (q : ℕ × ℕ). q.0) (sym part) in
    let stop : laid.0.1 ≡ b = ap (λ (q : ℕ × ℕ). q.1) (sym part) in
    let after : AreLaid (map entry_span packets) ((w.1.end, b) ∷ later) =
    subst (λ (q : List (ℕ × ℕ)). AreLaid (map entry_span packets) ((w.1.end, b) ∷ q)) (sym rest) (subst (λ n. AreLaid (map entry_span packets) ((w.1.end, n) ∷ laid.1)) stop laid.6) in
    let more = run_matches bytes sop run others packets w.1.end b later all.1 after (omega (arith, size, both, long, starts)) in
    let step = run_here w packets a b less in
    record {
      here = subst (AllZip (IsStored bytes sop) (p ∷ run)) (sym step) (placed, more.here);
      there = subst (λ (ws : List Entered). AllZip (IsStored bytes sop) others (drop (length ws) (w ∷ packets))) (sym step) more.there;
      laid = subst (λ (ws : List Entered). AreLaid (map entry_span (drop (length ws) (w ∷ packets))) later) (sym step) more.laid;
    }

-- ---- all parts

-- places in so many bytes
abbrev AreParts : ℕ → List (ℕ × ℕ) → Type 0
AreParts size parts = AllByRecursion (λ p. (p.0 ≤ p.1) × (p.1 ≤ size)) parts

-- Each run of packets has the bytes of its part.
pub runs_match : (bytes : List ℕ) (sop : Bool) (runs : List (List Packet)) (packets : List Entered) (parts : List (ℕ × ℕ)) → AllByRecursion (λ p. (p.0 ≤ p.1) × (p.1 ≤ length bytes)) parts → AllZip (IsStored bytes sop) (joined_runs runs) packets
    → AreLaid (map entry_span packets) parts → map run_text runs ≡ map (slice_of bytes) parts → (n : ℕ) → AllZip (IsStored bytes sop) (get_or runs n []) (get_or (runs_at packets parts) n [])
runs_match bytes sop [] packets [] within all laid cut n = subst (λ (rs : List (List Entered)). AllZip (IsStored bytes sop) [] (get_or rs n [])) (sym (runs_at-nil packets)) tt
runs_match bytes sop [] packets (q ∷ parts) within all laid cut n = absurd cc
runs_match bytes sop (run ∷ runs) packets [] within all laid cut n = absurd cc
runs_match bytes sop (run ∷ runs) packets (q ∷ parts) within all laid cut n =
    let text : run_text run ≡ slice_of bytes q = cc in
    let rest : map run_text runs ≡ map (slice_of bytes) parts = cc in
    let size : length (run_text run) ≡ q.1 - q.0 = ap (λ (xs : List ℕ). length xs) text ∙ slice_length bytes q.0 q.1 within.0.0 within.0.1 in
    let one = run_matches bytes sop run (joined_runs runs) packets q.0 q.1 parts all laid size in
    let others = drop (length (run_at packets q.0 q.1)) packets in
    subst (λ (rs : List (List Entered)). AllZip (IsStored bytes sop) (get_or (run ∷ runs) n []) (get_or rs n [])) (sym (runs_at-cons packets q parts))
    (by (run_at packets q.0 q.1) (runs_at others parts) n one.here (λ k. runs_match bytes sop runs others parts within.1 one.there one.laid rest k))
  where
    by : (us : List Entered) (vs : List (List Entered)) (n : ℕ) → AllZip (IsStored bytes sop) run us → ((k : ℕ) → AllZip (IsStored bytes sop) (get_or runs k []) (get_or vs k [])) → AllZip (IsStored bytes sop) (get_or (run ∷ runs) n []) (get_or (us ∷ vs) n [])
    by us vs zero first more = first
    by us vs (suc n) first more = more n
