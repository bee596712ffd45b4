-- The packets of a part, one after another.
use Rattle.std.proofs.Common.{◌≡◌, ℕ, suc, ◌+◌, ◌<◌, ◌≤◌, nat_lt, cond, List, [], ◌∷◌, length, drop, get_or, refl, sym, ap, ◌∙◌}
use Rattle.std.proofs.lemmas.Bool.{lt-ltb, le-ltb, cond-true, cond-false}
use Rattle.std.proofs.lemmas.List.{drop_more, drop_all, drop-drop}
use Rattle.jk_window.specs.Cutting.{Entered, run_at, runs_at}

run_at-nil : (at stop : ℕ) → run_at [] at stop ≡ []
unfolding run_at
run_at-nil at stop = refl

run_at-cons : (w : Entered) (packets : List Entered) (at stop : ℕ) → run_at (w ∷ packets) at stop ≡ cond (nat_lt at stop) (w ∷ run_at packets w.1.end stop) []
unfolding run_at
run_at-cons w packets at stop = refl

pub run_here : (w : Entered) (packets : List Entered) (at stop : ℕ) → at < stop → run_at (w ∷ packets) at stop ≡ w ∷ run_at packets w.1.end stop
run_here w packets at stop less = run_at-cons w packets at stop ∙ cond-true (nat_lt at stop) (w ∷ run_at packets w.1.end stop) [] (lt-ltb at stop less)

-- the part is at its end
pub run_ended : (packets : List Entered) (at stop : ℕ) → stop ≤ at → run_at packets at stop ≡ []
run_ended [] at stop le = run_at-nil at stop
run_ended (w ∷ packets) at stop le = run_at-cons w packets at stop ∙ cond-false (nat_lt at stop) (w ∷ run_at packets w.1.end stop) [] (le-ltb at stop le)

-- one packet more
pub run_more : (packets : List Entered) (i at stop : ℕ) (d : Entered) → i < length packets → at < stop
    → run_at (drop i packets) at stop ≡ get_or packets i d ∷ run_at (drop (i + 1) packets) (get_or packets i d).1.end stop
run_more packets i at stop d within less =
    ap (λ (ws : List Entered). run_at ws at stop) (drop_more packets i d within) ∙ run_here (get_or packets i d) (drop (i + 1) packets) at stop less

-- no packet is left
pub run_over : (packets : List Entered) (i at stop : ℕ) → length packets ≤ i → run_at (drop i packets) at stop ≡ []
run_over packets i at stop past = ap (λ (ws : List Entered). run_at ws at stop) (drop_all i packets past) ∙ run_at-nil at stop

pub runs_at-nil : (packets : List Entered) → runs_at packets [] ≡ []
unfolding runs_at
runs_at-nil packets = refl

pub runs_at-cons : (packets : List Entered) (p : ℕ × ℕ) (parts : List (ℕ × ℕ)) → runs_at packets (p ∷ parts) ≡ run_at packets p.0 p.1 ∷ runs_at (drop (length (run_at packets p.0 p.1)) packets) parts
unfolding runs_at
runs_at-cons packets p parts = refl

-- one part more
pub runs_step : (packets : List Entered) (next i more : ℕ) (parts : List (ℕ × ℕ)) (p d : ℕ × ℕ) → i < length parts → p ≡ get_or parts i d → more ≡ length (run_at (drop next packets) p.0 p.1)
    → runs_at (drop next packets) (drop i parts) ≡ run_at (drop next packets) p.0 p.1 ∷ runs_at (drop (next + more) packets) (drop (i + 1) parts)
runs_step packets next i more parts p d within own long =
    let ws = drop next packets in
    ap (runs_at ws) (drop_more parts i d within ∙ ap (λ (q : ℕ × ℕ). q ∷ drop (i + 1) parts) (sym own))
    ∙ runs_at-cons ws p (drop (i + 1) parts)
    ∙ ap (λ n. run_at ws p.0 p.1 ∷ runs_at (drop n ws) (drop (i + 1) parts)) (sym long)
    ∙ ap (λ (xs : List Entered). run_at ws p.0 p.1 ∷ runs_at xs (drop (i + 1) parts)) (drop-drop more next packets)

pub runs_over : (packets : List Entered) (next i : ℕ) (parts : List (ℕ × ℕ)) → length parts ≤ i → runs_at (drop next packets) (drop i parts) ≡ []
runs_over packets next i parts past = ap (runs_at (drop next packets)) (drop_all i parts past) ∙ runs_at-nil (drop next packets)

pub runs_length : (packets : List Entered) (parts : List (ℕ × ℕ)) → length (runs_at packets parts) ≡ length parts
runs_length packets [] = ap (λ (xs : List (List Entered)). length xs) (runs_at-nil packets)
runs_length packets (p ∷ parts) =
    ap (λ (xs : List (List Entered)). length xs) (runs_at-cons packets p parts) ∙ ap suc (runs_length (drop (length (run_at packets p.0 p.1)) packets) parts)
