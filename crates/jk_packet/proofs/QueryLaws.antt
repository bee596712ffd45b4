-- Histories and queries, one layer or one block more.
use Rattle.std.proofs.Common.{◌≡◌, ℕ, suc, ◌+◌, ◌≤◌, Bool, true, false, cond, List, [], ◌∷◌, ◌++◌, length, Option, Some, None, refl, sym, ap, ◌∙◌, inl, inr, arith, append_assoc, add-zero}
use Rattle.std.specs.Prelude.{sum_by}
use Rattle.std.proofs.lemmas.List.{append-nil, length_push, get_or_push, get_or_append_left, get_or_past}
use Rattle.std.proofs.lemmas.List.Sums.{sum_by_push}
use Rattle.std.proofs.lemmas.Bool.{cases_lt}
use Rattle.jk_tree.specs.TagTree.{Query, query_of}
use Rattle.jk_packet.specs.PacketText.{PacketContribution, BandLayer, given, option_list, contributions, has_any, zeros_of, passes_of, lblock_of, is_included, queries_in, queries_at, queries_of, queries_before, asks_inclusion, asks_zeros}
use Rattle.jk_packet.specs.Standing.{block_of, so_far}

pub contributions_push : (layers : List BandLayer) (x : BandLayer) (i : ℕ) → contributions (layers ++ x ∷ []) i ≡ contributions layers i ++ option_list (given x i)
unfolding contributions
contributions_push [] x i = append-nil (option_list (given x i))
contributions_push (y ∷ layers) x i =
    ap (λ (cs : List PacketContribution). option_list (given y i) ++ cs) (contributions_push layers x i) ∙ sym (append_assoc (option_list (given y i)) (contributions layers i) (option_list (given x i)))

pub queries_in_push : (ask : ℕ → Option PacketContribution → List Query) (i : ℕ) (front : List (Option PacketContribution)) (c : Option PacketContribution) → queries_in ask i (front ++ c ∷ []) ≡ queries_in ask i front ++ ask (i + length front) c
unfolding queries_in
queries_in_push ask i [] c = append-nil (ask i c) ∙ ap (λ k. ask k c) (sym (add-zero i))
queries_in_push ask i (d ∷ front) c =
    ap (λ (qs : List Query). ask i d ++ qs) (queries_in_push ask (i + 1) front c)
    ∙ sym (append_assoc (ask i d) (queries_in ask (i + 1) front) (ask (i + 1 + length front) c))
    ∙ ap (λ k. (ask i d ++ queries_in ask (i + 1) front) ++ ask k c) (let e : i + 1 + length front ≡ i + suc (length front) = omega arith in e)

pub queries_of_push : (ask : List BandLayer → ℕ → Option PacketContribution → List Query) (before layers : List BandLayer) (x : BandLayer) → queries_of ask before (layers ++ x ∷ []) ≡ queries_of ask before layers ++ queries_at (ask (before ++ layers)) x
unfolding queries_of
queries_of_push ask before [] x = append-nil (queries_at (ask before) x) ∙ ap (λ (b : List BandLayer). queries_at (ask b) x) (sym (append-nil before))
queries_of_push ask before (y ∷ layers) x =
    ap (λ (qs : List Query). queries_at (ask before) y ++ qs) (queries_of_push ask (before ++ y ∷ []) layers x)
    ∙ sym (append_assoc (queries_at (ask before) y) (queries_of ask (before ++ y ∷ []) layers) (queries_at (ask ((before ++ y ∷ []) ++ layers)) x))
    ∙ ap (λ (b : List BandLayer). (queries_at (ask before) y ++ queries_of ask (before ++ y ∷ []) layers) ++ queries_at (ask b) x) (append_assoc before (y ∷ []) layers)

-- one block more in front
pub before_push : (ask : List BandLayer → ℕ → Option PacketContribution → List Query) (layers : List BandLayer) (front : List (Option PacketContribution)) (c : Option PacketContribution)
    → queries_before ask layers (front ++ c ∷ []) ≡ queries_before ask layers front ++ ask layers (length front) c
before_push ask layers front c =
    ap (λ (qs : List Query). queries_of ask [] layers ++ qs) (queries_in_push (ask layers) 0 front c)
    ∙ sym (append_assoc (queries_of ask [] layers) (queries_in (ask layers) 0 front) (ask layers (0 + length front) c))
    ∙ ap (λ k. (queries_of ask [] layers ++ queries_in (ask layers) 0 front) ++ ask layers k c) (let e : 0 + length front ≡ length front = omega arith in e)

none_in : (ask : ℕ → Option PacketContribution → List Query) → queries_in ask 0 [] ≡ []
unfolding queries_in
none_in ask = refl

-- a whole packet more
pub before_layer : (ask : List BandLayer → ℕ → Option PacketContribution → List Query) (layers : List BandLayer) (blocks : List (Option PacketContribution))
    → queries_before ask (layers ++ Some blocks ∷ []) [] ≡ queries_before ask layers blocks
before_layer ask layers blocks =
    ap (λ (qs : List Query). queries_of ask [] (layers ++ Some blocks ∷ []) ++ qs) (none_in (ask (layers ++ Some blocks ∷ [])))
    ∙ append-nil (queries_of ask [] (layers ++ Some blocks ∷ []))
    ∙ queries_of_push ask [] layers (Some blocks)

-- an empty packet more
pub before_empty : (ask : List BandLayer → ℕ → Option PacketContribution → List Query) (layers : List BandLayer) → queries_before ask (layers ++ None ∷ []) [] ≡ queries_before ask layers []
before_empty ask layers =
    ap (λ (qs : List Query). queries_of ask [] (layers ++ None ∷ []) ++ qs) (none_in (ask (layers ++ None ∷ [])))
    ∙ append-nil (queries_of ask [] (layers ++ None ∷ []))
    ∙ queries_of_push ask [] layers None
    ∙ ap (λ (qs : List Query). queries_of ask [] layers ++ qs) (sym (none_in (ask layers)))

-- what was contributed so far: before the packet, to another block, to the block in hand, and behind the packet
pub so_far_none : (layers : List BandLayer) (front : List (Option PacketContribution)) (j : ℕ) → length front ≤ j → so_far layers front j ≡ contributions layers j
so_far_none layers front j past =
    ap (λ (c : Option PacketContribution). contributions layers j ++ option_list c) (get_or_past front j None past) ∙ append-nil (contributions layers j)

pub so_far_other : (layers : List BandLayer) (front : List (Option PacketContribution)) (c : Option PacketContribution) (j : ℕ) → (j ≡ length front → ⊥) → so_far layers (front ++ c ∷ []) j ≡ so_far layers front j
so_far_other layers front c j apart =
    ap (λ (d : Option PacketContribution). contributions layers j ++ option_list d) (elim (cases_lt j (length front)) [
      | inl less ↦ get_or_append_left front (c ∷ []) None j less
      | inr more ↦ get_or_past (front ++ c ∷ []) j None (let e = length_push front c in omega (arith, e, more, apart)) ∙ sym (get_or_past front j None more)
    ])

pub so_far_own : (layers : List BandLayer) (front : List (Option PacketContribution)) (c : Option PacketContribution) → so_far layers (front ++ c ∷ []) (length front) ≡ contributions layers (length front) ++ option_list c
so_far_own layers front c = ap (λ (d : Option PacketContribution). contributions layers (length front) ++ option_list d) (get_or_push front c None (length front) refl)

pub so_far_layer : (layers : List BandLayer) (blocks : List (Option PacketContribution)) (j : ℕ) → so_far (layers ++ Some blocks ∷ []) [] j ≡ so_far layers blocks j
so_far_layer layers blocks j = append-nil (contributions (layers ++ Some blocks ∷ []) j) ∙ contributions_push layers (Some blocks) j

pub so_far_empty : (layers : List BandLayer) (j : ℕ) → so_far (layers ++ None ∷ []) [] j ≡ so_far layers [] j
so_far_empty layers j = append-nil (contributions (layers ++ None ∷ []) j) ∙ contributions_push layers None j

-- a block with one contribution more
has_any_push : (cs : List PacketContribution) (c : PacketContribution) → has_any (cs ++ c ∷ []) ≡ true
has_any_push [] c = refl
has_any_push (d ∷ cs) c = refl

zeros_push : (cs : List PacketContribution) (c : PacketContribution) → (has_any cs ≡ true → c.zero_planes ≡ zeros_of cs) → zeros_of (cs ++ c ∷ []) ≡ c.zero_planes
zeros_push [] c h = refl
zeros_push (d ∷ cs) c h = sym (h refl)

one_more : (f : PacketContribution → ℕ) (cs : List PacketContribution) (c : PacketContribution) → sum_by f (cs ++ c ∷ []) ≡ sum_by f cs + f c
one_more f cs c = sum_by_push f cs c

pub block_push : (cs : List PacketContribution) (c : PacketContribution) → (has_any cs ≡ true → c.zero_planes ≡ zeros_of cs)
    → block_of (cs ++ c ∷ []) ≡ record { included = true; zero_planes = c.zero_planes; passes = passes_of cs + c.piece.passes; length_bits = lblock_of cs + c.piece.growth }
block_push cs c h =
    ap (λ (b : Bool). record { included = b; zero_planes = zeros_of (cs ++ c ∷ []); passes = passes_of (cs ++ c ∷ []); length_bits = lblock_of (cs ++ c ∷ []) }) (has_any_push cs c)
    ∙ ap (λ n. record { included = true; zero_planes = n; passes = passes_of (cs ++ c ∷ []); length_bits = lblock_of (cs ++ c ∷ []) }) (zeros_push cs c h)
    ∙ ap (λ n. record { included = true; zero_planes = c.zero_planes; passes = n; length_bits = lblock_of (cs ++ c ∷ []) }) (one_more (λ d. d.piece.passes) cs c)
    ∙ ap (λ n. record { included = true; zero_planes = c.zero_planes; passes = passes_of cs + c.piece.passes; length_bits = n })
    (let e = one_more (λ d. d.piece.growth) cs c in let g : lblock_of (cs ++ c ∷ []) ≡ lblock_of cs + c.piece.growth = omega (arith, e) in g)

-- the queries for one block
pub inclusion_old : (layers : List BandLayer) (front : List (Option PacketContribution)) (c : Option PacketContribution) → is_included layers (length front) ≡ true
    → queries_before asks_inclusion layers (front ++ c ∷ []) ≡ queries_before asks_inclusion layers front
inclusion_old layers front c h =
    before_push asks_inclusion layers front c
    ∙ ap (λ (b : Bool). queries_before asks_inclusion layers front ++ cond b [] (query_of (length front) (length layers + 1) ∷ [])) h
    ∙ append-nil (queries_before asks_inclusion layers front)

pub inclusion_new : (layers : List BandLayer) (front : List (Option PacketContribution)) (c : Option PacketContribution) → is_included layers (length front) ≡ false
    → queries_before asks_inclusion layers (front ++ c ∷ []) ≡ queries_before asks_inclusion layers front ++ query_of (length front) (length layers + 1) ∷ []
inclusion_new layers front c h =
    before_push asks_inclusion layers front c
    ∙ ap (λ (b : Bool). queries_before asks_inclusion layers front ++ cond b [] (query_of (length front) (length layers + 1) ∷ [])) h

pub zeros_none : (layers : List BandLayer) (front : List (Option PacketContribution)) → queries_before asks_zeros layers (front ++ None ∷ []) ≡ queries_before asks_zeros layers front
zeros_none layers front = before_push asks_zeros layers front None ∙ append-nil (queries_before asks_zeros layers front)

pub zeros_old : (layers : List BandLayer) (front : List (Option PacketContribution)) (c : PacketContribution) → is_included layers (length front) ≡ true
    → queries_before asks_zeros layers (front ++ Some c ∷ []) ≡ queries_before asks_zeros layers front
zeros_old layers front c h =
    before_push asks_zeros layers front (Some c)
    ∙ ap (λ (b : Bool). queries_before asks_zeros layers front ++ cond b [] (query_of (length front) (c.zero_planes + 1) ∷ [])) h
    ∙ append-nil (queries_before asks_zeros layers front)

pub zeros_new : (layers : List BandLayer) (front : List (Option PacketContribution)) (c : PacketContribution) → is_included layers (length front) ≡ false
    → queries_before asks_zeros layers (front ++ Some c ∷ []) ≡ queries_before asks_zeros layers front ++ query_of (length front) (c.zero_planes + 1) ∷ []
zeros_new layers front c h =
    before_push asks_zeros layers front (Some c)
    ∙ ap (λ (b : Bool). queries_before asks_zeros layers front ++ cond b [] (query_of (length front) (c.zero_planes + 1) ∷ [])) h
