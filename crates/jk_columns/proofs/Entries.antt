-- The entries of the tables: each table is computed whole, once.
use Rattle.std.proofs.Common.{◌≡◌, ℕ, ◌<◌, ◌≤◌, true, List, [], length, get_or, refl, sym, ap, ◌∙◌, subst, arith}
use Rattle.std.specs.Simd.Lanes.{all_below}
use Rattle.std.proofs.Math.Dec.{T, leb}
use Rattle.std.proofs.lemmas.Bool.{agree_below, agree_below_at, leb-true}
use Rattle.std.proofs.lemmas.List.FromFn.{get_or-map-range_with_len}
use Rattle.jk_scan.specs.Bits.{on}
use Rattle.jk_columns.specs.declared.tables.TheConstants.{SHUFFLES, COUNTS}
use Rattle.jk_columns.specs.Columns.{chained, row_places, first_place, run_places, column_places, shuffle_of, count_of, shuffles, counts}

all_shuffles : SHUFFLES ≡ shuffles
unfolding on chained row_places first_place run_places column_places shuffle_of shuffles
all_shuffles = refl

all_counts : COUNTS ≡ counts
unfolding on chained row_places first_place run_places column_places count_of counts
all_counts = refl

pub shuffle_entry : (i : ℕ) → i < 512 → get_or SHUFFLES i [] ≡ shuffle_of i
unfolding shuffles
shuffle_entry i h =
    ap (λ (rows : List (List ℕ)). get_or rows i []) all_shuffles ∙ get_or-map-range_with_len shuffle_of 0 512 i i [] h (omega arith)

pub count_entry : (i : ℕ) → i < 512 → get_or COUNTS i 0 ≡ count_of i
unfolding counts
count_entry i h =
    ap (λ (rows : List ℕ). get_or rows i 0) all_counts ∙ get_or-map-range_with_len count_of 0 512 i i 0 h (omega arith)

-- By computation of each entry: its places are below 16, and there are ten at most.
all_within : agree_below (λ i. all_below 16 (column_places i)) (λ i. true) 512 ≡ true
unfolding on chained row_places first_place run_places column_places
all_within = refl

all_short : agree_below (λ i. leb (length (column_places i)) 10) (λ i. true) 512 ≡ true
unfolding on chained row_places first_place run_places column_places
all_short = refl

pub places_within : (i : ℕ) → i < 512 → T (all_below 16 (column_places i))
places_within i h = subst T (sym (agree_below_at (λ i. all_below 16 (column_places i)) (λ i. true) 512 i all_within h)) tt

pub places_few : (i : ℕ) → i < 512 → length (column_places i) ≤ 10
places_few i h = leb-true (length (column_places i)) 10 (agree_below_at (λ i. leb (length (column_places i)) 10) (λ i. true) 512 i all_short h)
