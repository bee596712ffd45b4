use Rattle.std.proofs.Common.{◌≡◌, ℕ, zero, suc, ◌+◌, ◌-◌, ◌%◌, ◌<◌, ◌≤◌, Bool, true, false, cond, sym, ap, ◌∙◌, subst, arith}
use Rattle.std.specs.Prelude.{nat_lt}
use Rattle.std.specs.Int.{trailing_zeros, w64}
use Rattle.std.specs.Int.RustNames.{bit_or, bit_and}
use Rattle.std.proofs.lemmas.Bool.Decides.{nat_tests}
use Rattle.std.proofs.lemmas.Nat.{or_lt, and_le_l}
use Rattle.std.proofs.lemmas.Result.{err_from_is_err_and}
use Rattle.jk_scan.specs.Bits.{on}
use Rattle.jk_scan.specs.Neighbours.{Field}
use Rattle.jk_scan.specs.declared.shape.BlockShape.{BlockShape}
use Rattle.jk_scan.proofs.Laws.{lowest, bit_true, bit_false, on_zero}
use Rattle.jk_block.specs.Steps.{word_pass}
use Rattle.jk_block.specs.decoding.BlockStates.{Draft, Advanced, draft_of, significant_in}
use Rattle.jk_block.specs.decoding.Sights.{Sees, new_in, significant_at}
use Rattle.jk_block.proofs.decoding.ReadSoFar.{going_fault, going_all}
use Rattle.jk_block.proofs.decoding.Cleaning.{RunTaken, cleaning_none, cleaning_idle, next_left, next_run, cleaning_zero, cleaning_one, cleaning_run, cleaning_run_one, cleaning_run_fault, cleaning_all, left_fault, sooner_left, sooner_run}
use Rattle.jk_block.proofs.decoding.words.read_cleanup.Goals as goal

pub returns-then-left-still-eq0-clause-takes : goal.returns-then-left-still-eq0-clause-takes
returns-then-left-still-eq0-clause-takes c =
    let k = c.args.block_state.now in
    let at = c.args.spot in
    let v = c.args.decoder.now in
    let around = c.significant_around-significant.ensures in
    going_all 2 at (draft_of k) (draft_of k) v v
    (cleaning_idle at (draft_of k) v c.significant_around-significant.result c.uncoded-left.result c.still_columns-still.result around c.uncoded-left.ensures (c.still_columns-still.ensures (significant_in (draft_of k)) around) (omega arith))

pub places-init : goal.places-init
places-init c =
    let k = c.args.block_state.now in
    let around = c.significant_around-significant.ensures in
    cleaning_none c.args.spot (draft_of k) c.args.decoder.now _ c.uncoded-left.result c.still_columns-still.result
    record { significant = around; negative = c.negative_around-negative.ensures } c.uncoded-left.ensures (c.still_columns-still.ensures (significant_in (draft_of k)) around)

pub overflow_shr-still : goal.overflow_shr-still
overflow_shr-still c =
    let l = c.places in
    (lowest (bit_or l.left l.still) (omega arith) (or_lt 64 l.left l.still (omega arith) (omega arith))).0

some_bit : (w z : ℕ) → on w z ≡ true → 1 ≤ w
some_bit zero z h = let e = on_zero z in let c : true ≡ false = sym h ∙ e in absurd cc
some_bit (suc w) z h = omega arith

room : (z f : ℕ) → z < 64 → z % 8 ≡ 1 → f < 5 → z + f < 64
room z f h e l = omega arith

is_row : (a b : ℕ) → a < b → nat_lt a b ≡ true
is_row a b h = grind (arith, nat_tests)

no_row : (a b : ℕ) → b < a + 1 → nat_lt a b ≡ false
no_row a b h = grind (arith, nat_tests)

pub read_run-requires-clause-within : goal.read_run-requires-clause-within
read_run-requires-clause-within c =
    let l = c.places in
    let k = draft_of c.args.block_state.now in
    let at = c.args.spot in
    let v = c.args.decoder.now in
    let z = trailing_zeros w64 (bit_or l.left l.still) in
    let low = or_lt 64 l.left l.still (omega arith) (omega arith) in
    (next_run at k v l.decoder l.sight l.left l.still l.invariant (omega arith) low (bit_true l.still z c.if-still-k-eq1.true)).place.within

pub read_run-requires-clause-first : goal.read_run-requires-clause-first
read_run-requires-clause-first c =
    let l = c.places in
    let k = draft_of c.args.block_state.now in
    let at = c.args.spot in
    let v = c.args.decoder.now in
    let z = trailing_zeros w64 (bit_or l.left l.still) in
    let low = or_lt 64 l.left l.still (omega arith) (omega arith) in
    (next_run at k v l.decoder l.sight l.left l.still l.invariant (omega arith) low (bit_true l.still z c.if-still-k-eq1.true)).first

pub returns-in_err-row-clause-takes : goal.returns-in_err-row-clause-takes
returns-in_err-row-clause-takes c =
    let l = c.places in
    let k = draft_of c.args.block_state.now in
    let at = c.args.spot in
    let v = c.args.decoder.now in
    let z = trailing_zeros w64 (bit_or l.left l.still) in
    let low = or_lt 64 l.left l.still (omega arith) (omega arith) in
    let p = err_from_is_err_and c.from_residual.result c.from_residual.ensures.1 in
    let next = next_run at k v l.decoder l.sight l.left l.still l.invariant (omega arith) low (bit_true l.still z c.if-still-k-eq1.true) in
    let d = l.invariant.draft in
    rw (p.1, p.2) (cleaning_run_fault at k v l.decoder l.sight l.left l.still c.in_err-row.field-0.0 l.invariant (omega arith) low (bit_true l.still z c.if-still-k-eq1.true)
    (c.in_err-row.ensures.takes at d next.place next.rows l.invariant.held.sees))

pub overflow_shl-left : goal.overflow_shl-left
overflow_shl-left c =
    let l = c.places in
    let k = draft_of c.args.block_state.now in
    let at = c.args.spot in
    let v = c.args.decoder.now in
    let z = trailing_zeros w64 (bit_or l.left l.still) in
    let low = or_lt 64 l.left l.still (omega arith) (omega arith) in
    let next = next_run at k v l.decoder l.sight l.left l.still l.invariant (omega arith) low (bit_true l.still z c.if-still-k-eq1.true) in
    let few = c.in_ok-row.ensures.few in
    room z c.in_ok-row.row next.place.within next.first (omega (arith, few))

pub quiet_behind-still-requires : goal.quiet_behind-still-requires
quiet_behind-still-requires c =
    let l = c.places in
    let k = draft_of c.args.block_state.now in
    let at = c.args.spot in
    let v = c.args.decoder.now in
    let z = trailing_zeros w64 (bit_or l.left l.still) in
    let low = or_lt 64 l.left l.still (omega arith) (omega arith) in
    let next = next_run at k v l.decoder l.sight l.left l.still l.invariant (omega arith) low (bit_true l.still z c.if-still-k-eq1.true) in
    let few = c.in_ok-row.ensures.few in
    room z c.in_ok-row.row next.place.within next.first (omega (arith, few))

pub places-smaller-then-row-lt4 : goal.places-smaller-then-row-lt4
places-smaller-then-row-lt4 c =
    let l = c.places in
    let k = draft_of c.args.block_state.now in
    let at = c.args.spot in
    let v = c.args.decoder.now in
    let z = trailing_zeros w64 (bit_or l.left l.still) in
    let low = or_lt 64 l.left l.still (omega arith) (omega arith) in
    sooner_run l.left l.still c.quiet_behind-still.result c.in_ok-row.row (omega arith) low (omega arith) (omega arith) (bit_true l.still z c.if-still-k-eq1.true) c.quiet_behind-still.ensures.fewer

pub places-smaller-else-row-lt4 : goal.places-smaller-else-row-lt4
places-smaller-else-row-lt4 c =
    let l = c.places in
    let k = draft_of c.args.block_state.now in
    let at = c.args.spot in
    let v = c.args.decoder.now in
    let z = trailing_zeros w64 (bit_or l.left l.still) in
    let low = or_lt 64 l.left l.still (omega arith) (omega arith) in
    sooner_run l.left l.still (bit_and l.still (l.still - 1)) c.in_ok-row.row (omega arith) low (omega arith) (let e = and_le_l l.still (l.still - 1) in omega (arith, e)) (bit_true l.still z c.if-still-k-eq1.true) (λ m h. h)

pub places-preserved-then-row-lt4 : goal.places-preserved-then-row-lt4
places-preserved-then-row-lt4 c =
    let l = c.places in
    let k = draft_of c.args.block_state.now in
    let at = c.args.spot in
    let v = c.args.decoder.now in
    let z = trailing_zeros w64 (bit_or l.left l.still) in
    let low = or_lt 64 l.left l.still (omega arith) (omega arith) in
    let next = next_run at k v l.decoder l.sight l.left l.still l.invariant (omega arith) low (bit_true l.still z c.if-still-k-eq1.true) in
    let d = l.invariant.draft in
    let f = c.in_ok-row.row in
    let new = c.read_run.new.sight in
    let is = is_row f 4 (omega arith) in
    cleaning_run_one at k v l.decoder c.read_run.new.decoder l.sight new l.left l.still c.quiet_behind-still.result f l.invariant (omega arith) low (bit_true l.still z c.if-still-k-eq1.true) (omega arith)
    (subst (λ (t : Bool). RunTaken at d (cond t (significant_at at (z + f) new d) d) l.decoder c.read_run.new.decoder z f) is (c.in_ok-row.ensures.takes at d next.place next.rows l.invariant.held.sees)) c.in_ok-row.ensures.bytes
    (subst (λ (t : Bool). Sees at (cond t (significant_at at (z + f) new d) d) new) is (c.in_ok-row.ensures.sees at d next.place next.rows l.invariant.held.sees))
    c.quiet_behind-still.ensures.behind c.quiet_behind-still.ensures.fewer

pub places-preserved-else-row-lt4 : goal.places-preserved-else-row-lt4
places-preserved-else-row-lt4 c =
    let l = c.places in
    let k = draft_of c.args.block_state.now in
    let at = c.args.spot in
    let v = c.args.decoder.now in
    let z = trailing_zeros w64 (bit_or l.left l.still) in
    let low = or_lt 64 l.left l.still (omega arith) (omega arith) in
    let next = next_run at k v l.decoder l.sight l.left l.still l.invariant (omega arith) low (bit_true l.still z c.if-still-k-eq1.true) in
    let d = l.invariant.draft in
    let f = c.in_ok-row.row in
    let new = c.read_run.new.sight in
    let few = c.in_ok-row.ensures.few in
    let is = no_row f 4 (omega arith) in
    cleaning_run at k v l.decoder c.read_run.new.decoder l.sight new l.left l.still f l.invariant (omega arith) low (bit_true l.still z c.if-still-k-eq1.true) few
    (subst (λ (t : Bool). RunTaken at d (cond t (significant_at at (z + f) new d) d) l.decoder c.read_run.new.decoder z f) is (c.in_ok-row.ensures.takes at d next.place next.rows l.invariant.held.sees)) c.in_ok-row.ensures.bytes
    (subst (λ (t : Bool). Sees at (cond t (significant_at at (z + f) new d) d) new) is (c.in_ok-row.ensures.sees at d next.place next.rows l.invariant.held.sees))

pub read_new-requires-clause-within : goal.read_new-requires-clause-within
read_new-requires-clause-within c =
    let l = c.places in
    let k = draft_of c.args.block_state.now in
    let at = c.args.spot in
    let v = c.args.decoder.now in
    let z = trailing_zeros w64 (bit_or l.left l.still) in
    let low = or_lt 64 l.left l.still (omega arith) (omega arith) in
    (next_left at k v l.decoder l.sight l.left l.still l.invariant (omega arith) low (bit_false l.still z c.if-still-k-eq1.false)).place.within

pub read_new-requires-clause-on_row : goal.read_new-requires-clause-on_row
read_new-requires-clause-on_row c =
    let l = c.places in
    let k = draft_of c.args.block_state.now in
    let at = c.args.spot in
    let v = c.args.decoder.now in
    let z = trailing_zeros w64 (bit_or l.left l.still) in
    let low = or_lt 64 l.left l.still (omega arith) (omega arith) in
    (next_left at k v l.decoder l.sight l.left l.still l.invariant (omega arith) low (bit_false l.still z c.if-still-k-eq1.false)).place.on_row

pub returns-in_err-bit-clause-takes : goal.returns-in_err-bit-clause-takes
returns-in_err-bit-clause-takes c =
    let l = c.places in
    let k = draft_of c.args.block_state.now in
    let at = c.args.spot in
    let v = c.args.decoder.now in
    let z = trailing_zeros w64 (bit_or l.left l.still) in
    let low = or_lt 64 l.left l.still (omega arith) (omega arith) in
    let p = err_from_is_err_and c.from_residual-in_err-bit.result c.from_residual-in_err-bit.ensures.1 in
    let next = next_left at k v l.decoder l.sight l.left l.still l.invariant (omega arith) low (bit_false l.still z c.if-still-k-eq1.false) in
    let d = l.invariant.draft in
    rw (p.1, p.2) (going_fault 2 at z k d v l.decoder c.in_err-bit.field-0.0 next.going next.place
    (left_fault at d l.decoder z c.in_err-bit.field-0.0 next.place next.due (c.in_err-bit.ensures.takes at d (ap (λ (s : BlockShape). s.orientation) l.invariant.held.shape) next.place l.invariant.held.sees)))

pub overflow_sub-left : goal.overflow_sub-left
overflow_sub-left c =
    let l = c.places in
    let k = draft_of c.args.block_state.now in
    let at = c.args.spot in
    let v = c.args.decoder.now in
    let z = trailing_zeros w64 (bit_or l.left l.still) in
    let low = or_lt 64 l.left l.still (omega arith) (omega arith) in
    some_bit l.left z (next_left at k v l.decoder l.sight l.left l.still l.invariant (omega arith) low (bit_false l.still z c.if-still-k-eq1.false)).set

pub quiet_behind-still-requires-then-bit : goal.quiet_behind-still-requires-then-bit
quiet_behind-still-requires-then-bit c =
    let l = c.places in
    let k = draft_of c.args.block_state.now in
    let at = c.args.spot in
    let v = c.args.decoder.now in
    let z = trailing_zeros w64 (bit_or l.left l.still) in
    let low = or_lt 64 l.left l.still (omega arith) (omega arith) in
    (lowest (bit_or l.left l.still) (omega arith) low).0

pub places-smaller-then-bit : goal.places-smaller-then-bit
places-smaller-then-bit c =
    let l = c.places in
    let k = draft_of c.args.block_state.now in
    let at = c.args.spot in
    let v = c.args.decoder.now in
    let z = trailing_zeros w64 (bit_or l.left l.still) in
    let low = or_lt 64 l.left l.still (omega arith) (omega arith) in
    sooner_left at k v l.decoder l.sight l.left l.still c.quiet_behind-still-then-bit.result l.invariant (omega arith) low (omega arith) (omega arith) (bit_false l.still z c.if-still-k-eq1.false) c.quiet_behind-still-then-bit.ensures.fewer

pub places-smaller : goal.places-smaller
places-smaller c =
    let l = c.places in
    let k = draft_of c.args.block_state.now in
    let at = c.args.spot in
    let v = c.args.decoder.now in
    let z = trailing_zeros w64 (bit_or l.left l.still) in
    let low = or_lt 64 l.left l.still (omega arith) (omega arith) in
    sooner_left at k v l.decoder l.sight l.left l.still l.still l.invariant (omega arith) low (omega arith) (omega arith) (bit_false l.still z c.if-still-k-eq1.false) (λ m h. h)

pub places-preserved-then-bit : goal.places-preserved-then-bit
places-preserved-then-bit c =
    let l = c.places in
    let k = draft_of c.args.block_state.now in
    let at = c.args.spot in
    let v = c.args.decoder.now in
    let z = trailing_zeros w64 (bit_or l.left l.still) in
    let low = or_lt 64 l.left l.still (omega arith) (omega arith) in
    let next = next_left at k v l.decoder l.sight l.left l.still l.invariant (omega arith) low (bit_false l.still z c.if-still-k-eq1.false) in
    let d = l.invariant.draft in
    let new = c.read_new.new.sight in
    let takes = c.in_ok-bit.ensures.takes at d (ap (λ (s : BlockShape). s.orientation) l.invariant.held.shape) next.place l.invariant.held.sees in
    cleaning_one at k v l.decoder c.read_new.new.decoder l.sight new l.left l.still c.quiet_behind-still-then-bit.result c.in_ok-bit.bit l.invariant (omega arith) low (bit_false l.still z c.if-still-k-eq1.false)
    (λ coder st. rw c.if-bit.true at takes coder st) c.in_ok-bit.ensures.bytes
    (subst (λ (b : Bool). Sees at (new_in at z b new d) new) c.if-bit.true (c.in_ok-bit.ensures.sees at d next.place l.invariant.held.sees))
    c.quiet_behind-still-then-bit.ensures.behind c.quiet_behind-still-then-bit.ensures.fewer

pub places-preserved : goal.places-preserved
places-preserved c =
    let l = c.places in
    let k = draft_of c.args.block_state.now in
    let at = c.args.spot in
    let v = c.args.decoder.now in
    let z = trailing_zeros w64 (bit_or l.left l.still) in
    let low = or_lt 64 l.left l.still (omega arith) (omega arith) in
    let next = next_left at k v l.decoder l.sight l.left l.still l.invariant (omega arith) low (bit_false l.still z c.if-still-k-eq1.false) in
    let d = l.invariant.draft in
    let new = c.read_new.new.sight in
    let takes = c.in_ok-bit.ensures.takes at d (ap (λ (s : BlockShape). s.orientation) l.invariant.held.shape) next.place l.invariant.held.sees in
    cleaning_zero at k v l.decoder c.read_new.new.decoder l.sight new l.left l.still c.in_ok-bit.bit l.invariant (omega arith) low (bit_false l.still z c.if-still-k-eq1.false)
    (λ coder st. rw c.if-bit.false at takes coder st) c.in_ok-bit.ensures.bytes
    (subst (λ (b : Bool). Sees at (new_in at z b new d) new) c.if-bit.false (c.in_ok-bit.ensures.sees at d next.place l.invariant.held.sees))

pub returns-clause-shape : goal.returns-clause-shape
returns-clause-shape c =
    let l = c.places in
    ap (λ (d : Draft). d.shape) (c.light_all.ensures.known_significant l.invariant.draft l.invariant.held) ∙ l.invariant.held.shape

with_visited : Draft → Field Bool → Draft
with_visited d f = record d { visited = f }

pub returns-clause-takes : goal.returns-clause-takes
unfolding with_visited
returns-clause-takes c = λ coder st.
    let l = c.places in
    let k = draft_of c.args.block_state.now in
    let at = c.args.spot in
    let v = c.args.decoder.now in
    let d = l.invariant.draft in
    let behind = c.light_all.ensures.known_significant d l.invariant.held ∙ ap (with_visited d) (sym l.invariant.visited) in
    subst (λ (n : Draft). Advanced (word_pass v.bytes k.shape at.plane 2 at.word at.stripe) k n l.decoder coder) (sym behind)
    (going_all 2 at k d v l.decoder (cleaning_all at k v l.decoder l.sight l.left l.still l.invariant (omega arith)) coder st)

pub light_all-requires : goal.light_all-requires
light_all-requires c = record {
  spot = c.requires.spot;
  plane = c.requires.plane;
  limits = c.inside-limits.ensures;
  held = record { draft = c.places.invariant.draft; held = c.places.invariant.held };
}
