use Rattle.std.specs.Cmp.Lexicographic.{pointwise}
use Rattle.std.specs.List.{list_all, AllByRecursion}
use Rattle.std.proofs.Common.{◌≡◌, ◌==◌, ◌&&◌, ◌<◌, ◌++◌, ℕ, Bool, true, false, cond, List, length, subst, sym, ap, ◌∙◌}
use Rattle.jk_marks.specs.declared.coding.Coding.{Coding}
use Rattle.jk_params.specs.Headers.{Headers, tile_in}
use Rattle.jk_window.specs.Views.{holds_below}
use Rattle.jk_commands.specs.AllLines.{differ, first_coding, precincts_text, precinct_values}
use Rattle.jk_commands.proofs.AllLaws.{small_precincts}
use Rattle.jk_commands.proofs.coding_values.precinct_values.Goals as goal

pub put_precincts-requires : goal.put_precincts-requires
put_precincts-requires c =
    subst (λ (sizes : List (ℕ × ℕ)). AllByRecursion (λ p. (p.0 < 16) × (p.1 < 16)) sizes) (sym c.as_slice-sizes.ensures) (small_precincts c.first_coding.result.now c.first_coding.ensures.sound)

-- whether all have these sizes
abbrev all_have : Headers → List (ℕ × ℕ) → Bool
all_have h sizes = holds_below (λ t. list_all (λ (k : Coding). pointwise (λ (p q : ℕ × ℕ). (p.0 == q.0) && (p.1 == q.1)) k.precincts sizes) (tile_in h.tiles t).codings) (length h.tiles)

pub returns-then-all_have_precincts : goal.returns-then-all_have_precincts
unfolding precinct_values
returns-then-all_have_precincts c =
    let h = c.args.headers.now in
    let sizes = (first_coding h).precincts in
    let same : c.as_slice-sizes.result.now ≡ sizes = c.as_slice-sizes.ensures ∙ ap (λ (k : Coding). k.precincts) c.first_coding.ensures.value in
    let each : all_have h sizes ≡ true = ap (all_have h) (sym same) ∙ sym c.if-all_have_precincts.ensures in
    c.in_ok-put_precincts.ensures
    ∙ ap (λ (x : List ℕ). x ++ precincts_text c.as_slice-sizes.result.now) c.new-values.ensures.bytes
    ∙ ap precincts_text same
    ∙ sym (ap (λ b. cond b (precincts_text sizes) differ) each)

pub returns : goal.returns
unfolding precinct_values
returns c =
    let h = c.args.headers.now in
    let sizes = (first_coding h).precincts in
    let same : c.as_slice-sizes.result.now ≡ sizes = c.as_slice-sizes.ensures ∙ ap (λ (k : Coding). k.precincts) c.first_coding.ensures.value in
    let none : all_have h sizes ≡ false = ap (all_have h) (sym same) ∙ sym c.if-all_have_precincts.ensures in
    c.in_ok-put_value.ensures ∙ ap (λ (x : List ℕ). x ++ differ) c.new-values.ensures.bytes ∙ sym (ap (λ b. cond b (precincts_text sizes) differ) none)
