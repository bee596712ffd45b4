use Rattle.std.proofs.Common.{◌≤◌, [], ◌∷◌, ◌++◌, length, map, ap, sym, ◌∙◌, append_assoc, Err}
use Rattle.jk_math.specs.declared.fault.Fault.TheVariants.{Limit}
use Rattle.std.specs.BTreeSet.{keys}
use Rattle.std.specs.String.{string_bytes}
use Rattle.jk_store.specs.Catalogue.{most_entries}
use Rattle.jk_store.specs.Opening.{GivesFile}
use Rattle.jk_store.specs.Digesting.{all_entries}
use Rattle.jk_store.proofs.OpenLaws.{opened_more, past, sorted_bytes, refused}
use Rattle.jk_store.proofs.opening.read_images.Goals as goal

pub loop-name-preserved : goal.loop-name-preserved
loop-name-preserved g c =
    let before = c.loop-name.invariant in
    let front = before.2 in
    let n = c.as_str.result.now in
    let given = c.in_ok-enter.ensures.given in
    let rest = map string_bytes c.next.new.self in
    let split = front.1 ∙ (ap (λ l. front.0 ++ map string_bytes l) c.in-Some.ensures.steps
    ∙ (ap (λ m. front.0 ++ m ∷ rest) (sym c.as_str.ensures.value) ∙ sym (append_assoc front.0 (n ∷ []) rest))) in
    let more = opened_more (GivesFile g.S.Shelf.keeps g.S.Shelf.gave) n given.0 c.loop-name.shelf c.enter.new.shelf given.1 front.0 c.args.shelf.now
    (all_entries c.loop-name.listed) (all_entries c.enter.new.listed) c.loop-name.skipped.items c.enter.new.skipped.items front.2 given.2 in
    (tt, tt, (front.0 ++ n ∷ [], split, more), c.in_ok-enter.ensures.few before.3, c.in_ok-enter.ensures.counts ∙ before.4, λ files kept. c.in_ok-enter.ensures.kept files (before.5 files kept))

pub returns-in_err-enter-clause-ordered : goal.returns-in_err-enter-clause-ordered
returns-in_err-enter-clause-ordered g c = sorted_bytes (keys c.args.names.now) c.iter-name-items.ensures.ordered

pub returns-in_err-enter-clause-full : goal.returns-in_err-enter-clause-full
returns-in_err-enter-clause-full g c = λ is.
    let front = c.loop-name.invariant.2 in
    let n = c.as_str.result.now in
    let rest = map string_bytes c.next.new.self in
    let split = front.1 ∙ (ap (λ l. front.0 ++ map string_bytes l) c.in-Some.ensures.steps ∙ ap (λ m. front.0 ++ m ∷ rest) (sym c.as_str.ensures.value)) in
    let full = c.in_err-enter.ensures.full (ap Err (refused c.from_residual.result c.in_err-enter.field-0.0 Limit c.from_residual.ensures.1 is)) in
    let many : most_entries ≤ length (all_entries c.loop-name.listed) = full.0 in
    past (GivesFile g.S.Shelf.keeps g.S.Shelf.gave) n full.1.0 c.loop-name.shelf c.enter.new.shelf full.1.2 (map string_bytes (keys c.args.names.now)) front.0 rest c.args.shelf.now
    (all_entries c.loop-name.listed) c.loop-name.skipped.items full.1.1 split front.2 many full.1.3

pub returns-clause-ordered : goal.returns-clause-ordered
returns-clause-ordered g c = sorted_bytes (keys c.args.names.now) c.iter-name-items.ensures.ordered

pub returns-in_err-finish-clause-ordered : goal.returns-in_err-finish-clause-ordered
returns-in_err-finish-clause-ordered g c = sorted_bytes (keys c.args.names.now) c.iter-name-items.ensures.ordered
