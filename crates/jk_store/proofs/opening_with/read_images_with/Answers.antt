use Rattle.std.proofs.Common.{◌≡◌, ◌∷◌, ◌++◌, [], List, ℕ, map, Err, ap, sym, subst, ◌∙◌, append_assoc, append-nil, refl, rules}
use Rattle.std.specs.BTreeSet.{keys}
use Rattle.std.specs.String.{string_bytes}
use Rattle.jk_math.specs.declared.fault.Fault.TheVariants.{Limit, Shelf}
use Rattle.jk_store.specs.Catalogue.{Stored, stored}
use Rattle.jk_store.specs.Opening.{GivesFile, ReadsUpTo, stored_file, CanBeMade}
use Rattle.jk_store.specs.OpeningWith.{IsOpeningOf, MakePast, ReadInTurn}
use Rattle.jk_store.proofs.OpenWithLaws.{read_more, opened_by, up_to, past_by}
use Rattle.jk_store.proofs.OpenLaws.{sorted_bytes, refused, fault_is}
use Rattle.jk_store.proofs.opening_with.read_images_with.Goals as goal

pub loop-name-init : goal.loop-name-init
loop-name-init g c = (tt, tt, ([], [], search rules, (refl, refl), c.new-opening.ensures), refl, λ files kept. kept)

pub loop-name-preserved : goal.loop-name-preserved
loop-name-preserved g c =
    let before = c.loop-name.invariant.2 in
    let n = c.as_str.result.now in
    let rest = map string_bytes c.next.new.self in
    let file = c.in_ok-file.file in
    let split = before.2 ∙ (ap (λ l. before.0 ++ map string_bytes l) c.in-Some.ensures.steps
    ∙ (ap (λ m. before.0 ++ m ∷ rest) (sym c.as_str.ensures.value) ∙ sym (append_assoc before.0 (n ∷ []) rest))) in
    let here : Stored = stored n file.bytes.items in
    let named : stored_file file ≡ here = ap (λ (m : List ℕ). stored m file.bytes.items) c.in_ok-file.ensures.name in
    let can = subst CanBeMade named c.in_ok-file.ensures.seen in
    let read = read_more (GivesFile g.S.Shelf.keeps g.S.Shelf.gave) n file.bytes.items c.loop-name.shelf c.read_named.new.shelf c.in_ok-file.ensures.given can
    before.0 c.args.shelf.now before.1 before.3 in
    let taken = subst (λ f. IsOpeningOf (before.1 ++ f ∷ []) c.take.new.self) named (c.in_ok-take.ensures.taken before.1 before.4) in
    (tt, tt, (before.0 ++ n ∷ [], before.1 ++ here ∷ [], split, read, taken), c.in_ok-file.ensures.counts ∙ c.loop-name.invariant.3, λ files kept. c.in_ok-file.ensures.kept files (c.loop-name.invariant.4 files kept))

pub returns-in_err-file-clause-cause : goal.returns-in_err-file-clause-cause
returns-in_err-file-clause-cause g c =
    let before = c.loop-name.invariant.2 in
    let n = c.as_str.result.now in
    let rest = map string_bytes c.next.new.self in
    let all = map string_bytes (keys c.args.names.now) in
    let split = before.2 ∙ (ap (λ l. before.0 ++ map string_bytes l) c.in-Some.ensures.steps ∙ ap (λ m. before.0 ++ m ∷ rest) (sym c.as_str.ensures.value)) in
    fault_is c.from_residual.result c.in_err-file.field-0.0 c.from_residual.ensures.1
    (λ e. e ≡ Shelf → ReadsUpTo (GivesFile g.S.Shelf.keeps g.S.Shelf.gave) g.S.Shelf.unread all c.args.shelf.now)
    (λ is. up_to (GivesFile g.S.Shelf.keeps g.S.Shelf.gave) g.S.Shelf.unread all before.0 n rest c.args.shelf.now c.loop-name.shelf c.read_named.new.shelf before.1 split before.3 (c.in_err-file.ensures.cause is))

pub returns-in_err-file-clause-ordered : goal.returns-in_err-file-clause-ordered
returns-in_err-file-clause-ordered g c = sorted_bytes (keys c.args.names.now) c.iter-name-items.ensures.ordered

pub returns-in_err-take-clause-ordered : goal.returns-in_err-take-clause-ordered
returns-in_err-take-clause-ordered g c = sorted_bytes (keys c.args.names.now) c.iter-name-items.ensures.ordered

pub returns-in_err-judge-clause-ordered : goal.returns-in_err-judge-clause-ordered
returns-in_err-judge-clause-ordered g c = sorted_bytes (keys c.args.names.now) c.iter-name-items.ensures.ordered

pub returns-clause-ordered : goal.returns-clause-ordered
returns-clause-ordered g c = sorted_bytes (keys c.args.names.now) c.iter-name-items.ensures.ordered

pub returns-in_err-take-clause-full : goal.returns-in_err-take-clause-full
returns-in_err-take-clause-full g c = λ is.
    let before = c.loop-name.invariant.2 in
    let n = c.as_str.result.now in
    let rest = map string_bytes c.next.new.self in
    let file = c.in_ok-file.file in
    let all = map string_bytes (keys c.args.names.now) in
    let split = before.2 ∙ (ap (λ l. before.0 ++ map string_bytes l) c.in-Some.ensures.steps
    ∙ (ap (λ m. before.0 ++ m ∷ rest) (sym c.as_str.ensures.value) ∙ sym (append_assoc before.0 (n ∷ []) rest))) in
    let here : Stored = stored n file.bytes.items in
    let named : stored_file file ≡ here = ap (λ (m : List ℕ). stored m file.bytes.items) c.in_ok-file.ensures.name in
    let can = subst CanBeMade named c.in_ok-file.ensures.seen in
    let read = read_more (GivesFile g.S.Shelf.keeps g.S.Shelf.gave) n file.bytes.items c.loop-name.shelf c.read_named.new.shelf c.in_ok-file.ensures.given can
    before.0 c.args.shelf.now before.1 before.3 in
    let limit = refused c.from_residual-in_err-take.result c.in_err-take.field-0.0 Limit c.from_residual-in_err-take.ensures.1 is in
    let many = subst (λ f. MakePast (before.1 ++ f ∷ [])) named (c.in_err-take.ensures.full before.1 before.4 (ap Err limit)) in
    past_by (GivesFile g.S.Shelf.keeps g.S.Shelf.gave) all (before.0 ++ n ∷ []) rest c.args.shelf.now c.read_named.new.shelf (before.1 ++ here ∷ []) split read many

pub returns-in_err-judge-clause-full : goal.returns-in_err-judge-clause-full
returns-in_err-judge-clause-full g c = λ is.
    let before = c.loop-name.invariant.2 in
    let all = map string_bytes (keys c.args.names.now) in
    let split = before.2 ∙ ap (λ l. before.0 ++ map string_bytes l) c.in-None.ensures.steps.0 in
    let limit = refused c.from_residual-in_err-judge.result c.in_err-judge.field-0.0 Limit c.from_residual-in_err-judge.ensures.1 is in
    past_by (GivesFile g.S.Shelf.keeps g.S.Shelf.gave) all before.0 [] c.args.shelf.now c.loop-name.shelf before.1 split before.3 (c.in_err-judge.ensures.full before.1 before.4 (ap Err limit))

pub returns-clause-opened : goal.returns-clause-opened
returns-clause-opened g c =
    let before = c.loop-name.invariant.2 in
    let all = map string_bytes (keys c.args.names.now) in
    let whole : all ≡ before.0 = before.2 ∙ (ap (λ l. before.0 ++ map string_bytes l) c.in-None.ensures.steps.0 ∙ append-nil before.0) in
    let made = c.in_ok-judge.ensures.made before.1 before.4 in
    let read = subst (λ names. ReadInTurn (GivesFile g.S.Shelf.keeps g.S.Shelf.gave) names c.args.shelf.now before.1 c.loop-name.shelf) (sym whole) before.3 in
    opened_by (GivesFile g.S.Shelf.keeps g.S.Shelf.gave) all c.args.shelf.now c.loop-name.shelf before.1 _ _ read made.0
