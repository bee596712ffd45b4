use Rattle.std.proofs.Common.{◌≡◌, ◌∷◌, ◌++◌, [], List, ℕ, map, ap, sym, subst, ◌∙◌, append_assoc, refl, rules}
use Rattle.std.specs.List.{AllZip}
use Rattle.std.specs.BTreeSet.{keys}
use Rattle.std.specs.String.{string_bytes}
use Rattle.jk_store.specs.Checking.{GivenFile, IsFoundOf, AreTaken, given_file, given_bytes}
use Rattle.jk_store.proofs.CheckLaws.{asked_more, none_waits}
use Rattle.jk_store.proofs.OpenLaws.{sorted_bytes}
use Rattle.jk_store.proofs.checking.check_images.Goals as goal

pub loop-name-init : goal.loop-name-init
loop-name-init g c =
    let none = none_waits c.args.blocks [] c.new-2.result.items c.new-2.ensures.items in
    let found = subst (AllZip (IsFoundOf c.args.blocks) []) (sym c.new.ensures.items) tt in
    (tt, tt, ([], [], search rules, (refl, refl), ([], none.0, found, none.1)), λ files kept. kept)

pub loop-name-preserved : goal.loop-name-preserved
loop-name-preserved g c =
    let before = c.loop-name.invariant.2 in
    let n = c.as_str.result.now in
    let rest = map string_bytes c.next.new.self in
    let file = c.in_ok-file.file in
    let split = before.2 ∙ (ap (λ l. before.0 ++ map string_bytes l) c.in-Some.ensures.steps
    ∙ (ap (λ m. before.0 ++ m ∷ rest) (sym c.as_str.ensures.value) ∙ sym (append_assoc before.0 (n ∷ []) rest))) in
    let here : GivenFile = record { name = n; bytes = given_bytes file.bytes } in
    let named : given_file file ≡ here = ap (λ (m : List ℕ). let f : GivenFile = record { name = m; bytes = given_bytes file.bytes } in f) c.in_ok-file.ensures.name in
    let asked = asked_more g.S.Shelf.keeps g.S.Shelf.gave g.S.Shelf.unread n (given_bytes file.bytes) c.loop-name.shelf c.read_file.new.shelf c.in_ok-file.ensures.asked
    before.0 c.args.shelf.now before.1 before.3 in
    let was = subst (λ b. AreTaken b before.1 c.loop-name.checking) (sym c.in_ok-file.ensures.judged) before.4 in
    let is = c.in_ok-take.ensures.taken before.1 was in
    let taken = subst (λ b. AreTaken b (before.1 ++ here ∷ []) c.take.new.self) c.in_ok-file.ensures.judged
    (subst (λ f. AreTaken file.blocks (before.1 ++ f ∷ []) c.take.new.self) named is) in
    (tt, tt, (before.0 ++ n ∷ [], before.1 ++ here ∷ [], split, asked, taken), λ files kept. c.in_ok-file.ensures.kept files (c.loop-name.invariant.3 files kept))

pub returns-in_err-file-clause-ordered : goal.returns-in_err-file-clause-ordered
returns-in_err-file-clause-ordered g c = sorted_bytes (keys c.args.names.now) c.iter-name-items.ensures.ordered

pub returns-in_err-file-clause-kept : goal.returns-in_err-file-clause-kept
returns-in_err-file-clause-kept g c = λ files kept. c.in_err-file.ensures.kept files (c.loop-name.invariant.3 files kept)

pub returns-in_err-take-clause-ordered : goal.returns-in_err-take-clause-ordered
returns-in_err-take-clause-ordered g c = sorted_bytes (keys c.args.names.now) c.iter-name-items.ensures.ordered

pub returns-in_err-judge-clause-ordered : goal.returns-in_err-judge-clause-ordered
returns-in_err-judge-clause-ordered g c = sorted_bytes (keys c.args.names.now) c.iter-name-items.ensures.ordered

pub returns-clause-ordered : goal.returns-clause-ordered
returns-clause-ordered g c = sorted_bytes (keys c.args.names.now) c.iter-name-items.ensures.ordered
