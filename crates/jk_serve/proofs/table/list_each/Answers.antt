use Rattle.std.proofs.Common.{◌≡◌, ◌++◌, ◌∷◌, [], List, map, length, ap, sym, subst, ◌∙◌, append_assoc, arith}
use Rattle.std.specs.Arc.{arc_value}
use Rattle.std.specs.String.{string_bytes}
use Rattle.jk_store.proofs.AddLaws.{map_more}
use Rattle.jk_serve.specs.Operating.{entries_of}
use Rattle.jk_serve.specs.Tables.{ListEach}
use Rattle.jk_serve.proofs.TableLaws.{listed_on, passed_on, all_judged, no_items}
use Rattle.jk_serve.proofs.table.list_each.Goals as goal

pub loop-image-preserved-in-Ok : goal.loop-image-preserved-in-Ok
loop-image-preserved-in-Ok g c =
    let inv = c.loop-image.invariant in
    let p = c.in-Some.image in
    let left = c.next.new.self.rest.items in
    let start = entries_of c.args.archive.now in
    let now = entries_of c.loop-image.archive in
    let all = c.args.images.items in
    let done = map arc_value c.loop-image.entries.items in
    let passed = c.loop-image.passed.items in
    let e = arc_value c.in-Ok.entry in
    let is = c.in-Ok.ensures in
    let split = c.in-Some.ensures.steps.0 in
    let len = ap (λ (xs : List _). length xs) split in
    let pushed : map arc_value c.push_reserved.new.self.items ≡ done ++ e ∷ [] = ap (map arc_value) c.push_reserved.ensures.items ∙ map_more arc_value c.loop-image.entries.items c.in-Ok.entry in
    record {
      each = λ more rest on.
          subst (λ es. ListEach start all (es ++ more) (passed ++ rest)) (sym pushed)
          (listed_on start now (entries_of c.list_one.new.archive) p left all done passed e is.ok is.listed (λ m r h. inv.each m r (subst (λ xs. ListEach now xs m r) (sym split) h)) more rest on);
      added = is.listed ∙ ap (λ es. es ++ e ∷ []) inv.added ∙ append_assoc start done (e ∷ []) ∙ ap (λ es. start ++ es) (sym pushed);
      room = omega (arith, c.push_reserved.ensures.len, c.push_reserved.ensures.capacity, len, inv.room);
      places = omega (arith, len, inv.places);
    }

pub loop-image-preserved : goal.loop-image-preserved
loop-image-preserved g c =
    let inv = c.loop-image.invariant in
    let p = c.in-Some.image in
    let left = c.next.new.self.rest.items in
    let start = entries_of c.args.archive.now in
    let now = entries_of c.loop-image.archive in
    let all = c.args.images.items in
    let done = map arc_value c.loop-image.entries.items in
    let passed = c.loop-image.passed.items in
    let same : entries_of c.list_one.new.archive ≡ now = c.in-Err.ensures.same in
    let split = c.in-Some.ensures.steps.0 in
    let len = ap (λ (xs : List _). length xs) split in
    record {
      each = λ more rest on.
          subst (λ ks. ListEach start all (done ++ more) (ks ++ rest)) (sym c.push_reserved-in-Err.ensures.items)
          (passed_on start now (entries_of c.list_one.new.archive) p left all done passed _ c.in-Err.ensures.passed same (λ m r h. inv.each m r (subst (λ xs. ListEach now xs m r) (sym split) h)) more
          rest on);
      added = same ∙ inv.added;
      room = omega (arith, len, inv.room);
      places = omega (arith, c.push_reserved-in-Err.ensures.len, c.push_reserved-in-Err.ensures.capacity, len, inv.places);
    }

pub returns-clause-each : goal.returns-clause-each
returns-clause-each g c =
    let inv = c.loop-image.invariant in
    let now = entries_of c.loop-image.archive in
    let rest = c.loop-image.image-iterator.rest in
    let none : rest.items ≡ [] = no_items rest.items (omega (arith, c.in-None.ensures.steps.0, rest.ok.0)) in
    all_judged (entries_of c.args.archive.now) now c.args.images.items (map arc_value c.loop-image.entries.items) c.loop-image.passed.items
    (λ m r h. inv.each m r (subst (λ xs. ListEach now xs m r) (sym none) h))
