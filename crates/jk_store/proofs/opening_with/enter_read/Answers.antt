use Rattle.std.proofs.Common.{◌≡◌, ◌∷◌, [], map, inl, inr, refl, sym, ap, subst, ◌∙◌}
use Rattle.std.specs.Arc.{arc_value}
use Rattle.std.specs.String.{string_bytes}
use Rattle.std.proofs.lemmas.List.{map-append}
use Rattle.jk_store.specs.Catalogue.{StandsFor, stored}
use Rattle.jk_store.specs.declared.entry.Entry.{Entry}
use Rattle.jk_store.proofs.opening_with.enter_read.Goals as goal

pub returns-in_ok-push-in-ImageFile-clause-more : goal.returns-in_ok-push-in-ImageFile-clause-more
returns-in_ok-push-in-ImageFile-clause-more c =
    let seen = rw (c.in-ImageFile.is, c.deref.ensures.value) at c.in_ok-seen.ensures.ok in
    let file = c.args.file.now in
    let e : Entry = record { name = c.in_ok-name.name; digest = c.args.digest; parts = c.in-ImageFile.parts; index = c.in-ImageFile.index } in
    let is : arc_value c.in_ok-new-in-ImageFile.field-0 ≡ e = c.in_ok-new-in-ImageFile.ensures.ok in
    let stands : StandsFor e (stored (string_bytes file.name) file.bytes.items) =
    record { name = c.in_ok-name.ensures.cases; digest = c.requires; parts = seen.2; index = seen.0; indexes = seen.1 } in
    inl (
      arc_value c.in_ok-new-in-ImageFile.field-0,
      subst (λ (x : Entry). StandsFor x (stored (string_bytes file.name) file.bytes.items)) (sym is) stands,
      ap (map arc_value) c.in_ok-push-in-ImageFile.ensures.items ∙ map-append arc_value c.args.made.now.entries.items (c.in_ok-new-in-ImageFile.field-0 ∷ []),
      refl,
    )

pub returns-in_ok-push-in-OtherFile-clause-more : goal.returns-in_ok-push-in-OtherFile-clause-more
returns-in_ok-push-in-OtherFile-clause-more c =
    let seen = rw (c.in-OtherFile.is, c.deref.ensures.value) at c.in_ok-seen.ensures.ok in
    inr (record { name = c.in_ok-name.name; fault = c.in-OtherFile.fault }, record { name = c.in_ok-name.ensures.cases; fault = seen }, c.in_ok-push-in-OtherFile.ensures.items, refl)
