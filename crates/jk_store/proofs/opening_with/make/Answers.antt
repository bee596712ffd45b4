use Rattle.std.proofs.Common.{◌<◌, List, length, map, take, ap, sym, subst, ◌∙◌, arith}
use Rattle.std.specs.String.{string_bytes}
use Rattle.std.proofs.lemmas.List.{length-map}
use Rattle.jk_store.specs.Catalogue.{Stored}
use Rattle.jk_store.specs.Opening.{stored_file}
use Rattle.jk_store.specs.OpeningWith.{IsMadeOf, file_digest, made_entries}
use Rattle.jk_store.proofs.OpenWithLaws.{made_more, mapped_more}
use Rattle.jk_store.proofs.opening_with.make.Goals as goal

pub loop-number-preserved : goal.loop-number-preserved
loop-number-preserved c =
    let files = c.args.files.now in
    let number = c.loop-number.number in
    let file = c.index-files-number.result in
    let old = c.loop-number.made in
    let new = c.enter_read.new.made in
    let long = ap (λ (l : List (List _)). length l) c.in_ok-digests.ensures.ok ∙ length-map files file_digest in
    let within : number < length files = omega (arith, c.loop-number-test.true, c.len-number-end.ensures, c.in_ok-digests.digests.ok.0, long) in
    subst (λ (l : List Stored). IsMadeOf l new) (sym (mapped_more stored_file files number file within c.index-files-number.is))
    (made_more (map stored_file (take number files)) (string_bytes file.name) file.bytes.items (made_entries old) (made_entries new) old.skipped.items new.skipped.items
    c.loop-number.invariant c.in_ok-enter_read.ensures.more)
