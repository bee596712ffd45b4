use Rattle.std.proofs.Common.{◌≡◌, ◌<◌, ◌≤◌, false, length, map, sym, ◌∙◌, arith}
use Rattle.std.specs.BTreeSet.{keys, contains_text}
use Rattle.std.specs.String.{string_bytes}
use Rattle.jk_store.specs.Catalogue.{most_entries}
use Rattle.jk_store.proofs.OpenLaws.{names_are, sorted_bytes}
use Rattle.jk_store.proofs.JudgingLaws.{is_free, is_full}
use Rattle.jk_store.proofs.judging.judge_among.Goals as goal

pub returns-clause-free : goal.returns-clause-free
returns-clause-free g c =
    let files = c.in_ok-files.files.items in
    let there = c.in_ok-there.there in
    let are = names_are files there (sorted_bytes (keys there) c.len.ensures.ordered) (rw c.deref.ensures.value at c.in_ok-there.ensures.ok) in
    let other : contains_text there c.args.name.now ≡ false = sym c.contains.ensures ∙ c.if-contains.false in
    let few : length (keys there) < most_entries = omega arith in
    is_free g.S.Shelf.lists c.args.shelf.now c.list.new.self (map string_bytes files) there c.args.name.now c.in_ok-files.ensures.given are (sym c.is_good_name.ensures ∙ c.if-not-is_good_name.false) other few

pub returns-then-len-ge-MOST_ENTRIES-clause-full : goal.returns-then-len-ge-MOST_ENTRIES-clause-full
returns-then-len-ge-MOST_ENTRIES-clause-full g c = λ _.
    let files = c.in_ok-files.files.items in
    let there = c.in_ok-there.there in
    let are = names_are files there (sorted_bytes (keys there) c.len.ensures.ordered) (rw c.deref.ensures.value at c.in_ok-there.ensures.ok) in
    let many : most_entries ≤ length (keys there) = omega arith in
    is_full g.S.Shelf.lists c.args.shelf.now c.list.new.self (map string_bytes files) there c.in_ok-files.ensures.given are many

pub returns-then-not-is_good_name-clause-listed : goal.returns-then-not-is_good_name-clause-listed
returns-then-not-is_good_name-clause-listed g c = λ _. (map string_bytes c.in_ok-files.files.items, c.in_ok-files.ensures.given)
