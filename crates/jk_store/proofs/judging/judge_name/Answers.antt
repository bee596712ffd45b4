use Rattle.std.proofs.Common.{◌≡◌, ◌<◌, ◌≤◌, false, length, map, sym, ◌∙◌, arith}
use Rattle.std.specs.BTreeSet.{keys, contains_text}
use Rattle.std.specs.String.{string_bytes}
use Rattle.jk_store.specs.Catalogue.{most_entries}
use Rattle.jk_store.proofs.OpenLaws.{names_are, sorted_bytes}
use Rattle.jk_store.proofs.JudgingLaws.{is_few, is_free, is_full, all_alone}
use Rattle.jk_store.proofs.judging.judge_name.Goals as goal

pub returns-clause-free : goal.returns-clause-free
returns-clause-free g c = λ _.
    let files = c.in_ok-files.files.items in
    let taken = c.in_ok-taken.taken in
    let are = names_are files taken (sorted_bytes (keys taken) c.len.ensures.ordered) (rw c.deref.ensures.value at c.in_ok-taken.ensures.ok) in
    let other : contains_text taken c.args.name.now ≡ false = sym c.contains.ensures ∙ c.if-contains.false in
    let few : length (keys taken) < most_entries = omega arith in
    is_free g.S.Shelf.lists c.args.shelf.now c.list.new.self (map string_bytes files) taken c.args.name.now c.in_ok-files.ensures.given are (sym c.is_good_name.ensures ∙ c.if-not-is_good_name.false) other few

pub returns-clause-alone : goal.returns-clause-alone
returns-clause-alone g c = λ yes.
    let free = returns-clause-free g c yes in
    (free, all_alone g.S.Shelf.gave free.names c.args.name.now free.free free.few)

pub returns-then-len-ge-MOST_ENTRIES-clause-full : goal.returns-then-len-ge-MOST_ENTRIES-clause-full
returns-then-len-ge-MOST_ENTRIES-clause-full g c = λ _.
    let files = c.in_ok-files.files.items in
    let taken = c.in_ok-taken.taken in
    let are = names_are files taken (sorted_bytes (keys taken) c.len.ensures.ordered) (rw c.deref.ensures.value at c.in_ok-taken.ensures.ok) in
    let many : most_entries ≤ length (keys taken) = omega arith in
    is_full g.S.Shelf.lists c.args.shelf.now c.list.new.self (map string_bytes files) taken c.in_ok-files.ensures.given are many

pub returns-then-not-is_good_name-clause-listed : goal.returns-then-not-is_good_name-clause-listed
returns-then-not-is_good_name-clause-listed g c = λ _.
    let files = c.in_ok-files.files.items in
    let taken = c.in_ok-taken.taken in
    let are = names_are files taken (sorted_bytes (keys taken) c.len.ensures.ordered) (rw c.deref.ensures.value at c.in_ok-taken.ensures.ok) in
    let few : length (keys taken) < most_entries = omega arith in
    is_few g.S.Shelf.lists c.args.shelf.now c.list.new.self (map string_bytes files) taken c.in_ok-files.ensures.given are few
