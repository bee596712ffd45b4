use Rattle.std.proofs.Common.{◌≡◌, Err}
use Rattle.std.specs.String.{string_bytes}
use Rattle.jk_store.specs.Names.{temporary_name, file_name}
use Rattle.jk_store.specs.Adding.{IsUnplaced}
use Rattle.jk_store.specs.Preparing.{due_file}
use Rattle.jk_store.proofs.DueLaws.{holds_due, left_due, passes_too}
use Rattle.jk_store.proofs.StoringLaws.{cause_placed, not_due, on_any}
use Rattle.jk_store.proofs.encoded.Encoded.store.Goals as goal

pub returns-clause-judged : goal.returns-clause-judged
returns-clause-judged g c = λ e is. not_due _ (due_file c.args.self.now) c.in_ok-bytes.bytes.now e c.in_ok-bytes.ensures is

pub returns-clause-allowed : goal.returns-clause-allowed
returns-clause-allowed g c = on_any c.store_named.result _ (c.in_ok-bytes.bytes.now, c.in_ok-bytes.ensures)

pub returns-clause-holds : goal.returns-clause-holds
returns-clause-holds g c = λ files f kept is.
    let name = string_bytes c.args.self.now.name in
    holds_due _ _ c.in_ok-bytes.ensures g.S.Shelf.keeps c.store_named.new.shelf (file_name name) (temporary_name name) files c.store_named.result
    ((rw c.as_str.ensures.value at c.store_named.ensures.holds) files kept) f is

pub returns-clause-cause : goal.returns-clause-cause
returns-clause-cause g c =
    let name = string_bytes c.args.self.now.name in
    cause_placed _ _ c.in_ok-bytes.ensures (IsUnplaced g.S.Shelf.unwritten g.S.Shelf.unplaced g.S.Shelf.taken (temporary_name name) (file_name name) c.args.shelf.now c.store_named.new.shelf) c.store_named.result
    (rw c.as_str.ensures.value at c.store_named.ensures.cause)

pub returns-clause-left : goal.returns-clause-left
returns-clause-left g c = λ files kept.
    let name = string_bytes c.args.self.now.name in
    left_due _ _ c.in_ok-bytes.ensures g.S.Shelf.keeps c.store_named.new.shelf (file_name name) (temporary_name name) files c.store_named.result
    ((rw c.as_str.ensures.value at c.store_named.ensures.left) files kept)

pub returns-clause-counts : goal.returns-clause-counts
returns-clause-counts g c = passes_too _ (λ e. due_file c.args.self.now ≡ Err e) c.store_named.result _ _ c.store_named.ensures.counts
