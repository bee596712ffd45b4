use Rattle.std.proofs.Common.{refl, length, arith}
use Rattle.std.specs.Prelude.{slice_range}
use Rattle.std.proofs.lemmas.Result.{err_from_is_err_and}
use Rattle.jk_marks.specs.Siz.{tile_count}
use Rattle.jk_marks.proofs.Laws.{begins_main, main_long}
use Rattle.jk_window.specs.Indexing.{IndexFields, entries_upto}
use Rattle.jk_window.proofs.IndexLaws.{fields_fail, fields_ok, refuses_on, found_fields, index_kept}
use Rattle.jk_window.proofs.reading.read_index.Goals as goal

pub returns-in_err-packets : goal.returns-in_err-packets
returns-in_err-packets c =
    let bytes = slice_range c.args.file.now c.args.place.start c.args.place.end in
    let h = c.in_ok-headers.headers in
    let e = c.in_err-packets.field-0.0 in
    let q = err_from_is_err_and c.from_residual-in_err-packets.result c.from_residual-in_err-packets.ensures.1 in
    rw (q.1, q.2) (refuses_on e (entries_upto bytes h (tile_count h.siz)) _ c.in_err-packets.ensures.exact
    (λ is. fields_fail c.args.place c.args.form (length c.args.file.now) bytes (c.in_ok-main.main, c.in_ok-main.field-0-1) h e c.in_ok-main.ensures.exact c.in_ok-headers.ensures.exact is))

pub read_around-requires-clause-some : goal.read_around-requires-clause-some
read_around-requires-clause-some c =
    let bytes = slice_range c.args.file.now c.args.place.start c.args.place.end in
    let is = c.in_ok-headers.ensures.found in
    main_long bytes is.tree.siz is.tree.segments (begins_main bytes is.tree is.spelled)

pub new-requires-clause-index : goal.new-requires-clause-index
new-requires-clause-index c =
    let file = c.args.file.now in
    let bytes = slice_range file c.args.place.start c.args.place.end in
    let h = c.in_ok-headers.headers in
    let made : IndexFields = record {
      place = c.args.place;
      layers = c.in_ok-main.main.cod.layers;
      order = c.in_ok-main.main.cod.order;
      headers = h;
      packets = c.in_ok-packets.packets.items;
      frame = c.in_ok-around.around;
    } in
    let read = fields_ok c.args.place c.args.form (length file) bytes (c.in_ok-main.main, c.in_ok-main.field-0-1) h c.in_ok-packets.packets.items c.in_ok-around.around
    c.in_ok-main.ensures.exact c.in_ok-headers.ensures.exact c.in_ok-packets.ensures.exact c.in_ok-around.ensures in
    index_kept file made (found_fields file bytes c.args.place c.args.form made (λ k. omega (arith, c.type_inv.file k)) c.requires.opened c.requires.told refl read)
