use Rattle.std.proofs.Common.{◌≡◌, map, drop}
use Rattle.std.specs.List.{list_any}
use Rattle.httparse.specs.Spans.{header_bytes}
use Rattle.jk_web.specs.Fields.{asks_close}
use Rattle.jk_web.proofs.fields.ask_close.Given as goal

abbrev pub invariant-loop-field : goal.invariant-loop-field
invariant-loop-field l =
    list_any asks_close (map (header_bytes l.head) (drop l.field-index l.fields))
    ≡ list_any asks_close (map (header_bytes l.head) l.fields)
