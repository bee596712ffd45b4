use Rattle.std.proofs.Common.{◌≡◌, map, drop}
use Rattle.std.specs.List.{list_any}
use Rattle.httparse.specs.Spans.{header_bytes}
use Rattle.jk_web.specs.Fields.{announces_body}
use Rattle.jk_web.proofs.fields.announce_body.Given as goal

abbrev pub invariant-loop-field : goal.invariant-loop-field
invariant-loop-field l =
    list_any announces_body (map (header_bytes l.head) (drop l.field-index l.fields))
    ≡ list_any announces_body (map (header_bytes l.head) l.fields)
