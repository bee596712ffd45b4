use Rattle.std.proofs.Common.{◌∙◌, sym, subst}
use Rattle.std.specs.Prelude.{slice_range}
use Rattle.std.proofs.lemmas.Result.{err_from_is_err_and}
use Rattle.jk_math.specs.Answer.{Refuses}
use Rattle.jk_code.proofs.ReadLaws.{no_boxes, no_headers, no_area, no_packets, image_by, file_by, read_means}
use Rattle.jk_code.proofs.reading.read_image.Goals as goal

pub returns-in_err-boxed-clause-refused : goal.returns-in_err-boxed-clause-refused
returns-in_err-boxed-clause-refused c =
    let q = err_from_is_err_and c.from_residual.result c.from_residual.ensures.1 in
    rw (q.1, q.2) (no_boxes c.args.bytes.now c.args.reduce c.in_err-boxed.field-0.0 c.in_err-boxed.ensures.exact)

pub returns-in_err-headers-clause-refused : goal.returns-in_err-headers-clause-refused
returns-in_err-headers-clause-refused c =
    let b = c.in_ok-boxed.boxed in
    let e = c.in_err-headers.field-0.0 in
    let q = err_from_is_err_and c.from_residual-in_err-headers.result c.from_residual-in_err-headers.ensures.1 in
    rw (q.1, q.2) (subst (Refuses e) (file_by c.args.bytes.now b c.args.reduce c.in_ok-boxed.ensures.exact)
    (no_headers (slice_range c.args.bytes.now b.start b.end) c.args.reduce e c.in_err-headers.ensures.exact))

pub returns-in_err-area-clause-refused : goal.returns-in_err-area-clause-refused
returns-in_err-area-clause-refused c =
    let b = c.in_ok-boxed.boxed in
    let h = c.in_ok-headers.headers in
    let codestream = slice_range c.args.bytes.now b.start b.end in
    let e = c.in_err-area.field-0.0 in
    let q = err_from_is_err_and c.from_residual-in_err-area.result c.from_residual-in_err-area.ensures.1 in
    let due = image_by codestream h c.args.reduce c.in_ok-headers.ensures.exact ∙ file_by c.args.bytes.now b c.args.reduce c.in_ok-boxed.ensures.exact in
    rw (q.1, q.2) (subst (Refuses e) due (no_area codestream h c.args.reduce e (sym c.in_err-area.ensures.exact)))

pub returns-in_err-packets-clause-refused : goal.returns-in_err-packets-clause-refused
returns-in_err-packets-clause-refused c =
    let b = c.in_ok-boxed.boxed in
    let h = c.in_ok-headers.headers in
    let codestream = slice_range c.args.bytes.now b.start b.end in
    let e = c.in_err-packets.field-0.0 in
    let q = err_from_is_err_and c.from_residual-in_err-packets.result c.from_residual-in_err-packets.ensures.1 in
    let due = image_by codestream h c.args.reduce c.in_ok-headers.ensures.exact ∙ file_by c.args.bytes.now b c.args.reduce c.in_ok-boxed.ensures.exact in
    rw (q.1, q.2) (subst (Refuses e) due (no_packets codestream h c.args.reduce c.in_ok-area.area e (sym c.in_ok-area.ensures.exact) c.in_err-packets.ensures.exact))

pub returns-clause-read : goal.returns-clause-read
returns-clause-read c =
    let b = c.in_ok-boxed.boxed in
    let h = c.in_ok-headers.headers in
    let codestream = slice_range c.args.bytes.now b.start b.end in
    let found = c.in_ok-area.ensures in
    let due = image_by codestream h c.args.reduce c.in_ok-headers.ensures.exact ∙ file_by c.args.bytes.now b c.args.reduce c.in_ok-boxed.ensures.exact in
    record {
      order = c.in_ok-boxed.ensures.within.0;
      within = c.in_ok-boxed.ensures.within.1;
      source = record {
        sound = c.in_ok-headers.ensures.sound;
        packets = c.in_ok-packets.ensures.read;
        levels = found.levels;
        few = found.few;
        place = found.place;
        is_area = found.area;
        frame = found.frame;
      };
      means = sym due ∙ read_means codestream h c.args.reduce c.in_ok-area.area (sym found.exact) c.in_ok-packets.ensures.exact;
    }
