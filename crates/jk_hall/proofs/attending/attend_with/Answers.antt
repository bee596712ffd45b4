use Rattle.jk_hall.specs.Reading.{seen}
use Rattle.jk_hall.specs.Behind.{behind, GivesBehind, RefusesBehind}
use Rattle.jk_hall.proofs.Attended.{attended, cause_is, ends_cause}
use Rattle.jk_hall.proofs.FirstLaws.{shown, same}
use Rattle.jk_hall.proofs.attending.attend_with.Goals as goal

pub returns-clause-same : goal.returns-clause-same
returns-clause-same g c =
    let e = c.serve_connection.ensures in
    (attended g.S.Shelf.keeps g.S.Shelf.failed g.S.Shelf.gave g.S.Shelf.gave_at c.args.service.now c.serve_connection.new.service e.0 e.1 _ _ c.serve_connection.result e.4).0

pub returns-clause-goes : goal.returns-clause-goes
returns-clause-goes g c =
    let e = c.serve_connection.ensures in
    (attended g.S.Shelf.keeps g.S.Shelf.failed g.S.Shelf.gave g.S.Shelf.gave_at c.args.service.now c.serve_connection.new.service e.0 e.1 _ _ c.serve_connection.result e.4).1

pub returns-clause-text : goal.returns-clause-text
returns-clause-text g c =
    let e = c.serve_connection.ensures in
    (e.0, e.1, e.2, e.3, (attended g.S.Shelf.keeps g.S.Shelf.failed g.S.Shelf.gave g.S.Shelf.gave_at c.args.service.now c.serve_connection.new.service e.0 e.1 _ _ c.serve_connection.result e.4).2, e.5)

pub returns-clause-cause : goal.returns-clause-cause
returns-clause-cause g c =
    let e = c.serve_connection.ensures in
    ends_cause (GivesBehind g.S.Shelf.keeps g.S.Shelf.failed g.S.Shelf.gave g.S.Shelf.gave_at) (RefusesBehind g.S.Shelf.keeps)
    c.args.service.now e.0 e.1 _ _ c.serve_connection.new.service c.serve_connection.result (λ s q f u refused. cause_is f _ refused.1.0) e.4

pub returns-clause-images : goal.returns-clause-images
returns-clause-images g c =
    let e = c.serve_connection.ensures in
    let start = behind c.args.service.now in
    let end = behind c.serve_connection.new.service in
    let told = (attended g.S.Shelf.keeps g.S.Shelf.failed g.S.Shelf.gave g.S.Shelf.gave_at c.args.service.now c.serve_connection.new.service e.0 e.1 _ _ c.serve_connection.result e.4).2 in
    record {
      any = λ images shows held segments. (
        e.0,
        e.1,
        e.2,
        e.3,
        shown g.S.Shelf.keeps g.S.Shelf.failed g.S.Shelf.gave g.S.Shelf.gave_at (seen end.0) images shows segments start end e.0 e.1 _ _ c.serve_connection.result held told,
        e.5,
      );
      same = λ images shows held kept of segments. (
        e.0,
        e.1,
        e.2,
        e.3,
        same g.S.Shelf.keeps g.S.Shelf.failed g.S.Shelf.gave g.S.Shelf.gave_at (seen end.0) images shows segments start end e.0 e.1 _ _ c.serve_connection.result (held, kept, of) told,
        e.5,
      );
    }
