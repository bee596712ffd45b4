use Rattle.jk_scan.proofs.Stillness.{narrowed, still_at}
use Rattle.jk_scan.proofs.words.quiet_columns.Goals as goal

pub quiet-requires : goal.quiet-requires
quiet-requires c = narrowed c.with_columns.result

pub returns : goal.returns
returns c f m j s h hi n i p q =
    still_at f m j s c.args.seen.centre c.args.seen.west c.args.seen.east c.with_columns.result c.quiet.result c.args.inside c.with_columns.ensures h.centre h.west h.east hi c.quiet.ensures n i p q
