use Rattle.std.proofs.Common.{◌≡◌, ◌+◌, List, vec_len, subst, ◌∙◌, rules}
use Rattle.std.proofs.lemmas.List.Elements.{All-same, All-push}
use Rattle.logbook.specs.Pages.{Book}
use Rattle.jk_store.specs.declared.entry.Entry.{Entry}
use Rattle.jk_hall.specs.Writing.{list, hall_of}
use Rattle.jk_hall.specs.Reading.{Opens}
use Rattle.jk_hall.proofs.hall.readers_of.Goals as goal

pub loop-preserved : goal.loop-preserved
loop-preserved c =
    let w = c.args.writer.now in
    let made = c.in_ok-made.made in
    let hall = c.reader_of.ensures.hall ∙ c.loop.invariant.2 in
    let opens : Opens (hall_of w) (list w) made =
    subst (λ (b : Book). Opens b (list w) made) hall (subst (λ (es : List Entry). Opens (hall_of c.reader_of.new.writer) es made) c.loop.invariant.0 c.in_ok-made.ensures.opens) in
    let count : vec_len c.push.new.self ≡ c.loop.counter + 1 = search rules in (
      c.reader_of.ensures.list ∙ c.loop.invariant.0,
      c.reader_of.ensures.waits ∙ c.loop.invariant.1,
      hall,
      count,
      All-same (Opens (hall_of w) (list w)) _ _ c.in_ok-push.ensures.items (All-push (Opens (hall_of w) (list w)) c.loop.readers.items made c.loop.invariant.4 opens),
    )
