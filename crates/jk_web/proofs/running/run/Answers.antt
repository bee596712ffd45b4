use Rattle.jk_web.specs.Images.{gives_reply, gives_kept}
use Rattle.jk_web.specs.Cuts.{Within}
use Rattle.jk_web.specs.Running.{GivesAnswer, RefusesAnswer}
use Rattle.jk_web.proofs.RunLaws.{ends_as, ends_memory, ends_enough}
use Rattle.jk_web.proofs.running.run.Goals as goal

pub returns-clause-text : goal.returns-clause-text
returns-clause-text g c =
    let e = c.serve_connection.ensures in
    λ images held segments. (
      e.0,
      e.1,
      e.2,
      e.3,
      (ends_as (GivesAnswer g.C.Catalogue.stands g.C.Catalogue.keeps g.C.Catalogue.made g.C.Catalogue.broke g.C.Catalogue.reads g.C.Catalogue.cuts) (gives_reply g.C.Catalogue.broke g.C.Catalogue.reads g.C.Catalogue.cuts images) (RefusesAnswer g.C.Catalogue.stands g.C.Catalogue.keeps g.C.Catalogue.made)
          (λ s. s)
          (λ s. g.C.Catalogue.stands s images)
          (λ s q r t p given. (given.reply images p segments, given.lasts.stands_on images p))
          (λ s q f t p refused. (refused.memory, refused.lasts.stands_on images p))
          c.args.catalogue.now e.0 e.1 _ _ c.serve_connection.new.service c.serve_connection.result held e.4).0,
      e.5,
    )

pub returns-clause-same : goal.returns-clause-same
returns-clause-same g c =
    let e = c.serve_connection.ensures in
    λ images held kept segments. (
      e.0,
      e.1,
      e.2,
      e.3,
      (ends_as (GivesAnswer g.C.Catalogue.stands g.C.Catalogue.keeps g.C.Catalogue.made g.C.Catalogue.broke g.C.Catalogue.reads g.C.Catalogue.cuts) (gives_kept g.C.Catalogue.broke images) (RefusesAnswer g.C.Catalogue.stands g.C.Catalogue.keeps g.C.Catalogue.made)
          (λ s. s)
          (λ s. g.C.Catalogue.stands s images × g.C.Catalogue.keeps s images)
          (λ s q r t p given. (given.kept images p.0 p.1 segments, (given.lasts.stands_on images p.0, given.lasts.keeps_on images p.1)))
          (λ s q f t p refused. (refused.memory, (refused.lasts.stands_on images p.0, refused.lasts.keeps_on images p.1)))
          c.args.catalogue.now e.0 e.1 _ _ c.serve_connection.new.service c.serve_connection.result (held, kept) e.4).0,
      e.5,
    )

pub returns-clause-stands : goal.returns-clause-stands
returns-clause-stands g c =
    let e = c.serve_connection.ensures in
    λ images held. (ends_as (GivesAnswer g.C.Catalogue.stands g.C.Catalogue.keeps g.C.Catalogue.made g.C.Catalogue.broke g.C.Catalogue.reads g.C.Catalogue.cuts) (λ s q r t. Unit {0}) (RefusesAnswer g.C.Catalogue.stands g.C.Catalogue.keeps g.C.Catalogue.made)
    (λ s. s)
    (λ s. g.C.Catalogue.stands s images)
    (λ s q r t p given. (tt, given.lasts.stands_on images p))
    (λ s q f t p refused. (refused.memory, refused.lasts.stands_on images p))
    c.args.catalogue.now e.0 e.1 _ _ c.serve_connection.new.service c.serve_connection.result held e.4).1

pub returns-clause-keeps : goal.returns-clause-keeps
returns-clause-keeps g c =
    let e = c.serve_connection.ensures in
    λ images kept. (ends_as (GivesAnswer g.C.Catalogue.stands g.C.Catalogue.keeps g.C.Catalogue.made g.C.Catalogue.broke g.C.Catalogue.reads g.C.Catalogue.cuts) (λ s q r t. Unit {0}) (RefusesAnswer g.C.Catalogue.stands g.C.Catalogue.keeps g.C.Catalogue.made)
    (λ s. s)
    (λ s. g.C.Catalogue.keeps s images)
    (λ s q r t p given. (tt, given.lasts.keeps_on images p))
    (λ s q f t p refused. (refused.memory, refused.lasts.keeps_on images p))
    c.args.catalogue.now e.0 e.1 _ _ c.serve_connection.new.service c.serve_connection.result kept e.4).1

pub returns-clause-lasts : goal.returns-clause-lasts
returns-clause-lasts g c =
    let e = c.serve_connection.ensures in
    (ends_as (GivesAnswer g.C.Catalogue.stands g.C.Catalogue.keeps g.C.Catalogue.made g.C.Catalogue.broke g.C.Catalogue.reads g.C.Catalogue.cuts) (λ s q r t. Unit {0}) (RefusesAnswer g.C.Catalogue.stands g.C.Catalogue.keeps g.C.Catalogue.made)
    (λ s. s)
    (λ s. Within (g.C.Catalogue.made c.args.catalogue.now) (g.C.Catalogue.made s))
    (λ s q r t p given. (tt, λ n a b h. given.lasts.made_on n a b (p n a b h)))
    (λ s q f t p refused. (refused.memory, λ n a b h. refused.lasts.made_on n a b (p n a b h)))
    c.args.catalogue.now e.0 e.1 _ _ c.serve_connection.new.service c.serve_connection.result (λ n a b h. h) e.4).1

pub returns-clause-memory : goal.returns-clause-memory
returns-clause-memory g c =
    let e = c.serve_connection.ensures in
    ends_memory (GivesAnswer g.C.Catalogue.stands g.C.Catalogue.keeps g.C.Catalogue.made g.C.Catalogue.broke g.C.Catalogue.reads g.C.Catalogue.cuts) (RefusesAnswer g.C.Catalogue.stands g.C.Catalogue.keeps g.C.Catalogue.made)
    c.args.catalogue.now e.0 e.1 _ _ c.serve_connection.new.service c.serve_connection.result (λ s q f u refused. refused.memory) e.4

pub returns-clause-enough : goal.returns-clause-enough
returns-clause-enough g c =
    let e = c.serve_connection.ensures in
    ends_enough (GivesAnswer g.C.Catalogue.stands g.C.Catalogue.keeps g.C.Catalogue.made g.C.Catalogue.broke g.C.Catalogue.reads g.C.Catalogue.cuts) (RefusesAnswer g.C.Catalogue.stands g.C.Catalogue.keeps g.C.Catalogue.made)
    c.args.catalogue.now e.0 e.1 _ c.serve_connection.new.service c.serve_connection.result c.args.turns (g.I.Read.remaining c.args.reader.now) (g.I.Read.remaining c.serve_connection.new.reader) e.2 e.4
