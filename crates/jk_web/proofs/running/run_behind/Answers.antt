use Rattle.jk_web.specs.Behind.{GivesBehind, RefusesBehind}
use Rattle.jk_web.proofs.RunLaws.{ends_memory, ends_enough}
use Rattle.jk_web.proofs.BehindLaws.{went, shown, kept}
use Rattle.jk_web.proofs.running.run_behind.Goals as goal

pub returns-clause-goes : goal.returns-clause-goes
returns-clause-goes g c =
    let e = c.serve_connection.ensures in
    (went g.C.Catalogue.stands g.C.Catalogue.keeps g.C.Catalogue.made g.W.Windows.has g.C.Catalogue.broke g.C.Catalogue.reads g.W.Windows.others c.args.service.now c.serve_connection.new.service e.0 e.1 _ _ c.serve_connection.result e.4).same

pub returns-clause-stands : goal.returns-clause-stands
returns-clause-stands g c =
    let e = c.serve_connection.ensures in
    (went g.C.Catalogue.stands g.C.Catalogue.keeps g.C.Catalogue.made g.W.Windows.has g.C.Catalogue.broke g.C.Catalogue.reads g.W.Windows.others c.args.service.now c.serve_connection.new.service e.0 e.1 _ _ c.serve_connection.result e.4).lasts.stands_on

pub returns-clause-keeps : goal.returns-clause-keeps
returns-clause-keeps g c =
    let e = c.serve_connection.ensures in
    (went g.C.Catalogue.stands g.C.Catalogue.keeps g.C.Catalogue.made g.W.Windows.has g.C.Catalogue.broke g.C.Catalogue.reads g.W.Windows.others c.args.service.now c.serve_connection.new.service e.0 e.1 _ _ c.serve_connection.result e.4).lasts.keeps_on

pub returns-clause-lasts : goal.returns-clause-lasts
returns-clause-lasts g c =
    let e = c.serve_connection.ensures in
    (went g.C.Catalogue.stands g.C.Catalogue.keeps g.C.Catalogue.made g.W.Windows.has g.C.Catalogue.broke g.C.Catalogue.reads g.W.Windows.others c.args.service.now c.serve_connection.new.service e.0 e.1 _ _ c.serve_connection.result e.4).lasts.made_on

pub returns-clause-holds : goal.returns-clause-holds
returns-clause-holds g c =
    let e = c.serve_connection.ensures in
    (went g.C.Catalogue.stands g.C.Catalogue.keeps g.C.Catalogue.made g.W.Windows.has g.C.Catalogue.broke g.C.Catalogue.reads g.W.Windows.others c.args.service.now c.serve_connection.new.service e.0 e.1 _ _ c.serve_connection.result e.4).holds

pub returns-clause-knows : goal.returns-clause-knows
returns-clause-knows g c =
    let e = c.serve_connection.ensures in
    (went g.C.Catalogue.stands g.C.Catalogue.keeps g.C.Catalogue.made g.W.Windows.has g.C.Catalogue.broke g.C.Catalogue.reads g.W.Windows.others c.args.service.now c.serve_connection.new.service e.0 e.1 _ _ c.serve_connection.result e.4).knows

pub returns-clause-text : goal.returns-clause-text
returns-clause-text g c =
    let e = c.serve_connection.ensures in
    λ images stand held segments. (e.0, e.1, e.2, e.3, shown g.C.Catalogue.stands g.C.Catalogue.keeps g.C.Catalogue.made g.W.Windows.has g.C.Catalogue.broke g.C.Catalogue.reads g.W.Windows.others c.args.service.now c.serve_connection.new.service e.0 e.1 _ _ c.serve_connection.result e.4 images stand held segments, e.5)

pub returns-clause-same : goal.returns-clause-same
returns-clause-same g c =
    let e = c.serve_connection.ensures in
    λ images known segments. (e.0, e.1, e.2, e.3, kept g.C.Catalogue.stands g.C.Catalogue.keeps g.C.Catalogue.made g.W.Windows.has g.C.Catalogue.broke g.C.Catalogue.reads g.W.Windows.others c.args.service.now c.serve_connection.new.service e.0 e.1 _ _ c.serve_connection.result e.4 images known segments, e.5)

pub returns-clause-memory : goal.returns-clause-memory
returns-clause-memory g c =
    let e = c.serve_connection.ensures in
    ends_memory (GivesBehind g.C.Catalogue.stands g.C.Catalogue.keeps g.C.Catalogue.made g.W.Windows.has g.C.Catalogue.broke g.C.Catalogue.reads g.W.Windows.others)
    (RefusesBehind g.C.Catalogue.stands g.C.Catalogue.keeps g.C.Catalogue.made g.W.Windows.has)
    c.args.service.now e.0 e.1 _ _ c.serve_connection.new.service c.serve_connection.result (λ s q f u refused. refused.memory) e.4

pub returns-clause-enough : goal.returns-clause-enough
returns-clause-enough g c =
    let e = c.serve_connection.ensures in
    ends_enough (GivesBehind g.C.Catalogue.stands g.C.Catalogue.keeps g.C.Catalogue.made g.W.Windows.has g.C.Catalogue.broke g.C.Catalogue.reads g.W.Windows.others)
    (RefusesBehind g.C.Catalogue.stands g.C.Catalogue.keeps g.C.Catalogue.made g.W.Windows.has)
    c.args.service.now e.0 e.1 _ c.serve_connection.new.service c.serve_connection.result c.args.turns (g.I.Read.remaining c.args.reader.now) (g.I.Read.remaining c.serve_connection.new.reader) e.2 e.4
