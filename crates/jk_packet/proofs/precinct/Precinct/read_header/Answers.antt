use Rattle.std.proofs.Common.{Ok, Err, sym, ap, ◌∙◌}
use Rattle.jk_math.specs.Steps.{refuses_due}
use Rattle.jk_packet.specs.Shapes.{bands_of}
use Rattle.jk_packet.specs.Reading.{PrecinctState, bands_seen, text_of, text_at, header_at}
use Rattle.jk_packet.proofs.BandLaws.{refuses_on}
use Rattle.jk_packet.proofs.TextLaws.{header_failed, header_err, header_ok}
use Rattle.jk_packet.proofs.PrecinctLaws.{answers_only, answers_found}
use Rattle.jk_packet.proofs.precinct.Precinct.read_header.Goals as goal

pub returns-in-Some-clause-exact : goal.returns-in-Some-clause-exact
returns-in-Some-clause-exact c =
    refuses_due c.in-Some.fault _ (header_failed c.args.layer c.args.bytes.now c.args.self.now c.in-Some.fault (sym (ap (λ (s : PrecinctState). s.failed) c.self.view_is) ∙ c.in-Some.is))

pub returns-in-Ok-clause-exact : goal.returns-in-Ok-clause-exact
returns-in-Ok-clause-exact c =
    let s = c.self.inside in
    let st : PrecinctState = record { bands = bands_seen (bands_of s.shape) s.bands.items; sop = s.shape.sop; eph = s.shape.eph; layers = s.layers; failed = s.failed } in
    ap (header_at c.args.layer c.args.bytes.now) (sym c.self.view_is)
    ∙ header_ok c.args.layer c.args.bytes.now st (text_of c.in-Ok.header, bands_seen (bands_of s.shape) c.read_text.new.bands.items) c.in_default.is c.in-Ok.ensures.exact

pub returns-in-Err-clause-exact : goal.returns-in-Err-clause-exact
returns-in-Err-clause-exact c =
    let s = c.self.inside in
    let st : PrecinctState = record { bands = bands_seen (bands_of s.shape) s.bands.items; sop = s.shape.sop; eph = s.shape.eph; layers = s.layers; failed = s.failed } in
    refuses_on c.in-Err.fault (text_at s.shape.sop s.shape.eph c.args.layer c.args.bytes.now (bands_seen (bands_of s.shape) s.bands.items)) _ c.in-Err.ensures.exact
    (λ h. ap (header_at c.args.layer c.args.bytes.now) (sym c.self.view_is) ∙ header_err c.args.layer c.args.bytes.now st c.in-Err.fault c.in_default.is h)

pub returns-in-Some-clause-only : goal.returns-in-Some-clause-only
returns-in-Some-clause-only c = λ shapes trees layers said text rest st is text_is e.
    answers_only shapes trees layers said text rest c.args.bytes.now c.args.layer c.args.self.now c.args.self.now (Err c.in-Some.fault) c.requires.next (returns-in-Some-clause-exact c) st is text_is e

pub returns-in-Some-clause-found : goal.returns-in-Some-clause-found
returns-in-Some-clause-found c = λ shapes layers bits reached.
    answers_found shapes layers bits c.args.bytes.now c.args.layer c.args.self.now c.args.self.now (Err c.in-Some.fault) c.requires.next (returns-in-Some-clause-exact c) reached

pub returns-in-Ok-clause-only : goal.returns-in-Ok-clause-only
returns-in-Ok-clause-only c = λ shapes trees layers said text rest st is text_is e.
    answers_only shapes trees layers said text rest c.args.bytes.now c.args.layer c.args.self.now _ (Ok c.in-Ok.header) c.requires.next (returns-in-Ok-clause-exact c) st is text_is e

pub returns-in-Ok-clause-found : goal.returns-in-Ok-clause-found
returns-in-Ok-clause-found c = λ shapes layers bits reached.
    answers_found shapes layers bits c.args.bytes.now c.args.layer c.args.self.now _ (Ok c.in-Ok.header) c.requires.next (returns-in-Ok-clause-exact c) reached

pub returns-in-Err-clause-only : goal.returns-in-Err-clause-only
returns-in-Err-clause-only c = λ shapes trees layers said text rest st is text_is e.
    answers_only shapes trees layers said text rest c.args.bytes.now c.args.layer c.args.self.now c.args.self.now (Err c.in-Err.fault) c.requires.next (returns-in-Err-clause-exact c) st is text_is e

pub returns-in-Err-clause-found : goal.returns-in-Err-clause-found
returns-in-Err-clause-found c = λ shapes layers bits reached.
    answers_found shapes layers bits c.args.bytes.now c.args.layer c.args.self.now c.args.self.now (Err c.in-Err.fault) c.requires.next (returns-in-Err-clause-exact c) reached
