use Rattle.std.proofs.Common.{◌≡◌, ℕ, List, length, Result, Ok, Err, sym, ◌∙◌, subst}
use Rattle.std.specs.Prelude.{OnOk}
use Rattle.jk_math.specs.Answer.{Answers, ReadsBy}
use Rattle.jk_math.specs.declared.fault.Fault.{Fault}
use Rattle.jk_packet.specs.declared.header.Header.{Header}
use Rattle.jk_packet.specs.Reading.{PrecinctState, text_of, header_at}
use Rattle.jk_walk.specs.Keeping.{alone}
use Rattle.jk_walk.proofs.KeptLaws.{rows_count, row_there, before_at, after_at, others_at}
use Rattle.jk_stored.proofs.precincts.Precincts.read_header.Goals as goal

reads_same : (n : ℕ) (bytes : List ℕ) (old new before after : PrecinctState) (result : Result Header Fault) → before ≡ old → after ≡ new
    → ReadsBy text_of (header_at n bytes) before after result → ReadsBy text_of (header_at n bytes) old new result
reads_same n bytes old new before after result a b h =
    subst (λ (x : PrecinctState). ReadsBy text_of (header_at n bytes) old x result) b (subst (λ (x : PrecinctState). ReadsBy text_of (header_at n bytes) x after result) a h)

then_ok : {A : Type 0} (r : Result A Fault) (P Q : Type 0) → (P → Q) → OnOk r P → OnOk r Q
then_ok (Ok x) P Q f h = f h
then_ok (Err e) P Q f h = tt

pub returns-clause-exact : goal.returns-clause-exact
returns-clause-exact c =
    let s = c.args.shape.now in
    let n = c.args.name in
    let sop = c.self.inside.markers.sop in
    let eph = c.self.inside.markers.eph in
    let vs = c.self.inside.resolutions.items in
    let row = c.row_of-row.result in
    let at = c.row_of-row.ensures in
    let count = rows_count c.args.self.now sop eph vs c.self.view_is in
    let few = row_there s n (length vs) row c.requires.shape c.requires.name (sym c.requires.kept ∙ count) at in
    subst (λ (x : PrecinctState). Answers text_of c.read_in.result (alone (header_at n.layer c.args.bytes.now x)))
    (sym (before_at s c.args.self.now sop eph vs n.component n.resolution n.precinct row c.index_mut.result.now at c.self.view_is few c.index_mut.ensures.value)) c.read_in.ensures.exact

pub returns-clause-early : goal.returns-clause-early
returns-clause-early c = λ early.
    let s = c.args.shape.now in
    let n = c.args.name in
    let sop = c.self.inside.markers.sop in
    let eph = c.self.inside.markers.eph in
    let vs = c.self.inside.resolutions.items in
    let row = c.row_of-row.result in
    let at = c.row_of-row.ensures in
    let count = rows_count c.args.self.now sop eph vs c.self.view_is in
    let few = row_there s n (length vs) row c.requires.shape c.requires.name (sym c.requires.kept ∙ count) at in
    reads_same n.layer c.args.bytes.now _ _ _ _ c.read_in.result
    (sym (before_at s c.args.self.now sop eph vs n.component n.resolution n.precinct row c.index_mut.result.now at c.self.view_is few c.index_mut.ensures.value))
    (sym (after_at s sop eph vs n.component n.resolution n.precinct row c.read_in.new.slots at few))
    (c.read_in.ensures.early early)

pub returns-clause-others : goal.returns-clause-others
returns-clause-others c =
    let s = c.args.shape.now in
    let n = c.args.name in
    let sop = c.self.inside.markers.sop in
    let eph = c.self.inside.markers.eph in
    let vs = c.self.inside.resolutions.items in
    let row = c.row_of-row.result in
    let at = c.row_of-row.ensures in
    let count = rows_count c.args.self.now sop eph vs c.self.view_is in
    let few = row_there s n (length vs) row c.requires.shape c.requires.name (sym c.requires.kept ∙ count) at in
    then_ok c.read_in.result _ _
    (λ others. others_at s c.args.self.now sop eph vs n row c.index_mut.result.now c.read_in.new.slots c.requires.shape c.requires.name at c.self.view_is few c.index_mut.ensures.value others)
    c.read_in.ensures.others
