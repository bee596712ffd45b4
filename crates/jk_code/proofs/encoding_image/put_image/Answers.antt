use Rattle.std.proofs.Common.{◌≡◌, true, refl, sym, ap, subst, ◌∙◌}
use Rattle.std.specs.Prelude.{slice_index}
use Rattle.std.proofs.lemmas.Result.{err_from_is_err_and, on_ok_weaker}
use Rattle.jk_params.specs.declared.picture_frame.PictureFrame.{PictureFrame}
use Rattle.jk_params.specs.Coding.{coding_with}
use Rattle.jk_params.specs.PictureFrames.{IsPictureFrame}
use Rattle.jk_params.specs.Profile.{cod_of, is_profile, is_profile_for, IsWrittenFor}
use Rattle.jk_params.proofs.Laws.{frame_is, profile_by_frame, written_by_frame}
use Rattle.jk_tile.specs.encoding.Needs.{exponents_with, exponents_for}
use Rattle.jk_tile.specs.encoding.PacketsWritten.{written_coding}
use Rattle.jk_tile.proofs.Laws.{exponents_are}
use Rattle.jk_code.proofs.SendingLaws.{left_none}
use Rattle.jk_code.proofs.encoding_image.put_image.Goals as goal

pub returns-in_err-tile-clause-part : goal.returns-in_err-tile-clause-part
returns-in_err-tile-clause-part g c =
    let same = err_from_is_err_and c.from_residual.result c.from_residual.ensures.1 in
    rw (same.1, same.2) (left_none g.W.TextSink.took g.W.TextSink.tells (record { none = g.met.W.TextSink.none; joined = g.met.W.TextSink.joined }) c.args.image.now c.args.parameters.now c.args.writer.now c.in_err-tile.field-0.0 c.in_err-tile.ensures.memory)

pub returns-in_err-needs-clause-part : goal.returns-in_err-needs-clause-part
returns-in_err-needs-clause-part g c =
    let same = err_from_is_err_and c.from_residual-in_err-needs.result c.from_residual-in_err-needs.ensures.1 in
    rw (same.1, same.2) (left_none g.W.TextSink.took g.W.TextSink.tells (record { none = g.met.W.TextSink.none; joined = g.met.W.TextSink.joined }) c.args.image.now c.args.parameters.now c.args.writer.now c.in_err-needs.field-0.0 c.in_err-needs.ensures.memory)

pub returns-in_err-packets-clause-part : goal.returns-in_err-packets-clause-part
returns-in_err-packets-clause-part g c =
    let same = err_from_is_err_and c.from_residual-in_err-packets.result c.from_residual-in_err-packets.ensures.1 in
    rw (same.1, same.2) (left_none g.W.TextSink.took g.W.TextSink.tells (record { none = g.met.W.TextSink.none; joined = g.met.W.TextSink.joined }) c.args.image.now c.args.parameters.now c.args.writer.now c.in_err-packets.field-0.0 c.in_err-packets.ensures.memory)

pub packets-requires-clause-told : goal.packets-requires-clause-told
packets-requires-clause-told g c =
    let p = c.args.image.now in
    let q = c.args.parameters.now in
    let same = c.requires.frame in
    let is = c.requires.picture in
    let exponents : c.exponents_with-exponents.result ≡ exponents_for p q =
    c.exponents_with-exponents.ensures ∙ ap (λ d. exponents_with d q.levels (slice_index c.in_ok-needs.needs)) (ap (λ (f : PictureFrame). f.depth) same) ∙ exponents_are p q (slice_index c.in_ok-needs.needs) c.in_ok-needs.ensures.needs in
    let coding : c.coding_known-known.result ≡ written_coding p q = c.coding_known-known.ensures.value ∙ ap (λ e. coding_with (cod_of q).style (record { guard = 2; exponents = e })) exponents in
    record {
      coming = record { frame = subst IsPictureFrame (sym same) (frame_is p is); written = c.requires.written; coding = c.open_coding-coding.ensures };
      picture = is;
      image = refl;
      frame = sym same;
      coding = coding;
    }

pub put_file-requires-clause-some : goal.put_file-requires-clause-some
put_file-requires-clause-some g c =
    let p = c.args.image.now in
    let q = c.args.parameters.now in
    let same = c.requires.frame in
    let is = c.requires.picture in
    let exponents : c.exponents_with-exponents.result ≡ exponents_for p q =
    c.exponents_with-exponents.ensures ∙ ap (λ d. exponents_with d q.levels (slice_index c.in_ok-needs.needs)) (ap (λ (f : PictureFrame). f.depth) same) ∙ exponents_are p q (slice_index c.in_ok-needs.needs) c.in_ok-needs.ensures.needs in
    let coding : c.coding_known-known.result ≡ written_coding p q = c.coding_known-known.ensures.value ∙ ap (λ e. coding_with (cod_of q).style (record { guard = 2; exponents = e })) exponents in (
      p,
      record {
        source = record { picture = is; frame = same; written = written_by_frame q p (subst (λ (f : PictureFrame). IsWrittenFor q f) same c.requires.written); exponents = exponents };
        told = (
          refl,
          record {
            coming = record { frame = subst IsPictureFrame (sym same) (frame_is p is); written = c.requires.written; coding = c.open_coding-coding.ensures };
            picture = is;
            image = refl;
            frame = sym same;
            coding = coding;
          },
        );
      },
    )

pub returns-clause-means : goal.returns-clause-means
returns-clause-means g c = on_ok_weaker c.put_file.result (λ each.
    (let p = c.args.image.now in
    let q = c.args.parameters.now in
    let same = c.requires.frame in
    let is = c.requires.picture in
    let exponents : c.exponents_with-exponents.result ≡ exponents_for p q =
    c.exponents_with-exponents.ensures ∙ ap (λ d. exponents_with d q.levels (slice_index c.in_ok-needs.needs)) (ap (λ (f : PictureFrame). f.depth) same) ∙ exponents_are p q (slice_index c.in_ok-needs.needs) c.in_ok-needs.ensures.needs in
    let coding : c.coding_known-known.result ≡ written_coding p q = c.coding_known-known.ensures.value ∙ ap (λ e. coding_with (cod_of q).style (record { guard = 2; exponents = e })) exponents in
    each p (record {
      source = record { picture = is; frame = same; written = written_by_frame q p (subst (λ (f : PictureFrame). IsWrittenFor q f) same c.requires.written); exponents = exponents };
      told = (
        refl,
        record {
          coming = record { frame = subst IsPictureFrame (sym same) (frame_is p is); written = c.requires.written; coding = c.open_coding-coding.ensures };
          picture = is;
          image = refl;
          frame = sym same;
          coding = coding;
        },
      );
    }))) c.put_file.ensures.means

pub returns-clause-part : goal.returns-clause-part
returns-clause-part g c =
    let p = c.args.image.now in
    let q = c.args.parameters.now in
    let same = c.requires.frame in
    let is = c.requires.picture in
    let exponents : c.exponents_with-exponents.result ≡ exponents_for p q =
    c.exponents_with-exponents.ensures ∙ ap (λ d. exponents_with d q.levels (slice_index c.in_ok-needs.needs)) (ap (λ (f : PictureFrame). f.depth) same) ∙ exponents_are p q (slice_index c.in_ok-needs.needs) c.in_ok-needs.ensures.needs in
    let coding : c.coding_known-known.result ≡ written_coding p q = c.coding_known-known.ensures.value ∙ ap (λ e. coding_with (cod_of q).style (record { guard = 2; exponents = e })) exponents in
    let profile : is_profile q p ≡ true = profile_by_frame q p ∙ ap (is_profile_for q) (sym same) ∙ c.requires.profile in
    c.put_file.ensures.part p (record {
      source = record { picture = is; frame = same; written = written_by_frame q p (subst (λ (f : PictureFrame). IsWrittenFor q f) same c.requires.written); exponents = exponents };
      told = (
        refl,
        record {
          coming = record { frame = subst IsPictureFrame (sym same) (frame_is p is); written = c.requires.written; coding = c.open_coding-coding.ensures };
          picture = is;
          image = refl;
          frame = sym same;
          coding = coding;
        },
      );
    }) profile
