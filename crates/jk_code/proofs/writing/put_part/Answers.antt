use Rattle.std.proofs.Common.{◌≡◌, List, ℕ, ◌+◌, ◌^◌, ◌++◌, length, [], inl, inr, refl, ap, subst, ◌∙◌, arith}
use Rattle.std.proofs.lemmas.Bool.{lt-ltb}
use Rattle.std.proofs.lemmas.Result.{err_from_is_err_and}
use Rattle.jk_math.specs.Front.{IsFront}
use Rattle.jk_marks.specs.Codestream.{part_text, only_part_of}
use Rattle.jk_code.specs.Sending.{IsSentAsMade}
use Rattle.jk_code.proofs.BeginningLaws.{all_told}
use Rattle.jk_code.proofs.SendingLaws.{put_behind, sent_first, part_put, part_none}
use Rattle.jk_code.proofs.writing.put_part.Goals as goal

pub returns-in_err-bytes : goal.returns-in_err-bytes
returns-in_err-bytes g c =
    let same = err_from_is_err_and c.from_residual.result c.from_residual.ensures.1 in
    rw (same.1, same.2) ([], g.met.W.TextSink.none c.args.writer.now, λ text is. inr (inl (c.in_err-bytes.ensures.memory, refl)))

pub returns-in_err-head : goal.returns-in_err-head
returns-in_err-head g c =
    let same = err_from_is_err_and c.from_residual-in_err-head.result c.from_residual-in_err-head.ensures.1 in
    rw (same.1, same.2) (
      [],
      g.met.W.TextSink.none c.args.writer.now,
      λ text is.
          (let told = c.in_ok-bytes.ensures.size text is in
          part_none g.W.TextSink.tells (part_text (only_part_of c.args.tile text)) (length text) c.in_ok-bytes.bytes c.in_err-head.field-0.0 (omega (arith, told)) c.in_err-head.ensures.err),
    )

pub returns-in_err-send : goal.returns-in_err-send
returns-in_err-send g c =
    let same = err_from_is_err_and c.from_residual-in_err-send.result c.from_residual-in_err-send.ensures.1 in
    let sent = c.in_err-send.ensures in
    let head = c.in_ok-head.head.items in
    rw (same.1, same.2) (
      sent.0,
      sent.1,
      λ text is.
          (let all = all_told (length text) c.in_ok-bytes.bytes (c.in_ok-bytes.ensures.size text is) c.in_ok-head.ensures.fits in
          inr (inr (
            inr sent.2.0,
            lt-ltb (14 + length text) (2 ^ 32) (let short = c.in_ok-head.ensures.fits in omega (arith, all, short)),
            subst (λ (x : List ℕ). IsFront sent.0 x) (c.in_ok-head.ensures.text text all)
                (sent_first head text sent.0 (subst (λ (x : List ℕ). IsFront sent.0 x) c.deref.ensures.value sent.2.1)),
          ))),
    )

pub returns : goal.returns
returns g c =
    let a = c.args.writer.now in
    let b = c.send.new.writer in
    let d = c.put_data.new.writer in
    let r = c.put_data.result in
    let head = c.deref.result.now in
    let first = c.in_ok-send.ensures in
    let last = c.put_data.ensures in (
      first.0 ++ last.0,
      g.met.W.TextSink.joined a b d first.0 last.0 first.1 last.1,
      λ text is.
          (let all = all_told (length text) c.in_ok-bytes.bytes (c.in_ok-bytes.ensures.size text is) c.in_ok-head.ensures.fits in
          let same : head ++ text ≡ part_text (only_part_of c.args.tile text) = ap (λ (x : List ℕ). x ++ text) c.deref.ensures.value ∙ c.in_ok-head.ensures.text text all in
          part_put g.W.TextSink.tells (part_text (only_part_of c.args.tile text)) (first.0 ++ last.0) _ r (lt-ltb (14 + length text) (2 ^ 32) (let short = c.in_ok-head.ensures.fits in omega (arith, all, short)))
          (subst (λ (x : List ℕ). IsSentAsMade g.W.TextSink.tells x (first.0 ++ last.0) r) same (put_behind g.W.TextSink.tells head text first.0 last.0 r first.2 (last.2 text is)))),
    )
