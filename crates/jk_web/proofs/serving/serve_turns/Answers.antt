use Rattle.std.proofs.Common.{ℕ, ◌+◌, List, [], ◌++◌, take, inl, refl, sym, ap, ◌∙◌, subst, arith, rules}
use Rattle.jk_web.specs.Unread.{Unread}
use Rattle.jk_web.specs.Heads.{IsQuiet}
use Rattle.jk_web.specs.Serving.{Answered, nothing}
use Rattle.jk_math.proofs.Laws.{appends_none, appends_join}
use Rattle.jk_web.proofs.KnownLaws.{consumes_none, consumes_join, consumes_no_more, longer}
use Rattle.jk_web.proofs.TurnLaws.{read_more, read_to_end, read_refused, read_closed}
use Rattle.jk_web.proofs.ServingLaws.{advance, answered_append, answered_join, ends_behind, refused_behind, quiet_nothing}
use Rattle.jk_web.proofs.serving.serve_turns.Goals as goal

pub turns-init : goal.turns-init
turns-init g c =
    let rest = ap (λ (u : Unread). u.rest) c.new-session.ensures in (
      refl,
      omega (arith, c.requires),
      ap (λ (u : Unread). u.stuck) c.new-session.ensures,
      subst IsQuiet (sym rest) quiet_nothing,
      (
        [],
        [],
        omega arith,
        consumes_none (g.I.Read.remaining c.args.budget.now.reader.now),
        appends_none (g.O.Write.contents c.args.writer.now),
        subst (λ (r : List ℕ). Answered g.S.Service.gives c.args.service.now [] [] r c.args.service.now) (sym rest) nothing,
        omega arith,
      ),
    )

pub returns-in-Err-feed-clause-text : goal.returns-in-Err-feed-clause-text
returns-in-Err-feed-clause-text g c =
    let inv = c.turns.invariant.4 in
    let refused = c.in-Err-feed.ensures.running c.turns.invariant.2 in (
      inv.0 ++ take c.in-Ok.count c.read.new.piece,
      inv.1,
      consumes_join (g.I.Read.remaining c.args.budget.now.reader.now) (g.I.Read.remaining c.turns.budget.reader.now) (g.I.Read.remaining c.read.new.self.reader.now) inv.0 (take c.in-Ok.count c.read.new.piece) inv.3 c.in-Ok.ensures.bytes.0,
      inv.4,
      record {
        rest = c.turns.session.rest ++ take c.in-Ok.count c.read.new.piece;
        state = c.turns.service;
        answered = answered_append g.S.Service.gives g.S.Service.refuses c.args.service.now inv.0 (take c.in-Ok.count c.read.new.piece) inv.1 c.turns.session.rest c.turns.service inv.5;
        cause = inl (refused.0, refl);
      },
      read_refused _ c.args.turns (inv.0 ++ take c.in-Ok.count c.read.new.piece) (c.turns.counter + 1)
          (longer inv.0 c.read.new.piece c.turns.counter c.in-Ok.count inv.2 c.in-Ok.count-test.1 c.in-Ok.ensures.bound.0)
          (read_more inv.0 c.read.new.piece c.turns.counter c.in-Ok.count inv.6 c.in-Ok.ensures.bound.0 (search rules)) (omega arith),
    )

pub returns-in-Ok-Some-clause-text : goal.returns-in-Ok-Some-clause-text
returns-in-Ok-Some-clause-text g c =
    let inv = c.turns.invariant.4 in
    let moved = advance g.S.Service.gives g.S.Service.refuses (g.I.Read.remaining c.args.budget.now.reader.now) (g.I.Read.remaining c.turns.budget.reader.now) (g.I.Read.remaining c.read.new.self.reader.now)
    c.args.service.now inv.0 inv.1 (take c.in-Ok.count c.read.new.piece) c.turns.service c.turns.session c.feed.new.self inv.3 c.in-Ok.ensures.bytes.0 inv.5 (c.in_default.ensures.running c.turns.invariant.2) in
    let told = rw c.in-Ok-Some.field-0-is at c.in-Ok-Some.ensures in (
      inv.0 ++ take c.in-Ok.count c.read.new.piece,
      inv.1 ++ told.0,
      moved.0,
      appends_join (g.O.Write.contents c.args.writer.now) (g.O.Write.contents c.turns.writer) (g.O.Write.contents c.answer_all.new.writer) inv.1 told.0 inv.4 told.1,
      ends_behind g.S.Service.gives g.S.Service.refuses c.args.service.now (inv.0 ++ take c.in-Ok.count c.read.new.piece) inv.1 c.feed.new.self.rest c.turns.service told.0 c.answer_all.new.session c.answer_all.new.service _ _ c.in-Ok-Some.end moved.1 told.2,
      read_to_end g.S.Service.gives g.S.Service.refuses c.turns.service c.feed.new.self.rest told.0 c.answer_all.new.session c.answer_all.new.service c.in-Ok-Some.end told.2
          c.args.turns (inv.0 ++ take c.in-Ok.count c.read.new.piece) (c.turns.counter + 1)
          (longer inv.0 c.read.new.piece c.turns.counter c.in-Ok.count inv.2 c.in-Ok.count-test.1 c.in-Ok.ensures.bound.0)
          (read_more inv.0 c.read.new.piece c.turns.counter c.in-Ok.count inv.6 c.in-Ok.ensures.bound.0 (search rules)) (omega arith),
    )

pub returns-in-Err-answer_all-clause-text : goal.returns-in-Err-answer_all-clause-text
returns-in-Err-answer_all-clause-text g c =
    let inv = c.turns.invariant.4 in
    let moved = advance g.S.Service.gives g.S.Service.refuses (g.I.Read.remaining c.args.budget.now.reader.now) (g.I.Read.remaining c.turns.budget.reader.now) (g.I.Read.remaining c.read.new.self.reader.now)
    c.args.service.now inv.0 inv.1 (take c.in-Ok.count c.read.new.piece) c.turns.service c.turns.session c.feed.new.self inv.3 c.in-Ok.ensures.bytes.0 inv.5 (c.in_default.ensures.running c.turns.invariant.2) in
    let told = c.in-Err-answer_all.ensures in (
      inv.0 ++ take c.in-Ok.count c.read.new.piece,
      inv.1 ++ told.0,
      moved.0,
      appends_join (g.O.Write.contents c.args.writer.now) (g.O.Write.contents c.turns.writer) (g.O.Write.contents c.answer_all.new.writer) inv.1 told.0 inv.4 told.1,
      refused_behind g.S.Service.gives g.S.Service.refuses c.args.service.now (inv.0 ++ take c.in-Ok.count c.read.new.piece) inv.1 c.feed.new.self.rest c.turns.service told.0 c.in-Err-answer_all.fault c.answer_all.new.service moved.1 told.2,
      read_refused _ c.args.turns (inv.0 ++ take c.in-Ok.count c.read.new.piece) (c.turns.counter + 1)
          (longer inv.0 c.read.new.piece c.turns.counter c.in-Ok.count inv.2 c.in-Ok.count-test.1 c.in-Ok.ensures.bound.0)
          (read_more inv.0 c.read.new.piece c.turns.counter c.in-Ok.count inv.6 c.in-Ok.ensures.bound.0 (search rules)) (omega arith),
    )

pub turns-preserved : goal.turns-preserved
turns-preserved g c =
    let inv = c.turns.invariant.4 in
    let moved = advance g.S.Service.gives g.S.Service.refuses (g.I.Read.remaining c.args.budget.now.reader.now) (g.I.Read.remaining c.turns.budget.reader.now) (g.I.Read.remaining c.read.new.self.reader.now)
    c.args.service.now inv.0 inv.1 (take c.in-Ok.count c.read.new.piece) c.turns.service c.turns.session c.feed.new.self inv.3 c.in-Ok.ensures.bytes.0 inv.5 (c.in_default.ensures.running c.turns.invariant.2) in
    let told = rw c.in-Ok-None.field-0-is at c.in-Ok-None.ensures in (
      c.in-Ok.ensures.same_reference ∙ c.turns.invariant.0,
      omega (arith, c.in-Ok.ensures.left, c.turns.invariant.1),
      told.2.2,
      told.2.1,
      (
        inv.0 ++ take c.in-Ok.count c.read.new.piece,
        inv.1 ++ told.0,
        longer inv.0 c.read.new.piece c.turns.counter c.in-Ok.count inv.2 c.in-Ok.count-test.1 c.in-Ok.ensures.bound.0,
        moved.0,
        appends_join (g.O.Write.contents c.args.writer.now) (g.O.Write.contents c.turns.writer) (g.O.Write.contents c.answer_all.new.writer) inv.1 told.0 inv.4 told.1,
        answered_join g.S.Service.gives g.S.Service.refuses c.args.service.now (inv.0 ++ take c.in-Ok.count c.read.new.piece) inv.1 c.feed.new.self.rest c.turns.service told.0 c.answer_all.new.session.rest c.answer_all.new.service moved.1 told.2.0,
        read_more inv.0 c.read.new.piece c.turns.counter c.in-Ok.count inv.6 c.in-Ok.ensures.bound.0 (search rules),
      ),
    )

pub returns-in-Ok-eq0-clause-text : goal.returns-in-Ok-eq0-clause-text
returns-in-Ok-eq0-clause-text g c =
    let inv = c.turns.invariant.4 in (
      inv.0,
      inv.1,
      consumes_no_more (g.I.Read.remaining c.args.budget.now.reader.now) (g.I.Read.remaining c.turns.budget.reader.now) (g.I.Read.remaining c.read.new.self.reader.now) inv.0 c.read.new.piece c.in-Ok-eq0.field-0 c.in-Ok-eq0.field-0-test inv.3 c.in-Ok-eq0.ensures.bytes.0,
      inv.4,
      inl (record { rest = c.turns.session.rest; answered = inv.5; quiet = c.turns.invariant.3 }, search rules),
      read_closed c.args.turns inv.0 c.turns.counter inv.2 inv.6 (omega arith),
    )
