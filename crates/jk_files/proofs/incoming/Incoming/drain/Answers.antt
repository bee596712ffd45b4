use Rattle.std.proofs.Common.{◌≡◌, List, [], ◌++◌, refl, ap, ◌∙◌, drop}
use Rattle.jk_files.specs.Incoming.{waiting_of}
use Rattle.jk_files.proofs.IncomingLaws.{took_all, took_both}
use Rattle.jk_files.proofs.incoming.Incoming.drain.Goals as goal

pub loop-read-init : goal.loop-read-init
loop-read-init g c = record {
  bytes = waiting_of c.args.self.now;
  took = took_all g.S.Read.remaining c.args.self.now _ refl c.clear.ensures.items;
  none = refl;
  empty = c.clear.ensures.items;
}

pub returns-then-ended-clause-took : goal.returns-then-ended-clause-took
returns-then-ended-clause-took g c =
    let before = c.loop-read.invariant in
    let read = c.read_once.new.self in
    let empty = ap (λ n. drop n c.clear-in-loop-read.new.self.items) c.read_once.ensures.none ∙ c.clear-in-loop-read.ensures.items in
    let first = took_both g.S.Read.remaining c.args.self.now c.loop-read.self read before.bytes [] before.took c.in_ok-ended.ensures.took in
    let all = took_all g.S.Read.remaining read _ refl empty in
    ((before.bytes ++ []) ++ waiting_of read, took_both g.S.Read.remaining c.args.self.now read _ (before.bytes ++ []) (waiting_of read) first all, empty)

pub loop-read-preserved : goal.loop-read-preserved
loop-read-preserved g c =
    let before = c.loop-read.invariant in
    let read = c.read_once.new.self in
    let empty = ap (λ n. drop n c.clear-in-loop-read.new.self.items) c.read_once.ensures.none ∙ c.clear-in-loop-read.ensures.items in
    let first = took_both g.S.Read.remaining c.args.self.now c.loop-read.self read before.bytes [] before.took c.in_ok-ended.ensures.took in
    let all = took_all g.S.Read.remaining read _ refl empty in
    record {
      bytes = (before.bytes ++ []) ++ waiting_of read;
      took = took_both g.S.Read.remaining c.args.self.now read _ (before.bytes ++ []) (waiting_of read) first all;
      none = c.read_once.ensures.none;
      empty = c.clear-in-loop-read.ensures.items;
    }
