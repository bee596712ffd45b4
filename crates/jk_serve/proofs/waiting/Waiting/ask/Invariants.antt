use Rattle.std.proofs.Common.{◌≡◌, map}
use Rattle.std.specs.BTreeSet.{contains_text}
use Rattle.std.specs.String.{string_bytes}
use Rattle.jk_serve.specs.Asking.{asked_all}
use Rattle.jk_serve.proofs.waiting.Waiting.ask.Given as goal

-- those that are left come behind what is kept so far
abbrev pub invariant-loop-name : goal.invariant-loop-name
invariant-loop-name l = record {
  names : l.self.names ≡ l.fn.self.names;
  asked : asked_all (contains_text l.fn.self.names) (map string_bytes l.name-iterator.rest.items) (map string_bytes l.self.asked.names.items)
      ≡ asked_all (contains_text l.fn.self.names) (map string_bytes l.fn.names.items) (map string_bytes l.fn.self.asked.names.items);
}
