use Rattle.std.proofs.Common.{◌≡◌, subst, IfOk}
use Rattle.jk_mqenc.specs.Machine.{Machine}
use Rattle.jk_mqenc.proofs.Finishing.{code-shifted-view, shifted-first}
use Rattle.jk_mqenc.proofs.coder.Coder.push_out.Goals as goal

pub place-requires-clause-room : goal.place-requires-clause-room
place-requires-clause-room c =
    (code-shifted-view c.self.inside.code c.self.inside.width c.self.inside.count _ c.args.self.now c.self.view_is c.requires.width c.requires.holds).room

pub place-requires-clause-first : goal.place-requires-clause-first
place-requires-clause-first c =
    shifted-first c.args.self.now _ (code-shifted-view c.self.inside.code c.self.inside.width c.self.inside.count _ c.args.self.now c.self.view_is c.requires.width c.requires.holds)

pub returns : goal.returns
returns c = record {
  done =
      let s = code-shifted-view c.self.inside.code c.self.inside.width c.self.inside.count _ c.args.self.now c.self.view_is c.requires.width c.requires.holds in
      subst (λ (m : Machine). IfOk c.place.result (λ x. c.place.new.self ≡ m)) s.is c.place.ensures.done;
}
