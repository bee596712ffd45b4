use Rattle.std.proofs.Common.{◌≡◌, ◌+◌, List, ℕ, length, length-append, sym, ap, ◌∙◌, arith}
use Rattle.std.proofs.lemmas.List.{append_cancel_left}
use Rattle.jk_stored.specs.Contents.{content_of}
use Rattle.jk_stored.proofs.content.put_due.Goals as goal

pub returns-clause-put : goal.returns-clause-put
returns-clause-put g c =
    let old = c.args.out.now.items in
    let front = c.in_ok-put_content.ensures.front in
    let long : length c.put_content.new.out.items ≡ length old + length front.more = ap (λ (xs : List ℕ). length xs) front.text ∙ length-append old front.more in (
      front.more,
      front.text,
      omega (arith, long, c.len.ensures, c.len-before.ensures, c.if-len-before.false),
      λ code keeping held. append_cancel_left old front.more (content_of code c.args.seen.now c.args.names.now c.args.entries.now) (sym front.text ∙ c.in_ok-put_content.ensures.put code keeping held),
    )
