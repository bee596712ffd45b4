use Rattle.jk_store.proofs.Indexed.{written_text, dressed_indexed}
use Rattle.jk_store.proofs.adding.file_with.Goals as goal

pub returns-clause-image : goal.returns-clause-image
returns-clause-image c =
    let file = c.in_ok-file.file.items in
    let text = written_text c.args.image.now c.args.parameters.now file c.requires c.in_ok-file.ensures.exact in
    dressed_indexed file c.deref.result.now text.0 c.args.extras.now c.with_extras.result c.args.image.now c.deref.ensures.value text.1 c.in_ok-file.ensures.means c.with_extras.ensures.holds
