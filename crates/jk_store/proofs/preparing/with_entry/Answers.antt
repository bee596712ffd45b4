use Rattle.std.proofs.Common.{◌≡◌, Ok, subst, sym}
use Rattle.jk_window.specs.Indexing.{IndexFields}
use Rattle.jk_store.specs.Catalogue.{image_at}
use Rattle.jk_store.proofs.StoringLaws.{indexed_found}
use Rattle.jk_store.proofs.preparing.with_entry.Goals as goal

pub entry_of-requires : goal.entry_of-requires
entry_of-requires c = subst (λ b. (i : IndexFields) × (image_at b ≡ Ok i)) (sym c.deref.ensures.value) (indexed_found _ (c.requires c.in_ok-bytes.bytes c.in_ok-bytes.was))
