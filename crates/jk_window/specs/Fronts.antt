-- The file of the first layers: the stored one, in which the packets of all later layers are empty.
use Rattle.std.specs.Prelude.{ℕ, List, Result}
use Rattle.jk_math.specs.declared.fault.Fault.{Fault}
use Rattle.jk_marks.specs.Codestream.{Tree, codestream_text}
use Rattle.jk_window.specs.Emptied.{emptied_tree}
use Rattle.jk_window.specs.Indexing.{IndexFields, IsIndexOf}
use Rattle.jk_window.specs.Cutting.{front_content, with_codestream}

-- what its codestream spells, where k layers of each precinct are kept
abbrev pub front_tree : {bytes : List ℕ} {i : IndexFields} → IsIndexOf bytes i → (k : ℕ) → Tree
front_tree {i = i} is k = emptied_tree (front_content i.headers (λ _ _ _ _. k) is.runs) is.says.tree

abbrev pub front_file : {bytes : List ℕ} {i : IndexFields} → IsIndexOf bytes i → (k : ℕ) → Result (List ℕ) Fault
front_file is k = with_codestream is.holds (codestream_text (front_tree is k))
