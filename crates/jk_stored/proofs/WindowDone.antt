-- The same by what the functions read and make.
use Rattle.std.proofs.Common.{◌≡◌, ℕ, List, ◌++◌, length, map, Ok, sym, ap, ◌∙◌, subst}
use Rattle.std.specs.List.{flat_map}
use Rattle.jk_math.specs.Steps.{ok_is}
use Rattle.jk_math.specs.declared.rect.Rect.{Rect}
use Rattle.jk_marks.specs.declared.main_header.Main.{Main}
use Rattle.jk_marks.specs.HeaderReading.{main_at}
use Rattle.jk_marks.specs.Markers.{eoc, marker_text}
use Rattle.jk_marks.specs.Siz.{tile_count}
use Rattle.jk_marks.specs.Copying.{main_kept_at}
use Rattle.jk_marks.specs.Codestream.{main_text, main_of}
use Rattle.jk_marks.proofs.Laws.{only_main, begins_main}
use Rattle.jk_params.specs.Headers.{Headers, IsHeaders}
use Rattle.jk_window.specs.declared.view.View.{View}
use Rattle.jk_window.specs.Views.{area_at}
use Rattle.jk_code.specs.ViewReading.{image_view_at, meaning_view_at}
use Rattle.jk_code.specs.Windows.{in_all_layers}
use Rattle.jk_stored.specs.Outlines.{Front, outline, HasOutline, size_of}
use Rattle.jk_stored.specs.Making.{Made, made_text, IsMade, Shows, AreMade}
use Rattle.jk_stored.proofs.OutlineHeaders.{IsOutlined}
use Rattle.jk_stored.proofs.WindowMade.{window_made}

pub window_done : (c bytes main : List ℕ) (fronts : List Front) (h : Headers) (m : Main × ℕ) (n d : ℕ) (w : Rect) (v : View) (made : List Made) (text : List ℕ) → bytes ≡ outline main fronts → IsHeaders bytes h → main_at bytes ≡ Ok m → m.1 ≡ n → n ≡ length main
    → HasOutline c main fronts → area_at h v ≡ Ok w → d ≡ v.reduce → text ≡ main_kept_at bytes ++ (flat_map made_text made ++ marker_text eoc) → map (λ (u : Made). u.size) made ≡ map size_of fronts → length made ≡ tile_count h.siz
    → AreMade (λ i a _ u. IsMade bytes h i a u) 0 n n made → AreMade (Shows c h w d) 0 n n made → meaning_view_at text (in_all_layers v) ≡ image_view_at c (in_all_layers v)
window_done c bytes main fronts h m n d w v made text own says read size long has area reduce is sizes count heads shows =
    let said : IsHeaders (outline main fronts) h = subst (λ (xs : List ℕ). IsHeaders xs h) own says in
    let tree = said.tree in
    let again = only_main (outline main fronts) tree.siz tree.segments said.spelled.header (begins_main (outline main fronts) tree said.spelled) in
    let same : m ≡ (main_of tree.siz tree.segments, length (main_text tree.siz tree.segments)) =
    ok_is m (main_of tree.siz tree.segments, length (main_text tree.siz tree.segments)) (sym read ∙ ap main_at own ∙ again) in
    let o : IsOutlined c main fronts h = record { has = has; says = said; main_size = sym (ap (λ (p : Main × ℕ). p.1) same) ∙ size ∙ long } in
    window_made c main fronts h o w v made text area (is ∙ ap (λ (xs : List ℕ). main_kept_at xs ++ (flat_map made_text made ++ marker_text eoc)) own) sizes count
    (subst (λ (xs : List ℕ). AreMade (λ i a _ u. IsMade xs h i a u) 0 (length main) (length main) made) own (subst (λ k. AreMade (λ i a _ u. IsMade bytes h i a u) 0 k k made) long heads))
    (subst (λ k. AreMade (Shows c h w v.reduce) 0 k k made) long (subst (λ k. AreMade (Shows c h w k) 0 n n made) reduce shows))
