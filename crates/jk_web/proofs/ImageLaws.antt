-- What is said to a request for an image.
use Rattle.std.proofs.Common.{◌≡◌, ℕ, Bool, true, false, cond, ◌||◌, List, [], ◌∷◌, codes, Option, Some, is_some, refl, sym, ap, subst, ◌∙◌}
use Rattle.std.specs.Str.{bytes_eq}
use Rattle.jk_web.specs.declared.request.Request.{Request}
use Rattle.jk_window.specs.declared.view.View.{View}
use Rattle.jk_web.specs.Resources.{path_of, query_of, Resource, whole, window, nowhere, resource_at, is_among, among}
use Rattle.jk_web.specs.Replies.{Content, error}
use Rattle.jk_web.specs.Images.{Image, names_of, image_of, content_of, content, asked_for, IsOtherSent}

-- A name is among the names where there is an image of it.
among_is : (name : List ℕ) (images : List Image) → is_among (names_of images) name ≡ is_some (image_of name images)
among_is name [] = refl
among_is name (i ∷ images) = at_first (bytes_eq name i.name) i (among_is name images)
  where
    at_first : (b : Bool) (j : Image) → is_among (names_of images) name ≡ is_some (image_of name images)
        → (b || is_among (names_of images) name) ≡ is_some (cond b (Some j) (image_of name images))
    at_first true j e = refl
    at_first false j e = e

-- what is said to a GET
content_get : (q : Request) (images : List Image) → bytes_eq q.method (codes "GET") ≡ true
    → content q images ≡ content_of images (query_of q.target) (resource_at (path_of q.target) (names_of images))
unfolding content
content_get q images e =
    ap (λ b. cond b (content_of images (query_of q.target) (resource_at (path_of q.target) (names_of images))) (error 405)) e

asked_get : (q : Request) (names : List (List ℕ)) → bytes_eq q.method (codes "GET") ≡ true → asked_for q names ≡ resource_at (path_of q.target) names
asked_get q names e = ap (λ b. cond b (resource_at (path_of q.target) names) nowhere) e

-- What holds of what a resource is said to a query holds of what is said to the request that asks for it.
pub answered : (q : Request) (images : List Image) (path query : List ℕ) (resource : Resource) → bytes_eq q.method (codes "GET") ≡ true
    → path ≡ path_of q.target → query ≡ query_of q.target → resource_at path (names_of images) ≡ resource
    → (F : Content → Resource → List ℕ → Type 0) → F (content_of images query resource) resource query → F (content q images) (asked_for q (names_of images)) (query_of q.target)
answered q images path query resource get is_path is_query is F given =
    let found : resource ≡ asked_for q (names_of images) = sym (asked_get q (names_of images) get ∙ ap (λ p. resource_at p (names_of images)) (sym is_path) ∙ is) in
    let asked : resource ≡ resource_at (path_of q.target) (names_of images) = found ∙ asked_get q (names_of images) get in
    let said : content_of images query resource ≡ content q images =
    ap (λ r. content_of images query r) asked ∙ ap (λ x. content_of images x (resource_at (path_of q.target) (names_of images))) is_query ∙ sym (content_get q images get) in
    subst (λ c. F c (asked_for q (names_of images)) (query_of q.target)) said
    (subst (λ r. F (content_of images query resource) r (query_of q.target)) found
    (subst (λ x. F (content_of images query resource) resource x) is_query given))

-- What holds of a resource that a name makes holds of what the name makes among the names, where there is an image of it.
pub at_name : (images : List Image) (name : List ℕ) (make : List ℕ → Resource) → is_some (image_of name images) ≡ true
    → (F : Resource → Type 0) → F (make name) → F (cond (is_among (names_of images) name) (make name) nowhere)
at_name images name make has F given =
    subst F (sym (ap (λ b. cond b (make name) nowhere) (among_is name images ∙ has))) given

-- What is sent of a whole file is no window.
pub whole_alone : (images : List Image) (reads : List ℕ → List ℕ → Type 0) (windows others : Option Image → List ℕ → View → List ℕ → Type 0) (name query file : List ℕ)
    → IsOtherSent images reads windows query (among (names_of images) (whole name)) file → IsOtherSent images reads others query (among (names_of images) (whole name)) file
whole_alone images reads windows others name query file = at_test (is_among (names_of images) name)
  where
    at_test : (b : Bool) → IsOtherSent images reads windows query (cond b (whole name) nowhere) file → IsOtherSent images reads others query (cond b (whole name) nowhere) file
    at_test true h = h
    at_test false h = h

-- A request for a window, by what its path names.
pub window_for : (q : Request) (names : List (List ℕ)) (path : List ℕ) (resource : Resource) (name : List ℕ) → bytes_eq q.method (codes "GET") ≡ true
    → path ≡ path_of q.target → resource_at path names ≡ resource → asked_for q names ≡ window name → resource ≡ window name
window_for q names path resource name get is_path is wanted =
    sym is ∙ ap (λ p. resource_at p names) is_path ∙ sym (asked_get q names get) ∙ wanted

pub whole_not : (names : List (List ℕ)) (file name : List ℕ) → among names (whole file) ≡ window name → ⊥
whole_not names file name = at_test (is_among names file)
  where
    at_test : (b : Bool) → cond b (whole file) nowhere ≡ window name → ⊥
    at_test true e = cc
    at_test false e = cc

pub window_named : (names : List (List ℕ)) (file name : List ℕ) → among names (window file) ≡ window name → name ≡ file
window_named names file name = at_test (is_among names file)
  where
    at_test : (b : Bool) → cond b (window file) nowhere ≡ window name → name ≡ file
    at_test true e = cc
    at_test false e = cc
