-- What a server answers from its images.
pub use Rattle.jk_catalogue.specs.Images.{Image, names_of, image_of, IsImageFile, IsCutOf, HasNoCut, MayRefuse, IsForeignFile}
pub use Rattle.jk_catalogue.specs.Images.{IsOtherCut, IsOtherRead, IsFileGiven, IsCutGiven}
use Rattle.std.specs.Prelude.{◌≡◌, ℕ, ◌⊎◌, Bool, true, false, List, map, find, Option, Some, None, if◌then◌else◌, codes}
use Rattle.std.specs.List.{flat_map}
use Rattle.std.specs.Str.{bytes_eq}
use Rattle.jk_math.specs.declared.fault.Fault.{Fault}
use Rattle.jk_math.specs.declared.fault.Fault.TheVariants.{NoSuchImage, BadWindow}
use Rattle.jk_math.specs.Memory.{IsMemory}
use Rattle.jk_window.specs.declared.view.View.{View}
use Rattle.jk_web.specs.declared.reply.Media.TheVariants.{Plain, Jp2}
use Rattle.jk_web.specs.declared.reply.Reply.{Reply}
use Rattle.jk_web.specs.declared.request.Request.{Request}
use Rattle.jk_web.specs.Resources.{path_of, query_of, Resource, listing, whole, window, nowhere, resource_at}
use Rattle.jk_web.specs.Pairs.{are_none}
use Rattle.jk_web.specs.Queries.{pairs_of, asked_by}
use Rattle.jk_web.specs.Replies.{Content, printed, error}

-- a file that is sent
abbrev pub sent : List ℕ → Content
sent file = record { status = 200; media = Jp2; body = file }

-- what an image gives to a query that has no pair
abbrev pub whole_content : Option Image → Bool → Content
whole_content None bare = error 404
whole_content (Some image) true = sent image.file
whole_content (Some image) false = error 400

-- a cut that is sent, where there is one
abbrev pub cut_content : Option (List ℕ) → Content
cut_content None = error 400
cut_content (Some file) = sent file

-- what an image gives to a query that asks for a window
abbrev pub window_content : Option Image → Option View → Content
window_content None asked = error 404
window_content (Some image) None = error 400
window_content (Some image) (Some asked) = cut_content (image.cut asked)

-- what is said of a resource to a query
abbrev pub content_of : List Image → List ℕ → Resource → Content
content_of images query listing =
    if are_none (pairs_of query)
    then record { status = 200; media = Plain; body = flat_map (λ (i : Image). i.line) images } else error 400
content_of images query (whole name) = whole_content (image_of name images) (are_none (pairs_of query))
content_of images query (window name) = window_content (image_of name images) (asked_by (pairs_of query))
content_of images query nowhere = error 404

-- what is said to a request: the method is judged first, then the path, then the query
unfoldable pub content : Request → List Image → Content
content q images =
    if bytes_eq q.method (codes "GET") then content_of images (query_of q.target) (resource_at (path_of q.target) (names_of images))
    else error 405

-- The reply to a request.
abbrev pub answer : Request → List Image → Reply
answer q images = printed (content q images) q.closes

-- the reply where a file couldn't be read, or had changed
abbrev pub failed : Bool → Reply
failed close = printed (error 500) close

-- A cut that was made for the name and the window, and isn't the image's.
abbrev pub IsOtherMade : {S : Type 0} → (made : S → List ℕ → View → List ℕ → Type 0) → Option Image → S → List ℕ
    → View → S → List ℕ → Type 0
IsOtherMade made image s name asked t cut = made t name asked cut × (IsCutOf image asked cut → ⊥)

-- the status that says so
abbrev pub status_of : Fault → ℕ
status_of NoSuchImage = 404
status_of BadWindow = 400
status_of e = 500

-- what a request asks for, where images have these names; nothing, where its method isn't allowed
abbrev pub asked_for : Request → List (List ℕ) → Resource
asked_for q names = if bytes_eq q.method (codes "GET") then resource_at (path_of q.target) names else nowhere

-- The file of the image that a resource names couldn't be read, or other bytes were read in its
-- place.
abbrev pub IsBroken : (broke : List ℕ → Type 0) → Resource → Type 0
IsBroken broke listing = ⊥
IsBroken broke (whole name) = broke name
IsBroken broke (window name) = broke name
IsBroken broke nowhere = ⊥

-- A file that is sent to a query for a resource, and isn't the image's: another that was read in
-- its place, or another window.
abbrev pub IsOtherSent : List Image → (reads : List ℕ → List ℕ → Type 0)
    → (windows : Option Image → List ℕ → View → List ℕ → Type 0) → List ℕ → Resource → List ℕ → Type 0
IsOtherSent images reads windows query listing file = ⊥
IsOtherSent images reads windows query (whole name) file = (are_none (pairs_of query) ≡ true)
    × IsForeignFile (image_of name images) (reads name) file
IsOtherSent images reads windows query (window name) file = (asked : View) × (asked_by (pairs_of query) ≡ Some asked)
    × windows (image_of name images) name asked file
IsOtherSent images reads windows query nowhere file = ⊥

-- A reply says what is due; or that a file couldn't be read, or that other bytes were read in its
-- place; or it has such another file.
abbrev pub IsReplyOf : (due : Content) → (broken : Type 0) → (other : List ℕ → Type 0) → Bool → Reply → Type 0
IsReplyOf due broken other close r =
    (r ≡ printed due close) ⊎ (broken × (r ≡ failed close))
    ⊎ ((file : List ℕ) × other file × (r ≡ printed (sent file) close))

-- Others: the windows that may be sent in the place of an image's.
module _ {S : Type 0} (broke : S → List ℕ → S → Type 0) (reads : S → List ℕ → List ℕ → S → Type 0)
    (others : Option Image → S → List ℕ → View → S → List ℕ → Type 0) where
  -- The reply of a resource to a query, from one state to another.
  abbrev pub IsReplyAtWith : List Image → S → S → List ℕ → Bool → Resource → Reply → Type 0
  IsReplyAtWith images s t query close resource r =
      IsReplyOf (content_of images query resource) (IsBroken (λ n. broke s n t) resource)
      (IsOtherSent images (λ n file. reads s n file t)
      (λ image n asked cut. others image s n asked t cut) query resource) close r

  -- The reply to a request for images.
  abbrev pub IsReplyWith : List Image → Request → S → S → Reply → Type 0
  IsReplyWith images q s t r =
      let resource = asked_for q (names_of images) in
      IsReplyOf (content q images) (IsBroken (λ n. broke s n t) resource)
      (IsOtherSent images (λ n file. reads s n file t) (λ image n asked cut. others image s n asked t cut)
      (query_of q.target) resource) q.closes r

  -- What is written for a request.
  abbrev pub gives_with : List Image → S → Request → Reply → S → Type 0
  gives_with images s q r t = IsReplyWith images q s t r

-- Windows are made at each request: another is one of what was read for it.
module _ {S : Type 0} (broke : S → List ℕ → S → Type 0) (reads : S → List ℕ → List ℕ → S → Type 0)
    (cuts : S → List ℕ → View → S → List ℕ → Type 0) where
  abbrev pub IsReplyAt : List Image → S → S → List ℕ → Bool → Resource → Reply → Type 0
  IsReplyAt = IsReplyAtWith broke reads (IsOtherRead cuts)

  abbrev pub IsReply : List Image → Request → S → S → Reply → Type 0
  IsReply = IsReplyWith broke reads (IsOtherRead cuts)

  abbrev pub gives_reply : List Image → S → Request → Reply → S → Type 0
  gives_reply = gives_with broke reads (IsOtherRead cuts)

-- Windows may be kept: another was made for the same name and window, by this request or by an
-- earlier one.
module _ {S : Type 0} (broke : S → List ℕ → S → Type 0) (reads : S → List ℕ → List ℕ → S → Type 0)
    (made : S → List ℕ → View → List ℕ → Type 0) where
  abbrev pub IsCachedReply : List Image → Request → S → S → Reply → Type 0
  IsCachedReply = IsReplyWith broke reads (IsOtherMade made)

  abbrev pub gives_cached : List Image → S → Request → Reply → S → Type 0
  gives_cached = gives_with broke reads (IsOtherMade made)

-- The same where the images' files are kept: no other is read in their place.
module _ {S : Type 0} (broke : S → List ℕ → S → Type 0) where
  abbrev pub IsKeptReplyAt : List Image → S → S → List ℕ → Bool → Resource → Reply → Type 0
  IsKeptReplyAt images s t query close resource r =
      IsReplyOf (content_of images query resource) (IsBroken (λ n. broke s n t) resource) (λ _. ⊥) close r

  abbrev pub IsKeptReply : List Image → Request → S → S → Reply → Type 0
  IsKeptReply images q s t r =
      IsReplyOf (content q images) (IsBroken (λ n. broke s n t) (asked_for q (names_of images))) (λ _. ⊥) q.closes r

  abbrev pub gives_kept : List Image → S → Request → Reply → S → Type 0
  gives_kept images s q r t = IsKeptReply images q s t r

-- Only memory is refused.
abbrev pub refuses_memory : {S : Type 0} → S → Request → Fault → S → Type 0
refuses_memory s q e t = IsMemory e
