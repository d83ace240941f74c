-- What a request asks, but for its body.
use Rattle.std.specs.Prelude.{ℕ, ◌==◌, List, Option, Some, None, codes, if◌then◌else◌}
use Rattle.std.specs.List.{before_first}
use Rattle.std.specs.Str.{is_utf8}
use Rattle.httparse.specs.Grammar.{RequestHead}
use Rattle.up_canon.specs.Names.{is_file_name}
use Rattle.up_heads.specs.Methods.{verb_of}
use Rattle.up_heads.specs.Routes.{strip, kind}
use Rattle.up_heads.specs.declared.check.Check.TheVariants.{NotFound, AllowGet, AllowPost, LengthRequired}
use Rattle.up_heads.specs.declared.methods.Verb.{Verb}
use Rattle.up_heads.specs.declared.methods.Verb.TheVariants.{Get, Post, Head, Other}
use Rattle.up_heads.specs.declared.routes.Kind.{Kind}
use Rattle.up_heads.specs.declared.routes.Kind.TheVariants.{Manifest, Director, Image}
use Rattle.up_heads.specs.declared.routed.Routed.{Routed}
use Rattle.up_heads.specs.declared.routed.Routed.TheVariants.{Fixed, Deliver, FetchDirector, FetchImage}

-- the target up to its first `?`
abbrev pub path_of : List ℕ → List ℕ
path_of target = before_first (λ byte. byte == 63) target

-- a filename, where the bytes are one
abbrev pub named_file : Option (List ℕ) → Option (List ℕ)
named_file (Some name) = if is_file_name name then Some name else None
named_file None = None

-- a manifest is posted, and states its length
abbrev pub post_route : Verb → Option ℕ → Routed
post_route Post (Some size) = Deliver
post_route Post None = Fixed LengthRequired
post_route Get stated = Fixed AllowPost
post_route Head stated = Fixed AllowPost
post_route Other stated = Fixed AllowPost

-- a file is got
abbrev pub got : (List ℕ → Routed) → Option (List ℕ) → Verb → Routed
got fetch (Some name) Get = fetch name
got fetch (Some name) Post = Fixed AllowGet
got fetch (Some name) Head = Fixed AllowGet
got fetch (Some name) Other = Fixed AllowGet
got fetch None verb = Fixed NotFound

-- by the route of the path
abbrev pub routed_by : Option Kind → List ℕ → Verb → Option ℕ → Routed
routed_by (Some Manifest) path verb stated = post_route verb stated
routed_by (Some Director) path verb stated = got FetchDirector (named_file (strip (codes "/director/") path)) verb
routed_by (Some Image) path verb stated = got FetchImage (named_file (strip (codes "/image/") path)) verb
routed_by None path verb stated = Fixed NotFound

-- by the path; what isn't UTF-8 has no route
unfoldable pub routed_at : List ℕ → Verb → Option ℕ → Routed
routed_at target verb stated =
    if is_utf8 target then routed_by (kind (path_of target)) (path_of target) verb stated else Fixed NotFound

-- what the request of this head asks, which states a body of this length or none
unfoldable pub request_route : RequestHead → Option ℕ → Routed
request_route head stated = routed_at head.target (verb_of head.method) stated
