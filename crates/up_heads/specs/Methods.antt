-- The methods that the routes know (RFC 9110, section 9).
use Rattle.std.specs.Prelude.{ℕ, Bool, true, false, List, codes, bytes_eq, if◌then◌else◌}
use Rattle.up_heads.specs.declared.methods.Verb.{Verb}
use Rattle.up_heads.specs.declared.methods.Verb.TheVariants.{Get, Post, Head, Other}

-- the method of this name, exactly
unfoldable pub verb_of : List ℕ → Verb
verb_of name =
    if bytes_eq name (codes "GET") then Get
    else if bytes_eq name (codes "POST") then Post
    else if bytes_eq name (codes "HEAD") then Head
    else Other

abbrev pub is_head_verb : Verb → Bool
is_head_verb Get = false
is_head_verb Post = false
is_head_verb Head = true
is_head_verb Other = false
