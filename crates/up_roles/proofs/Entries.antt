-- The members of an object, one after another.
use Rattle.std.proofs.Common.{◌≡◌, List, [], ◌∷◌, ℕ, String, refl, ap, string_bytes}
use Rattle.std.specs.declared.alloc.Global.{Global}
use Rattle.serde_json.specs.Data.{Data}
use Rattle.serde_json.specs.View.{view, members_view}
use Rattle.serde_json.specs.declared.value.Value.{Value}
use Rattle.up_roles.specs.Root.{members_list, entries_of}

pub entries_listed : (entries : List (String Global × Value)) → members_list (members_view entries) ≡ entries_of entries
entries_listed [] = refl
entries_listed (e ∷ entries) = ap (λ (rest : List (List ℕ × Data)). (string_bytes e.0, view e.1) ∷ rest) (entries_listed entries)
