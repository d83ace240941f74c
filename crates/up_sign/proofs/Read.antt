-- A member that is an object is itself.
use Rattle.std.proofs.Common.{◌≡◌, List, ℕ, Ok, ap, ◌∙◌, sym}
use Rattle.serde_json.specs.Data.{Data}
use Rattle.up_canon.specs.Members.{member_in, object_of, object_in}
use Rattle.up_canon.specs.Steps.{and_then}
use Rattle.up_canon.proofs.Members.{self_read}

pub object_in-value : (name : List ℕ) (d v p : Data) → member_in name d ≡ Ok v → object_of name v ≡ Ok p → object_in name d ≡ Ok v
unfolding object_in and_then
object_in-value name d v p there is = rw there (is ∙ ap Ok (sym (self_read name v p is)))
