-- Names and canonical texts as columns: they are UTF-8.
use Rattle.std.proofs.Common.{◌≡◌, ℕ, List, [], ◌∷◌, true, refl, subst, arith}
use Rattle.std.proofs.lemmas.Bool.{and_parts}
use Rattle.std.proofs.lemmas.Bool.Decides.{nat_tests}
use Rattle.std.proofs.lemmas.Str.{IsUtf8-from_ascii}
use Rattle.up_canon.proofs.Ascii.{are_small, small-ascii, text-ascii}
use Rattle.up_canon.proofs.Printable.{both, ident_prints, file_name_prints}
use Rattle.up_store.proofs.Common.{IsUtf8, nat_le, Data, Text, is_printable, is_printable_text, is_plain, has_canon, text, Name, is_ident, is_file_name, IsWords}

small : (x : ℕ) → is_printable x ≡ true → nat_le x 127 ≡ true
small x h = grind (arith, nat_tests)

prints-small : (t : List ℕ) → is_printable_text t ≡ true → are_small t ≡ true
prints-small [] h = refl
prints-small (x ∷ t) h = let p = and_parts (is_printable x) _ h in both _ _ (small x p.0) (prints-small t p.1)

pub utf8 : (t : List ℕ) → IsWords (Text t) → IsUtf8 t
utf8 t is = subst IsUtf8 (let e = is.1 in cc) is.2

pub printed : (t : List ℕ) → is_printable_text t ≡ true → IsWords (Text t)
printed t h = (t, refl, IsUtf8-from_ascii t (small-ascii t (prints-small t h)))

pub ident : (name : Name) → is_ident name ≡ true → IsWords (Text name)
ident name h = printed name (ident_prints name h)

pub file_name : (name : Name) → is_file_name name ≡ true → IsWords (Text name)
file_name name h = printed name (file_name_prints name h)

pub canonical : (d : Data) → has_canon d ≡ true → IsWords (Text (text d))
canonical d h = (text d, refl, IsUtf8-from_ascii (text d) (text-ascii d (and_parts (is_plain d) _ h).0))
