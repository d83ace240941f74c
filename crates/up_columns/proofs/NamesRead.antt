-- Names are written as plain texts, and read as the names.
use Rattle.std.proofs.Common.{◌≡◌, ℕ, List, true, Ok, refl, ◌∙◌, arith}
use Rattle.std.specs.Prelude.{codes}
use Rattle.std.specs.List.{list_all}
use Rattle.serde_json.specs.Data.{string}
use Rattle.up_canon.specs.Canon.{CanonIsRead, has_canon}
use Rattle.up_canon.specs.Members.{text_of}
use Rattle.up_canon.specs.Names.{Name, is_ident, is_file_name}
use Rattle.up_canon.specs.Readers.{ident_of, file_name_of}
use Rattle.up_canon.proofs.Members.{fits_there}
use Rattle.up_canon.proofs.PlainValues.{IsPlain, plain-string}
use Rattle.up_canon.proofs.Printable.{ident_prints, file_name_prints}
use Rattle.up_canon.proofs.Steps.{bind-ok}
use Rattle.up_columns.specs.Columns.{names_data, names_column, names_in, file_names_in}
use Rattle.up_columns.proofs.Texts.{list-canon, items-there}

pub ident-plain : (x : Name) → is_ident x ≡ true → IsPlain 0 (string x)
ident-plain x h = plain-string x (ident_prints x h)

pub file_name-plain : (x : Name) → is_file_name x ≡ true → IsPlain 0 (string x)
file_name-plain x h = plain-string x (file_name_prints x h)

pub ident-there : (name : List ℕ) (x : Name) → is_ident x ≡ true → ident_of name (string x) ≡ Ok x
unfolding ident_of text_of
ident-there name x h = bind-ok _ _ x refl ∙ fits_there is_ident name x h

file_name-there : (name : List ℕ) (x : Name) → is_file_name x ≡ true → file_name_of name (string x) ≡ Ok x
unfolding file_name_of text_of
file_name-there name x h = bind-ok _ _ x refl ∙ fits_there is_file_name name x h

pub names-canon : (xs : List Name) → list_all is_ident xs ≡ true → has_canon (names_data xs) ≡ true
names-canon xs h = list-canon 0 is_ident string (omega arith) ident-plain xs h

pub names-there : CanonIsRead → (xs : List Name) → list_all is_ident xs ≡ true → names_in (names_column xs) ≡ Ok xs
unfolding names_column
names-there law xs h = items-there ident_of (codes "names") is_ident string (ident-there (codes "names")) law xs (names-canon xs h) h

pub file_names-canon : (xs : List Name) → list_all is_file_name xs ≡ true → has_canon (names_data xs) ≡ true
file_names-canon xs h = list-canon 0 is_file_name string (omega arith) file_name-plain xs h

pub file_names-there : CanonIsRead → (xs : List Name) → list_all is_file_name xs ≡ true → file_names_in (names_column xs) ≡ Ok xs
unfolding names_column
file_names-there law xs h = items-there file_name_of (codes "names") is_file_name string (file_name-there (codes "names")) law xs (file_names-canon xs h) h
