-- Needs are written as plain objects, and read as the needs.
use Rattle.std.proofs.Common.{◌≡◌, ℕ, ◌≤◌, List, true, Ok, refl, arith}
use Rattle.std.specs.Prelude.{codes, nat_le}
use Rattle.std.proofs.lemmas.Bool.{and_parts}
use Rattle.std.proofs.lemmas.Bool.Decides.{nat_tests}
use Rattle.std.specs.List.{list_all}
use Rattle.up_canon.specs.Canon.{CanonIsRead, has_canon, max_count}
use Rattle.up_canon.specs.Members.{object_of}
use Rattle.up_canon.specs.Names.{is_ident}
use Rattle.up_canon.proofs.Members.{ident_there, count_there}
use Rattle.up_canon.proofs.PlainValues.{IsPlain, plain-count}
use Rattle.up_canon.proofs.Printable.{both}
use Rattle.up_plan.specs.declared.image.Need.{Need}
use Rattle.up_columns.specs.Columns.{need_data, need_of, needs_data, needs_column, needs_in}
use Rattle.up_columns.specs.Typed.{is_typed_need}
use Rattle.up_columns.proofs.NamesRead.{ident-plain}
use Rattle.up_columns.proofs.Pairs.{two-plain, two-there}
use Rattle.up_columns.proofs.Texts.{list-canon, items-there}

pub need_typed : (need : Need) → is_ident need.hardware ≡ true → need.release ≤ max_count → is_typed_need need ≡ true
need_typed need hardware release = let small : nat_le need.release max_count ≡ true = grind (arith, nat_tests) in both _ _ hardware small

need-plain : (need : Need) → is_typed_need need ≡ true → IsPlain 1 (need_data need)
need-plain need h =
    let p = and_parts (is_ident need.hardware) _ h in
    two-plain (codes "hardware") (codes "release") _ _ refl refl (ident-plain need.hardware p.0) (plain-count need.release p.1)

small : (release : ℕ) → nat_le release max_count ≡ true → release ≤ max_count
small release h = grind (arith, nat_tests)

need-there : (name : List ℕ) (need : Need) → is_typed_need need ≡ true → need_of name (need_data need) ≡ Ok need
unfolding need_of object_of
need-there name need h =
    two-there (is_ident need.hardware) _ name (need_data need) _ _ _ _ _ refl h (λ p. ident_there (codes "hardware") (need_data need) need.hardware refl p)
    (λ p. count_there (codes "release") (need_data need) need.release (refl, small need.release p))

pub needs-canon : (needs : List Need) → list_all is_typed_need needs ≡ true → has_canon (needs_data needs) ≡ true
needs-canon needs h = list-canon 1 is_typed_need need_data (omega arith) need-plain needs h

pub needs-there : CanonIsRead → (needs : List Need) → list_all is_typed_need needs ≡ true → needs_in (needs_column needs) ≡ Ok needs
unfolding needs_column
needs-there law needs h = items-there need_of (codes "needs") is_typed_need need_data (need-there (codes "needs")) law needs (needs-canon needs h) h
