-- The members of a payload that was written, and what they mean.
use Rattle.std.proofs.Common.{◌≡◌, ℕ, List, [], ◌∷◌, Bool, true, Option, Some, None, Result, Ok, length, map, refl, sym, ap, ◌∙◌, arith}
use Rattle.std.specs.Prelude.{codes, nat_le, ◌==◌, ◌&&◌}
use Rattle.std.specs.List.{list_all}
use Rattle.std.proofs.lemmas.Bool.{and_parts}
use Rattle.std.proofs.lemmas.Bool.Decides.{nat_tests}
use Rattle.serde_json.specs.Data.{Data, object}
use Rattle.serde_json.specs.Find as json
use Rattle.serde_json.specs.View.{items_of}
use Rattle.up_canon.specs.Build.{count_value, hashes_value}
use Rattle.up_canon.specs.Canon.{max_count}
use Rattle.up_canon.specs.HexText.{is_lower_digit, is_hash, is_second_hash}
use Rattle.up_canon.specs.Meaning.{HasText, HasCount, MeansIfAny, EachMeans}
use Rattle.up_canon.specs.Moments.{moment_text}
use Rattle.up_canon.specs.Names.{Name}
use Rattle.up_canon.specs.Steps.{each}
use Rattle.up_canon.specs.declared.refusal.Refusal.{Refusal}
use Rattle.up_canon.proofs.Hashes.{first_hash, spelled_hash, sha512_size}
use Rattle.up_canon.proofs.Printable.{both, all-hex}
use Rattle.up_canon.proofs.Steps.{bind-ok}
use Rattle.up_roles.specs.Meaning.{HasPositive, HasName, HasSha256, HasSha512, MeansHead}
use Rattle.up_roles.specs.Payload.{repository_text, version_fits, name_fits, is_named, is_moment}
use Rattle.up_roles.specs.declared.repository.Repository.{Repository}
use Rattle.up_roles.specs.declared.repository.Repository.TheVariants.{Director, Image}

-- ---- counts, names and hashes

pub count_means : (d : Data) (name : List ℕ) (n : ℕ) → json.get name d ≡ Some (count_value n) → nat_le n max_count ≡ true → HasCount d name n
count_means d name n has h = (has, grind (arith, nat_tests))

pub positive_means : (d : Data) (name : List ℕ) (n : ℕ) → json.get name d ≡ Some (count_value n) → version_fits n ≡ true → HasPositive d name n
positive_means d name n has h =
    let p = and_parts (nat_le 1 n) _ h in
    let low = p.0 in
    (count_means d name n has p.1, grind (arith, nat_tests))

-- the text of that name, where there is one
abbrev pub HasNamed : List ℕ → Option Name → Data → Type 0
HasNamed name None d = Unit {0}
HasNamed name (Some t) d = HasText d name t

pub name_means : (r : Repository) (d : Data) (name : List ℕ) (o : Option Name) → name_fits r o ≡ true → is_named o ≡ true → HasNamed name o d → HasName r d name o
name_means Director d name (Some t) fits h has = (has, h)
name_means Director d name None fits h has = cc
name_means Image d name (Some t) fits h has = cc
name_means Image d name None fits h has = tt

pub sha256_means : (d : Data) (hash : List ℕ) (second : Option (List ℕ)) → json.get (codes "hashes") d ≡ Some (hashes_value hash second) → is_hash hash ≡ true → HasSha256 d hash
unfolding spelled_hash
sha256_means d hash second has h =
    let p = and_parts (length hash == 32) _ h in
    let whole = p.0 in
    let size : length hash ≡ 32 = grind (arith, nat_tests) in
    record {
      hashes = hashes_value hash second;
      has_hashes = (_, has, refl);
      spelled = spelled_hash 32 (hashes_value hash second) (codes "sha256") hash (first_hash hash second) size p.1;
      lower = all-hex is_lower_digit refl hash p.1;
    }

pub sha512_means : (d : Data) (first : List ℕ) (o : Option (List ℕ)) → json.get (codes "hashes") d ≡ Some (hashes_value first o) → is_second_hash o ≡ true → MeansIfAny (HasSha512 d) o
unfolding spelled_hash
sha512_means d first None has h = λ hash m.
    let members = m.has_hashes.0 in
    let one : Some (hashes_value first None) ≡ Some (object members) = sym has ∙ m.has_hashes.1 in
    let same : hashes_value first None ≡ object members = cc in
    let none : None ≡ json.get (codes "sha512") m.hashes = ap (json.get (codes "sha512")) (same ∙ sym m.has_hashes.2) in
    let there = m.spelled.has_digits in
    cc
sha512_means d first (Some hash) has h =
    let p = and_parts (length hash == 64) _ h in
    record {
      hashes = hashes_value first (Some hash);
      has_hashes = (_, has, refl);
      spelled = spelled_hash 64 (hashes_value first (Some hash)) (codes "sha512") hash refl (sha512_size hash h) p.1;
      lower = all-hex is_lower_digit refl hash p.1;
    }

-- ---- what each payload says of itself

pub record HasHead (kind : List ℕ) (r : Repository) (version expires : ℕ) (d : Data) : Type 0 where
  pub kind_is : HasText d (codes "type") kind
  pub repository_is : HasText d (codes "repository") (repository_text r)
  pub version_is : json.get (codes "version") d ≡ Some (count_value version)
  pub expires_is : HasText d (codes "expires") (moment_text expires)

pub head_means : (kind : List ℕ) (d : Data) (r : Repository) (version expires : ℕ) → HasHead kind r version expires d → version_fits version ≡ true → is_moment expires ≡ true → MeansHead kind d r version expires
head_means kind d r version expires has v m = record {
  is_kind = has.kind_is;
  has_repository = has.repository_is;
  has_version = positive_means d (codes "version") version has.version_is v;
  has_expires = has.expires_is;
  in_time = grind (arith, nat_tests);
}

-- ---- lists

-- each item that was written means what it was written of
pub each_means : {A : Type 0} (M : Data → A → Type 0) (f : A → Data) (p : A → Bool) → ((x : A) → p x ≡ true → M (f x) x) → (xs : List A) → list_all p xs ≡ true → EachMeans M (items_of (map f xs)) xs
each_means M f p one [] h = tt
each_means M f p one (x ∷ xs) h = let q = and_parts (p x) _ h in (one x q.0, each_means M f p one xs q.1)

-- and is read as that
pub each_made : {A B : Type 0} (step : B → Result A Refusal) (f : A → B) (p : A → Bool) → ((x : A) → p x ≡ true → step (f x) ≡ Ok x)
    → (xs : List A) → list_all p xs ≡ true → each step (map f xs) ≡ Ok xs
unfolding each
each_made step f p one [] h = refl
each_made step f p one (x ∷ xs) h = let q = and_parts (p x) _ h in bind-ok _ _ x (one x q.0) ∙ bind-ok _ _ xs (each_made step f p one xs q.1)

pub all_both : {A : Type 0} (p q : A → Bool) (xs : List A) → list_all p xs ≡ true → list_all q xs ≡ true → list_all (λ x. p x && q x) xs ≡ true
all_both p q [] h k = refl
all_both p q (x ∷ xs) h k =
    let a = and_parts (p x) _ h in
    let b = and_parts (q x) _ k in
    both _ _ (both _ _ a.0 b.0) (all_both p q xs a.1 b.1)
