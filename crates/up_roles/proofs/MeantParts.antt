-- What is read of parts of a payload is what they mean.
use Rattle.std.proofs.Common.{◌≡◌, ℕ, ◌*◌, List, Bool, true, false, Option, Some, None, Ok, Err, length, refl, ap, sym, subst, ◌∙◌, arith}
use Rattle.std.specs.Prelude.{codes, bytes_eq, nat_le, if◌then◌else◌}
use Rattle.std.specs.List.{list_all}
use Rattle.std.specs.Cmp.Lexicographic.{bytes_decides}
use Rattle.std.proofs.lemmas.Bool.Decides.{nat_tests}
use Rattle.hex.specs.Hex.{decode_sized}
use Rattle.hex.proofs.HexLemmas.{decode_sized-ok, decode_sized-twice}
use Rattle.serde_json.specs.Data.{unsigned, Data, number, string, array, object, Items}
use Rattle.serde_json.specs.Find as json
use Rattle.up_canon.specs.Canon.{max_count}
use Rattle.up_canon.specs.HexText.{is_lower_digit}
use Rattle.up_canon.specs.Meaning.{HasText, HasCount, HasObject, MeansIfAny}
use Rattle.up_canon.specs.Members.{items_list, text_of, count_of, list_of, object_of}
use Rattle.up_canon.specs.Moments.{moment_text, MomentsAreRead, OnlyTextsAreRead}
use Rattle.up_canon.specs.Names.{Name, is_from_to, is_ident, is_file_name}
use Rattle.up_canon.specs.Readers.{ident_of, file_name_of, fitting}
use Rattle.up_canon.specs.Steps.{◌>>=◌, or_error, value_of}
use Rattle.up_canon.specs.declared.refusal.Refusal.{Refusal}
use Rattle.up_canon.specs.declared.refusal.Refusal.TheVariants.{BadShape}
use Rattle.up_canon.proofs.Faults.{Fails, AllowsShapes, then_fails, ok_fails, or_error_fails, fitting_fails, self_fails, text_fails, word_fails, positive_fails, ident_fails}
use Rattle.up_canon.proofs.Members.{is_text, is_number, is_list, is_some_object, text_read, text_there, ident_read, ident_there, word_read, word_there, positive_read, positive_there, fits_read, fits_there, if_any_read, if_any_there}
use Rattle.up_canon.proofs.Steps.{first_ok, bind-ok, same_ok, or_error_ok, value_of_some}
use Rattle.up_roles.specs.Meaning.{HasPositive, HasName, HasHash, HasSha256, HasSha512, MeansHead}
use Rattle.up_roles.specs.Parts.{part_in, object_part, few_part, text_part, count_part, positive_part, ident_part, file_name_part, digits_part, hash_part, sha256_part, sha512_part}
use Rattle.up_roles.specs.Payload.{repository_text, repository_of, repository_in, expires_in, head_in, vehicle_in}
use Rattle.up_roles.specs.declared.payload.Head.{Head}
use Rattle.up_roles.specs.declared.repository.Repository.{Repository}
use Rattle.up_roles.specs.declared.repository.Repository.TheVariants.{Director, Image}

-- what is known of moments
pub record Moments : Type 0 where
  pub read : MomentsAreRead
  pub only : OnlyTextsAreRead

-- ---- parts of a member

pub text_part_read : (fault name : List ℕ) (d : Data) (t : Name) → text_part fault name d ≡ Ok t → HasText d name t
unfolding text_part part_in text_of
text_part_read fault name d t h = first_ok _ _ _ _ h (λ v has h. or_error_ok _ _ v has ∙ ap Some (is_text v t (or_error_ok _ _ t h)))

pub text_part_there : (fault name : List ℕ) (d : Data) (t : Name) → HasText d name t → text_part fault name d ≡ Ok t
unfolding text_part part_in text_of
text_part_there fault name d t has = bind-ok _ _ (string t) (ap (or_error (BadShape fault)) has)

pub count_part_read : (fault name : List ℕ) (d : Data) (n : ℕ) → count_part fault name d ≡ Ok n → HasCount d name n
unfolding count_part part_in count_of
count_part_read fault name d n h = first_ok _ _ _ _ h (λ v has h. let p = is_number v n (or_error_ok _ _ n h) in (or_error_ok _ _ v has ∙ ap Some p.0, p.1))

pub count_part_there : (fault name : List ℕ) (d : Data) (n : ℕ) → HasCount d name n → count_part fault name d ≡ Ok n
unfolding count_part part_in count_of
count_part_there fault name d n has =
    let small = has.1 in
    let test : nat_le n max_count ≡ true = grind (arith, nat_tests) in
    bind-ok _ _ (number (unsigned n)) (ap (or_error (BadShape fault)) has.0) ∙ rw test refl

pub positive_part_read : (fault name : List ℕ) (d : Data) (n : ℕ) → positive_part fault name d ≡ Ok n → HasPositive d name n
unfolding positive_part
positive_part_read fault name d n h = first_ok _ _ _ _ h (λ m has h.
    let p = fits_read (nat_le 1) fault m n h in
    let test = p.0 in
    (subst (HasCount d name) p.1 (count_part_read fault name d m has), grind (arith, nat_tests)))

pub positive_part_there : (fault name : List ℕ) (d : Data) (n : ℕ) → HasPositive d name n → positive_part fault name d ≡ Ok n
unfolding positive_part
positive_part_there fault name d n has =
    let low = has.1 in
    let test : nat_le 1 n ≡ true = grind (arith, nat_tests) in
    bind-ok _ _ n (count_part_there fault name d n has.0) ∙ fits_there (nat_le 1) fault n test

pub object_part_read : (fault name : List ℕ) (d o : Data) → object_part fault name d ≡ Ok o → HasObject d name o
unfolding object_part part_in object_of
object_part_read fault name d o h = first_ok _ _ _ _ h (λ v has h. let p = is_some_object v o (or_error_ok _ _ o h) in (p.0, or_error_ok _ _ v has ∙ ap Some p.1, p.2))

pub object_part_there : (fault name : List ℕ) (d o : Data) → HasObject d name o → object_part fault name d ≡ Ok o
unfolding object_part part_in object_of
object_part_there fault name d o has = bind-ok _ _ (object has.0) (ap (or_error (BadShape fault)) has.1) ∙ ap Ok (sym has.2)

-- a text that passes a test
named_part_read : (fits : List ℕ → Bool) (fault name : List ℕ) (d : Data) (t : Name) → (part_in fault name d >>= λ v. text_of fault v >>= λ s. fitting fits fault s) ≡ Ok t → HasText d name t × (fits t ≡ true)
unfolding part_in text_of
named_part_read fits fault name d t h = first_ok _ _ _ _ h (λ v has h. first_ok _ _ _ _ h (λ s is h.
    let p = fits_read fits fault s t h in
    (subst (HasText d name) p.1 (or_error_ok _ _ v has ∙ ap Some (is_text v s (or_error_ok _ _ s is))), p.0)))

named_part_there : (fits : List ℕ → Bool) (fault name : List ℕ) (d : Data) (t : Name) → HasText d name t → fits t ≡ true → (part_in fault name d >>= λ v. text_of fault v >>= λ s. fitting fits fault s) ≡ Ok t
unfolding part_in text_of
named_part_there fits fault name d t has ok = bind-ok _ _ (string t) (ap (or_error (BadShape fault)) has) ∙ bind-ok _ _ t refl ∙ fits_there fits fault t ok

pub ident_part_read : (fault name : List ℕ) (d : Data) (t : Name) → ident_part fault name d ≡ Ok t → HasText d name t × (is_ident t ≡ true)
unfolding ident_part ident_of
ident_part_read = named_part_read is_ident

pub file_name_part_read : (fault name : List ℕ) (d : Data) (t : Name) → file_name_part fault name d ≡ Ok t → HasText d name t × (is_file_name t ≡ true)
unfolding file_name_part file_name_of
file_name_part_read = named_part_read is_file_name

pub ident_part_there : (fault name : List ℕ) (d : Data) (t : Name) → HasText d name t → is_ident t ≡ true → ident_part fault name d ≡ Ok t
unfolding ident_part ident_of
ident_part_there = named_part_there is_ident

pub file_name_part_there : (fault name : List ℕ) (d : Data) (t : Name) → HasText d name t → is_file_name t ≡ true → file_name_part fault name d ≡ Ok t
unfolding file_name_part file_name_of
file_name_part_there = named_part_there is_file_name

pub few_part_read : (least most : ℕ) (fault name : List ℕ) (d : Data) (ds : List Data) → few_part least most fault name d ≡ Ok ds
    → (items : Items) × (json.get name d ≡ Some (array items)) × (items_list items ≡ ds) × (is_from_to least most (length ds) ≡ true)
unfolding few_part part_in list_of
few_part_read least most fault name d ds h = first_ok _ _ _ _ h (λ v has h. first_ok _ _ _ _ h (λ es is h.
    let p = fits_read (λ vs. is_from_to least most (length vs)) fault es ds h in
    let l = is_list v es (or_error_ok _ _ es is) in
    (l.0, or_error_ok _ _ v has ∙ ap Some l.1, l.2 ∙ p.1, p.0)))

pub few_part_there : (least most : ℕ) (fault name : List ℕ) (d : Data) (items : Items) → json.get name d ≡ Some (array items)
    → is_from_to least most (length (items_list items)) ≡ true → few_part least most fault name d ≡ Ok (items_list items)
unfolding few_part part_in list_of
few_part_there least most fault name d items has few =
    bind-ok _ _ (array items) (ap (or_error (BadShape fault)) has)
    ∙ bind-ok _ _ (items_list items) refl
    ∙ fits_there (λ vs. is_from_to least most (length vs)) fault (items_list items) few

hash_part_read : (size : ℕ) (fault name : List ℕ) (d : Data) (hash : List ℕ) → hash_part size fault name d ≡ Ok hash → HasHash (2 * size) name d hash
unfolding hash_part digits_part
hash_part_read size fault name d hash h = first_ok _ _ _ _ h (λ digits a h. first_ok _ _ _ _ a (λ hashes b a. first_ok _ _ _ _ a (λ given c a.
    let p = fits_read (list_all is_lower_digit) fault given digits a in
    let decoded = value_of_some (decode_sized digits size) hash (or_error_ok _ _ hash h) in
    let whole = decode_sized-ok digits size hash decoded in
    record {
      hashes = hashes;
      has_hashes = object_part_read fault (codes "hashes") d hashes b;
      spelled = record {
        digits = digits;
        has_digits = subst (HasText hashes name) p.1 (text_part_read fault name hashes given c);
        at_least = omega arith;
        at_most = omega arith;
        decoded = sym (decode_sized-twice digits size whole) ∙ decoded;
      };
      lower = p.0;
    })))

hash_part_there : (size : ℕ) (fault name : List ℕ) (d : Data) (hash : List ℕ) → HasHash (2 * size) name d hash → hash_part size fault name d ≡ Ok hash
unfolding hash_part digits_part
hash_part_there size fault name d hash h =
    let low = h.spelled.at_least in
    let high = h.spelled.at_most in
    bind-ok _ _ h.spelled.digits (
    bind-ok _ _ h.hashes (object_part_there fault (codes "hashes") d h.hashes h.has_hashes)
    ∙ bind-ok _ _ h.spelled.digits (text_part_there fault name h.hashes h.spelled.digits h.spelled.has_digits)
    ∙ fits_there (list_all is_lower_digit) fault h.spelled.digits h.lower)
    ∙ ap (λ r. or_error (BadShape fault) (value_of r)) (decode_sized-twice h.spelled.digits size (omega arith) ∙ h.spelled.decoded)

pub sha256_part_read : (fault : List ℕ) (d : Data) (hash : List ℕ) → sha256_part fault d ≡ Ok hash → HasSha256 d hash
sha256_part_read fault = hash_part_read 32 fault (codes "sha256")

pub sha256_part_there : (fault : List ℕ) (d : Data) (hash : List ℕ) → HasSha256 d hash → sha256_part fault d ≡ Ok hash
sha256_part_there fault = hash_part_there 32 fault (codes "sha256")

pub sha512_part_read : (d : Data) → MeansIfAny (HasSha512 d) (sha512_part d)
sha512_part_read d =
    if_any_read (HasSha512 d) (hash_part 64 (codes "hashes") (codes "sha512") d) (hash_part_read 64 (codes "hashes") (codes "sha512") d) (hash_part_there 64 (codes "hashes") (codes "sha512") d)

pub sha512_part_there : (d : Data) (hash : Option (List ℕ)) → MeansIfAny (HasSha512 d) hash → sha512_part d ≡ hash
sha512_part_there d hash =
    if_any_there (HasSha512 d) (hash_part 64 (codes "hashes") (codes "sha512") d) hash (hash_part_read 64 (codes "hashes") (codes "sha512") d) (hash_part_there 64 (codes "hashes") (codes "sha512") d)

-- ---- their faults

module _ {F : Refusal → Type 0} (law : AllowsShapes F) where
  part_fails : (fault name : List ℕ) (d : Data) → Fails F (part_in fault name d)
  unfolding part_in
  part_fails fault name d = or_error_fails (BadShape fault) _ (law.shape fault)

  pub object_part_fails : (fault name : List ℕ) (d : Data) → Fails F (object_part fault name d)
  unfolding object_part
  object_part_fails fault name d = then_fails _ _ (part_fails fault name d) (λ v. self_fails law fault v)

  pub few_part_fails : (least most : ℕ) (fault name : List ℕ) (d : Data) → Fails F (few_part least most fault name d)
  unfolding few_part list_of
  few_part_fails least most fault name d =
      then_fails _ _ (part_fails fault name d) (λ v. then_fails _ _ (or_error_fails (BadShape fault) _ (law.shape fault)) (λ vs. fitting_fails law (λ ds. is_from_to least most (length ds)) fault vs))

  pub text_part_fails : (fault name : List ℕ) (d : Data) → Fails F (text_part fault name d)
  unfolding text_part text_of
  text_part_fails fault name d = then_fails _ _ (part_fails fault name d) (λ v. or_error_fails (BadShape fault) _ (law.shape fault))

  pub count_part_fails : (fault name : List ℕ) (d : Data) → Fails F (count_part fault name d)
  unfolding count_part count_of
  count_part_fails fault name d = then_fails _ _ (part_fails fault name d) (λ v. or_error_fails (BadShape fault) _ (law.shape fault))

  pub positive_part_fails : (fault name : List ℕ) (d : Data) → Fails F (positive_part fault name d)
  unfolding positive_part
  positive_part_fails fault name d = then_fails _ _ (count_part_fails fault name d) (λ n. fitting_fails law (nat_le 1) fault n)

  pub ident_of_fails : (fault : List ℕ) (d : Data) → Fails F (ident_of fault d)
  unfolding ident_of text_of
  ident_of_fails fault d = then_fails _ _ (or_error_fails (BadShape fault) _ (law.shape fault)) (λ t. fitting_fails law is_ident fault t)

  pub ident_part_fails : (fault name : List ℕ) (d : Data) → Fails F (ident_part fault name d)
  unfolding ident_part
  ident_part_fails fault name d = then_fails _ _ (part_fails fault name d) (λ v. ident_of_fails fault v)

  pub file_name_part_fails : (fault name : List ℕ) (d : Data) → Fails F (file_name_part fault name d)
  unfolding file_name_part file_name_of text_of
  file_name_part_fails fault name d =
      then_fails _ _ (part_fails fault name d) (λ v. then_fails _ _ (or_error_fails (BadShape fault) _ (law.shape fault)) (λ t. fitting_fails law is_file_name fault t))

  pub sha256_part_fails : (fault : List ℕ) (d : Data) → Fails F (sha256_part fault d)
  unfolding hash_part digits_part
  sha256_part_fails fault d =
      then_fails _ _ (
      then_fails _ _ (object_part_fails fault (codes "hashes") d) (λ hashes.
      then_fails _ _ (text_part_fails fault (codes "sha256") hashes) (λ digits. fitting_fails law (list_all is_lower_digit) fault digits))) (λ digits.
      or_error_fails (BadShape fault) _ (law.shape fault))

-- ---- what each payload says of itself

repository_read : (t : List ℕ) (r : Repository) → repository_of t ≡ Ok r → t ≡ repository_text r
repository_read t r h = by_tests (bytes_eq t (codes "director")) (bytes_eq t (codes "image")) refl refl h
  where
    by_tests : (a b : Bool) → bytes_eq t (codes "director") ≡ a → bytes_eq t (codes "image") ≡ b
        → (if a then Ok Director else if b then Ok Image else Err (BadShape (codes "repository"))) ≡ Ok r → t ≡ repository_text r
    by_tests true b e f h = (bytes_decides t (codes "director")).0 e ∙ ap repository_text (same_ok Director r h)
    by_tests false true e f h = (bytes_decides t (codes "image")).0 f ∙ ap repository_text (same_ok Image r h)
    by_tests false false e f h = cc

repository_there : (r : Repository) → repository_of (repository_text r) ≡ Ok r
repository_there Director = refl
repository_there Image = refl

-- a head, and what it is a head of
abbrev pub MeansThisHead : List ℕ → Data → Head → Type 0
MeansThisHead kind d head = MeansHead kind d head.repository head.version head.expires

pub head_read : Moments → (kind : List ℕ) (d : Data) (head : Head) → head_in kind d ≡ Ok head → MeansThisHead kind d head
unfolding head_in repository_in expires_in
head_read moments kind d head h =
    first_ok _ _ _ _ h (λ x a h. first_ok _ _ _ _ h (λ repository b h. first_ok _ _ _ _ h (λ version c h. first_ok _ _ _ _ h (λ expires e h.
    first_ok _ _ _ _ b (λ name f b. first_ok _ _ _ _ e (λ moment g e.
    let known = moments.only moment expires (or_error_ok _ _ expires e) in
    subst (MeansThisHead kind d) (same_ok _ _ h) (record {
      is_kind = word_read kind (codes "type") d a;
      has_repository = text_read (codes "repository") d name f ∙ ap (λ t. Some (string t)) (repository_read name repository b);
      has_version = positive_read (codes "version") d version c;
      has_expires = text_read (codes "expires") d moment g ∙ ap (λ t. Some (string t)) known.1;
      in_time = known.0;
    })))))))

pub head_there : Moments → (kind : List ℕ) (d : Data) (repository : Repository) (version expires : ℕ) → MeansHead kind d repository version expires
    → head_in kind d ≡ Ok (record { repository = repository; version = version; expires = expires })
unfolding head_in repository_in expires_in
head_there moments kind d repository version expires h =
    bind-ok _ _ tt (word_there kind (codes "type") d h.is_kind)
    ∙ bind-ok _ _ repository (bind-ok _ _ (repository_text repository) (text_there (codes "repository") d (repository_text repository) h.has_repository) ∙ repository_there repository)
    ∙ bind-ok _ _ version (positive_there (codes "version") d version h.has_version.0 h.has_version.1)
    ∙ bind-ok _ _ expires (
    bind-ok _ _ (moment_text expires) (text_there (codes "expires") d (moment_text expires) h.has_expires)
    ∙ ap (or_error (BadShape (codes "expires"))) (moments.read expires h.in_time))

pub vehicle_read : (r : Repository) (d : Data) (vehicle : Option Name) → vehicle_in r d ≡ Ok vehicle → HasName r d (codes "vehicle") vehicle
unfolding vehicle_in
vehicle_read Director d vehicle h = first_ok _ _ _ _ h (λ t there h. subst (HasName Director d (codes "vehicle")) (same_ok _ _ h) (ident_read (codes "vehicle") d t there))
vehicle_read Image d vehicle h = subst (HasName Image d (codes "vehicle")) (same_ok _ _ h) tt

pub vehicle_there : (r : Repository) (d : Data) (vehicle : Option Name) → HasName r d (codes "vehicle") vehicle → vehicle_in r d ≡ Ok vehicle
unfolding vehicle_in
vehicle_there Director d (Some t) has = bind-ok _ _ t (ident_there (codes "vehicle") d t has.0 has.1)
vehicle_there Director d None has = absurd has
vehicle_there Image d (Some t) has = absurd has
vehicle_there Image d None has = refl

module _ {F : Refusal → Type 0} (law : AllowsShapes F) where
  repository_fails : (t : List ℕ) → Fails F (repository_of t)
  repository_fails t = by_tests (bytes_eq t (codes "director")) (bytes_eq t (codes "image"))
    where
      by_tests : (a b : Bool) → Fails F (if a then Ok Director else if b then Ok Image else Err (BadShape (codes "repository")))
      by_tests true b = ok_fails Director
      by_tests false true = ok_fails Image
      by_tests false false = record { allowed = λ e h. let same : BadShape (codes "repository") ≡ e = cc in subst F same (law.shape (codes "repository")) }

  pub head_fails : (kind : List ℕ) (d : Data) → Fails F (head_in kind d)
  unfolding head_in repository_in expires_in
  head_fails kind d =
      then_fails _ _ (word_fails law kind (codes "type") d) (λ a.
      then_fails _ _ (then_fails _ _ (text_fails law (codes "repository") d) repository_fails) (λ repository.
      then_fails _ _ (positive_fails law (codes "version") d) (λ version.
      then_fails _ _ (then_fails _ _ (text_fails law (codes "expires") d) (λ t. or_error_fails (BadShape (codes "expires")) _ (law.shape (codes "expires")))) (λ expires.
      ok_fails _))))

  pub vehicle_fails : (r : Repository) (d : Data) → Fails F (vehicle_in r d)
  unfolding vehicle_in
  vehicle_fails Director d = then_fails _ _ (ident_fails law (codes "vehicle") d) (λ t. ok_fails (Some t))
  vehicle_fails Image d = ok_fails None
