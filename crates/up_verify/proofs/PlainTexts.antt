-- Lists and members that are read one after another: the pieces in front of the rest are the whole text in front of it.
use Rattle.std.proofs.Common.{◌≡◌, ℕ, List, [], ◌∷◌, ◌++◌, Bool, true, map, Option, None, refl, sym, ap, ◌∙◌, append_assoc}
use Rattle.std.specs.Prelude.{codes, decimal}
use Rattle.std.specs.List.{list_all, join_with_byte}
use Rattle.std.proofs.lemmas.List.Folds.{list_all-append}
use Rattle.serde_json.specs.Data.{Data, string}
use Rattle.up_canon.specs.Build.{list_with, hashes_value}
use Rattle.up_canon.specs.Canon.{json_string, text}
use Rattle.up_canon.specs.Moments.{moment_text}
use Rattle.up_canon.specs.Names.{Name}
use Rattle.up_canon.proofs.Joined.{separator_after, listed_text}
use Rattle.up_canon.proofs.Printable.{both}
use Rattle.up_manifest.proofs.PlainReports.{after-push}
use Rattle.up_roles.specs.Targets.{target_value, targets_payload}
use Rattle.up_roles.specs.declared.repository.Repository.TheVariants.{Image}
use Rattle.up_roles.specs.declared.targets.Target.{Target}
use Rattle.up_roles.specs.declared.targets.TargetsFile.{TargetsFile}

-- ---- lists

joined-push : {X : Type 0} → (f : X → List ℕ) (xs : List X) (x : X) → join_with_byte 44 (map f (xs ++ x ∷ [])) ≡ join_with_byte 44 (map f xs) ++ (separator_after xs ++ f x)
joined-push f [] x = refl
joined-push f (y ∷ []) x = refl
joined-push f (y ∷ z ∷ xs) x = ap (λ t. f y ++ 44 ∷ t) (joined-push f (z ∷ xs) x) ∙ sym (append_assoc (f y) (44 ∷ join_with_byte 44 (map f (z ∷ xs))) (44 ∷ f x))

-- the texts of the items, with commas between
abbrev pub listed : {X : Type 0} → (X → Data) → List X → List ℕ
listed f xs = join_with_byte 44 (map (λ x. text (f x)) xs)

module _ {X : Type 0} (xs ys : List X) (x : X) (more : ys ≡ xs ++ x ∷ []) where
  -- the items so far, and one more behind its separator
  pub items-push : (f : X → Data) (whole front rest : List ℕ) → whole ≡ 91 ∷ (listed f xs ++ front) → front ≡ separator_after xs ++ (text (f x) ++ rest) → whole ≡ 91 ∷ (listed f ys ++ rest)
  items-push f whole front rest so_far next =
      let mark = separator_after xs in
      let item = text (f x) in
      so_far ∙ ap (λ (t : List ℕ). 91 ∷ (listed f xs ++ t)) next
      ∙ ap (λ (t : List ℕ). 91 ∷ t)
      (ap (λ (t : List ℕ). listed f xs ++ t) (sym (append_assoc mark item rest)) ∙ sym (append_assoc (listed f xs) (mark ++ item) rest)
      ∙ ap (λ (t : List ℕ). t ++ rest) (sym (joined-push (λ (y : X). text (f y)) xs x)))
      ∙ ap (λ (zs : List X). 91 ∷ (listed f zs ++ rest)) (sym more)

  pub separator-push : 44 ∷ [] ≡ separator_after ys
  separator-push = after-push xs x ∙ ap (λ (zs : List X). separator_after zs) (sym more)

  pub all-push : (p : X → Bool) → list_all p xs ≡ true → p x ≡ true → list_all p ys ≡ true
  all-push p h k = ap (λ (zs : List X). list_all p zs) more ∙ list_all-append p xs (x ∷ []) ∙ both _ _ h (both _ _ k refl)

-- the closing bracket
pub list-ends : {X : Type 0} → (f : X → Data) (xs ys : List X) (whole front rest : List ℕ) → ys ≡ xs → whole ≡ 91 ∷ (listed f xs ++ front) → front ≡ 93 ∷ rest → whole ≡ text (list_with (map f ys)) ++ rest
list-ends {X} f xs ys whole front rest same so_far ends =
    so_far ∙ ap (λ (t : List ℕ). 91 ∷ (listed f xs ++ t)) ends
    ∙ ap (λ (t : List ℕ). 91 ∷ t) (sym (append_assoc (listed f xs) (93 ∷ []) rest) ∙ ap (λ (t : List ℕ). t ++ rest) (sym (listed_text f xs)))
    ∙ ap (λ (zs : List X). text (list_with (map f zs)) ++ rest) (sym same)

-- ---- members

abbrev spell : List (List ℕ) → List ℕ → List ℕ
spell [] rest = rest
spell (p ∷ ps) rest = p ++ spell ps rest

spell-behind : (ps : List (List ℕ)) (rest : List ℕ) → spell ps rest ≡ spell ps [] ++ rest
spell-behind [] rest = refl
spell-behind (p ∷ ps) rest = ap (λ t. p ++ t) (spell-behind ps rest) ∙ sym (append_assoc p (spell ps []) rest)

abbrev pub image_target : Name → ℕ → List ℕ → Option (List ℕ) → List Name → ℕ → Target
image_target file size sha256 sha512 hardware release = record { ecu = None; file = file; length = size; sha256 = sha256; sha512 = sha512; hardware = hardware; release = release }

pub target-spelled : (file : Name) (size : ℕ) (sha256 : List ℕ) (sha512 : Option (List ℕ)) (hardware : List Name) (release : ℕ) (rest : List ℕ)
    → codes "{\"file\":" ++ (json_string file ++ (codes ",\"hardware\":" ++ (text (list_with (map string hardware)) ++ (codes ",\"hashes\":" ++ (text (hashes_value sha256 sha512)
    ++ (codes ",\"length\":" ++ (decimal size ++ (codes ",\"release\":" ++ (decimal release ++ (codes "}" ++ rest)))))))))) ≡ text (target_value (image_target file size sha256 sha512 hardware release)) ++ rest
target-spelled file size sha256 sha512 hardware release rest =
    spell-behind (codes "{\"file\":" ∷ json_string file ∷ codes ",\"hardware\":" ∷ text (list_with (map string hardware)) ∷ codes ",\"hashes\":" ∷ text (hashes_value sha256 sha512)
    ∷ codes ",\"length\":" ∷ decimal size ∷ codes ",\"release\":" ∷ decimal release ∷ codes "}" ∷ []) rest

abbrev pub image_file : ℕ → ℕ → List Target → TargetsFile
image_file version expires targets = record { repository = Image; version = version; expires = expires; vehicle = None; targets = targets }

pub file-spelled : (version expires : ℕ) (targets : List Target) (rest : List ℕ)
    → codes "{\"expires\":" ++ (json_string (moment_text expires) ++ (codes ",\"repository\":\"image\",\"targets\":" ++ (text (list_with (map target_value targets))
    ++ (codes ",\"type\":\"targets\",\"version\":" ++ (decimal version ++ (codes "}" ++ rest)))))) ≡ text (targets_payload (image_file version expires targets)) ++ rest
unfolding targets_payload
file-spelled version expires targets rest =
    spell-behind (codes "{\"expires\":" ∷ json_string (moment_text expires) ∷ codes ",\"repository\":\"image\",\"targets\":" ∷ text (list_with (map target_value targets))
    ∷ codes ",\"type\":\"targets\",\"version\":" ∷ decimal version ∷ codes "}" ∷ []) rest
