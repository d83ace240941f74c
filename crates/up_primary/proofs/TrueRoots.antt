-- Who trusts a Root of the machine's, and follows others from there, trusts one of the machine's again, whatever bytes came.
use Rattle.std.proofs.Common.{◌≡◌, ℕ, ◌+◌, ◌≤◌, List, [], ◌∷◌, Bool, true, false, Option, Some, None, Result, Ok, Err, refl, sym, ap, ◌∙◌, subst, arith}
use Rattle.std.specs.List.{AllByRecursion}
use Rattle.std.specs.Prelude.{if◌then◌else◌, nat_lt}
use Rattle.std.proofs.lemmas.Bool.{eqb-true}
use Rattle.up_canon.specs.declared.refusal.Refusal.{Refusal}
use Rattle.up_canon.proofs.Steps.{first_ok, same_ok, unless_ok}
use Rattle.up_sign.specs.Schemes.{IsScheme}
use Rattle.up_sign.specs.declared.envelope.Envelope.{Envelope}
use Rattle.up_roles.specs.declared.repository.Repository.{Repository}
use Rattle.up_roles.specs.declared.repository.Repository.TheVariants.{Director, Image}
use Rattle.up_roles.specs.declared.root.RootFile.{RootFile}
use Rattle.up_roles.specs.Meaning.{MeansRoot}
use Rattle.up_roles.specs.Root.{root_in}
use Rattle.up_metadata.specs.Files.{root_file}
use Rattle.up_machine.specs.State.{empty_state}
use Rattle.up_machine.specs.Machine.{Timed, run}
use Rattle.up_machine.specs.Made.{roots_of}
use Rattle.up_verify.specs.declared.refused.Fault.{Fault}
use Rattle.up_verify.specs.declared.refused.Role.{Role}
use Rattle.up_verify.specs.declared.trust.Trust.{Trust}
use Rattle.up_verify.specs.Verifiers.{Verifier, is_signed_for}
use Rattle.up_verify.specs.declared.roots.Followed.{Followed}
use Rattle.up_verify.specs.Roots.{same_repository, or_unread, if_next, next_root, with_root, go_on, follow, unless_expired, latest}
use Rattle.up_verify.specs.Files.{of_file}
use Rattle.up_primary.specs.Following.{FollowsRoot, KeysAgree}
use Rattle.up_primary.specs.Forging.{IsUnforged, AreSafeFrom}
use Rattle.up_primary.specs.Laws.{AreGiven}
use Rattle.up_primary.proofs.Honest.{of_root, machine_signed}
use Rattle.up_primary.proofs.Runs.{Keeping, still_there, on_the_way}
use Rattle.up_primary.proofs.Meant.{enveloped}
use Rattle.up_primary.proofs.SignedTexts.{Formats, root_from}

-- ---- what passed

pub unread_ok : {F : Type 0} (r : Result (F × Envelope) Refusal) (p : F × Envelope) → or_unread r ≡ Ok p → r ≡ Ok p
unread_ok (Ok q) p h = let same : q ≡ p = same_ok q p h in ap Ok same
unread_ok (Err e) p h = cc

pub same_one : (a b : Repository) → same_repository a b ≡ true → a ≡ b
same_one Director Director h = refl
same_one Image Image h = refl
same_one Director Image h = cc
same_one Image Director h = cc

pub of_file_ok : {A : Type 0} (repository : Repository) (role : Role) (r : Result A Fault) (x : A) → of_file repository role r ≡ Ok x → r ≡ Ok x
of_file_ok repository role (Ok y) x h = let same : y ≡ x = same_ok y x h in ap Ok same
of_file_ok repository role (Err fault) x h = cc

latest_parts : (now : ℕ) (t x : Trust) (fault : Option Fault) → unless_expired now t fault ≡ Ok x → t ≡ x
latest_parts now t x (Some fault) h = cc
latest_parts now t x None h = by_test (nat_lt now t.root.expires) h
  where
    by_test : (b : Bool) → ◌≡◌ {A = Result Trust Fault} (if b then Ok t else Err Rattle.up_verify.specs.declared.refused.Fault.TheVariants.Expired) (Ok x) → t ≡ x
    by_test true h = same_ok _ _ h
    by_test false h = cc

pub latest_ok : (now : ℕ) (f : Followed) (x : Trust) → latest now f ≡ Ok x → f.trust ≡ x
latest_ok now f x h = latest_parts now f.trust x f.fault h

-- ---- one Root

pub record IsNext (v : Verifier) (repository : Repository) (before : RootFile) (bytes : List ℕ) (file : RootFile) : Type 0 where
  pub envelope : Envelope
  pub read : root_in bytes ≡ Ok (file, envelope)
  pub of_repository : file.repository ≡ repository
  pub number : file.version ≡ before.version + 1
  pub signed : is_signed_for v before.root envelope ≡ true

next_parts : (v : Verifier) (repository : Repository) (before : RootFile) (bytes : List ℕ) (file : RootFile) → next_root v repository before bytes ≡ Ok file → IsNext v repository before bytes file
unfolding next_root if_next
next_parts v repository before bytes file h = first_ok _ _ _ _ h (λ read is h. first_ok _ _ _ _ h (λ a other h. first_ok _ _ _ _ h (λ b number h. first_ok _ _ _ _ h (λ c known h. first_ok _ _ _ _ h (λ d signed h. first_ok _ _ _ _ h (λ f own h.
    subst (λ (file : RootFile). IsNext v repository before bytes file) (same_ok _ _ h) (record {
      envelope = read.1;
      read = unread_ok (root_in bytes) read is;
      of_repository = same_one read.0.repository repository (unless_ok _ _ a other);
      number = eqb-true read.0.version (before.version + 1) (unless_ok _ _ b number);
      signed = unless_ok _ _ d signed;
    })))))))

-- ---- the machine's

-- what a run is given, and which keys are safe
pub record Safe (v : Verifier) (ts : List Timed) (repository : Repository) (stolen : List ℕ → Bool) (n : ℕ) : Type 0 where
  pub formats : Formats
  pub keeping : Keeping
  pub scheme : IsScheme v.rules
  pub given : AreGiven ts
  pub agree : KeysAgree v.rules (roots_of v.rules empty_state ts)
  pub safe : AreSafeFrom v.rules (roots_of v.rules empty_state ts) repository stolen n

true_next : (v : Verifier) (ts : List Timed) (repository : Repository) (stolen : List ℕ → Bool) (n : ℕ) → Safe v ts repository stolen n → (t : Trust) (bytes : List ℕ) (file : RootFile) → IsUnforged v.rules ts stolen bytes
    → n ≤ t.root.version → FollowsRoot v.rules (roots_of v.rules empty_state ts) repository t → IsNext v repository t.root bytes file → FollowsRoot v.rules (roots_of v.rules empty_state ts) repository (with_root t file)
true_next v ts repository stolen n given t bytes file unforged from f is =
    let before = root_file v.rules repository t.root.version f.root in
    let signed : is_signed_for v before.root is.envelope ≡ true = ap (λ (r : RootFile). is_signed_for v r.root is.envelope) (sym f.is) ∙ is.signed in
    let was = machine_signed v ts stolen bytes unforged repository t.root.version f.root f.there before.root (of_root before) (given.safe t.root.version f.root from f.there).0 is.envelope
    (enveloped MeansRoot root_in given.formats.meaning.root bytes file is.envelope is.read) signed in
    let way = on_the_way given.keeping v.rules ts was.0 was.1 given.scheme given.given given.agree was.2 in
    let made = root_from given.formats v.rules (run v.rules empty_state was.0) (roots_of v.rules empty_state was.0) way.facts bytes file is.envelope is.read was.3 in
    record {
      root = made.root;
      there = still_there (roots_of v.rules empty_state ts) (roots_of v.rules empty_state was.0) way.more way.grown file.version made.root made.there;
      is = made.is ∙ ap (λ r. root_file v.rules r file.version made.root) is.of_repository;
    }

pub true_roots : (v : Verifier) (ts : List Timed) (repository : Repository) (stolen : List ℕ → Bool) (n : ℕ) → Safe v ts repository stolen n → (newer : List (List ℕ)) (t : Trust) → AllByRecursion (IsUnforged v.rules ts stolen) newer
    → n ≤ t.root.version → FollowsRoot v.rules (roots_of v.rules empty_state ts) repository t
    → FollowsRoot v.rules (roots_of v.rules empty_state ts) repository (follow v repository t newer).trust × (n ≤ (follow v repository t newer).trust.root.version)
true_roots v ts repository stolen n given [] t unforged from f = (f, from)
true_roots v ts repository stolen n given (bytes ∷ more) t unforged from f = by_next (next_root v repository t.root bytes) refl (λ t from f. true_roots v ts repository stolen n given more t unforged.1 from f)
  where
    by_next : (r : Result RootFile Fault) → next_root v repository t.root bytes ≡ r
        → ((t : Trust) → n ≤ t.root.version → FollowsRoot v.rules (roots_of v.rules empty_state ts) repository t
        → FollowsRoot v.rules (roots_of v.rules empty_state ts) repository (follow v repository t more).trust × (n ≤ (follow v repository t more).trust.root.version))
        → FollowsRoot v.rules (roots_of v.rules empty_state ts) repository (go_on t r (λ root. follow v repository (with_root t root) more)).trust
        × (n ≤ (go_on t r (λ root. follow v repository (with_root t root) more)).trust.root.version)
    by_next (Err fault) h further = (f, from)
    by_next (Ok file) h further =
        let is = next_parts v repository t.root bytes file h in
        let number = is.number in
        further (with_root t file) (omega (arith, from, number)) (true_next v ts repository stolen n given t bytes file unforged.0 from f is)
