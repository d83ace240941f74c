-- However many Roots came since, each is followed, to the last.
use Rattle.std.proofs.Common.{◌≡◌, ℕ, zero, suc, ◌+◌, ◌-◌, ◌≤◌, List, [], ◌∷◌, Bool, true, false, cond, Some, None, Ok, refl, sym, ap, ◌∙◌, subst, arith, ◌<◌}
use Rattle.std.specs.Prelude.{◌==◌, length, drop, slice_get, option_map}
use Rattle.std.proofs.Math.Seq.{drop-nil}
use Rattle.std.proofs.lemmas.Option.{same_Some, slice_get_within}
use Rattle.up_sign.specs.Schemes.{Rules}
use Rattle.up_roles.specs.declared.repository.Repository.{Repository}
use Rattle.up_roles.specs.declared.root.RootFile.{RootFile}
use Rattle.up_roles.specs.Payload.{largest_file}
use Rattle.up_metadata.specs.Files.{Root, keys_of, root_file, root_text}
use Rattle.up_machine.specs.State.{State, nth, chain_of}
use Rattle.up_machine.specs.Made.{keys_at}
use Rattle.up_machine.proofs.Places.{nth_at_place, nth_there}
use Rattle.up_verify.specs.declared.trust.Trust.{Trust}
use Rattle.up_primary.specs.Following.{AreUpTo}
use Rattle.up_primary.specs.Machine.{roots_behind}
use Rattle.up_verify.specs.declared.roots.Followed.{Followed}
use Rattle.up_verify.specs.Roots.{same_keys, kept_if, same_listing_keys, with_root, next_root, go_on, follow}
use Rattle.up_verify.specs.Verifiers.{Verifier}
use Rattle.up_primary.proofs.NextRoot.{Known, IsRoot, ReadRoles, next_is}

-- ---- lists

first_dropped : {A : Type 0} (xs : List A) (n : ℕ) (x : A) (rest : List A) → drop n xs ≡ x ∷ rest → (slice_get xs n ≡ Some x) × (drop (n + 1) xs ≡ rest)
first_dropped {A = A} [] n x rest h = let none : ◌≡◌ {A = List A} (drop n []) [] = drop-nil n in (cc, cc)
first_dropped (y ∷ xs) zero x rest h = (cc, cc)
first_dropped (y ∷ xs) (suc n) x rest h =
    let more = first_dropped xs n x rest h in
    let later : suc n + 1 ≡ suc (n + 1) = omega arith in
    (more.0, ap (λ m. drop m (y ∷ xs)) later ∙ more.1)

none_dropped : {A : Type 0} (xs : List A) (n : ℕ) → drop n xs ≡ [] → length xs ≤ n
none_dropped [] n h = omega arith
none_dropped (x ∷ xs) zero h = cc
none_dropped (x ∷ xs) (suc n) h = let more = none_dropped xs n h in omega (arith, more)

pub number_within : {A : Type 0} (xs : List A) (i : ℕ) (x : A) → nth xs i ≡ Some x → i ≤ length xs
number_within xs i x h = by_test (i == 0) h
  where
    by_test : (b : Bool) → cond b None (slice_get xs (i - 1)) ≡ Some x → i ≤ length xs
    by_test true h = cc
    by_test false h = let below = slice_get_within xs (i - 1) x h in omega (arith, below)

-- ---- what is trusted

pub kept_up_to : (m : ℕ) (t : Trust) (root : RootFile) → AreUpTo m t.versions → AreUpTo m (with_root t root).versions
kept_up_to m t root are = record {
  timestamp = within (same_listing_keys t.root root) t.versions.timestamp are.timestamp;
  snapshot = within (same_listing_keys t.root root) t.versions.snapshot are.snapshot;
  targets = within (same_keys t.root.targets root.targets) t.versions.targets are.targets;
}
  where
    within : (b : Bool) (n : ℕ) → n ≤ m → kept_if b n ≤ m
    within true n h = h
    within false n h = omega arith

-- ---- all Roots

-- each Root of a repository is one that can be served, whose keys are read, and the repository has its text
pub record ServesRoots (v : Verifier) (s : State) (versions : List Root) (repository : Repository) : Type 0 where
  pub texts : (i : ℕ) (root : Root) → nth versions i ≡ Some root → nth (chain_of repository s).texts i ≡ Some (root_text v.rules repository i root (keys_at versions (i - 1)))
  pub as_many : length (chain_of repository s).texts ≡ length versions
  pub roots : (i : ℕ) (root : Root) → nth versions i ≡ Some root → IsRoot v.rules repository i root
  pub reads : (i : ℕ) (root : Root) → nth versions i ≡ Some root → ReadRoles v (keys_of repository root.keys)
  pub small : (i : ℕ) (root before : Root) → nth versions (i + 1) ≡ Some root → nth versions i ≡ Some before → length (root_text v.rules repository (i + 1) root (Some before.keys)) ≤ largest_file

-- the last Root is trusted, and no version is greater than before
pub record Reached (k : Rules) (versions : List Root) (repository : Repository) (t : Trust) (f : Followed) : Type 0 where
  pub last : Root
  pub there : nth versions (length versions) ≡ Some last
  pub is : f.trust.root ≡ root_file k repository (length versions) last
  pub whole : f.fault ≡ None
  pub keeps : (m : ℕ) → AreUpTo m t.versions → AreUpTo m f.trust.versions

-- the item of this number is there
there_at : {A : Type 0} (xs : List A) (n : ℕ) → n < length xs → (x : A) × (nth xs (n + 1) ≡ Some x)
there_at xs n h = nth_there xs (n + 1) (omega arith) (omega (arith, h))

reach : (v : Verifier) → Known v.rules → (s : State) (versions : List Root) (repository : Repository) → ServesRoots v s versions repository → (rest : List (List ℕ)) (n : ℕ) (t : Trust) (before : Root)
    → drop n (chain_of repository s).texts ≡ rest → nth versions n ≡ Some before → t.root ≡ root_file v.rules repository n before
    → Reached v.rules versions repository t (follow v repository t rest)
reach v known s versions repository serves [] n t before at there is =
    let low = none_dropped (chain_of repository s).texts n at in
    let high = number_within versions n before there in
    let size = serves.as_many in
    let same : n ≡ length versions = omega (arith, low, high, size) in
    record {
      last = before;
      there = ap (nth versions) (sym same) ∙ there;
      is = is ∙ ap (λ m. root_file v.rules repository m before) same;
      whole = refl;
      keeps = λ m are. are;
    }
reach v known s versions repository serves (text ∷ rest) n t before at there is =
    let parts = first_dropped (chain_of repository s).texts n text rest at in
    let below = slice_get_within (chain_of repository s).texts n text parts.0 in
    let size = serves.as_many in
    let next = there_at versions n (omega (arith, below, size)) in
    let r : Root = next.0 in
    let own : nth (chain_of repository s).texts (n + 1) ≡ Some text = nth_at_place (chain_of repository s).texts (n + 1) n text (omega arith) parts.0 in
    let of_before : keys_at versions (n + 1 - 1) ≡ Some before.keys = ap (keys_at versions) (omega arith) ∙ ap (option_map (λ (root : Root). root.keys)) there in
    let text_is : text ≡ root_text v.rules repository (n + 1) r (Some before.keys) =
    same_Some text (root_text v.rules repository (n + 1) r (Some before.keys)) (sym own ∙ serves.texts (n + 1) r next.1 ∙ ap (λ b. Some (root_text v.rules repository (n + 1) r b)) of_before) in
    let taken : next_root v repository t.root text ≡ Ok (root_file v.rules repository (n + 1) r) =
    ap (λ b. next_root v repository t.root b) text_is ∙ ap (λ root. next_root v repository root (root_text v.rules repository (n + 1) r (Some before.keys))) is
    ∙ next_is v known repository n r before (serves.roots (n + 1) r next.1) (serves.roots n before there).fits (serves.reads (n + 1) r next.1) (serves.reads n before there)
    (serves.small n r before next.1 there) in
    let t_next = with_root t (root_file v.rules repository (n + 1) r) in
    let further = reach v known s versions repository serves rest (n + 1) t_next r parts.1 next.1 refl in
    subst (λ (f : Followed). Reached v.rules versions repository t f) (sym (ap (λ result. go_on t result (λ root. follow v repository (with_root t root) rest)) taken)) (record {
      last = further.last;
      there = further.there;
      is = further.is;
      whole = further.whole;
      keeps = λ m are. further.keeps m (kept_up_to m t (root_file v.rules repository (n + 1) r) are);
    })

pub roots_reached : (v : Verifier) → Known v.rules → (s : State) (versions : List Root) (repository : Repository) → ServesRoots v s versions repository → (t : Trust) (n : ℕ) (before : Root)
    → nth versions n ≡ Some before → t.root ≡ root_file v.rules repository n before
    → Reached v.rules versions repository t (follow v repository t (roots_behind s repository n))
roots_reached v known s versions repository serves t n before there is = reach v known s versions repository serves (drop n (chain_of repository s).texts) n t before refl there is
