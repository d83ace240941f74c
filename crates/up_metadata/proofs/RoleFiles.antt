-- Which secrets sign the files of a role, and how long files last.
use Rattle.std.proofs.Common.{◌≡◌, ◌≤◌, Bool, true, ap₂, arith}
use Rattle.std.specs.Prelude.{◌&&◌, length, nat_le, is_none, IsTrue}
use Rattle.std.specs.List.{list_all}
use Rattle.std.proofs.lemmas.Bool.{leb-true}
use Rattle.up_canon.specs.Names.{is_from_to}
use Rattle.up_sign.specs.Schemes.{Rules}
use Rattle.up_roles.specs.declared.repository.Repository.{Repository}
use Rattle.up_roles.specs.declared.repository.Repository.TheVariants.{Director, Image}
use Rattle.up_roles.specs.Lifetimes.{lifetimes}
use Rattle.up_roles.specs.Writing.{CanSeal}
use Rattle.up_metadata.proofs.Lists.{and_left, and_right, all_weaker}
use Rattle.up_metadata.specs.declared.keys.RoleSecrets.{RoleSecrets}
use Rattle.up_metadata.specs.declared.keys.RepoKeys.{RepoKeys}
use Rattle.up_metadata.specs.Keys.{secret_fits, threshold_fits, role_fits, repository_fits, can_sign, roles_can_sign}

-- ---- secrets

-- a role that fits can sign
pub role_signs : (k : Rules) (role : RoleSecrets) → IsTrue (role_fits k role) → IsTrue (can_sign k role)
role_signs k role h = and_left _ (is_none _) (and_left _ (threshold_fits role) h)

pub secrets_fit : (k : Rules) (role : RoleSecrets) → IsTrue (can_sign k role) → IsTrue (list_all k.secret_fits role.keys)
secrets_fit k role h =
    let each : list_all (secret_fits k) role.keys ≡ true = and_right (is_from_to 1 4 (length role.keys)) _ h in
    all_weaker (secret_fits k) k.secret_fits (λ s fit. and_right (is_from_to 1 256 (length s)) _ fit) role.keys each

pub keys_are_few : (k : Rules) (role : RoleSecrets) → IsTrue (can_sign k role) → (1 ≤ length role.keys) × (length role.keys ≤ 4)
keys_are_few k role h =
    let number : is_from_to 1 4 (length role.keys) ≡ true = and_left _ (list_all (secret_fits k) role.keys) h in
    (leb-true _ _ (and_left _ (nat_le (length role.keys) 4) number), leb-true _ _ (and_right (nat_le 1 (length role.keys)) _ number))

-- few enough for an envelope
pub secrets_are_few : (k : Rules) (role : RoleSecrets) → IsTrue (can_sign k role) → (1 ≤ length role.keys) × (length role.keys ≤ 8)
secrets_are_few k role h = let few = keys_are_few k role h in (few.0, omega (arith, few.1))

-- so a role that can sign can seal
pub secrets_seal : (k : Rules) (role : RoleSecrets) → IsTrue (can_sign k role) → CanSeal k role.keys
secrets_seal k role h = record { fit = secrets_fit k role h; number = secrets_are_few k role h }

-- what each role of a repository passes
each_role : (p : RoleSecrets → Bool) (keys : RepoKeys) → (p keys.root && p keys.targets && p keys.snapshot && p keys.timestamp) ≡ true
    → IsTrue (p keys.root) × IsTrue (p keys.targets) × IsTrue (p keys.snapshot) × IsTrue (p keys.timestamp)
each_role p keys h = (
  and_left _ _ (and_left _ _ (and_left _ _ h)),
  and_right (p keys.root) _ (and_left _ _ (and_left _ _ h)),
  and_right (p keys.root && p keys.targets) _ (and_left _ _ h),
  and_right (p keys.root && p keys.targets && p keys.snapshot) _ h,
)

pub roles_fit : (k : Rules) (keys : RepoKeys) → IsTrue (repository_fits k keys)
    → IsTrue (role_fits k keys.root) × IsTrue (role_fits k keys.targets) × IsTrue (role_fits k keys.snapshot) × IsTrue (role_fits k keys.timestamp)
roles_fit k keys h = each_role (role_fits k) keys h

pub roles_sign : (k : Rules) (keys : RepoKeys) → IsTrue (roles_can_sign k keys)
    → IsTrue (can_sign k keys.root) × IsTrue (can_sign k keys.targets) × IsTrue (can_sign k keys.snapshot) × IsTrue (can_sign k keys.timestamp)
roles_sign k keys h = each_role (can_sign k) keys h

-- roles that fit can sign
pub fitting_sign : (k : Rules) (keys : RepoKeys) → IsTrue (repository_fits k keys) → IsTrue (roles_can_sign k keys)
fitting_sign k keys h =
    let fit = roles_fit k keys h in
    ap₂ (λ x y. x && y)
    (ap₂ (λ x y. x && y) (ap₂ (λ x y. x && y) (role_signs k keys.root fit.0) (role_signs k keys.targets fit.1)) (role_signs k keys.snapshot fit.2))
    (role_signs k keys.timestamp fit.3)

-- ---- lifetimes

-- at most a year
pub lifetimes_are_short : (r : Repository) → ((lifetimes r).root ≤ 31536000) × ((lifetimes r).targets ≤ 31536000) × ((lifetimes r).snapshot ≤ 31536000) × ((lifetimes r).timestamp ≤ 31536000)
lifetimes_are_short Director = (omega arith, omega arith, omega arith, omega arith)
lifetimes_are_short Image = (omega arith, omega arith, omega arith, omega arith)
