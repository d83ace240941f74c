-- A run of the repositories with rounds of a Primary between its commands, in which whoever has stolen keys serves whatever bytes.
use Rattle.std.specs.Prelude.{◌≡◌, ◌++◌, ℕ, List, [], ◌∷◌, Bool, Ok, ⊤}
use Rattle.std.specs.List.{All, AllByRecursion}
use Rattle.up_canon.specs.Names.{Name}
use Rattle.up_sign.specs.Schemes.{IsScheme}
use Rattle.up_roles.specs.declared.repository.Repository.TheVariants.{Image}
use Rattle.up_machine.specs.State.{empty_state}
use Rattle.up_machine.specs.Machine.{Timed, run}
use Rattle.up_machine.specs.Made.{roots_of}
use Rattle.up_verify.specs.declared.trust.OwnEcu.{OwnEcu}
use Rattle.up_verify.specs.declared.trust.Primary.{Primary}
use Rattle.up_verify.specs.declared.served.Served.{Served}
use Rattle.up_verify.specs.declared.served.Accepted.{Accepted}
use Rattle.up_verify.specs.Verifiers.{Verifier}
use Rattle.up_verify.specs.Verify.{verify, after}
use Rattle.up_primary.specs.Following.{FollowsRoot, KeysAgree}
use Rattle.up_primary.specs.Forging.{AreUnforged, AreSafeFrom}
use Rattle.up_primary.specs.Laws.{AreGiven, IsRegistered}

-- commands, and then a round: the ECUs of the vehicle and what they have then, its moment, and what is served by whoever it is
pub record Attack : Type 0 where
  pub commands : List Timed
  pub ecus : List OwnEcu
  pub replaced : List Name
  pub now : ℕ
  pub served : Served

-- the Primary with the ECUs of a round
abbrev pub with_own : Primary → Attack → Primary
with_own p r = record p { ecus = r.ecus; replaced = r.replaced }

-- Of the Image repository's root and Targets keys fewer are stolen than have to sign, and nothing that came was forged under the others.
-- Nothing is asked of the Director's keys, nor of the others.
pub record IsBounded (v : Verifier) (ts : List Timed) (stolen : List ℕ → Bool) (p : Primary) (served : Served) : Type 0 where
  pub agree : KeysAgree v.rules (roots_of v.rules empty_state ts)
  pub unforged : AreUnforged v.rules ts stolen served.image_roots served.image.targets
  pub safe : AreSafeFrom v.rules (roots_of v.rules empty_state ts) Image stolen p.image.root.version

-- in each round only images are installed that are registered by then, and what is trusted then is what the next round begins with
abbrev pub InstallRegistered : Verifier → (List ℕ → Bool) → List Timed → Primary → List Attack → Type 0
InstallRegistered v stolen ts p [] = ⊤
InstallRegistered v stolen ts p (r ∷ rounds) = IsBounded v (ts ++ r.commands) stolen (with_own p r) r.served
    → ((result : Accepted) → verify v r.now (with_own p r) r.served ≡ Ok result → All (IsRegistered (run v.rules empty_state (ts ++ r.commands)) r.ecus) result.installs)
    × InstallRegistered v stolen (ts ++ r.commands) (after v (with_own p r) r.served (verify v r.now (with_own p r) r.served)) rounds

-- So it is for a Primary that begins with a Root of the Image repository's, over any commands and any rounds.
abbrev pub HistoriesAreBounded : Type 0
HistoriesAreBounded = (v : Verifier) (stolen : List ℕ → Bool) (ts : List Timed) (p : Primary) (rounds : List Attack) → IsScheme v.rules → AreGiven ts
    → AllByRecursion (λ r. AreGiven r.commands) rounds → FollowsRoot v.rules (roots_of v.rules empty_state ts) Image p.image → InstallRegistered v stolen ts p rounds
