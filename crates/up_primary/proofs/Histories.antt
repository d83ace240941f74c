-- Over any history only registered images are installed.
use Rattle.std.proofs.Common.{◌≡◌, ℕ, List, [], ◌∷◌, ◌++◌, Bool, Result, Ok, Err, inl, inr, refl, sym, ap, ◌∙◌, subst, arith}
use Rattle.up_sign.specs.Schemes.{IsScheme}
use Rattle.up_roles.specs.declared.repository.Repository.TheVariants.{Image}
use Rattle.up_metadata.specs.Files.{Root}
use Rattle.up_machine.specs.State.{empty_state}
use Rattle.up_machine.specs.Machine.{Timed, run}
use Rattle.up_machine.specs.Made.{roots_of}
use Rattle.up_verify.specs.declared.refused.Refused.{Refused}
use Rattle.up_verify.specs.declared.trust.Trust.{Trust}
use Rattle.up_verify.specs.declared.trust.Primary.{Primary}
use Rattle.up_verify.specs.declared.served.Served.{Served}
use Rattle.up_verify.specs.declared.served.Accepted.{Accepted}
use Rattle.up_verify.specs.Verifiers.{Verifier}
use Rattle.up_verify.specs.Roots.{follow, latest}
use Rattle.up_verify.specs.Verify.{verify, after}
use Rattle.up_primary.specs.Following.{FollowsRoot, KeysAgree}
use Rattle.up_primary.specs.Forging.{AreUnforged, AreSafeFrom}
use Rattle.up_primary.specs.Histories.{with_own, HistoriesAreBounded}
use Rattle.up_primary.specs.Laws.{AreGiven}
use Rattle.up_primary.proofs.Lasting.{follow_on}
use Rattle.up_primary.proofs.Registered.{registered}
use Rattle.up_primary.proofs.Runs.{Keeping, roots_of-append}
use Rattle.up_primary.proofs.SignedTexts.{Formats}
use Rattle.up_primary.proofs.StayingTrue.{same_root, next_parts}
use Rattle.up_primary.proofs.TrueRoots.{of_file_ok, latest_ok, true_roots}

-- ---- one round

-- who trusts a Root of the Image repository's trusts such a Root after what came
image_stays : Formats → Keeping → (v : Verifier) (ts : List Timed) (stolen : List ℕ → Bool) (now : ℕ) (p : Primary) (served : Served) → IsScheme v.rules
    → AreGiven ts → KeysAgree v.rules (roots_of v.rules empty_state ts) → AreUnforged v.rules ts stolen served.image_roots served.image.targets
    → FollowsRoot v.rules (roots_of v.rules empty_state ts) Image p.image → AreSafeFrom v.rules (roots_of v.rules empty_state ts) Image stolen p.image.root.version
    → FollowsRoot v.rules (roots_of v.rules empty_state ts) Image (after v p served (verify v now p served)).image
image_stays formats keeping v ts stolen now p served law given agree unforged follows safe =
    let i = true_roots v ts Image stolen p.image.root.version (record { formats = formats; keeping = keeping; scheme = law; given = given; agree = agree; safe = safe }) served.image_roots p.image unforged.each_root (omega arith) follows in
    by_result (verify v now p served) refl i.0
  where
    by_result : (r : Result Accepted Refused) → verify v now p served ≡ r → FollowsRoot v.rules (roots_of v.rules empty_state ts) Image (follow v Image p.image served.image_roots).trust
        → FollowsRoot v.rules (roots_of v.rules empty_state ts) Image (after v p served r).image
    by_result (Err refused) h i = i
    by_result (Ok result) h i =
        let is = next_parts v now p served result h in
        elim is.image [
          | inl same ↦ same_root v.rules (roots_of v.rules empty_state ts) Image p.image result.next.image (ap (λ (t : Trust). t.root) same) follows
          | inr more ↦
              let there : (follow v Image p.image served.image_roots).trust ≡ more.0 = latest_ok now (follow v Image p.image served.image_roots) more.0 (of_file_ok Image _ (latest now (follow v Image p.image served.image_roots)) more.0 more.1) in
              same_root v.rules (roots_of v.rules empty_state ts) Image (follow v Image p.image served.image_roots).trust result.next.image (more.2 ∙ sym (ap (λ (t : Trust). t.root) there)) i
        ]

-- ---- the history

both_given : (a b : List Timed) → AreGiven a → AreGiven b → AreGiven (a ++ b)
both_given [] b h more = more
both_given (x ∷ a) b h more = (h.0, both_given a b h.1 more)

later_on : (v : Verifier) (ts more : List Timed) (t : Trust) → FollowsRoot v.rules (roots_of v.rules empty_state ts) Image t → FollowsRoot v.rules (roots_of v.rules empty_state (ts ++ more)) Image t
later_on v ts more t f =
    subst (λ (roots : List Root). FollowsRoot v.rules roots Image t) (sym (roots_of-append v.rules empty_state ts more))
    (follow_on v.rules (roots_of v.rules empty_state ts) (roots_of v.rules (run v.rules empty_state ts) more) Image t f)

pub bounded : Formats → Keeping → HistoriesAreBounded
bounded formats keeping v stolen ts p [] law given all f = tt
bounded formats keeping v stolen ts p (r ∷ rounds) law given all f = λ is.
    let more : AreGiven (ts ++ r.commands) = both_given ts r.commands given all.0 in
    let follows : FollowsRoot v.rules (roots_of v.rules empty_state (ts ++ r.commands)) Image (with_own p r).image = later_on v ts r.commands p.image f in (
      λ result h. registered formats keeping v (ts ++ r.commands) stolen r.now (with_own p r) r.served result law more is.agree is.unforged follows is.safe h,
      bounded formats keeping v stolen (ts ++ r.commands) (after v (with_own p r) r.served (verify v r.now (with_own p r) r.served)) rounds law more all.1
          (image_stays formats keeping v (ts ++ r.commands) stolen r.now (with_own p r) r.served law more is.agree is.unforged follows is.safe),
    )
