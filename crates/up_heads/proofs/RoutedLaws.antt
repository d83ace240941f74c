-- What stands behind a text, and in front of a byte.
use Rattle.std.proofs.Common.{◌≡◌, ◌≢◌, ◌==◌, ℕ, Bool, true, false, cond, List, [], ◌∷◌, ◌++◌, Option, Some, None, refl, sym, ap, ◌∙◌}
use Rattle.std.specs.Prelude.{MatchOption}
use Rattle.std.specs.Str.{is_utf8, IsUtf8}
use Rattle.std.proofs.lemmas.Bool.{eq-eqb, eqb-true}
use Rattle.std.proofs.lemmas.Str.{IsUtf8-from_is_utf8, is_utf8-from_IsUtf8}
use Rattle.up_canon.specs.Names.{is_file_name}
use Rattle.up_heads.specs.Routed.{named_file, path_of, routed_at, routed_by}
use Rattle.up_heads.specs.Routes.{kind, strip}
use Rattle.up_heads.specs.declared.check.Check.TheVariants.{NotFound}
use Rattle.up_heads.specs.declared.methods.Verb.{Verb}
use Rattle.up_heads.specs.declared.routed.Routed.TheVariants.{Fixed}

pub strip_found : (text path rest : List ℕ) → path ≡ text ++ rest → strip text path ≡ Some rest
strip_found [] path rest is = ap Some is
strip_found (x ∷ text) [] rest is = absurd (cc)
strip_found (x ∷ text) (b ∷ path) rest is =
    let here : x ≡ b = cc in
    let there : path ≡ text ++ rest = cc in
    ap (λ t. cond t (strip text path) None) (eq-eqb x b here) ∙ strip_found text path rest there

pub strip_missing : (text path : List ℕ) → ((rest : List ℕ) → path ≢ text ++ rest) → strip text path ≡ None
strip_missing [] path lacks = absurd (lacks path refl)
strip_missing (x ∷ text) [] lacks = refl
strip_missing (x ∷ text) (b ∷ path) lacks = by_test (x == b) refl (λ other. strip_missing text path other)
  where
    by_test : (t : Bool) → (x == b) ≡ t → (((rest : List ℕ) → path ≢ text ++ rest) → strip text path ≡ None) → cond t (strip text path) None ≡ None
    by_test true is step =
        let same : b ≡ x = sym (eqb-true x b is) in
        step (λ rest e. lacks rest (λ i. same i ∷ e i))
    by_test false is step = refl

-- a filename that was made of a text, or not
pub named_made : (made : Option (List ℕ)) (name : List ℕ) → MatchOption made (is_file_name name ≡ false) (λ m. (is_file_name name ≡ true) × (m ≡ name)) → made ≡ named_file (Some name)
named_made None name is = ap (λ t. cond t (Some name) None) (sym is)
named_made (Some m) name is = ap Some is.1 ∙ ap (λ t. cond t (Some name) None) (sym is.0)

pub not_utf8 : (bytes : List ℕ) → ¬ (IsUtf8 bytes) → is_utf8 bytes ≡ false
not_utf8 bytes other = by_test (is_utf8 bytes) refl
  where
    by_test : (b : Bool) → is_utf8 bytes ≡ b → b ≡ false
    by_test true is = absurd (other (IsUtf8-from_is_utf8 bytes is))
    by_test false is = refl

-- a target that is text, by its path
pub routed_text : (target text path : List ℕ) (verb : Verb) (stated : Option ℕ) → IsUtf8 target → text ≡ target → path ≡ path_of text
    → routed_by (kind path) path verb stated ≡ routed_at target verb stated
unfolding routed_at
routed_text target text path verb stated is same front =
    ap (λ p. routed_by (kind p) p verb stated) (front ∙ ap path_of same)
    ∙ ap (λ t. cond t (routed_by (kind (path_of target)) (path_of target) verb stated) (Fixed NotFound)) (sym (is_utf8-from_IsUtf8 target is))

-- a target that is no text
pub routed_bytes : (target : List ℕ) (verb : Verb) (stated : Option ℕ) → ¬ (IsUtf8 target) → Fixed NotFound ≡ routed_at target verb stated
unfolding routed_at
routed_bytes target verb stated other =
    ap (λ t. cond t (routed_by (kind (path_of target)) (path_of target) verb stated) (Fixed NotFound)) (sym (not_utf8 target other))
