use Rattle.std.proofs.Common.{◌≡◌, ◌∷◌, true, List, string_bytes, sym, ap, ◌∙◌, subst, rules}
use Rattle.std.specs.List.Sorted.{IsStrictlySortedBy}
use Rattle.std.specs.Map.{keys_of}
use Rattle.std.specs.String.{string_cmp}
use Rattle.serde_json.proofs.Views.{Entry}
use Rattle.up_canon.specs.Canon.{is_printable_text}
use Rattle.up_canon.proofs.Plain.{fits, fits_members, fits_members-one, later_keys}
use Rattle.up_canon.proofs.canonical.+within.Goals as goal

pub members_are_within-loop-key-preserved : goal.members_are_within-loop-key-preserved
members_are_within-loop-key-preserved t c =
    let e : Entry = (c.in-Some.key.now, c.in-Some.member.now) in
    let left : List Entry = c.next.new.self in
    let all : c.loop-key.key-iterator ≡ e ∷ left = c.in-Some.ensures.steps in
    let sorted = subst (λ (es : List Entry). IsStrictlySortedBy string_cmp (keys_of es)) all c.loop-key.invariant.rising in
    let key : is_printable_text (string_bytes e.0) ≡ true = search rules in
    let value : fits c.args.levels e.1 ≡ true = search rules in
    let one : fits_members c.args.levels (e ∷ left) ≡ fits_members c.args.levels left = fits_members-one c.args.levels e left sorted ∙ rw (key, value) in
    record {
      rising = later_keys e left sorted;
      left = sym one ∙ sym (ap (fits_members c.args.levels) all) ∙ c.loop-key.invariant.left;
    }
