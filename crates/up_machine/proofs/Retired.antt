-- The names of replaced ECUs stay so, and are no ECU's.
use Rattle.std.proofs.Common.{◌≡◌, List, [], ◌∷◌, ◌++◌, Bool, true, false, not, refl, sym, ap, ◌∙◌}
use Rattle.std.specs.Prelude.{◌||◌, bytes_eq}
use Rattle.std.specs.List.{list_all}
use Rattle.std.specs.Cmp.Lexicographic.{bytes_decides}
use Rattle.std.specs.FinMap as table
use Rattle.up_canon.specs.Names.{Name}
use Rattle.up_manifest.specs.Laws.{BodiesAreRead, SignedTextsMean}
use Rattle.up_machine.specs.Vehicles.{has_ecu, is_among}
use Rattle.up_machine.specs.State.{Vehicle, is_recorded}
use Rattle.up_machine.specs.Machine.{run}
use Rattle.up_machine.specs.Laws.{RetiredStayRetired, RetiredAreNoEcus, RetiredAreNeverRecorded}
use Rattle.up_canon.proofs.Steps.{one_value}
use Rattle.up_metadata.proofs.Lists.{and_left, and_right}
use Rattle.up_machine.proofs.Growing.{or_left, or_right, grow_on}
use Rattle.up_machine.proofs.Soundness.{stay_on}
use Rattle.up_machine.proofs.Values.{any_found, found_any}

among_more : (ecu : Name) (names more : List Name) → is_among ecu names ≡ true → is_among ecu (names ++ more) ≡ true
among_more ecu [] more h = cc
among_more ecu (n ∷ names) more h = by_test (bytes_eq n ecu) h (among_more ecu names more)
  where
    by_test : (b : Bool) → (b || is_among ecu names) ≡ true → (is_among ecu names ≡ true → is_among ecu (names ++ more) ≡ true) → (b || is_among ecu (names ++ more)) ≡ true
    by_test true h rest = refl
    by_test false h rest = rest h

-- what each of the names passes is passed by one of them
passes : (p : Name → Bool) (ecu : Name) (names : List Name) → list_all p names ≡ true → is_among ecu names ≡ true → p ecu ≡ true
passes p ecu [] all h = cc
passes p ecu (n ∷ names) all h = by_test (bytes_eq n ecu) refl h (passes p ecu names (and_right (p n) _ all))
  where
    by_test : (b : Bool) → bytes_eq n ecu ≡ b → (b || is_among ecu names) ≡ true → (is_among ecu names ≡ true → p ecu ≡ true) → p ecu ≡ true
    by_test true is h rest = ap p (sym ((bytes_decides n ecu).0 is)) ∙ and_left (p n) _ all
    by_test false is h rest = rest h

pub stay : RetiredStayRetired
stay k s ts ecu h =
    let was = any_found (λ (v : Vehicle). is_among ecu v.retired) s.vehicles h in
    let after = (grow_on k s ts).vehicles was.0 was.1 was.2 in
    let there : is_among ecu after.0.retired ≡ true = ap (is_among ecu) after.2.retired ∙ among_more ecu was.1.retired after.2.more_retired was.3 in
    found_any (λ (v : Vehicle). is_among ecu v.retired) (run k s ts).vehicles was.0 after.0 after.1 there

not_so : (b : Bool) → not b ≡ true → b ≡ false
not_so true h = cc
not_so false h = refl

not_true : (b : Bool) → (b ≡ true → ⊥) → b ≡ false
not_true true h = absurd (h refl)
not_true false h = refl

pub apart : RetiredAreNoEcus
apart k s ecu sound h = not_true (is_recorded s ecu) (λ there.
    let was = any_found (λ (v : Vehicle). is_among ecu v.retired) s.vehicles h in
    let has = any_found (λ (v : Vehicle). has_ecu ecu v.ecus) s.vehicles there in
    let one : was.0 ≡ has.0 = sound.ecus_apart was.0 has.0 was.1 has.1 ecu was.2 has.2 (or_right (has_ecu ecu was.1.ecus) _ was.3) (or_left _ _ has.3) in
    let same : was.1 ≡ has.1 = one_value (table.get s.vehicles has.0) was.1 has.1 (ap (table.get s.vehicles) (sym one) ∙ was.2) has.2 in
    let free : has_ecu ecu was.1.ecus ≡ false = not_so (has_ecu ecu was.1.ecus)
    (passes (λ n. not (has_ecu n was.1.ecus)) ecu was.1.retired (sound.vehicles was.0 was.1 was.2).retired_apart was.3) in
    let taken : has_ecu ecu was.1.ecus ≡ true = ap (λ (v : Vehicle). has_ecu ecu v.ecus) same ∙ has.3 in
    absurd (let e = sym free ∙ taken in cc))

pub never : BodiesAreRead → SignedTextsMean → RetiredAreNeverRecorded
never bodies texts k s ts ecu fits sound h = apart k (run k s ts) ecu (stay_on bodies texts k s ts fits sound) (stay k s ts ecu h)
