use Rattle.std.proofs.Common.{rules, ◌≡◌, ◌≤◌, ◌++◌, ◌∷◌, [], true, map, sym, ap, ◌∙◌, subst}
use Rattle.std.specs.Prelude.{codes, IfSome}
use Rattle.std.proofs.lemmas.List.{map_push}
use Rattle.serde_json.specs.Data.{depth}
use Rattle.serde_json.specs.View.{view}
use Rattle.serde_json.proofs.Views.{view-Array}
use Rattle.up_canon.specs.Build.{list_with}
use Rattle.up_canon.specs.Canon.{has_canon, is_plain, text}
use Rattle.up_canon.proofs.PlainValues.{AllItems}
use Rattle.up_columns.proofs.PlainItems.{items_before, before_more, list-text, plain-more, list-canon}
use Rattle.up_columns.specs.Plain.{HasNoPlainItem}
use Rattle.up_columns.proofs.values.plain_list.Goals as goal

pub returns-then-eq-clause-value : goal.returns-then-eq-clause-value
returns-then-eq-clause-value c =
    let found = subst (λ o. IfSome o (λ x. (is_plain (view x.0) ≡ true) × (depth (view x.0) ≤ 1) × (c.items.rest.now ≡ text (view x.0) ++ x.1.now))) c.in-Some.is c.in_ok-value.ensures.value in
    let d = view c.in-Some.value in
    let ds = map view c.items.values.items in
    let all : map view c.push.new.self.items ≡ ds ++ d ∷ [] = ap (map view) c.in_ok-push.ensures.items ∙ map_push view c.items.values.items c.in-Some.value in
    let closes : c.in-Some.behind.now ≡ codes "]" = search rules in
    let plain : AllItems 1 (ds ++ d ∷ []) = plain-more ds d c.items.invariant.plain (record { plain = found.0; shallow = found.1 }) in
    let listed : c.args.items.now ≡ items_before ds ++ (text d ++ codes "]") = c.items.invariant.so_far ∙ ap (λ r. items_before ds ++ r) (found.2 ∙ ap (λ b. text d ++ b) closes) in
    let seen = view-Array c.push.new.self ∙ ap list_with all in
    (ap has_canon seen ∙ list-canon (ds ++ d ∷ []) plain, ap (λ t. codes "[" ++ t) listed ∙ list-text ds d ∙ sym (ap text seen))

pub items-preserved : goal.items-preserved
items-preserved c =
    let found = subst (λ o. IfSome o (λ x. (is_plain (view x.0) ≡ true) × (depth (view x.0) ≤ 1) × (c.items.rest.now ≡ text (view x.0) ++ x.1.now))) c.in-Some.is c.in_ok-value.ensures.value in
    let d = view c.in-Some.value in
    let ds = map view c.items.values.items in
    let more = c.in-Some-strip_prefix.more.now in
    let all : map view c.push.new.self.items ≡ ds ++ d ∷ [] = ap (map view) c.in_ok-push.ensures.items ∙ map_push view c.items.values.items c.in-Some.value in
    let (n, comma, rest, size) = c.in-Some-strip_prefix.ensures.cases in
    let front : c.in-Some.behind.now ≡ codes "," ++ more = comma.1 ∙ ap (λ l. codes "," ++ l) (sym rest) in
    record {
      utf8 = search rules;
      so_far = c.items.invariant.so_far ∙ ap (λ r. items_before ds ++ r) (found.2 ∙ ap (λ b. text d ++ b) front) ∙ before_more ds d more ∙ sym (ap (λ xs. items_before xs ++ more) all);
      plain = subst (AllItems 1) (sym all) (plain-more ds d c.items.invariant.plain (record { plain = found.0; shallow = found.1 }));
      first = λ no. let none = c.in_ok-value.ensures.none (subst HasNoPlainItem (sym (c.items.invariant.first no)) no) in let is = c.in-Some.is in cc;
    }
