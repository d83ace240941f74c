-- What the test of members says of the first of them.
use Rattle.std.proofs.Common.{◌≡◌, ℕ, List, true}
use Rattle.std.proofs.lemmas.Bool.{and_parts}
use Rattle.serde_json.specs.Data.{Data, Members, member}
use Rattle.up_canon.specs.Canon.{is_printable_text, comes_first, is_plain, members_are_plain}

pub record PlainMember (k : List ℕ) (d : Data) (ms : Members) : Type 0 where
  pub key : is_printable_text k ≡ true
  pub first : comes_first k ms ≡ true
  pub value : is_plain d ≡ true
  pub others : members_are_plain ms ≡ true

pub plain_member : (k : List ℕ) (d : Data) (ms : Members) → members_are_plain (member k d ms) ≡ true → PlainMember k d ms
plain_member k d ms h =
    let p = and_parts (is_printable_text k) _ h in
    let q = and_parts (comes_first k ms) _ p.1 in
    let r = and_parts (is_plain d) _ q.1 in
    record { key = p.0; first = q.0; value = r.0; others = r.1 }
