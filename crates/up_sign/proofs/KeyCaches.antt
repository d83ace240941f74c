-- Slots of hashed keys.
use Rattle.std.proofs.Common.{◌≡◌, ℕ, List, [], ◌∷◌, Bool, Option, None, Some, length, get_or, set, refl, sym, ap, ◌∙◌, true, false}
use Rattle.std.specs.Prelude.{replicate, bytes_eq, if◌then◌else◌}
use Rattle.std.proofs.lemmas.List.{length-replicate, set-get_or}
use Rattle.std.proofs.lemmas.Option.{none-some}
use Rattle.std.proofs.lemmas.Slice.Eq.{bytes_eq-Decides}
use Rattle.up_sign.specs.Hmac.{block_key}
use Rattle.up_sign.specs.KeyCaches.{Slots, slot_count, slot_of, if_block, key_in, empty_slots, slots_of, with_key}

-- all slots, once there are so many
pub all_empty : (count : ℕ) → count ≡ slot_count → (items : Slots) → items ≡ replicate count None → items ≡ empty_slots
unfolding empty_slots
all_empty count is items so = so ∙ ap (λ n. replicate n None) is

-- how many there are
pub length-empty_slots : length empty_slots ≡ slot_count
unfolding empty_slots
length-empty_slots = length-replicate {A = Option (List ℕ)} slot_count None

-- what is found in an empty slot, in one that has the key, and in one that has another
pub found_none : (kept : Slots) (public : List ℕ) → None ≡ get_or kept (slot_of public) None → None ≡ key_in kept public
unfolding key_in
found_none kept public is = ap (if_block (block_key public)) is

pub found_own : (kept : Slots) (public key : List ℕ) → Some key ≡ get_or kept (slot_of public) None → bytes_eq key (block_key public) ≡ true → Some key ≡ key_in kept public
unfolding key_in
found_own kept public key is same = sym (ap (λ b. if b then Some key else None) same) ∙ ap (if_block (block_key public)) is

pub found_other : (kept : Slots) (public key : List ℕ) → Some key ≡ get_or kept (slot_of public) None → bytes_eq key (block_key public) ≡ false → None ≡ key_in kept public
unfolding key_in
found_other kept public key is other = sym (ap (λ b. if b then Some key else None) other) ∙ ap (if_block (block_key public)) is

-- a key that is found is there already
pub kept_already : (kept : Slots) (public key : List ℕ) → Some key ≡ key_in kept public → with_key kept public ≡ kept
unfolding key_in with_key
kept_already [] public key is = absurd (none-some key (sym is))
kept_already (slot ∷ more) public key is = by_slot (get_or (slot ∷ more) (slot_of public) None) refl is
  where
    by_slot : (o : Option (List ℕ)) → get_or (slot ∷ more) (slot_of public) None ≡ o → Some key ≡ if_block (block_key public) o
        → set (slot ∷ more) (slot_of public) (Some (block_key public)) ≡ slot ∷ more
    by_slot None at found = absurd (none-some key (sym found))
    by_slot (Some own) at found =
        ap (set (slot ∷ more) (slot_of public)) (sym (at ∙ ap Some (same own found))) ∙ set-get_or (slot ∷ more) (slot_of public) None
      where
        same : (own : List ℕ) → Some key ≡ if_block (block_key public) (Some own) → own ≡ block_key public
        same own found = by_test (bytes_eq own (block_key public)) refl found
          where
            by_test : (b : Bool) → bytes_eq own (block_key public) ≡ b → Some key ≡ if b then Some own else None → own ≡ block_key public
            by_test true is_own _ = (bytes_eq-Decides own (block_key public)).0 is_own
            by_test false _ found = absurd (none-some key (sym found))

-- a key that isn't there is put into its slot
pub kept_anew : (kept items : Slots) (public key : List ℕ) (slot : ℕ) → items ≡ slots_of kept → slot ≡ slot_of public → key ≡ block_key public → set items slot (Some key) ≡ with_key kept public
unfolding with_key
kept_anew kept items public key slot is at same =
    ap (λ (all : Slots). set all slot (Some key)) is ∙ ap (λ (i : ℕ). set (slots_of kept) i (Some key)) at ∙ ap (λ (own : List ℕ). set (slots_of kept) (slot_of public) (Some own)) same
