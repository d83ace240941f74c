-- The keys of a Root payload: each identifier once, in byte order.
use Rattle.std.proofs.Common.{◌≡◌, ℕ, List, [], ◌∷◌, Bool, true, false, Ordering, Less, Equal, Greater, Option, Some, cond, nat_cmp, map, refl, ap, sym, ◌∙◌}
use Rattle.std.specs.Prelude.{bytes_eq, ◌&&◌}
use Rattle.std.specs.List.{list_all, find}
use Rattle.std.specs.Ordering.{match_ordering, is_eq}
use Rattle.std.specs.Cmp.Lexicographic.{slice_cmp, bytes_decides}
use Rattle.std.proofs.lemmas.Bool.{and_parts}
use Rattle.std.proofs.lemmas.Map.Text.{is_eq-slice_cmp}
use Rattle.serde_json.specs.Data.{Data, Members, no_members, member, put}
use Rattle.up_roles.specs.Root.{key_member, put_keys, agree, keys_agree, members_list}
use Rattle.up_roles.specs.declared.root.RootKey.{RootKey}
use Rattle.up_canon.proofs.Printable.{both}
use Rattle.up_roles.proofs.Repeats.{bytes_eq-sym}

-- the key in its place, instead of the one of its identifier
abbrev pub put_key : RootKey → List RootKey → List RootKey
put_key k [] = k ∷ []
put_key k (l ∷ ls) = match_ordering (slice_cmp nat_cmp k.keyid l.keyid) (k ∷ l ∷ ls) (k ∷ ls) (l ∷ put_key k ls)

abbrev pub gathered : List RootKey → List RootKey
gathered [] = []
gathered (k ∷ ks) = put_key k (gathered ks)

-- ---- as members

abbrev members_of : List RootKey → Members
members_of [] = no_members
members_of (k ∷ ks) = member k.keyid (key_member k).1 (members_of ks)

same_id : (k l : RootKey) → slice_cmp nat_cmp k.keyid l.keyid ≡ Equal → k.keyid ≡ l.keyid
same_id k l e = (bytes_decides k.keyid l.keyid).0 (sym (is_eq-slice_cmp k.keyid l.keyid) ∙ ap is_eq e)

other_id : (k l : RootKey) → slice_cmp nat_cmp k.keyid l.keyid ≡ Greater → bytes_eq l.keyid k.keyid ≡ false
other_id k l e = bytes_eq-sym l.keyid k.keyid ∙ sym (is_eq-slice_cmp k.keyid l.keyid) ∙ ap is_eq e

put-members : (k : RootKey) (ls : List RootKey) → put k.keyid (key_member k).1 (members_of ls) ≡ members_of (put_key k ls)
put-members k [] = refl
put-members k (l ∷ ls) = by_order (slice_cmp nat_cmp k.keyid l.keyid) refl (put-members k ls)
  where
    by_order : (o : Ordering) → slice_cmp nat_cmp k.keyid l.keyid ≡ o → put k.keyid (key_member k).1 (members_of ls) ≡ members_of (put_key k ls)
        → match_ordering o (member k.keyid (key_member k).1 (members_of (l ∷ ls))) (member l.keyid (key_member k).1 (members_of ls)) (member l.keyid (key_member l).1 (put k.keyid (key_member k).1 (members_of ls)))
        ≡ members_of (match_ordering o (k ∷ l ∷ ls) (k ∷ ls) (l ∷ put_key k ls))
    by_order Less e rest = refl
    by_order Equal e rest = ap (λ (id : List ℕ). member id (key_member k).1 (members_of ls)) (sym (same_id k l e))
    by_order Greater e rest = ap (λ (ms : Members). member l.keyid (key_member l).1 ms) rest

put_keys-gathered : (ks : List RootKey) → put_keys ks no_members ≡ members_of (gathered ks)
put_keys-gathered [] = refl
put_keys-gathered (k ∷ ks) = ap (λ (ms : Members). put k.keyid (key_member k).1 ms) (put_keys-gathered ks) ∙ put-members k (gathered ks)

members_list-of : (ks : List RootKey) → members_list (members_of ks) ≡ map key_member ks
members_list-of [] = refl
members_list-of (k ∷ ks) = ap (λ (rest : List (List ℕ × Data)). key_member k ∷ rest) (members_list-of ks)

pub keys-listed : (ks : List RootKey) → members_list (put_keys ks no_members) ≡ map key_member (gathered ks)
keys-listed ks = ap members_list (put_keys-gathered ks) ∙ members_list-of (gathered ks)

-- ---- what holds of each key

all-put : (p : RootKey → Bool) (k : RootKey) (ls : List RootKey) → p k ≡ true → list_all p ls ≡ true → list_all p (put_key k ls) ≡ true
all-put p k [] h all = both _ _ h refl
all-put p k (l ∷ ls) h all = let q = and_parts (p l) _ all in by_order (slice_cmp nat_cmp k.keyid l.keyid) (all-put p k ls h q.1)
  where
    by_order : (o : Ordering) → list_all p (put_key k ls) ≡ true → list_all p (match_ordering o (k ∷ l ∷ ls) (k ∷ ls) (l ∷ put_key k ls)) ≡ true
    by_order Less rest = both _ _ h all
    by_order Equal rest = both _ _ h (and_parts (p l) _ all).1
    by_order Greater rest = both _ _ (and_parts (p l) _ all).0 rest

pub all-gathered : (p : RootKey → Bool) (ks : List RootKey) → list_all p ks ≡ true → list_all p (gathered ks) ≡ true
all-gathered p [] all = refl
all-gathered p (k ∷ ks) all = let q = and_parts (p k) _ all in all-put p k (gathered ks) q.0 (all-gathered p ks q.1)

-- ---- the key of an identifier

abbrev pub key_with : List ℕ → List RootKey → Option RootKey
key_with keyid keys = find (λ key. bytes_eq key.keyid keyid) keys

found-put : (k : RootKey) (ls : List RootKey) → key_with k.keyid (put_key k ls) ≡ Some k
found-put k [] = let same : bytes_eq k.keyid k.keyid ≡ true = (bytes_decides k.keyid k.keyid).1 refl in rw same refl
found-put k (l ∷ ls) = by_order (slice_cmp nat_cmp k.keyid l.keyid) refl ((bytes_decides k.keyid k.keyid).1 refl) (found-put k ls)
  where
    by_order : (o : Ordering) → slice_cmp nat_cmp k.keyid l.keyid ≡ o → bytes_eq k.keyid k.keyid ≡ true → key_with k.keyid (put_key k ls) ≡ Some k
        → key_with k.keyid (match_ordering o (k ∷ l ∷ ls) (k ∷ ls) (l ∷ put_key k ls)) ≡ Some k
    by_order Less e same rest = rw same refl
    by_order Equal e same rest = rw same refl
    by_order Greater e same rest = rw (other_id k l e) rest

found-other : (id : List ℕ) (k : RootKey) (ls : List RootKey) → bytes_eq k.keyid id ≡ false → key_with id (put_key k ls) ≡ key_with id ls
found-other id k [] h = rw h refl
found-other id k (l ∷ ls) h = by_order (slice_cmp nat_cmp k.keyid l.keyid) refl (found-other id k ls h)
  where
    by_order : (o : Ordering) → slice_cmp nat_cmp k.keyid l.keyid ≡ o → key_with id (put_key k ls) ≡ key_with id ls
        → key_with id (match_ordering o (k ∷ l ∷ ls) (k ∷ ls) (l ∷ put_key k ls)) ≡ key_with id (l ∷ ls)
    by_order Less e rest = rw h refl
    by_order Equal e rest =
        let too : bytes_eq l.keyid id ≡ false = ap (λ (x : List ℕ). bytes_eq x id) (sym (same_id k l e)) ∙ h in
        rw (h, too) refl
    by_order Greater e rest = ap (λ (o : Option RootKey). cond (bytes_eq l.keyid id) (Some l) o) rest

-- each key is found by its identifier
abbrev pub AreFound : List RootKey → List RootKey → Type 0
AreFound all [] = Unit {0}
AreFound all (k ∷ ks) = (key_with k.keyid all ≡ Some k) × AreFound all ks

agreed : (k x : RootKey) → agree k x ≡ true → bytes_eq k.keyid x.keyid ≡ true → k ≡ x
agreed k x h e =
    let parts : (bytes_eq k.method x.method && bytes_eq k.shown x.shown) ≡ true = rw e at h in
    let p = and_parts (bytes_eq k.method x.method) _ parts in
    let id : k.keyid ≡ x.keyid = (bytes_decides k.keyid x.keyid).0 e in
    let method : k.method ≡ x.method = (bytes_decides k.method x.method).0 p.0 in
    let shown : k.shown ≡ x.shown = (bytes_decides k.shown x.shown).0 p.1 in
    ap (λ (i : List ℕ). let key : RootKey = record { keyid = i; method = k.method; shown = k.shown } in key) id
    ∙ ap (λ (m : List ℕ). let key : RootKey = record { keyid = x.keyid; method = m; shown = k.shown } in key) method
    ∙ ap (λ (s : List ℕ). let key : RootKey = record { keyid = x.keyid; method = x.method; shown = s } in key) shown

found-more : (k : RootKey) (ls ks : List RootKey) → list_all (agree k) ks ≡ true → AreFound ls ks → AreFound (put_key k ls) ks
found-more k ls [] all h = tt
found-more k ls (x ∷ ks) all h = let p = and_parts (agree k x) _ all in (by_test (bytes_eq k.keyid x.keyid) refl, found-more k ls ks p.1 h.1)
  where
    by_test : (b : Bool) → bytes_eq k.keyid x.keyid ≡ b → key_with x.keyid (put_key k ls) ≡ Some x
    by_test true e =
        let id : k.keyid ≡ x.keyid = (bytes_decides k.keyid x.keyid).0 e in
        ap (λ (i : List ℕ). key_with i (put_key k ls)) (sym id) ∙ found-put k ls ∙ ap Some (agreed k x (and_parts (agree k x) _ all).0 e)
    by_test false e = found-other x.keyid k ls e ∙ h.0

pub are-found : (ks : List RootKey) → keys_agree ks ≡ true → AreFound (gathered ks) ks
are-found [] h = tt
are-found (k ∷ ks) h = let p = and_parts (list_all (agree k) ks) _ h in (found-put k (gathered ks), found-more k (gathered ks) ks p.0 (are-found ks p.1))
