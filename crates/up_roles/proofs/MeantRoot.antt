-- What is read of a Root payload is what it means.
use Rattle.std.proofs.Common.{◌≡◌, ℕ, List, [], ◌∷◌, ◌++◌, Bool, true, false, cond, Ordering, Less, Equal, Greater, Some, Ok, length, refl, ap, sym, subst, ◌∙◌}
use Rattle.std.specs.Prelude.{codes, bytes_eq, ◌||◌}
use Rattle.std.specs.List.{AllByRecursion, list_all, list_any, find}
use Rattle.std.specs.Cmp.Lexicographic.{slice_cmp, bytes_decides}
use Rattle.std.specs.Ordering.{nat_cmp, is_eq, is_lt, match_ordering}
use Rattle.std.proofs.lemmas.Bool.{and_parts}
use Rattle.std.proofs.lemmas.Cmp.{nat_list_cmp_total}
use Rattle.std.proofs.lemmas.List.Folds.{list_any-append}
use Rattle.std.proofs.lemmas.Map.Text.{is_eq-slice_cmp}
use Rattle.serde_json.specs.Data.{Data, null, boolean, number, string, array, object, Items, no_items, item, Members, no_members, member}
use Rattle.serde_json.specs.Find as json
use Rattle.up_canon.specs.Canon.{is_plain, members_are_plain, is_printable_text, comes_first}
use Rattle.up_canon.specs.Meaning.{HasText, EachMeans}
use Rattle.up_canon.specs.Members.{items_list, text_of}
use Rattle.up_canon.specs.Names.{is_from_to, is_short_text}
use Rattle.up_canon.specs.Steps.{each, or_error}
use Rattle.up_canon.specs.declared.refusal.Refusal.TheVariants.{BadShape}
use Rattle.up_canon.proofs.Faults.{Fails, AllowsShapes, then_fails, ok_fails, or_error_fails, each_fails, fitting_fails, self_fails, object_fails}
use Rattle.up_canon.proofs.Lists.{each_of_both}
use Rattle.up_canon.proofs.Members.{is_text, object_read, object_there, self_read, self_there, has_member, fits_read, fits_there}
use Rattle.up_canon.proofs.Printable.{both}
use Rattle.up_canon.proofs.Steps.{first_ok, bind-ok, same_ok, or_error_ok, one_value, each_read, each_there, each_size}
use Rattle.up_sign.specs.Laws.{IsTextFault}
use Rattle.up_sign.proofs.Accepted.{bytes_eq-refl}
use Rattle.up_roles.specs.Meaning.{ShowsKey, IsKeyId, MeansRole, MeansRoot}
use Rattle.up_roles.specs.Root.{all_keys, key_fits, role_is_met, members_list, object_members, shown_in, key_of, keys_in, chosen_key, role_in, is_used, root_of}
use Rattle.up_roles.specs.declared.payload.Head.{Head}
use Rattle.up_roles.specs.declared.root.RootKey.{RootKey}
use Rattle.up_roles.specs.declared.root.RoleKeys.{RoleKeys}
use Rattle.up_roles.specs.declared.root.RootFile.{RootFile}
use Rattle.up_roles.proofs.MeantFiles.{ReadsAs}
use Rattle.up_roles.proofs.MeantParts.{Moments, text_part_read, text_part_there, count_part_read, count_part_there, object_part_read, object_part_there, few_part_read, few_part_there, head_read, head_there, text_part_fails, count_part_fails, object_part_fails, few_part_fails, head_fails}
use Rattle.up_roles.proofs.Repeats.{bytes_eq-sym}

-- ---- the member of a name

get-own : (k : List ℕ) (v : Data) (ms : Members) → json.get_member k (member k v ms) ≡ Some v
get-own k v ms = by_order (slice_cmp nat_cmp k k) (is_eq-slice_cmp k k ∙ bytes_eq-refl k)
  where
    by_order : (o : Ordering) → is_eq o ≡ true → match_ordering o (json.get_member k ms) (Some v) (json.get_member k ms) ≡ Some v
    by_order Less h = cc
    by_order Equal h = refl
    by_order Greater h = cc

get-other : (k l : List ℕ) (v : Data) (ms : Members) → bytes_eq l k ≡ false → json.get_member k (member l v ms) ≡ json.get_member k ms
get-other k l v ms other = by_order (slice_cmp nat_cmp k l) (is_eq-slice_cmp k l ∙ bytes_eq-sym k l ∙ other)
  where
    by_order : (o : Ordering) → is_eq o ≡ false → match_ordering o (json.get_member k ms) (Some v) (json.get_member k ms) ≡ json.get_member k ms
    by_order Less h = refl
    by_order Equal h = cc
    by_order Greater h = refl

-- where names rise, a name before the first is before each
comes_before : (k : List ℕ) (ms : Members) → comes_first k ms ≡ true → members_are_plain ms ≡ true → (l : List ℕ) (v : Data) → json.get_member l ms ≡ Some v → slice_cmp nat_cmp k l ≡ Less
comes_before k no_members first plain l v there = cc
comes_before k (member m e ms) first plain l v there =
    by_order (slice_cmp nat_cmp l m) refl there (λ deeper. nat_list_cmp_total.trans k m l (less (slice_cmp nat_cmp k m) first) (comes_before m ms parts.0 parts.1 l v deeper))
  where
    less : (o : Ordering) → is_lt o ≡ true → o ≡ Less
    less Less h = refl
    less Equal h = cc
    less Greater h = cc

    parts : (comes_first m ms ≡ true) × (members_are_plain ms ≡ true)
    parts =
        let p = and_parts (is_printable_text m) _ plain in
        let q = and_parts (comes_first m ms) _ p.1 in
        (q.0, (and_parts (is_plain e) _ q.1).1)

    by_order : (o : Ordering) → slice_cmp nat_cmp l m ≡ o → match_ordering o (json.get_member l ms) (Some e) (json.get_member l ms) ≡ Some v
        → (json.get_member l ms ≡ Some v → slice_cmp nat_cmp k l ≡ Less) → slice_cmp nat_cmp k l ≡ Less
    by_order Less is there deeper = deeper there
    by_order Equal is there deeper =
        let same : l ≡ m = (bytes_decides l m).0 (sym (is_eq-slice_cmp l m) ∙ ap is_eq is) in
        ap (slice_cmp nat_cmp k) same ∙ less (slice_cmp nat_cmp k m) first
    by_order Greater is there deeper = deeper there

-- a member of a plain value is plain
plain_member : (name : List ℕ) (ms : Members) (v : Data) → members_are_plain ms ≡ true → json.get_member name ms ≡ Some v → is_plain v ≡ true
plain_member name no_members v plain there = cc
plain_member name (member k e ms) v plain there =
    let p = and_parts (is_printable_text k) _ plain in
    let q = and_parts (comes_first k ms) _ p.1 in
    let r = and_parts (is_plain e) _ q.1 in
    by_order (slice_cmp nat_cmp name k) r.0 there (plain_member name ms v r.1)
  where
    by_order : (o : Ordering) → is_plain e ≡ true → match_ordering o (json.get_member name ms) (Some e) (json.get_member name ms) ≡ Some v → (json.get_member name ms ≡ Some v → is_plain v ≡ true) → is_plain v ≡ true
    by_order Less is there more = more there
    by_order Equal is there more = let same : e ≡ v = cc in subst (λ x. is_plain x ≡ true) same is
    by_order Greater is there more = more there

plain_got : (name : List ℕ) (d v : Data) → is_plain d ≡ true → json.get name d ≡ Some v → is_plain v ≡ true
plain_got name null v plain there = cc
plain_got name (boolean b) v plain there = cc
plain_got name (number n) v plain there = cc
plain_got name (string s) v plain there = cc
plain_got name (array ds) v plain there = cc
plain_got name (object ms) v plain there = plain_member name ms v plain there

-- ---- one key

-- the value shows the key of that identifier, within its limits
pub record IsShown (keyid : List ℕ) (v : Data) (key : RootKey) : Type 0 where
  pub named : key.keyid ≡ keyid
  pub fits : key_fits key ≡ true
  pub object_is : (ms : Members) × (v ≡ object ms)
  pub method : HasText v (codes "method") key.method
  pub public : HasText v (codes "public") key.shown

shown_read : (least most : ℕ) (name : List ℕ) (d : Data) (t : List ℕ) → shown_in least most name d ≡ Ok t → HasText d name t × (is_short_text least most t ≡ true)
unfolding shown_in
shown_read least most name d t h = first_ok _ _ _ _ h (λ s has h. let p = fits_read (is_short_text least most) (codes "keys") s t h in (subst (HasText d name) p.1 (text_part_read (codes "keys") name d s has), p.0))

shown_there : (least most : ℕ) (name : List ℕ) (d : Data) (t : List ℕ) → HasText d name t → is_short_text least most t ≡ true → shown_in least most name d ≡ Ok t
unfolding shown_in
shown_there least most name d t has ok = bind-ok _ _ t (text_part_there (codes "keys") name d t has) ∙ fits_there (is_short_text least most) (codes "keys") t ok

key_read : (keyid : List ℕ) (v : Data) (key : RootKey) → key_of (keyid, v) ≡ Ok key → IsShown keyid v key
unfolding key_of
key_read keyid v key h =
    first_ok _ _ _ _ h (λ id a h. first_ok _ _ _ _ h (λ d b h. first_ok _ _ _ _ h (λ method c h. first_ok _ _ _ _ h (λ shown e h.
    let i = fits_read (is_short_text 1 128) (codes "keys") keyid id a in
    let m = shown_read 1 64 (codes "method") d method c in
    let s = shown_read 0 1024 (codes "public") d shown e in
    subst (IsShown keyid v) (same_ok _ _ h) (subst (λ x. IsShown keyid x (record { keyid = id; method = method; shown = shown })) (sym (self_read (codes "keys") v d b)) (record {
      named = sym i.1;
      fits = rw (i.0, m.1, s.1) refl;
      object_is = has_member (codes "method") d _ m.0;
      method = m.0;
      public = s.0;
    }))))))

pub key_there : (keyid : List ℕ) (v : Data) (key : RootKey) → IsShown keyid v key → key_of (keyid, v) ≡ Ok key
unfolding key_of
key_there keyid v key h =
    let p = and_parts _ _ h.fits in
    let q = and_parts (is_short_text 1 128 key.keyid) _ p.0 in
    ap (λ id. key_of (id, v)) (sym h.named)
    ∙ bind-ok _ _ key.keyid (fits_there (is_short_text 1 128) (codes "keys") key.keyid q.0)
    ∙ bind-ok _ _ v (self_there (codes "keys") v h.object_is)
    ∙ bind-ok _ _ key.method (shown_there 1 64 (codes "method") v key.method h.method q.1)
    ∙ bind-ok _ _ key.shown (shown_there 0 1024 (codes "public") v key.shown h.public p.1)

-- ---- keys of an object, in the order of its members

abbrev pub with_id : List ℕ → RootKey → Bool
with_id keyid key = bytes_eq key.keyid keyid

abbrev pub AreListed : Members → List RootKey → Type 0
AreListed ms keys = each key_of (members_list ms) ≡ Ok keys

-- a key that is found by its identifier is the one that the member of that name shows
pub found_shown : (ms : Members) (keys : List RootKey) → AreListed ms keys → (keyid : List ℕ) (key : RootKey) → find (with_id keyid) keys ≡ Some key
    → (v : Data) × (json.get_member keyid ms ≡ Some v) × IsShown keyid v key
unfolding each
found_shown no_members [] h keyid key found = cc
found_shown no_members (y ∷ ys) h keyid key found = cc
found_shown (member k w ms) keys h keyid key found =
    first_ok _ _ _ _ h (λ y a h. first_ok _ _ _ _ h (λ ys b h.
    let shown = key_read k w y a in
    by_test y shown (bytes_eq y.keyid keyid) refl ys (ap (find (with_id keyid)) (same_ok _ _ h) ∙ found) (found_shown ms ys b keyid key)))
  where
    by_test : (y : RootKey) → IsShown k w y → (b : Bool) → bytes_eq y.keyid keyid ≡ b → (ys : List RootKey) → cond b (Some y) (find (with_id keyid) ys) ≡ Some key
        → (find (with_id keyid) ys ≡ Some key → (v : Data) × (json.get_member keyid ms ≡ Some v) × IsShown keyid v key)
        → (v : Data) × (json.get_member keyid (member k w ms) ≡ Some v) × IsShown keyid v key
    by_test y shown true is ys found more =
        let name : k ≡ keyid = sym shown.named ∙ (bytes_decides y.keyid keyid).0 is in
        let same : y ≡ key = cc in
        (w, ap (λ id. json.get_member id (member k w ms)) (sym name) ∙ get-own k w ms, subst (λ id. IsShown id w key) name (subst (IsShown k w) same shown))
    by_test y shown false is ys found more =
        let m = more found in
        (m.0, get-other keyid k w ms (ap (λ id. bytes_eq id keyid) (sym shown.named) ∙ is) ∙ m.1, m.2)

-- and a key that a member shows is found by its identifier
found_there : (ms : Members) (keys : List RootKey) → AreListed ms keys → (key : RootKey) (v : Data) → json.get_member key.keyid ms ≡ Some v → IsShown key.keyid v key
    → find (with_id key.keyid) keys ≡ Some key
unfolding each
found_there no_members keys h key v there shown = cc
found_there (member k w ms) keys h key v there shown =
    first_ok _ _ _ _ h (λ y a h. first_ok _ _ _ _ h (λ ys b h.
    sym (ap (find (with_id key.keyid)) (same_ok _ _ h)) ∙ by_test y a (bytes_eq y.keyid key.keyid) refl ys (λ deeper. found_there ms ys b key v deeper shown)))
  where
    by_test : (y : RootKey) → key_of (k, w) ≡ Ok y → (b : Bool) → bytes_eq y.keyid key.keyid ≡ b → (ys : List RootKey) → (json.get_member key.keyid ms ≡ Some v → find (with_id key.keyid) ys ≡ Some key)
        → cond b (Some y) (find (with_id key.keyid) ys) ≡ Some key
    by_test y a true is ys more =
        let own = key_read k w y a in
        let name : k ≡ key.keyid = sym own.named ∙ (bytes_decides y.keyid key.keyid).0 is in
        let value : w ≡ v = one_value _ w v (ap (λ id. json.get_member id (member k w ms)) (sym name) ∙ get-own k w ms) there in
        ap Some (same_ok y key (sym a ∙ key_there k w key (subst (λ id. IsShown id w key) (sym name) (subst (λ x. IsShown key.keyid x key) (sym value) shown))))
    by_test y a false is ys more =
        let own = key_read k w y a in
        more (sym (get-other key.keyid k w ms (ap (λ id. bytes_eq id key.keyid) (sym own.named) ∙ is)) ∙ there)

-- each member is a key that passes a test
pub named_passes : (ms : Members) (keys : List RootKey) → AreListed ms keys → (p : RootKey → Bool) → list_all p keys ≡ true → (keyid : List ℕ) (v : Data) → json.get_member keyid ms ≡ Some v
    → (key : RootKey) × (key.keyid ≡ keyid) × (p key ≡ true)
unfolding each
named_passes no_members keys h p all keyid v there = cc
named_passes (member k w ms) keys h p all keyid v there =
    first_ok _ _ _ _ h (λ y a h. first_ok _ _ _ _ h (λ ys b h.
    let own = key_read k w y a in
    let q = and_parts (p y) _ (ap (list_all p) (same_ok _ _ h) ∙ all) in
    by_test y own.named q.0 (bytes_eq k keyid) refl (λ other. named_passes ms ys b p q.1 keyid v (sym (get-other keyid k w ms other) ∙ there))))
  where
    by_test : (y : RootKey) → y.keyid ≡ k → p y ≡ true → (b : Bool) → bytes_eq k keyid ≡ b → (bytes_eq k keyid ≡ false → (key : RootKey) × (key.keyid ≡ keyid) × (p key ≡ true))
        → (key : RootKey) × (key.keyid ≡ keyid) × (p key ≡ true)
    by_test y named passes true is more = (y, named ∙ (bytes_decides k keyid).0 is, passes)
    by_test y named passes false is more = more is

-- where each member shows a key that passes a test, the keys are read
listed_there : (p : RootKey → Bool) (ms : Members) → members_are_plain ms ≡ true → ((keyid : List ℕ) (v : Data) → json.get_member keyid ms ≡ Some v → (key : RootKey) × IsShown keyid v key × (p key ≡ true))
    → (keys : List RootKey) × AreListed ms keys × (list_all p keys ≡ true)
unfolding each
listed_there p no_members plain each_member = ([], refl, refl)
listed_there p (member k w ms) plain each_member =
    let q = and_parts (is_printable_text k) _ plain in
    let r = and_parts (comes_first k ms) _ q.1 in
    let s = and_parts (is_plain w) _ r.1 in
    let first = each_member k w (get-own k w ms) in
    let rest = listed_there p ms s.1 (λ keyid v there.
    let before = comes_before k ms r.0 s.1 keyid v there in
    each_member keyid v (get-other keyid k w ms (sym (is_eq-slice_cmp k keyid) ∙ ap is_eq before) ∙ there)) in
    (first.0 ∷ rest.0, bind-ok _ _ first.0 (key_there k w first.0 first.1) ∙ bind-ok _ _ rest.0 rest.1, both _ _ first.2 rest.2)

-- ---- roles

-- a text that is the identifier of the key, which is found by it
abbrev IsChosen : List RootKey → Data → RootKey → Type 0
IsChosen keys d key = IsKeyId d key × (find (with_id key.keyid) keys ≡ Some key)

found_passes : (p : RootKey → Bool) (keys : List RootKey) (key : RootKey) → find p keys ≡ Some key → p key ≡ true
found_passes p [] key h = cc
found_passes p (y ∷ ys) key h = by_test (p y) refl h (found_passes p ys key)
  where
    by_test : (b : Bool) → p y ≡ b → cond b (Some y) (find p ys) ≡ Some key → (find p ys ≡ Some key → p key ≡ true) → p key ≡ true
    by_test true is h more = let same : y ≡ key = cc in subst (λ x. p x ≡ true) same is
    by_test false is h more = more h

chosen_read : (keys : List RootKey) (d : Data) (key : RootKey) → chosen_key keys d ≡ Ok key → IsChosen keys d key
unfolding chosen_key text_of
chosen_read keys d key h = first_ok _ _ _ _ h (λ keyid a h.
    let found = or_error_ok _ _ key h in
    let same : key.keyid ≡ keyid = (bytes_decides key.keyid keyid).0 (found_passes (with_id keyid) keys key found) in
    (is_text d keyid (or_error_ok _ _ keyid a) ∙ ap string (sym same), ap (λ id. find (with_id id) keys) same ∙ found))

chosen_there : (keys : List RootKey) (d : Data) (key : RootKey) → IsChosen keys d key → chosen_key keys d ≡ Ok key
unfolding chosen_key text_of
chosen_there keys d key h = rw h.0 (bind-ok _ _ key.keyid refl ∙ ap (or_error (BadShape (codes "roles"))) h.1)

-- what is said of each key and text, of each key
each_key_id : (keys : List RootKey) (ds : Items) (chosen : List RootKey) → EachMeans (IsChosen keys) ds chosen → EachMeans IsKeyId ds chosen
each_key_id keys no_items [] h = tt
each_key_id keys no_items (x ∷ xs) h = absurd h
each_key_id keys (item d ds) [] h = absurd h
each_key_id keys (item d ds) (x ∷ xs) h = (h.0.0, each_key_id keys ds xs h.1)

-- what is known of a key of a role
abbrev pub IsKeyOf : Members → RootKey → Type 0
IsKeyOf ms key = (v : Data) × (json.get_member key.keyid ms ≡ Some v) × IsShown key.keyid v key

each_chosen_shown : (ms : Members) (keys : List RootKey) → AreListed ms keys → (ds : Items) (chosen : List RootKey) → EachMeans (IsChosen keys) ds chosen → AllByRecursion (IsKeyOf ms) chosen
each_chosen_shown ms keys listed no_items [] h = tt
each_chosen_shown ms keys listed no_items (x ∷ xs) h = absurd h
each_chosen_shown ms keys listed (item d ds) [] h = absurd h
each_chosen_shown ms keys listed (item d ds) (x ∷ xs) h = (found_shown ms keys listed x.keyid x h.0.1, each_chosen_shown ms keys listed ds xs h.1)

each_shown_chosen : (ms : Members) (keys : List RootKey) → AreListed ms keys → (ds : Items) (chosen : List RootKey) → EachMeans IsKeyId ds chosen → AllByRecursion (IsKeyOf ms) chosen → EachMeans (IsChosen keys) ds chosen
each_shown_chosen ms keys listed no_items [] h shown = tt
each_shown_chosen ms keys listed no_items (x ∷ xs) h shown = absurd h
each_shown_chosen ms keys listed (item d ds) [] h shown = absurd h
each_shown_chosen ms keys listed (item d ds) (x ∷ xs) h shown = ((h.0, found_there ms keys listed x shown.0.0 shown.0.1 shown.0.2), each_shown_chosen ms keys listed ds xs h.1 shown.1)

pub keys_shown : (ms : Members) (keys : List RootKey) → AllByRecursion (IsKeyOf ms) keys → AllByRecursion (ShowsKey (object ms)) keys
keys_shown ms [] h = tt
keys_shown ms (x ∷ xs) h =
    let s = h.0.2 in
    (record { shown = h.0.0; has_key = (s.object_is.0, h.0.1 ∙ ap Some s.object_is.1, s.object_is.1); method = s.method; public = s.public }, keys_shown ms xs h.1)

keys_fit : (ms : Members) (keys : List RootKey) → AllByRecursion (IsKeyOf ms) keys → list_all key_fits keys ≡ true
keys_fit ms [] h = refl
keys_fit ms (x ∷ xs) h = both _ _ h.0.2.fits (keys_fit ms xs h.1)

keys_of_shown : (ms : Members) (keys : List RootKey) → list_all key_fits keys ≡ true → AllByRecursion (ShowsKey (object ms)) keys → AllByRecursion (IsKeyOf ms) keys
keys_of_shown ms [] fit h = tt
keys_of_shown ms (x ∷ xs) fit h =
    let p = and_parts (key_fits x) _ fit in
    let s = h.0 in
    ((s.shown, s.has_key.1 ∙ ap Some (sym s.has_key.2), record { named = refl; fits = p.0; object_is = (s.has_key.0, s.has_key.2); method = s.method; public = s.public }), keys_of_shown ms xs p.1 h.1)

role_read : (ms : Members) (keys : List RootKey) → AreListed ms keys → (name : List ℕ) (roles : Data) (role : RoleKeys) → role_in keys name roles ≡ Ok role → MeansRole (object ms) roles name role
unfolding role_in
role_read ms keys listed name roles role h =
    first_ok _ _ _ _ h (λ value a h. first_ok _ _ _ _ h (λ ids b h. first_ok _ _ _ _ h (λ chosen c h. first_ok _ _ _ _ h (λ threshold e h.
    let l = few_part_read 1 4 (codes "roles") (codes "keyids") value ids b in
    let p = fits_read role_is_met (codes "roles") (record { keys = chosen; threshold = threshold }) role h in
    let each_one = each_read (chosen_key keys) (IsChosen keys) (chosen_read keys) l.0 chosen (ap (each (chosen_key keys)) l.2 ∙ c) in
    let shown = each_chosen_shown ms keys listed l.0 chosen each_one in
    let number : is_from_to 1 4 (length chosen) ≡ true = ap (is_from_to 1 4) (sym (ap length (sym l.2) ∙ each_size (IsChosen keys) l.0 chosen each_one)) ∙ l.3 in
    let met : role_is_met (record { keys = chosen; threshold = threshold }) ≡ true = subst (λ r. role_is_met r ≡ true) (sym p.1) p.0 in
    subst (MeansRole (object ms) roles name) p.1 (record {
      value = value;
      has_role = object_part_read (codes "roles") name roles value a;
      listed = l.0;
      has_keyids = l.1;
      keyids = each_key_id keys l.0 chosen each_one;
      shown = keys_shown ms chosen shown;
      threshold = count_part_read (codes "roles") (codes "threshold") value threshold e;
      fits = both _ _ (both _ _ number met) (keys_fit ms chosen shown);
    })))))

role_there : (ms : Members) (keys : List RootKey) → AreListed ms keys → (name : List ℕ) (roles : Data) (role : RoleKeys) → MeansRole (object ms) roles name role → role_in keys name roles ≡ Ok role
unfolding role_in
role_there ms keys listed name roles role h =
    let p = and_parts _ _ h.fits in
    let q = and_parts (is_from_to 1 4 (length role.keys)) _ p.0 in
    let few = ap (is_from_to 1 4) (each_size IsKeyId h.listed role.keys h.keyids) ∙ q.0 in
    let chosen = each_shown_chosen ms keys listed h.listed role.keys h.keyids (keys_of_shown ms role.keys p.1 h.shown) in
    bind-ok _ _ h.value (object_part_there (codes "roles") name roles h.value h.has_role)
    ∙ bind-ok _ _ (items_list h.listed) (few_part_there 1 4 (codes "roles") (codes "keyids") h.value h.listed h.has_keyids few)
    ∙ bind-ok _ _ role.keys (each_there (chosen_key keys) (IsChosen keys) (chosen_there keys) h.listed role.keys chosen)
    ∙ bind-ok _ _ role.threshold (count_part_there (codes "roles") (codes "threshold") h.value role.threshold h.threshold)
    ∙ fits_there role_is_met (codes "roles") role q.1

-- ---- the file

pub any_used : (file : RootFile) (key : RootKey) → list_any (with_id key.keyid) (all_keys file) ≡ is_used file key
any_used file key =
    rw (
      list_any-append (with_id key.keyid) (file.root.keys ++ file.targets.keys ++ file.snapshot.keys) file.timestamp.keys,
      list_any-append (with_id key.keyid) (file.root.keys ++ file.targets.keys) file.snapshot.keys,
      list_any-append (with_id key.keyid) file.root.keys file.targets.keys,
    ) refl

-- the file of these parts
abbrev made : Head → RoleKeys → RoleKeys → RoleKeys → RoleKeys → RootFile
made head root targets snapshot timestamp =
    record { repository = head.repository; version = head.version; expires = head.expires; root = root; targets = targets; snapshot = snapshot; timestamp = timestamp }

root_read : Moments → (d : Data) (file : RootFile) → root_of d ≡ Ok file → MeansRoot d file
unfolding root_of keys_in
root_read moments d file h =
    first_ok _ _ _ _ h (λ head a h. first_ok _ _ _ _ h (λ keys b h. first_ok _ _ _ _ h (λ roles c h.
    first_ok _ _ _ _ h (λ root e h. first_ok _ _ _ _ h (λ targets f h. first_ok _ _ _ _ h (λ snapshot g h. first_ok _ _ _ _ h (λ timestamp i h.
    first_ok _ _ _ _ b (λ shown j b.
    let has = object_read (codes "keys") d shown j in
    let ms = has.0 in
    let listed : AreListed ms keys = ap (λ x. each key_of (object_members x)) (sym has.2) ∙ b in
    let parts = made head root targets snapshot timestamp in
    let p = fits_read (λ (x : RootFile). list_all (is_used x) keys) (codes "roles") parts file h in
    subst (MeansRoot d) p.1 (record {
      head = head_read moments (codes "root") d head a;
      keys = object ms;
      has_keys = (ms, has.1, refl);
      roles = roles;
      has_roles = object_read (codes "roles") d roles c;
      root = role_read ms keys listed (codes "root") roles root e;
      targets = role_read ms keys listed (codes "targets") roles targets f;
      snapshot = role_read ms keys listed (codes "snapshot") roles snapshot g;
      timestamp = role_read ms keys listed (codes "timestamp") roles timestamp i;
      no_others = λ keyid v there.
          let used = subst (λ (x : RootFile). list_all (is_used x) keys ≡ true) (sym p.1) p.0 in
          let key = named_passes ms keys listed (is_used parts) used keyid v there in
          subst (λ id. list_any (with_id id) (all_keys parts) ≡ true) key.1 (any_used parts key.0 ∙ key.2);
    })))))))))

any_at : {A : Type 0} (P : A → Type 0) (p : A → Bool) (xs : List A) → AllByRecursion P xs → list_any p xs ≡ true → (x : A) × P x × (p x ≡ true)
any_at P p [] h some = cc
any_at {A = A} P p (x ∷ xs) h some = by_test (p x) refl some (any_at P p xs h.1)
  where
    by_test : (b : Bool) → p x ≡ b → (b || list_any p xs) ≡ true → (list_any p xs ≡ true → (y : A) × P y × (p y ≡ true)) → (y : A) × P y × (p y ≡ true)
    by_test true is some more = (x, h.0, is)
    by_test false is some more = more some

-- the keys of a role whose members these are
role_keys : (ms : Members) (roles : Data) (name : List ℕ) (role : RoleKeys) → MeansRole (object ms) roles name role → AllByRecursion (IsKeyOf ms) role.keys
role_keys ms roles name role h = keys_of_shown ms role.keys (and_parts _ _ h.fits).1 h.shown

root_there : Moments → (d : Data) (file : RootFile) → is_plain d ≡ true → MeansRoot d file → root_of d ≡ Ok file
unfolding root_of keys_in
root_there moments d file plain h =
    let ms = h.has_keys.0 in
    let same = h.has_keys.2 in
    let root : MeansRole (object ms) h.roles (codes "root") file.root = subst (λ x. MeansRole x h.roles (codes "root") file.root) same h.root in
    let targets : MeansRole (object ms) h.roles (codes "targets") file.targets = subst (λ x. MeansRole x h.roles (codes "targets") file.targets) same h.targets in
    let snapshot : MeansRole (object ms) h.roles (codes "snapshot") file.snapshot = subst (λ x. MeansRole x h.roles (codes "snapshot") file.snapshot) same h.snapshot in
    let timestamp : MeansRole (object ms) h.roles (codes "timestamp") file.timestamp = subst (λ x. MeansRole x h.roles (codes "timestamp") file.timestamp) same h.timestamp in
    let all : AllByRecursion (IsKeyOf ms) (all_keys file) =
    each_of_both (IsKeyOf ms) (file.root.keys ++ file.targets.keys ++ file.snapshot.keys) file.timestamp.keys
    (each_of_both (IsKeyOf ms) (file.root.keys ++ file.targets.keys) file.snapshot.keys
    (each_of_both (IsKeyOf ms) file.root.keys file.targets.keys (role_keys ms h.roles (codes "root") file.root root) (role_keys ms h.roles (codes "targets") file.targets targets))
    (role_keys ms h.roles (codes "snapshot") file.snapshot snapshot))
    (role_keys ms h.roles (codes "timestamp") file.timestamp timestamp) in
    let members = listed_there (is_used file) ms (plain_got (codes "keys") d (object ms) plain h.has_keys.1) (λ keyid v there.
    let named = h.no_others keyid v (ap (json.get keyid) same ∙ there) in
    let at = any_at (IsKeyOf ms) (with_id keyid) (all_keys file) all named in
    let key = at.0 in
    let id : key.keyid ≡ keyid = (bytes_decides key.keyid keyid).0 at.2 in
    let value : at.1.0 ≡ v = one_value _ at.1.0 v (ap (λ x. json.get_member x ms) (sym id) ∙ at.1.1) there in
    (key, subst (λ x. IsShown x v key) id (subst (λ x. IsShown key.keyid x key) value at.1.2), sym (any_used file key) ∙ subst (λ x. list_any (with_id x) (all_keys file) ≡ true) (sym id) named)) in
    let keys = members.0 in
    bind-ok _ _ _ (head_there moments (codes "root") d file.repository file.version file.expires h.head)
    ∙ bind-ok _ _ keys (bind-ok _ _ h.keys (object_there (codes "keys") d h.keys h.has_keys) ∙ ap (λ x. each key_of (object_members x)) same ∙ members.1)
    ∙ bind-ok _ _ h.roles (object_there (codes "roles") d h.roles h.has_roles)
    ∙ bind-ok _ _ file.root (role_there ms keys members.1 (codes "root") h.roles file.root root)
    ∙ bind-ok _ _ file.targets (role_there ms keys members.1 (codes "targets") h.roles file.targets targets)
    ∙ bind-ok _ _ file.snapshot (role_there ms keys members.1 (codes "snapshot") h.roles file.snapshot snapshot)
    ∙ bind-ok _ _ file.timestamp (role_there ms keys members.1 (codes "timestamp") h.roles file.timestamp timestamp)
    ∙ fits_there (λ (x : RootFile). list_all (is_used x) keys) (codes "roles") file members.2

-- ---- faults

shapes : AllowsShapes IsTextFault
shapes = record { shape = λ name. tt }

shown_fails : (least most : ℕ) (name : List ℕ) (d : Data) → Fails IsTextFault (shown_in least most name d)
unfolding shown_in
shown_fails least most name d = then_fails _ _ (text_part_fails shapes (codes "keys") name d) (λ t. fitting_fails shapes (is_short_text least most) (codes "keys") t)

key_fails : (m : List ℕ × Data) → Fails IsTextFault (key_of m)
unfolding key_of
key_fails m =
    then_fails _ _ (fitting_fails shapes (is_short_text 1 128) (codes "keys") m.0) (λ keyid.
    then_fails _ _ (self_fails shapes (codes "keys") m.1) (λ d.
    then_fails _ _ (shown_fails 1 64 (codes "method") d) (λ method.
    then_fails _ _ (shown_fails 0 1024 (codes "public") d) (λ shown. ok_fails _))))

chosen_fails : (keys : List RootKey) (d : Data) → Fails IsTextFault (chosen_key keys d)
unfolding chosen_key text_of
chosen_fails keys d = then_fails _ _ (or_error_fails (BadShape (codes "roles")) _ tt) (λ keyid. or_error_fails (BadShape (codes "roles")) _ tt)

role_fails : (keys : List RootKey) (name : List ℕ) (roles : Data) → Fails IsTextFault (role_in keys name roles)
unfolding role_in
role_fails keys name roles =
    then_fails _ _ (object_part_fails shapes (codes "roles") name roles) (λ value.
    then_fails _ _ (few_part_fails shapes 1 4 (codes "roles") (codes "keyids") value) (λ ids.
    then_fails _ _ (each_fails (chosen_key keys) (chosen_fails keys) ids) (λ chosen.
    then_fails _ _ (count_part_fails shapes (codes "roles") (codes "threshold") value) (λ threshold. fitting_fails shapes role_is_met (codes "roles") (record { keys = chosen; threshold = threshold })))))

root_fails : (d : Data) → Fails IsTextFault (root_of d)
unfolding root_of keys_in
root_fails d =
    then_fails _ _ (head_fails shapes (codes "root") d) (λ head.
    then_fails _ _ (then_fails _ _ (object_fails shapes (codes "keys") d) (λ shown. each_fails key_of key_fails (object_members shown))) (λ keys.
    then_fails _ _ (object_fails shapes (codes "roles") d) (λ roles.
    then_fails _ _ (role_fails keys (codes "root") roles) (λ root.
    then_fails _ _ (role_fails keys (codes "targets") roles) (λ targets.
    then_fails _ _ (role_fails keys (codes "snapshot") roles) (λ snapshot.
    then_fails _ _ (role_fails keys (codes "timestamp") roles) (λ timestamp. fitting_fails shapes (λ (x : RootFile). list_all (is_used x) keys) (codes "roles") (made head root targets snapshot timestamp))))))))

pub roots_read : Moments → ReadsAs root_of MeansRoot
roots_read moments = record { read = root_read moments; there = root_there moments; fails = root_fails }
