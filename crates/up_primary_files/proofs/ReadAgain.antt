-- The file of a state that is written is read again as the state.
use Rattle.std.proofs.Common.{◌≡◌, ℕ, suc, max, ◌≤◌, List, [], ◌∷◌, Bool, true, Some, Result, Ok, Err, length, map, refl, ap, ◌∙◌, subst, arith}
use Rattle.std.specs.Prelude.{codes, nat_le, ◌&&◌, IfOk, IsUtf8, String, string_bytes}
use Rattle.std.specs.List.{list_all}
use Rattle.std.proofs.lemmas.Bool.{and_parts}
use Rattle.std.proofs.lemmas.Bool.Decides.{nat_tests}
use Rattle.hex.specs.Hex.{encode_lower, lower_digits}
use Rattle.hex.proofs.HexLemmas.{length-encode_with, decode_of-encode_lower}
use Rattle.serde_json.specs.Data.{Data, string, depth, items_depth}
use Rattle.serde_json.specs.Find as json
use Rattle.serde_json.specs.Read.{read, max_depth}
use Rattle.serde_json.specs.View.{items_of}
use Rattle.up_canon.specs.Build.{list_with, hex_value}
use Rattle.up_canon.specs.Canon.{max_count}
use Rattle.up_canon.specs.HexText.{hex_of}
use Rattle.up_canon.specs.Members.{items_list, text_of, list_in}
use Rattle.up_canon.specs.Names.{Name, is_from_to, is_ident}
use Rattle.up_canon.specs.Readers.{ident_of}
use Rattle.up_canon.specs.Steps.{◌>>=◌, each, or_error, value_of}
use Rattle.up_canon.specs.declared.refusal.Refusal.{Refusal}
use Rattle.up_canon.specs.declared.refusal.Refusal.TheVariants.{BadShape, NotJson}
use Rattle.up_canon.proofs.ByteTests.{bytes_placed}
use Rattle.up_canon.proofs.JsonTexts.{value_read}
use Rattle.up_canon.proofs.Lists.{items_listed}
use Rattle.up_canon.proofs.Members.{text_there, count_there, list_there, object_there, self_there, fits_there, ident_there, within, within_there}
use Rattle.up_canon.proofs.Steps.{bind-ok, first_ok}
use Rattle.up_roles.specs.Payload.{largest_file, file_in}
use Rattle.up_roles.specs.Root.{root_in}
use Rattle.up_verify.specs.declared.served.Served.{Served}
use Rattle.up_verify.specs.declared.trust.OwnEcu.{OwnEcu}
use Rattle.up_verify.specs.declared.trust.Primary.{Primary}
use Rattle.up_verify.specs.declared.trust.Trust.{Trust}
use Rattle.up_verify.specs.declared.trust.Versions.{Versions}
use Rattle.up_primary_files.specs.declared.method.Method.{Method}
use Rattle.up_primary_files.specs.declared.method.Method.TheVariants.{Hmac, Ed25519}
use Rattle.up_primary_files.specs.declared.state.State.{State}
use Rattle.up_primary_files.specs.States.{versions_of, root_of, trust_of, both_of, ecu_in, ecu_of, ecus_of, replaced_of, own_of, primary_of, method_of, held_of, texts_of, kept_of, state_behind, state_of, state_in}
use Rattle.up_primary_files.specs.Written.{method_name, trust_value, ecu_value, state_value, root_text, state_then, IsTold, ecu_fits, held_fits, IsWhole}

-- ---- what is trusted

versions_again : (text : List ℕ) (v : Versions) → v.timestamp ≤ max_count → v.snapshot ≤ max_count → v.targets ≤ max_count → versions_of (trust_value text v) ≡ Ok v
unfolding versions_of
versions_again text v t s g =
    let d = trust_value text v in
    bind-ok _ _ v.timestamp (count_there (codes "timestamp") d v.timestamp (refl, t))
    ∙ bind-ok _ _ v.snapshot (count_there (codes "snapshot") d v.snapshot (refl, s))
    ∙ bind-ok _ _ v.targets (count_there (codes "targets") d v.targets (refl, g))

trust_again : (text : List ℕ) (t : Trust) → IsTold text t → trust_of (trust_value text t.versions) ≡ Ok t
unfolding trust_of root_of
trust_again text t told =
    let d = trust_value text t.versions in
    bind-ok _ _ t.versions (versions_again text t.versions told.timestamp told.snapshot told.targets)
    ∙ bind-ok _ _ t.root (bind-ok _ _ text (text_there (codes "root") d text refl) ∙ bind-ok _ _ (t.root, told.envelope) told.read)

-- ---- lists

each_again : {A : Type 0} (step : Data → Result A Refusal) (f : A → Data) (p : A → Bool) → ((x : A) → p x ≡ true → step (f x) ≡ Ok x)
    → (xs : List A) → list_all p xs ≡ true → each step (map f xs) ≡ Ok xs
unfolding each
each_again step f p one [] h = refl
each_again step f p one (x ∷ xs) h = let q = and_parts (p x) _ h in bind-ok _ _ x (one x q.0) ∙ bind-ok _ _ xs (each_again step f p one xs q.1)

ecu_again : (place : List ℕ) (own : OwnEcu) → ecu_fits own ≡ true → ecu_of place (ecu_value own) ≡ Ok own
unfolding ecu_of ecu_in
ecu_again place own h =
    let release = and_parts (is_ident own.ecu && is_ident own.hardware) (nat_le own.release max_count) h in
    let names = and_parts (is_ident own.ecu) (is_ident own.hardware) release.0 in
    let test = release.1 in
    let d = ecu_value own in
    bind-ok _ _ d (self_there place d (_, refl))
    ∙ bind-ok _ _ own.ecu (ident_there (codes "ecu") d own.ecu refl names.0)
    ∙ bind-ok _ _ own.hardware (ident_there (codes "hardware") d own.hardware refl names.1)
    ∙ bind-ok _ _ own.release (count_there (codes "release") d own.release (refl, grind (arith, nat_tests)))

name_again : (place : List ℕ) (name : Name) → is_ident name ≡ true → ident_of place (string name) ≡ Ok name
unfolding ident_of text_of
name_again place name h = bind-ok _ _ name refl ∙ fits_there is_ident place name h

held_again : (place public : List ℕ) → held_fits public ≡ true → hex_of 2 128 place (hex_value public) ≡ Ok public
unfolding hex_of text_of
held_again place public h =
    let both = and_parts (is_from_to 1 64 (length public)) _ h in
    let size = within 1 64 (length public) both.0 in
    let low = size.0 in
    let high = size.1 in
    let digits = length-encode_with lower_digits public in
    bind-ok _ _ (encode_lower public) refl
    ∙ bind-ok _ _ (encode_lower public) (fits_there (λ t. is_from_to 2 128 (length t)) place (encode_lower public) (within_there 2 128 (length (encode_lower public)) (omega (arith, digits, low)) (omega (arith, digits, high))))
    ∙ ap (λ r. or_error (BadShape place) (value_of r)) (decode_of-encode_lower public (bytes_placed public both.1))

list_again : {A : Type 0} (name : List ℕ) (d : Data) (step : Data → Result A Refusal) (f : A → Data) (p : A → Bool) → ((x : A) → p x ≡ true → step (f x) ≡ Ok x)
    → (xs : List A) → json.get name d ≡ Some (list_with (map f xs)) → list_all p xs ≡ true → (list_in name d >>= each step) ≡ Ok xs
list_again name d step f p one xs has h =
    bind-ok _ _ (items_list (items_of (map f xs))) (list_there name d (items_of (map f xs)) has) ∙ ap (each step) (items_listed (map f xs)) ∙ each_again step f p one xs h

-- ---- all of it

method_again : (m : Method) (d : Data) → json.get (codes "method") d ≡ Some (string (method_name m)) → method_of d ≡ Ok m
unfolding method_of
method_again Hmac d has = bind-ok _ _ (codes "hmac-sha256") (text_there (codes "method") d (codes "hmac-sha256") has)
method_again Ed25519 d has = bind-ok _ _ (codes "ed25519") (text_there (codes "method") d (codes "ed25519") has)

-- a whole state is read again as itself
pub states_again : (s : State) → IsWhole s → state_of (state_value s) ≡ Ok s
unfolding state_of state_behind primary_of own_of ecus_of replaced_of both_of kept_of texts_of held_of
states_again s whole =
    let d = state_value s in
    let director = trust_value s.roots.director s.primary.director.versions in
    let image = trust_value s.roots.image s.primary.image.versions in
    let p = s.primary in
    bind-ok _ _ d (self_there (codes "state") d (_, refl))
    ∙ bind-ok _ _ director (object_there (codes "director") d director (_, refl, refl))
    ∙ bind-ok _ _ image (object_there (codes "image") d image (_, refl, refl))
    ∙ bind-ok _ _ s.method (method_again s.method d refl)
    ∙ bind-ok _ _ p (
    bind-ok _ _ (record { vehicle = p.vehicle; ecus = p.ecus; replaced = p.replaced }) (
    bind-ok _ _ p.vehicle (ident_there (codes "vehicle") d p.vehicle refl whole.vehicle)
    ∙ bind-ok _ _ p.ecus (list_again (codes "ecus") d (ecu_of (codes "ecus")) ecu_value ecu_fits (ecu_again (codes "ecus")) p.ecus refl whole.ecus)
    ∙ bind-ok _ _ p.replaced (list_again (codes "replaced") d (ident_of (codes "replaced")) string is_ident (name_again (codes "replaced")) p.replaced refl whole.replaced))
    ∙ bind-ok _ _ (record { director = p.director; image = p.image }) (
    bind-ok _ _ p.director (trust_again s.roots.director p.director whole.director) ∙ bind-ok _ _ p.image (trust_again s.roots.image p.image whole.image)))
    ∙ bind-ok _ _ (record { held = s.held; roots = s.roots }) (
    bind-ok _ _ s.roots (
    bind-ok _ _ s.roots.director (text_there (codes "root") director s.roots.director refl) ∙ bind-ok _ _ s.roots.image (text_there (codes "root") image s.roots.image refl))
    ∙ bind-ok _ _ s.held (list_again (codes "held") d (hex_of 2 128 (codes "held")) hex_value held_fits (held_again (codes "held")) s.held refl whole.held))

-- ---- as text

-- what is read as a Root is UTF-8
told_utf8 : (text : List ℕ) (t : Trust) → IsTold text t → IsUtf8 text
unfolding root_in file_in
told_utf8 text t told = first_ok _ _ _ _ told.read (λ value is h. (value_read largest_file text value is).1)

items_flat : {A : Type 0} (n : ℕ) (f : A → Data) → ((x : A) → depth (f x) ≤ n) → (xs : List A) → items_depth (items_of (map f xs)) ≤ n
items_flat n f one [] = omega arith
items_flat n f one (x ∷ xs) = let first = one x in let rest = items_flat n f one xs in omega (arith, first, rest)

of_depth : (a b c : ℕ) → a ≤ 1 → b ≤ 1 → c ≤ 1 → suc (max 1 (max (suc a) (max (suc b) (max 1 (max 0 (max (suc c) (max 0 0))))))) ≤ max_depth
of_depth a b c h i j = omega (arith, h, i, j)

flat : (s : State) → depth (state_value s) ≤ max_depth
flat s = of_depth (items_depth (items_of (map ecu_value s.primary.ecus))) (items_depth (items_of (map hex_value s.held))) (items_depth (items_of (map string s.primary.replaced)))
    (items_flat 1 ecu_value (λ own. omega arith) s.primary.ecus) (items_flat 1 hex_value (λ public. omega arith) s.held) (items_flat 1 string (λ name. omega arith) s.primary.replaced)

-- the state, with these texts of Roots
abbrev pub with_texts : State → Primary → List ℕ → List ℕ → State
with_texts before next director image = record { method = before.method; held = before.held; primary = next; roots = record { director = director; image = image } }

-- A text that says a state whose Roots have these texts is read as it.
pub text_again : (before : State) (next : Primary) (served : Served) (text director image : List ℕ)
    → (IsUtf8 (root_text before.roots.director before.primary.director.root.version served.director_roots next.director.root.version)
    → director ≡ root_text before.roots.director before.primary.director.root.version served.director_roots next.director.root.version)
    → (IsUtf8 (root_text before.roots.image before.primary.image.root.version served.image_roots next.image.root.version)
    → image ≡ root_text before.roots.image before.primary.image.root.version served.image_roots next.image.root.version)
    → (depth (state_value (with_texts before next director image)) ≤ max_depth → read text ≡ Some (state_value (with_texts before next director image)))
    → IsWhole (state_then before next served) → state_in text ≡ Ok (state_then before next served)
unfolding state_in
text_again before next served text director image of_director of_image reads whole =
    let s = state_then before next served in
    let d = of_director (told_utf8 _ _ whole.director) in
    let i = of_image (told_utf8 _ _ whole.image) in
    let same : with_texts before next director image ≡ s = ap (λ (d : List ℕ). with_texts before next d image) d ∙ ap (λ (i : List ℕ). with_texts before next s.roots.director i) i in
    bind-ok _ _ (state_value s) (ap (or_error NotJson) (reads (flat (with_texts before next director image)) ∙ ap (λ (x : State). Some (state_value x)) same)) ∙ states_again s whole

-- the same, where the texts are told otherwise
pub told_so : (a b : List ℕ) (first : ℕ) (xs ys : List (List ℕ)) (version : ℕ) (r : List ℕ) → a ≡ b → xs ≡ ys
    → (IsUtf8 (root_text a first xs version) → r ≡ root_text a first xs version) → IsUtf8 (root_text b first ys version) → r ≡ root_text b first ys version
told_so a b first xs ys version r p q h = subst (λ (a : List ℕ). IsUtf8 (root_text a first ys version) → r ≡ root_text a first ys version) p
    (subst (λ (xs : List (List ℕ)). IsUtf8 (root_text a first xs version) → r ≡ root_text a first xs version) q h)

-- What is written of that state's value is read as it.
pub written_again : {A E : Type 0} (before : State) (next : Primary) (served : Served) (director image : List ℕ) (value : Data) (r : Result (String A) E) → value ≡ state_value (with_texts before next director image)
    → (IsUtf8 (root_text before.roots.director before.primary.director.root.version served.director_roots next.director.root.version)
    → director ≡ root_text before.roots.director before.primary.director.root.version served.director_roots next.director.root.version)
    → (IsUtf8 (root_text before.roots.image before.primary.image.root.version served.image_roots next.image.root.version)
    → image ≡ root_text before.roots.image before.primary.image.root.version served.image_roots next.image.root.version)
    → IfOk r (λ s. depth value ≤ max_depth → read (string_bytes s) ≡ Some value)
    → IfOk r (λ s. IsWhole (state_then before next served) → state_in (string_bytes s) ≡ Ok (state_then before next served))
written_again before next served director image value (Err e) is d i h = h
written_again before next served director image value (Ok s) is d i h = text_again before next served (string_bytes s) director image d i (subst (λ (v : Data). depth v ≤ max_depth → read (string_bytes s) ≡ Some v) is h)
