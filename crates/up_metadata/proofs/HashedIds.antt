-- The identifiers of keys that are hashed.
use Rattle.std.specs.Prelude.{◌≡◌, map, ℕ, ◌+◌, ◌<◌, ◌++◌, length, List, [], ◌∷◌, take, get_or}
use Rattle.std.proofs.Common.{ap, refl, ◌∙◌}
use Rattle.std.proofs.lemmas.List.{map_more, get_or-map}
use Rattle.up_sign.specs.Hmac.{block_key, key_id}
use Rattle.up_sign.specs.Envelopes.{identifier, key_block}
use Rattle.up_sign.specs.Schemes.{Rules}

-- one more identifier, computed of a key's block alone
pub one_more : (k : Rules) (keys hashed names : List (List ℕ)) (i : ℕ) (x id : List ℕ) → i < length keys → hashed ≡ map (key_block k) keys → x ≡ get_or hashed i x → names ≡ map (identifier k) (take i keys)
    → ((public : List ℕ) → x ≡ block_key public → id ≡ key_id public) → names ++ id ∷ [] ≡ map (identifier k) (take (i + 1) keys)
one_more k keys hashed names i x id low are at so_far told =
    let is = at ∙ ap (λ l. get_or l i x) are ∙ get_or-map (key_block k) keys i [] x low in
    rw (map_more (identifier k) keys i [] low, so_far, told (k.public_of (get_or keys i [])) is) refl
