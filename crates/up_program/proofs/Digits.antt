-- Hexadecimal digits are text.
use Rattle.std.proofs.lemmas.Bool.{ltb-true}
use Rattle.std.proofs.Common.{ℕ, ◌<◌, List, All, refl}
use Rattle.std.specs.Prelude.{IsUtf8, nat_lt, slice_index_or}
use Rattle.std.proofs.lemmas.List.Sums.{AllPass-from_list_all}
use Rattle.std.proofs.lemmas.Str.{IsUtf8-from_ascii}
use Rattle.std.proofs.lemmas.Str.Ascii.{IsAscii-from_all}
use Rattle.hex.specs.Hex.{encode_lower, lower_digits}
use Rattle.hex.proofs.HexLemmas.{IsAscii-encode_with}

digits-below : All (λ b. b < 128) lower_digits
digits-below k d h =
    let passes = AllPass-from_list_all (λ b. nat_lt b 128) lower_digits refl k d h in
    ltb-true (slice_index_or lower_digits k d) 128 passes

pub IsUtf8-encode_lower : (bytes : List ℕ) → IsUtf8 (encode_lower bytes)
IsUtf8-encode_lower bytes = IsUtf8-from_ascii (encode_lower bytes) (IsAscii-encode_with lower_digits bytes (IsAscii-from_all lower_digits digits-below))
