-- A second scheme, for the tests: the public part is a hash of the secret.
use Rattle.std.proofs.Common.{refl, ap, arith}
use Rattle.std.specs.Prelude.{ℕ, ◌++◌, ◌==◌, List, length, codes, nat_le, bytes_eq}
use Rattle.sha2.specs.Sha256.{sha256}
use Rattle.sha2.proofs.Facts256.{length-sha256}
use Rattle.up_sign.specs.HmacLaws.{are_bytes-sha256, same_tag}
use Rattle.up_sign.specs.Schemes.{Rules, IsScheme}

-- the public part: the SHA-256 (FIPS 180-4) of a word and the secret
unfoldable pub hashed_public : List ℕ → List ℕ
hashed_public s = sha256 (codes "public " ++ s)

-- the scheme: a tag is the SHA-256 of the public part and the message
abbrev pub hashed : Rules
hashed = record {
  method = codes "sha256-tag";
  secret_fits = λ s. nat_le 1 (length s);
  public_fits = λ p. length p == 32;
  public_of = hashed_public;
  shown = λ p. codes "hash";
  tag = λ s m. sha256 (hashed_public s ++ m);
  is_valid = λ p m g. bytes_eq g (sha256 (p ++ m));
}

-- it keeps the laws of a scheme
pub hashed_lawful : IsScheme hashed
unfolding hashed_public
hashed_lawful = record {
  method = refl;
  shown = λ p. refl;
  public_fits = λ s h. ap (λ n. n == 32) (length-sha256 (codes "public " ++ s));
  tag_length = λ s m h. (omega (arith, length-sha256 (sha256 (codes "public " ++ s) ++ m)), omega (arith, length-sha256 (sha256 (codes "public " ++ s) ++ m)));
  tag_bytes = λ s m h. are_bytes-sha256 (sha256 (codes "public " ++ s) ++ m);
  tag_is_valid = λ s m h. same_tag (sha256 (sha256 (codes "public " ++ s) ++ m));
}
