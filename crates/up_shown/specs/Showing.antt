-- Public parts that are read back from what a Root shows of them.
use Rattle.std.specs.Prelude.{◌≡◌, ℕ, List, Option, Some, None, IsTrue}
use Rattle.up_sign.specs.Schemes.{Rules}

-- a scheme, with the public part that a shown text means, if any
pub record Showing : Type 0 where
  pub rules : Rules
  pub read_shown : List ℕ → Option (List ℕ)

-- what is read is a public part that is shown so
abbrev pub ReadsShown : Showing → Type 0
ReadsShown k = (shown p : List ℕ) → k.read_shown shown ≡ Some p → (k.rules.shown p ≡ shown) × IsTrue (k.rules.public_fits p)

-- a scheme by its rules and by what it reads
abbrev pub showing : Rules → (List ℕ → Option (List ℕ)) → Showing
showing rules read = record { rules = rules; read_shown = read }

-- the public part of each secret is read
abbrev pub ShowsKeys : Showing → Type 0
ShowsKeys k = (s : List ℕ) → IsTrue (k.rules.secret_fits s) → k.read_shown (k.rules.shown (k.rules.public_of s)) ≡ Some (k.rules.public_of s)

-- a scheme that shows no key: no text means one
abbrev pub reads_none : List ℕ → Option (List ℕ)
reads_none shown = None

-- it keeps the law
pub none_is_read : (k : Rules) → ReadsShown (showing k reads_none)
none_is_read k shown p h = absurd (let e : None ≡ Some p = h in cc)
