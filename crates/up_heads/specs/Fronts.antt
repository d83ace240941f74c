-- What is said of the front of bytes.
use Rattle.std.specs.Prelude.{◌≡◌, ◌≤◌, List, ℕ, length}
use Rattle.httparse.specs.Grammar.{RequestHead, HasNoRequest, MayBecomeRequest}
use Rattle.httparse.specs.Spans.{span_bytes}
use Rattle.up_heads.specs.Heads.{Heads, NeverHasHead}
use Rattle.up_heads.specs.Framing.{framing}
use Rattle.up_heads.specs.Closing.{closes}
use Rattle.up_heads.specs.Methods.{verb_of}
use Rattle.up_heads.specs.declared.heads.Facts.{Facts}
use Rattle.up_heads.specs.declared.heads.Front.{Front}
use Rattle.up_heads.specs.declared.heads.Front.TheVariants.{Whole, Cut, Bad}

-- what a head says that is at the front of bytes
pub record IsFactsOf (bytes : List ℕ) (head : RequestHead) (facts : Facts) : Type 0 where
  pub framing_is : facts.framing ≡ framing head
  pub verb_is : facts.verb ≡ verb_of head.method
  pub closes_is : facts.closes ≡ closes head
  pub target_is : span_bytes bytes facts.target ≡ head.target
  pub ordered : facts.target.start ≤ facts.target.end
  pub inside : facts.target.end ≤ length bytes

-- what is said of bytes: they begin with a head of which that is said; they have none, and more bytes
-- may complete one; or they never have one
abbrev pub Fronts : List ℕ → Front → Type 0
Fronts bytes (Whole facts) = (head : RequestHead) × (after : List ℕ) × Heads bytes head after × IsFactsOf bytes head facts
Fronts bytes Cut = HasNoRequest bytes × MayBecomeRequest bytes
Fronts bytes Bad = NeverHasHead bytes
