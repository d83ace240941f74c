-- Steps that may fail, one after another.
use Rattle.std.specs.Prelude.{List, [], ◌∷◌, Bool, true, false, if◌then◌else◌, Option, Some, None, Result, Ok, Err, ⊤}

-- the next step, on the value of the first
unfoldable pub and_then : {E A B : Type 0} → Result A E → (A → Result B E) → Result B E
and_then (Ok x) f = f x
and_then (Err e) f = Err e

infixl 10 ◌>>=◌
abbrev pub ◌>>=◌ : {E A B : Type 0} → Result A E → (A → Result B E) → Result B E
r >>= f = and_then r f

-- nothing where the test passes, else the error
abbrev pub unless : {E : Type 0} → Bool → E → Result ⊤ E
unless true e = Ok tt
unless false e = Err e

-- the error where the test passes
abbrev pub refuse_if : {E : Type 0} → Bool → E → Result ⊤ E
refuse_if true e = Err e
refuse_if false e = Ok tt

-- the error that names the first
abbrev pub refuse_first : {E A : Type 0} → (A → E) → Option A → Result ⊤ E
refuse_first error None = Ok tt
refuse_first error (Some x) = Err (error x)

-- what is there, else the error
abbrev pub or_error : {E A : Type 0} → E → Option A → Result A E
or_error e None = Err e
or_error e (Some x) = Ok x

-- the step on each member, in order
unfoldable pub each : {E A B : Type 0} → (A → Result B E) → List A → Result (List B) E
each step [] = Ok []
each step (x ∷ xs) = do
  y ← step x
  ys ← each step xs
  Ok (y ∷ ys)

-- the error, if there is one
abbrev pub error_of : {E A : Type 0} → Result A E → Option E
error_of (Ok x) = None
error_of (Err e) = Some e

-- the value, if there is one
abbrev pub value_of : {E A : Type 0} → Result A E → Option A
value_of (Ok x) = Some x
value_of (Err e) = None

-- the value, if it passes the test
abbrev pub if_passes : {A : Type 0} → (A → Bool) → Option A → Option A
if_passes p None = None
if_passes p (Some x) = if p x then Some x else None

-- the first member, if there is one
abbrev pub first_or_none : {A : Type 0} → List A → Option A
first_or_none [] = None
first_or_none (x ∷ xs) = Some x
