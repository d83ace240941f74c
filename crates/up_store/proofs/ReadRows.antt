-- Rows that are read one after another.
use Rattle.std.proofs.Common.{◌≡◌, ◌+◌, ◌<◌, ℕ, zero, suc, List, [], ◌∷◌, length, take, get_or, Option, Some, None, Result, Ok, Err, OnOk, refl, sym, subst, ◌∙◌, arith}
use Rattle.up_store.proofs.Common.{IsSomeAnd, Database, Connected, IsWith, HasTables, AnyRows, Reads, up_schema, InTurn}

-- of what was read of a row
pub some_then : {A : Type 0} (P Q : A → Type 0) (read : Option A) → ((x : A) → P x → Q x) → IsSomeAnd read P → IsSomeAnd read Q
some_then P Q None f h = h
some_then P Q (Some x) f h = f x h

-- a read that went through leaves the tables, and what they list
pub tables_stay : (before after : Connected) → Reads before after → HasTables before → HasTables after
tables_stay before after reads has = λ is_open. subst (IsWith up_schema AnyRows) (sym reads.now_is) (has reads.was_open)

pub now_stays : (P : Database → Type 0) (before after : Connected) → Reads before after → P before.now → P after.now
now_stays P before after reads = subst P (sym reads.now_is)

-- one read after another
pub reads_both : {a b c : Connected} → Reads a b → Reads b c → Reads a c
reads_both one two = record { was_open = one.was_open; is_open = two.is_open; mode = two.mode ∙ one.mode; now_is = two.now_is ∙ one.now_is }

pub reads_behind : {A E : Type 0} {a b : Connected} (c : Connected) (r : Result A E) → Reads a b → OnOk r (Reads b c) → OnOk r (Reads a c)
reads_behind c (Ok x) one two = reads_both one two
reads_behind c (Err e) one two = tt

-- the row behind those that were read
pub in_turn_more : {A S : Type 0} (step : A → S → S → Type 0) (xs : List A) (i : ℕ) (x : A) (before mid after : S) → i < length xs → x ≡ get_or xs i x
    → InTurn step (take i xs) before mid → step x mid after → InTurn step (take (i + 1) xs) before after
in_turn_more step [] i x before mid after low is so new = absurd (omega (arith, low))
in_turn_more step (y ∷ ys) zero x before mid after low is so new =
    (after, subst (λ z. step z before after) is (subst (λ m. step x m after) so new), refl)
in_turn_more step (y ∷ ys) (suc i) x before mid after low is so new =
    let next : suc (i + 1) ≡ suc i + 1 = omega arith in
    subst (λ n. InTurn step (take n (y ∷ ys)) before after) next (so.0, so.1, in_turn_more step ys i x so.0 mid after (omega (arith, low)) is so.2 new)
