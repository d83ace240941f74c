-- What was done, joined.
use Rattle.std.proofs.Common.{◌≡◌, List, [], ◌∷◌, ◌++◌, length, refl, sym, subst, ap, arith}
use Rattle.std.specs.List.{AllByRecursion}
use Rattle.std.specs.Prelude.{true}
use Rattle.std.specs.List.{list_all}
use Rattle.up_lines.specs.Progress.{is_inside}
use Rattle.up_lines.specs.declared.progress.Progress.{Progress}
use Rattle.up_sockets.specs.Served.{Done, Steps, IsBegun, IsServed}

module _ {S : Type 0} (does : S → Done → S → Type 0) where
  pub served_none : (s : S) → IsServed does s s
  served_none s = ([], refl)

  join : (old mid new : S) (xs ys : List Done) → Steps does old xs mid → Steps does mid ys new → Steps does old (xs ++ ys) new
  join old mid new [] ys p q = subst (λ s. Steps does s ys new) p q
  join old mid new (x ∷ xs) ys p q = (p.0, p.1, join p.0 mid new xs ys p.2 q)

  pub served_then : (old mid new : S) → IsServed does old mid → IsServed does mid new → IsServed does old new
  served_then old mid new p q = (p.0 ++ q.0, join old mid new p.0 q.0 p.1 q.1)

  pub served_once : (old new : S) (d : Done) → does old d new → IsServed does old new
  served_once old new d h = (d ∷ [], (new, h, refl))

-- one more of which it holds too
pub all_more : {A : Type 0} (P : A → Type 0) (xs : List A) (x : A) → AllByRecursion P xs → P x → AllByRecursion P (xs ++ x ∷ [])
all_more P [] x all here = (here, tt)
all_more P (y ∷ xs) x all here = (all.0, all_more P xs x all.1 here)

-- no byte of a line has come
pub none_begun : (at : Progress) → at.line.items ≡ [] → at.counted ≡ 0 → IsBegun at
none_begun at none no_line = record {
  own = subst (λ l. list_all is_inside l ≡ true) (sym none) refl;
  short = omega (arith, ap length none);
  few = omega (arith, no_line);
  none_past = λ past. none;
}
