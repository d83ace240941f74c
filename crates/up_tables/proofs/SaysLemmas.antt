-- Rows that say values, one after another.
use Rattle.std.proofs.Common.{◌≡◌, ◌+◌, ◌<◌, ◌≤◌, ℕ, zero, suc, Bool, true, false, cond, List, [], ◌∷◌, ◌++◌, Option, None, Some, length, map, filter, take, slice_index_or, refl, sym, ap₂, subst, arith}
use Rattle.std.specs.List.{AllByRecursion}
use Rattle.std.specs.Option.{option_to_list}
use Rattle.sqlite.specs.Order.{Row}
use Rattle.up_tables.specs.Stored.{EachSays, IsLine, Tells}

-- one more row says one more value
pub says_more : {T : Type 0} (P : Row → T → Type 0) (rows : List Row) (i : ℕ) (row : Row) (xs : List T) (x : T) → i < length rows → row ≡ slice_index_or rows i row
    → EachSays P (take i rows) xs → P row x → EachSays P (take (i + 1) rows) (xs ++ x ∷ [])
says_more P [] i row xs x low is said new = absurd (omega (arith, low))
says_more P (y ∷ ys) zero row [] x low is said new = (subst (λ r. P r x) is new, tt)
says_more P (y ∷ ys) zero row (z ∷ zs) x low is said new = absurd said
says_more P (y ∷ ys) (suc i) row [] x low is said new = absurd said
says_more P (y ∷ ys) (suc i) row (z ∷ zs) x low is said new =
    let next : suc (i + 1) ≡ suc i + 1 = omega arith in
    subst (λ n. EachSays P (take n (y ∷ ys)) (z ∷ zs ++ x ∷ [])) next (said.0, says_more P ys i row zs x (omega (arith, low)) is said.1 new)

-- one of the values that they say is said there
pub said_there : {T : Type 0} (P : Row → T → Type 0) (fits : T → Type 0) (rows : List Row) (i : ℕ) (row : Row) (xs : List T) → i < length rows → row ≡ slice_index_or rows i row
    → AllByRecursion fits xs → EachSays P rows xs → (x : T) × fits x × P row x
said_there P fits [] i row xs low is fit said = absurd (omega (arith, low))
said_there P fits (r ∷ rows) i row [] low is fit said = absurd said
said_there P fits (r ∷ rows) zero row (x ∷ xs) low is fit said = (x, fit.0, subst (λ r. P r x) (sym is) said.0)
said_there P fits (r ∷ rows) (suc i) row (x ∷ xs) low is fit said = said_there P fits rows i row xs (omega (arith, low)) is fit.1 said.1

-- as many rows as one value, or none
pub says_few : {T : Type 0} (says : Row → T → Type 0) (rows : List Row) (o : Option T) → EachSays says rows (option_to_list o) → length rows ≤ 1
says_few says [] o said = omega arith
says_few says (row ∷ []) o said = omega arith
says_few says (row ∷ more ∷ rows) None said = absurd said
says_few says (row ∷ more ∷ rows) (Some x) said = absurd said.1

-- what is said of them
pub each_said : {T : Type 0} (P Q : Row → T → Type 0) → ((r : Row) (x : T) → P r x → Q r x) → (rows : List Row) (xs : List T) → EachSays P rows xs → EachSays Q rows xs
each_said P Q so [] [] said = tt
each_said P Q so [] (x ∷ xs) said = absurd said
each_said P Q so (r ∷ rows) [] said = absurd said
each_said P Q so (r ∷ rows) (x ∷ xs) said = (so r x said.0, each_said P Q so rows xs said.1)

-- where they are lines of values that fit, they are those values
pub same_values : {T : Type 0} (says : Row → T → Type 0) (fits : T → Type 0) (line : T → Row) (rows : List Row) (xs ys : List T) → EachSays (Tells says fits line) rows xs
    → AllByRecursion fits ys → rows ≡ map line ys → xs ≡ ys
same_values says fits line [] [] [] told fit is = refl
same_values says fits line [] [] (y ∷ ys) told fit is = absurd (let e = is in cc)
same_values says fits line [] (x ∷ xs) ys told fit is = absurd told
same_values says fits line (r ∷ rows) [] ys told fit is = absurd told
same_values says fits line (r ∷ rows) (x ∷ xs) [] told fit is = absurd (let e = is in cc)
same_values says fits line (r ∷ rows) (x ∷ xs) (y ∷ ys) told fit is =
    let head : r ≡ line y = (let e = is in cc) in
    let tail : rows ≡ map line ys = (let e = is in cc) in
    ap₂ (λ z zs. z ∷ zs) (told.0.same y fit.0 head) (same_values says fits line rows xs ys told.1 fit.1 tail)

-- rows that are lines are those of some values
pub values_there : {T : Type 0} (fits : T → Type 0) (line : T → Row) (rows : List Row) → AllByRecursion (IsLine fits line) rows → (ys : List T) × AllByRecursion fits ys × (rows ≡ map line ys)
values_there fits line [] all = ([], tt, refl)
values_there fits line (r ∷ rows) all =
    let more = values_there fits line rows all.1 in
    (all.0.0 ∷ more.0, (all.0.1, more.1), ap₂ (λ x xs. x ∷ xs) all.0.2 more.2)

-- those that pass say the values that do
pub says_passing : {T : Type 0} (P : Row → T → Type 0) (p : Row → Bool) (q : T → Bool) → ((r : Row) (x : T) → P r x → p r ≡ q x) → (rows : List Row) (xs : List T) → EachSays P rows xs → EachSays P (filter p rows) (filter q xs)
says_passing P p q agree [] [] said = tt
says_passing P p q agree [] (x ∷ xs) said = absurd said
says_passing P p q agree (r ∷ rows) [] said = absurd said
says_passing P p q agree (r ∷ rows) (x ∷ xs) said = rw (agree r x said.0) (go (q x) (says_passing P p q agree rows xs said.1))
  where
    go : (b : Bool) → EachSays P (filter p rows) (filter q xs) → EachSays P (cond b (r ∷ filter p rows) (filter p rows)) (cond b (x ∷ filter q xs) (filter q xs))
    go true h = (said.0, h)
    go false h = h

-- where what a row shows is the line of the value that it says, so it is of all rows
pub lines_said : {T : Type 0} (says : Row → T → Type 0) (line : T → Row) (part : Row → Row) → ((r : Row) (x : T) → says (part r) x → part r ≡ line x) → (rows : List Row) (xs : List T)
    → EachSays says (map part rows) xs → map part rows ≡ map line xs
lines_said says line part is [] [] said = refl
lines_said says line part is [] (x ∷ xs) said = absurd said
lines_said says line part is (r ∷ rows) [] said = absurd said
lines_said says line part is (r ∷ rows) (x ∷ xs) said = ap₂ (λ z zs. z ∷ zs) (is r x said.0) (lines_said says line part is rows xs said.1)
