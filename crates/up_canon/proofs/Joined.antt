-- Pieces that are pushed one after another; texts joined by commas, as they are pushed and as the text of a list.
use Rattle.std.proofs.Common.{◌≡◌, ℕ, ◌+◌, ◌<◌, List, [], ◌∷◌, ◌++◌, length, get_or, take, map, refl, ap, ◌∙◌, sym, append_assoc}
use Rattle.std.specs.List.{join_with_byte}
use Rattle.std.proofs.lemmas.List.{take_more, map_more}
use Rattle.serde_json.specs.Data.{Data}
use Rattle.serde_json.specs.View.{items_of}
use Rattle.up_canon.specs.Canon.{text, items_text}

-- two pieces that were pushed one after another
pub pushed : (o p q a b : List ℕ) → p ≡ o ++ a → q ≡ p ++ b → q ≡ o ++ (a ++ b)
pushed o p q a b h k = k ∙ ap (λ (t : List ℕ). t ++ b) h ∙ append_assoc o a b

-- a piece that is another one
pub pushed_as : (o p a b : List ℕ) → a ≡ b → p ≡ o ++ a → p ≡ o ++ b
pushed_as o p a b same h = h ∙ ap (λ (t : List ℕ). o ++ t) same

-- the first piece
pub begun : (o p a : List ℕ) → o ≡ [] → p ≡ o ++ a → p ≡ a
begun o p a none h = h ∙ ap (λ (t : List ℕ). t ++ a) none

-- what stands before the next of the pieces
abbrev pub separator_after : {X : Type 0} → List X → List ℕ
separator_after [] = []
separator_after (x ∷ xs) = 44 ∷ []

separator_after-push : {X : Type 0} → (xs : List X) (x : X) → separator_after (xs ++ x ∷ []) ≡ 44 ∷ []
separator_after-push [] x = refl
separator_after-push (y ∷ xs) x = refl

pub separator_more : {X : Type 0} → (xs : List X) (i : ℕ) (d : X) → i < length xs → 44 ∷ [] ≡ separator_after (take (i + 1) xs)
separator_more xs i d h = sym (ap separator_after (take_more xs i d h) ∙ separator_after-push (take i xs) (get_or xs i d))

join-push : (xs : List (List ℕ)) (x : List ℕ) → join_with_byte 44 (xs ++ x ∷ []) ≡ join_with_byte 44 xs ++ (separator_after xs ++ x)
join-push [] x = refl
join-push (y ∷ []) x = refl
join-push (y ∷ z ∷ xs) x = ap (λ t. y ++ 44 ∷ t) (join-push (z ∷ xs) x) ∙ sym (append_assoc y (44 ∷ join_with_byte 44 (z ∷ xs)) (44 ∷ x))

separator_after-map : {X Y : Type 0} → (f : X → Y) (xs : List X) → separator_after (map f xs) ≡ separator_after xs
separator_after-map f [] = refl
separator_after-map f (x ∷ xs) = refl

pub joined_more : {X : Type 0} → (f : X → List ℕ) (xs : List X) (i : ℕ) (d : X) → i < length xs
    → join_with_byte 44 (map f (take (i + 1) xs)) ≡ join_with_byte 44 (map f (take i xs)) ++ (separator_after (take i xs) ++ f (get_or xs i d))
joined_more f xs i d h =
    ap (join_with_byte 44) (map_more f xs i d h) ∙ join-push (map f (take i xs)) (f (get_or xs i d))
    ∙ ap (λ s. join_with_byte 44 (map f (take i xs)) ++ (s ++ f (get_or xs i d))) (separator_after-map f (take i xs))

pub listed_text : {X : Type 0} → (f : X → Data) (xs : List X) → items_text (items_of (map f xs)) ≡ join_with_byte 44 (map (λ x. text (f x)) xs) ++ 93 ∷ []
listed_text f [] = refl
listed_text f (x ∷ []) = refl
listed_text f (x ∷ y ∷ xs) =
    ap (λ t. text (f x) ++ 44 ∷ t) (listed_text f (y ∷ xs)) ∙ sym (append_assoc (text (f x)) (44 ∷ join_with_byte 44 (map (λ z. text (f z)) (y ∷ xs))) (93 ∷ []))
