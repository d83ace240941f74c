-- Objects of two members, of which the types of a value say something each: such an object is plain, and is read again.
use Rattle.std.proofs.Common.{◌≡◌, ℕ, List, [], ◌∷◌, Bool, true, ◌&&◌, Ok, Result, ◌∙◌}
use Rattle.std.proofs.lemmas.Bool.{and_parts}
use Rattle.serde_json.specs.Data.{Data}
use Rattle.up_canon.specs.Build.{object_with}
use Rattle.up_canon.specs.Canon.{is_printable_text}
use Rattle.up_canon.specs.Members.{object_of}
use Rattle.up_canon.specs.Steps.{◌>>=◌}
use Rattle.up_canon.specs.declared.refusal.Refusal.{Refusal}
use Rattle.up_canon.proofs.PlainValues.{IsPlain, plain-object}
use Rattle.up_canon.proofs.Steps.{bind-ok}

pub two-plain : (m n : List ℕ) (d e : Data) → is_printable_text m ≡ true → is_printable_text n ≡ true → IsPlain 0 d → IsPlain 0 e → IsPlain 1 (object_with ((m, d) ∷ (n, e) ∷ []))
two-plain m n d e first second p q = plain-object 0 ((m, d) ∷ (n, e) ∷ []) (first, p, (second, q, tt))

-- where each test that the value passed gives one of the members
pub two-there : {A B C : Type 0} (a b : Bool) (name : List ℕ) (d : Data) (first : Data → Result A Refusal) (second : Data → Result B Refusal) (make : A → B → C) (x : A) (y : B)
    → object_of name d ≡ Ok d → (a && b) ≡ true → (a ≡ true → first d ≡ Ok x) → (b ≡ true → second d ≡ Ok y)
    → (object_of name d >>= λ o. first o >>= λ v. second o >>= λ w. Ok (make v w)) ≡ Ok (make x y)
two-there a b name d first second make x y is h one other =
    let p = and_parts a b h in
    bind-ok _ _ d is ∙ bind-ok _ _ x (one p.0) ∙ bind-ok _ _ y (other p.1)
