use Rattle.std.proofs.Common.{◌≡◌, ℕ, ◌++◌, List, [], length, take, drop, refl, sym, ap, ap₂, ◌∙◌, arith}
use Rattle.std.proofs.lemmas.List.{append-nil, drop_all}
use Rattle.std.proofs.Math.Seq.{take-append_seam, drop-append_seam}
use Rattle.up_ed25519.proofs.signing.joined.Goals as goal

-- what was written over the front and over the rest
whole : (f g z a b : List ℕ) → f ≡ a → g ≡ b → length a ≡ 32 → length z ≡ 32
    → take 32 (f ++ z) ++ (g ++ drop 32 (drop 32 (f ++ z))) ≡ a ++ b
whole f g z a b hf hg la lz =
    let front : take 32 (a ++ z) ≡ a = ap (λ n. take n (a ++ z)) (sym la) ∙ take-append_seam a z in
    let back : drop 32 (a ++ z) ≡ z = ap (λ n. drop n (a ++ z)) (sym la) ∙ drop-append_seam a z in
    let none : drop 32 z ≡ [] = drop_all 32 z (omega (arith, lz)) in
    ap₂ (λ x y. x ++ (g ++ drop 32 (drop 32 y))) (ap (λ y. take 32 (y ++ z)) hf) (ap (λ y. y ++ z) hf)
    ∙ ap₂ (λ x y. x ++ (g ++ drop 32 y)) front back
    ∙ ap₂ (λ x y. a ++ (x ++ y)) hg none
    ∙ ap (λ x. a ++ x) (append-nil b)

pub returns : goal.returns
returns c = whole c.copy_from_slice.new.self c.copy_from_slice-2.new.self _ c.args.first.now c.args.second.now c.copy_from_slice.ensures.after c.copy_from_slice-2.ensures.after c.told-first refl
