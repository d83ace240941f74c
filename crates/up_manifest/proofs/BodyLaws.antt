-- A body that comes in pieces.
use Rattle.std.proofs.Common.{◌≡◌, ◌≤◌, ◌+◌, ◌-◌, ◌++◌, ◌∙◌, ℕ, List, min, take, length, ap, arith, sym}
use Rattle.std.proofs.Math.Seq.{take-append-add}
use Rattle.std.proofs.lemmas.List.{take_min}

-- what was taken of a piece is what fits behind the bytes that were there
pub taken_fits : (size taken : ℕ) (bytes piece : List ℕ) → length bytes ≤ size → taken ≡ min (length piece) (size - length bytes) → bytes ++ take taken piece ≡ take size (bytes ++ piece)
taken_fits size taken bytes piece small is =
    let k = size - length bytes in
    let all : length bytes + k ≡ size = omega (arith, small) in
    let same : taken ≡ min k (length piece) = omega (arith, is) in
    ap (λ n. bytes ++ take n piece) same ∙ ap (λ l. bytes ++ l) (take_min k piece) ∙ sym (take-append-add bytes piece k) ∙ ap (λ n. take n (bytes ++ piece)) all
