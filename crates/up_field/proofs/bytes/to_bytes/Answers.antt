use Rattle.std.proofs.Common.{◌≡◌, ℕ, [], ◌∷◌, ◌++◌, ◌+◌, ◌*◌, ◌/◌, ◌%◌, ◌^◌, suc, take, refl, sym, ap, ap₂, ◌∙◌, arith, pow-suc}
use Rattle.std.proofs.Math.Nat.{div-one, div-div-eq-div-mul}
use Rattle.std.proofs.Math.Seq.{take-length}
use Rattle.std.proofs.lemmas.List.{take_more_set, length-set}
use Rattle.up_field.specs.Limbs.{number_of as number}
use Rattle.up_field.proofs.ByteLists.{bytes, bytes-more}
use Rattle.up_field.proofs.bytes.to_bytes.Goals as goal

pub loop-i-init : goal.loop-i-init
unfolding bytes
loop-i-init c = record { long = refl; front = refl; rest = sym (div-one (number c.args.a)); limit = c.requires }

pub loop-i-preserved : goal.loop-i-preserved
loop-i-preserved c =
    let n : ℕ = number c.args.a in
    let i : ℕ = c.loop-i.i in
    let up : 256 ^ (i + 1) ≡ 256 ^ i * 256 = ap (λ z. 256 ^ z) (let e : i + 1 ≡ suc i = omega arith in e) ∙ pow-suc 256 i in
    let low : c.loop-i.r.l0 % 256 ≡ n / 256 ^ i % 256 = let u : c.loop-i.r.l0 % 256 ≡ number c.loop-i.r % 256 = omega arith in u ∙ ap (λ z. z % 256) c.loop-i.invariant.rest in
    record {
      long = omega (arith, length-set c.loop-i.out i (c.loop-i.r.l0 % 256));
      front =
          take_more_set c.loop-i.out i (c.loop-i.r.l0 % 256) (omega arith)
          ∙ ap₂ (λ x y. x ++ y ∷ []) c.loop-i.invariant.front low ∙ sym (bytes-more i n);
      rest =
          c.shifted-r.ensures.value ∙ ap (λ z. z / 256) c.loop-i.invariant.rest ∙ div-div-eq-div-mul n (256 ^ i) 256
          ∙ ap (λ z. n / z) (sym up);
      limit = c.shifted-r.ensures.limit;
    }

pub returns : goal.returns
returns c =
    let e : c.loop-i.i ≡ 32 = omega arith in
    sym (take-length c.loop-i.out) ∙ ap (λ z. take z c.loop-i.out) (c.loop-i.invariant.long ∙ sym e) ∙ c.loop-i.invariant.front
    ∙ ap (λ z. bytes z (number c.args.a)) e
