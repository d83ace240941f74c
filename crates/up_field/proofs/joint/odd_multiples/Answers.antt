use Rattle.std.proofs.Common.{◌≡◌, ◌≢◌, ℕ, zero, suc, ◌+◌, ◌-◌, ◌<◌, refl, sym, ◌∙◌, ap, ap₂, ◌*◌, subst, arith, List, [], ◌∷◌, length, get_or}
use Rattle.up_field.specs.declared.cached.Cached.{Cached}
use Rattle.up_field.specs.Cached.{Stores}
use Rattle.up_field.specs.Points.{Writes}
use Rattle.up_curve.specs.Curve.{add, multiple}
use Rattle.std.proofs.Common.{Bool, true, false, ◌==◌, eqb, eqb-true, eq-eqb}
use Rattle.std.proofs.Math.ListN.{set}
use Rattle.std.proofs.lemmas.List.{get_or-set_other}
use Rattle.std.proofs.lemmas.Grind.{get_or-set_at}
use Rattle.std.proofs.lemmas.List.{length-set}
use Rattle.up_curve.proofs.Curve.{multiple-add, multiple-one}
use Rattle.up_curve.specs.Curve.{Point}
use Rattle.up_field.proofs.joint.odd_multiples.Goals as goal

at_each : (r : Cached) (P : Cached → Type 0) → P r → (k : ℕ) → k < 8 → (q : Cached) → P (get_or (r ∷ r ∷ r ∷ r ∷ r ∷ r ∷ r ∷ r ∷ []) k q)
at_each r P h zero l q = h
at_each r P h (suc zero) l q = h
at_each r P h (suc (suc zero)) l q = h
at_each r P h (suc (suc (suc zero))) l q = h
at_each r P h (suc (suc (suc (suc zero)))) l q = h
at_each r P h (suc (suc (suc (suc (suc zero))))) l q = h
at_each r P h (suc (suc (suc (suc (suc (suc zero)))))) l q = h
at_each r P h (suc (suc (suc (suc (suc (suc (suc zero))))))) l q = h
at_each r P h (suc (suc (suc (suc (suc (suc (suc (suc k)))))))) l q = absurd (omega (arith, l))

eqb_ne : (a b : ℕ) → eqb a b ≡ false → a ≡ b → ⊥
eqb_ne a b e h = let k : true ≡ false = sym (eq-eqb a b h) ∙ e in absurd (cc)

-- an entry of a list in which one is set
at_set : (P : ℕ → Cached → Type 0) (t : List Cached) (i : ℕ) (v : Cached) (q : Cached) (k : ℕ) → i < length t
    → P i v → (k ≢ i → P k (get_or t k q)) → P k (get_or (set t i v) k q)
at_set P t i v q k l h j = from (k == i) refl
  where
    from : (b : Bool) → (k == i) ≡ b → P k (get_or (set t i v) k q)
    from true e = subst (λ r. P k r) (sym (get_or-set_at t i k v q (eqb-true k i e) l)) (subst (λ z. P z v) (sym (eqb-true k i e)) h)
    from false e = subst (λ r. P k r) (sym (get_or-set_other t i k v q (λ z. eqb_ne k i e z))) (j (λ z. eqb_ne k i e z))

pub loop-i-init : goal.loop-i-init
loop-i-init c =
    let one : (m : Point) → Writes c.args.q m → Writes c.args.q (multiple (2 * 1 - 1) m) = λ m h. subst (Writes c.args.q) (sym (multiple-one m h.point)) h in
    record {
      long = refl;
      so_far = one;
      writes = λ m h k l q.
          at_each c.ready-t.result (λ r. Stores r (multiple (2 * k + 1) m))
          (subst (λ z. Stores c.ready-t.result (multiple z m)) (let e : 2 * 1 - 1 ≡ 2 * k + 1 = omega (arith, l) in e) (c.ready-t.ensures (multiple (2 * 1 - 1) m) (one m h))) k (omega (arith, l)) q;
    }

pub loop-i-preserved : goal.loop-i-preserved
loop-i-preserved c =
    let i : ℕ = c.loop-i.i in
    let next : (m : Point) → Writes c.args.q m → Writes c.sum_cached-r.result (multiple (2 * i + 1) m) = λ m h.
    let two : Stores c.ready-two.result (add m m) = c.ready-two.ensures (add m m) (c.twice.ensures m h) in
    subst (Writes c.sum_cached-r.result)
    (ap (add (multiple (2 * i - 1) m)) (ap₂ add (sym (multiple-one m h.point)) (sym (multiple-one m h.point)) ∙ sym (multiple-add 1 1 m h.point)) ∙ sym (multiple-add (2 * i - 1) (1 + 1) m h.point) ∙ ap (λ z. multiple z m) (omega arith))
    (c.sum_cached-r.ensures (multiple (2 * i - 1) m) (add m m) (c.loop-i.invariant.so_far m h) two) in
    record {
      long = omega (arith, length-set c.loop-i.t c.loop-i.i c.ready.result);
      so_far = λ m h. subst (λ z. Writes c.sum_cached-r.result (multiple z m)) (let e : 2 * i + 1 ≡ 2 * (i + 1) - 1 = omega arith in e) (next m h);
      writes = λ m h k l q.
          at_set (λ k r. Stores r (multiple (2 * k + 1) m)) c.loop-i.t c.loop-i.i c.ready.result q k (omega arith)
          (c.ready.ensures (multiple (2 * i + 1) m) (next m h))
          (λ n. c.loop-i.invariant.writes m h k (omega (arith, l, n)) q);
    }

pub returns : goal.returns
returns c = λ m h. record { each = λ k l q. c.loop-i.invariant.writes m h k (omega (arith, l)) q }
