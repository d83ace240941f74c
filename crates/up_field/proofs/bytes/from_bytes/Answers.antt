use Rattle.std.proofs.Common.{◌≡◌, ◌+◌, ◌*◌, ◌-◌, ◌^◌, ◌≤◌, suc, drop, sym, ap, ◌∙◌, arith, pow-suc}
use Rattle.std.proofs.lemmas.List.{drop_all}
use Rattle.up_field.proofs.ByteLists.{number, number-drop, number-nil, pow-below}
use Rattle.up_field.proofs.bytes.from_bytes.Goals as goal

pub loop-i-init : goal.loop-i-init
loop-i-init c = record {
  is = sym (ap number (drop_all 32 c.args.bytes.now (omega arith)) ∙ number-nil);
  below = omega arith;
  limit = record { l0 = omega arith; l1 = omega arith; l2 = omega arith; l3 = omega arith; l4 = omega arith };
}

pub pushed-r-requires : goal.pushed-r-requires
pushed-r-requires c =
    let b : 256 ^ c.loop-i.i ≤ 256 ^ 31 = pow-below c.loop-i.i 31 (omega arith) in
    let i = c.loop-i.invariant.limit in
    record {
      limit = record { l0 = i.l0; l1 = i.l1; l2 = i.l2; l3 = i.l3; l4 = omega (arith, b) };
      small = omega (arith, b);
    }

pub loop-i-preserved : goal.loop-i-preserved
loop-i-preserved c =
    let k = number-drop c.args.bytes.now (31 - c.loop-i.i) (omega arith) in
    let x : number (drop (31 - c.loop-i.i + 1) c.args.bytes.now) ≡ number (drop (32 - c.loop-i.i) c.args.bytes.now) = ap (λ z. number (drop z c.args.bytes.now)) (omega arith) in
    let y : number (drop (32 - (c.loop-i.i + 1)) c.args.bytes.now) ≡ number (drop (31 - c.loop-i.i) c.args.bytes.now) = ap (λ z. number (drop z c.args.bytes.now)) (omega arith) in
    let up : 256 ^ (c.loop-i.i + 1) ≡ 256 ^ c.loop-i.i * 256 = ap (λ z. 256 ^ z) (let e : c.loop-i.i + 1 ≡ suc c.loop-i.i = omega arith in e) ∙ pow-suc 256 c.loop-i.i in
    record {
      is = omega (arith, k, x, y);
      below = omega (arith, up, c.type_inv.bytes (31 - c.loop-i.i));
      limit = c.pushed-r.ensures.limit;
    }

pub returns : goal.returns
returns c =
    let e : c.loop-i.i ≡ 32 = omega arith in
    record {
      value = c.loop-i.invariant.is ∙ ap (λ z. number (drop (32 - z) c.args.bytes.now)) e;
      limit = c.loop-i.invariant.limit;
    }
