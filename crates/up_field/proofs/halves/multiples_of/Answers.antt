use Rattle.up_field.proofs.halves.multiples_of.Goals as goal

pub returns : goal.returns
returns c = λ m h. record {
  low = c.odd_multiples-low.ensures m h;
  high = c.odd_multiples-high.ensures _ (c.far.ensures m h);
}
