use Rattle.up_canon.proofs.MomentTexts.{moments_are_plain, moments_are_read, only_texts_are_read, parts_are_read}
use Rattle.up_canon.proofs.moment.moment_laws.Goals as goal

pub returns : goal.returns
returns c = record { read = moments_are_read; only = only_texts_are_read; parts = parts_are_read; plain = moments_are_plain }
