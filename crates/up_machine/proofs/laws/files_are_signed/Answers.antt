use Rattle.up_machine.proofs.Serving as serving
use Rattle.up_machine.proofs.Signing as signing
use Rattle.up_machine.proofs.laws.files_are_signed.Goals as goal

pub returns : goal.returns
returns c = record {
  roots = signing.roots_signed c.files_are_signed.ensures.roots;
  images = signing.images_signed c.files_are_signed.ensures.roles;
  replies = signing.replies_signed c.files_are_signed.ensures.roles;
  known = serving.served_files_known;
}
