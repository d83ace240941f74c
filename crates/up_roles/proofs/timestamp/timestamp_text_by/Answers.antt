use Rattle.up_roles.proofs.Writing.{roles_write, is_written}
use Rattle.up_roles.proofs.timestamp.timestamp_text_by.Goals as goal

pub returns : goal.returns
returns g c =
    is_written roles_write.timestamp c.args.file.now c.requires.limits c.in_ok-signed.ensures.typed _ c.in_ok-signed.ensures.value (g.K.Scheme.rules c.args.scheme.now) c.args.secrets.now c.sealed_text.result c.sealed_text.ensures
