use Rattle.up_uptane.proofs.Versions.{rise, stay_kept}
use Rattle.up_uptane.proofs.laws.reply_versions_rise.Goals as goal

pub returns : goal.returns
returns c = record { rise = rise c.kept_replies_stay.ensures.run c.deliveries_change_their_own.ensures.own; stay = stay_kept c.kept_replies_stay.ensures.run }
