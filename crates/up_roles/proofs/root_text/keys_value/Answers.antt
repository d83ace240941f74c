use Rattle.std.proofs.Common.{ap, ap₂, sym, ◌∙◌}
use Rattle.serde_json.specs.Data.{object}
use Rattle.serde_json.specs.View.{members_view}
use Rattle.serde_json.proofs.Views.{view-Object}
use Rattle.up_roles.specs.Root.{put_keys}
use Rattle.up_roles.proofs.Keys.{keys_in_turn}
use Rattle.up_roles.proofs.root_text.keys_value.Goals as goal

pub returns : goal.returns
returns c =
    let one = c.in_ok-members.ensures ∙ ap₂ put_keys c.as_slice.ensures (ap members_view c.new-members.ensures.empty) in
    let two = c.in_ok-members-2.ensures ∙ ap₂ put_keys c.as_slice-2.ensures one in
    let three = c.in_ok-members-3.ensures ∙ ap₂ put_keys c.as_slice-3.ensures two in
    let four = c.in_ok-members-4.ensures ∙ ap₂ put_keys c.as_slice-4.ensures three in
    view-Object c.in_ok-members-4.members ∙ ap object four ∙ sym (keys_in_turn c.args.file.now)
