use Rattle.std.proofs.Common.{◌≡◌, drop}
use Rattle.std.specs.List.{list_all}
use Rattle.up_canon.specs.Members.{values_of}
use Rattle.up_sign.specs.Formats.{is_object}
use Rattle.up_sign.proofs.envelope_read.are_objects.Given as goal

-- it depends on those that are left
abbrev pub invariant-loop-value : goal.invariant-loop-value
invariant-loop-value l = list_all is_object (values_of l.values) ≡ list_all is_object (values_of (drop l.value-index l.values))
