use Rattle.std.proofs.Common.{◌≡◌, map, drop}
use Rattle.httparse.specs.Spans.{header_bytes}
use Rattle.up_heads.specs.Fields.{values}
use Rattle.up_heads.proofs.fields.value_of.Given as goal

-- no field before the index has the name
abbrev pub invariant-loop-field : goal.invariant-loop-field
invariant-loop-field l = values l.name (map (header_bytes l.bytes) (drop l.field-index l.fields)) ≡ values l.name (map (header_bytes l.bytes) l.fields)
