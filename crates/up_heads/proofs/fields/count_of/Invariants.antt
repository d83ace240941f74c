use Rattle.std.proofs.Common.{◌≡◌, ◌≤◌, ◌+◌, length, map, drop}
use Rattle.httparse.specs.Spans.{header_bytes}
use Rattle.up_heads.specs.Fields.{values}
use Rattle.up_heads.proofs.fields.count_of.Given as goal

-- those counted and those among the fields that are left are all
abbrev pub invariant-loop-field : goal.invariant-loop-field
invariant-loop-field l = record {
  few : l.count ≤ l.field-index;
  all : l.count + length (values l.name (map (header_bytes l.bytes) (drop l.field-index l.fields))) ≡ length (values l.name (map (header_bytes l.bytes) l.fields));
}
