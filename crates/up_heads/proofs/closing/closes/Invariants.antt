use Rattle.std.proofs.Common.{◌≡◌, map, drop}
use Rattle.std.specs.Prelude.{codes}
use Rattle.std.specs.List.{list_any}
use Rattle.httparse.specs.Spans.{header_bytes}
use Rattle.up_heads.specs.Closing.{has_close}
use Rattle.up_heads.specs.Fields.{values}
use Rattle.up_heads.proofs.closing.closes.Given as goal

-- no field before the index closes
abbrev pub invariant-loop-field : goal.invariant-loop-field
invariant-loop-field l =
    list_any has_close (values (codes "connection") (map (header_bytes l.bytes) (drop l.field-index l.fields))) ≡ list_any has_close (values (codes "connection") (map (header_bytes l.bytes) l.fields))
