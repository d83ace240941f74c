use Rattle.std.proofs.Common.{◌≡◌, ◌≤◌, ◌+◌, ◌++◌, take, vec_len, vec_capacity, false, true}
use Rattle.std.specs.List.{list_all}
use Rattle.httparse.specs.Grammar.{HasNoRequest}
use Rattle.up_http.specs.Parts.{is_newline}
use Rattle.up_http.proofs.head_bytes.take_head.Given as goal

-- the bytes before the index were taken, and no head is whole
abbrev pub invariant-loop-i : goal.invariant-loop-i
invariant-loop-i l = record {
  added : l.head.items ≡ l.fn.head.items ++ take l.i l.piece;
  none : HasNoRequest l.head.items;
  blank : l.seen ≡ false → list_all is_newline l.head.items ≡ true;
  counted : vec_len l.head ≡ vec_len l.fn.head + l.i;
  room : vec_len l.fn.head + l.most ≤ vec_capacity l.head;
}
