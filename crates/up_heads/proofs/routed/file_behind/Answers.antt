use Rattle.std.proofs.Common.{◌≡◌, ◌++◌, ◌∙◌, Some, sym, ap}
use Rattle.std.specs.Prelude.{string_bytes}
use Rattle.up_heads.specs.Routed.{named_file}
use Rattle.up_heads.proofs.RoutedLaws.{strip_found, strip_missing, named_made}
use Rattle.up_heads.proofs.routed.file_behind.Goals as goal

pub returns-in_ok-to_string-in-Some : goal.returns-in_ok-to_string-in-Some
returns-in_ok-to_string-in-Some c =
    let text = c.args.text.now in
    let path = c.args.path.now in
    let name = c.in-Some.name.now in
    let (n, found, rest, size) = c.in-Some.ensures.cases in
    let front : path ≡ text ++ name = found.1 ∙ ap (λ l. text ++ l) (sym rest) in
    named_made c.new.result (string_bytes c.in_ok-to_string-in-Some.field-0) c.new.ensures
    ∙ ap (λ l. named_file (Some l)) c.in_ok-to_string-in-Some.ensures.ok
    ∙ sym (ap named_file (strip_found text path name front))

pub returns-in-None : goal.returns-in-None
returns-in-None c = sym (ap named_file (strip_missing c.args.text.now c.args.path.now c.in-None.ensures.cases))
