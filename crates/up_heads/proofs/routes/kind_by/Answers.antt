use Rattle.std.proofs.Common.{◌∙◌, ap, arith}
use Rattle.std.specs.Prelude.{option_map}
use Rattle.matchit.specs.Seek.{first}
use Rattle.up_heads.proofs.RouteLaws.{route_found, bytes_of, kind_is}
use Rattle.up_heads.proofs.routes.kind_by.Goals as goal

pub returns : goal.returns
returns c = c.matched.ensures ∙ ap (λ rows. option_map (λ row. row.value) (first rows c.args.path.now)) c.requires
    ∙ ap (option_map (λ row. row.value)) (route_found c.args.path.now (bytes_of c.args.path.now (λ i. omega (arith, c.type_inv.path i))))
    ∙ kind_is c.args.path.now
