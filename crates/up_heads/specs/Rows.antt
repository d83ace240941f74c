-- The routes as the router keeps them.
use Rattle.std.specs.Prelude.{[], ◌∷◌, ◌++◌, codes}
use Rattle.matchit.specs.Rows.{RowsOf}
use Rattle.matchit.specs.Router.{RouteOf}
use Rattle.up_heads.specs.declared.routes.Kind.{Kind}
use Rattle.up_heads.specs.declared.routes.Kind.TheVariants.{Manifest, Director, Image}

-- the row of each route; 256 stands for a parameter
abbrev pub manifest_row : RouteOf Kind
manifest_row = record { pattern = codes "/director/manifest"; text = codes "/director/manifest"; names = []; value = Manifest }

abbrev pub director_row : RouteOf Kind
director_row = record { pattern = codes "/director/" ++ 256 ∷ []; text = codes "/director/{file}"; names = (11, 15) ∷ []; value = Director }

abbrev pub image_row : RouteOf Kind
image_row = record { pattern = codes "/image/" ++ 256 ∷ []; text = codes "/image/{file}"; names = (8, 12) ∷ []; value = Image }

abbrev pub known_routes : RowsOf (RouteOf Kind)
known_routes = (manifest_row.pattern, manifest_row) ∷ (director_row.pattern, director_row) ∷ (image_row.pattern, image_row) ∷ []
