-- A look-up finds nothing where no campaign has an item for the vehicle.
use Rattle.std.proofs.Common.{◌≡◌, ℕ, List, [], ◌∷◌, ◌++◌, ◌&&◌, ◌||◌, Bool, true, false, None, bytes_eq, refl, sym, ap, ◌∙◌}
use Rattle.std.specs.Prelude.{filter, flat_map}
use Rattle.std.specs.List.{list_any}
use Rattle.std.specs.Cmp.Lexicographic.{bytes_decides}
use Rattle.up_canon.specs.Names.{Name}
use Rattle.up_plan.specs.Campaigns.{CampaignData}
use Rattle.up_plan.specs.Images.{ImageData}
use Rattle.up_plan.specs.Planning.{is_offered, items_for}
use Rattle.up_plan.specs.Running.{AreFound, items_at, name_at}
use Rattle.up_plan.specs.declared.campaign.Item.{Item}
use Rattle.up_plan.specs.declared.running.NameAt.{NameAt}
use Rattle.up_plan.proofs.Reaching.{offers_found}

-- an item offers an image of its file
nothing_offered : (items : List Item) → ((hardware : Name) (image : ImageData) → is_offered items hardware image ≡ false) → items ≡ []
nothing_offered [] h = refl
nothing_offered (i ∷ items) h =
    let image : ImageData = record { file = i.file; length = 0; sha256 = []; sha512 = None; hardware = []; release = 0; needs = []; conflicts = [] } in
    let rest : Bool = list_any (λ j. bytes_eq j.hardware i.hardware && bytes_eq j.file i.file) items in
    let hardware_is : bytes_eq i.hardware i.hardware ≡ true = (bytes_decides i.hardware i.hardware).1 refl in
    let file_is : bytes_eq i.file i.file ≡ true = (bytes_decides i.file i.file).1 refl in
    let no : true ≡ false = sym (ap (λ b. (b && bytes_eq i.file i.file) || rest) hardware_is ∙ ap (λ b. b || rest) file_is) ∙ h i.hardware image in
    cc

pub nothing_found : (cs : List CampaignData) (places : List ℕ) (names : List NameAt) → AreFound cs places names → (vehicle : Name) → items_for cs vehicle ≡ []
    → flat_map (items_at cs) places ++ flat_map (λ at. items_at cs at.campaign) (filter (λ at. bytes_eq vehicle (name_at cs at)) names) ≡ []
nothing_found cs places names found vehicle none =
    nothing_offered _ (λ hardware image. offers_found cs places names found vehicle hardware image ∙ ap (λ xs. is_offered xs hardware image) none)
