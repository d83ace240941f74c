-- Why what is put in for a root version, or for new files of the image repository, tells `Store`.
use Rattle.std.proofs.Common.{◌≡◌, ◌⊎◌, inl, inr, ◌≤◌, ◌^◌, List, [], ◌∷◌, map, refl, ap, ◌∙◌, arith}
use Rattle.up_tables.specs.declared.repo_file.FileRow.{FileRow as FileShown}
use Rattle.up_store.proofs.Common.{Row, Founding, shown_row, ServedFile, file_row, file_read, FitsFounding}

-- the numbers fit their columns
pub fits_meta : (f : Founding) → FitsFounding f → ((2 ^ 63 ≤ f.root) ⊎ (2 ^ 63 ≤ f.image_root)) ⊎ ((2 ^ 63 ≤ f.image_version) ⊎ (2 ^ 63 ≤ f.targets_version)) → ⊥
fits_meta f fits (inl (inl large)) = absurd (omega (arith, fits.root, large))
fits_meta f fits (inl (inr large)) = absurd (omega (arith, fits.image_root, large))
fits_meta f fits (inr (inl large)) = absurd (omega (arith, fits.image_version, large))
fits_meta f fits (inr (inr large)) = absurd (omega (arith, fits.targets_version, large))

-- the rows of files that are made
pub files_are : (made : List FileShown) (files : List ServedFile) → map file_read made ≡ files → map shown_row made ≡ map file_row files
files_are made files same = go made ∙ ap (map file_row) same
  where
    go : (made : List FileShown) → map shown_row made ≡ map file_row (map file_read made)
    go [] = refl
    go (f ∷ made) = ap (λ (rows : List Row). shown_row f ∷ rows) (go made)
