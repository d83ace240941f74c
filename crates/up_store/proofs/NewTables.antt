-- Tables that are made list no rows.
use Rattle.std.proofs.Common.{◌≡◌, ℕ, List, [], Bool, true, false, Option, None, refl, sym, ap, ◌∙◌}
use Rattle.std.specs.FinMap.{get-empty}
use Rattle.up_store.proofs.Common.{if◌then◌else◌, bytes_eq, codes, option_or, nat_cmp, slice_cmp, Trees, Name, Repository, Director, Image, no_rows, text_held, AreNew, ListsTables, no_table_rows, repo_file_table, image_table, campaign_table, vehicle_table, ecu_table, image_sha512_table, lists_none, repository_word, file_lines, image_lines, campaign_lines, vehicle_lines, ecus_lines, second_hash, sha512_lines, ListsRows, files_lines, AreTyped}
use Rattle.up_store.proofs.Alike.{lists_as, pairs_as}

no_files : (repository : Repository) (name : Name) → text_held no_rows repository name ≡ None
no_files Director name = by_test (bytes_eq (codes "root.json") name)
  where
    by_test : (t : Bool) → (let none : Option (List ℕ) = None in option_or (option_or (if t then none else none) none) none ≡ none)
    by_test true = refl
    by_test false = refl
no_files Image name = by_test (bytes_eq (codes "root.json") name)
  where
    by_test : (t : Bool) → (let none : Option (List ℕ) = None in option_or (option_or (if t then none else none) none) none ≡ none)
    by_test true = refl
    by_test false = refl

no_file_lines : (word name : List ℕ) → [] ≡ files_lines no_rows word name
no_file_lines word name = by_test (bytes_eq (repository_word Director) word) (bytes_eq (repository_word Image) word)
  where
    by_test : (a b : Bool) → [] ≡ (if a then file_lines Director name (text_held no_rows Director name) else if b then file_lines Image name (text_held no_rows Image name) else [])
    by_test true b = sym (ap (file_lines Director name) (no_files Director name))
    by_test false true = sym (ap (file_lines Image name) (no_files Image name))
    by_test false false = refl

-- ---- all tables

typed_none : AreTyped no_rows
typed_none = record {
  founding = tt;
  keys = tt;
  director = tt;
  image = tt;
  images = λ file image found. absurd (let e = sym (get-empty (slice_cmp nat_cmp) file) ∙ found in cc);
  files = tt;
  campaigns = λ name campaign found. absurd (let e = sym (get-empty (slice_cmp nat_cmp) name) ∙ found in cc);
  vehicles = λ name vehicle found. absurd (let e = sym (get-empty (slice_cmp nat_cmp) name) ∙ found in cc);
  kept = λ name. tt;
  retired = λ name none. refl;
}

pub new_lists : (trees : Trees) → AreNew trees → ListsRows no_rows trees
new_lists trees new =
    let none : ListsTables no_table_rows trees = lists_none trees new in
    record {
      last = (refl, refl);
      typed = typed_none;
      tables = record {
        meta = none.meta;
        role_keys = none.role_keys;
        files = pairs_as _ (files_lines no_rows) (trees repo_file_table.tree) no_file_lines none.files;
        images = lists_as 1 _ _ (trees image_table.tree) (λ name. sym (ap image_lines (get-empty (slice_cmp nat_cmp) name))) none.images;
        campaigns = lists_as 1 _ _ (trees campaign_table.tree) (λ name. sym (ap campaign_lines (get-empty (slice_cmp nat_cmp) name))) none.campaigns;
        vehicles = lists_as 1 _ _ (trees vehicle_table.tree) (λ name. sym (ap vehicle_lines (get-empty (slice_cmp nat_cmp) name))) none.vehicles;
        ecus = lists_as 2 _ _ (trees ecu_table.tree) (λ name. sym (ap (ecus_lines name) (get-empty (slice_cmp nat_cmp) name))) none.ecus;
        kept = none.kept;
        retired = none.retired;
        sha512s = lists_as 1 _ _ (trees image_sha512_table.tree) (λ name. sym (ap (λ o. sha512_lines name (second_hash o)) (get-empty (slice_cmp nat_cmp) name))) none.sha512s;
        image_repository = none.image_repository;
        shut_out = none.shut_out;
      };
    }
