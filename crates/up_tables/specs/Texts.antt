-- The texts of the statements that write and read rows.
use Rattle.std.specs.Prelude.{ℕ, List, codes}

-- ---- writes that the database may refuse, each of one row

abbrev pub insert_image_text : List ℕ
insert_image_text = codes "INSERT INTO image (file, length, sha256, hardware, release_count, needs, conflicts) VALUES (?1, ?2, ?3, ?4, ?5, ?6, ?7)"

abbrev pub insert_sha512_text : List ℕ
insert_sha512_text = codes "INSERT INTO image_sha512 (file, sha512) VALUES (?1, ?2)"

abbrev pub insert_campaign_text : List ℕ
insert_campaign_text = codes "INSERT INTO campaign (name, reach, items, running) VALUES (?1, ?2, ?3, ?4)"

abbrev pub close_campaign_text : List ℕ
close_campaign_text = codes "UPDATE campaign SET running = 0 WHERE name = ?1"

abbrev pub insert_vehicle_text : List ℕ
insert_vehicle_text = codes "INSERT INTO vehicle (vehicle, primary_ecu, version, last_counter) VALUES (?1, ?2, ?3, ?4)"

abbrev pub upsert_vehicle_text : List ℕ
upsert_vehicle_text = codes "INSERT INTO vehicle (vehicle, primary_ecu, version, last_counter) VALUES (?1, ?2, ?3, ?4) ON CONFLICT (vehicle) DO UPDATE SET version = excluded.version, last_counter = excluded.last_counter RETURNING vehicle, primary_ecu, version, last_counter"

abbrev pub insert_retired_text : List ℕ
insert_retired_text = codes "INSERT INTO retired (ecu, vehicle) VALUES (?1, ?2)"

abbrev pub insert_kept_text : List ℕ
insert_kept_text = codes "INSERT INTO kept (vehicle, counter, version, moment, root, signed, plan_text, reply) VALUES (?1, ?2, ?3, ?4, ?5, ?6, ?7, ?8)"

abbrev pub update_meta_text : List ℕ
update_meta_text = codes "UPDATE meta SET root = ?1, image_version = ?2, stamp = ?3 WHERE id = 1"

abbrev pub replace_ecu_text : List ℕ
replace_ecu_text = codes "UPDATE ecu SET ecu = ?1, hardware = ?2, public_key = ?3, file = NULL, length = NULL, sha256 = NULL, counter = 0, report = NULL WHERE ecu = ?4"

abbrev pub insert_ecu_text : List ℕ
insert_ecu_text = codes "INSERT INTO ecu (ecu, vehicle, place, hardware, public_key, file, length, sha256, counter, report) VALUES (?1, ?2, ?3, ?4, ?5, ?6, ?7, ?8, ?9, ?10)"

abbrev pub update_ecu_text : List ℕ
update_ecu_text = codes "UPDATE ecu SET file = ?6, length = ?7, sha256 = ?8, counter = ?9, report = ?10 WHERE ecu = ?1"

abbrev pub insert_role_key_text : List ℕ
insert_role_key_text = codes "INSERT INTO role_key (root, repository, role, place, secret, threshold) VALUES (?1, ?2, ?3, ?4, ?5, ?6)"

abbrev pub delete_role_keys_text : List ℕ
delete_role_keys_text = codes "DELETE FROM role_key"

abbrev pub upsert_file_text : List ℕ
upsert_file_text = codes "INSERT INTO repo_file (repository, name, body) VALUES (?1, ?2, ?3) ON CONFLICT (repository, name) DO UPDATE SET body = excluded.body"

-- ---- reads

abbrev pub find_founding_text : List ℕ
find_founding_text = codes "SELECT root, image_version, stamp FROM meta WHERE id = 1"

abbrev pub all_role_keys_text : List ℕ
all_role_keys_text = codes "SELECT root, repository, role, place, secret, threshold FROM role_key ORDER BY rowid"

abbrev pub find_file_text : List ℕ
find_file_text = codes "SELECT repository, name, body FROM repo_file WHERE repository = ?1 AND name = ?2"

abbrev pub find_image_text : List ℕ
find_image_text = codes "SELECT file, length, sha256, hardware, release_count, needs, conflicts FROM image WHERE file = ?1"

abbrev pub all_images_text : List ℕ
all_images_text = codes "SELECT file, length, sha256, hardware, release_count, needs, conflicts FROM image ORDER BY rowid"

abbrev pub find_sha512_text : List ℕ
find_sha512_text = codes "SELECT file, sha512 FROM image_sha512 WHERE file = ?1"

abbrev pub all_sha512s_text : List ℕ
all_sha512s_text = codes "SELECT file, sha512 FROM image_sha512 ORDER BY rowid"

abbrev pub find_campaign_text : List ℕ
find_campaign_text = codes "SELECT name, reach, items, running FROM campaign WHERE name = ?1"

abbrev pub running_campaigns_text : List ℕ
running_campaigns_text = codes "SELECT name, reach, items, running FROM campaign WHERE running = 1 ORDER BY rowid"

abbrev pub find_vehicle_text : List ℕ
find_vehicle_text = codes "SELECT vehicle, primary_ecu, version, last_counter FROM vehicle WHERE vehicle = ?1"

abbrev pub list_ecus_text : List ℕ
list_ecus_text = codes "SELECT ecu, hardware, public_key, file, length, sha256, counter, report FROM ecu WHERE vehicle = ?1 ORDER BY place"

abbrev pub find_owner_text : List ℕ
find_owner_text = codes "SELECT vehicle FROM ecu WHERE ecu = ?1"

abbrev pub find_retired_text : List ℕ
find_retired_text = codes "SELECT vehicle FROM retired WHERE ecu = ?1"

abbrev pub find_kept_text : List ℕ
find_kept_text = codes "SELECT vehicle, counter, version, moment, root, signed, plan_text, reply FROM kept WHERE vehicle = ?1 AND counter = ?2"

-- ---- the image repository's numbers, and vehicles that were shut out

abbrev pub update_image_repository_text : List ℕ
update_image_repository_text = codes "UPDATE image_repository SET root = ?1, targets = ?2 WHERE id = 1"

abbrev pub find_image_repository_text : List ℕ
find_image_repository_text = codes "SELECT root, targets FROM image_repository WHERE id = 1"

abbrev pub insert_retired_vehicle_text : List ℕ
insert_retired_vehicle_text = codes "INSERT INTO retired_vehicle (vehicle) VALUES (?1)"

abbrev pub find_retired_vehicle_text : List ℕ
find_retired_vehicle_text = codes "SELECT vehicle FROM retired_vehicle WHERE vehicle = ?1"
