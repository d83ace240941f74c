-- The names that the proofs of this crate cite most, passed on from one place. Declares nothing.
pub use Rattle.serde_json.specs.Data.{Data}
pub use Rattle.sqlite.specs.Effect.{Database}
pub use Rattle.sqlite.specs.Held.{Held, state}
pub use Rattle.sqlite.specs.Order.{column, Row, value_cmp}
pub use Rattle.sqlite.specs.State.{Fails, HasCause, HasCleanDisk, IsRolledBack, KeepsCounts, Shows, State, State as Connected, store_error, Survives}
pub use Rattle.sqlite.specs.Table.{Table as SqlTable}
pub use Rattle.sqlite.specs.Tree.{IsTable, rowid, Trees}
pub use Rattle.sqlite.specs.declared.types.Value.TheVariants.{Blob, Int, Null, Real, Text}
pub use Rattle.sqlite_trees.specs.declared.store.Store.{Ghosts}
pub use Rattle.sqlite_value.proofs.OrderLemmas.{value_cmp-Int, value_cmp-Text}
pub use Rattle.std.specs.Borrow.{MutBor}
pub use Rattle.std.specs.Cmp.Lexicographic.{bytes_decides, slice_cmp}
pub use Rattle.std.specs.List.{AllByRecursion, enumerate_from, list_all, list_any}
pub use Rattle.std.specs.Option.{option_or, option_to_list}
pub use Rattle.std.specs.Ordering.{eq_by_cmp, is_eq, is_lt, nat_cmp}
pub use Rattle.std.specs.Prelude.{bytes_eq, codes, decimal, find, IfErr, IfOk, IfSome, if◌then◌else◌, is_some, IsErrAnd, IsSomeAnd, IsTrue, IsUtf8, length, MatchBool, nat_le, not, OnOk, option_and_then, option_map, Result, slice_get, String, T, unwrap_or, ⊤, ◌&&◌, ◌==◌, ◌||◌}
pub use Rattle.std.specs.Result.{IsOk}
pub use Rattle.up_canon.specs.Canon.{CanonIsRead, has_canon, is_plain, is_printable, is_printable_text, more_items_text, text}
pub use Rattle.up_canon.specs.Names.{is_file_name, is_ident, Name, Table}
pub use Rattle.up_canon.specs.Steps.{if_passes}
pub use Rattle.up_columns.specs.CampaignColumns.{campaign_items_in, items_column, items_data, reach_column, reach_data, reach_in}
pub use Rattle.up_columns.specs.Typed.{is_typed_item, is_typed_need, is_typed_plan, is_typed_reach}
pub use Rattle.up_machine.proofs.Tables.{get_after-insert, get_new, get_same, one_name}
pub use Rattle.up_machine.specs.Files.{File, numbered_root_name, numbered_roots, texts_in}
pub use Rattle.up_machine.specs.declared.decision.AcceptedRows.{AcceptedRows}
pub use Rattle.up_machine.specs.declared.decision.RegisterRows.{RegisterRows}
pub use Rattle.up_machine.specs.declared.rows.EcuRow.{EcuRow}
pub use Rattle.up_machine.specs.declared.rows.Founding.{Founding}
pub use Rattle.up_machine.specs.declared.rows.Kept.{Kept}
pub use Rattle.up_machine.specs.declared.rows.VehicleRow.{VehicleRow}
pub use Rattle.up_machine.specs.declared.rows.VehicleRows.{VehicleRows}
pub use Rattle.up_machine.specs.declared.vehicle.NewEcu.{NewEcu}
pub use Rattle.up_metadata.proofs.Lists.{each_weaker}
pub use Rattle.up_metadata.specs.declared.keys.KeySet.{KeySet}
pub use Rattle.up_metadata.specs.declared.keys.RepoKeys.{RepoKeys}
pub use Rattle.up_plan.specs.Campaigns.{campaign_fits, CampaignData}
pub use Rattle.up_plan.specs.Images.{image_fits, ImageData}
pub use Rattle.up_plan.specs.declared.campaign.Item.{Item}
pub use Rattle.up_plan.specs.declared.campaign.Reach.{Reach}
pub use Rattle.up_plan.specs.declared.image.Need.{Need}
pub use Rattle.up_roles.specs.declared.repository.Repository.{Repository}
pub use Rattle.up_roles.specs.declared.repository.Repository.TheVariants.{Director, Image}
pub use Rattle.up_rows.proofs.Files.{or_none}
pub use Rattle.up_rows.specs.Changes.{in_place_of_row, replaced_rows, with_accepted_rows, with_campaign_row, with_image_rows, with_register_rows, with_replaced_rows, with_root_rows, with_vehicle_rows}
pub use Rattle.up_rows.specs.Lookups.{kept_with, last_owner, latest_kept, other_text, owner_among, owner_found, root_named, root_texts, stands_among, text_among, text_held, text_named}
pub use Rattle.up_rows.specs.SecondHashes.{TellsItsHash}
pub use Rattle.up_rows.specs.StateRows.{chain_of_rows, ecu_of, entry_of, no_rows, rows_of_state, StateRows, vehicle_of_rows}
pub use Rattle.up_sign.specs.Schemes.{Rules}
pub use Rattle.up_store.specs.ColumnRows.{AreHashesOf, AreImages, AreRunning, AreSha512s, column_fault, IsCampaign, IsImage, with_image}
pub use Rattle.up_store.proofs.Parts.{last_found, with_kept, with_founding, with_keys, with_image_line}
pub use Rattle.up_store.specs.Connections.{BlamesWithin, Commits, KeepsAs, KeepsRows, MadeIn, PutsRows, RaisedRows}
pub use Rattle.up_store.specs.Fitting.{IsClosing, IsNewCampaign, IsNewImage, IsNewVehicle, IsNextRoot, IsRecorded, IsReplacement, IsSameRoot}
pub use Rattle.up_store.specs.Found.{ecus_found, values_where, vehicle_found}
pub use Rattle.up_store.specs.Lines.{campaign_lines, campaign_shown_line, ecu_line, ecu_lines, ecu_shown, ecus_lines, file_line, file_lines, file_row, founding_lines, founding_number, hash_line, image_line, image_lines, image_shown_line, kept_line, key_row, line_of_campaign, repository_lines, repository_word, retired_lines, role_file_lines, role_lines, root_file_lines, row_of_vehicle, second_hash, set_lines, sha512_lines, vehicle_lines}
pub use Rattle.up_store.specs.Listing.{files_lines, IsOfLastRoot, ListsRows, table_rows}
pub use Rattle.up_store.specs.Puts.{FitNumbers, HasFilesOnce, IsReported, MayAccept, MayReport, with_files, with_key_lines, with_numbers, with_reported, with_sha512_line}
pub use Rattle.up_store.specs.ReadAs.{InTurn, IsRead, IsReadImage, IsTextOrNull, PutsCampaign, PutsImage, PutsSha512, ReadsFounding, ReadsKeyed, ReadsSha512, RunOf, SaysCampaign, SaysEcu, SaysFile, SaysHash, SaysImage, SaysInstalled, SaysKept, SaysKey, SaysNumbers, SaysOwn, SaysVehicle}
pub use Rattle.up_store.specs.Shown.{AreKeysOf, campaign_made, file_read, image_made, is_key_of, IsFoundingOf, IsRoleOf, meta_told, numbers_told, own_told, reported_sha512, secrets_of, threshold_of, vehicle_read}
pub use Rattle.up_store.specs.Typed.{AreTyped, AreTypedTexts, EachHasKeys, HasKeys, HaveKeys, IsToldEcu, IsTypedCampaign, IsTypedCampaignRow, IsTypedEcu, IsTypedFile, IsTypedFounding, IsTypedHash, IsTypedImage, IsTypedImageRow, IsTypedInstalled, IsTypedKept, IsTypedKey, IsTypedVehicle, IsTypedVehicleRow}
pub use Rattle.up_store.specs.Writes.{accept_writes, each_with, file_writes, FitsFounding, FitsVehicle, founding_writes, image_row_writes, key_writes, register_writes, reported_writes, root_writes, vehicle_writes}
pub use Rattle.up_store.specs.declared.campaign_rows.CampaignShown.{CampaignShown}
pub use Rattle.up_store.specs.declared.files.ServedFile.{ServedFile}
pub use Rattle.up_store.specs.declared.image_rows.ImageShown.{ImageShown}
pub use Rattle.up_store.specs.declared.numbers.Numbers.{Numbers}
pub use Rattle.up_tables.proofs.ColumnLemmas.{handed_on, on_ok}
pub use Rattle.up_tables.proofs.EachLemmas.{each_ends, each_fails, each_next, each_starts, KeepsWriting, statement_at}
pub use Rattle.up_tables.proofs.EcuRows.{column_after, differs, same_text, text_is}
pub use Rattle.up_tables.proofs.ListedLemmas.{goes_on, lists_campaigns, lists_ecus, lists_files, lists_image_repository, lists_images, lists_kept, lists_meta, lists_none, lists_retired, lists_role_keys, lists_sha512s, lists_vehicles}
pub use Rattle.up_tables.proofs.SaysLemmas.{each_said, lines_said, same_values, says_passing, values_there}
pub use Rattle.up_tables.proofs.StateLemmas.{ok_then}
pub use Rattle.up_tables.proofs.TriedLemmas.{blames_first, blames_only, blames_so, blames_then, ran_then, Went}
pub use Rattle.up_tables.specs.Ecus.{line, owns}
pub use Rattle.up_tables.specs.Forms.{campaign_places, campaign_row, file_places, file_row as shown_row, FitImageRepository, FitMeta, FitRoleKey, image_places, image_repository_values, image_row, kept_places, kept_row, keys_shown, meta_values, role_key_places, role_key_row, running_shown, set_files, sha512_places, vehicle_places, vehicle_row}
pub use Rattle.up_tables.specs.Found.{ecu_places, HoldsOfImageRepository, HoldsOfMeta, image_repository_shown, meta_shown, ReadsByPlace}
pub use Rattle.up_tables.specs.Kinds.{HasOwner, IsWords}
pub use Rattle.up_tables.specs.Lines.{AreDistinct, AreNew, AreRecorded, AreSameEcus, campaign_line, ecu_row, EcuLine, image_repository_row, meta_row, retired_line, set_ecus, sha512_line, swapped, vehicle_line, yes_or_no}
pub use Rattle.up_tables.proofs.Parts.{AreInPlace, no_table_rows}
pub use Rattle.up_tables.specs.Listed.{ListsTables, TableRows}
pub use Rattle.up_tables.specs.Ours.{HasFailed, ListsUs, Raised}
pub use Rattle.up_tables.specs.Rows.{bare, changed_at, columns_at, has_number, has_text, with_only, with_only_at, with_row}
pub use Rattle.up_tables.specs.Stands.{Alters, AnyRows, AreWith, GoesOn, HasNoTables, HasTables, IfClean, IsAsCommitted, IsInside, IsOpen, IsWith, IsWithin, Lists, ListsAll, ListsPairs, Reads, Stands, Steps}
pub use Rattle.up_tables.specs.Statements.{AltersRows, BlamesDisk, HasVehicle, HoldsBy, HoldsOfAll, HoldsOfFiles, IsOpenStep, SetsEcu, WhereInside}
pub use Rattle.up_tables.specs.Stored.{AllWritten, AreLines, EachSays, IsLine, IsTold, IsWritten, Tells, Written}
pub use Rattle.up_tables.specs.Tables.{campaign_table, ecu_table, image_repository_table, image_sha512_table, image_table, kept_table, meta_table, repo_file_table, retired_table, role_key_table, up_schema, vehicle_table}
pub use Rattle.up_tables.specs.Texts.{insert_campaign_text, insert_ecu_text, insert_image_text, insert_kept_text, insert_retired_text, insert_role_key_text, insert_sha512_text, insert_vehicle_text, replace_ecu_text, update_ecu_text, upsert_file_text, upsert_vehicle_text}
pub use Rattle.up_tables.specs.Tried.{BlamesOne, Makes, Ran}
pub use Rattle.up_tables.specs.declared.image_repository.ImageRepositoryRow.{ImageRepositoryRow}
pub use Rattle.up_tables.specs.declared.meta.MetaRow.{MetaRow}
pub use Rattle.up_tables.specs.declared.values.StoreFault.{StoreFault}
pub use Rattle.up_tables.specs.declared.values.StoreFault.TheVariants.{Memory, Store}
pub use Rattle.up_tables.specs.declared.vehicle.VehicleRow.{VehicleRow as VehicleShown}
