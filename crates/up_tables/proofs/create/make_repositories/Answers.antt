use Rattle.std.proofs.Common.{◌++◌}
use Rattle.up_tables.specs.Making.{alone}
use Rattle.up_tables.specs.Tables.{meta_table, role_key_table, repo_file_table, image_table, meta_text, role_key_text, repo_file_text, image_text, no_schema, with_meta, with_role_key, with_repo_file}
use Rattle.up_tables.proofs.MadeSteps.{makes_table, table_first, table_then}
use Rattle.up_tables.proofs.SchemaLemmas.{all_created, all_making}
use Rattle.up_tables.proofs.create.make_repositories.Goals as goal

pub returns-in_err-execute : goal.returns-in_err-execute
returns-in_err-execute g c =
    let G = g.S.Store in
    table_first G meta_text (alone role_key_text ++ (alone repo_file_text ++ alone image_text)) no_schema meta_table all_created.0 all_making.0 _ _ _ _ c.from_residual.result c.from_residual.ensures.1 c.in_err-execute.ensures.same_reference c.in_err-execute.ensures.survives c.in_err-execute.ensures.runs

pub returns-in_err-execute-2 : goal.returns-in_err-execute-2
returns-in_err-execute-2 g c =
    let G = g.S.Store in
    table_then G meta_text (alone role_key_text ++ (alone repo_file_text ++ alone image_text)) no_schema meta_table all_created.0 all_making.0 _ _ c.execute.new.self.conn _ _ _ c.in_ok-execute.ensures.same_reference c.in_ok-execute.ensures.survives c.in_ok-execute.ensures.runs
    (table_first G role_key_text (alone repo_file_text ++ alone image_text) with_meta role_key_table all_created.1 all_making.1 _ _ _ _ c.from_residual-in_err-execute-2.result c.from_residual-in_err-execute-2.ensures.1 c.in_err-execute-2.ensures.same_reference c.in_err-execute-2.ensures.survives c.in_err-execute-2.ensures.runs)

pub returns-in_err-execute-3 : goal.returns-in_err-execute-3
returns-in_err-execute-3 g c =
    let G = g.S.Store in
    table_then G meta_text (alone role_key_text ++ (alone repo_file_text ++ alone image_text)) no_schema meta_table all_created.0 all_making.0 _ _ c.execute.new.self.conn _ _ _ c.in_ok-execute.ensures.same_reference c.in_ok-execute.ensures.survives c.in_ok-execute.ensures.runs
    (table_then G role_key_text (alone repo_file_text ++ alone image_text) with_meta role_key_table all_created.1 all_making.1 _ _ c.execute-2.new.self.conn _ _ _ c.in_ok-execute-2.ensures.same_reference c.in_ok-execute-2.ensures.survives c.in_ok-execute-2.ensures.runs
    (table_first G repo_file_text (alone image_text) with_role_key repo_file_table all_created.2 all_making.2 _ _ _ _ c.from_residual-in_err-execute-3.result c.from_residual-in_err-execute-3.ensures.1 c.in_err-execute-3.ensures.same_reference c.in_err-execute-3.ensures.survives c.in_err-execute-3.ensures.runs))

pub returns : goal.returns
returns g c =
    let G = g.S.Store in
    table_then G meta_text (alone role_key_text ++ (alone repo_file_text ++ alone image_text)) no_schema meta_table all_created.0 all_making.0 _ _ c.execute.new.self.conn _ _ _ c.in_ok-execute.ensures.same_reference c.in_ok-execute.ensures.survives c.in_ok-execute.ensures.runs
    (table_then G role_key_text (alone repo_file_text ++ alone image_text) with_meta role_key_table all_created.1 all_making.1 _ _ c.execute-2.new.self.conn _ _ _ c.in_ok-execute-2.ensures.same_reference c.in_ok-execute-2.ensures.survives c.in_ok-execute-2.ensures.runs
    (table_then G repo_file_text (alone image_text) with_role_key repo_file_table all_created.2 all_making.2 _ _ c.execute-3.new.self.conn _ _ _ c.in_ok-execute-3.ensures.same_reference c.in_ok-execute-3.ensures.survives c.in_ok-execute-3.ensures.runs
    (makes_table G image_text _ _ c.execute-4.result c.execute-4.ensures.same_reference c.execute-4.ensures.survives c.execute-4.ensures.runs with_repo_file image_table all_created.3 all_making.3)))
