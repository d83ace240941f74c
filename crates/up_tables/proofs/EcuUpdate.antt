-- The update of an ECU's row: what its text means.
use Rattle.std.proofs.Common.{◌≡◌, ℕ, List, [], ◌∷◌, refl}
use Rattle.sqlite.specs.declared.types.Value.{Value}
use Rattle.sqlite.specs.declared.types.Value.TheVariants.{Null}
use Rattle.sqlite.specs.Term.{Term, lit, col, op2}
use Rattle.sqlite.specs.Cast.{cast, cast_row}
use Rattle.sqlite.specs.Kind.TheVariants.{Integer}
use Rattle.sqlite.specs.Listing.{understood}
use Rattle.sqlite.proofs.Callers.{IsPlain, command_of}
use Rattle.sqlite_tied.specs.Compute.{everything}
use Rattle.sqlite_schema.specs.declared.program.Program.{Program}
use Rattle.sqlite_sql.specs.declared.ops.BinaryOp.TheVariants.{Compare}
use Rattle.sqlite_sql.specs.declared.ops.CompareOp.TheVariants.{Eq}
use Rattle.sqlite_value.specs.declared.keys.Collation.TheVariants.{Binary}
use Rattle.up_tables.specs.Tables.{up_schema, ecu_table}
use Rattle.up_tables.specs.Texts.{update_ecu_text}
use Rattle.up_tables.specs.Lines.{EcuLine, ecu_row}
use Rattle.up_tables.proofs.Parts.{IsKept}
use Rattle.up_tables.proofs.AnswerLemmas.{over}
use Rattle.up_tables.proofs.Casts.{cast_int}
use Rattle.up_tables.proofs.RefusalLemmas.{Writes}
use Rattle.sqlite.specs.Command.TheVariants.{Update}

abbrev pub equals : ℕ → ℕ → Term
equals place param = op2 (Compare Eq Binary) (col 1 place) (col 0 param)

abbrev pub terms : List Term
terms = lit Null ∷ col 0 0 ∷ col 0 1 ∷ col 0 2 ∷ col 0 3 ∷ col 0 4 ∷ col 0 5 ∷ col 0 6 ∷ col 0 7 ∷ col 0 8 ∷ col 0 9 ∷ []

abbrev pub shown : List Term
shown = col 1 0 ∷ col 1 0 ∷ col 1 1 ∷ col 1 2 ∷ col 1 3 ∷ col 1 4 ∷ col 1 5 ∷ col 0 5 ∷ col 0 6 ∷ col 0 7 ∷ col 0 8 ∷ col 0 9 ∷ []

abbrev pub program : Program
program = record { lets = []; body = over 11 (equals 1 0 ∷ []) shown [] }

pub update_is : (command_of (understood up_schema update_ecu_text) ≡ Update 6 program) × IsPlain (understood up_schema update_ecu_text)
unfolding understood everything
update_is = (refl, (refl, refl))

pub update_ecu_writes : (e : EcuLine) → Writes update_ecu_text (ecu_row e) (Update 6 program)
unfolding understood everything
update_ecu_writes e = record { row = refl; is = update_is.0; plain = update_is.1; writes = refl; whole = refl; count = refl }

pub casts : (id : Value) (e : EcuLine) → IsKept e → cast Integer id ≡ id → cast_row ecu_table (id ∷ ecu_row e) ≡ id ∷ ecu_row e
casts id e kept is = rw (is, cast_int e.place, kept.file, kept.size, kept.hash, cast_int e.counter, kept.report) refl
