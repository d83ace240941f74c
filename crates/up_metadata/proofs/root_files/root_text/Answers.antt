use Rattle.std.proofs.Common.{sym, ap, ap₂, ◌∙◌, subst}
use Rattle.std.specs.Prelude.{IsTrue, option_copied}
use Rattle.up_roles.specs.Payload.{IsCanonical}
use Rattle.up_roles.specs.Root.{root_payload, root_text_of, root_fits, root_is_typed}
use Rattle.up_roles.specs.Writing.{CanSeal}
use Rattle.up_metadata.proofs.RoleFiles.{roles_fit}
use Rattle.up_metadata.proofs.RootFiles.{old_are_few, signers_seal, root_file_is_fit, root_text_is}
use Rattle.up_metadata.specs.Files.{keys_of, root_secrets}
use Rattle.up_metadata.proofs.root_files.root_text.Goals as goal

pub root_text_by-requires-clause-signers : goal.root_text_by-requires-clause-signers
root_text_by-requires-clause-signers g c =
    let k = g.K.Scheme.rules c.args.scheme.now in
    let keys = keys_of c.args.repository c.args.keys.now in
    let signers = c.as_slice-secrets.ensures.value ∙ c.in_ok-signers.ensures.secrets in
    subst (CanSeal k) (sym signers)
    (signers_seal k keys.root (root_secrets c.args.repository (option_copied c.args.before)) (roles_fit k keys c.requires.root.keys).0 (old_are_few k c.args.repository c.args.before c.requires.before))

pub root_text_by-requires-clause-limits : goal.root_text_by-requires-clause-limits
root_text_by-requires-clause-limits g c =
    subst (λ file. IsTrue (root_fits file)) (sym c.in_ok-file.ensures)
    (root_file_is_fit (g.K.Scheme.rules c.args.scheme.now) (g.met.K.Scheme.lawful c.args.scheme.now) c.envelope_laws.ensures.limits
    c.args.repository c.args.number (record { keys = c.args.keys.now; at = c.args.at }) c.requires.root.number c.requires.root.keys)

pub returns : goal.returns
returns g c =
    let k = g.K.Scheme.rules c.args.scheme.now in
    record {
      value = c.new.ensures ∙ c.in_ok-root_text_by.ensures.value
          ∙ ap₂ (root_text_of k) (c.as_slice-secrets.ensures.value ∙ c.in_ok-signers.ensures.secrets) c.in_ok-file.ensures
          ∙ root_text_is k c.args.repository c.args.number (record { keys = c.args.keys.now; at = c.args.at }) (option_copied c.args.before);
      canonical = subst (λ file. IsCanonical (root_payload file)) c.in_ok-file.ensures c.in_ok-root_text_by.ensures.canonical;
      typed = sym (ap root_is_typed c.in_ok-file.ensures) ∙ c.in_ok-root_text_by.ensures.typed;
    }
