use Rattle.up_canon.proofs.CanonLaws.{read-text, read-canon, canon-injective}
use Rattle.up_canon.proofs.canonical_laws.Goals as goal

pub returns-clause-read : goal.returns-clause-read
returns-clause-read c = read-canon

pub returns-clause-injective : goal.returns-clause-injective
returns-clause-injective c = canon-injective

pub returns-clause-deeper : goal.returns-clause-deeper
returns-clause-deeper c = read-text
