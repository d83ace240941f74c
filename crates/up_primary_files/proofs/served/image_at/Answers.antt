use Rattle.up_primary_files.proofs.served.image_at.Goals as goal

pub returns : goal.returns
returns c = record { targets = c.in_ok-targets.ensures; snapshot = c.in_ok-snapshot.ensures; timestamp = c.in_ok-timestamp.ensures }
