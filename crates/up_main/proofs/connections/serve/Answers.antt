use Rattle.up_main.proofs.connections.serve.Goals as goal

pub returns-in-Ok-clause-served : goal.returns-in-Ok-clause-served
returns-in-Ok-clause-served g c =
    let it = c.serve_at.ensures in
    record { done = it.0; steps = it.1; lasts = c.clients_outlast_crashes.ensures it.0 c.args.desk.now c.serve_at.new.desk it.1 }

pub returns-in-Err-clause-served : goal.returns-in-Err-clause-served
returns-in-Err-clause-served g c =
    let it = c.serve_at.ensures in
    record { done = it.0; steps = it.1; lasts = c.clients_outlast_crashes.ensures it.0 c.args.desk.now c.serve_at.new.desk it.1 }
