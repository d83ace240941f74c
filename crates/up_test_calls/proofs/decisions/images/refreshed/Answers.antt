use Rattle.up_test_calls.proofs.decisions.images.refreshed.Goals as goal

pub register_rows-requires : goal.register_rows-requires
register_rows-requires g c = c.in_ok-new.ensures.fits (g.K.Scheme.rules c.args.scheme.now) c.in_ok-check_founding.ensures
